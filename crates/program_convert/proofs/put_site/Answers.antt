-- The site's entries, which are as many as a junction has, past those of the sites before it.
use native.Mathlib.Omega.{arith}
use mathlib.Core.Path.{refl, ◌∙◌}
use Rattle.study.proofs.Laws.{entries_given}
use Rattle.program_convert.proofs.put_site.Goals as goal

pub put-requires : goal.put-requires
put-requires c =
    omega (arith, c.site_entries.auto, c.requires.1, c.requires.2)

pub returns : goal.returns
returns c =
    let is = c.site_entries.ensures.entries_after ∙ entries_given c.args.file.now c.args.site _ _ _ c.requires.0 refl in
    rw is at c.put.ensures
