-- A case for each way that looking for the site can come out; where it is there, what the changes came to is given.
use Rattle.program_amend.proofs.Laws.{few_changes, site_there, left_given}
use Rattle.program_outcome.proofs.Laws.{left_saying}
use Rattle.text.proofs.Laws.{placed_nothing}
use Rattle.program_changes.proofs.Laws.{made_acceptable}
use Rattle.program_amend.specs.Run.{amend_file}
use mathlib.Core.Path.{sym, ◌∙◌}
use Rattle.program_amend.proofs.amend_file.Goals as goal

pub change_all-done-requires : goal.change_all-done-requires
change_all-done-requires c =
    rw c.changes_in-changes.ensures (few_changes c.args.call.arguments c.requires.0)

pub give-requires : goal.give-requires
give-requires c =
    let came = c.change_all-done.ensures in (
      site_there _ _ (sym c.read_site-sought.ensures.value ∙ c.in-Ok.is),
      λ is. c.requires.1 (sym c.is_kept.ensures ∙ is),
      λ made. rw came.entries (made_acceptable _ _ _ _ _ (sym came.made ∙ made)),
    )

pub returns : goal.returns
returns c =
    let is = sym c.read_site-sought.ensures.value ∙ c.in-Ok.is in
    let came = rw (c.read_site-sought.ensures.entries_after, is, c.changes_in-changes.ensures) at c.change_all-done.ensures in
    let given = rw (c.read_site-sought.ensures.entries_after, is, c.is_kept.ensures) at c.give.ensures in
    let both = left_given _ _ c.args.words.now c.args.file.now (rw c.word-word.ensures at is) came
    given.placed given.placed_2 given.says_value in record {
      left = both.0;
      placed = both.1;
    }

pub returns-in_default : goal.returns-in_default
unfolding amend_file
returns-in_default c =
    let is = sym c.read_site-sought.ensures.value ∙ c.in_default.is in
    rw (rw c.word-word.ensures at is, c.said.ensures) record {
      left = left_saying (rw (c.in_default.is, c.word-name.ensures, c.word-word.ensures) at c.say_site.ensures);
      placed = placed_nothing _ 0;
    }
