-- Change by change: of the cells that some change reaches, those that the changes left reach are still old.
use Rattle.amend_sets.proofs.Changes.{renewed_one, renewed_all, next_entry}
use Rattle.amend_reach.proofs.Merging.{none_copied}
use native.Mathlib.Omega.{arith}
use mathlib.Core.Path.{sym, ◌∙◌}
use Rattle.amend_sets.proofs.renew_changed.Goals as goal

pub loop-n-init : goal.loop-n-init
loop-n-init c =
    record { known = c.requires.2; copying = none_copied (c.requires.1 ∙ sym c.requires.0) }

pub overflow_cast-changes : goal.overflow_cast-changes
overflow_cast-changes c =
    let l = c.loop-n in
    omega (arith, (next_entry c.args.changes.now l.n c.loop-n-test.true l.invariant.known).0)

pub renew-requires : goal.renew-requires
renew-requires c =
    let l = c.loop-n in
    let next = next_entry c.args.changes.now l.n c.loop-n-test.true l.invariant.known in
    (l.invariant.copying.long ∙ c.requires.0, c.requires.1, next.0)

pub loop-n-preserved : goal.loop-n-preserved
loop-n-preserved c =
    rw c.renew.ensures (renewed_one _ _ c.loop-n-test.true c.loop-n.invariant)

pub shape_of-sheet : goal.shape_of-sheet
shape_of-sheet c = c.loop-n.invariant.copying.long

pub returns : goal.returns
returns c = renewed_all _ _ c.loop-n-test.false c.loop-n.invariant
