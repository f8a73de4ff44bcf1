-- Change by change: those left, made of the entries as they stand, make the same.
use Rattle.amend_sets.proofs.Changes.{made_one, made_all, next_entry}
use native.Mathlib.Omega.{arith}
use mathlib.Core.Path.{refl, sym, ◌∙◌}
use Rattle.amend_sets.proofs.change.Goals as goal

pub loop-n-init : goal.loop-n-init
loop-n-init c = record { long = c.requires.0; known = c.requires.1; is = refl }

pub overflow_cast-entry : goal.overflow_cast-entry
overflow_cast-entry c =
    let l = c.loop-n in
    omega (arith, (next_entry c.args.changes.now l.n c.loop-n-test.true l.invariant.known).0)

pub offset_bounds-entries-entry : goal.offset_bounds-entries-entry
offset_bounds-entries-entry c =
    let l = c.loop-n in
    omega (arith, (next_entry c.args.changes.now l.n c.loop-n-test.true l.invariant.known).0)

pub bounds-entries-entry : goal.bounds-entries-entry
bounds-entries-entry c =
    let l = c.loop-n in
    let next = next_entry c.args.changes.now l.n c.loop-n-test.true l.invariant.known in
    omega (arith, next.0, l.invariant.long)

pub loop-n-preserved : goal.loop-n-preserved
loop-n-preserved c = made_one _ _ c.loop-n-test.true c.loop-n.invariant

pub shape_of-entries : goal.shape_of-entries
shape_of-entries c = c.loop-n.invariant.long ∙ sym c.requires.0

pub returns : goal.returns
returns c = made_all _ _ c.loop-n-test.false c.loop-n.invariant
