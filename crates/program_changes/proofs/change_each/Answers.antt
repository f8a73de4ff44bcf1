-- The loop's invariant: the changes passed came to what the definition says of them, and each said at most a sentence.
use mathlib.Core.Path.{◌≡◌, refl}
use native.Mathlib.Omega.{arith}
use Rattle.text.proofs.Laws.{placed_nothing}
use Rattle.program_changes.specs.Changes.{changes_to}
use Rattle.program_changes.proofs.Laws.{came_more}
use Rattle.program_changes.proofs.change_each.Goals as goal

pub loop-n-init : goal.loop-n-init
unfolding changes_to
loop-n-init c = (omega arith, c.requires.1, record { entries = refl; made = refl; says = placed_nothing _ 0 })

pub step-so-requires : goal.step-so-requires
step-so-requires c =
    let loop = c.loop-n in
    (omega (arith, loop.invariant.0, loop.invariant.1), omega arith)

pub loop-n-preserved : goal.loop-n-preserved
loop-n-preserved c =
    let loop = c.loop-n in
    let came = c.step-so.ensures in (
      omega (arith, loop.invariant.0, came.few),
      omega (arith, loop.invariant.1),
      came_more _ _ c.args.words.now c.args.entries.now loop.n loop.invariant.2 came
          (omega (arith, loop.invariant.0, c.requires.1, came.few)),
    )

pub returns : goal.returns
returns c =
    let end : c.loop-n.n ≡ c.args.changes = omega arith in
    rw end at c.loop-n.invariant.2
