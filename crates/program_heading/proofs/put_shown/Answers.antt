-- `program_heading::put_shown`. A byte more is shown, or all are.
use Rattle.program_heading.specs.Headings.{shown}
use Rattle.lists.specs.Lists.{table}
use Rattle.lists.proofs.Laws.{length-table, table_more}
use Rattle.text.proofs.Laws.{placed_nothing, placed_next}
use lib.ListN.{length}
use native.Mathlib.Omega.{arith}
use mathlib.Core.Path.{◌≡◌, refl}
use Rattle.program_heading.proofs.put_shown.Invariants.{byte_of}
use Rattle.program_heading.proofs.put_shown.Goals as goal

pub loop-i-init : goal.loop-i-init
unfolding table
loop-i-init c =
    let args = c.args in
    (refl, record { is = (placed_nothing args.out.now args.at).is; next = omega arith })

pub loop-i-preserved : goal.loop-i-preserved
loop-i-preserved c =
    let name = c.args.name.now in
    let i = c.loop-i.i in
    let byte = rw c.shown_byte.ensures at c.put_byte.ensures in
    let few = length-table (byte_of name) i in
    let all = placed_next c.loop-i.invariant.1 byte (omega (arith, few)) in (
      omega (arith, c.put_byte.auto.out, c.loop-i.invariant.0),
      rw (table_more (byte_of name) i) (record { is = all.is; next = omega (arith, all.next, byte.next) }),
    )

pub returns : goal.returns
unfolding shown
returns c =
    let name = c.args.name.now in
    let whole : length name ≡ c.loop-i.i = omega arith in
    (rw whole c.loop-i.invariant.1, refl)
