-- The approaches' numbers are put one after the other, each where the one before it ends.
use Rattle.layout.specs.Entries.{EB, WB, NB, SB}
use Rattle.layout.specs.Sheet.{sheet_count, beside_numbers}
use Rattle.lists.proofs.Laws.{over_then}
use Rattle.sheet_beside.specs.Beside.{beside_at, beside_of}
use Rattle.sheet_beside.proofs.Laws.{beside_length}
use lib.Dec.{lit<}
use lib.ListN.{length-append}
use mathlib.Core.List.{◌++◌}
use mathlib.Core.Path.{◌≡◌}
use Prim.Native.Nat.{◌+◌, ◌*◌}
use native.Mathlib.Omega.{arith}
use Rattle.sheet_beside.proofs.put_each.Goals as goal

pub put_beside-requires-2 : goal.put_beside-requires-2
put_beside-requires-2 c =
    record {
      entries_value = (c.requires.0, c.requires.1, omega (arith, c.all-1.given, c.requires.2));
      a_lt_approach_count = (lit< tt, lit< tt, lit< tt);
    }

pub put_beside-requires-3 : goal.put_beside-requires-3
put_beside-requires-3 c =
    record {
      entries_value = (c.requires.0, c.requires.1, omega (arith, c.all-2-1.given, c.all-1.given, c.requires.2));
      a_lt_approach_count = (lit< tt, lit< tt, lit< tt);
    }

pub put_beside-requires-4 : goal.put_beside-requires-4
put_beside-requires-4 c =
    record {
      entries_value = (c.requires.0, c.requires.1, omega (arith, c.all-3-1.given, c.all-2-1.given, c.all-1.given, c.requires.2));
      a_lt_approach_count = (lit< tt, lit< tt, lit< tt);
    }

pub returns : goal.returns
unfolding beside_of
returns c =
    let k = c.args.kind in
    let d = c.args.all.now in
    let e = c.args.entries.now in
    let cells = c.args.cells.now in
    let eb = beside_at k e cells EB WB SB in
    let wb = beside_at k e cells WB EB NB in
    let nb = beside_at k e cells NB SB EB in
    let sb = beside_at k e cells SB NB WB in
    let room = c.requires.2 in
    let ebs = beside_length k e cells EB WB SB in
    let wbs = beside_length k e cells WB EB NB in
    let nbs = beside_length k e cells NB SB EB in
    let sbs = beside_length k e cells SB NB WB in
    let from : sheet_count k + beside_numbers k * EB ≡ sheet_count k = omega arith in
    let two = over_then d (sheet_count k) eb wb (rw from at c.put_beside.ensures) c.put_beside-2.ensures (omega arith) (omega arith) in
    let three = over_then d (sheet_count k) (eb ++ wb) nb two c.put_beside-3.ensures (omega (arith, length-append eb wb)) (omega arith) in
    over_then d (sheet_count k) (eb ++ wb ++ nb) sb three c.put_beside-4.ensures
    (omega (arith, length-append (eb ++ wb) nb, length-append eb wb)) (omega arith)
