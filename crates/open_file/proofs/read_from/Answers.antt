-- `open_file::read_from`. The part that is lent is the rest of the file.
use Prim.Native.Nat.{◌-◌, ◌≤◌}
use lib.ListN.{length, drop, length-drop}
use lib.Seq.{take_all}
use native.Mathlib.Omega.{arith}
use Rattle.open_file.proofs.read_from.Goals as goal

pub returns : goal.returns
returns c =
    let args = c.args in
    let rest = drop args.at args.file.now in
    let all : length rest ≤ length args.file.now - args.at = simp length-drop (omega arith) in
    rw (take_all _ rest all) at c.read_all.ensures
