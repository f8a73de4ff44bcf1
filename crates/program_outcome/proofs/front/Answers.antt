use mathlib.Core.Path.{refl, sym}
use lib.ListN.{length-take}
use lib.Seq.{length-take-le, take_all}
use native.Mathlib.Omega.{arith}
use Rattle.program_outcome.proofs.front.Goals as goal

pub slice_bounds-result-end : goal.slice_bounds-result-end
slice_bounds-result-end c = sym (length-take-le _ _ (omega arith))

pub returns-then-size-bytes : goal.returns-then-size-bytes
returns-then-size-bytes c = (refl, rw length-take (omega arith))

pub returns : goal.returns
returns c = (sym (take_all c.args.size c.args.bytes.now (omega arith)), omega arith)
