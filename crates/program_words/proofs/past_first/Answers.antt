use Prim.Native.Nat.{◌-◌}
use mathlib.Core.Path.{◌∙◌}
use lib.ListN.{length, drop, length-drop}
use lib.Seq.{take_all}
use native.Mathlib.Omega.{arith}
use Rattle.program_words.proofs.past_first.Goals as goal

pub returns : goal.returns
returns c =
    let from = c.next_after-from.result in
    let words = c.args.words.now in
    take_all (length words - from) (drop from words) (rw length-drop (omega arith)) ∙ c.next_after-from.ensures.0
