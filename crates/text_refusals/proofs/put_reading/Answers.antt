-- `text_refusals::put_reading`. Nothing, or the place and what is wrong there.
use Rattle.text.proofs.Laws.{placed_nothing, placed_after}
use native.Mathlib.Omega.{arith}
use Rattle.text_refusals.proofs.put_reading.Goals as goal

pub returns-in_default : goal.returns-in_default
returns-in_default c = rw c.in_default.is (placed_nothing _ _)

pub returns-in-Misread : goal.returns-in-Misread
returns-in-Misread c =
    let sentence = rw c.word_at-word.ensures at c.put_trouble.ensures.0 in
    rw (c.in-Err.is, c.in-Misread.is) (placed_after c.put_place-at.ensures.0 sentence (omega arith))

pub returns-in-Refused : goal.returns-in-Refused
returns-in-Refused c =
    rw (c.in-Err.is, c.in-Refused.is) (placed_after c.put_place-at-in-Refused.ensures.0 c.put_refusal.ensures.0 (omega arith))
