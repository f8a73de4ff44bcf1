-- Laws of what the run gives: something is said where the record is refused; where a step stops, that is said, and else a page printed.
use Prim.Native.Nat.{ℕ, ◌-◌, ◌<◌}
use mathlib.Core.Path.{◌≡◌, refl}
use mathlib.Core.Bool.{Bool, true, false, cond}
use mathlib.Core.List.{List, [], ◌∷◌}
use lib.ListN.{length}
use lib.Dec.{ltb}
use native.Mathlib.Omega.{arith}
use Rattle.std.specs.Prelude.{Ok, Err}
use Rattle.answers.specs.declared.Refusal.{Refusal}
use Rattle.layout.specs.Diamond.{storages_from}
use Rattle.text.specs.Text.{Placed}
use Rattle.text_refusals.specs.Refusals.{refusal_text}
use Rattle.program_words.specs.Words.{word_at}
use Rattle.program_outcome.specs.Outcome.{printing, saying, named, Left}
use Rattle.program_outcome.specs.Working.{only_said, only_printed}
use Rattle.program_outcome.specs.Outcome.{Tells}
use Rattle.program_outcome.proofs.Laws.{said_long, quiet, left_printing, left_saying}
use Rattle.program_record.specs.Arguments.{is_nothing, east_word, own_word}
use Rattle.program_diamond.specs.Run.{cycle_text, refusal_says}

pub refusal_long : (why : Refusal) (place : ℕ) (words : List ℕ) → 0 < length (refusal_says why place words)
unfolding refusal_says
refusal_long why place words = by (ltb place storages_from)
  where
    by : (t : Bool)
        → 0 < length (cond t (named (word_at words east_word) cycle_text) (named (own_word words (place - storages_from)) (refusal_text why place)))
    by true = said_long _ _
    by false = said_long _ _

something : (text : List ℕ) → 0 < length text → is_nothing text ≡ false
something [] some = absurd (omega arith)
something (byte ∷ bytes) some = refl

module _ (text page : List ℕ) {T : Type 0} {Good : T → Type 0} {printed said said' : List ℕ} where
  pub left_said : {size : ℕ} → Tells text said said' Good (Err size)
      → Left (cond (is_nothing text) (printing page) (saying text)) printed said printed said' (only_said size)
  left_said t = rw (something text (omega (arith, t.some, t.says.next))) (left_saying t.says)

  pub left_printed : {value : T} {printed' : List ℕ} {n : ℕ} → Tells text said said' Good (Ok value) → Placed printed 0 page printed' n
      → Left (cond (is_nothing text) (printing page) (saying text)) printed said printed' said' (only_printed n)
  left_printed t prints =
      let q = quiet t in
      rw (q.none, q.same) (left_printing prints)
