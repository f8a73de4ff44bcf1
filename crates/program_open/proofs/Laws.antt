-- Laws of what is said before a call goes on, and of what a call gives that stops where something is said, goes on, or is refused.
use Prim.Native.Nat.{ℕ, ◌<◌}
use mathlib.Core.Path.{◌≡◌, refl, ap}
use mathlib.Core.Bool.{Bool, true, false, cond}
use mathlib.Core.List.{List, [], ◌∷◌}
use lib.ListN.{length, take}
use native.Mathlib.Omega.{arith}
use Rattle.std.specs.Prelude.{Some, None, Ok, Err}
use Rattle.answers.specs.declared.Answer.{Answer}
use Rattle.answers.specs.declared.Answer.TheVariants.{Refused}
use Rattle.answers.specs.declared.Refusal.{Refusal}
use Rattle.text.specs.Text.{Placed}
use Rattle.text.proofs.Laws.{placed_nothing}
use Rattle.text_refusals.specs.Refusals.{answer_text}
use Rattle.open_file.specs.File.{is_open}
use Rattle.program_words.specs.Words.{word_at}
use Rattle.program_outcome.specs.declared.Lengths.{Lengths}
use Rattle.program_outcome.specs.Outcome.{Outcome, saying, named, remark_text, Left}
use Rattle.program_outcome.specs.Working.{only_said}
use Rattle.program_outcome.specs.Outcome.{Tells}
use Rattle.program_outcome.proofs.Laws.{quiet, left_saying, said_long}
use Rattle.program_record.specs.Arguments.{◌or_else◌}
use Rattle.program_open.specs.Words.{study_word}
use Rattle.program_open.specs.Opening.{Source, bytes_in, office_says, unopened_text, source_says, open_says, ◌or_gives◌, if_accepted}

next_quiet : (first next : List ℕ) → (first or_else next) ≡ [] → next ≡ []
next_quiet [] next e = e
next_quiet (byte ∷ bytes) next e = absurd (let z : ◌≡◌ {A = ℕ} 0 1 = cc in omega arith)

-- where nothing is said, an open study stands there
pub stands_open : (source : Source) (words area : List ℕ) → open_says source words area ≡ [] → is_open (bytes_in source area) ≡ true
unfolding open_says
stands_open source words area quiet = by source (next_quiet (office_says words) _ quiet)
  where
    name : List ℕ
    name = word_at words study_word

    spoken : (what : List ℕ) {A : Type 0} → named name what ≡ [] → A
    spoken what e = absurd (omega (arith, said_long name what, ap length e))

    tested : (t : Bool) → cond t [] (named name unopened_text) ≡ [] → t ≡ true
    tested true e = refl
    tested false e = spoken unopened_text e

    by : (s : Source) → source_says s name area ≡ [] → is_open (bytes_in s area) ≡ true
    by (Ok (Some size)) e = tested (is_open (take size area)) e
    by (Ok None) e = spoken unopened_text e
    by (Err why) e = spoken (remark_text why) e

-- what a call leaves in three areas
abbrev pub Gives : Outcome → List ℕ → List ℕ → List ℕ → List ℕ → List ℕ → List ℕ → Lengths → Type 0
Gives run printed written said printed' written' said' lengths =
    Left run printed said printed' said' lengths × Placed written 0 run.writes written' lengths.writes

-- where a step stops, that is said, and nothing else given; else the call goes on
module _ (text : List ℕ) (run : Outcome) {T : Type 0} {Good : T → Type 0} {said said' : List ℕ} where
  only : {size : ℕ} → Tells text said said' Good (Err size) → (text or_gives run) ≡ saying text
  only t = by text (omega (arith, t.some, t.says.next))
    where
      by : (what : List ℕ) → 0 < length what → (what or_gives run) ≡ saying what
      by [] some = absurd (omega arith)
      by (byte ∷ bytes) some = refl

  pub left_said : {printed : List ℕ} {size : ℕ} → Tells text said said' Good (Err size)
      → Left (text or_gives run) printed said printed said' (only_said size)
  left_said t = rw (only t) (left_saying t.says)

  pub gives_said : {printed written : List ℕ} {size : ℕ} → Tells text said said' Good (Err size)
      → Gives (text or_gives run) printed written said printed written said' (only_said size)
  gives_said {written = written} t = (left_said t, rw (only t) (placed_nothing written 0))

  pub left_on : {printed printed' said'' : List ℕ} {lengths : Lengths} {value : T} → Tells text said said' Good (Ok value)
      → Left run printed said' printed' said'' lengths
      → Left (text or_gives run) printed said printed' said'' lengths
  left_on t left = let q = quiet t in rw q.none (rw q.same at left)

  pub gives_on : {printed written printed' written' said'' : List ℕ} {lengths : Lengths} {value : T} → Tells text said said' Good (Ok value)
      → Gives run printed written said' printed' written' said'' lengths
      → Gives (text or_gives run) printed written said printed' written' said'' lengths
  gives_on t (left, writes) = (left_on t left, rw ((quiet t).none) writes)

-- a refusal is said, and nothing else given
module _ {answer : Answer} {why : Refusal} {place : ℕ} (word : List ℕ) (run : Outcome) (is : answer ≡ Refused why place) {said said' : List ℕ}
    {size : ℕ} (says : Placed said 0 (named word (answer_text answer)) said' size) where
  pub left_refused : {printed : List ℕ} → Left (if_accepted answer word run) printed said printed said' (only_said size)
  left_refused = rw is (left_saying (rw is at says))

  pub gives_refused : {printed written : List ℕ}
      → Gives (if_accepted answer word run) printed written said printed written said' (only_said size)
  gives_refused {written = written} = (left_refused, rw is (placed_nothing written 0))
