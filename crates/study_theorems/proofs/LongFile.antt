-- A long input is judged by its front: one byte more than the longest study file of the format decides.
use Prim.Native.Nat.{ℕ, zero, suc, ◌+◌, ◌≤◌}
use mathlib.Core.Path.{◌≡◌, refl, ap, ◌∙◌}
use mathlib.Core.Bool.{Bool, true, false, not}
use mathlib.Core.List.{List, [], ◌∷◌}
use lib.ListN.{length, take}
use lib.Seq.{length-take-le}
use lib.Dec.{ltb, eqb}
use borrow.Author.Tests.{le-ltb, lt-ltb, ltb-false}
use native.Mathlib.Omega.{arith}
use Rattle.study_numbers.specs.Numbers.{number_bytes, number_at}
use Rattle.study_numbers.proofs.RoundTrip.{number_take}
use Rattle.answers.specs.Answers.{◌then◌}
use Rattle.answers.specs.declared.Answer.{Answer}
use Rattle.answers.proofs.Laws.{same_in_turn}
use Rattle.study_format.specs.declared.Format.{Format}
use Rattle.study_format.specs.Fields.{starts_with}
use Rattle.study_format.specs.Format.{count_place, sites_of, offset_place, field, block_place, file_bytes}
use Rattle.study_format.specs.Format.{opening_field, count_field, offset_field, offset_fields, ending, judgement}
use Rattle.study_format.proofs.Laws.{within_largest}

-- how many bytes decide any file
abbrev pub decisive : Format → ℕ
decisive f = file_bytes f f.most + 1

pub starts_front : (file bytes : List ℕ) (m : ℕ) → length bytes ≤ m → starts_with (take m file) bytes ≡ starts_with file bytes
unfolding starts_with
starts_front file [] m h = refl
starts_front file (byte ∷ bytes) zero h = absurd (omega arith)
starts_front [] (byte ∷ bytes) (suc m) h = refl
starts_front (first ∷ file) (byte ∷ bytes) (suc m) h = rw (starts_front file bytes m (omega arith))

module _ (f : Format) (file : List ℕ) (m : ℕ) (enough : decisive f ≤ m) (long : m ≤ length file) where
  front : List ℕ
  front = take m file

  length_front : length front ≡ m
  unfolding front
  length_front = length-take-le m file long

  number_front : (at : ℕ) → at + number_bytes ≤ m → number_at front at ≡ number_at file at
  unfolding front
  number_front at h = number_take file m at h

  -- a field that lies in the front is the same there
  field-front : (at : ℕ) (wrong wrong' : Bool) → at + number_bytes ≤ m → wrong' ≡ wrong → field front at wrong' ≡ field file at wrong
  field-front at wrong wrong' h e =
      simp (le-ltb (length front) (at + number_bytes) (omega (arith, length_front)), le-ltb (length file) (at + number_bytes) (omega arith), e)

  offsets_front : (k : ℕ) → k ≤ f.most → offset_fields f front k ≡ offset_fields f file k
  offsets_front k few =
      same_in_turn (offset_field f front k) (offset_field f file k) 0 k
      (λ j from to.
      let at = offset_place j in
      let wrong : ℕ → Bool = λ number. not (eqb number (block_place f k j)) in
      field-front at (wrong (number_at file at)) (wrong (number_at front at)) (omega arith) (ap wrong (number_front at (omega arith)))
      )

  ending-front : (k : ℕ) → k ≤ f.most → ending f front k ≡ ending f file k
  ending-front k few =
      let largest = within_largest f k k few (omega arith) in
      simp (
        le-ltb (length front) (file_bytes f k) (omega (arith, length_front)),
        lt-ltb (file_bytes f k) (length front) (omega (arith, length_front)),
        le-ltb (length file) (file_bytes f k) (omega arith),
        lt-ltb (file_bytes f k) (length file) (omega arith),
      )

  -- what follows the count is asked only of a count within the limit
  counted : (many : Bool) → ltb f.most (sites_of file) ≡ many
      → (count_field f file then offset_fields f front (sites_of file) then ending f front (sites_of file))
      ≡ (count_field f file then offset_fields f file (sites_of file) then ending f file (sites_of file))
  counted true e = simp (e, le-ltb (length file) (count_place + number_bytes) (omega arith))
  counted false e =
      let few = ltb-false f.most (sites_of file) e in
      rw (offsets_front (sites_of file) few, ending-front (sites_of file) few)

  -- the first bytes of a long file tell what the whole tells
  pub front_decides : judgement f (take m file) ≡ judgement f file
  unfolding judgement front
  front_decides =
      let k = sites_of file in
      let many : ℕ → Bool = λ sites. ltb f.most sites in
      let rest : ℕ → Answer = λ sites. offset_fields f front sites then ending f front sites in
      let first : opening_field f front ≡ opening_field f file =
      field-front 0 (not (starts_with file f.opening)) (not (starts_with front f.opening)) (omega arith)
      (ap not (starts_front file f.opening m (omega (arith, f.opening_long)))) in
      let second : field front count_place (many k) ≡ count_field f file = field-front count_place (many k) (many k) (omega arith) refl in
      ap (λ sites. opening_field f front then field front count_place (many sites) then rest sites) (number_front count_place (omega arith))
      ∙ ap (λ a. a then field front count_place (many k) then rest k) first
      ∙ ap (λ a. opening_field f file then a then rest k) second
      ∙ ap (λ a. opening_field f file then a) (counted (many k) refl)
