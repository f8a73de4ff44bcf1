-- Laws of words that are ended by a byte 0: a word is the front of its bytes, and it is passed byte after byte.
use Prim.Native.Nat.{ℕ, suc, ◌+◌, ◌-◌, ◌<◌, ◌≤◌}
use mathlib.Core.Path.{◌≡◌, refl, sym, ◌∙◌}
use mathlib.Core.List.{List, [], ◌∷◌}
use mathlib.Core.Bool.{Bool, true, false, cond}
use lib.ListN.{length, take, drop, length-take, drop_of_length-le}
use lib.Seq.{drop-drop}
use borrow.Author.Tests.{ltb-false}
use lib.Dec.{eqb, ltb}
use native.Mathlib.Omega.{arith}
use Rattle.std.proofs.Common.{Some, None}
use Rattle.std.proofs.lemmas.List.Recursion.{is_position_or_len}
use Rattle.std.specs.List.{position, position_or_len}
use Rattle.std.specs.Option.{unwrap_or}
use Rattle.program_words.specs.Words.{first_word, later_words, word_at}

-- the first word is the front, and the later ones follow its end

first_front : (words : List ℕ) → take (length (first_word words)) words ≡ first_word words
unfolding first_word
first_front [] = refl
first_front (byte ∷ bytes) = by (eqb byte 0) refl (first_front bytes)
  where
    by : (b : Bool) → eqb byte 0 ≡ b → take (length (first_word bytes)) bytes ≡ first_word bytes
        → take (length (first_word (byte ∷ bytes))) (byte ∷ bytes) ≡ first_word (byte ∷ bytes)
    by true e rest = rw e
    by false e rest = rw (e, rest)

later_rest : (words : List ℕ) → drop (suc (length (first_word words))) words ≡ later_words words
unfolding first_word later_words
later_rest [] = refl
later_rest (byte ∷ bytes) = by (eqb byte 0) refl (later_rest bytes)
  where
    by : (b : Bool) → eqb byte 0 ≡ b → drop (suc (length (first_word bytes))) bytes ≡ later_words bytes
        → drop (suc (length (first_word (byte ∷ bytes)))) (byte ∷ bytes) ≡ later_words (byte ∷ bytes)
    by true e rest = rw e
    by false e rest = rw e rest

-- the first word ends at the first byte 0, or with the bytes
length-first_word : (words : List ℕ) → length (first_word words) ≡ position_or_len (λ byte. eqb byte 0) words
unfolding first_word
length-first_word = is_position_or_len (λ words. length (first_word words)) (λ byte. eqb byte 0) refl (λ byte bytes. by (eqb byte 0) byte (first_word bytes))
  where
    by : (b : Bool) (byte : ℕ) (word : List ℕ) → length (cond b [] (byte ∷ word)) ≡ cond b 0 (1 + length word)
    by true byte word = refl
    by false byte word = omega arith

pub first_within : (words : List ℕ) → length (first_word words) ≤ length words
first_within words =
    let front = length-take (length (first_word words)) words in
    omega (arith, rw first_front at front)

-- so its end is the place that a search for that byte finds, or else the end
pub end_is : (words : List ℕ) → unwrap_or (position (λ byte. eqb byte 0) words) (length words) ≡ length (first_word words)
end_is words = by (ltb n (length words)) refl ∙ sym (length-first_word words)
  where
    n : ℕ
    n = position_or_len (λ byte. eqb byte 0) words

    by : (b : Bool) → ltb n (length words) ≡ b → unwrap_or (cond b (Some n) None) (length words) ≡ n
    by true e = refl
    by false e = omega (arith, ltb-false _ _ e, length-first_word words, first_within words)

module _ (words : List ℕ) where
  -- the word is what stands from its place to its end, and the next one begins past that
  pub word_is : (from end : ℕ) → end ≡ from + length (first_word (drop from words)) → take (end - from) (drop from words) ≡ first_word (drop from words)
  word_is from end e =
      let size : end - from ≡ length (first_word (drop from words)) = omega arith in
      rw size (first_front (drop from words))

  pub next_is : (from end : ℕ) → end ≡ from + length (first_word (drop from words)) → drop (end + 1) words ≡ later_words (drop from words)
  next_is from end e =
      let size : end + 1 ≡ from + suc (length (first_word (drop from words))) = omega arith in
      rw (size, ← drop-drop (suc (length (first_word (drop from words)))) from words) (later_rest (drop from words))

  pub none_next : (from end : ℕ) → end ≡ from + length (first_word (drop from words)) → length words ≤ end → drop end words ≡ later_words (drop from words)
  none_next from end e over =
      rw (drop_of_length-le words {i = end} over) (rw (drop_of_length-le words {i = end + 1} (omega arith)) at (next_is from end e))

  -- words one after the other
  pub one_word_more : (from next n i : ℕ) → i < n → drop next words ≡ later_words (drop from words)
      → word_at words n ≡ word_at (drop from words) (n - i)
      → word_at words n ≡ word_at (drop next words) (n - (i + 1))
  unfolding word_at
  one_word_more from next n i few there w =
      let left : n - i ≡ suc (n - (i + 1)) = omega arith in
      w ∙ rw (left, there)

  pub last_word : (from n i : ℕ) → n ≤ i → word_at words n ≡ word_at (drop from words) (n - i) → word_at words n ≡ first_word (drop from words)
  unfolding word_at
  last_word from n i all w =
      let left : n - i ≡ 0 = omega arith in
      w ∙ rw left
