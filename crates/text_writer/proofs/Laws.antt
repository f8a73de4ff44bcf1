-- Laws of the text of entries: how long it is, and how it is put piece after piece.
use Prim.Native.Nat.{ℕ, zero, suc, ◌+◌, ◌*◌, ◌≤◌}
use mathlib.Core.Path.{◌≡◌, refl, sym}
use mathlib.Core.Bool.{Bool, true, false, cond}
use mathlib.Core.List.{List, [], ◌∷◌, ◌++◌}
use lib.ListN.{length, get_or, length-append}
use native.Mathlib.Numerals.{add-one}
use native.Mathlib.Omega.{arith}
use Rattle.lists.proofs.Laws.{over_nothing}
use Rattle.kinds.specs.Kinds.{kind_at}
use Rattle.text.specs.Text.{Placed}
use Rattle.text.proofs.Laws.{placed_next}
use Rattle.text_values.specs.Values.{value_text}
use Rattle.text_values.proofs.Laws.{length_value}
use Rattle.text_names.specs.Names.{space, word_width, title_count, word_of, title_of, kind_of, is_first}
use Rattle.text_names.proofs.Laws.{length_word}
use Rattle.text_writer.specs.Writer.{opening, closing, named, entry_text, entry_texts}
use Rattle.text_writer.specs.Working.{opening_most, named_most, entry_most}

-- where a word ends that was put
pub number_past : {list one : List ℕ} {at n : ℕ} (row : ℕ) → Placed list at (word_of row) one n → n ≤ at + word_width
number_past row p = omega (arith, p.next, length_word row)

-- a name and the space past it

length_name : (row : ℕ) → length (word_of row ++ (space ∷ [])) ≤ opening_most
length_name row = omega (arith, length-append (word_of row) (space ∷ []), length_word row)

pub length-opening : (i : ℕ) → length (opening i) ≤ opening_most
unfolding opening
length-opening i = by (is_first i)
  where
    by : (b : Bool) → length (cond b (word_of (title_of i) ++ (space ∷ [])) []) ≤ opening_most
    by true = length_name (title_of i)
    by false = omega arith

module _ {list : List ℕ} {at : ℕ} (i : ℕ) where
  pub opening_past : {one : List ℕ} {n : ℕ} → Placed list at (opening i) one n → n ≤ at + opening_most
  opening_past p = omega (arith, p.next, length-opening i)

  pub no_opening : is_first i ≡ false → Placed list at (opening i) list at
  unfolding opening
  no_opening later = rw later (record { is = sym (over_nothing list at); next = omega arith })

  pub opening_put : {one two : List ℕ} {n m : ℕ} → is_first i ≡ true → at + opening_most ≤ length list
      → Placed list at (word_of (title_of i)) one n → Placed one n (space ∷ []) two m
      → Placed list at (opening i) two m
  unfolding opening
  opening_put first room p q = rw first (placed_next p q (omega (arith, length_word (title_of i))))

-- an entry

length-named : (i : ℕ) → length (named i) ≤ named_most
unfolding named
length-named i =
    let word = word_of (title_count + kind_of i) in
    omega (
      arith,
      length-append (opening i ++ word) (space ∷ []),
      length-append (opening i) word,
      length-opening i,
      length_word (title_count + kind_of i),
    )

pub length-entry_text : (i value : ℕ) → length (entry_text i value) ≤ entry_most
unfolding entry_text
length-entry_text i value =
    let text = value_text (kind_at i) value in
    omega (
      arith,
      length-append (named i ++ text) (closing i ∷ []),
      length-append (named i) text,
      length-named i,
      length_value (kind_at i) value,
    )

-- the first n entries

module _ (e : List ℕ) where
  pub length-entry_texts : (n : ℕ) → length (entry_texts e n) ≤ entry_most * n
  unfolding entry_texts
  length-entry_texts zero = omega arith
  length-entry_texts (suc n) =
      let value = get_or e n 0 in
      omega (arith, length-append (entry_texts e n) (entry_text n value), length-entry_texts n, length-entry_text n value)

  pub no_entries : (list : List ℕ) → Placed list 0 (entry_texts e 0) list 0
  unfolding entry_texts
  no_entries list = record { is = sym (over_nothing list 0); next = refl }

  pub one_entry_more : {list one two : List ℕ} {at past : ℕ} (n : ℕ) → entry_most * (n + 1) ≤ length list
      → Placed list 0 (entry_texts e n) one at
      → Placed one at (entry_text n (get_or e n 0)) two past
      → Placed list 0 (entry_texts e (n + 1)) two past
  unfolding entry_texts
  one_entry_more n room texts text =
      rw (add-one n)
      (placed_next texts text (omega (arith, length-entry_texts n, length-entry_text n (get_or e n 0))))
