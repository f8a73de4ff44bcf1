-- Laws of what is passed over at the front of a text, and of its title, part after part.
use Prim.Native.Nat.{ℕ, suc, ◌+◌, ◌<◌, ◌≤◌}
use mathlib.Core.Path.{◌≡◌, refl, ap}
use mathlib.Core.Bool.{Bool, true, false, cond, not}
use mathlib.Core.List.{List, [], ◌∷◌}
use lib.ListN.{length, get_or, drop, length-drop, drop_of_length-le}
use lib.Seq.{drop-cons}
use lib.Dec.{eqb, ltb}
use borrow.Author.Tests.{ltb-true, ltb-false}
use native.Mathlib.Numerals.{add-one}
use native.Mathlib.Omega.{arith}
use Rattle.text_titles.specs.Blanks.{is_lead, goes_on, lead_size}
use Rattle.text.specs.Text.{ascii, first_in}
use Rattle.std.specs.Prelude.{None, Some, Ok, Err, unwrap_or}
use Rattle.std.specs.List.{position, position_or_len}
use Rattle.std.proofs.lemmas.List.Recursion.{is_position_or_len}
use Rattle.std.proofs.lemmas.List.Sums.{prefix_len-le-length}
use Rattle.text_titles.specs.Titles.{ends_gap, ends_title, begins_with, title_bytes, lead, rest, gap, inner, size, is_quoted, titled_at, titling_of}

module _ (text : List ℕ) (at : ℕ) where
  module _ (comments : Bool) where
    pub lead_on : at < length text → is_lead comments (get_or text at 0) ≡ true
        → lead_size comments (drop at text) ≡ suc (lead_size (goes_on comments (get_or text at 0)) (drop (at + 1) text))
    unfolding lead_size
    lead_on h on = rw (add-one at, drop-cons text at 0 h, on)

    pub lead_stops : at < length text → is_lead comments (get_or text at 0) ≡ false → lead_size comments (drop at text) ≡ 0
    unfolding lead_size
    lead_stops h off = rw (drop-cons text at 0 h, off)

    pub lead_ends : length text ≤ at → lead_size comments (drop at text) ≡ 0
    unfolding lead_size
    lead_ends h = rw (drop_of_length-le text h)

one_more : (n : ℕ) → suc n ≡ 1 + n
one_more n = omega arith

-- the first byte for which a test holds, as the library's search tells it
module _ (test : ℕ → Bool) (text : List ℕ) where
  abbrev place : ℕ
  place = position_or_len test text

  first_is : first_in test text ≡ place
  unfolding first_in
  first_is = is_position_or_len (first_in test) test refl (λ byte bytes. ap (λ (n : ℕ). cond (test byte) 0 n) (one_more (first_in test bytes))) text

  pub first_found : (unwrap_or (position test text) (length text) ≡ first_in test text) × (unwrap_or (position test text) (length text) ≤ length text)
  first_found = rw first_is (by (ltb place (length text)) refl)
    where
      by : (b : Bool) → ltb place (length text) ≡ b
          → (unwrap_or (cond b (Some place) None) (length text) ≡ place) × (unwrap_or (cond b (Some place) None) (length text) ≤ length text)
      by true e = (refl, omega (arith, ltb-true place (length text) e))
      by false e = (omega (arith, ltb-false place (length text) e, prefix_len-le-length (λ byte. not (test byte)) text), omega arith)

-- a text whose first byte is neither passed over nor the t of `title` has none
abbrev letter_t : ℕ
letter_t = 116

pub no_title : (text : List ℕ) → is_lead false (get_or text 0 0) ≡ false → eqb (get_or text 0 0) letter_t ≡ false → titling_of text ≡ Ok None
unfolding titling_of lead_size ascii
no_title [] first other = refl
no_title (byte ∷ bytes) first other = rw (first, other)

-- the parts of a title, each from those before it
module _ (text : List ℕ) {l : ℕ} {word : List ℕ} (led : l ≡ lead text) (worded : word ≡ drop l text) where
  word_is : word ≡ drop (lead text) text
  word_is = rw led at worded

  pub untitled : begins_with word (ascii "title") ≡ false → titling_of text ≡ Ok None
  unfolding titling_of
  untitled other = rw (rw word_is at other)

  module _ {r i : List ℕ} {g s : ℕ} (rests : r ≡ drop title_bytes word) (gaps : g ≡ first_in ends_gap r) (inners : i ≡ drop (g + 1) r)
      (sizes : s ≡ first_in ends_title i) where
    rest_is : r ≡ rest text
    rest_is = rw word_is at rests

    gap_is : g ≡ gap text
    gap_is = rw rest_is at gaps

    inner_is : i ≡ inner text
    inner_is = rw (gap_is, rest_is) at inners

    size_is : s ≡ size text
    size_is = rw inner_is at sizes

    pub mistitled : begins_with word (ascii "title") ≡ true → is_quoted r g i s ≡ false → titling_of text ≡ Err l
    unfolding titling_of
    mistitled begun bad = rw (rw word_is at begun, rw (rest_is, gap_is, inner_is, size_is) at bad, led)

    pub titled : begins_with word (ascii "title") ≡ true → is_quoted r g i s ≡ true → titling_of text ≡ Ok (Some (titled_at l g s))
    unfolding titling_of
    titled begun good = rw (rw word_is at begun, rw (rest_is, gap_is, inner_is, size_is) at good, led, gap_is, size_is)

    -- and they lie within the text
    pub within : l ≤ length text → g ≤ length r → s ≤ length i → l + g + s ≤ length text
    within a b c =
        let one = rw (← worded) at (length-drop l text) in
        let two = rw (← rests) at (length-drop title_bytes word) in
        let three = rw (← inners) at (length-drop (g + 1) r) in
        omega (arith, a, b, c, one, two, three)
