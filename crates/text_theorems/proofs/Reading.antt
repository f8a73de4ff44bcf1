-- How a text is read, word by word: the words that stand in it, and what the scan makes of each.
use Prim.Native.Nat.{ℕ, zero, suc, ◌+◌, ◌-◌, ◌<◌, ◌≤◌}
use mathlib.Core.Path.{◌≡◌, sym, ap, ◌∙◌}
use mathlib.Core.Bool.{true, false}
use mathlib.Core.List.{List, [], ◌∷◌, ◌++◌}
use lib.ListN.{length, get_or, take, drop, length-append}
use lib.Seq.{get_or-append_seam, take-append_seam, drop-append_seam, take-take, take-add, drop-drop, get_or-drop, get_or-take}
use lib.Dec.{eqb}
use borrow.Author.Tests.{lt-ltb, le-ltb}
use native.Mathlib.Nat.{add-zero, add-suc}
use native.Mathlib.Numerals.{add-one}
use native.Mathlib.Omega.{arith}
use Rattle.text_words.specs.Words.{taken}
use Rattle.text_words.specs.declared.State.{State}
use Rattle.text_titles.specs.Blanks.{hash, ends_word}
use Rattle.text_scan.specs.Scanning.{scan, word_taken, next, scanned}
use Rattle.text_scan.specs.declared.Scan.{Scan}

-- bytes that stand at a place of a text

abbrev pub Has : List ℕ → ℕ → List ℕ → Type 0
Has text at bytes = take (length bytes) (drop at text) ≡ bytes

module _ (text : List ℕ) (at : ℕ) where
  has_byte : (bytes : List ℕ) (i : ℕ) → Has text at bytes → i < length bytes → get_or text (at + i) 0 ≡ get_or bytes i 0
  has_byte bytes i has h =
      sym (get_or-drop at text i 0) ∙ sym (get_or-take (length bytes) (drop at text) i 0 h) ∙ ap (λ l. get_or l i 0) has

  module _ (first second : List ℕ) (has : Has text at (first ++ second)) where
    pub has_first : Has text at first
    has_first =
        let longer : length first ≤ length (first ++ second) = omega (arith, length-append first second) in
        sym (take-take (length first) (length (first ++ second)) (drop at text) longer)
        ∙ rw has (take-append_seam first second)

    pub has_second : Has text (at + length first) second
    has_second =
        let rest = drop at text in
        let split = take-add (length first) (length second) rest in
        let both = rw has_first at (sym split ∙ rw length-append at has) in
        rw (sym (drop-drop (length first) at text))
        (sym (drop-append_seam first _) ∙ ap (drop (length first)) both ∙ drop-append_seam first second)

-- reading bytes at a place, where no word has begun, leads from one state to another, and again no word has begun

abbrev pub fresh : State → ℕ → Scan
fresh s at = scan s at false

abbrev pub Reads : List ℕ → ℕ → List ℕ → State → State → Type 0
Reads text at bytes s t = scanned text at ≡ fresh s at → scanned text (at + length bytes) ≡ fresh t (at + length bytes)

pub reads_both : {s t u : State} (text : List ℕ) (at : ℕ) (first second : List ℕ)
    → Reads text at first s t → Reads text (at + length first) second t u
    → Reads text at (first ++ second) s u
reads_both text at first second p q r =
    let l : at + length (first ++ second) ≡ at + length first + length second = omega (arith, length-append first second) in
    rw l (q (p r))

-- a word in a text, and the byte that ends it

pub record Word (bytes : List ℕ) : Type 0 where
  pub some : 0 < length bytes
  pub plain : (i : ℕ) → i < length bytes → ends_word (get_or bytes i 0) ≡ false

pub record Blank (byte : ℕ) : Type 0 where
  pub ends : ends_word byte ≡ true
  pub quiet : eqb byte hash ≡ false

reads_plain : (text : List ℕ) (at n : ℕ) (s : State) → ((i : ℕ) → i < n → ends_word (get_or text (at + i) 0) ≡ false)
    → scanned text at ≡ fresh s at → scanned text (at + n) ≡ fresh s at
unfolding scanned next
reads_plain text at zero s plain r = rw add-zero r
reads_plain text at (suc n) s plain r =
    rw (add-suc at n, reads_plain text at n s (λ i h. plain i (omega arith)) r, le-ltb (at + n) at (omega arith), plain n (omega arith))

-- the word is taken where its end is read
pub reads_word : (text : List ℕ) (at : ℕ) (word : List ℕ) (byte : ℕ) (s : State) → Has text at (word ++ (byte ∷ []))
    → Word word → Blank byte
    → Reads text at (word ++ (byte ∷ [])) s (taken at word s)
unfolding scanned next word_taken
reads_word text at word byte s has is blank r =
    let end = at + length word in
    let l = length-append word (byte ∷ []) in
    let here = has_first text at word (byte ∷ []) has in
    let last = has_byte text at (word ++ (byte ∷ [])) (length word) has (omega arith) ∙ get_or-append_seam word byte [] 0 in
    let before = reads_plain text at (length word) s (λ i h. rw (has_byte text at word i here h) (is.plain i h)) r in
    let past : at + length (word ++ (byte ∷ [])) ≡ suc end = omega arith in
    let size : end - at ≡ length word = omega arith in
    rw (past, before, le-ltb end at (omega arith), last, blank.ends, blank.quiet, lt-ltb at end (omega (arith, is.some)), size, here, add-one)
