-- Laws of the words in the table, of a word that is compared with a row, of the search for its row, and of the classes of titles.
use Prim.Native.Nat.{ℕ, zero, suc, ◌+◌, ◌≤◌, ◌<◌}
use mathlib.Core.Path.{◌≡◌, refl}
use mathlib.Core.Logic.{⊎_elim}
use mathlib.Core.Bool.{Bool, true, false, cond, not, ◌&&◌, ◌||◌}
use mathlib.Core.List.{List, [], ◌∷◌, ◌++◌, append-nil}
use lib.ListN.{length, length-append}
use lib.Dec.{eqb, ltb, leb}
use borrow.Author.Tests.{eq-eqb, ne_eqb, eqb-true, ltb-true, leb-true}
use native.Mathlib.Nat.{eq-or-lt_of_le}
use native.Mathlib.Numerals.{add-one}
use native.Mathlib.Omega.{arith}
use Rattle.std.specs.Prelude.{Option, Some, None, MatchOption, IfSome}
use Rattle.text.specs.Text.{Placed}
use Rattle.lists.proofs.Laws.{over_none}
use Rattle.text.proofs.Laws.{placed_next}
use Rattle.lists.proofs.Tests.{both_true, holds_below, at_each}
use Rattle.layout.specs.Entries.{entry_count}
use Rattle.text_names.specs.Names.{space, word_byte, word_in, word_of, word_width, word_count, padded, agrees, is_word, found_in, row_of}
use Rattle.text_names.specs.Names.{title_count, kind_count, class_of, class_at, has_kind, entry_in, entry_under, title_of, kind_of}
use Rattle.text_names.specs.Working.{OfTitle}
use Rattle.text_names.specs.declared.Class.{Class}

-- the words of the table

module _ (row : ℕ) where
  length_next : (n : ℕ) (blank : Bool) → length (word_in row n) ≤ n → length (word_in row n ++ cond blank [] (word_byte row n ∷ [])) ≤ suc n
  length_next n true h = rw append-nil (omega arith)
  length_next n false h = rw length-append (omega arith)

  pub length-word_in : (n : ℕ) → length (word_in row n) ≤ n
  unfolding word_in
  length-word_in zero = omega arith
  length-word_in (suc n) = length_next n (eqb (word_byte row n) space) (length-word_in n)

  pub length_word : length (word_of row) ≤ word_width
  length_word = length-word_in word_width

  -- a word that is being put: nothing yet, past a blank, and past any other byte
  pub word_none : (list : List ℕ) (at : ℕ) → Placed list at (word_in row 0) list at
  unfolding word_in
  word_none list at = record { is = over_none list at; next = omega arith }

  module _ (n byte : ℕ) (e : byte ≡ word_byte row n) {list one : List ℕ} {at past : ℕ} (p : Placed list at (word_in row n) one past) where
    pub word_blank : byte ≡ space → Placed list at (word_in row (n + 1)) one past
    unfolding word_in
    word_blank blank = rw (add-one n, ← e, eq-eqb byte space blank, append-nil) p

    pub word_more : {two : List ℕ} {end : ℕ} → (byte ≡ space → ⊥) → at + n < length list → Placed one past (byte ∷ []) two end
        → Placed list at (word_in row (n + 1)) two end
    unfolding word_in
    word_more black room q = rw (add-one n, ← e, ne_eqb byte space black) (placed_next p q (omega (arith, length-word_in n)))

-- a word and a row, byte by byte

module _ (word : List ℕ) (row n one two : ℕ) (p : one ≡ padded word n) (q : two ≡ word_byte row n) where
  pub agrees_on : true ≡ agrees word row n → one ≡ two → true ≡ agrees word row (n + 1)
  unfolding agrees
  agrees_on so e = rw (add-one n, ← so, ← p, ← q, eq-eqb one two e)

  -- with one byte that differs the word is not the row's, whatever follows
  pub differs : (one ≡ two → ⊥) → (m : ℕ) → n < m → false ≡ agrees word row m
  unfolding agrees
  differs e zero h = absurd (omega arith)
  differs e (suc m) h =
      ⊎_elim (λ here. rw (← here, ← p, ← q, ne_eqb one two e) (none (agrees word row n)))
      (λ later. rw (← differs e m later))
      (eq-or-lt_of_le {n = n} {m = m} (omega arith))
    where
      none : (b : Bool) → false ≡ cond b false false
      none true = refl
      none false = refl

-- the search for a word's row

module _ (word : List ℕ) where
  abbrev NoneBelow : ℕ → Type 0
  NoneBelow n = (k : ℕ) → 0 ≤ k → k < n → false ≡ is_word word k

  not_found : (n : ℕ) → NoneBelow n → None ≡ found_in word n
  unfolding found_in
  not_found zero none = refl
  not_found (suc n) none = rw (← not_found n (λ k l h. none k l (omega arith)), ← none n (omega arith) (omega arith))

  found_first : (i n : ℕ) → i < n → true ≡ is_word word i → NoneBelow i → Some i ≡ found_in word n
  unfolding found_in
  found_first i zero h is none = absurd (omega arith)
  found_first i (suc n) h is none =
      ⊎_elim (λ here. rw (← here, ← not_found i none, ← is)) (λ later. rw (← found_first i n later is none))
      (eq-or-lt_of_le {n = i} {m = n} (omega arith))

  -- the first row for which the test holds, if there is one
  pub found_by : (r : Option ℕ)
      → MatchOption r ((k : ℕ) → 0 ≤ k → k < word_count → false ≡ is_word word k)
      (λ i. (0 ≤ i) × (i < word_count) × (true ≡ is_word word i) × ((k : ℕ) → 0 ≤ k → k < i → false ≡ is_word word k))
      → (r ≡ row_of word) × IfSome r (λ row. row < word_count)
  found_by None none = (not_found word_count none, tt)
  found_by (Some i) first = (found_first i word_count first.1 first.2 first.3, first.1)

-- the classes, asked of every title, kind and entry by one computed test each

-- a title's entry of a kind that it has is one of the entries
fits : ℕ → ℕ → Bool
fits title kind = not (has_kind title kind) || ltb (entry_in title kind) entry_count

all_fit : holds_below (λ title. holds_below (fits title) kind_count) title_count ≡ true
unfolding fits class_of
all_fit = refl

entry_fits : (title kind : ℕ) → title < title_count → kind < kind_count → has_kind title kind ≡ true → entry_in title kind < entry_count
unfolding fits
entry_fits title kind t k has =
    let each = at_each (λ title. holds_below (fits title) kind_count) title_count all_fit title t in
    ltb-true _ _ (rw has at (at_each (fits title) kind_count each kind k))

-- the same of the class that was looked up
pub record Under (class : Class) (title kind : ℕ) : Type 0 where
  pub entry : entry_under class title kind < entry_count
  pub from : class.kind ≤ kind

pub under_fits : {class : Class} (title kind : ℕ) → OfTitle title class → (title < title_count) × (kind < kind_count) × (has_kind title kind ≡ true)
    → Under class title kind
under_fits {class} title kind of named =
    let kinds = both_true (leb class.kind kind) _ (rw (← of.is) at named.2) in
    record { entry = rw of.is (entry_fits title kind named.0 named.1 named.2); from = leb-true _ _ kinds.0 }

-- each entry stands under a title, and is the one of its kind there
stands : ℕ → Bool
stands i = ltb (title_of i) title_count && (ltb (kind_of i) kind_count && (has_kind (title_of i) (kind_of i) && eqb (entry_in (title_of i) (kind_of i)) i))

all_stand : holds_below stands entry_count ≡ true
unfolding stands class_of class_at
all_stand = refl

pub record InPlace (i : ℕ) : Type 0 where
  pub title : title_of i < title_count
  pub kind : kind_of i < kind_count
  pub has : has_kind (title_of i) (kind_of i) ≡ true
  pub entry : entry_in (title_of i) (kind_of i) ≡ i

pub in_place : (i : ℕ) → i < entry_count → InPlace i
unfolding stands
in_place i h =
    let all = both_true (ltb (title_of i) title_count) _ (at_each stands entry_count all_stand i h) in
    let kinds = both_true (ltb (kind_of i) kind_count) _ all.1 in
    let is = both_true (has_kind (title_of i) (kind_of i)) _ kinds.1 in
    record { title = ltb-true _ _ all.0; kind = ltb-true _ _ kinds.0; has = is.0; entry = eqb-true _ _ is.1 }
