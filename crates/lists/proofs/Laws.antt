-- Laws of tables, and of a part put over a list, whole or cell by cell.
use Prim.Native.Nat.{ℕ, zero, suc, ◌+◌, ◌-◌, ◌<◌, ◌≤◌}
use mathlib.Core.Path.{◌≡◌, refl, sym, ap, ◌∙◌}
use mathlib.Core.Logic.{⊎_elim}
use mathlib.Core.List.{List, [], ◌∷◌, ◌++◌, append_assoc, append-nil}
use borrow.Rule.Slice.PartMut.{put_mid}
use lib.ListN.{length, get_or, take, drop, set, length-append, length-drop, take-append-drop, drop_of_length-le, get_or-append}
use lib.Seq.{length-take-le, take-suc, take-length, drop-drop, drop-append-add, get_or-append-add, take_at, drop-cons, drop-length, set_at, set_split}
use native.Mathlib.Nat.{add-zero, add-suc, add-sub_cancel_left, eq-or-lt_of_le}
use native.Mathlib.Numerals.{add-one}
use native.Mathlib.Omega.{arith}
use Rattle.lists.specs.Lists.{table, over}

-- ---- a part put over a list

pub length_over : (list : List ℕ) (at : ℕ) (part : List ℕ) → at + length part ≤ length list → length (over list at part) ≡ length list
unfolding over
length_over list at part h =
    let front : length (take at list) ≡ at = length-take-le at list (omega arith) in
    simp (length-append, front, length-drop) (omega arith)

pub over_nothing : (list : List ℕ) (at : ℕ) → over list at [] ≡ list
unfolding over
over_nothing list at = simp (append-nil, add-zero, take-append-drop)

-- a part just past another is one part with it
pub over_next : (list : List ℕ) (at n : ℕ) (first second : List ℕ) → length first ≡ n → at + n + length second ≤ length list
    → over (over list at first) (at + n) second ≡ over list at (first ++ second)
unfolding over
over_next list at n first second e h =
    let front = take at list ++ first in
    let rest = drop (at + length first) list in
    let t : length (take at list) ≡ at = length-take-le at list (omega arith) in
    let lf : length front ≡ at + n = length-append (take at list) first ∙ simp (t, e) in
    let m : at + n + length second ≡ length front + length second = omega arith in
    let o : at + length first + length second ≡ at + length (first ++ second) = omega (arith, length-append first second) in
    rw (
      take_at front rest (at + n) lf,
      m,
      drop-append-add front rest (length second),
      drop-drop (length second) (at + length first) list,
      o,
      append_assoc (take at list) first second,
    )

-- what stands at the front of a list is read from there
pub front_over : (list part : List ℕ) (n : ℕ) → length part ≡ n → take n (over list 0 part) ≡ part
unfolding over
front_over list part n e = take_at part (drop (0 + length part) list) n e

-- a part copied over a part of a list at once
pub put_over : (list part : List ℕ) (at : ℕ) → put_mid at (at + length part - at) list part ≡ over list at part
unfolding over
put_over list part at = rw (add-sub_cancel_left at (length part), drop-drop (length part) at list, append_assoc (take at list) part)

-- ---- copied cell by cell

-- a store is a run of one
pub store_over : (list : List ℕ) (at x : ℕ) → at < length list → set list at x ≡ over list at (x ∷ [])
unfolding over
store_over list at x h = rw (set_split list at x h, add-one at, append_assoc (take at list) (x ∷ []) (drop (suc at) list))

-- none of a run yet, and one number more of it
pub over_none : (list : List ℕ) (at : ℕ) → list ≡ over list at []
over_none list at = sym (over_nothing list at)

pub over_more : (list : List ℕ) (at n : ℕ) (part : List ℕ) (x : ℕ) → length part ≡ n → at + n < length list
    → set (over list at part) (at + n) x ≡ over list at (part ++ (x ∷ []))
over_more list at n part x e h =
    store_over (over list at part) (at + n) x (rw (length_over list at part (omega arith)) h)
    ∙ over_next list at n part (x ∷ []) e (omega arith)

-- the first i cells of the part are in
pub record Copied (list : List ℕ) (at : ℕ) (part cells : List ℕ) (i : ℕ) : Type 0 where
  pub few : i ≤ length part
  pub long : length cells ≡ length list
  pub is : cells ≡ over list at (take i part)

pub copied_none : (list : List ℕ) (at : ℕ) (part : List ℕ) → Copied list at part list 0
copied_none list at part = record { few = omega arith; long = refl; is = over_none list at }

pub copied_more :
    {list : List ℕ} {at : ℕ} {part cells : List ℕ} {i : ℕ} → at + length part ≤ length list → i < length part
    → Copied list at part cells i → Copied list at part (set cells (at + i) (get_or part i 0)) (i + 1)
copied_more {list} {at} {part} {cells} {i} room h c =
    let x = get_or part i 0 in
    let front : length (take i part) ≡ i = length-take-le i part (omega arith) in
    let e : set cells (at + i) x ≡ over list at (take (i + 1) part) =
    rw (c.is, add-one i, take-suc part i 0 h) (over_more list at i (take i part) x front (omega arith)) in
    record {
      few = omega arith;
      long = ap length e ∙ length_over list at (take (i + 1) part) (omega (arith, length-take-le (i + 1) part (omega arith)));
      is = e;
    }

pub copied_all :
    {list : List ℕ} {at : ℕ} {part cells : List ℕ} {i : ℕ} → length part ≤ i → Copied list at part cells i → cells ≡ over list at part
copied_all {list} {at} {part} {cells} {i} h c =
    let e : i ≡ length part = omega (arith, c.few) in
    c.is ∙ ap (λ n. over list at (take n part)) e ∙ rw (take-length part)

-- two runs that meet, written one after the other, are one run
pub over_then :
    (list : List ℕ) (at : ℕ) {once twice : List ℕ} {next : ℕ} (first second : List ℕ) → once ≡ over list at first → twice ≡ over once next second
    → at + length first ≡ next → next + length second ≤ length list → twice ≡ over list at (first ++ second)
over_then list at first second e f meet room =
    f ∙ rw (e, ← meet) (over_next list at (length first) first second refl (omega arith))

-- a run as long as the list takes its place
pub over_whole : (list part : List ℕ) → length list ≡ length part → over list 0 part ≡ part
unfolding over
over_whole list part e =
    let past : length list ≤ 0 + length part = omega arith in
    rw (drop_of_length-le list {i = 0 + length part} past, append-nil part)

-- ---- tables

module _ (f : ℕ → ℕ) where
  pub length-table : (n : ℕ) → length (table f n) ≡ n
  unfolding table
  length-table zero = refl
  length-table (suc n) = simp (length-append, length-table n) (omega arith)

  pub table_more : (n : ℕ) → table f (n + 1) ≡ table f n ++ (f n ∷ [])
  unfolding table
  table_more n = rw (add-one n)

  last_of : (n : ℕ) → get_or (table f n ++ (f n ∷ [])) n 0 ≡ f n
  last_of n =
      let z : n ≡ length (table f n) + 0 = omega (arith, length-table n) in
      ap (λ (k : ℕ). get_or (table f n ++ (f n ∷ [])) k 0) z ∙ get_or-append-add (table f n) (f n ∷ []) 0 0

  pub table_at : (n i : ℕ) → i < n → get_or (table f n) i 0 ≡ f i
  unfolding table
  table_at zero i h = absurd (omega arith)
  table_at (suc n) i h =
      ⊎_elim
      (λ q. rw q (last_of n))
      (λ l. get_or-append (table f n) (f n ∷ []) 0 i (rw length-table l) ∙ table_at n i l)
      (eq-or-lt_of_le {n = i} {m = n} (omega arith))

  -- a table is its front and the rest of it
  pub table_join : (m n : ℕ) → table f (m + n) ≡ table f m ++ table (λ i. f (m + i)) n
  unfolding table
  table_join m zero = rw (add-zero m, append-nil (table f m))
  table_join m (suc n) =
      rw (add-suc m n, table_join m n, append_assoc (table f m) (table (λ i. f (m + i)) n) (f (m + n) ∷ []))

  -- a list that is being filled from the front: with n numbers of the table, and one more
  pub filled_more : (list : List ℕ) (n : ℕ) → n < length list
      → set (table f n ++ drop n list) n (f n) ≡ table f (n + 1) ++ drop (n + 1) list
  unfolding table
  filled_more list n h =
      rw (
        add-one,
        drop-cons list n 0 h,
        set_at (table f n) _ (drop (suc n) list) (f n) n (length-table n),
        append_assoc (table f n) (f n ∷ []) (drop (suc n) list),
      )

  -- and filled to its end
  pub filled_all : (list : List ℕ) → table f (length list) ++ drop (length list) list ≡ table f (length list)
  filled_all list = rw (drop-length list, append-nil)

-- tables of the same numbers
pub table_same : (f g : ℕ → ℕ) (n : ℕ) → ((i : ℕ) → i < n → f i ≡ g i) → table f n ≡ table g n
unfolding table
table_same f g zero h = refl
table_same f g (suc n) h = rw (table_same f g n (λ i l. h i (omega arith)), h n (omega arith))
