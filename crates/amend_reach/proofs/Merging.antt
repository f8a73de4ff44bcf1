-- The laws of the merge: what it holds at each place, when it is the new list, and how copies one after another make it.
use mathlib.Core.Path.{◌≡◌, refl, sym, ◌∙◌, ap}
use mathlib.Core.Bool.{Bool, true, false, cond, ◌||◌}
use mathlib.Core.List.{List, [], ◌∷◌}
use Prim.Native.Nat.{ℕ, zero, suc, ◌+◌, ◌<◌}
use native.Mathlib.Nat.{zero-add, add-zero, suc-add, add-suc, suc_inj, le_of_suc-le-suc, not-suc-le-zero}
use native.Mathlib.Omega.{arith}
use lib.Dec.{eqb}
use lib.ListN.{length, get_or, set, length-set}
use lib.Seq.{get_or-set_same, get_or-set_other, ext_get_or}
use borrow.Author.Tests.{eqb-true, eqb-false}
use Rattle.amend_reach.specs.Reach.{merged_from}

pub length_merged : (m : ℕ → Bool) (k : ℕ) (fresh old : List ℕ) → length fresh ≡ length old → length (merged_from m k fresh old) ≡ length old
unfolding merged_from
length_merged m k [] old h = h
length_merged m k (x ∷ fresh) [] h = refl
length_merged m k (x ∷ fresh) (y ∷ old) h = ap suc (length_merged m (suc k) fresh old (suc_inj h))

-- the fresh cell where the mask says so, else the old one
cell_from :
    (m : ℕ → Bool) (k : ℕ) (fresh old : List ℕ) (j : ℕ) → length fresh ≡ length old → j < length old
    → get_or (merged_from m k fresh old) j 0 ≡ cond (m (k + j)) (get_or fresh j 0) (get_or old j 0)
unfolding merged_from
cell_from m k fresh [] j h p = absurd (not-suc-le-zero p)
cell_from m k [] (y ∷ old) j h p = absurd (omega arith)
cell_from m k (x ∷ fresh) (y ∷ old) zero h p = rw add-zero
cell_from m k (x ∷ fresh) (y ∷ old) (suc j) h p =
    cell_from m (suc k) fresh old j (suc_inj h) (le_of_suc-le-suc p) ∙ rw (suc-add k j, add-suc k j)

module _ (m : ℕ → Bool) (fresh old : List ℕ) (same : length fresh ≡ length old) where
  pub merged_cell : (j : ℕ) → j < length old → get_or (merged_from m 0 fresh old) j 0 ≡ cond (m j) (get_or fresh j 0) (get_or old j 0)
  merged_cell j h = cell_from m 0 fresh old j same h ∙ rw zero-add

  -- where the lists agree wherever the mask is false, the merge is the fresh list
  pub merged_is_fresh :
      ((j : ℕ) → j < length old → m j ≡ false → get_or fresh j 0 ≡ get_or old j 0) → merged_from m 0 fresh old ≡ fresh
  merged_is_fresh agree =
      ext_get_or 0 (merged_from m 0 fresh old) fresh (omega (arith, length_merged m 0 fresh old same))
      (λ j h. let p : j < length old = omega (arith, length_merged m 0 fresh old same) in merged_cell j p ∙ either j p (m j) refl)
    where
      either : (j : ℕ) → j < length old → (t : Bool) → m j ≡ t → cond t (get_or fresh j 0) (get_or old j 0) ≡ get_or fresh j 0
      either j p true h = refl
      either j p false h = sym (agree j p h)

  -- and where the merge is the fresh list, the lists agree wherever the mask is false
  pub fresh_agrees :
      merged_from m 0 fresh old ≡ fresh → (j : ℕ) → j < length old → m j ≡ false → get_or fresh j 0 ≡ get_or old j 0
  fresh_agrees is j h out = sym (ap (λ (l : List ℕ). get_or l j 0) is) ∙ merged_cell j h ∙ rw out

  -- only the masks' values at the cells count
  pub merged_same : (p : ℕ → Bool) → ((j : ℕ) → j < length old → m j ≡ p j) → merged_from m 0 fresh old ≡ merged_from p 0 fresh old
  merged_same p alike =
      ext_get_or 0 (merged_from m 0 fresh old) (merged_from p 0 fresh old)
      (length_merged m 0 fresh old same ∙ sym (length_merged p 0 fresh old same))
      (λ j h.
      let k : j < length old = rw (length_merged m 0 fresh old same) at h in
      merged_cell j k ∙ rw (alike j k) (sym (rw zero-add at (cell_from p 0 fresh old j same k))))

  -- a mask that names no cell leaves the old list
  pub merged_none : ((j : ℕ) → m j ≡ false) → merged_from m 0 fresh old ≡ old
  merged_none out =
      ext_get_or 0 (merged_from m 0 fresh old) old (length_merged m 0 fresh old same)
      (λ j h. merged_cell j (rw (length_merged m 0 fresh old same) at h) ∙ rw (out j))

  -- one cell stored
  pub merged_one : (i : ℕ) → ((j : ℕ) → m j ≡ eqb j i) → i < length old → set old i (get_or fresh i 0) ≡ merged_from m 0 fresh old
  merged_one i only h =
      sym
      (ext_get_or 0 (merged_from m 0 fresh old) (set old i (get_or fresh i 0))
      (length_merged m 0 fresh old same ∙ sym (length-set old i (get_or fresh i 0)))
      (λ j p. merged_cell j (rw (length_merged m 0 fresh old same) at p) ∙ rw (only j) (either j (eqb j i) refl)))
    where
      either : (j : ℕ) (t : Bool) → eqb j i ≡ t → cond t (get_or fresh j 0) (get_or old j 0) ≡ get_or (set old i (get_or fresh i 0)) j 0
      either j true e = rw (eqb-true j i e) (sym (get_or-set_same old i (get_or fresh i 0) 0 h))
      either j false e = sym (get_or-set_other old i j (get_or fresh i 0) 0 (eqb-false j i e))

-- a merge of one fresh list after another is the merge by either mask
pub merged_again :
    (m p : ℕ → Bool) (k : ℕ) (fresh old : List ℕ)
    → merged_from p k fresh (merged_from m k fresh old) ≡ merged_from (λ j. p j || m j) k fresh old
unfolding merged_from
merged_again m p k [] old = refl
merged_again m p k (x ∷ fresh) [] = refl
merged_again m p k (x ∷ fresh) (y ∷ old) = rw (merged_again m p (suc k) fresh old, twice (p k))
  where
    twice : (t : Bool) → cond t x (cond (m k) x y) ≡ cond (t || m k) x y
    twice true = refl
    twice false = refl

-- so four copies, one after another
pub merged_in_turn :
    (fresh old : List ℕ) (m n p q : ℕ → Bool) {first second third fourth : List ℕ} → first ≡ merged_from m 0 fresh old
    → second ≡ merged_from n 0 fresh first → third ≡ merged_from p 0 fresh second → fourth ≡ merged_from q 0 fresh third
    → fourth ≡ merged_from (λ k. q k || p k || n k || m k) 0 fresh old
merged_in_turn fresh old m n p q a b c d = rw (d, c, b, a, merged_again, merged_again, merged_again)

-- of the cells that p names, those that q names are still old
pub record Copying (p q : ℕ → Bool) (fresh old cells : List ℕ) : Type 0 where
  pub same : length fresh ≡ length cells
  pub long : length cells ≡ length old
  pub is : merged_from p 0 fresh old ≡ merged_from q 0 fresh cells

pub none_copied : {p : ℕ → Bool} {fresh old : List ℕ} → length fresh ≡ length old → Copying p p fresh old old
none_copied same = record { same = same; long = refl; is = refl }

pub some_copied :
    {p q : ℕ → Bool} {fresh old cells : List ℕ} (r s : ℕ → Bool) → ((j : ℕ) → q j ≡ (r j || s j))
    → Copying p q fresh old cells → Copying p r fresh old (merged_from s 0 fresh cells)
some_copied {p} {q} {fresh} {old} {cells} r s split c =
    let size = length_merged s 0 fresh cells c.same in
    record {
      same = c.same ∙ sym size;
      long = size ∙ c.long;
      is =
          c.is ∙ merged_same q fresh cells c.same (λ j. r j || s j) (λ j _. split j)
          ∙ sym (merged_again s r 0 fresh cells);
    }

pub one_copied :
    {p q : ℕ → Bool} {fresh old cells : List ℕ} (r : ℕ → Bool) (i : ℕ) → i < length cells → ((j : ℕ) → q j ≡ (r j || eqb j i))
    → Copying p q fresh old cells → Copying p r fresh old (set cells i (get_or fresh i 0))
one_copied {p} {q} {fresh} {old} {cells} r i h split c =
    rw (merged_one (λ j. eqb j i) fresh cells c.same i (λ j. refl) h) (some_copied r (λ j. eqb j i) split c)

pub all_copied :
    {p q : ℕ → Bool} {fresh old cells : List ℕ} → ((j : ℕ) → q j ≡ false) → Copying p q fresh old cells
    → cells ≡ merged_from p 0 fresh old
all_copied {p} {q} {fresh} {old} {cells} none c = sym (c.is ∙ merged_none q fresh cells c.same none)
