-- What acceptance gives: the laws that every caller of the judging leans on, over the index, the approach and the movement.
use mathlib.Core.Path.{◌≡◌, refl, sym, ◌∙◌}
use mathlib.Core.Bool.{Bool, true, false, not, ◌&&◌, and_assoc, and-true, and-false}
use mathlib.Core.List.{List}
use Prim.Native.Nat.{ℕ, zero, suc, ◌+◌, ◌-◌, ◌*◌, ◌/◌, ◌%◌, ◌≤◌, ◌<◌}
use native.Mathlib.Nat.{zero-add, add-zero, add-suc, suc-add}
use native.Mathlib.Omega.{arith}
use lib.ListN.{length, get_or}
use lib.Dec.{ltb, eqb, lit≤}
use borrow.Author.Tests.{eqb-true, eqb-false, ltb-false, lt-ltb, le-ltb, eq-eqb, not-true, not-false}
use Rattle.answers.specs.Answers.{◌then◌, refuse_if, in_turn, lowest}
use Rattle.answers.specs.declared.Refusal.TheVariants.{Size}
use Rattle.answers.specs.declared.Answer.TheVariants.{Accepted}
use Rattle.answers.proofs.Laws.{both_accepted, not_refused, each_accepted, all_accepted as all_checked}
use Rattle.kinds.specs.declared.Kind.{Kind}
use Rattle.kinds.specs.Kinds.{in_range, kind_at, movement_kind, approach_kind, group_of}
use Rattle.lists.proofs.Tests.{both_true, not_both, neither}
use Rattle.layout.specs.declared.Worksheet.{Worksheet}
use Rattle.layout.specs.declared.Worksheet.TheVariants.{Junction, Point}
use Rattle.layout.specs.Entries.{approach_count, group_count, movement_count, movement_entries, approaches_from, approach_entries, cycle_entry, entry_count}
use Rattle.layout.specs.Entries.{movement_place, approach_place, left, through}
use Rattle.entries.specs.declared.Fault.{Fault}
use Rattle.entries.specs.declared.Fault.TheVariants.{Range, Shared, NoLane}
use Rattle.entries.specs.Layout.{lanes, volume, shared, movement_entry, approach_entry}
use Rattle.entries.specs.Judging.{size_answer, each_answer, refusal_of, count_of, faulty, outside, badly_shared, unserved, other_lanes, judged_for, judged}
use Rattle.entries.specs.Working.{all_in_range, Alike}

-- no fault is looked for in more than the entries
pub count_most : (fault : Fault) → count_of fault ≤ entry_count
count_most Range = lit≤ tt
count_most Shared = lit≤ tt
count_most NoLane = lit≤ tt

-- SIZE is not answered only of as many numbers as there are entries
pub size_accepted : (e : List ℕ) → size_answer e ≡ Accepted → length e ≡ entry_count
unfolding size_answer
size_accepted e h = eqb-true (length e) entry_count (not-false _ (not_refused (not (eqb (length e) entry_count)) Size 0 h))

-- the kind at a place, by the movement or the approach
pub kind_of_movement : (m j : ℕ) → m < movement_count → j < movement_entries → kind_at (movement_place m j) ≡ movement_kind j
unfolding kind_at
kind_of_movement m j h k =
    let e : movement_place m j % movement_entries ≡ j = omega arith in
    rw (lt-ltb (movement_place m j) approaches_from (omega arith), e)

pub kind_of_approach : (a j : ℕ) → a < approach_count → j < approach_entries → kind_at (approach_place a j) ≡ approach_kind j
unfolding kind_at
kind_of_approach a j h k =
    let e : (approach_place a j - approaches_from) % approach_entries ≡ j = omega arith in
    rw (le-ltb (approach_place a j) approaches_from (omega arith), lt-ltb (approach_place a j) cycle_entry (omega arith), e)

-- so the groups of entries repeat their kinds
pub movements_alike : (m : ℕ) → m < movement_count → Alike movement_entries (movement_entries * m) 0
movements_alike m h j k = kind_of_movement m j h k ∙ sym (kind_of_movement 0 j (lit≤ tt) k)

pub approaches_alike : (a : ℕ) → a < approach_count → Alike approach_entries (approaches_from + approach_entries * a) approaches_from
approaches_alike a h j k = kind_of_approach a j h k ∙ sym (kind_of_approach 0 j (lit≤ tt) k)

-- the acceptance of the n entries from i on, by parts: b entries at k were asked, and r was told of them
module _ (e : List ℕ) where
  in_parts : (i a b : ℕ) → all_in_range e i (a + b) ≡ (all_in_range e i a && all_in_range e (i + a) b)
  unfolding all_in_range
  in_parts i zero b = rw (zero-add b, add-zero i)
  in_parts i (suc a) b =
      rw (suc-add a b, in_parts (suc i) a b, add-suc i a, suc-add i a)
      (sym (and_assoc (in_range (kind_at i) (get_or e i 0)) (all_in_range e (suc i) a) (all_in_range e (suc (i + a)) b)))

  -- one entry was asked, by a kind that is its own
  pub one_in_range : (i j : ℕ) {k : Kind} {r : Bool} → kind_at i ≡ kind_at j → k ≡ kind_at j → r ≡ in_range k (get_or e i 0) → r ≡ all_in_range e i 1
  unfolding all_in_range
  one_in_range i j same its told = told ∙ rw (its, same, and-true (in_range (kind_at j) (get_or e i 0)))

  -- where those before them are in range, the last of the n decide
  pub range_ends : (i a b k n : ℕ) {r : Bool} → all_in_range e i a ≡ true → k ≡ i + a → n ≡ a + b → r ≡ all_in_range e k b → r ≡ all_in_range e i n
  range_ends i a b k n before here whole told = told ∙ rw (here, whole, in_parts i a b, before)

  pub range_goes_on : (i a b k n : ℕ) {r : Bool} → all_in_range e i a ≡ true → k ≡ i + a → n ≡ a + b → r ≡ all_in_range e k b → not r ≡ false
      → all_in_range e i n ≡ true
  range_goes_on i a b k n before here whole told good = sym (range_ends i a b k n before here whole told) ∙ not-false _ good

  -- any part that is not in range decides
  pub range_stops : (i b k n : ℕ) {r : Bool} → i ≤ k → k + b ≤ i + n → r ≡ all_in_range e k b → not r ≡ true → false ≡ all_in_range e i n
  range_stops i b k n from to told bad =
      let after = i + n - (k + b) in
      let here : i + (k - i) ≡ k = omega arith in
      let whole : n ≡ k - i + (b + after) = omega arith in
      sym (rw (whole, in_parts i (k - i) (b + after), here, in_parts k b after, sym told ∙ not-true _ bad, and-false (all_in_range e i (k - i))))

  -- entries that are all in range leave nothing to refuse
  pub all_accepted : (k : Worksheet) (i n : ℕ) → all_in_range e i n ≡ true → lowest (faulty k e Range) (refusal_of Range) i n ≡ Accepted
  unfolding all_in_range outside in_turn
  all_accepted k i zero h = refl
  all_accepted k i (suc n) h =
      let two : (in_range (kind_at i) (get_or e i 0) ≡ true) × (all_in_range e (suc i) n ≡ true) = both_true _ _ h in
      rw two.0 (all_accepted k (suc i) n two.1)

-- a shared lane leaves the left none of its own, and the through at least one
pub record SharesWell (e : List ℕ) (a : ℕ) : Type 0 where
  pub no_left : lanes e (left a) ≡ 0
  pub a_through : 0 < lanes e (through a)

-- each check of what was accepted for a sheet of kind k
pub record Checked (k : Worksheet) (e : List ℕ) : Type 0 where
  pub size : size_answer e ≡ Accepted
  pub fault : (fault : Fault) → each_answer k e fault ≡ Accepted

pub checked : (k : Worksheet) (e : List ℕ) → judged_for k e ≡ Accepted → Checked k e
unfolding judged_for
checked k e ok =
    let sized = both_accepted (size_answer e) (each_answer k e Range then each_answer k e Shared then each_answer k e NoLane) ok in
    let ranged = both_accepted (each_answer k e Range) (each_answer k e Shared then each_answer k e NoLane) sized.1 in
    let laned = both_accepted (each_answer k e Shared) (each_answer k e NoLane) ranged.1 in
    record { size = sized.0; fault = each ranged.0 laned.0 laned.1 }
  where
    each : each_answer k e Range ≡ Accepted → each_answer k e Shared ≡ Accepted → each_answer k e NoLane ≡ Accepted
        → (fault : Fault) → each_answer k e fault ≡ Accepted
    each r s n Range = r
    each r s n Shared = s
    each r s n NoLane = n

-- and that no place has any of the faults
pub fault_free : (k : Worksheet) (e : List ℕ) → judged_for k e ≡ Accepted → (fault : Fault) (i : ℕ) → i < count_of fault → faulty k e fault i ≡ false
fault_free k e ok fault i p =
    not_refused (faulty k e fault i) (refusal_of fault) i
    (rw zero-add at (each_accepted (λ j. refuse_if (faulty k e fault j) (refusal_of fault) j) 0 (count_of fault) ((checked k e ok).fault fault) i p))

-- a lane that no approach shares is not badly shared: what is acceptable for a sheet of any kind is acceptable for a junction's
pub as_junction : (k : Worksheet) (e : List ℕ) → judged_for k e ≡ Accepted → judged e ≡ Accepted
unfolding badly_shared judged_for
as_junction Junction e ok = ok
as_junction Point e ok = go (checked Point e ok)
  where
    fine : (a : ℕ) → a < approach_count → refuse_if (faulty Junction e Shared a) (refusal_of Shared) a ≡ Accepted
    fine a h = rw (fault_free Point e ok Shared a h)

    go : Checked Point e → judged e ≡ Accepted
    go c =
        rw (
          c.size,
          c.fault Range,
          all_checked (λ a. refuse_if (faulty Junction e Shared a) (refusal_of Shared) a) 0 approach_count
              (λ a from to. fine a (omega arith)),
        )
        (c.fault NoLane)

module _ (e : List ℕ) (ok : judged e ≡ Accepted) where
  -- there are as many as there should be
  pub accepted_count : length e ≡ entry_count
  accepted_count = size_accepted e (checked Junction e ok).size

  -- each entry is in its kind's range
  pub accepted_range : (i : ℕ) → i < entry_count → in_range (kind_at i) (get_or e i 0) ≡ true
  unfolding outside
  accepted_range i h = not-false _ (fault_free Junction e ok Range i h)

  pub accepted_movement : (m j : ℕ) → m < movement_count → j < movement_entries → in_range (movement_kind j) (movement_entry e m j) ≡ true
  unfolding movement_entry
  accepted_movement m j h k = rw (← kind_of_movement m j h k) (accepted_range (movement_place m j) (omega arith))

  pub accepted_approach : (a j : ℕ) → a < approach_count → j < approach_entries → in_range (approach_kind j) (approach_entry e a j) ≡ true
  unfolding approach_entry
  accepted_approach a j h k = rw (← kind_of_approach a j h k) (accepted_range (approach_place a j) (omega arith))

  -- shared implies no left lane and a through lane
  pub accepted_shared : (a : ℕ) → a < approach_count → shared e a ≡ 1 → SharesWell e a
  unfolding badly_shared
  accepted_shared a h s =
      let two : (ltb 0 (lanes e (left a)) ≡ false) × (eqb (lanes e (through a)) 0 ≡ false) =
      neither _ _ (not_both (eqb (shared e a) 1) _ (fault_free Junction e ok Shared a h) (eq-eqb _ _ s)) in
      record {
        no_left = omega (arith, ltb-false 0 (lanes e (left a)) two.0);
        a_through = omega (arith, eqb-false (lanes e (through a)) 0 two.1);
      }

  -- volume implies a lane that serves it
  pub accepted_served : (m : ℕ) → m < movement_count → 0 < volume e m → 0 < lanes e m + other_lanes e (m / group_count) (group_of m)
  unfolding unserved
  accepted_served m h v = go (eqb (lanes e m) 0) refl (not_both (ltb 0 (volume e m)) _ (fault_free Junction e ok NoLane m h) (lt-ltb _ _ v))
    where
      go : (t : Bool) → eqb (lanes e m) 0 ≡ t → (t && eqb (other_lanes e (m / group_count) (group_of m)) 0) ≡ false
          → 0 < lanes e m + other_lanes e (m / group_count) (group_of m)
      go true p q = omega (arith, eqb-false (other_lanes e (m / group_count) (group_of m)) 0 q)
      go false p q = omega (arith, eqb-false (lanes e m) 0 p)
