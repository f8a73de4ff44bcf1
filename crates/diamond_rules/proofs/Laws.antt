-- What the acceptance of a record gives: two acceptable junctions with one cycle, and its own numbers in range.
use mathlib.Core.Path.{◌≡◌, refl, ◌∙◌}
use mathlib.Core.Bool.{Bool, true, false, not}
use mathlib.Core.List.{List}
use Prim.Native.Nat.{ℕ, zero, suc, ◌+◌, ◌≤◌, ◌<◌}
use native.Mathlib.Nat.{zero-add}
use native.Mathlib.Omega.{arith}
use lib.ListN.{length, drop, length-drop}
use lib.Seq.{length-take-le}
use lib.Dec.{eqb}
use borrow.Author.Tests.{eqb-true, eq-eqb, not-false}
use Rattle.answers.specs.declared.Refusal.{Refusal}
use Rattle.answers.specs.declared.Refusal.TheVariants.{Range as OutOfRange, Store, Travel}
use Rattle.answers.specs.declared.Answer.{Answer}
use Rattle.answers.specs.declared.Answer.TheVariants.{Accepted, Refused}
use Rattle.answers.specs.Answers.{◌then◌, refuse_if, in_turn, lowest, place_of}
use Rattle.answers.proofs.Laws.{both_accepted, not_refused, sized, each_accepted}
use Rattle.layout.specs.declared.Worksheet.TheVariants.{Junction}
use Rattle.layout.specs.Entries.{entry_count}
use Rattle.layout.specs.Diamond.{east_from, east_cycle, storages_from, storage_count, travel_place, record_count}
use Rattle.kinds.specs.declared.Kind.TheVariants.{Storage, TravelTime}
use Rattle.kinds.specs.Kinds.{in_range}
use Rattle.entries.specs.declared.Fault.{Fault}
use Rattle.entries.specs.declared.Fault.TheVariants.{Range, Shared, NoLane}
use Rattle.entries.specs.Layout.{cycle}
use Rattle.entries.specs.Judging.{size_answer, refusal_of, count_of, faulty, each_answer, judged_for, judged}
use Rattle.entries.proofs.Laws.{count_most, checked}
use Rattle.diamond_rules.specs.Record.{west, east, storage, travel, counted_on, both_answer, cycles_answer, stores_answer, travel_answer}
use Rattle.diamond_rules.specs.Record.{junctions_answer, own_answer, record_size, judged_record}

-- of a whole record, each junction has its entries
pub west-length : (r : List ℕ) → length r ≡ record_count → length (west r) ≡ entry_count
unfolding west
west-length r h = length-take-le entry_count r (omega (arith, h))

pub east-length : (r : List ℕ) → length r ≡ record_count → length (east r) ≡ entry_count
unfolding east
east-length r h = length-take-le entry_count (drop east_from r) (omega (arith, h, length-drop east_from r))

-- a place that a search tells is one of those searched
pub lowest_place : (bad : ℕ → Bool) (why : Refusal) (i n : ℕ) → place_of (lowest bad why i n) ≤ i + n
unfolding in_turn
lowest_place bad why i zero = omega arith
lowest_place bad why i (suc n) = go (bad i) (lowest_place bad why (suc i) n)
  where
    go : (t : Bool) → place_of (lowest bad why (suc i) n) ≤ suc i + n → place_of (refuse_if t why i then lowest bad why (suc i) n) ≤ i + suc n
    go true later = omega arith
    go false later = omega arith

pub each_place : (e : List ℕ) (fault : Fault) → place_of (each_answer Junction e fault) ≤ entry_count
each_place e fault = omega (arith, lowest_place (faulty Junction e fault) (refusal_of fault) 0 (count_of fault), count_most fault)

-- a junction's answer, counted on from as many places as the fault is looked for in
pub counted_so : (e : List ℕ) (fault : Fault) {before : ℕ} {answer r : Answer} → before ≡ count_of fault → answer ≡ each_answer Junction e fault
    → r ≡ counted_on before answer → r ≡ counted_on (count_of fault) (each_answer Junction e fault)
counted_so e fault many told counted = counted ∙ rw (many, told)

-- entries in which no fault is found are acceptable
pub faultless : (e : List ℕ) → length e ≡ entry_count → ((fault : Fault) → each_answer Junction e fault ≡ Accepted) → judged e ≡ Accepted
unfolding judged_for size_answer
faultless e size free =
    let whole : eqb (length e) entry_count ≡ true = eq-eqb (length e) entry_count size in
    rw (whole, free Range, free Shared, free NoLane)

counted_accepted : (n : ℕ) (a : Answer) → counted_on n a ≡ Accepted → a ≡ Accepted
counted_accepted n Accepted h = refl
counted_accepted n (Refused why place) h = absurd (let z : ◌≡◌ {A = ℕ} 0 1 = cc in omega arith)

both_free : (r : List ℕ) (fault : Fault) → both_answer r fault ≡ Accepted
    → (each_answer Junction (west r) fault ≡ Accepted) × (each_answer Junction (east r) fault ≡ Accepted)
unfolding both_answer
both_free r fault h =
    let two : (each_answer Junction (west r) fault ≡ Accepted) × (counted_on (count_of fault) (each_answer Junction (east r) fault) ≡ Accepted) =
    both_accepted (each_answer Junction (west r) fault) _ h in
    (two.0, counted_accepted (count_of fault) (each_answer Junction (east r) fault) two.1)

module _ (r : List ℕ) (ok : judged_record r ≡ Accepted) where
  parts : (record_size r ≡ Accepted) × ((junctions_answer r then own_answer r) ≡ Accepted)
  unfolding judged_record
  parts = both_accepted (record_size r) (junctions_answer r then own_answer r) ok

  later : (junctions_answer r ≡ Accepted) × (own_answer r ≡ Accepted)
  later = both_accepted (junctions_answer r) (own_answer r) parts.1

  own : (stores_answer r ≡ Accepted) × (travel_answer r ≡ Accepted)
  unfolding own_answer
  own = both_accepted (stores_answer r) (travel_answer r) later.1

  ranges : (both_answer r Range ≡ Accepted) × ((cycles_answer r then both_answer r Shared then both_answer r NoLane) ≡ Accepted)
  unfolding junctions_answer
  ranges = both_accepted (both_answer r Range) _ later.0

  cycles : (cycles_answer r ≡ Accepted) × ((both_answer r Shared then both_answer r NoLane) ≡ Accepted)
  cycles = both_accepted (cycles_answer r) _ ranges.1

  lanes : (both_answer r Shared ≡ Accepted) × (both_answer r NoLane ≡ Accepted)
  lanes = both_accepted (both_answer r Shared) (both_answer r NoLane) cycles.1

  each : (fault : Fault) → (each_answer Junction (west r) fault ≡ Accepted) × (each_answer Junction (east r) fault ≡ Accepted)
  each Range = both_free r Range ranges.0
  each Shared = both_free r Shared lanes.0
  each NoLane = both_free r NoLane lanes.1

  -- there are as many numbers as there should be
  pub record_length : length r ≡ record_count
  unfolding record_size
  record_length = sized (length r) record_count parts.0

  -- both junctions are acceptable, by what a junction is judged by, and have one cycle
  pub west_accepted : judged (west r) ≡ Accepted
  west_accepted = faultless (west r) (west-length r record_length) (λ fault. (each fault).0)

  pub east_accepted : judged (east r) ≡ Accepted
  east_accepted = faultless (east r) (east-length r record_length) (λ fault. (each fault).1)

  pub same_cycle : cycle (west r) ≡ cycle (east r)
  unfolding cycles_answer
  same_cycle = eqb-true _ _ (not-false _ (not_refused (not (eqb (cycle (west r)) (cycle (east r)))) OutOfRange east_cycle cycles.0))

  -- its own numbers are in range
  pub storage_accepted : (k : ℕ) → k < storage_count → in_range Storage (storage r k) ≡ true
  unfolding stores_answer
  storage_accepted k h =
      not-false _
      (not_refused (not (in_range Storage (storage r k))) Store (storages_from + k)
      (rw zero-add at (each_accepted (λ j. refuse_if (not (in_range Storage (storage r j))) Store (storages_from + j)) 0 storage_count own.0 k h)))

  pub travel_accepted : in_range TravelTime (travel r) ≡ true
  unfolding travel_answer
  travel_accepted = not-false _ (not_refused (not (in_range TravelTime (travel r))) Travel travel_place own.1)

-- of two acceptable junctions, which have no fault, a record is judged by their cycles and its own numbers alone
pub judged_together : (r : List ℕ) → length r ≡ record_count → judged (west r) ≡ Accepted → judged (east r) ≡ Accepted
    → judged_record r ≡ (cycles_answer r then own_answer r)
unfolding judged_record record_size junctions_answer both_answer
judged_together r size west_ok east_ok =
    let whole : eqb (length r) record_count ≡ true = eq-eqb (length r) record_count size in
    let w = (checked Junction (west r) west_ok).fault in
    let e = (checked Junction (east r) east_ok).fault in
    rw (whole, w Range, e Range, w Shared, e Shared, w NoLane, e NoLane) (last (cycles_answer r))
  where
    last : (a : Answer) → (((Accepted then a) then Accepted) then own_answer r) ≡ (a then own_answer r)
    last Accepted = refl
    last (Refused why place) = refl
