-- Every cell of the sheet of acceptable entries fits 32 bits: none is above BLANK.
use mathlib.Core.Path.{◌≡◌, refl}
use mathlib.Core.Bool.{Bool, true, ◌||◌}
use mathlib.Core.List.{List, [], ◌∷◌, ◌++◌}
use Prim.Native.Nat.{ℕ, zero, suc, ◌≤◌, ◌<◌, max}
use native.Mathlib.Nat.{le_trans}
use native.Mathlib.Decide.{dec_lt}
use native.Mathlib.Omega.{arith}
use lib.Dec.{eqb, leb, lit≤, lit<}
use lib.ListN.{length, get_or, get_or-eq_default}
use borrow.Author.Tests.{leb-true}
use Rattle.units.proofs.Laws.{up_most}
use Rattle.layout.specs.declared.Worksheet.{Worksheet}
use Rattle.layout.specs.declared.Worksheet.TheVariants.{Junction, Point}
use Rattle.layout.specs.Entries.{approach_count, entry_count, EB, WB, NB, SB}
use Rattle.layout.specs.Sheet.{BLANK}
use Rattle.lists.proofs.Tests.{at_each}
use Rattle.kinds.specs.Kinds.{kind_at}
use Rattle.kinds.specs.Working.{most_of}
use Rattle.answers.specs.declared.Answer.TheVariants.{Accepted}
use Rattle.entries.specs.Layout.{cycle}
use Rattle.entries.specs.Judging.{judged_for}
use Rattle.kinds.proofs.Laws.{within}
use Rattle.entries.proofs.Laws.{as_junction, accepted_count, accepted_range}
use Rattle.procedure.specs.Approach.{read_approach}
use Rattle.procedure.specs.Ranges.{FairCycle}
use Rattle.procedure.specs.Pairs.{line, protected, permitted, pair, pair_for, right_total, icu_of, letter_ends, ends_passed, letter_of}
use Rattle.procedure.specs.Sheet.{lines_at, pair_at, right_at, last_of, last_at, sheet_for}
use Rattle.procedure.proofs.Fair.{fair, fair_cycle}
use Rattle.line_bounds.specs.Bounds.{most_adjusted, most_picked, most_required, most_icu, Bounded}
use Rattle.line_bounds.proofs.Numbers.{chosen_most}
use Rattle.line_bounds.proofs.Permitted.{timely_fits}
use Rattle.line_bounds.proofs.Lines.{Under, none, ◌&◌, fitting, under_fits, bounded_lines, lines_fit}
use Rattle.sheet_pairs.proofs.Laws.{split_most, pick_few}
use Rattle.sheet_street.proofs.Laws.{Small}
use Rattle.sheet.proofs.Laws.{small_at}

pub record Fits (cells : List ℕ) : Type 0 where
  pub at : (k : ℕ) → get_or cells k 0 ≤ BLANK

infixl 30 ◌and◌
◌and◌ : {x y : List ℕ} → Fits x → Fits y → Fits (x ++ y)
◌and◌ {x} {y} h k = record { at = go x h.at }
  where
    go : (z : List ℕ) → ((i : ℕ) → get_or z i 0 ≤ BLANK) → (i : ℕ) → get_or (z ++ y) i 0 ≤ BLANK
    go [] f i = k.at i
    go (c ∷ z) f zero = f 0
    go (c ∷ z) f (suc i) = go z (λ j. f (suc j)) i

limit_fits : (i : ℕ) → i < entry_count → most_of (kind_at i) ≤ BLANK
unfolding kind_at
limit_fits i h = leb-true _ _ (at_each (λ j. leb (most_of (kind_at j)) BLANK) entry_count refl i h)

-- ---- the pairs

abbrev pub most_pair : Worksheet → List ℕ
most_pair Junction = BLANK ∷ BLANK ∷ most_picked ∷ 2 ∷ []
most_pair Point = BLANK ∷ []

module _ (shared : Bool) (x y : List ℕ) (bx : Bounded x) (by : Bounded y) where
  protected_most : protected shared x y ≤ BLANK
  unfolding protected
  protected_most =
      chosen_most shared (λ blank. lit≤ tt) (λ time. omega (arith, bx.line16, bx.line17, by.line16, by.line17))

  permitted_most : permitted x y ≤ BLANK
  unfolding permitted
  permitted_most =
      let first : line 26 x ≤ BLANK = timely_fits (lit≤ tt) bx.line26 in
      let second : line 26 y ≤ BLANK = timely_fits (lit≤ tt) by.line26 in
      chosen_most (eqb (line 26 x) BLANK || eqb (line 26 y) BLANK) (λ blank. lit≤ tt) (λ time. omega (arith, first, second))

  pair_most : (k : Worksheet) → Under (most_pair k) (pair_for k shared x y)
  unfolding pair pair_for
  pair_most Junction = protected_most & permitted_most & split_most shared x y bx by & pick_few shared x y bx by & none
  pair_most Point = protected_most & none

  pair_fits : (k : Worksheet) (i : ℕ) → get_or (pair_for k shared x y) i 0 ≤ BLANK
  pair_fits k = under_fits (most_pair k) (all k) (pair_most k)
    where
      all : (k : Worksheet) → fitting (most_pair k) ≡ true
      all Junction = refl
      all Point = refl

-- ---- the last eight

right_most : (free : Bool) (x : List ℕ) (cross left : ℕ) → line 18 x ≤ most_adjusted → cross ≤ most_picked → left ≤ most_adjusted
    → right_total free x cross left ≤ most_required
unfolding right_total
right_most free x cross left h k l =
    chosen_most (eqb (line 3 x) 0) (λ nothing. lit≤ tt) (λ some. chosen_most free (λ alone. omega arith) (λ all. omega arith))

pub icu_most : (required CL : ℕ) → required ≤ most_required → FairCycle CL → icu_of required CL ≤ most_icu
unfolding icu_of
icu_most required CL h cycle = up_most most_icu required CL (omega (arith, cycle.least))

ends_most : (ends : List ℕ) (icu : ℕ) → ends_passed ends icu ≤ length ends
unfolding ends_passed
ends_most [] icu = lit≤ tt
ends_most (end ∷ ends) icu = chosen_most (leb icu end) (λ here. omega arith) (λ past. omega (arith, ends_most ends icu))

pub letter_of_most : (icu : ℕ) → letter_of icu ≤ length letter_ends
letter_of_most icu = ends_most letter_ends icu

abbrev pub most_last : List ℕ
most_last = most_required ∷ most_required ∷ most_required ∷ most_required ∷ most_required ∷ most_required ∷ most_icu ∷ 7 ∷ []

last_most :
    (eb wb nb sb combined CL : ℕ)
    → eb ≤ most_required → wb ≤ most_required → nb ≤ most_required → sb ≤ most_required → combined ≤ most_required → FairCycle CL
    → Under most_last (last_of eb wb nb sb combined CL)
unfolding last_of
last_most eb wb nb sb combined CL e w n s c cycle =
    let required : max combined (max (max eb wb) (max nb sb)) ≤ most_required = omega arith in
    e & w & n & s & c & required & icu_most _ CL required cycle & letter_of_most _ & none

-- ---- of acceptable entries

-- what the sheet takes from a street
record StreetFits (k : Worksheet) (e : List ℕ) (a o : ℕ) : Type 0 where
  first : Fits (lines_at k e a o)
  second : Fits (lines_at k e o a)
  pair : Fits (pair_at k e a o)
  times : Small (lines_at k e a o) (lines_at k e o a) (pair_at k e a o)

module _ (k : Worksheet) (e : List ℕ) (ok : judged_for k e ≡ Accepted) where
  entries_fit : Fits e
  entries_fit = record { at = λ i. go i (dec_lt i entry_count) }
    where
      go : (i : ℕ) → Dec (i < entry_count) → get_or e i 0 ≤ BLANK
      go i (yes h) = le_trans (within (kind_at i) (get_or e i 0) (accepted_range e (as_junction k e ok) i h)).most (limit_fits i h)
      go i (no h) = rw (get_or-eq_default e 0 {n = i} (omega (arith, accepted_count e (as_junction k e ok)))) (lit≤ tt)

  module _ (a o : ℕ) (h : a < approach_count) where
    lines_at_fit : Fits (lines_at k e a o)
    unfolding lines_at
    lines_at_fit =
        let good = as_junction k e ok in
        record { at = lines_fit (read_approach e a) (read_approach e o) (cycle e) (fair e good a h) (fair_cycle e good) k }

    pub bounded_at : Bounded (lines_at k e a o)
    unfolding lines_at
    bounded_at =
        let good = as_junction k e ok in
        bounded_lines (read_approach e a) (read_approach e o) (cycle e) (fair e good a h) (fair_cycle e good) k

  street_fits : (a o : ℕ) → a < approach_count → o < approach_count → StreetFits k e a o
  unfolding pair_at
  street_fits a o h p =
      record {
        first = lines_at_fit a o h;
        second = lines_at_fit o a p;
        pair = record { at = pair_fits _ (lines_at k e a o) (lines_at k e o a) (bounded_at a o h) (bounded_at o a p) k };
        times = small_at k e ok a o h p;
      }

  along : StreetFits k e EB WB
  along = street_fits EB WB (lit< tt) (lit< tt)

  across : StreetFits k e NB SB
  across = street_fits NB SB (lit< tt) (lit< tt)

  last_fits : Fits (last_at k e)
  unfolding last_at right_at
  last_fits =
      let x = along.times in
      let y = across.times in
      let eb = right_most _ _ _ _ x.right_first y.through_second x.left_second in
      let wb = right_most _ _ _ _ x.right_second y.through_first x.left_first in
      let nb = right_most _ _ _ _ y.right_first x.through_first y.left_second in
      let sb = right_most _ _ _ _ y.right_second x.through_second y.left_first in
      let cycled = fair_cycle e (as_junction k e ok) in
      record { at = under_fits most_last refl (last_most _ _ _ _ _ (cycle e) eb wb nb sb (omega (arith, x.picked, y.picked)) cycled) }

  pub sheet_fits : Fits (sheet_for k e)
  unfolding sheet_for
  sheet_fits =
      entries_fit
      and (along.first and along.second and across.first and across.second)
      and (along.pair and across.pair and last_fits)
