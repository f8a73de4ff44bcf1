-- What a change of one of an approach's numbers leaves of its own lines, and of those of the approach opposite: for each number
-- the lines, with the old ones wherever the number does not reach, come out the same, line by line. All 28 are gone through, once:
-- the lines of a sheet of any kind are the first of them.
use mathlib.Core.Path.{◌≡◌, refl, sym, ◌∙◌}
use mathlib.Core.Bool.{Bool, false, not}
use mathlib.Core.List.{List}
use Prim.Native.Nat.{ℕ, suc, ◌+◌, ◌<◌}
use native.Mathlib.Omega.{arith}
use lib.Dec.{eqb}
use lib.ListN.{length, get_or}
use lib.Seq.{get_or-take}
use Rattle.layout.specs.Entries.{free_no}
use Rattle.layout.specs.declared.Worksheet.{Worksheet}
use Rattle.layout.specs.declared.Worksheet.TheVariants.{Junction}
use Rattle.layout.specs.Sheet.{line_count}
use Rattle.layout.proofs.Laws.{few}
use Rattle.lists.proofs.Tests.{values, each_below}
use Rattle.procedure.specs.declared.Approach.{Approach}
use Rattle.procedure.specs.Lines.{lines, lines_for, first_lines, later_lines, a, b, volume, v_st, f_t, factor, flow, s_st, s_sl, interference, F, reference, weighted}
use Rattle.procedure.specs.Lines.{crossed, nobody_driving, adjusted, v_ll, q, single, left_share, E, s_a, left_a, option_a, allowed_a, allowed_b}
use Rattle.procedure.specs.Lines.{empty, line23, s_b, option_b, line24, line25, line26, line27, line28}
use Rattle.procedure.proofs.Worksheets.{lines_front}
use Rattle.sheet_cells.proofs.Cells.{lines_long}
use Rattle.amend_reach.specs.Reach.{names, faces, reach_of, merged_from}
use Rattle.amend_reach.proofs.Merging.{fresh_agrees}
use Rattle.amend_untouched.proofs.Numbers.{own_from, number_count, approach_from, but, field_kind}

-- what a number's row says of its own lines, and of those opposite
abbrev own_of : ℕ → ℕ → Bool
own_of f = names (reach_of (field_kind f)).own

abbrev facing_of : ℕ → ℕ → Bool
facing_of f = faces (reach_of (field_kind f)).facing

-- the lines with number f changed, and the old ones wherever the number does not reach
abbrev blended : (ℕ → ℕ → Bool) → (ℕ → List ℕ) → List ℕ → ℕ → List ℕ
blended reaches new old f = merged_from (λ t. reaches f (suc t)) 0 (new f) old

-- where that changes nothing, a line that a number does not reach stays
kept :
    (reaches : ℕ → ℕ → Bool) (new : ℕ → List ℕ) (old : List ℕ) → ((f : ℕ) → length (new f) ≡ line_count Junction) → length old ≡ line_count Junction
    → values (blended reaches new old) number_count ≡ values new number_count
    → (f t : ℕ) → f < number_count → t < line_count Junction → reaches f (suc t) ≡ false → get_or (new f) t 0 ≡ get_or old t 0
kept reaches new old long long_old same f t hf ht out =
    fresh_agrees (λ t. reaches f (suc t)) (new f) old (long f ∙ sym long_old)
    (each_below (blended reaches new old) new number_count same f hf) t (rw long_old ht) out

-- the approach's own lines with number f changed, and those of s opposite it
abbrev own : (ℕ → ℕ) → Approach → ℕ → ℕ → ℕ → List ℕ
own g s CL x f = lines (approach_from (but f x g)) s CL

abbrev opposed : (ℕ → ℕ) → Approach → ℕ → ℕ → ℕ → List ℕ
opposed g s CL x f = lines s (approach_from (but f x g)) CL

module _ (g : ℕ → ℕ) (s : Approach) (CL x : ℕ) where
  tables :
      (values (blended own_of (own g s CL x) (lines (approach_from g) s CL)) number_count ≡ values (own g s CL x) number_count)
      × (values (blended facing_of (opposed g s CL x) (lines s (approach_from g) CL)) number_count ≡ values (opposed g s CL x) number_count)
  unfolding merged_from lines first_lines later_lines a b volume v_st f_t factor flow s_st s_sl interference F reference weighted crossed nobody_driving adjusted
      v_ll q single left_share E s_a left_a option_a allowed_a allowed_b empty line23 s_b option_b line24 line25 line26 line27 line28
  tables = (refl, refl)

  own_kept :
      (f t : ℕ) → f < number_count → t < line_count Junction → own_of f (suc t) ≡ false
      → get_or (lines (approach_from (but f x g)) s CL) t 0 ≡ get_or (lines (approach_from g) s CL) t 0
  unfolding lines_for
  own_kept = kept own_of (own g s CL x) _ (λ f. lines_long Junction _ s CL) (lines_long Junction _ s CL) tables.0

  opposed_kept :
      (f t : ℕ) → f < number_count → t < line_count Junction → facing_of f (suc t) ≡ false
      → get_or (lines s (approach_from (but f x g)) CL) t 0 ≡ get_or (lines s (approach_from g) CL) t 0
  unfolding lines_for
  opposed_kept = kept facing_of (opposed g s CL x) _ (λ f. lines_long Junction s _ CL) (lines_long Junction s _ CL) tables.1

  -- so of a sheet of kind k
  module _ (k : Worksheet) (f t : ℕ) (hf : f < number_count) (ht : t < line_count k) where
    line_of : (s o : Approach) → get_or (lines_for k s o CL) t 0 ≡ get_or (lines s o CL) t 0
    line_of s o = rw (lines_front k s o CL) (get_or-take (line_count k) (lines s o CL) t 0 ht)

    near : t < line_count Junction
    near = omega (arith, (few k).lines)

    pub own_untouched :
        own_of f (suc t) ≡ false → get_or (lines_for k (approach_from (but f x g)) s CL) t 0 ≡ get_or (lines_for k (approach_from g) s CL) t 0
    own_untouched out = line_of (approach_from (but f x g)) s ∙ own_kept f t hf near out ∙ sym (line_of (approach_from g) s)

    pub opposed_untouched :
        facing_of f (suc t) ≡ false → get_or (lines_for k s (approach_from (but f x g)) CL) t 0 ≡ get_or (lines_for k s (approach_from g) CL) t 0
    opposed_untouched out = line_of s (approach_from (but f x g)) ∙ opposed_kept f t hf near out ∙ sym (line_of s (approach_from g))

-- free right is the one number that does not reach its pair
pub pair_number : (f : ℕ) → f < number_count → (reach_of (field_kind f)).pair ≡ not (eqb f (own_from + free_no))
pair_number = each_below (λ f. (reach_of (field_kind f)).pair) (λ f. not (eqb f (own_from + free_no))) number_count refl
