-- A rating is kept: widened entries make the approaches of before, flows by the table's factors are those of before, and so are all
-- cells past the entries.
use mathlib.Core.Path.{◌≡◌, sym, ap, ◌∙◌}
use mathlib.Core.List.{List, ◌++◌, append_assoc}
use Prim.Native.Nat.{ℕ, ◌-◌, ◌<◌}
use lib.Dec.{lit<}
use lib.ListN.{drop}
use lib.Seq.{drop_at}
use borrow.Author.Tests.{eq-eqb}
use native.Mathlib.Omega.{arith}
use Rattle.layout.specs.Entries.{approach_count, movement_count, approaches_from, approach_entries, cycle_entry, entry_count, left, through, right}
use Rattle.layout.specs.Entries.{EB, WB, NB, SB, lanes_no, volume_no, ideal_no, lost_no, green_no, shared_no, walkers_no, button_no, crossing_no, free_no}
use Rattle.entries.specs.Layout.{cycle, movement_entry, approach_entry}
use Rattle.kinds.specs.declared.Group.TheVariants.{Left, Through}
use Rattle.line_factors.specs.Factors.{factor_of}
use Rattle.study_before.specs.Before.{movement_before, widened}
use Rattle.study_before.proofs.Laws.{length-widened, of_factor, past_movements}
use Rattle.procedure.specs.declared.Approach.{Approach}
use Rattle.procedure.specs.Approach.{measured, read_movement, read_approach}
use Rattle.procedure.specs.Lines.{flow_of, factor, flow, s_st, s_sl, lines_for}
use Rattle.procedure.specs.Pairs.{pair_for}
use Rattle.procedure.specs.Sheet.{lines_at, pair_at, right_at, last_at, sheet_for, sheet}
use Rattle.procedure.proofs.Reading.{is_movement, is_approach}
use Rattle.before_theorems.specs.Before.{of_movement, movement_then, of_approach, approach_then, cycle_then, ByTheTable, cells_by, cells_then}
use Rattle.before_theorems.proofs.Judged.{own, side}

-- a sheet is its entries and those cells
pub sheet_cells : (e : List ℕ) → sheet e ≡ e ++ cells_by (read_approach e) (cycle e)
unfolding sheet_for cells_by lines_at lines_for pair_at pair_for right_at last_at
sheet_cells e = append_assoc e _ _

-- the approaches that are read from widened entries
module _ (e : List ℕ) where
  movement_read : (m : ℕ) → m < movement_count → movement_then e m ≡ read_movement (widened e) m
  unfolding movement_then movement_entry
  movement_read m few =
      let had : (j : ℕ) → j < movement_before → of_movement e m j ≡ movement_entry (widened e) m j = λ j h. sym (own e m j few h) in
      is_movement (widened e) m (movement_then e m) (had lanes_no (lit< tt)) (had volume_no (lit< tt)) (had ideal_no (lit< tt)) (had lost_no (lit< tt))
      (had green_no (lit< tt)) (sym (of_factor e m few))

  approach_read : (k : ℕ) → k < approach_count → approach_then e k ≡ read_approach (widened e) k
  unfolding approach_then approach_entry
  approach_read k few =
      let had : (j : ℕ) → j < approach_entries → of_approach e k j ≡ approach_entry (widened e) k j = λ j h. sym (side e k j few h) in
      is_approach (widened e) k (approach_then e k) (movement_read (left k) (omega arith)) (movement_read (through k) (omega arith))
      (movement_read (right k) (omega arith)) (had shared_no (lit< tt)) (had walkers_no (lit< tt)) (had button_no (lit< tt)) (had crossing_no (lit< tt))
      (had free_no (lit< tt))

  cycle_read : cycle_then e ≡ cycle (widened e)
  cycle_read = sym (past_movements e (cycle_entry - approaches_from) (lit< tt))

-- cells go by the four approaches and the cycle alone
same_cells :
    (one other : ℕ → Approach) (CL : ℕ) → one EB ≡ other EB → one WB ≡ other WB → one NB ≡ other NB → one SB ≡ other SB
    → cells_by one CL ≡ cells_by other CL
unfolding cells_by
same_cells one other CL eb wb nb sb = rw (eb, wb, nb, sb)

-- so past its entries the sheet of widened entries is the sheet of before
pub rating_kept : (e : List ℕ) → drop entry_count (sheet (widened e)) ≡ cells_then e
unfolding cells_then
rating_kept e =
    let read = approach_read e in
    ap (drop entry_count) (sheet_cells (widened e))
    ∙ drop_at (widened e) _ entry_count (length-widened e)
    ∙ sym
    (rw (cycle_read e)
    (same_cells (approach_then e) (read_approach (widened e)) (cycle (widened e)) (read EB (lit< tt)) (read WB (lit< tt)) (read NB (lit< tt))
    (read SB (lit< tt))))

-- and where no lane factor is measured, lanes carry what they carried by the table's factors
pub by_the_table : (s : Approach) → ByTheTable s
unfolding flow factor s_st s_sl flow_of factor_of
by_the_table s =
    record {
      group = λ g none. rw (eq-eqb (measured s g) 0 none);
      straight = λ none. rw (eq-eqb (measured s Through) 0 none);
      lefts = λ none. rw (eq-eqb (measured s Left) 0 none);
    }
