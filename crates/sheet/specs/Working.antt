-- What the filling knows on its way: right totals and pairs of a sheet's entries.
use Rattle.std.specs.Prelude.{◌≡◌, List, ◌++◌, ℕ, ◌≤◌}
use Rattle.layout.specs.declared.Worksheet.{Worksheet}
use Rattle.layout.specs.Entries.{EB, WB, NB, SB}
use Rattle.procedure.specs.Pairs.{pick_of, picked_time}
use Rattle.procedure.specs.Sheet.{pair_at, right_at, last_at}
use Rattle.line_bounds.specs.Bounds.{most_picked}
use Rattle.sheet_pairs.specs.Cells.{pair_cells}
use Rattle.sheet_pairs.specs.declared.Pair.{Pair}
use Rattle.sheet_totals.specs.declared.Rights.{Rights}

-- the pairs' cells and the last eight
abbrev pub rest_at : Worksheet → List ℕ → List ℕ
rest_at k e = pair_at k e EB WB ++ pair_at k e NB SB ++ last_at k e

-- the four right totals
pub record RightsAt (k : Worksheet) (e : List ℕ) (r : Rights) : Type 0 where
  pub eb : r.eb.0 ≡ right_at k e EB WB SB NB (pair_at k e EB WB) (pair_at k e NB SB)
  pub wb : r.wb.0 ≡ right_at k e WB EB NB SB (pair_at k e EB WB) (pair_at k e NB SB)
  pub nb : r.nb.0 ≡ right_at k e NB SB EB WB (pair_at k e NB SB) (pair_at k e EB WB)
  pub sb : r.sb.0 ≡ right_at k e SB NB WB EB (pair_at k e NB SB) (pair_at k e EB WB)

-- a pair that picks one of its totals, and no large one
pub record SmallPair (x : Pair) : Type 0 where
  pub few : pick_of (pair_cells x) ≤ 2
  pub picked : picked_time (pair_cells x) ≤ most_picked
