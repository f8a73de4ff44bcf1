-- The cells of both approaches' lines are the sheet's; the pair's cells are those of the lines.
use Rattle.entries.specs.Layout.{cycle}
use Rattle.entries.proofs.Laws.{accepted_count}
use Rattle.procedure.specs.Approach.{read_approach}
use Rattle.procedure.specs.Sheet.{lines_at, pair_at}
use Rattle.procedure.proofs.Fair.{fair, fair_cycle}
use Rattle.line_stages.proofs.Laws.{cells_are_lines}
use Rattle.sheet_street.proofs.Laws.{whole_bounded}
use Rattle.sheet_street.proofs.street_at.Goals as goal

pub either_shares-requires : goal.either_shares-requires
either_shares-requires c =
    (accepted_count _ c.requires.entries_value.0, c.requires.entries_value.1, c.requires.entries_value.2)

pub pair_of-pair-requires : goal.pair_of-pair-requires
pair_of-pair-requires c =
    let e = c.args.entries.now in
    let one = read_approach e c.args.a in
    let other = read_approach e c.args.o in
    rw (c.requires.lines_at.0, c.requires.lines_at.1) (
      whole_bounded c.args.kind one other (cycle e) (fair e c.requires.entries_value.0 c.args.a c.requires.entries_value.1) (fair_cycle e c.requires.entries_value.0),
      whole_bounded c.args.kind other one (cycle e) (fair e c.requires.entries_value.0 c.args.o c.requires.entries_value.2) (fair_cycle e c.requires.entries_value.0),
    )

pub returns : goal.returns
unfolding lines_at pair_at
returns c =
    let e = c.args.entries.now in
    let one = read_approach e c.args.a in
    let other = read_approach e c.args.o in
    let k = c.args.kind in
    record {
      first = rw c.requires.lines_at.0 (cells_are_lines k one other (cycle e));
      second = rw c.requires.lines_at.1 (cells_are_lines k other one (cycle e));
      pair =
          rw (← cells_are_lines k one other (cycle e), ← cells_are_lines k other one (cycle e), ← c.either_shares.ensures)
          (rw (c.requires.lines_at.0, c.requires.lines_at.1) at c.pair_of-pair.ensures.result_value);
      picked = c.pair_of-pair.ensures.picked_value;
    }
