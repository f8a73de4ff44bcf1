-- The front and the rest are put one after the other; together they are the sheet.
use Rattle.answers.specs.declared.Answer.TheVariants.{Accepted}
use Rattle.entries.specs.Judging.{judged}
use Rattle.entries.proofs.Laws.{as_junction, accepted_count}
use Rattle.layout.specs.Entries.{entry_count, EB, WB, NB, SB}
use Rattle.layout.specs.Sheet.{pairs_from}
use Rattle.line_stages.specs.Cells.{cells_for}
use Rattle.lists.proofs.Laws.{over_then, over_whole}
use Rattle.sheet_street.proofs.Laws.{cells_at}
use Rattle.sheet.specs.Working.{rest_at}
use Rattle.sheet.proofs.Laws.{both_count, rest_length, sheet_assembled}
use lib.Dec.{lit<}
use lib.ListN.{length, length-append}
use mathlib.Core.List.{◌++◌}
use mathlib.Core.Path.{◌≡◌, refl, ◌∙◌}
use native.Mathlib.Omega.{arith}
use Rattle.sheet.proofs.write_fresh.Goals.{Start}
use Rattle.sheet.proofs.write_fresh.Goals as goal

-- the entries are acceptable for a junction, too
good : (s : Start) → judged s.args.entries.now ≡ Accepted
good s = as_junction s.args.kind s.args.entries.now s.requires.0

pub lines_at-eb-requires : goal.lines_at-eb-requires
lines_at-eb-requires c = (good (goal.at.lines_at-eb-requires c).Start, lit< tt, lit< tt)

pub lines_at-wb-requires : goal.lines_at-wb-requires
lines_at-wb-requires c = (good (goal.at.lines_at-wb-requires c).Start, lit< tt, lit< tt)

pub lines_at-nb-requires : goal.lines_at-nb-requires
lines_at-nb-requires c = (good (goal.at.lines_at-nb-requires c).Start, lit< tt, lit< tt)

pub lines_at-sb-requires : goal.lines_at-sb-requires
lines_at-sb-requires c = (good (goal.at.lines_at-sb-requires c).Start, lit< tt, lit< tt)

pub put_front-requires : goal.put_front-requires
put_front-requires c =
    (c.requires.1, accepted_count _ (good (goal.at.put_front-requires c).Start))

pub street_at-along-requires : goal.street_at-along-requires
street_at-along-requires c =
    record {
      entries_value = (good (goal.at.street_at-along-requires c).Start, lit< tt, lit< tt);
      lines_at = (c.lines_at-eb.ensures, c.lines_at-wb.ensures);
    }

pub street_at-across-requires : goal.street_at-across-requires
street_at-across-requires c =
    record {
      entries_value = (good (goal.at.street_at-across-requires c).Start, lit< tt, lit< tt);
      lines_at = (c.lines_at-nb.ensures, c.lines_at-sb.ensures);
    }

pub put_streets-requires : goal.put_streets-requires
put_streets-requires c =
    record {
      entries_value = (c.requires.0, c.sheet-1.given ∙ c.requires.1);
      street_at = (c.street_at-along.ensures, c.street_at-across.ensures);
    }

pub returns : goal.returns
returns c =
    let k = c.args.kind in
    let d = c.args.sheet.now in
    let e = c.args.entries.now in
    let one = c.lines_at-eb in
    let two = c.lines_at-wb in
    let three = c.lines_at-nb in
    let last = c.lines_at-sb in
    let along = cells_for k one.result ++ cells_for k two.result in
    let across = cells_for k three.result ++ cells_for k last.result in
    let long : length e ≡ entry_count = accepted_count e (good (goal.at.returns c).Start) in
    let first = both_count k one.result two.result in
    let second = both_count k three.result last.result in
    let put : length (e ++ along ++ across) ≡ pairs_from k = omega (arith, long, first, second, length-append (e ++ along) across, length-append e along) in
    over_then d 0 (e ++ along ++ across) (rest_at k e) c.put_front.ensures c.put_streets.ensures
    (omega (arith, put)) (omega (arith, c.requires.1, rest_length k e))
    ∙ over_whole d (e ++ along ++ across ++ rest_at k e) (omega (arith, c.requires.1, put, rest_length k e, length-append (e ++ along ++ across) (rest_at k e)))
    ∙ sheet_assembled k e (cells_at k e EB WB one.ensures) (cells_at k e WB EB two.ensures)
    (cells_at k e NB SB three.ensures) (cells_at k e SB NB last.ensures) refl refl refl
