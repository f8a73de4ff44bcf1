-- `study_lines::put_bad_file`. The place stands just past the words.
use Rattle.text.specs.Text.{ascii}
use Rattle.text.proofs.Laws.{number_fits, length-number_then, placed_next}
use native.Mathlib.Omega.{arith}
use Rattle.study_lines.specs.Lines.{line_feed, file_line}
use Rattle.study_lines.proofs.put_bad_file.Goals as goal

pub put_number_then-requires : goal.put_number_then-requires
put_number_then-requires c = number_fits _ _ _ _ (omega arith)

pub returns : goal.returns
unfolding file_line ascii
returns c =
    let args = c.args in
    placed_next c.put_bytes-marked.ensures c.put_number_then.ensures (omega (arith, length-number_then args.place line_feed))
