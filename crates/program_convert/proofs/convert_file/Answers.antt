-- A file that is refused, one with too many sites, and one that is written.
use Rattle.program_outcome.proofs.Laws.{left_saying}
use Rattle.text.proofs.Laws.{placed_nothing}
use Rattle.program_convert.specs.Run.{convert_of}
use Rattle.program_convert.proofs.Laws.{many_said, few_written}
use mathlib.Core.Path.{sym, ◌∙◌}
use mathlib.Core.List.{[]}
use native.Mathlib.Omega.{arith}
use Rattle.program_convert.proofs.convert_file.Goals as goal

pub returns-in_default : goal.returns-in_default
unfolding convert_of
returns-in_default c =
    let bad = sym c.check-answer.ensures ∙ c.in_default.is in
    rw (bad, c.said.ensures) record {
      left = left_saying (rw c.in_default.is at c.say_answer_of.ensures);
      placed = placed_nothing _ 0;
    }

pub returns-then-sites-gt-MOST_SITES : goal.returns-then-sites-gt-MOST_SITES
returns-then-sites-gt-MOST_SITES c =
    let good = sym c.check-answer.ensures ∙ c.in-Accepted.is in
    let args = c.args in
    let is = many_said args.name.now args.file.now good (omega (arith, c.count-sites.ensures.0, c.if-sites-gt-MOST_SITES.true)) in
    rw (is, c.said-then-sites-gt-MOST_SITES.ensures) record {
      left = left_saying c.say_many.ensures;
      placed = placed_nothing _ 0;
    }

pub convert-writes-requires : goal.convert-writes-requires
convert-writes-requires c =
    (sym c.check-answer.ensures ∙ c.in-Accepted.is, c.count-sites.ensures.0, c.if-sites-gt-MOST_SITES.false)

pub returns : goal.returns
returns c =
    let good = sym c.check-answer.ensures ∙ c.in-Accepted.is in
    let args = c.args in
    let is = few_written args.name.now args.file.now good (omega (arith, c.count-sites.ensures.0, c.if-sites-gt-MOST_SITES.false)) in
    let written = c.convert-writes.ensures in
    rw (is, c.written.ensures) record {
      left = record { prints = placed_nothing [] 0; writes = omega (arith, written.next); says = placed_nothing _ 0 };
      placed = written;
    }
