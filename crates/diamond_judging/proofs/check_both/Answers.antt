-- Each junction is asked by itself; a refusal of the west is handed on, one of the east counted on.
use Rattle.diamond_rules.specs.Record.{east as east_entries, both_answer}
use Rattle.diamond_rules.proofs.Laws.{each_place, counted_so}
use Rattle.entries.proofs.Laws.{count_most}
use Rattle.answers.proofs.Laws.{handed_on, passed}
use native.Mathlib.Omega.{arith}
use Rattle.diamond_judging.proofs.check_both.Goals as goal

pub returns-in_default : goal.returns-in_default
unfolding both_answer
returns-in_default c = handed_on _ (rw c.west_of.ensures.0 at c.check_for-west.ensures) c.in_default.is

pub count_on-requires : goal.count_on-requires
count_on-requires c = (
  omega (arith, c.count-before.ensures, count_most c.args.fault),
  rw (c.check_for-east.ensures, c.east_of.ensures.0) (each_place (east_entries c.args.numbers.now) c.args.fault),
)

pub returns : goal.returns
unfolding both_answer
returns c =
    let s = c.args in
    let theirs = rw c.east_of.ensures.0 at c.check_for-east.ensures in
    let on = counted_so (east_entries s.numbers.now) s.fault c.count-before.ensures theirs c.count_on.ensures in
    let ours = rw c.west_of.ensures.0 at c.check_for-west.ensures in
    passed _ ours c.in-Accepted.is on
