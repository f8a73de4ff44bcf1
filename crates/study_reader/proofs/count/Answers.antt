-- `study_reader::count`. The count of an accepted file is the one that stands in it, and is within the limit.
use Rattle.study_format.proofs.Laws.{accepted}
use native.Mathlib.Omega.{arith}
use mathlib.Core.Path.{sym, ◌∙◌}
use Rattle.study_reader.proofs.count.Goals as goal

pub returns-in_default : goal.returns-in_default
returns-in_default c =
    (simp (sym c.check-answer.ensures ∙ c.in_default.is), omega arith)

pub read-requires : goal.read-requires
read-requires c =
    let args = c.args in
    omega (arith, (accepted args.format args.file.now (sym c.check-answer.ensures ∙ c.in-Accepted.is)).size)

pub returns : goal.returns
returns c =
    let args = c.args in
    let is = sym c.check-answer.ensures ∙ c.in-Accepted.is in
    (simp is c.read.ensures, omega (arith, c.read.ensures, (accepted args.format args.file.now is).few))
