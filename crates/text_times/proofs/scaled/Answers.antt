-- `text_times::scaled`. Each arm is a case of the definition; the last is none of one, two and three digits.
use Rattle.text_times.specs.Times.{scaled}
use mathlib.Core.Path.{◌≡◌}
use borrow.Author.Tests.{ne_eqb}
use native.Mathlib.Omega.{arith}
use Rattle.text_times.proofs.scaled.Goals as goal

pub returns-in-1 : goal.returns-in-1
unfolding scaled
returns-in-1 c =
    let e : c.args.digits ≡ 1 = omega arith in
    rw e

pub returns-in-2 : goal.returns-in-2
unfolding scaled
returns-in-2 c =
    let e : c.args.digits ≡ 2 = omega arith in
    rw e

pub returns-in-3 : goal.returns-in-3
unfolding scaled
returns-in-3 c =
    let e : c.args.digits ≡ 3 = omega arith in
    rw e

pub returns-in_default : goal.returns-in_default
unfolding scaled
returns-in_default c =
    let digits = c.args.digits in
    rw (ne_eqb digits 1 (λ e. omega arith), ne_eqb digits 2 (λ e. omega arith), ne_eqb digits 3 (λ e. omega arith))
