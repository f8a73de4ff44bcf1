-- Without folded lefts line 4 is that of line 8's formula; else its products have room and its divisor is not 0.
use Rattle.line_bounds.proofs.Flows.{turning_product, turning_quotient, turning_alike}
use Rattle.procedure.specs.Lines.{turning_t}
use borrow.Author.Tests.{ne_eqb}
use native.Mathlib.Omega.{arith}
use native.Mathlib.Nat.{mul-le-mul, mul-pos}
use mathlib.Core.Path.{◌≡◌}
use Rattle.line_flows.proofs.turning_of.Goals as goal

pub returns-then-left-eq0 : goal.returns-then-left-eq0
returns-then-left-eq0 c = rw (c.if-left-eq0.true, turning_alike) c.straight_turning_of.ensures

pub overflow_mul-result : goal.overflow_mul-result
overflow_mul-result c =
    let p = c.requires in
    omega (arith, (turning_product c.args.through.0 c.args.right.0 c.args.left.0 p.1 p.2).most, mul-le-mul p.0 p.0)

pub overflow_mul-result-2 : goal.overflow_mul-result-2
overflow_mul-result-2 c =
    let p = c.requires in
    omega (arith, mul-le-mul p.0 p.0)

pub nonzero_div-result : goal.nonzero_div-result
nonzero_div-result c = mul-pos (omega arith) (omega arith)

pub overflow_cast-result : goal.overflow_cast-result
overflow_cast-result c =
    let z : c.args.through.0 ≡ 0 → ⊥ = λ none. omega (arith, c.if-left-eq0.false) in
    omega (arith, (turning_quotient c.args.through.0 c.args.right.0 c.args.left.0 z c.requires.1 c.requires.2).most)

pub returns : goal.returns
unfolding turning_t
returns c =
    let z : c.args.through.0 ≡ 0 → ⊥ = λ none. omega (arith, c.if-left-eq0.false) in
    rw (ne_eqb _ _ z)
