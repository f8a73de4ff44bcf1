-- Each turn of the loop takes one term off and adds the next. Where a term is 0 the sum so far is the sum of all.
use Rattle.line_decay.proofs.Laws.{next_turn, ends, term_most, summed}
use Rattle.line_decay.specs.Decay.{term, turns}
use borrow.Author.Tests.{eqb-true}
use native.Mathlib.Omega.{arith}
use mathlib.Core.Path.{◌≡◌, refl, ◌∙◌, sym, ap}
use Prim.Native.Nat.{ℕ, ◌+◌, ◌-◌, ◌*◌, ◌<◌, ◌≤◌}
use Rattle.line_decay.proofs.series.Invariants.{Partial}
use Rattle.line_decay.proofs.series.Goals as goal

at : (r : ℕ) {t s j : ℕ} → r < 7200 → j ≤ 6 → t ≡ term r (2 * j) → s ≡ turns r j → Partial r t s j
at r {t} {s} {j} h few e f =
    let b = summed r h j in
    record { few = few; at_term = e; at_sum = f; next = omega (arith, b.next); high = omega (arith, b.high) }

step :
    {r t s j o u : ℕ} → r < 7200 → Partial r t s j → j < 6 → o ≡ term r (2 * j + 1) → u ≡ term r (2 * j + 1 + 1)
    → Partial r u (s - o + u) (j + 1)
step {r} {t} {s} {j} {o} {u} small p h odd even =
    let two : 2 * j + 1 + 1 ≡ 2 * j + 2 = omega arith in
    let twice : 2 * j + 1 + 1 ≡ 2 * (j + 1) = omega arith in
    at r small (omega arith) (rw twice at even) (rw (next_turn, ← p.at_sum, ← odd, ← two, ← even))

pub loop-j-init : goal.loop-j-init
unfolding term turns
loop-j-init c = at c.args.r c.requires (omega arith) refl refl

pub returns-then-ended : goal.returns-then-ended
returns-then-ended c =
    let turn = c.loop-j in
    turn.invariant.at_sum ∙ sym (ends _ turn.j 6 turn.invariant.few (eqb-true _ _ (sym c.ended.ensures ∙ c.if-ended.true)))

pub overflow_add-sum : goal.overflow_add-sum
overflow_add-sum c =
    omega (arith, term_most c.args.r (2 * c.loop-j.j + 1 + 1) c.requires)

pub loop-j-preserved : goal.loop-j-preserved
loop-j-preserved c =
    step c.requires c.loop-j.invariant (omega arith) c.next_term-odd.ensures c.next_term-term.ensures

pub returns : goal.returns
returns c =
    let e : c.loop-j.j ≡ 6 = omega arith in
    c.loop-j.invariant.at_sum ∙ ap (turns _) e
