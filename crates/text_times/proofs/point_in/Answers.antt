-- `text_times::point_in`. The loop's invariant: no point stands among the bytes passed.
use Rattle.text.proofs.Laws.{first_here, first_past, first_none}
use Rattle.text_times.specs.Times.{point, is_point}
use borrow.Author.Tests.{eq-eqb, ne_eqb}
use native.Mathlib.Omega.{arith}
use Rattle.text_times.proofs.point_in.Goals as goal

pub loop-at-init : goal.loop-at-init
loop-at-init c = (omega arith, omega arith)

pub returns-then-word-at-eq46 : goal.returns-then-word-at-eq46
returns-then-word-at-eq46 c =
    (first_here is_point _ _ c.loop-at.invariant.1 (omega arith) (eq-eqb _ point c.if-word-at-eq46.true), omega arith)

pub loop-at-preserved : goal.loop-at-preserved
loop-at-preserved c =
    (omega arith, first_past is_point _ _ c.loop-at.invariant.1 (omega arith) (ne_eqb _ point c.if-word-at-eq46.false))

pub returns : goal.returns
returns c = (first_none is_point _ _ c.loop-at.invariant.1 (omega arith), omega arith)
