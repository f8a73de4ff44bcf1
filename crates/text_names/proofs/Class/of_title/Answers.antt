-- Each class is known by the tests that lead to it; what it holds is computed.
use Rattle.text_names.specs.Names.{class_of}
use borrow.Author.Tests.{lt-ltb, le-ltb}
use lib.Dec.{lit≤}
use native.Mathlib.Omega.{arith}
use Rattle.text_names.proofs.Class.of_title.Goals as goal

pub returns-then-title : goal.returns-then-title
unfolding class_of
returns-then-title c = record { is = rw (lt-ltb _ _ c.if-title.true); from = omega arith; kinds = lit≤ tt }

pub returns-then-title-2 : goal.returns-then-title-2
unfolding class_of
returns-then-title-2 c = record { is = rw (le-ltb _ _ c.if-title.false, lt-ltb _ _ c.if-title-2.true); from = omega arith; kinds = lit≤ tt }

pub returns : goal.returns
unfolding class_of
returns c = record { is = rw (le-ltb _ _ c.if-title.false, le-ltb _ _ c.if-title-2.false); from = omega arith; kinds = lit≤ tt }
