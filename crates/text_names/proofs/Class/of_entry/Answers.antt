-- Each class is known by the tests that lead to it; what it holds is computed.
use Rattle.text_names.specs.Names.{class_at}
use borrow.Author.Tests.{lt-ltb, le-ltb}
use lib.Dec.{lit≤}
use native.Mathlib.Omega.{arith}
use Rattle.text_names.proofs.Class.of_entry.Goals as goal

pub returns-then-entry : goal.returns-then-entry
unfolding class_at
returns-then-entry c = record { is = rw (lt-ltb _ _ c.if-entry.true); from = omega arith; before = lit≤ tt; some = lit≤ tt; kinds = lit≤ tt }

pub returns-then-entry-2 : goal.returns-then-entry-2
unfolding class_at
returns-then-entry-2 c =
    record {
      is = rw (le-ltb _ _ c.if-entry.false, lt-ltb _ _ c.if-entry-2.true);
      from = omega arith;
      before = lit≤ tt;
      some = lit≤ tt;
      kinds = lit≤ tt;
    }

pub returns : goal.returns
unfolding class_at
returns c =
    record {
      is = rw (le-ltb _ _ c.if-entry.false, le-ltb _ _ c.if-entry-2.false);
      from = omega arith;
      before = lit≤ tt;
      some = lit≤ tt;
      kinds = lit≤ tt;
    }
