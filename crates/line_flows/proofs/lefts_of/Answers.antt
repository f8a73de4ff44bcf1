use lib.Dec.{lit≤}
use borrow.Author.Tests.{eq-eqb, ne_eqb}
use Rattle.procedure.specs.Lines.{s_sl}
use Rattle.kinds.specs.declared.Group.TheVariants.{Left}
use Rattle.line_flows.proofs.lefts_of.Goals as goal

pub flow_of-requires : goal.flow_of-requires
flow_of-requires c =
    let left = c.requires.0.group Left in
    (left.ideal.most, rw c.new.ensures (lit≤ tt), left.measured.most, lit≤ tt)

pub returns-then-s-eq1 : goal.returns-then-s-eq1
unfolding s_sl
returns-then-s-eq1 c = rw (eq-eqb _ _ c.if-s-eq1.true, ← c.new.ensures) c.flow_of.ensures

pub returns : goal.returns
unfolding s_sl
returns c = rw (ne_eqb _ _ c.if-s-eq1.false) c.requires.1
