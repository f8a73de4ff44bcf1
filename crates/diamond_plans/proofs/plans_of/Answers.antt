use Rattle.diamond_rules.specs.Lines.{isolated_plan}
use Rattle.line_bounds.proofs.Order.{larger}
use Rattle.diamond_plans.proofs.Laws.{plans_made}
use Rattle.diamond_plans.proofs.plans_of.Goals as goal

pub returns : goal.returns
unfolding isolated_plan
returns c =
    let s = c.args in
    let time = rw (c.combined_of.ensures, c.combined_of-2.ensures) at (larger c.combined_of.result c.combined_of-2.result c.max-time.ensures) in
    let lagging = rw time at c.if_allowed.ensures in
    let leadlag = rw time at c.if_allowed-2.ensures in
    plans_made s.travel.0.0 s.w s.e s.four s.two _ _ _ c.leading_of.ensures lagging leadlag
