use Rattle.diamond_rules.specs.Lines.{side_of}
use Rattle.diamond_sides.proofs.side_at.Goals as goal

pub returns : goal.returns
unfolding side_of
returns c = rw (c.served_at-x.ensures, c.served_at-y.ensures, c.served_at-z.ensures)
