use Rattle.diamond_rules.specs.Lines.{sides_of}
use Rattle.diamond_plans.proofs.sides_of.Goals as goal

pub returns : goal.returns
unfolding sides_of
returns c =
    rw (
      c.isolated_of.ensures,
      c.isolated_of-2.ensures,
      c.alternate_of.ensures,
      c.alternate_of-2.ensures,
      c.combined_of.ensures,
      c.combined_of-2.ensures,
      c.overlap_of.ensures,
      c.overlap_of-2.ensures,
    )
