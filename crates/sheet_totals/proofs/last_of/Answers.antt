use Rattle.procedure.specs.Sheet.{last_of}
use Rattle.line_bounds.proofs.Order.{larger}
use Rattle.sheet_totals.proofs.last_of.Goals as goal

pub returns : goal.returns
unfolding last_of
returns c =
    rw (
      c.letter_of.ensures,
      c.icu_of-icu.ensures,
      larger c.args.combined c.max-right.result c.max-required.ensures,
      larger c.max.result c.max-2.result c.max-right.ensures,
      larger c.args.rights.nb c.args.rights.sb c.max-2.ensures,
      larger c.args.rights.eb c.args.rights.wb c.max.ensures,
    )
