-- The right totals, the picked times and the cycle are those of the streets; their sums are small by a street's laws.
use Rattle.entries.proofs.Laws.{as_junction}
use Rattle.procedure.proofs.Fair.{fair_cycle}
use Rattle.sheet.proofs.Laws.{small_street, small_pair, last_assembled}
use lib.Dec.{lit<}
use mathlib.Core.Path.{◌∙◌}
use Rattle.sheet.proofs.last_at.Goals as goal

pub rights_at-rights-requires : goal.rights_at-rights-requires
rights_at-rights-requires c = c.requires

pub combined-both-requires : goal.combined-both-requires
combined-both-requires c =
    let e = c.args.entries.now in (
      small_pair c.args.along.pair (small_street c.args.kind e c.requires.0 (lit< tt) (lit< tt) c.requires.1),
      small_pair c.args.across.pair (small_street c.args.kind e c.requires.0 (lit< tt) (lit< tt) c.requires.2),
    )

pub read_cycle-requires : goal.read_cycle-requires
read_cycle-requires c =
    as_junction c.args.kind c.args.entries.now c.requires.0

pub last_of-requires : goal.last_of-requires
last_of-requires c =
    rw c.read_cycle.ensures (fair_cycle c.args.entries.now (as_junction c.args.kind c.args.entries.now c.requires.0))

pub returns : goal.returns
returns c =
    let r = c.rights_at-rights.ensures in
    c.last_of.ensures
    ∙ rw (c.combined-both.ensures, c.read_cycle.ensures)
    (last_assembled c.args.kind c.args.entries.now c.args.along.pair c.args.across.pair c.requires.1.pair c.requires.2.pair
    c.requires.1.picked c.requires.2.picked r.eb r.wb r.nb r.sb)
