-- The lent cells are as many as a sheet of the kind has.
use mathlib.Core.Path.{sym, ap}
use Rattle.layout.specs.Sheet.{sheet_count}
use Rattle.amend.proofs.renew.Goals as goal

pub renew_from-requires : goal.renew_from-requires
renew_from-requires c =
    let told = c.in-Junction.is in
    (c.requires.0, sym (ap sheet_count told), c.requires.1, c.requires.2)

pub renew_from-requires-in-Point : goal.renew_from-requires-in-Point
renew_from-requires-in-Point c =
    let told = c.in-Point.is in
    (c.requires.0, sym (ap sheet_count told), c.requires.1, c.requires.2)

pub returns-in-Junction : goal.returns-in-Junction
returns-in-Junction c = c.renew_from.ensures

pub returns-in-Point : goal.returns-in-Point
returns-in-Point c = c.renew_from-in-Point.ensures
