use Rattle.layout.proofs.Worksheet.last_from.Goals as goal

pub returns-in-Junction : goal.returns-in-Junction
returns-in-Junction c = rw c.in-Junction.is

pub returns-in-Point : goal.returns-in-Point
returns-in-Point c = rw c.in-Point.is
