-- `study_lines::put_line`. A rated site's line, or a refused site's.
use native.Mathlib.Omega.{arith}
use Rattle.study_lines.proofs.put_line.Goals as goal

pub put_rated-requires : goal.put_rated-requires
put_rated-requires c = (rw c.in-Ok.is at c.requires.0, omega arith)

pub returns-in-Ok : goal.returns-in-Ok
returns-in-Ok c = rw c.in-Ok.is c.put_rated.ensures

pub returns-in-Err : goal.returns-in-Err
returns-in-Err c = rw c.in-Err.is c.put_refused.ensures
