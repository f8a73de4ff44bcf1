use Rattle.text.proofs.Laws.{placed_nothing}
use Rattle.program_site.proofs.say_site.Goals as goal

pub returns-in-Ok : goal.returns-in-Ok
returns-in-Ok c = rw c.in-Ok.is (placed_nothing _ _)

pub returns-in-Err : goal.returns-in-Err
returns-in-Err c = rw c.in-Err.is c.say_no_site.ensures
