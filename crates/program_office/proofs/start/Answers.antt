-- `program_office::start`. A case for each thing that can be found.
use Rattle.program_office.specs.Run.{start_run}
use Rattle.program_target.proofs.Laws.{found_there}
use Rattle.program_outcome.proofs.Laws.{left_saying}
use Rattle.text.specs.Text.{ascii}
use Rattle.text.proofs.Laws.{placed_nothing}
use native.Mathlib.Omega.{arith}
use Rattle.program_office.proofs.start.Goals as goal

pub returns-in-Ok-None : goal.returns-in-Ok-None
unfolding start_run
returns-in-Ok-None c =
    let file = c.put_empty.ensures in
    rw (found_there c.args.found c.in-Ok-None.is (rw c.in-Ok-None.is at c.in-Ok-None.field-0-is), c.written.ensures)
    record {
      left = record { prints = placed_nothing _ 0; writes = omega (arith, file.next); says = placed_nothing _ 0 };
      placed = file;
    }

pub returns-in-Ok-Some : goal.returns-in-Ok-Some
unfolding start_run ascii
returns-in-Ok-Some c =
    rw (found_there c.args.found c.in-Ok-Some.is (rw c.in-Ok-Some.is at c.in-Ok-Some.field-0-is), c.said.ensures)
    record {
      left = left_saying (rw c.word-name.ensures at c.put_named.ensures);
      placed = placed_nothing _ 0;
    }

pub returns-in-Err : goal.returns-in-Err
unfolding start_run
returns-in-Err c =
    rw (c.in-Err.is, c.said-in-Err.ensures)
    record {
      left = left_saying (rw (c.word-name.ensures, c.from.ensures) at c.say.ensures);
      placed = placed_nothing _ 0;
    }
