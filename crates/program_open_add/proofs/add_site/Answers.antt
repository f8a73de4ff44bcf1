-- `program_open_add::add_site`. A refusal is said of the study; accepted, the place is printed and the study as added is written.
use Rattle.program_open_add.specs.Run.{add_site}
use Rattle.program_open_add.proofs.Laws.{place_there}
use Rattle.program_open.proofs.Laws.{gives_refused}
use Rattle.text.proofs.Laws.{placed_nothing}
use mathlib.Core.Path.{sym, ◌∙◌}
use native.Mathlib.Omega.{arith}
use Rattle.program_open_add.proofs.add_site.Goals as goal

pub returns-in_default : goal.returns-in_default
unfolding add_site
returns-in_default c =
    let both = gives_refused _ _ c.in_default.is c.say_answer_of.ensures in record {
      left = rw (← c.office_in.ensures, ← c.add-answer.ensures.value, ← c.word-name.ensures) both.0;
      placed = rw (← c.office_in.ensures, ← c.add-answer.ensures.value, ← c.word-name.ensures) both.1;
    }

pub put_place-prints-requires : goal.put_place-prints-requires
put_place-prints-requires c = rw c.add-answer.ensures.place_after (place_there _ _ _)

pub returns : goal.returns
unfolding add_site
returns c =
    let accepted = sym c.add-answer.ensures.value ∙ c.in-Accepted.is in
    rw (← c.office_in.ensures, accepted, ← c.add-answer.ensures.blocks_after, ← c.add-answer.ensures.place_after) record {
      left = record { prints = c.put_place-prints.ensures; writes = omega (arith, c.write_study-writes.ensures.next); says = placed_nothing _ 0 };
      placed = c.write_study-writes.ensures;
    }
