-- `program_open_amend::amend_site`. A refusal is said of the site; accepted, what the sheets differ in is what the amendment changes.
use Rattle.program_open_amend.specs.Run.{amend_site}
use Rattle.program_open_amend.proofs.Laws.{listed}
use Rattle.program_open.proofs.Laws.{gives_refused}
use Rattle.text.proofs.Laws.{placed_nothing}
use mathlib.Core.Path.{sym, ◌∙◌}
use native.Mathlib.Omega.{arith}
use Rattle.program_open_amend.proofs.amend_site.Goals as goal

pub returns-in_default : goal.returns-in_default
unfolding amend_site
returns-in_default c =
    let both = gives_refused _ _ c.in_default.is c.say_answer_of.ensures in record {
      left = rw (← c.office_in-office.ensures, ← c.site_in-site.ensures, ← c.amend-answer.ensures.value, ← c.word-word.ensures) both.0;
      placed = rw (← c.office_in-office.ensures, ← c.site_in-site.ensures, ← c.amend-answer.ensures.value, ← c.word-word.ensures) both.1;
    }

pub returns : goal.returns
unfolding amend_site
returns c =
    let made = rw (c.office_in-office.ensures, c.site_in-site.ensures) at c.amend-answer.ensures in
    let accepted = sym made.value ∙ c.in-Accepted.is in
    let writes = rw made.blocks_after at c.write_study-writes.ensures in
    rw accepted record {
      left = record {
        prints = rw (listed _ _ _ _ _ accepted made.blocks_after) at c.print_changes-prints.ensures;
        writes = omega (arith, writes.next);
        says = placed_nothing _ 0;
      };
      placed = writes;
    }
