-- The change is made, or it is told why it is not.
use Rattle.program_changes.specs.Changes.{verdict_in}
use Rattle.text.proofs.Laws.{placed_nothing}
use Rattle.std.proofs.Math.Bool.{or-true, or-false}
use mathlib.Core.Path.{sym, ◌∙◌}
use native.Mathlib.Omega.{arith}
use Rattle.program_changes.proofs.step.Goals as goal

pub returns-in-Ok : goal.returns-in-Ok
unfolding verdict_in
returns-in-Ok c =
    let words = c.words_of-asked.ensures in
    let is = rw (words.title, words.kind, words.value) at (sym c.make_change.ensures.value ∙ c.in-Ok.is) in
    rw is record {
      entries = rw c.in-Ok.is at c.make_change.ensures.entries_after;
      made = sym (or-true _);
      says = placed_nothing _ _;
      few = omega arith;
    }

pub returns-in-Err : goal.returns-in-Err
unfolding verdict_in
returns-in-Err c =
    let words = c.words_of-asked.ensures in
    let is = rw (words.title, words.kind, words.value) at (sym c.make_change.ensures.value ∙ c.in-Err.is) in
    rw is record {
      entries = rw c.in-Err.is at c.make_change.ensures.entries_after;
      made = sym (or-false _);
      says = rw (words.title, words.kind, words.value) at c.tell.ensures.0;
      few = c.tell.ensures.1;
    }
