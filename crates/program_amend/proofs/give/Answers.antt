-- Without a change made nothing is given; with one, what the two calls give.
use Rattle.text.proofs.Laws.{placed_nothing}
use mathlib.Core.Path.{refl}
use borrow.Author.Tests.{not-true, not-false}
use Rattle.program_amend.proofs.give.Goals as goal

pub returns-then-not-given : goal.returns-then-not-given
returns-then-not-given c =
    let none = not-true c.args.given.made c.if-not-given.true in
    rw (none, c.said.ensures) record {
      placed = placed_nothing _ 0;
      placed_2 = placed_nothing _ 0;
      says_value = refl;
    }

pub print_changes-prints-requires : goal.print_changes-prints-requires
print_changes-prints-requires c = c.requires.2 (not-false _ c.if-not-given.false)

pub write_site-writes-requires : goal.write_site-writes-requires
write_site-writes-requires c =
    let pre = c.requires in
    (pre.0, pre.1)

pub returns : goal.returns
returns c =
    let some = not-false c.args.given.made c.if-not-given.false in
    rw some record {
      placed = c.print_changes-prints.ensures;
      placed_2 = c.write_site-writes.ensures;
      says_value = refl;
    }
