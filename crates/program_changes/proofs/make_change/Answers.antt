-- `program_changes::make_change`. What the words ask for is tried; where one of them is wrong, nothing is.
use Rattle.program_changes.specs.Changes.{verdict_of}
use Rattle.std.proofs.lemmas.Result.{err_from_is_err_and}
use mathlib.Core.Path.{refl, sym}
use Rattle.program_changes.proofs.make_change.Goals as goal

pub try_entry-requires : goal.try_entry-requires
try_entry-requires c = c.in_ok-wanted.ensures.entry_bound

pub returns-in_err-wanted : goal.returns-in_err-wanted
unfolding verdict_of
returns-in_err-wanted c =
    let p = err_from_is_err_and c.from_residual.result c.from_residual.ensures.1 in
    rw (p.1, p.2)
    record {
      value = rw (sym c.in_err-wanted.ensures.value);
      entries_after = refl;
    }

pub returns : goal.returns
unfolding verdict_of
returns c =
    record {
      value = rw (sym c.in_ok-wanted.ensures.value) c.try_entry.ensures.value;
      entries_after = c.try_entry.ensures.entries_after;
    }
