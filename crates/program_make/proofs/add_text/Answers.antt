-- `program_make::add_text`. A case for each way that reading can come out.
use Rattle.program_outcome.proofs.Laws.{stops_of, goes_on}
use mathlib.Core.Path.{sym, ◌∙◌}
use Rattle.program_make.proofs.add_text.Goals as goal

pub returns-in-Ok : goal.returns-in-Ok
returns-in-Ok c =
    let is = sym c.read-reading.ensures.value ∙ c.in-Ok.is in
    record {
      says = rw is (goes_on tt);
      all_after = rw is (rw (c.read-reading.ensures.entries_after, is) at c.put_entries.ensures);
    }

pub returns-in-Err : goal.returns-in-Err
returns-in-Err c =
    let is = sym c.read-reading.ensures.value ∙ c.in-Err.is in
    record {
      says = rw is (stops_of _ _ (rw c.in-Err.is at c.say_reading.ensures));
      all_after = rw is;
    }
