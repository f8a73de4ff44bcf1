-- A refusal of the size is handed on and the list kept; accepted, it is written.
use Rattle.entries.proofs.Laws.{size_accepted}
use Rattle.answers.proofs.Laws.{kept, renewed}
use Rattle.point_start.specs.Start.{start_entries, started}
use mathlib.Core.Path.{sym, ◌∙◌}
use Rattle.point_start.proofs.start.Goals as goal

pub returns-in_default : goal.returns-in_default
unfolding started
returns-in_default c =
    let size = c.check_size-size.ensures in
    record {
      value = size;
      entries_after = kept _ _ (sym size ∙ c.in_default.is);
    }

pub put_start-requires : goal.put_start-requires
put_start-requires c = size_accepted _ (sym c.check_size-size.ensures ∙ c.in-Accepted.is)

pub returns : goal.returns
unfolding started
returns c =
    let size = c.check_size-size.ensures in
    record {
      value = size;
      entries_after = c.put_start.ensures ∙ renewed start_entries _ (sym size ∙ c.in-Accepted.is);
    }
