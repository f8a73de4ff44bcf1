use Rattle.entries.proofs.Laws.{all_accepted}
use Rattle.layout.specs.Entries.{entry_count}
use mathlib.Core.Path.{sym, ◌∙◌}
use Rattle.entries.proofs.check_ranges.Goals as goal

pub returns-then-all_in_range : goal.returns-then-all_in_range
returns-then-all_in_range c = sym (all_accepted _ c.args.kind 0 entry_count (sym c.all_in_range.ensures ∙ c.if-all_in_range.true))
