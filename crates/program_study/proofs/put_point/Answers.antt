use Rattle.point_start.proofs.Laws.{start_sized}
use Rattle.layout.specs.Entries.{entry_count}
use Prim.Native.Nat.{ℕ}
use lib.ListN.{replicate}
use mathlib.Core.Path.{refl, ◌∙◌}
use Rattle.program_study.proofs.put_point.Goals as goal

pub returns : goal.returns
returns c =
    rw (c.start.ensures.entries_after ∙ start_sized (replicate {A = ℕ} entry_count 0) refl) at c.put_text.ensures
