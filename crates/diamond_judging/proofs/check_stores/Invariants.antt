-- A search from the first: no storage is left behind, and the first that is out of range is answered.
use Rattle.answers.proofs.Laws.{Searched}
use Rattle.answers.specs.Answers.{refuse_if}
use Rattle.answers.specs.declared.Refusal.TheVariants.{Store}
use Rattle.kinds.specs.declared.Kind.TheVariants.{Storage}
use Rattle.kinds.specs.Kinds.{in_range}
use Rattle.layout.specs.Diamond.{storages_from, storage_count}
use Rattle.diamond_rules.specs.Record.{storage}
use mathlib.Core.Bool.{not}
use Prim.Native.Nat.{◌+◌}
use Rattle.diamond_judging.proofs.check_stores.Given as goal

abbrev pub invariant-loop-storage : goal.invariant-loop-storage
invariant-loop-storage l = Searched (λ j. refuse_if (not (in_range Storage (storage l.numbers j))) Store (storages_from + j)) storage_count l.storage
