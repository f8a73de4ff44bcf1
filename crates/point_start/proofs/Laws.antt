-- What the starting entries are: acceptable for a single point, whose sheet of them is rated 0, letter A.
use mathlib.Core.Path.{◌≡◌, refl}
use mathlib.Core.List.{List}
use Prim.Native.Nat.{ℕ}
use lib.ListN.{length}
use borrow.Author.Tests.{eq-eqb}
use Rattle.answers.specs.Answers.{in_turn}
use Rattle.answers.specs.declared.Answer.TheVariants.{Accepted}
use Rattle.lists.specs.Lists.{table}
use Rattle.layout.specs.declared.Worksheet.TheVariants.{Point}
use Rattle.layout.specs.Entries.{entry_count}
use Rattle.kinds.specs.Kinds.{kind_at}
use Rattle.entries.specs.Layout.{movement_entry, approach_entry}
use Rattle.entries.specs.Judging.{size_answer, outside, badly_shared, other_lanes, unserved, judged_for}
use Rattle.point_start.specs.Start.{start_entries, started}

pub start_accepted : judged_for Point start_entries ≡ Accepted
unfolding in_turn table kind_at movement_entry approach_entry size_answer outside badly_shared other_lanes unserved judged_for start_entries
start_accepted = refl

-- a list of the right length holds them afterwards
pub start_sized : (d : List ℕ) → length d ≡ entry_count → started d ≡ start_entries
unfolding started size_answer
start_sized d sized = rw (eq-eqb (length d) entry_count sized)
