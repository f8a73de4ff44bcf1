-- Request Seven, the entries that a single point interchange begins with: "lost time 8,000 ms for lefts, 6,000 for the rest, ideal flow
-- 2,000, cycle 120, else 0".
use Rattle.std.specs.Prelude.{List, ℕ, ◌/◌}
use Rattle.answers.specs.Answers.{left_by}
use Rattle.answers.specs.declared.Answer.{Answer}
use Rattle.lists.specs.Lists.{table}
use Rattle.layout.specs.Entries.{movement_entries, entry_count}
use Rattle.kinds.specs.declared.Group.{Group}
use Rattle.kinds.specs.declared.Group.TheVariants.{Left, Through, Right}
use Rattle.kinds.specs.declared.Kind.{Kind}
use Rattle.kinds.specs.declared.Kind.TheVariants.{Lanes, Volume, IdealFlow, LostTime, MinimumGreen, LaneFactor, Cycle, Storage, TravelTime}
use Rattle.kinds.specs.declared.Kind.TheVariants.{SharedLane, Pedestrians, PushButton, PedestrianTime, FreeRight}
use Rattle.kinds.specs.Kinds.{kind_at, group_of}
use Rattle.entries.specs.Judging.{size_answer}

abbrev pub start_lost : Group → ℕ
start_lost Left = 8_000
start_lost Through = 6_000
start_lost Right = 6_000

-- of a kind of entry, of a movement of a group
abbrev pub start_of : Kind → Group → ℕ
start_of LostTime group = start_lost group
start_of IdealFlow group = 2_000
start_of Cycle group = 120
start_of Lanes group = 0
start_of Volume group = 0
start_of MinimumGreen group = 0
start_of LaneFactor group = 0
start_of SharedLane group = 0
start_of Pedestrians group = 0
start_of PushButton group = 0
start_of PedestrianTime group = 0
start_of FreeRight group = 0
start_of Storage group = 0
start_of TravelTime group = 0

abbrev pub start_at : ℕ → ℕ
start_at i = start_of (kind_at i) (group_of (i / movement_entries))

unfoldable pub start_entries : List ℕ
start_entries = table start_at entry_count

-- "1 for another length", place 0
abbrev pub start_answer : List ℕ → Answer
start_answer d = size_answer d

-- what a lent list holds afterwards
unfoldable pub started : List ℕ → List ℕ
started d = left_by (start_answer d) start_entries d
