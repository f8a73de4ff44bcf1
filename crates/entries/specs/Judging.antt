-- "What a call may say no to", of a list of entries: a definition for each row of the table that speaks of entries.
use Rattle.std.specs.Prelude.{Bool, not, ◌&&◌, ◌||◌, List, ℕ, ◌/◌, ltb, eqb, length, get_or}
use Rattle.answers.specs.declared.Answer.{Answer}
use Rattle.answers.specs.declared.Refusal.{Refusal}
use Rattle.answers.specs.declared.Refusal.TheVariants.{Size, Range as OutOfRange, Shared as BadlyShared, NoLane as Unserved}
use Rattle.answers.specs.Answers.{◌then◌, refuse_if, lowest}
use Rattle.kinds.specs.declared.Group.{Group}
use Rattle.kinds.specs.declared.Group.TheVariants.{Left, Through, Right}
use Rattle.kinds.specs.Kinds.{in_range, kind_at, group_of}
use Rattle.layout.specs.declared.Worksheet.{Worksheet}
use Rattle.layout.specs.declared.Worksheet.TheVariants.{Junction, Point}
use Rattle.layout.specs.Entries.{approach_count, group_count, movement_count, entry_count, left, through}
use Rattle.entries.specs.declared.Fault.{Fault}
use Rattle.entries.specs.declared.Fault.TheVariants.{Range, Shared, NoLane}
use Rattle.entries.specs.Layout.{lanes, volume, shared}

-- 1 SIZE: entries are not 93 numbers; place 0
unfoldable pub size_answer : List ℕ → Answer
size_answer e = refuse_if (not (eqb (length e) entry_count)) Size 0

-- 3 RANGE: "an entry outside its range"; place "lowest such entry"
unfoldable pub outside : List ℕ → ℕ → Bool
outside e i = not (in_range (kind_at i) (get_or e i 0))

-- 4 SHARED: "shared lane with left lanes above 0 or through lanes 0"; place "lowest approach". On the sheet of a single point,
-- Request Seven, "for any shared lane"
unfoldable pub badly_shared : Worksheet → List ℕ → ℕ → Bool
badly_shared Junction e a = eqb (shared e a) 1 && (ltb 0 (lanes e (left a)) || eqb (lanes e (through a)) 0)
badly_shared Point e a = eqb (shared e a) 1

-- lanes that serve a movement beside its own: a shared lane the left, the through lanes the right
unfoldable pub other_lanes : List ℕ → ℕ → Group → ℕ
other_lanes e a Left = shared e a
other_lanes e a Through = 0
other_lanes e a Right = lanes e (through a)

-- 5 NOLANE: "left volume, no left lane, not shared; through volume, no through lane;
-- right volume, neither right nor through lane"; place "lowest movement"
unfoldable pub unserved : List ℕ → ℕ → Bool
unserved e m = ltb 0 (volume e m) && (eqb (lanes e m) 0 && eqb (other_lanes e (m / group_count) (group_of m)) 0)

-- a fault, refused by its name in the table
abbrev pub refusal_of : Fault → Refusal
refusal_of Range = OutOfRange
refusal_of Shared = BadlyShared
refusal_of NoLane = Unserved

-- what each fault is looked for in: entries, approaches, movements
abbrev pub count_of : Fault → ℕ
count_of Range = entry_count
count_of Shared = approach_count
count_of NoLane = movement_count

abbrev pub faulty : Worksheet → List ℕ → Fault → ℕ → Bool
faulty k e Range i = outside e i
faulty k e Shared a = badly_shared k e a
faulty k e NoLane m = unserved e m

-- the lowest of them, or acceptance
abbrev pub each_answer : Worksheet → List ℕ → Fault → Answer
each_answer k e fault = lowest (faulty k e fault) (refusal_of fault) 0 (count_of fault)

-- "The first that applies, in this order, is answered": of entries for a sheet of kind k
unfoldable pub judged_for : Worksheet → List ℕ → Answer
judged_for k e = size_answer e then each_answer k e Range then each_answer k e Shared then each_answer k e NoLane

-- a junction's
abbrev pub judged : List ℕ → Answer
judged e = judged_for Junction e
