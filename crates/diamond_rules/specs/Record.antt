-- Request Two's record: "the west junction's entries, the east's (same cycle ..), storages .., travel time", and what is refused.
use Rattle.std.specs.Prelude.{not, List, ℕ, ◌+◌, eqb, length, get_or, take, drop}
use Rattle.answers.specs.declared.Answer.{Answer}
use Rattle.answers.specs.declared.Answer.TheVariants.{Accepted, Refused}
use Rattle.answers.specs.declared.Refusal.TheVariants.{Size, Range as OutOfRange, Store, Travel}
use Rattle.answers.specs.Answers.{◌then◌, refuse_if, in_turn}
use Rattle.layout.specs.declared.Worksheet.TheVariants.{Junction}
use Rattle.layout.specs.Entries.{entry_count}
use Rattle.layout.specs.Diamond.{east_from, east_cycle, storages_from, storage_count, travel_place, record_count, diamond_count}
use Rattle.kinds.specs.declared.Kind.TheVariants.{Storage, TravelTime}
use Rattle.kinds.specs.Kinds.{in_range}
use Rattle.entries.specs.declared.Fault.{Fault}
use Rattle.entries.specs.declared.Fault.TheVariants.{Range, Shared, NoLane}
use Rattle.entries.specs.Layout.{cycle}
use Rattle.entries.specs.Judging.{count_of, each_answer}

-- the entries of the west junction and of the east
unfoldable pub west : List ℕ → List ℕ
west r = take entry_count r

unfoldable pub east : List ℕ → List ℕ
east r = take entry_count (drop east_from r)

-- "storages 1–999 for WB left, EB left, the road eastbound (west ramp's left) and westbound": number k of them
abbrev pub storage : List ℕ → ℕ → ℕ
storage r k = get_or r (storages_from + k) 0

-- "travel time 0–60,000 ms"
abbrev pub travel : List ℕ → ℕ
travel r = get_or r travel_place 0

-- "the east's places counted on"
abbrev pub counted_on : ℕ → Answer → Answer
counted_on before Accepted = Accepted
counted_on before (Refused why place) = Refused why (before + place)

-- "3 to 5 over both junctions": what each is judged by, the west's places first
unfoldable pub both_answer : List ℕ → Fault → Answer
both_answer r fault = each_answer Junction (west r) fault then counted_on (count_of fault) (each_answer Junction (east r) fault)

-- "same cycle, else 3" at its place, 185
unfoldable pub cycles_answer : List ℕ → Answer
cycles_answer r = refuse_if (not (eqb (cycle (west r)) (cycle (east r)))) OutOfRange east_cycle

-- "then 7 STORE and 8 TRAVEL out of range, lowest place"
unfoldable pub stores_answer : List ℕ → Answer
stores_answer r = in_turn (λ k. refuse_if (not (in_range Storage (storage r k))) Store (storages_from + k)) 0 storage_count

unfoldable pub travel_answer : List ℕ → Answer
travel_answer r = refuse_if (not (in_range TravelTime (travel r))) Travel travel_place

-- "The first that applies, in this order, is answered.": of two acceptable junctions with one cycle, and of the whole record
unfoldable pub junctions_answer : List ℕ → Answer
junctions_answer r = both_answer r Range then cycles_answer r then both_answer r Shared then both_answer r NoLane

unfoldable pub own_answer : List ℕ → Answer
own_answer r = stores_answer r then travel_answer r

-- "1 for another length"
unfoldable pub record_size : List ℕ → Answer
record_size r = refuse_if (not (eqb (length r) record_count)) Size 0

unfoldable pub judged_record : List ℕ → Answer
judged_record r = record_size r then junctions_answer r then own_answer r

-- the answer to rating a record, in a list that holds d
unfoldable pub cells_size : List ℕ → Answer
cells_size d = refuse_if (not (eqb (length d) diamond_count)) Size 0

unfoldable pub diamond_answer : List ℕ → List ℕ → Answer
diamond_answer r d = cells_size d then judged_record r
