-- "What a call may say no to": the refusals' numbers, and the order in which the checks answer.
use Rattle.std.specs.Prelude.{Bool, cond, ℕ, zero, suc}
use Rattle.answers.specs.declared.Refusal.{Refusal}
use Rattle.answers.specs.declared.Refusal.TheVariants.{Size, Entry, Range, Shared, NoLane, File, Store, Travel, Owner, Full}
use Rattle.answers.specs.declared.Place.{Place}
use Rattle.answers.specs.declared.Place.TheVariants.{OfNothing, OfEntries, OfApproaches, OfMovements, OfBytes, OfRecord, OfStudy}
use Rattle.answers.specs.declared.Answer.{Answer}
use Rattle.answers.specs.declared.Answer.TheVariants.{Accepted, Refused}

pub record Row : Type 0 where
  pub number : ℕ
  pub place : Place

infix 40 ◌at◌
abbrev pub ◌at◌ : ℕ → Place → Row
number at place = record { number = number; place = place }

-- the table: a row for each name, its number and what its place is a place of; "then 7 STORE and 8 TRAVEL", of a record;
-- "9 OWNER .. place the site", of an open study, and "10 FULL"
abbrev pub row_of : Refusal → Row
row_of Size = 1 at OfNothing
row_of Entry = 2 at OfNothing
row_of Range = 3 at OfEntries
row_of Shared = 4 at OfApproaches
row_of NoLane = 5 at OfMovements
row_of File = 6 at OfBytes
row_of Store = 7 at OfRecord
row_of Travel = 8 at OfRecord
row_of Owner = 9 at OfStudy
row_of Full = 10 at OfNothing

abbrev pub refusal_number : Refusal → ℕ
refusal_number why = (row_of why).number

abbrev pub refusal_place : Refusal → Place
refusal_place why = (row_of why).place

abbrev pub number_of : Answer → ℕ
number_of Accepted = 0
number_of (Refused why place) = refusal_number why

abbrev pub place_of : Answer → ℕ
place_of Accepted = 0
place_of (Refused why place) = place

-- "The first that applies, in this order, is answered."
infixr 40 ◌then◌
abbrev pub ◌then◌ : Answer → Answer → Answer
Accepted then next = next
Refused why place then next = Refused why place

-- the check is refused, for this reason and at this place, if the test says so
abbrev pub refuse_if : Bool → Refusal → ℕ → Answer
refuse_if bad why place = cond bad (Refused why place) Accepted

-- checks in order: of `left` of them from number i on, the first that refuses answers
unfoldable pub in_turn : (ℕ → Answer) → ℕ → ℕ → Answer
in_turn check i zero = Accepted
in_turn check i (suc left) = check i then in_turn check (suc i) left

-- "lowest": of `left` indices from i on, the first that is bad is the place
abbrev pub lowest : (ℕ → Bool) → Refusal → ℕ → ℕ → Answer
lowest bad why i left = in_turn (λ j. refuse_if (bad j) why j) i left

-- what a call leaves in a lent list: the new list if it is accepted, else the list as it was
abbrev pub left_by : {A : Type 0} → Answer → A → A → A
left_by Accepted new old = new
left_by (Refused why place) new old = old
