-- Laws of answers as the library tells them: number 0 is accepted, any other a refusal.
use mathlib.Core.Path.{◌≡◌, refl, sym, ◌∙◌}
use Prim.Native.Nat.{◌<◌}
use native.Mathlib.Omega.{arith}
use Rattle.answers.specs.Answers.{left_by, refusal_number}
use Rattle.answers.specs.declared.Refusal.{Refusal}
use Rattle.answers.specs.declared.Refusal.TheVariants.{Size, Entry, Range, Shared, NoLane, File, Store, Travel, Owner, Full}
use Rattle.answers.specs.declared.Answer.{Answer}
use Rattle.answers.specs.declared.Answer.TheVariants.{Accepted, Refused}
use Rattle.answers.proofs.Laws.{renewed}
use Rattle.icu.specs.declared.IcuAnswer.{IcuAnswer}
use Rattle.icu.specs.Told.{told}
use Rattle.icu_theorems.specs.Outcomes.{Yes, No}

-- no refusal has number 0
some_number : (why : Refusal) → 0 < refusal_number why
some_number Size = omega arith
some_number Entry = omega arith
some_number Range = omega arith
some_number Shared = omega arith
some_number NoLane = omega arith
some_number File = omega arith
some_number Store = omega arith
some_number Travel = omega arith
some_number Owner = omega arith
some_number Full = omega arith

pub told_yes : {said : IcuAnswer} (answer : Answer) → said ≡ told answer → Yes said → answer ≡ Accepted
told_yes Accepted is granted = refl
told_yes {said} (Refused why place) is granted =
    let number : said.number ≡ refusal_number why = rw is in
    absurd (omega (arith, some_number why, number, granted))

-- what is left by an answer that was told as a refusal, and by one that was told as accepted

pub told_no : {A : Type 0} {said : IcuAnswer} {left : A} (answer : Answer) (new old : A) → said ≡ told answer → left ≡ left_by answer new old
    → No said → left ≡ old
told_no {said = said} Accepted new old is leaves refused =
    let number : said.number ≡ 0 = rw is in
    absurd (omega (arith, number, refused))
told_no (Refused why place) new old is leaves refused = leaves

pub told_new : {A : Type 0} {said : IcuAnswer} {left : A} {answer : Answer} (new old : A) → said ≡ told answer → left ≡ left_by answer new old
    → answer ≡ Accepted → Yes said × (left ≡ new)
told_new new old is leaves accepted = (rw (is, accepted), leaves ∙ sym (renewed new old accepted))
