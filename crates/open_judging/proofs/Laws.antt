-- Three checks and a fourth: what was told of the three is handed on where it refuses, and else the fourth answers.
use mathlib.Core.Path.{◌≡◌, refl, sym, ◌∙◌}
use Prim.Native.Nat.{ℕ}
use Rattle.answers.specs.Answers.{◌then◌}
use Rattle.answers.specs.declared.Refusal.{Refusal}
use Rattle.answers.specs.declared.Answer.{Answer}
use Rattle.answers.specs.declared.Answer.TheVariants.{Accepted, Refused}
use Rattle.answers.proofs.Laws.{handed_on, passed, both_accepted}

-- what was told of three checks in order
pub record Told (r a b c : Answer) : Type 0 where
  pub is : r ≡ ((a then b) then c)

pub told : {r x one two three a b c : Answer} → r ≡ (x then three) → x ≡ (one then two) → one ≡ a → two ≡ b → three ≡ c → Told r a b c
told last both first second third = record { is = last ∙ rw (both, first, second, third) }

joined : (a b c d : Answer) → (((a then b) then c) then d) ≡ (a then b then c then d)
joined Accepted Accepted c d = refl
joined Accepted (Refused why place) c d = refl
joined (Refused why place) b c d = refl

module _ {r a b c : Answer} (d : Answer) (t : Told r a b c) where
  pub refused_early : {why : Refusal} {place : ℕ} → r ≡ Refused why place → r ≡ (a then b then c then d)
  refused_early refused = handed_on d t.is refused ∙ joined a b c d

  pub judged_last : {s : Answer} → r ≡ Accepted → s ≡ d → s ≡ (a then b then c then d)
  judged_last accepted last = passed d t.is accepted last ∙ joined a b c d

-- the three were accepted
pub all_three : {r a b c : Answer} → Told r a b c → r ≡ Accepted → (a ≡ Accepted) × (b ≡ Accepted) × (c ≡ Accepted)
all_three {r} {a} {b} {c} t accepted =
    let last = both_accepted (a then b) c (sym t.is ∙ accepted) in
    let both = both_accepted a b last.0 in
    (both.0, both.1, last.1)
