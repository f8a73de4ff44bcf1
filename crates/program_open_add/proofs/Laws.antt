-- The place that an add tells is one that there is.
use Prim.Native.Nat.{ℕ, ◌<◌}
use mathlib.Core.Path.{◌≡◌, refl}
use mathlib.Core.List.{List}
use native.Mathlib.Omega.{arith}
use Rattle.answers.specs.Answers.{left_by}
use Rattle.answers.specs.declared.Answer.{Answer}
use Rattle.answers.specs.declared.Answer.TheVariants.{Accepted, Refused}
use Rattle.layout.specs.Open.{place_count}
use Rattle.open_rules.specs.Open.{Study, add_answer, added_place, lowest_free}
use Rattle.open_rules.proofs.Laws.{adds}

pub place_there : (S : Study) (office : ℕ) (e : List ℕ) → added_place S office e 0 < place_count
unfolding added_place
place_there S office e = by (add_answer S office e) refl
  where
    by : (a : Answer) → add_answer S office e ≡ a → left_by a (lowest_free S.owners) 0 < place_count
    by Accepted accepted = (adds S office e accepted).place
    by (Refused why place) refused = omega arith
