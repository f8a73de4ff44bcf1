-- What the part of a file that is a site's block tells: it is empty only where the site is refused.
use Prim.Native.Nat.{ℕ}
use mathlib.Core.Path.{◌≡◌, refl}
use mathlib.Core.List.{List, []}
use lib.ListN.{length}
use native.Mathlib.Omega.{arith}
use Rattle.answers.specs.Answers.{left_by}
use Rattle.answers.specs.declared.Answer.{Answer}
use Rattle.answers.specs.declared.Answer.TheVariants.{Accepted, Refused}
use Rattle.study_format.specs.declared.Format.{Format}
use Rattle.study_format.specs.Format.{site_answer, site_block}
use Rattle.study_format.proofs.Laws.{has_site, length-site_block}

module _ (f : Format) (file : List ℕ) (site : ℕ) where
  abbrev pub part : List ℕ
  part = left_by (site_answer f file site) (site_block f file site) []

  pub part_empty : {A : Type 0} (new old : A) → length part ≡ 0 → old ≡ left_by (site_answer f file site) new old
  part_empty {A = A} new old = go (site_answer f file site) refl
    where
      go : (a : Answer) → site_answer f file site ≡ a → length (left_by a (site_block f file site) []) ≡ 0 → old ≡ left_by a new old
      go Accepted e h = absurd (omega (arith, length-site_block f file site (has_site f file site e), f.some_entries))
      go (Refused why place) e h = refl

  pub part_there : (length part ≡ 0 → ⊥) → site_answer f file site ≡ Accepted
  part_there = go (site_answer f file site)
    where
      go : (a : Answer) → (length (left_by a (site_block f file site) []) ≡ 0 → ⊥) → a ≡ Accepted
      go Accepted h = refl
      go (Refused why place) h = absurd (h refl)
