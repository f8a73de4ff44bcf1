-- What the theorems say of outcomes of the calls: accepted and refused ones, runs of amendments, a file that is given again, and one that
-- is converted.
use Rattle.std.specs.Prelude.{◌≡◌, List, [], ◌∷◌, ℕ, ◌<◌, ◌≤◌, length}
use Rattle.layout.specs.declared.Worksheet.{Worksheet}
use Rattle.layout.specs.Entries.{entry_count}
use Rattle.procedure.specs.Junctions.{K1, K2, K3, K4, K7, K8, K9, K10}
use Rattle.amend_sets.specs.Amend.{Change}
use Rattle.lists.specs.Lists.{over}
use Rattle.answers.specs.declared.Answer.TheVariants.{Accepted}
use Rattle.study.specs.Study.{judgement, count_of, site_entries, entries_up_to, file_bytes, converted}
use Rattle.study_listing.specs.Listing.{listing}
use Rattle.icu.specs.declared.IcuAnswer.{IcuAnswer}
use Rattle.icu.specs.Calls.{AmendAllows, SiteAllows, WriteAllows}

-- number 0 is accepted, any other a refusal
abbrev pub Yes : IcuAnswer → Type 0
Yes said = said.number ≡ 0

abbrev pub No : IcuAnswer → Type 0
No said = 0 < said.number

-- the junctions to compare; "K5, K6" are letters
abbrev pub to_compare : List (List ℕ)
to_compare = K1 ∷ K2 ∷ K3 ∷ K4 ∷ K7 ∷ K8 ∷ K9 ∷ K10 ∷ []

-- one call of `icu_amend`, or of `icu_point_amend`, on a sheet of kind k that holds d, and what follows on the sheet that it leaves
pub record Step (k : Worksheet) (d : List ℕ) (c : Change) (rest : List ℕ → Type 0) : Type 0 where
  pub said : IcuAnswer
  pub left : List ℕ
  pub allowed : AmendAllows k d c.entry c.value said left
  pub goes_on : rest left

-- a run of such calls, each on the sheet that the one before it left, whatever each is answered
unfoldable pub Run : Worksheet → List Change → List ℕ → List ℕ → Type 0
Run k [] d after = after ≡ d
Run k (c ∷ run) d after = Step k d c (λ left. Run k run left after)

-- each site of a file is given
pub record SitesGiven (file : List ℕ) : Type 0 where
  pub site : (s : ℕ) → s < count_of file → {said : IcuAnswer} {left : List ℕ} (old : List ℕ) → length old ≡ entry_count
      → SiteAllows file s old said left → Yes said × (left ≡ site_entries file s)

-- and its sites' entries are accepted wherever there is room for the file, and written as the same bytes
pub record GivenAgain (file : List ℕ) : Type 0 where
  pub given : SitesGiven file
  pub written : {said : IcuAnswer} {left : List ℕ} (old : List ℕ) → length file ≤ length old
      → WriteAllows (entries_up_to file (count_of file)) old said left → Yes said × (left ≡ over old 0 file)

-- written as a file of today, it has the same sites, each with its entries, and so the same listing
pub record Converts (file : List ℕ) : Type 0 where
  pub written : {said : IcuAnswer} {left : List ℕ} (old : List ℕ) → file_bytes (count_of file) ≤ length old
      → WriteAllows (entries_up_to file (count_of file)) old said left → Yes said × (left ≡ over old 0 (converted file))
  pub good : judgement (converted file) ≡ Accepted
  pub count : count_of (converted file) ≡ count_of file
  pub site : (s : ℕ) → s < count_of file → site_entries (converted file) s ≡ site_entries file s
  pub listed : listing (converted file) ≡ listing file
