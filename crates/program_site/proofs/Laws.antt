-- Laws of what is sought in a file, a law for each way that it can come out.
use Prim.Native.Nat.{ℕ, ◌≤◌, ◌<◌}
use mathlib.Core.Path.{◌≡◌, refl}
use mathlib.Core.Bool.{Bool, true, false}
use mathlib.Core.List.{List, []}
use lib.Dec.{leb}
use native.Mathlib.Omega.{arith}
use borrow.Author.Tests.{le-leb, lt-leb, leb-false}
use Rattle.answers.specs.Answers.{left_by}
use Rattle.answers.specs.declared.Refusal.{Refusal}
use Rattle.answers.specs.declared.Answer.{Answer}
use Rattle.answers.specs.declared.Answer.TheVariants.{Accepted, Refused as No}
use Rattle.layout.specs.Entries.{entry_count}
use Rattle.study.specs.Study.{judgement, sites_of, count_of, site_entries_answer}
use Rattle.study.proofs.Laws.{entries_given}
use Rattle.std.specs.Prelude.{Ok, Err}
use Rattle.program_site.specs.Site.{site_named, sought_by, sought}
use Rattle.program_site.specs.declared.NoSite.TheVariants.{Missing, Bad}

module _ (file word : List ℕ) where
  pub bad_file : {why : Refusal} {place : ℕ} → judgement file ≡ No why place → sought file word ≡ Err (Bad why place)
  unfolding sought
  bad_file bad = rw bad

  -- a good file's sites are counted
  pub counted : judgement file ≡ Accepted → count_of file ≡ sites_of file
  counted good = rw good

  pub missing : judgement file ≡ Accepted → count_of file ≤ site_named word → sought file word ≡ Err (Missing (sites_of file))
  unfolding sought
  missing good past = rw (good, le-leb (sites_of file) (site_named word) (rw (counted good) at past))

  pub there : judgement file ≡ Accepted → site_named word < count_of file → sought file word ≡ Ok (site_named word)
  unfolding sought
  there good within = rw (good, lt-leb (sites_of file) (site_named word) (rw (counted good) at within))

-- a file that has a site is a good one, and the entries of that site are had
module _ (file : List ℕ) (site : ℕ) (within : site < count_of file) where
  pub good_file : judgement file ≡ Accepted
  good_file = by (judgement file) refl
    where
      by : (a : Answer) → judgement file ≡ a → judgement file ≡ Accepted
      by Accepted e = e
      by (No why place) e = absurd (let none : count_of file ≡ 0 = rw e in omega (arith, none, within))

  pub had : (room : ℕ) (new old : List ℕ) → room ≡ entry_count → left_by (site_entries_answer file site room) new old ≡ new
  had room new old sized =
      let here = rw (counted file [] good_file) at within in
      entries_given file site room new old (simp (good_file, lt-leb (sites_of file) site here)) sized

-- a site that is there is one of those that the file has
pub site_counted : (file word : List ℕ) (site : ℕ) → sought file word ≡ Ok site → site < count_of file
unfolding sought
site_counted file word site = by (judgement file) refl (leb (sites_of file) (site_named word)) refl
  where
    by : (a : Answer) → judgement file ≡ a → (b : Bool) → leb (sites_of file) (site_named word) ≡ b
        → sought_by (judgement file) (sites_of file) (site_named word) ≡ Ok site
        → site < count_of file
    by Accepted good true e is = absurd (let z = rw (good, e) at is in cc)
    by Accepted good false e is =
        let found = rw (good, e) at is in
        let same : site_named word ≡ site = cc in
        omega (arith, same, leb-false (sites_of file) (site_named word) e, counted file word good)
    by (No why place) bad b e is = absurd (let z = rw bad at is in cc)
