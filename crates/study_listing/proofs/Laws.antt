-- Laws of the listing: the lines of sites, put one after the other, and how long the whole is.
use Prim.Native.Nat.{ℕ, zero, suc, ◌+◌, ◌*◌, ◌<◌, ◌≤◌}
use mathlib.Core.Path.{◌≡◌, refl, sym}
use mathlib.Core.List.{List}
use lib.ListN.{length, take, length-append}
use borrow.Author.Tests.{le-ltb}
use native.Mathlib.Numerals.{add-one}
use native.Mathlib.Omega.{arith}
use Rattle.answers.specs.Answers.{place_of, left_by}
use Rattle.answers.specs.declared.Refusal.{Refusal}
use Rattle.answers.specs.declared.Answer.{Answer}
use Rattle.answers.specs.declared.Answer.TheVariants.{Accepted}
use Rattle.answers.specs.declared.Answer.TheVariants.{Refused as No}
use Rattle.lists.proofs.Laws.{over_nothing}
use Rattle.study.proofs.Laws.{sites_few, file_fits}
use Rattle.study.specs.Study.{limit_before, sites_of, site_entries, judgement}
use Rattle.study_theorems.proofs.Study.{decisive, front_decides}
use Rattle.text.specs.Text.{Placed}
use Rattle.text.proofs.Laws.{placed_next}
use Rattle.study_lines.specs.Lines.{file_line}
use Rattle.study_lines.specs.Working.{line_most}
use Rattle.study_lines.proofs.Laws.{length-line_of, length-file_line}
use Rattle.study_listing.specs.Listing.{site_of, site_line, site_lines, listing_by, listing, list_answer}
use Rattle.study_listing.specs.Working.{area_bytes}

-- the lines of the first n sites

pub length-site_lines : (file : List ℕ) (n : ℕ) → length (site_lines file n) ≤ line_most * n
unfolding site_lines
length-site_lines file zero = omega arith
length-site_lines file (suc n) =
    let e = site_entries file n in
    omega (arith, length-append (site_lines file n) (site_line (n + 1) e), length-site_lines file n, length-line_of (n + 1) (site_of e))

pub no_lines : (list file : List ℕ) → Placed list 0 (site_lines file 0) list 0
unfolding site_lines
no_lines list file = record { is = sym (over_nothing list 0); next = refl }

pub one_line_more : {list one two : List ℕ} {at past : ℕ} (file : List ℕ) (n : ℕ) → n < limit_before → area_bytes ≤ length list
    → Placed list 0 (site_lines file n) one at
    → Placed one at (site_line (n + 1) (site_entries file n)) two past
    → Placed list 0 (site_lines file (n + 1)) two past
unfolding site_lines
one_line_more file n few room lines line =
    rw (add-one n)
    (placed_next lines line (omega (arith, length-site_lines file n, length-line_of (n + 1) (site_of (site_entries file n)))))

-- the listing of a good file, and of a bad one

pub good_listing : (file : List ℕ) → judgement file ≡ Accepted → listing file ≡ site_lines file (sites_of file)
unfolding listing
good_listing file good = simp good

pub bad_listing : {answer : Answer} {why : Refusal} {place : ℕ} (file : List ℕ) → answer ≡ judgement file → answer ≡ No why place
    → listing file ≡ file_line (place_of answer)
unfolding listing
bad_listing file answers bad = simp (← answers, bad)

-- the whole listing of any bytes fits an area of this size
pub length-listing : (file : List ℕ) → length (listing file) ≤ area_bytes
unfolding listing
length-listing file = by (judgement file) refl
  where
    by : (answer : Answer) → judgement file ≡ answer → length (listing_by answer file) ≤ area_bytes
    by Accepted good = omega (arith, length-site_lines file (sites_of file), sites_few file good)
    by (No why place) bad = omega (arith, length-file_line place)

-- so it is never refused for want of room there
always_listed : (file : List ℕ) (room : ℕ) → area_bytes ≤ room → list_answer file room ≡ Accepted
always_listed file room h = simp (le-ltb room (length (listing file)) (omega (arith, length-listing file)))

-- and its length, as it is handed back, lies within the area
pub listed_fits : (file : List ℕ) (room old : ℕ) → area_bytes ≤ room → left_by (list_answer file room) (length (listing file)) old ≤ room
listed_fits file room old h = simp (always_listed file room h) (omega (arith, length-listing file))

-- the first bytes of a long input are listed as the whole is: it is a bad file, refused at the same place
pub front_lists : (file : List ℕ) (m : ℕ) → decisive ≤ m → m ≤ length file → listing (take m file) ≡ listing file
unfolding listing
front_lists file m enough long = by (judgement file) refl
  where
    by : (answer : Answer) → judgement file ≡ answer → listing_by (judgement (take m file)) (take m file) ≡ listing_by (judgement file) file
    by Accepted good = absurd (omega (arith, file_fits file good))
    by (No why place) bad = rw (front_decides file m enough long, bad)

-- files with the same sites, each with the same entries, have the same lines
pub same_lines : (one other : List ℕ) (n : ℕ) → ((j : ℕ) → j < n → site_entries one j ≡ site_entries other j) → site_lines one n ≡ site_lines other n
unfolding site_lines
same_lines one other zero same = refl
same_lines one other (suc n) same = rw (same_lines one other n (λ j h. same j (omega arith)), same n (omega arith))
