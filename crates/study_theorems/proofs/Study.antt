-- The theorems for the formats of the study files: that of today, which is read and written, and that of before, which is read.
use Prim.Native.Nat.{ℕ, zero, suc, ◌*◌, ◌%◌, ◌<◌, ◌≤◌}
use mathlib.Core.Path.{◌≡◌, refl, sym, ap, ◌∙◌}
use mathlib.Core.Bool.{true}
use mathlib.Core.List.{List}
use lib.ListN.{length, get_or, take, drop}
use lib.Dec.{lit≤}
use borrow.Author.Tests.{lt-leb, le-ltb, eq-eqb}
use native.Mathlib.Nat.{mul-mod_right}
use native.Mathlib.Omega.{arith}
use Rattle.lists.specs.Lists.{AllBelow, over}
use Rattle.study_numbers.specs.Numbers.{number_limit, byte_limit}
use Rattle.answers.specs.declared.Refusal.TheVariants.{File}
use Rattle.answers.specs.declared.Answer.TheVariants.{Accepted, Refused}
use Rattle.study_format.specs.Format as format
use Rattle.study_format.specs.Working.{entries_up_to as up_to}
use Rattle.study_format.proofs.Laws.{long_enough, other_opening}
use Rattle.layout.specs.Entries.{entry_count}
use Rattle.study.specs.Study.{site_limit, icut, icus, format_of, file_bytes, sites_of, judgement, count_of, site_answer, site_entries_answer, site_entries}
use Rattle.study.specs.Study.{entries_up_to, sites_in, write_answer, file_of, converted}
use Rattle.study.proofs.Laws.{of_either, good_today, entries_today}
use Rattle.study_theorems.proofs.Sites.{length_sites, site_part, sites_below}
use Rattle.study_theorems.proofs.RoundTrip as round
use Rattle.study_theorems.proofs.LongFile as long

-- what reading finds in a file that holds these entries
pub record ReadBack (entries bytes : List ℕ) : Type 0 where
  pub good : judgement bytes ≡ Accepted
  pub count : count_of bytes ≡ sites_in entries
  pub site : (j : ℕ) → j < sites_in entries
      → (site_answer bytes j ≡ Accepted) × (site_entries bytes j ≡ take entry_count (drop (entry_count * j) entries))

-- a file of today is read as one
read_today : (entries bytes : List ℕ) → round.ReadBack icut entries bytes → ReadBack entries bytes
read_today entries bytes back =
    let is = good_today bytes back.good in
    record {
      good = rw is back.good;
      count = rw is back.count;
      site = λ j h.
          let there : site_answer bytes j ≡ Accepted = rw is (back.site j h).0 in
          (there, entries_today bytes j is there ∙ (back.site j h).1);
    }

pub written_read : (entries area : List ℕ) → AllBelow number_limit entries → write_answer entries (length area) ≡ Accepted
    → ReadBack entries (take (file_bytes (sites_in entries)) (over area 0 (file_of entries)))
written_read entries area small e = read_today entries _ (round.written_read icut entries area small e)

-- each site of a good file, of today or of before, is given to whoever has room for its entries
pub has_site : (bytes : List ℕ) (site : ℕ) → judgement bytes ≡ Accepted → site < sites_of bytes → site_answer bytes site ≡ Accepted
has_site bytes site good there = simp (good, lt-leb (sites_of bytes) site there)

pub site_given : (bytes : List ℕ) (site room : ℕ) → judgement bytes ≡ Accepted → site < count_of bytes → room ≡ entry_count
    → site_entries_answer bytes site room ≡ Accepted
site_given bytes site room good there sized =
    let below : site < sites_of bytes = rw good at there in
    simp (eq-eqb room entry_count sized, has_site bytes site good below)

-- a good file of today: its sites' entries are those that its format reads ..
module _ (bytes : List ℕ) (good : judgement bytes ≡ Accepted) (is : format_of bytes ≡ icut) where
  entries_are : (n : ℕ) → n ≤ sites_of bytes → entries_up_to bytes n ≡ up_to icut bytes n
  unfolding entries_up_to up_to
  entries_are zero few = refl
  entries_are (suc n) few = rw (entries_are n (omega arith), entries_today bytes n is (has_site bytes n good few))

  all_are : entries_up_to bytes (count_of bytes) ≡ up_to icut bytes (format.count_of icut bytes)
  all_are =
      let count : count_of bytes ≡ sites_of bytes = rw good in
      rw (count, entries_are (sites_of bytes) (omega arith)) (ap (up_to icut bytes) (sym count ∙ ap (λ f. format.count_of f bytes) is))

  good_then : format.judgement icut bytes ≡ Accepted
  good_then = rw is at good

  -- .. so read and written it is the same bytes, wherever there is room for them
  pub read_written : AllBelow byte_limit bytes → file_of (entries_up_to bytes (count_of bytes)) ≡ bytes
  read_written small = rw all_are (round.read_written icut bytes small good_then)

  pub accepted_again : (room : ℕ) → length bytes ≤ room → write_answer (entries_up_to bytes (count_of bytes)) room ≡ Accepted
  accepted_again room fits = rw all_are (round.accepted_again icut bytes good_then room fits)

-- a good file that has no more sites than one of today holds is written as one wherever there is room, and the sites, each with its
-- entries, are the same
module _ (file : List ℕ) (good : judgement file ≡ Accepted) (few : count_of file ≤ site_limit) where
  abbrev k : ℕ
  k = count_of file

  long_all : length (entries_up_to file k) ≡ entry_count * k
  long_all = length_sites file k

  sites : sites_in (entries_up_to file k) ≡ k
  sites = round.sites_in_lem icut (entries_up_to file k) k long_all

  pub convertible : (room : ℕ) → file_bytes k ≤ room → write_answer (entries_up_to file k) room ≡ Accepted
  convertible room fits =
      let whole : length (entries_up_to file k) % entry_count ≡ 0 = ap (λ n. n % entry_count) long_all ∙ mul-mod_right entry_count k in
      simp (eq-eqb _ _ whole, sites, le-ltb site_limit k few, le-ltb room (file_bytes k) fits)

  pub converted_back : AllBelow byte_limit file → ReadBack (entries_up_to file k) (converted file)
  converted_back small =
      read_today (entries_up_to file k) (converted file)
      (round.file_back icut (entries_up_to file k) k long_all few (sites_below file k small))

  pub same_sites : AllBelow byte_limit file → (count_of (converted file) ≡ k) × ((j : ℕ) → j < k → site_entries (converted file) j ≡ site_entries file j)
  same_sites small =
      let back = converted_back small in
      (back.count ∙ sites, λ j h. (back.site j (rw sites h)).1 ∙ site_part file k j h)

-- "an old reader refuses the new with 6 at place 0": the judgement of before, of whatever opens as a file of today
pub old_reader : (file : List ℕ) → format.starts_with file icut.opening ≡ true → format.judgement icus file ≡ Refused File 0
unfolding format.judgement
old_reader file opened =
    let other = other_opening file icut.opening icus.opening refl (λ same. omega (arith, ap (λ bytes. get_or bytes 3 0) same)) opened in
    simp (le-ltb (length file) 4 (long_enough file icut.opening opened), other)

-- how many bytes decide any study file: 62,049
abbrev pub decisive : ℕ
decisive = long.decisive icut

same_format : (file : List ℕ) (m : ℕ) → decisive ≤ m → format_of (take m file) ≡ format_of file
unfolding format_of
same_format file m enough = rw (long.starts_front file icus.opening m (omega arith))

pub front_decides : (file : List ℕ) (m : ℕ) → decisive ≤ m → m ≤ length file → judgement (take m file) ≡ judgement file
front_decides file m enough within =
    let least = of_either (λ f. long.decisive f ≤ decisive) (lit≤ tt) (lit≤ tt) file in
    rw (same_format file m enough) (long.front_decides (format_of file) file m (omega arith) within)

pub first_bytes_decide : (file : List ℕ) → decisive ≤ length file → judgement (take decisive file) ≡ judgement file
first_bytes_decide file enough = front_decides file decisive (omega arith) enough
