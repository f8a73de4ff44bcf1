-- The demands of what the calls allow, from the laws of the definitions: an answer told as accepted was, and so what is left is new.
use mathlib.Core.Path.{◌≡◌, refl, sym, ◌∙◌, ap}
use mathlib.Core.Bool.{false, cond, or-false}
use mathlib.Core.List.{List, [], ◌∷◌}
use Prim.Native.Nat.{ℕ, ◌<◌, ◌≤◌}
use lib.ListN.{length, get_or, set, take}
use borrow.Author.Tests.{eq-eqb}
use Rattle.answers.specs.declared.Answer.TheVariants.{Accepted}
use Rattle.answers.proofs.Laws.{both_accepted, renewed, sized}
use Rattle.layout.specs.declared.Worksheet.{Worksheet}
use Rattle.layout.specs.Entries.{entry_count}
use Rattle.layout.specs.Sheet.{sheet_count}
use Rattle.entries.specs.Judging.{judged_for}
use Rattle.procedure.specs.Sheet.{sheet_for}
use Rattle.sheet_cells.specs.Cells.{sheet_answer}
use Rattle.sheet_cells.proofs.Cells.{sheet_accepted, sheet_entries}
use Rattle.entries.proofs.Laws.{as_junction, accepted_count, size_accepted}
use Rattle.point_start.specs.Start.{start_entries, start_answer, started}
use Rattle.entries.specs.Judging.{size_answer}
use Rattle.sheet.specs.Fill.{fill_answer, filled}
use Rattle.amend_reach.specs.Reach.{reached}
use Rattle.amend_sets.specs.Amend.{Change, one, amend_answer, amended, amended_by, entries_by, reached_by, some_reaches, entries_with, with_changes}
use Rattle.amend_sets.specs.Amend.{together_answer, amended_together}
use Rattle.amend_sets.proofs.Together.{taken, all_cells, amended_is_fresh}
use Rattle.amend_sets.proofs.Runs.{run_is_fresh, run_keeps}
use Rattle.lists.specs.Lists.{AllBelow, over}
use Rattle.study_numbers.specs.Numbers.{number_limit, byte_limit}
use Rattle.study.specs.Study.{site_limit, icut, format_of, sites_of, judgement, count_of, site_entries_answer, site_entries, write_answer, file_of, file_bytes, sites_in}
use Rattle.study.specs.Study.{entries_up_to, converted}
use Rattle.study_theorems.proofs.Study as studies
use Rattle.study_listing.specs.Listing.{site_lines, listing_by, listing, list_answer}
use Rattle.study_listing.proofs.Laws.{same_lines}
use Rattle.layout.specs.Diamond.{diamond_count}
use Rattle.diamond_rules.specs.Record.{judged_record, cells_size, diamond_answer}
use Rattle.diamond_rules.specs.Lines.{diamond, rated}
use Rattle.icu.specs.declared.IcuAnswer.{IcuAnswer}
use Rattle.icu.specs.Calls.{FillAllows, AmendAllows, StartAllows, SiteAllows, WriteAllows, ListAllows, DiamondAllows}
use Rattle.icu_theorems.specs.Outcomes.{Yes, No, Run, SitesGiven, GivenAgain, Converts}
use Rattle.icu_theorems.proofs.Told.{told_yes, told_no, told_new}

-- refused

module _ {said : IcuAnswer} {left : List ℕ} where
  pub refused_fill : (k : Worksheet) (e d : List ℕ) → FillAllows k e d said left → No said → left ≡ d
  unfolding filled
  refused_fill k e d allowed = told_no (fill_answer k e d) (sheet_for k e) d allowed.0 allowed.1

  pub refused_amendment : (k : Worksheet) (d : List ℕ) (i v : ℕ) → AmendAllows k d i v said left → No said → left ≡ d
  unfolding amend_answer amended amended_together
  refused_amendment k d i v allowed = told_no (together_answer k d (one i v)) _ d allowed.0 allowed.1

  pub refused_start : (old : List ℕ) → StartAllows old said left → No said → left ≡ old
  unfolding started
  refused_start old allowed = told_no (start_answer old) start_entries old allowed.0 allowed.1

  pub refused_site : (f : List ℕ) (s : ℕ) (old : List ℕ) → SiteAllows f s old said left → No said → left ≡ old
  refused_site f s old allowed = told_no (site_entries_answer f s (length old)) (site_entries f s) old allowed.0 allowed.1

  pub refused_writing : (e old : List ℕ) → WriteAllows e old said left → No said → left ≡ old
  refused_writing e old allowed = told_no (write_answer e (length old)) (over old 0 (file_of e)) old allowed.0 allowed.1

  pub refused_listing : (f old : List ℕ) (before : ℕ) {n : ℕ} → ListAllows f old before said left n → No said → (left ≡ old) × (n ≡ before)
  refused_listing f old before allowed refused =
      let answer = list_answer f (length old) in
      let is = allowed.0.0 in
      (told_no answer (over old 0 (listing f)) old is allowed.0.1 refused, told_no answer (length (listing f)) before is allowed.1 refused)

  pub refused_diamond : (r d : List ℕ) → DiamondAllows r d said left → No said → left ≡ d
  unfolding rated
  refused_diamond r d allowed = told_no (diamond_answer r d) (diamond r) d allowed.0 allowed.1

-- a fill

fill_accepted :
    {said : IcuAnswer} {left : List ℕ} (k : Worksheet) (e d : List ℕ) → FillAllows k e d said left → Yes said → fill_answer k e d ≡ Accepted
fill_accepted k e d allowed = told_yes (fill_answer k e d) allowed.0

pub acceptable_only :
    {said : IcuAnswer} {left : List ℕ} (k : Worksheet) (e d : List ℕ) → FillAllows k e d said left → Yes said
    → (judged_for k e ≡ Accepted) × (length d ≡ sheet_count k)
unfolding fill_answer
acceptable_only k e d allowed is =
    let both = both_accepted (sheet_answer k d) (judged_for k e) (fill_accepted k e d allowed is) in
    (both.1, sheet_accepted k d both.0)

answer_accepted : (k : Worksheet) (e d : List ℕ) → judged_for k e ≡ Accepted → length d ≡ sheet_count k → fill_answer k e d ≡ Accepted
unfolding fill_answer sheet_answer
answer_accepted k e d ok sized = rw (eq-eqb (length d) (sheet_count k) sized) ok

pub accepted_fill :
    {said : IcuAnswer} {left : List ℕ} (k : Worksheet) (e d : List ℕ) → FillAllows k e d said left → judged_for k e ≡ Accepted
    → length d ≡ sheet_count k → Yes said
accepted_fill k e d allowed ok sized = rw (allowed.0, answer_accepted k e d ok sized)

pub filled_sheet :
    {said : IcuAnswer} {left : List ℕ} (k : Worksheet) (e d : List ℕ) → FillAllows k e d said left → Yes said → left ≡ sheet_for k e
unfolding filled
filled_sheet k e d allowed is = allowed.1 ∙ sym (renewed (sheet_for k e) d (fill_accepted k e d allowed is))

-- the starting entries

pub started_entries :
    {said : IcuAnswer} {left : List ℕ} (old : List ℕ) → StartAllows old said left → length old ≡ entry_count → Yes said × (left ≡ start_entries)
unfolding started size_answer
started_entries old allowed size =
    told_new {answer = start_answer old} start_entries old allowed.0 allowed.1 (rw (eq-eqb (length old) entry_count size))

pub started_only : {said : IcuAnswer} {left : List ℕ} (old : List ℕ) → StartAllows old said left → Yes said → length old ≡ entry_count
started_only old allowed is = size_accepted old (told_yes (start_answer old) allowed.0 is)

-- a diamond

diamond_accepted : {said : IcuAnswer} {left : List ℕ} (r d : List ℕ) → DiamondAllows r d said left → Yes said → diamond_answer r d ≡ Accepted
diamond_accepted r d allowed = told_yes (diamond_answer r d) allowed.0

pub acceptable_record_only : {said : IcuAnswer} {left : List ℕ} (r d : List ℕ) → DiamondAllows r d said left → Yes said
    → (judged_record r ≡ Accepted) × (length d ≡ diamond_count)
unfolding diamond_answer cells_size
acceptable_record_only r d allowed is =
    let both = both_accepted (cells_size d) (judged_record r) (diamond_accepted r d allowed is) in
    (both.1, sized (length d) diamond_count both.0)

pub accepted_diamond : {said : IcuAnswer} {left : List ℕ} (r d : List ℕ) → DiamondAllows r d said left → judged_record r ≡ Accepted
    → length d ≡ diamond_count → Yes said
unfolding diamond_answer cells_size
accepted_diamond r d allowed ok size = rw (allowed.0, eq-eqb (length d) diamond_count size, ok)

pub rated_cells : {said : IcuAnswer} {left : List ℕ} (r d : List ℕ) → DiamondAllows r d said left → Yes said → left ≡ diamond r
unfolding rated
rated_cells r d allowed is = allowed.1 ∙ sym (renewed (diamond r) d (diamond_accepted r d allowed is))

-- an amendment

pub amendment :
    {said two : IcuAnswer} {before after : List ℕ} (k : Worksheet) (e d : List ℕ) (i v : ℕ)
    → FillAllows k e d said before → Yes said → AmendAllows k before i v two after → Yes two → FillAllows k (set e i v) d said after
unfolding filled entries_with with_changes amend_answer
amendment {before = before} {after = after} k e d i v fills is amends granted =
    let ok = acceptable_only k e d fills is in
    let old = filled_sheet k e d fills is in
    let accepted : amend_answer k (sheet_for k e) i v ≡ Accepted = rw old at (told_yes (amend_answer k before i v) amends.0 granted) in
    let judged_so : judged_for k (set e i v) ≡ Accepted =
    rw (sheet_entries k e (accepted_count e (as_junction k e ok.0))) at (taken k (sheet_for k e) (one i v) accepted).fine in
    let new : after ≡ sheet_for k (set e i v) = rw old at amends.1 ∙ amended_is_fresh k e ok.0 i v accepted in
    let fresh = answer_accepted k (set e i v) d judged_so ok.1 in
    (fills.0 ∙ rw (fill_accepted k e d fills is, fresh) refl, new ∙ renewed (sheet_for k (set e i v)) d fresh)

pub amendment_on_any_sheet :
    {said : IcuAnswer} {after : List ℕ} (k : Worksheet) (d : List ℕ) (i v c : ℕ) → AmendAllows k d i v said after → Yes said → c < length d
    → get_or after c 0 ≡ cond (reached k i c) (get_or (sheet_for k (set (take entry_count d) i v)) c 0) (get_or d c 0)
unfolding amend_answer amended some_reaches entries_with with_changes
amendment_on_any_sheet k d i v c allowed is h =
    rw allowed.1 (all_cells k d (one i v) (told_yes _ allowed.0 is) c h ∙ rw (or-false (reached k i c)))

-- a run of amendments

module _ (k : Worksheet) where
  pub run_leaves : (run : List Change) (d after : List ℕ) → Run k run d after → after ≡ amended_by k run d
  unfolding Run amended_by
  run_leaves [] d after done = done
  run_leaves (c ∷ run) d after step = rw step.allowed.1 at (run_leaves run step.left after step.goes_on)

  pub run_of_amendments :
      (run : List Change) (e after : List ℕ) → judged_for k e ≡ Accepted → Run k run (sheet_for k e) after → after ≡ sheet_for k (entries_by k run e)
  run_of_amendments run e after ok steps = run_leaves run (sheet_for k e) after steps ∙ run_is_fresh k run e ok

  pub outside_the_reach :
      (run : List Change) (d after : List ℕ) (c : ℕ) → Run k run d after → c < length d → reached_by k run d c ≡ false → get_or after c 0 ≡ get_or d c 0
  outside_the_reach run d after c steps h out = rw (run_leaves run d after steps) (run_keeps k run d c h out)

-- study files

pub written_and_read :
    {said : IcuAnswer} {left : List ℕ} (e old : List ℕ) → AllBelow number_limit e → WriteAllows e old said left → Yes said
    → studies.ReadBack e (take (file_bytes (sites_in e)) left)
written_and_read e old small allowed is =
    let accepted = told_yes (write_answer e (length old)) allowed.0 is in
    let leaves = allowed.1 ∙ sym (renewed (over old 0 (file_of e)) old accepted) in
    rw leaves (studies.written_read e old small accepted)

pub sites_given : (file : List ℕ) → judgement file ≡ Accepted → SitesGiven file
sites_given file good =
    record {
      site = λ s h old sized allowed.
          told_new (site_entries file s) old allowed.0 allowed.1 (studies.site_given file s (length old) good h sized);
    }

-- the file that the sites' entries are written as, where writing them is accepted
written_again : (file old : List ℕ) {said : IcuAnswer} {left : List ℕ} → write_answer (entries_up_to file (count_of file)) (length old) ≡ Accepted
    → WriteAllows (entries_up_to file (count_of file)) old said left → Yes said × (left ≡ over old 0 (converted file))
written_again file old accepted allowed = told_new (over old 0 (converted file)) old allowed.0 allowed.1 accepted

pub read_and_written : (file : List ℕ) → AllBelow byte_limit file → judgement file ≡ Accepted → format_of file ≡ icut → GivenAgain file
read_and_written file small good today =
    record {
      given = sites_given file good;
      written = λ old room allowed.
          let same = written_again file old (studies.accepted_again file good today (length old) room) allowed in
          (same.0, rw (studies.read_written file good today small) at same.1);
    }

pub converts : (file : List ℕ) → AllBelow byte_limit file → judgement file ≡ Accepted → count_of file ≤ site_limit → Converts file
unfolding listing
converts file small good few =
    let back = studies.converted_back file good few small in
    let same = studies.same_sites file good few small in
    let has : count_of file ≡ sites_of file = rw good in
    let has_then : count_of (converted file) ≡ sites_of (converted file) = rw back.good in
    let counted : sites_of (converted file) ≡ sites_of file = sym has_then ∙ same.0 ∙ has in
    record {
      written = λ old room allowed. written_again file old (studies.convertible file good few (length old) room) allowed;
      good = back.good;
      count = same.0;
      site = same.1;
      listed =
          ap (λ a. listing_by a (converted file)) back.good
          ∙ ap (site_lines (converted file)) counted
          ∙ same_lines (converted file) file (sites_of file) (λ j h. same.1 j (rw good h))
          ∙ sym (ap (λ a. listing_by a file) good);
    }
