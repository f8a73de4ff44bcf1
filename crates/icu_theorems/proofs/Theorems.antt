-- The theorems that everything else serves, each with the name of its proof.
--
-- What a call of the library answers and leaves is what a definition in crates/icu/specs/Calls.antt allows it: `FillAllows k e d one
-- left` says that a fill of a sheet of kind k, `icu_fill` for a junction's and `icu_point_fill` for a single point's, given the entries e
-- and a sheet that holds d, may answer `one` and leave `left`. Calls.antt, beside this file, shows it of the calls themselves: each keeps
-- its promise, and its promise is that definition, word for word. What holds of both kinds of sheet is said once, of k.
use mathlib.Core.Path.{◌≡◌, refl, sym, ◌∙◌}
use mathlib.Core.Logic.{◌≢◌}
use mathlib.Core.Bool.{true, false, cond}
use mathlib.Core.List.{List, [], ◌∷◌, map, replicate}
use mathlib.Core.List.{length as size}
use Prim.Native.Nat.{ℕ, ◌+◌, ◌<◌, ◌≤◌, ◌*◌, ◌/◌}
use lib.Dec.{eqb}
use lib.ListN.{length, get_or, set, take, drop}
use borrow.Author.Tests.{ne_eqb}
use Rattle.std.specs.Prelude.{Ok, Err}
use Rattle.units.specs.Rounding.{up}
use Rattle.units.specs.Unit.{flow_unit}
use Rattle.answers.specs.Answers.{◌then◌, left_by, lowest, refusal_number}
use Rattle.answers.specs.declared.Refusal.{Refusal}
use Rattle.answers.specs.declared.Refusal.TheVariants.{Shared, File, Owner, Full}
use Rattle.answers.specs.declared.Answer.TheVariants.{Accepted, Refused}
use Rattle.layout.specs.declared.Worksheet.{Worksheet}
use Rattle.layout.specs.declared.Worksheet.TheVariants.{Junction, Point}
use Rattle.layout.specs.Entries.{approach_count, entry_count}
use Rattle.layout.specs.Sheet.{BLANK, line_count, lines_of, sheet_count}
use Rattle.entries.specs.Judging.{judged_for, judged}
use Rattle.kinds.specs.declared.Group.{Group}
use Rattle.line_factors.specs.Factors.{factor_of}
use Rattle.procedure.specs.declared.Approach.{Approach}
use Rattle.procedure.specs.Lines.{flow_of, flow_a, time}
use Rattle.procedure.specs.Ranges.{Fair, FairCycle}
use Rattle.procedure.specs.Sheet.{lines_at, pair_at, right_at, sheet_for, sheet}
use Rattle.procedure.specs.Approach.{read_approach, is_free}
use Rattle.procedure.specs.Pairs.{line, right_total}
use Rattle.procedure.specs.Points.{example4, cells4, given4, start_rated, start_given}
use Rattle.procedure.specs.Junctions.{worked_out, given, measured_out, measured_given}
use Rattle.procedure.proofs.Compared.{compared}
use Rattle.procedure.proofs.Finer as finer
use Rattle.line_bounds.proofs.Permitted.{Refused as BlankMeans, lines_refused}
use Rattle.line_bounds.proofs.Crossing as crossing
use Rattle.sheet_cells.specs.Cells.{sheet_answer}
use Rattle.sheet.proofs.Fits.{sheet_fits}
use Rattle.sheet.proofs.PairBlank.{PairBlank, pair_blank, point_times}
use Rattle.amend_reach.specs.Reach.{reached, merged}
use Rattle.amend_sets.specs.Amend.{Change, with_changes, entries_with, entry_answer, together_answer, some_reaches, amended_together}
use Rattle.amend_sets.specs.Amend.{amend_answer, amended, amended_by, entries_by, reached_by}
use Rattle.amend_sets.proofs.Together.{all_stays, all_cells, all_fresh, one_answer, one_amended}
use Rattle.lists.specs.Lists.{AllBelow}
use Rattle.study_numbers.specs.Numbers.{number_limit, byte_limit}
use Rattle.study_format.specs.Format as format
use Rattle.study_before.specs.Before.{widened}
use Rattle.before_theorems.specs.Before.{ByTheTable, judged_then, cells_then}
use Rattle.before_theorems.proofs.Judged.{acceptable_kept}
use Rattle.before_theorems.proofs.Kept as kept
use Rattle.study.specs.Study.{site_limit, icut, icus, format_of, judgement, count_of, site_answer, site_entries, file_bytes, sites_in}
use Rattle.study.proofs.Laws.{site_entries-widened}
use Rattle.study_theorems.proofs.Study as studies
use Rattle.study_listing.specs.Listing.{listing}
use Rattle.study_listing.proofs.Laws.{length-listing}
use Rattle.text_scan.specs.Scanning.{parsed}
use Rattle.text_reader.specs.Reader.{Reading, reading, kept_unless_read}
use Rattle.text_writer.specs.Writer.{junction_text}
use Rattle.text_theorems.proofs.RoundTrip as texts
use Rattle.page_form.specs.Form.{shown_count}
use Rattle.page_form.proofs.Places.{OnPage, on_page}
use Rattle.layout.specs.Diamond.{record_count, plan_pick, best_cell, diamond_count}
use Rattle.entries.specs.Layout.{cycle, shared}
use Rattle.entries.proofs.Laws.{as_junction}
use Rattle.point_start.specs.Start.{start_entries}
use Rattle.point_start.proofs.Laws.{start_accepted}
use Rattle.diamond_rules.specs.declared.Side.{Side}
use Rattle.diamond_rules.specs.Record.{west, east, cycles_answer, own_answer, judged_record}
use Rattle.diamond_rules.specs.Lines.{below1, diamond}
use Rattle.diamond_rules.specs.Example.{example3, cells3}
use Rattle.diamond_rules.proofs.Laws as records
use Rattle.diamond_rules.proofs.Percentile.{Percentile, percentile}
use Rattle.diamond_rules.proofs.Example.{example3_accepted, example3_worked}
use Rattle.diamond_theorems.specs.Best.{Picks, allowed, takes, NothingLost}
use Rattle.diamond_theorems.proofs.Best as best
use Rattle.diamond_theorems.proofs.Fits as fits
use Rattle.open_rules.specs.Open.{Study, free, owns, block_at, study_size, lowest_free, may_add}
use Rattle.open_theorems.specs.Calls.{Call, caller, is_add, next, output, own, revealed, changes_of}
use Rattle.open_theorems.specs.Separation.{Alike}
use Rattle.open_theorems.proofs.Respect.{respects}
use Rattle.open_theorems.proofs.Unwinding.{told_same, steps_same}
use Rattle.icu.specs.declared.IcuAnswer.{IcuAnswer}
use Rattle.icu.specs.Told.{told}
use Rattle.icu.specs.Calls.{FillAllows, AmendAllows, StartAllows, SiteAllows, WriteAllows, ListAllows, CheckAllows, CountAllows, DiamondAllows, Allowed}
use Rattle.icu.specs.Calls.{OpenAddAllows, OpenAmendAllows, OpenReadAllows}
use Rattle.icu_theorems.specs.Outcomes.{Yes, No, to_compare, Run, SitesGiven, GivenAgain, Converts}
use Rattle.icu_theorems.specs.Offices.{OpenAllows, Heard, OpenRun}
use Rattle.icu_theorems.proofs.Junctions.{acceptable}
use Rattle.icu_theorems.proofs.Points as points
use Rattle.icu_theorems.proofs.Outcomes as outcomes
use Rattle.icu_theorems.proofs.Offices as offices

-- ANY TWO OUTCOMES of a call that its promise allows agree: its answer, and whatever it leaves in what it was lent.
pub agree :
    {A B : Type 0} {answer : A} {after : B} {one other : A} {left right : B}
    → Allowed answer after one left → Allowed answer after other right → (one ≡ other) × (left ≡ right)
agree p q = (p.0 ∙ sym q.0, p.1 ∙ sym q.1)

module _ {one other : IcuAnswer} {left right : List ℕ} where
  pub fill_agrees : (k : Worksheet) (e d : List ℕ) → FillAllows k e d one left → FillAllows k e d other right → (one ≡ other) × (left ≡ right)
  fill_agrees k e d = agree

  pub amend_agrees :
      (k : Worksheet) (d : List ℕ) (i v : ℕ) → AmendAllows k d i v one left → AmendAllows k d i v other right → (one ≡ other) × (left ≡ right)
  amend_agrees k d i v = agree

  pub start_agrees : (old : List ℕ) → StartAllows old one left → StartAllows old other right → (one ≡ other) × (left ≡ right)
  start_agrees old = agree

  pub site_agrees : (f : List ℕ) (s : ℕ) (old : List ℕ) → SiteAllows f s old one left → SiteAllows f s old other right → (one ≡ other) × (left ≡ right)
  site_agrees f s old = agree

  pub write_agrees : (e old : List ℕ) → WriteAllows e old one left → WriteAllows e old other right → (one ≡ other) × (left ≡ right)
  write_agrees e old = agree

  pub diamond_agrees : (r d : List ℕ) → DiamondAllows r d one left → DiamondAllows r d other right → (one ≡ other) × (left ≡ right)
  diamond_agrees r d = agree

  pub list_agrees :
      (f old : List ℕ) (before : ℕ) {n m : ℕ} → ListAllows f old before one left n → ListAllows f old before other right m
      → ((one ≡ other) × (left ≡ right)) × (n ≡ m)
  list_agrees f old before p q = (agree p.0 q.0, p.1 ∙ sym q.1)

module _ {one other : IcuAnswer} where
  pub open_add_agrees :
      {left right : Study} {here there : ℕ} (S : Study) (office : ℕ) (e : List ℕ) (before : ℕ)
      → OpenAddAllows S office e before one left here → OpenAddAllows S office e before other right there
      → ((one ≡ other) × (left ≡ right)) × (here ≡ there)
  open_add_agrees S office e before p q = (agree p.0 q.0, p.1 ∙ sym q.1)

  pub open_amend_agrees :
      {left right : List ℕ} (S : Study) (office s i v : ℕ) → OpenAmendAllows S office s i v one left → OpenAmendAllows S office s i v other right
      → (one ≡ other) × (left ≡ right)
  open_amend_agrees S office s i v = agree

  pub open_read_agrees :
      {left right : List ℕ} (S : Study) (office s : ℕ) (d : List ℕ) → OpenReadAllows S office s d one left → OpenReadAllows S office s d other right
      → (one ≡ other) × (left ≡ right)
  open_read_agrees S office s d = agree

pub check_agrees : {one other : IcuAnswer} (f : List ℕ) → CheckAllows f one → CheckAllows f other → one ≡ other
check_agrees f p q = p ∙ sym q

pub count_agrees : (f : List ℕ) {n m : ℕ} → CountAllows f n → CountAllows f m → n ≡ m
count_agrees f p q = p ∙ sym q

-- DEMAND 1. Every call finishes and asks nothing of its caller: the check proves that of every function, and no call of the
-- crate icu has a `requires`. A refusal comes exactly when the table says: the answers are the definitions' `fill_answer`,
-- `amend_answer`, `start_answer`, `judgement`, `site_entries_answer`, `write_answer`, `list_answer`, `diamond_answer`, and of an open study `add_answer`,
-- `amend_site_answer` and `read_answer`. And a refusal alters nothing:
module _ {one : IcuAnswer} {left : List ℕ} where
  pub refused_fill : (k : Worksheet) (e d : List ℕ) → FillAllows k e d one left → No one → left ≡ d
  refused_fill = outcomes.refused_fill

  pub refused_amendment : (k : Worksheet) (d : List ℕ) (i v : ℕ) → AmendAllows k d i v one left → No one → left ≡ d
  refused_amendment = outcomes.refused_amendment

  pub refused_start : (old : List ℕ) → StartAllows old one left → No one → left ≡ old
  refused_start = outcomes.refused_start

  pub refused_site : (f : List ℕ) (s : ℕ) (old : List ℕ) → SiteAllows f s old one left → No one → left ≡ old
  refused_site = outcomes.refused_site

  pub refused_writing : (e old : List ℕ) → WriteAllows e old one left → No one → left ≡ old
  refused_writing = outcomes.refused_writing

  pub refused_listing : (f old : List ℕ) (before : ℕ) {n : ℕ} → ListAllows f old before one left n → No one → (left ≡ old) × (n ≡ before)
  refused_listing = outcomes.refused_listing

  pub refused_diamond : (r d : List ℕ) → DiamondAllows r d one left → No one → left ≡ d
  refused_diamond = outcomes.refused_diamond

pub refused_open_add :
    {one : IcuAnswer} {left : Study} {place : ℕ} (S : Study) (office : ℕ) (e : List ℕ) (before : ℕ)
    → OpenAddAllows S office e before one left place → No one → (left ≡ S) × (place ≡ before)
refused_open_add = offices.refused_add

pub refused_open_amendment :
    {one : IcuAnswer} {left : List ℕ} (S : Study) (office s i v : ℕ) → OpenAmendAllows S office s i v one left → No one → left ≡ S.blocks
refused_open_amendment = offices.refused_open_amend

pub refused_open_reading :
    {one : IcuAnswer} {left : List ℕ} (S : Study) (office s : ℕ) (d : List ℕ) → OpenReadAllows S office s d one left → No one → left ≡ d
refused_open_reading = offices.refused_read

-- DEMAND 2. Acceptable entries and a sheet's cells, 221 or of a single point 175, are accepted, and nothing else is ..
pub accepted_fill :
    {one : IcuAnswer} {left : List ℕ} (k : Worksheet) (e d : List ℕ)
    → FillAllows k e d one left → judged_for k e ≡ Accepted → length d ≡ sheet_count k → Yes one
accepted_fill = outcomes.accepted_fill

pub acceptable_only :
    {one : IcuAnswer} {left : List ℕ} (k : Worksheet) (e d : List ℕ)
    → FillAllows k e d one left → Yes one → (judged_for k e ≡ Accepted) × (length d ≡ sheet_count k)
acceptable_only = outcomes.acceptable_only

-- .. and an accepted fill leaves the procedure, line by line: the cells of `sheet_for k e`. Its volumes are vehicles per hour; its flows,
-- lines 5–9 and 22, tenths of one (`flow_unit`), rounded down; its times milliseconds, rounded up.
pub filled_sheet : {one : IcuAnswer} {left : List ℕ} (k : Worksheet) (e d : List ℕ) → FillAllows k e d one left → Yes one → left ≡ sheet_for k e
filled_sheet = outcomes.filled_sheet

-- The smaller unit of flows, beside the rules that counted them in whole vehicles: a flow of lines 5–9 is the one of then, cut finer ..
pub in_whole_vehicles : (i n factor f : ℕ) → flow_of i n factor f / flow_unit ≡ cond (eqb n 0) 0 (i * n * factor * f / 10_000_000)
in_whole_vehicles = finer.whole_vehicles

-- .. line 22, and L's own, made of it is no smaller ..
pub no_smaller_than_before : (flow q E n : ℕ) → flow_unit * flow_a (flow / flow_unit) q E n ≤ flow_a flow q E n
no_smaller_than_before = finer.line_22_no_smaller

-- .. and a time by a flow that is no smaller is no longer than 1000·v·CL over the one of then.
pub no_longer_than_before : (v CL flow before : ℕ) → 0 < before → flow_unit * before ≤ flow → time v CL flow ≤ up (1000 * v * CL) before
no_longer_than_before = finer.no_longer

-- A lane factor that was measured counts with any number of lanes; where none was, lanes carry what the table's factor gives them, as
-- before there were measured ones: lines 5–7, 8 and 9.
pub measured_counts : (g : Group) (n m : ℕ) → m ≢ 0 → factor_of g n m ≡ m
unfolding factor_of
measured_counts g n m some = rw (ne_eqb m 0 some)

pub by_the_table : (s : Approach) → ByTheTable s
by_the_table = kept.by_the_table

-- Where nobody drives people still have time to cross: a T group without volume has reference time 0, and so have lines 25 and 27
-- of an approach without L and T; lines 17, 26 and 28 are then the weighted formula's, of a reference time of 0, where there are
-- through lanes and pedestrians, and else 0.
pub nobody_drives : (s o : Approach) (CL : ℕ) → crossing.NobodyDrives s o CL
nobody_drives s o CL = crossing.nobody_drives s CL o

-- On acceptable entries no time reaches BLANK: lines 23 to 26 are BLANK only where the options are not allowed ..
pub blank_only_where_refused : (s o : Approach) (CL : ℕ) → Fair s → FairCycle CL → BlankMeans s o CL
blank_only_where_refused s o CL fair cycle = lines_refused s CL fair cycle o

-- .. the totals of a pair only where it is shared or a line 26 is BLANK, the split total never ..
pub blank_totals : (e : List ℕ) → judged e ≡ Accepted → (a o : ℕ) → a < approach_count → o < approach_count → PairBlank e a o
blank_totals = pair_blank

-- .. and a single point's never ..
pub point_totals : (e : List ℕ) → judged_for Point e ≡ Accepted → (a o : ℕ) → a < approach_count → o < approach_count → get_or (pair_at Point e a o) 0 0 < BLANK
point_totals = point_times

-- .. and every cell of a sheet fits 32 bits.
pub cells_fit : (k : Worksheet) (e : List ℕ) → judged_for k e ≡ Accepted → (c : ℕ) → get_or (sheet_for k e) c 0 ≤ BLANK
cells_fit k e accepted c = (sheet_fits k e accepted).at c

-- K1 to K10: every number that the rules give for them comes out of the definitions, and each junction is acceptable: so by
-- `accepted_fill` and `filled_sheet` those numbers are what `icu_fill` leaves.
pub junctions : (worked_out ≡ given) × (map judged to_compare ≡ replicate (size to_compare) Accepted)
junctions = (compared.0, acceptable)

-- And so do those of two junctions whose lanes were measured, one lane and shared lanes among them.
pub measured_junctions : measured_out ≡ measured_given
measured_junctions = compared.1

-- A SINGLE POINT. What is acceptable for one is acceptable for a junction, and of that exactly what shares no lane: SHARED, at the lowest
-- approach that shares one.
pub also_a_junction : (e : List ℕ) → judged_for Point e ≡ Accepted → judged e ≡ Accepted
also_a_junction = as_junction Point

pub no_shared_lane : (e : List ℕ) → judged e ≡ Accepted → judged_for Point e ≡ lowest (λ a. eqb (shared e a) 1) Shared 0 approach_count
no_shared_lane = points.no_shared_lane

-- Its lines are the junction's 1–18 ..
pub lines_of_the_junction :
    (e : List ℕ) → length e ≡ entry_count → (a t : ℕ) → a < approach_count → t < line_count Point
    → get_or (sheet_for Point e) (lines_of Point a + t) 0 ≡ get_or (sheet e) (lines_of Junction a + t) 0
lines_of_the_junction = points.same_lines

-- .. and, protected as all its phasing is, a right total goes by the cross through's 17 and the oncoming left's 16.
pub protected_rights :
    (e : List ℕ) (a o c d along across : ℕ)
    → right_at Point e a o c d (along ∷ []) (across ∷ [])
    ≡ right_total (is_free (read_approach e a)) (lines_at Point e a o) (line 17 (lines_at Point e c d)) (line 16 (lines_at Point e o a))
protected_rights = points.protected_rights

-- A list of 93 numbers, and no other, is given the starting entries; they are acceptable, and their sheet is rated 0, letter A.
module _ {one : IcuAnswer} {left : List ℕ} (old : List ℕ) (allowed : StartAllows old one left) where
  pub starting_entries : length old ≡ entry_count → Yes one × (left ≡ start_entries)
  starting_entries = outcomes.started_entries old allowed

  pub starting_only : Yes one → length old ≡ entry_count
  starting_only = outcomes.started_only old allowed

pub start_acceptable : judged_for Point start_entries ≡ Accepted
start_acceptable = start_accepted

pub start_rated_lem : start_rated ≡ start_given
start_rated_lem = compared.3

-- The book's example 4 is acceptable and comes out of the definitions, cell by cell.
pub example_4 : (judged_for Point example4 ≡ Accepted) × (cells4 ≡ given4)
example_4 = (points.example4_accepted, compared.2)

-- A study file written and read back gives the same sites ..
pub written_and_read :
    {one : IcuAnswer} {left : List ℕ} (e old : List ℕ) → AllBelow number_limit e → WriteAllows e old one left → Yes one
    → studies.ReadBack e (take (file_bytes (sites_in e)) left)
written_and_read = outcomes.written_and_read

-- .. of a good file, of today ("ICUT") or of before ("ICUS"), each site is given ..
pub sites_given : (file : List ℕ) → judgement file ≡ Accepted → SitesGiven file
sites_given = outcomes.sites_given

-- .. and of one of today its sites' entries are accepted for writing wherever there is room for the file, and the bytes are the same.
pub read_and_written : (file : List ℕ) → AllBelow byte_limit file → judgement file ≡ Accepted → format_of file ≡ icut → GivenAgain file
read_and_written = outcomes.read_and_written

-- A FILE OF BEFORE. What is given of its sites are the 81 entries that it holds, widened: no lane factor is measured ..
pub old_sites : (file : List ℕ) (s : ℕ) → format_of file ≡ icus → site_answer file s ≡ Accepted → site_entries file s ≡ widened (format.site_entries icus file s)
old_sites = site_entries-widened

-- .. those that were acceptable are acceptable widened ..
pub old_sites_accepted : (e : List ℕ) → judged_then e ≡ Accepted → judged (widened e) ≡ Accepted
old_sites_accepted = acceptable_kept

-- .. and the sheet of widened entries has past its entries the lines, the pairs and the last eight that the rules of before give the 81.
pub old_ratings_kept : (e : List ℕ) → drop entry_count (sheet (widened e)) ≡ cells_then e
old_ratings_kept = kept.rating_kept

-- Written as a file of today, a good file of no more sites than one holds keeps its sites, each with its entries, and its listing.
pub converted_keeps : (file : List ℕ) → AllBelow byte_limit file → judgement file ≡ Accepted → count_of file ≤ site_limit → Converts file
converted_keeps = outcomes.converts

-- A reader of before refuses whatever opens as a file of today with 6 at place 0.
pub old_reader_refuses : (file : List ℕ) → format.starts_with file icut.opening ≡ true → format.judgement icus file ≡ Refused File 0
old_reader_refuses = studies.old_reader

-- A file longer than any good one is judged by its first bytes, one more than the longest good one has: 62,049.
pub long_file : (file : List ℕ) → studies.decisive ≤ length file → judgement (take studies.decisive file) ≡ judgement file
long_file = studies.first_bytes_decide

-- No listing is longer than the room that the header gives for one.
pub longest_listing : (file : List ℕ) → length (listing file) ≤ 6_120
longest_listing = length-listing

-- DEMAND 3, on a sheet of either kind. An accepted amendment of one entry, on a sheet filled from acceptable entries, gives exactly what a
-- fill of the amended entries gives.
pub amendment :
    {one two : IcuAnswer} {before after : List ℕ} (k : Worksheet) (e d : List ℕ) (i v : ℕ)
    → FillAllows k e d one before → Yes one → AmendAllows k before i v two after → Yes two → FillAllows k (set e i v) d one after
amendment = outcomes.amendment

-- SIZE, ENTRY, then the entries as they would stand; and what the entry reaches is renewed
pub amendment_answer :
    (k : Worksheet) (d : List ℕ) (i v : ℕ)
    → amend_answer k d i v ≡ (sheet_answer k d then entry_answer i then judged_for k (set (take entry_count d) i v))
amendment_answer = one_answer

pub amendment_sheet :
    (k : Worksheet) (d : List ℕ) (i v : ℕ)
    → amended k d i v ≡ left_by (amend_answer k d i v) (merged k i (sheet_for k (set (take entry_count d) i v)) d) d
amendment_sheet = one_amended

-- On any sheet at all, an accepted amendment leaves in every cell that its entry reaches the fresh fill of the amended entries,
-- and every other cell as it was, whatever it held.
pub amendment_on_any_sheet :
    {one : IcuAnswer} {after : List ℕ} (k : Worksheet) (d : List ℕ) (i v c : ℕ) → AmendAllows k d i v one after → Yes one → c < length d
    → get_or after c 0 ≡ cond (reached k i c) (get_or (sheet_for k (set (take entry_count d) i v)) c 0) (get_or d c 0)
amendment_on_any_sheet = outcomes.amendment_on_any_sheet

-- A run of amendments leaves what making each in turn does.
pub run_leaves : (k : Worksheet) (run : List Change) (d after : List ℕ) → Run k run d after → after ≡ amended_by k run d
run_leaves = outcomes.run_leaves

-- Over any run of amendments, refused ones among them, a filled sheet becomes the fresh fill of its entries with the accepted
-- changes made in order ..
pub run_of_amendments :
    (k : Worksheet) (run : List Change) (e after : List ℕ) → judged_for k e ≡ Accepted → Run k run (sheet_for k e) after
    → after ≡ sheet_for k (entries_by k run e)
run_of_amendments = outcomes.run_of_amendments

-- .. and on any sheet at all no cell changes outside what the accepted amendments reach.
pub outside_the_reach :
    (k : Worksheet) (run : List Change) (d after : List ℕ) (c : ℕ) → Run k run d after → c < length d → reached_by k run d c ≡ false
    → get_or after c 0 ≡ get_or d c 0
outside_the_reach = outcomes.outside_the_reach

-- CHANGES MADE TOGETHER, judged as all would stand: the amendment of one entry is their case of one. On a filled sheet an accepted
-- set gives the fresh fill ..
pub changes_together :
    (k : Worksheet) (e : List ℕ) → judged_for k e ≡ Accepted → (changes : List Change) → together_answer k (sheet_for k e) changes ≡ Accepted
    → amended_together k (sheet_for k e) changes ≡ sheet_for k (with_changes changes e)
changes_together k e ok changes = all_fresh k e ok changes

-- .. on any sheet every cell that some change reaches holds the fresh fill and every other stays; refused, all stay.
pub changes_on_any_sheet :
    (k : Worksheet) (d : List ℕ) (changes : List Change) → together_answer k d changes ≡ Accepted → (c : ℕ) → c < length d
    → get_or (amended_together k d changes) c 0 ≡ cond (some_reaches k changes c) (get_or (sheet_for k (entries_with d changes)) c 0) (get_or d c 0)
changes_on_any_sheet = all_cells

pub refused_changes :
    {why : Refusal} {place : ℕ} (k : Worksheet) (d : List ℕ) (changes : List Change) → together_answer k d changes ≡ Refused why place
    → amended_together k d changes ≡ d
refused_changes k d changes = all_stays k d changes

-- A DIAMOND INTERCHANGE. An acceptable record and 29 cells are accepted, and nothing else is; the cells are then the worksheet's ..
pub accepted_diamond :
    {one : IcuAnswer} {left : List ℕ} (r d : List ℕ) → DiamondAllows r d one left → judged_record r ≡ Accepted → length d ≡ diamond_count → Yes one
accepted_diamond = outcomes.accepted_diamond

pub acceptable_record_only :
    {one : IcuAnswer} {left : List ℕ} (r d : List ℕ) → DiamondAllows r d one left → Yes one → (judged_record r ≡ Accepted) × (length d ≡ diamond_count)
acceptable_record_only = outcomes.acceptable_record_only

pub rated_cells : {one : IcuAnswer} {left : List ℕ} (r d : List ℕ) → DiamondAllows r d one left → Yes one → left ≡ diamond r
rated_cells = outcomes.rated_cells

-- .. both its junctions are acceptable as any junction is, and have one cycle ..
pub acceptable_junctions :
    (r : List ℕ) → judged_record r ≡ Accepted → ((judged (west r) ≡ Accepted) × (judged (east r) ≡ Accepted)) × (cycle (west r) ≡ cycle (east r))
acceptable_junctions r ok = ((records.west_accepted r ok, records.east_accepted r ok), records.same_cycle r ok)

-- .. two acceptable junctions are refused together only for their cycles, and then for the record's own numbers ..
pub judged_together :
    (r : List ℕ) → length r ≡ record_count → judged (west r) ≡ Accepted → judged (east r) ≡ Accepted → judged_record r ≡ (cycles_answer r then own_answer r)
judged_together = records.judged_together

-- .. the picked plan is allowed and none that is allowed takes less, or as much and comes earlier: leading alternate, lagging, lead-lag ..
pub best_picked : (r : List ℕ) → judged_record r ≡ Accepted → Picks (allowed r) (takes r) (get_or (diamond r) plan_pick 0) (get_or (diamond r) best_cell 0)
best_picked = best.best_picked

-- .. leading alternate is always allowed, and lead-lag wherever lagging is ..
pub leading_allowed : (r : List ℕ) → allowed r 0 ≡ true
leading_allowed r = refl

pub lagging_needs_more : (r : List ℕ) → allowed r 1 ≡ true → allowed r 2 ≡ true
lagging_needs_more = best.lagging_needs_more

-- .. no subtraction of Table 6-4 goes below 0: what is taken off, put back, is what was added ..
pub nothing_lost : (t_t : ℕ) (w e : Side) → NothingLost t_t w e
nothing_lost = best.nothing_lost

-- .. every cell fits 32 bits ..
pub diamond_fits : (r : List ℕ) → judged_record r ≡ Accepted → (k : ℕ) → get_or (diamond r) k 0 ≤ BLANK
diamond_fits = fits.diamond_fits

-- .. the ratio test holds exactly where the book's 90th percentile is below the storage: where some fraction a/b whose square is at
-- least x = N/3600 has x + 1.28·a/b < L ..
pub ratio_below_1 : (N L : ℕ) → (below1 N L ≡ true → Percentile N L) × (Percentile N L → below1 N L ≡ true)
ratio_below_1 = percentile

-- .. and the book's example 3 is acceptable and comes out of the definitions, cell by cell.
pub example_3 : (judged_record example3 ≡ Accepted) × (diamond example3 ≡ cells3)
example_3 = (example3_accepted, example3_worked)

-- AN OPEN STUDY. Whatever a call of any office on it may answer and leave is what `output` and `next` say of it ..
pub open_call :
    (S : Study) (c : Call) {one : IcuAnswer} {left : Study} {lent : List ℕ} → OpenAllows S c one left lent
    → (one ≡ told (output S c).answer) × (left ≡ next S c) × (lent ≡ (output S c).lent)
open_call S c allowed = let did = offices.does S c allowed in (did.answers, did.leaves, did.fills)

-- .. and what a study is to office o, `Alike`, is the office's own places and blocks. In the words of separation kernels: LOCAL
-- RESPECT, a call of another office leaves the study as it was to this one ..
pub local_respect : (o : ℕ) (S : Study) (c : Call) → caller c ≢ o → Alike o S (next S c)
local_respect = respects

-- .. OUTPUT CONSISTENCY, two studies that are alike to the office answer its call the same ..
pub output_consistency :
    (o : ℕ) {S T : Study} → Alike o S T → (c : Call) → caller c ≡ o → (is_add c ≡ true → lowest_free S.owners ≡ lowest_free T.owners)
    → output S c ≡ output T c
output_consistency o = told_same

-- .. and STEP CONSISTENCY, are alike to it afterwards; for an add, where the lowest free place, or that none is left, is the same.
pub step_consistency :
    (o : ℕ) {S T : Study} → Alike o S T → (c : Call) → caller c ≡ o → (is_add c ≡ true → lowest_free S.owners ≡ lowest_free T.owners)
    → Alike o (next S c) (next T c)
step_consistency o = steps_same

-- So over any run of calls by other offices, refused ones among them, from any start, an office's places and blocks stay ..
pub nothing_of_anothers :
    (o : ℕ) (run : List Call) (S end : Study) (heard : List Heard) → OpenRun o run S end heard → own o run ≡ [] → Alike o S end
nothing_of_anothers = offices.undisturbed_run

-- .. and so does what it reads of them.
pub reads_the_same :
    (o s : ℕ) (d : List ℕ) {S T : Study} {one other : IcuAnswer} {left right : List ℕ}
    → Alike o S T → OpenReadAllows S o s d one left → OpenReadAllows T o s d other right → (one ≡ other) × (left ≡ right)
reads_the_same = offices.reads_alike

-- WHAT AN OFFICE MAY LEARN. Two runs in which it makes the same calls, from studies that are alike to it, whatever other offices hold
-- or do: if the same was revealed to it, the lowest free place at each of its adds, it hears the same, and they end alike to it.
pub may_learn :
    (o : ℕ) (run run' : List Call) (S T : Study) {end end' : Study} {heard heard' : List Heard}
    → OpenRun o run S end heard → OpenRun o run' T end' heard' → Alike o S T → own o run ≡ own o run' → revealed o run S ≡ revealed o run' T
    → (heard ≡ heard') × Alike o end end'
may_learn = offices.learns

-- OWNER is one answer for another's, a free and no such place, and for office 0: whatever is not its own.
pub not_its_own_amended :
    (S : Study) (o s i v : ℕ) {one : IcuAnswer} {left : List ℕ} → OpenAmendAllows S o s i v one left
    → study_size S ≡ Accepted → entry_answer i ≡ Accepted → owns S.owners o s ≡ false → one ≡ told (Refused Owner s)
not_its_own_amended = offices.owner_amending

pub not_its_own_read :
    (S : Study) (o s : ℕ) (d : List ℕ) {one : IcuAnswer} {left : List ℕ} → OpenReadAllows S o s d one left
    → study_size S ≡ Accepted → sheet_answer Junction d ≡ Accepted → owns S.owners o s ≡ false → one ≡ told (Refused Owner s)
not_its_own_read = offices.owner_reading

-- DEMAND 3 OF EACH SITE. From any start, a site of an office's own that is read after any run of calls by any offices is judged, and
-- accepted is the fresh fill of its starting entries with its accepted changes made in order ..
pub site_from_any_start :
    (o s : ℕ) (S : Study) (run : List Call) (end : Study) (heard : List Heard) (d : List ℕ) {one : IcuAnswer} {cells : List ℕ}
    → study_size S ≡ Accepted → owns S.owners o s ≡ true → OpenRun o run S end heard → OpenReadAllows end o s d one cells → length d ≡ sheet_count Junction
    → let e = entries_by Junction (changes_of o s run) (block_at S.blocks s) in (one ≡ told (judged e)) × (cells ≡ left_by (judged e) (sheet e) d)
site_from_any_start = offices.site_from_any_start

-- .. and one that was added is always accepted: what the same amendments make of a lent sheet that was filled from its entries.
pub site_of_its_own :
    (o : ℕ) (S : Study) (e : List ℕ) (before : ℕ) (run : List Call) (end : Study) (heard : List Heard) (d : List ℕ)
    {one two : IcuAnswer} {left : Study} {place : ℕ} {cells : List ℕ}
    → OpenAddAllows S o e before one left place → Yes one → OpenRun o run left end heard
    → OpenReadAllows end o place d two cells → length d ≡ sheet_count Junction
    → Yes two × (cells ≡ sheet (entries_by Junction (changes_of o place run) e)) × (cells ≡ amended_by Junction (changes_of o place run) (sheet e))
site_of_its_own = offices.site_read

-- An add that is accepted gets the lowest free place; one that may be made is accepted exactly where a place is free ..
module _ (S : Study) (office : ℕ) (e : List ℕ) (before : ℕ) {one : IcuAnswer} {left : Study} {place : ℕ}
    (allowed : OpenAddAllows S office e before one left place) where
  pub lowest_place :
      Yes one → (place < length S.owners) × (get_or S.owners place free ≡ free) × ((k : ℕ) → k < place → get_or S.owners k free ≢ free)
  lowest_place = offices.lowest_got S office e before allowed

  pub place_if_free : may_add S office e ≡ Accepted → (s : ℕ) → s < length S.owners → get_or S.owners s free ≡ free → Yes one
  place_if_free = offices.got_if_free S office e before allowed

  -- .. and told FULL exactly where none is.
  pub full_if_none :
      may_add S office e ≡ Accepted → ((s : ℕ) → s < length S.owners → get_or S.owners s free ≢ free) → one ≡ told (Refused Full 0)
  full_if_none = offices.full_if_none S office e before allowed

  pub full_only_if_none : one.number ≡ refusal_number Full → (s : ℕ) → s < length S.owners → get_or S.owners s free ≢ free
  full_only_if_none = offices.full_only S office e before allowed

-- THE ENGINEERS' TEXTS. Any 93 numbers of 32 bits, written as a junction's text and read, are the same numbers ..
pub written_as_text : (e : List ℕ) → length e ≡ entry_count → AllBelow number_limit e → (parsed (junction_text e)).entries ≡ e
written_as_text = texts.entries_back

-- .. and those acceptable for a sheet of a kind are read for it with nothing wrong: the reader leaves them, whatever its list held.
pub accepted_as_text :
    (e : List ℕ) → length e ≡ entry_count → AllBelow number_limit e → (k : Worksheet) → judged_for k e ≡ Accepted → reading k (junction_text e) ≡ Ok tt
accepted_as_text = texts.read_back

pub left_as_text :
    (e : List ℕ) → length e ≡ entry_count → AllBelow number_limit e → (k : Worksheet) (old : List ℕ) → judged_for k e ≡ Accepted
    → kept_unless_read (reading k (junction_text e)) (parsed (junction_text e)).entries old ≡ e
left_as_text = texts.left_back

-- Every cell of a sheet, and every number beside it, stands on the printed page, in the row and the column that a list of changes tells of it.
pub on_the_page : (k : Worksheet) (cell : ℕ) → cell < shown_count k → OnPage k cell
on_the_page = on_page

-- A text that is not read alters nothing.
pub refused_text : (k : Worksheet) (text new old : List ℕ) → (reading k text ≡ Ok tt → ⊥) → kept_unless_read (reading k text) new old ≡ old
refused_text k text new old = by (reading k text)
  where
    by : (r : Reading) → (r ≡ Ok tt → ⊥) → kept_unless_read r new old ≡ old
    by (Ok done) refused = absurd (refused refl)
    by (Err why) refused = refl
