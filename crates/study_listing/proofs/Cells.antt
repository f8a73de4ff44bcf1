-- Laws of the cells that a line shows: the letter is one of eight, and what a filled sheet shows.
use Prim.Native.Nat.{ℕ, ◌-◌, ◌≤◌}
use mathlib.Core.Path.{◌≡◌, refl, ◌∙◌}
use mathlib.Core.List.{List}
use lib.ListN.{length, get_or, replicate}
use borrow.Author.Tests.{eq-eqb}
use Rattle.answers.specs.Answers.{left_by}
use Rattle.answers.specs.declared.Answer.{Answer}
use Rattle.answers.specs.declared.Answer.TheVariants.{Accepted}
use Rattle.answers.specs.declared.Answer.TheVariants.{Refused as No}
use Rattle.layout.specs.Entries.{entry_count}
use Rattle.layout.specs.declared.Worksheet.TheVariants.{Junction}
use Rattle.layout.specs.Sheet.{last_from, letter_cell, sheet_count}
use Rattle.entries.specs.Judging.{judged}
use Rattle.entries.proofs.Laws.{accepted_count}
use Rattle.procedure.specs.Sheet.{last_of, last_at, sheet}
use Rattle.sheet_cells.proofs.Cells.{last_cell}
use Rattle.sheet.proofs.Fits.{letter_of_most}
use Rattle.sheet_cells.specs.Cells.{sheet_answer}
use Rattle.sheet.specs.Fill.{fill_answer, filled}
use Rattle.study.specs.Study.{site_answer, site_entries_answer, site_entries}
use Rattle.study.proofs.Laws.{entries_given}
use Rattle.study_lines.specs.Working.{letter_most, Lettered}
use Rattle.study_listing.specs.Listing.{shown, site_of}

letter_cell_most : (e : List ℕ) → length e ≡ entry_count → get_or (sheet e) (letter_cell Junction) 0 ≤ letter_most
unfolding last_at last_of
letter_cell_most e whole = rw (last_cell Junction e whole (letter_cell Junction - last_from Junction)) (letter_of_most _)

pub lettered : (e : List ℕ) → Lettered (site_of e)
unfolding site_of
lettered e = by (judged e) refl
  where
    by : (answer : Answer) → judged e ≡ answer → Lettered (shown answer (sheet e))
    by Accepted ok = letter_cell_most e (accepted_count e ok)
    by (No why place) bad = tt

-- filling a sheet of the right size answers as the entries are judged, and shows the site
fill_shows : (e before : List ℕ) {answer : Answer} {after : List ℕ} → length before ≡ sheet_count Junction
    → answer ≡ fill_answer Junction e before
    → after ≡ filled Junction e before
    → shown answer after ≡ site_of e
unfolding fill_answer filled sheet_answer site_of
fill_shows e before {answer} {after} sized answers fills = by (judged e) refl
  where
    by : (judgement : Answer) → judged e ≡ judgement → shown answer after ≡ shown (judged e) (sheet e)
    by Accepted ok = rw (answers, fills) (simp (eq-eqb (length before) (sheet_count Junction) sized, ok))
    by (No why place) bad = rw (answers, fills) (simp (eq-eqb (length before) (sheet_count Junction) sized, bad))

-- so what the two calls leave, in areas of noughts, shows the site of the file
pub site_shows : (file : List ℕ) (site : ℕ) (entries : List ℕ) {answer : Answer} {after : List ℕ} → site_answer file site ≡ Accepted
    → entries ≡ left_by (site_entries_answer file site entry_count) (site_entries file site) (replicate entry_count 0)
    → answer ≡ fill_answer Junction entries (replicate (sheet_count Junction) 0)
    → after ≡ filled Junction entries (replicate (sheet_count Junction) 0)
    → shown answer after ≡ site_of (site_entries file site)
site_shows file site entries there read answers fills =
    let is = read ∙ entries_given file site entry_count (site_entries file site) (replicate entry_count 0) there refl in
    rw is at (fill_shows entries (replicate (sheet_count Junction) 0) refl answers fills)
