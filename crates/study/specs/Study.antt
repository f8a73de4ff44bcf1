-- "Study file and listing": the formats of study files, and what they make of a file. Request Six: "Study files with these open with
-- "ICUT", hold blocks of 372 bytes and at most 165 sites"; ""ICUS" is still read, measured factor 0"; "Only "ICUT" is written".
use Rattle.std.specs.Prelude.{ℕ, zero, suc, Bool, cond, List, [], ◌∷◌, ◌++◌, length, eqb, refl}
use Rattle.std.proofs.Common.{lit<}
use Rattle.layout.specs.Entries.{entry_count}
use Rattle.answers.specs.Answers.{◌then◌}
use Rattle.answers.specs.declared.Answer.{Answer}
use Rattle.study_format.specs.declared.Format.{Format}
use Rattle.study_format.specs.Format as format
use Rattle.study_before.specs.Before.{entries_before, widened}

-- "at most 165 sites"
abbrev pub site_limit : ℕ
site_limit = 165

-- the format of today, with "ICUT"
abbrev pub icut : Format
icut = record { opening = 73 ∷ 67 ∷ 85 ∷ 84 ∷ []; entries = entry_count; most = site_limit; opening_long = refl; some_entries = lit< tt; some_sites = lit< tt; fits = lit< tt }

-- the format of before: "the four bytes "ICUS" open the file, then k (0–180), .. blocks of 81 entries"
abbrev pub limit_before : ℕ
limit_before = 180

abbrev pub icus : Format
icus = record { opening = 73 ∷ 67 ∷ 85 ∷ 83 ∷ []; entries = entries_before; most = limit_before; opening_long = refl; some_entries = lit< tt; some_sites = lit< tt; fits = lit< tt }

-- reading

-- a file is of the format of before if it opens so, and else judged as one of today
abbrev pub is_old : List ℕ → Bool
is_old file = format.starts_with file icus.opening

unfoldable pub format_of : List ℕ → Format
format_of file = cond (is_old file) icus icut

abbrev pub sites_of : List ℕ → ℕ
sites_of = format.sites_of

abbrev pub judgement : List ℕ → Answer
judgement file = format.judgement (format_of file) file

abbrev pub count_of : List ℕ → ℕ
count_of file = format.count_of (format_of file) file

abbrev pub site_answer : List ℕ → ℕ → Answer
site_answer file site = format.site_answer (format_of file) file site

abbrev pub site_block : List ℕ → ℕ → List ℕ
site_block file site = format.site_block (format_of file) file site

-- a block of 324 bytes is one of before
abbrev pub is_before : List ℕ → Bool
is_before block = eqb (length block) (format.block_bytes icus)

-- a block's entries, as many as a junction has today, asked for with room for some numbers
unfoldable pub block_answer : List ℕ → ℕ → Answer
block_answer block room = cond (is_before block) (format.size_answer entry_count room) (format.block_answer icut block room)

unfoldable pub block_entries : List ℕ → List ℕ
block_entries block = cond (is_before block) (widened (format.block_entries icus block)) (format.block_entries icut block)

-- and a site's
abbrev pub site_entries_answer : List ℕ → ℕ → ℕ → Answer
site_entries_answer file site room = format.size_answer entry_count room then site_answer file site

abbrev pub site_entries : List ℕ → ℕ → List ℕ
site_entries file site = block_entries (site_block file site)

-- the entries of the first n sites, site after site
unfoldable pub entries_up_to : List ℕ → ℕ → List ℕ
entries_up_to file zero = []
entries_up_to file (suc n) = entries_up_to file n ++ site_entries file n

-- writing

abbrev pub file_bytes : ℕ → ℕ
file_bytes = format.file_bytes icut

abbrev pub sites_in : List ℕ → ℕ
sites_in = format.sites_in icut

abbrev pub write_answer : List ℕ → ℕ → Answer
write_answer = format.write_answer icut

abbrev pub file_of : List ℕ → List ℕ
file_of = format.file_of icut

-- the file of today that has the sites of a file, of today or of before
abbrev pub converted : List ℕ → List ℕ
converted file = file_of (entries_up_to file (count_of file))
