-- What each call of the library allows: its answer and what it leaves in what it is lent, as functions of what it is given.
use Rattle.std.specs.Prelude.{◌≡◌, List, ℕ, length}
use Rattle.answers.specs.Answers.{left_by}
use Rattle.lists.specs.Lists.{over}
use Rattle.layout.specs.declared.Worksheet.{Worksheet}
use Rattle.point_start.specs.Start.{start_answer, started}
use Rattle.sheet.specs.Fill.{fill_answer, filled}
use Rattle.amend_sets.specs.Amend.{amend_answer, amended}
use Rattle.study.specs.Study.{judgement, count_of, site_entries_answer, site_entries, write_answer, file_of}
use Rattle.study_listing.specs.Listing.{listing, list_answer}
use Rattle.diamond_rules.specs.Record.{diamond_answer}
use Rattle.diamond_rules.specs.Lines.{rated}
use Rattle.open_rules.specs.Open.{Study, add_answer, added, added_place, amend_site_answer, amended_blocks, read_answer, read_sheet}
use Rattle.icu.specs.declared.IcuAnswer.{IcuAnswer}
use Rattle.icu.specs.Told.{told}

-- an outcome, `one` answered and `left` left behind, where the rules fix the answer and what is left
abbrev pub Allowed : {A B : Type 0} → A → B → A → B → Type 0
Allowed answer after one left = (one ≡ answer) × (left ≡ after)

-- from entries e, on a sheet of kind k that holds d
abbrev pub FillAllows : Worksheet → List ℕ → List ℕ → IcuAnswer → List ℕ → Type 0
FillAllows k e d = Allowed (told (fill_answer k e d)) (filled k e d)

-- on a sheet of kind k that holds d, entry i given the value v
abbrev pub AmendAllows : Worksheet → List ℕ → ℕ → ℕ → IcuAnswer → List ℕ → Type 0
AmendAllows k d i v = Allowed (told (amend_answer k d i v)) (amended k d i v)

-- the starting entries of a single point, in a list that holds old
abbrev pub StartAllows : List ℕ → IcuAnswer → List ℕ → Type 0
StartAllows old = Allowed (told (start_answer old)) (started old)

abbrev pub CheckAllows : List ℕ → IcuAnswer → Type 0
CheckAllows file answer = answer ≡ told (judgement file)

abbrev pub CountAllows : List ℕ → ℕ → Type 0
CountAllows file sites = sites ≡ count_of file

-- a site's entries, in a list that holds old
abbrev pub SiteAllows : List ℕ → ℕ → List ℕ → IcuAnswer → List ℕ → Type 0
SiteAllows file site old =
    let answer = site_entries_answer file site (length old) in
    Allowed (told answer) (left_by answer (site_entries file site) old)

-- the file of these entries, in an area that holds old
abbrev pub WriteAllows : List ℕ → List ℕ → IcuAnswer → List ℕ → Type 0
WriteAllows entries old =
    let answer = write_answer entries (length old) in
    Allowed (told answer) (left_by answer (over old 0 (file_of entries)) old)

-- the file's listing, in an area that holds old, and its length, in a number that was before
abbrev pub ListAllows : List ℕ → List ℕ → ℕ → IcuAnswer → List ℕ → ℕ → Type 0
ListAllows file old before one left size =
    let answer = list_answer file (length old) in
    Allowed (told answer) (left_by answer (over old 0 (listing file)) old) one left × (size ≡ left_by answer (length (listing file)) before)

-- from a record r, in cells that hold d
abbrev pub DiamondAllows : List ℕ → List ℕ → IcuAnswer → List ℕ → Type 0
DiamondAllows r d = Allowed (told (diamond_answer r d)) (rated r d)

-- an office's entries e, added to an open study S, and their place, in a number that was before
abbrev pub OpenAddAllows : Study → ℕ → List ℕ → ℕ → IcuAnswer → Study → ℕ → Type 0
OpenAddAllows S office e before one left place =
    Allowed (told (add_answer S office e)) (added S office e) one left × (place ≡ added_place S office e before)

-- entry i of an office's site at place s given the value v, in the blocks
abbrev pub OpenAmendAllows : Study → ℕ → ℕ → ℕ → ℕ → IcuAnswer → List ℕ → Type 0
OpenAmendAllows S office s i v = Allowed (told (amend_site_answer S office s i v)) (amended_blocks S office s i v)

-- an office's site at place s, on a sheet that holds d
abbrev pub OpenReadAllows : Study → ℕ → ℕ → List ℕ → IcuAnswer → List ℕ → Type 0
OpenReadAllows S office s d = Allowed (told (read_answer S office s d)) (read_sheet S office s d)
