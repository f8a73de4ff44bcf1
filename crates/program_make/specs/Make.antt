-- What `icustudy make` gives: the study file of the junctions in texts, or what is said of the first text that is not well.
use Rattle.std.specs.Prelude.{ℕ, ◌+◌, ◌*◌, cond, List, [], length, take, leb, Some, None, Ok, Err}
use Rattle.lists.specs.Lists.{over}
use Rattle.layout.specs.declared.Worksheet.TheVariants.{Junction}
use Rattle.layout.specs.Entries.{entry_count}
use Rattle.study.specs.Study.{file_of}
use Rattle.text_scan.specs.Scanning.{parsed}
use Rattle.text_reader.specs.Reader.{Reading, reading, kept_unless_read}
use Rattle.text_refusals.specs.Refusals.{reading_text}
use Rattle.program_outcome.specs.declared.Remark.TheVariants.{Unread}
use Rattle.program_outcome.specs.Outcome.{Input, named, remarked}

-- what is said of a text that reading came to: nothing, if it is well
abbrev pub said_by : Reading → List ℕ → List ℕ → List ℕ
said_by (Ok done) name text = []
said_by (Err why) name text = named name (reading_text text (Err why))

-- a site's entries after those of the sites before it, where there is room for them
unfoldable pub with_site : List ℕ → ℕ → List ℕ → List ℕ
with_site all site entries =
    cond (leb (entry_count * site + length entries) (length all)) (over all (entry_count * site) entries) all

-- what is said of the file that was read into an area, and the entries of all sites with its text's, if that is well
unfoldable pub text_says : Input → List ℕ → List ℕ → List ℕ
text_says (Some size) name area = said_by (reading Junction (take size area)) name (take size area)
text_says None name area = remarked name Unread

unfoldable pub text_adds : Input → List ℕ → ℕ → List ℕ → List ℕ
text_adds (Some size) area site all =
    kept_unless_read (reading Junction (take size area)) (with_site all site (parsed (take size area)).entries) all
text_adds None area site all = all

-- the study file of the first sites
abbrev pub study_of : ℕ → List ℕ → List ℕ
study_of sites all = file_of (take (entry_count * sites) all)
