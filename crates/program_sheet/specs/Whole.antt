-- All that `icusheet` gives: what is given once, and then the pages of all sites, where they are asked for, one after the other.
use Rattle.std.specs.Prelude.{ℕ, zero, suc, List, ◌++◌}
use Rattle.program_outcome.specs.declared.Call.{Call}
use Rattle.program_outcome.specs.Outcome.{Outcome}
use Rattle.program_page.specs.Pages.{nothing}
use Rattle.program_sheet.specs.Run.{sheet_run, pages_of, page_at}

-- what is printed, written and said one after the other
abbrev pub together : Outcome → Outcome → Outcome
together one other =
    record { prints = one.prints ++ other.prints; writes = one.writes ++ other.writes; says = one.says ++ other.says }

-- the first n pages
unfoldable pub pages_up_to : Call → List ℕ → List ℕ → ℕ → Outcome
pages_up_to call words area zero = nothing
pages_up_to call words area (suc n) = together (pages_up_to call words area n) (page_at call words area n)

abbrev pub sheet_whole : Call → List ℕ → List ℕ → Outcome
sheet_whole call words area = together (sheet_run call words area) (pages_up_to call words area (pages_of call words area))
