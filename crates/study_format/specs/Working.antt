-- The entries of a study file's sites, which the round trips are proved over.
use Rattle.std.specs.Prelude.{ℕ, zero, suc, List, [], ◌++◌}
use Rattle.study_format.specs.declared.Format.{Format}
use Rattle.study_format.specs.Format.{site_entries}

-- the entries of the first n sites, site after site
unfoldable pub entries_up_to : Format → List ℕ → ℕ → List ℕ
entries_up_to f file zero = []
entries_up_to f file (suc n) = entries_up_to f file n ++ site_entries f file n
