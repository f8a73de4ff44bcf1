-- A study file of today with other entries for one of its sites.
use Rattle.std.specs.Prelude.{ℕ, List}
use Rattle.lists.specs.Lists.{over}
use Rattle.study_numbers.specs.Numbers.{packed}
use Rattle.study_format.specs.Format.{block_place}
use Rattle.study.specs.Study.{icut, sites_of}

-- the entries' bytes over the site's block; every other byte stays
unfoldable pub with_entries : List ℕ → ℕ → List ℕ → List ℕ
with_entries file site entries = over file (block_place icut (sites_of file) site) (packed entries)
