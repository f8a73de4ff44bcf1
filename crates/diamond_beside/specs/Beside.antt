-- What a diamond's page shows: the sheets of its junctions, the record's own numbers, the cells, and what the ratio of each storage is told by.
use Rattle.std.specs.Prelude.{cond, List, ◌++◌, ℕ, ◌*◌, drop}
use Rattle.lists.specs.Lists.{table}
use Rattle.answers.specs.Answers.{left_by}
use Rattle.layout.specs.Diamond.{storages_from, storage_count}
use Rattle.entries.specs.Layout.{cycle}
use Rattle.procedure.specs.Sheet.{sheet}
use Rattle.diamond_rules.specs.Record.{west, east, storage, judged_record}
use Rattle.diamond_rules.specs.Lines.{stored, fits, diamond}

-- of each storage, N = vL·CL; 3600L; and whether the ratio is below 1
unfoldable pub volumes : List ℕ → List ℕ
volumes r = table (λ k. stored r k * cycle (west r)) storage_count

unfoldable pub rooms : List ℕ → List ℕ
rooms r = table (λ k. 3600 * storage r k) storage_count

unfoldable pub ratios : List ℕ → List ℕ
ratios r = table (λ k. cond (fits r k) 1 0) storage_count

-- all that stands on the page of an acceptable record
unfoldable pub page_numbers : List ℕ → List ℕ
page_numbers r = (sheet (west r) ++ sheet (east r)) ++ (drop storages_from r ++ diamond r) ++ (volumes r ++ rooms r ++ ratios r)

-- where the record is refused, the list stays as it was
unfoldable pub filled_page : List ℕ → List ℕ → List ℕ
filled_page r list = left_by (judged_record r) (page_numbers r) list
