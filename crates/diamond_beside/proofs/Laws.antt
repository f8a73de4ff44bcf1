-- How many numbers each part of a page's list has.
use mathlib.Core.Path.{◌≡◌, refl}
use mathlib.Core.List.{List, ◌++◌}
use Prim.Native.Nat.{ℕ, ◌+◌, ◌*◌}
use lib.ListN.{length, drop, replicate, length-append, length-drop}
use native.Mathlib.Omega.{arith}
use Rattle.answers.specs.Answers.{left_by}
use Rattle.answers.specs.declared.Answer.TheVariants.{Accepted}
use Rattle.lists.specs.Lists.{table}
use Rattle.layout.specs.declared.Worksheet.TheVariants.{Junction}
use Rattle.layout.specs.Sheet.{sheet_count}
use Rattle.layout.specs.Diamond.{storages_from, storage_count, diamond_count, page_own}
use Rattle.entries.proofs.Laws.{accepted_count}
use Rattle.procedure.specs.Sheet.{sheet}
use Rattle.sheet_cells.proofs.Cells.{sheet_length}
use Rattle.diamond_rules.specs.Record.{west, east, judged_record, cells_size, diamond_answer}
use Rattle.diamond_rules.specs.Lines.{best_of, sides_of, plans_of, diamond, rated}
use Rattle.diamond_rules.proofs.Laws.{record_length, west_accepted, east_accepted}
use Rattle.diamond_beside.specs.Beside.{volumes, rooms, ratios}

pub diamond-length : (r : List ℕ) → length (diamond r) ≡ diamond_count
unfolding best_of sides_of plans_of diamond
diamond-length r = refl

-- as many cells as there should be are never refused
abbrev pub zeros : List ℕ
zeros = replicate diamond_count 0

pub rate_answers : (r : List ℕ) → diamond_answer r zeros ≡ judged_record r
unfolding diamond_answer cells_size
rate_answers r = refl

pub rate_leaves : (r : List ℕ) → rated r zeros ≡ left_by (judged_record r) (diamond r) zeros
unfolding rated diamond_answer cells_size
rate_leaves r = refl

module _ (r : List ℕ) where
  pub volumes-length : length (volumes r) ≡ storage_count
  unfolding table volumes
  volumes-length = refl

  pub rooms-length : length (rooms r) ≡ storage_count
  unfolding table rooms
  rooms-length = refl

  pub ratios-length : length (ratios r) ≡ storage_count
  unfolding table ratios
  ratios-length = refl

  pub ratio_numbers : length (volumes r ++ rooms r ++ ratios r) ≡ 3 * storage_count
  ratio_numbers =
      omega (
        arith,
        volumes-length,
        rooms-length,
        ratios-length,
        length-append (volumes r ++ rooms r) (ratios r),
        length-append (volumes r) (rooms r),
      )

  module _ (ok : judged_record r ≡ Accepted) where
    pub west-sheet : length (sheet (west r)) ≡ sheet_count Junction
    west-sheet = sheet_length Junction (west r) (accepted_count (west r) (west_accepted r ok))

    pub east-sheet : length (sheet (east r)) ≡ sheet_count Junction
    east-sheet = sheet_length Junction (east r) (accepted_count (east r) (east_accepted r ok))

    pub sheets_length : length (sheet (west r) ++ sheet (east r)) ≡ page_own
    sheets_length = omega (arith, west-sheet, east-sheet, length-append (sheet (west r)) (sheet (east r)))

    pub own_length : length (drop storages_from r ++ diamond r) ≡ storage_count + 1 + diamond_count
    own_length =
        omega (arith, record_length r ok, diamond-length r, length-drop storages_from r, length-append (drop storages_from r) (diamond r))
