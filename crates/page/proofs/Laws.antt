-- Laws of the rows of what changed.
use Prim.Native.Nat.{ℕ, zero, suc, ◌+◌, ◌*◌, ◌≤◌, ◌<◌}
use mathlib.Core.Path.{◌≡◌, refl}
use mathlib.Core.Bool.{Bool, true, false}
use mathlib.Core.List.{List, ◌++◌, append-nil}
use lib.ListN.{length, length-append}
use native.Mathlib.Numerals.{add-one}
use native.Mathlib.Omega.{arith}
use Rattle.lists.specs.Lists.{table, over}
use Rattle.lists.proofs.Laws.{length-table}
use Rattle.text.specs.Text.{ascii, Placed}
use Rattle.text.proofs.Laws.{placed_next}
use Rattle.layout.specs.declared.Worksheet.{Worksheet}
use Rattle.layout.specs.declared.Worksheet.TheVariants.{Junction}
use Rattle.layout.specs.Sheet.{sheet_count}
use Rattle.page.specs.Worksheet.{row_width, change_byte, is_listed, change_head, change_rows}
use Rattle.page.specs.Working.{change_bytes}

-- no sheet has more cells than a junction's
-- what changed, row after row

module _ (k : Worksheet) (before after : List ℕ) where
  abbrev change_row : ℕ → List ℕ
  change_row n = table (change_byte k before after n) row_width

  rows_listed : (n : ℕ) → is_listed k before after n ≡ true
      → change_rows k before after (n + 1) ≡ change_rows k before after n ++ change_row n
  unfolding change_rows
  rows_listed n listed = rw (add-one n, listed)

  rows_unlisted : (n : ℕ) → is_listed k before after n ≡ false
      → change_rows k before after (n + 1) ≡ change_rows k before after n
  unfolding change_rows
  rows_unlisted n unlisted = rw (add-one n, unlisted, append-nil)

  pub length-change_rows : (n : ℕ) → length (change_rows k before after n) ≤ row_width * (n + 1)
  unfolding change_rows change_head ascii
  length-change_rows zero = omega arith
  length-change_rows (suc n) = by (is_listed k before after n) refl (length-change_rows n)
    where
      by : (b : Bool) → is_listed k before after n ≡ b → length (change_rows k before after n) ≤ row_width * (n + 1)
          → length (change_rows k before after (suc n)) ≤ row_width * (suc n + 1)
      by true e h = rw (e, length-append, length-table) (omega arith)
      by false e h = rw (e, append-nil) (omega arith)

  pub row_listed : {list one two : List ℕ} {at : ℕ} (n : ℕ) → n < sheet_count Junction → length list ≡ change_bytes
      → is_listed k before after n ≡ true
      → Placed list 0 (change_rows k before after n) one at
      → two ≡ over one at (change_row n)
      → Placed list 0 (change_rows k before after (n + 1)) two (at + row_width)
  row_listed n few room listed rows row =
      rw (rows_listed n listed)
      (placed_next rows (record { is = row; next = rw (length-table (change_byte k before after n) row_width) })
      (omega (arith, length-change_rows n, length-table (change_byte k before after n) row_width)))

  pub row_unlisted : {list one : List ℕ} {at : ℕ} (n : ℕ) → is_listed k before after n ≡ false
      → Placed list 0 (change_rows k before after n) one at → Placed list 0 (change_rows k before after (n + 1)) one at
  row_unlisted n unlisted rows = rw (rows_unlisted n unlisted) rows
