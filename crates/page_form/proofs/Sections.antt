-- Each kind's page: it is no larger than a junction's, each row has its title, and no section steps by nothing.
use Prim.Native.Nat.{◌*◌, ◌≤◌, ◌<◌}
use mathlib.Core.Path.{◌≡◌, refl}
use lib.ListN.{length}
use native.Mathlib.Omega.{arith}
use Rattle.text.specs.Text.{ascii, joined}
use Rattle.layout.proofs.Laws.{few}
use Rattle.layout.specs.Entries.{approach_count}
use Rattle.layout.specs.declared.Worksheet.{Worksheet}
use Rattle.layout.specs.declared.Worksheet.TheVariants.{Junction, Point}
use Rattle.page_form.specs.declared.Counted.TheVariants.{Rows, Cells}
use Rattle.page_form.specs.declared.Section.{Section}
use Rattle.page_form.specs.Form.{title_width, titles, end_of, lines, pairs, rights, whole, beside, row_count, shown_count}
use Rattle.page_form.specs.Working.{most_rows, most_cells, Small}

pub few_rows : (k : Worksheet) → row_count k ≤ most_rows
few_rows Junction = omega arith
few_rows Point = omega arith

pub few_cells : (k : Worksheet) → shown_count k ≤ most_cells
few_cells Junction = omega arith
few_cells Point = omega arith

-- each row has its title
pub titled : (k : Worksheet) → length (titles k) ≡ title_width * row_count k
unfolding titles joined ascii
titled Junction = refl
titled Point = refl

module _ (k : Worksheet) where
  -- a section of the kind's own page
  within : (s : Section) → end_of Rows s ≤ row_count k → end_of Cells s ≤ shown_count k → s.columns ≤ approach_count → 0 < s.step → Small s
  within s rows cells wide steps =
      record { rows = omega (arith, few_rows k); cells = omega (arith, few_cells k); wide = wide; steps = steps }

  pub small_lines : Small (lines k)
  small_lines = within (lines k) (omega arith) (omega arith) (omega arith) (omega (arith, (few k).least))

  pub small_pairs : Small (pairs k)
  small_pairs = within (pairs k) (omega arith) (omega arith) (omega arith) (few k).some_pair

  pub small_rights : Small (rights k)
  small_rights = within (rights k) (omega arith) (omega arith) (omega arith) (omega arith)

  pub small_whole : Small (whole k)
  small_whole = within (whole k) (omega arith) (omega arith) (omega arith) (omega arith)

  pub small_beside : Small (beside k)
  small_beside = within (beside k) (omega arith) (omega arith) (omega arith) (few k).some_beside
