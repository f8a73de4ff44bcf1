-- What an accepted reading gives: the site is a place that there is, and its block stands at the front of the sheet.
use Prim.Native.Nat.{ℕ, ◌<◌}
use mathlib.Core.Path.{◌≡◌}
use mathlib.Core.List.{List}
use lib.ListN.{take}
use Rattle.answers.specs.declared.Answer.TheVariants.{Accepted}
use Rattle.layout.specs.Entries.{entry_count}
use Rattle.layout.specs.Open.{place_count}
use Rattle.layout.specs.declared.Worksheet.TheVariants.{Junction}
use Rattle.entries.proofs.Laws.{accepted_count}
use Rattle.sheet_cells.proofs.Cells.{sheet_entries}
use Rattle.open_rules.specs.Open.{Study, block_at, read_answer, read_sheet}
use Rattle.open_rules.proofs.Laws.{reads, own_place}

module _ (S : Study) (office s : ℕ) (d : List ℕ) (accepted : read_answer S office s d ≡ Accepted) where
  pub site_there : s < place_count
  site_there =
      let r = reads S office s d accepted in
      own_place S.owners office s r.study.owners r.own

  pub front_read : take entry_count (read_sheet S office s d) ≡ block_at S.blocks s
  unfolding read_sheet
  front_read = rw accepted (sheet_entries Junction (block_at S.blocks s) (accepted_count _ (reads S office s d accepted).fine))
