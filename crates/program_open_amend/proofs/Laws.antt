-- What an accepted amendment says of the sheet that the office reads there: before it, that of the block, if it is acceptable; after
-- it, that of the block with the changed entry, which was judged.
use Prim.Native.Nat.{ℕ}
use mathlib.Core.Path.{◌≡◌, refl, ◌∙◌}
use mathlib.Core.List.{List, []}
use lib.ListN.{length, set, length-set}
use Rattle.answers.specs.Answers.{left_by}
use Rattle.answers.specs.declared.Answer.TheVariants.{Accepted}
use Rattle.layout.specs.Open.{blocks_count, block_place}
use Rattle.layout.specs.declared.Worksheet.TheVariants.{Junction}
use Rattle.layout.specs.Sheet.{sheet_count}
use Rattle.entries.specs.Judging.{judged}
use Rattle.procedure.specs.Sheet.{sheet}
use Rattle.page.specs.Worksheet.{change_text}
use Rattle.open_rules.specs.Open.{Study, study, block_at, with_entry, amend_site_answer, amended_blocks, read_answer, read_sheet}
use Rattle.open_rules.proofs.Blocks.{amended_block}
use Rattle.open_rules.proofs.Laws.{Amends, amends, read_accepted, read_judged}
use Rattle.program_amend.specs.Run.{sheet_before}
use Rattle.program_amend.proofs.Laws.{left_twice}
use Rattle.program_open.specs.Opening.{blank_sheet}

module _ (S : Study) (office s i v : ℕ) (accepted : amend_site_answer S office s i v ≡ Accepted) where
  known : Amends S office s i v
  known = amends S office s i v accepted

  written : amended_blocks S office s i v ≡ with_entry S.blocks s i v
  unfolding amended_blocks
  written = rw accepted

  whole : length (amended_blocks S office s i v) ≡ blocks_count
  unfolding with_entry
  whole = rw written (length-set S.blocks (block_place s i) v ∙ known.study.blocks)

  block : block_at (amended_blocks S office s i v) s ≡ set (block_at S.blocks s) i v
  block = rw written (amended_block S.blocks s i v known.entry)

  read_before : (d : List ℕ) → length d ≡ sheet_count Junction → read_answer S office s d ≡ judged (block_at S.blocks s)
  read_before d size = read_judged S office s d known.study known.own size

  read_after : (d : List ℕ) → length d ≡ sheet_count Junction
      → read_sheet (study S.owners (amended_blocks S office s i v)) office s d ≡ sheet (set (block_at S.blocks s) i v)
  unfolding read_sheet
  read_after d size =
      let after = study S.owners (amended_blocks S office s i v) in
      let yes = read_accepted after office s d (record {
        study = record { owners = known.study.owners; blocks = whole };
        cells = size;
        own = known.own;
        fine = rw block known.fine;
      }) in
      rw (yes, block)

  -- so what is listed is what the amendment changes on the sheet
  pub listed : {blocks : List ℕ} → blocks ≡ amended_blocks S office s i v
      → change_text Junction (left_by (read_answer S office s blank_sheet) (read_sheet S office s blank_sheet) [])
      (read_sheet (study S.owners blocks) office s blank_sheet)
      ≡ change_text Junction (sheet_before Junction (block_at S.blocks s)) (sheet (set (block_at S.blocks s) i v))
  unfolding read_sheet
  listed is =
      let e = block_at S.blocks s in
      rw (is, read_after blank_sheet refl, read_before blank_sheet refl, left_twice (judged e) (sheet e) blank_sheet [])
