-- Request Three, "The city and the county in one study": an open study, what each call of an office on it answers, by the order
-- 1, 2, 9, 3–5, 10, and what it leaves.
use Rattle.std.specs.Prelude.{Bool, cond, not, ◌&&◌, List, [], ◌∷◌, ℕ, suc, eqb, leb, length, get_or, set, take, drop}
use Rattle.lists.specs.Lists.{over}
use Rattle.layout.specs.declared.Worksheet.TheVariants.{Junction}
use Rattle.layout.specs.Entries.{entry_count}
use Rattle.layout.specs.Open.{place_count, blocks_count, block_from, block_place}
use Rattle.answers.specs.Answers.{◌then◌, refuse_if, left_by}
use Rattle.answers.specs.declared.Refusal.TheVariants.{Size, Owner, Full}
use Rattle.answers.specs.declared.Answer.{Answer}
use Rattle.entries.specs.Judging.{size_answer, judged}
use Rattle.procedure.specs.Sheet.{sheet}
use Rattle.sheet_cells.specs.Cells.{sheet_answer}
use Rattle.amend_sets.specs.Amend.{entry_answer}

-- "one open study", of 165 places with Request Six, "each with an owner number .. in a list lent beside the blocks"
pub record Study : Type 0 where
  pub owners : List ℕ
  pub blocks : List ℕ

abbrev pub study : List ℕ → List ℕ → Study
study owners blocks = record { owners = owners; blocks = blocks }

-- "0 meaning free"
abbrev pub free : ℕ
free = 0

-- the entries of the site at place s
unfoldable pub block_at : List ℕ → ℕ → List ℕ
block_at blocks s = take entry_count (drop (block_from s) blocks)

-- 1 SIZE: "also when the owner list is not" 165 "numbers or the blocks are not" 165; place 0
unfoldable pub study_size : Study → Answer
study_size S =
    refuse_if (not (eqb (length S.owners) place_count)) Size 0 then refuse_if (not (eqb (length S.blocks) blocks_count)) Size 0

-- the owner of place s; a place that there is not has none, as a free one has
unfoldable pub owner_of : List ℕ → ℕ → ℕ
owner_of owners s = get_or owners s free

-- whether an office has the site at place s
unfoldable pub owns : List ℕ → ℕ → ℕ → Bool
owns owners office s = not (eqb office free) && eqb (owner_of owners s) office

-- 9 OWNER: "another's, a free or no such place, or an office that gives its number as 0"; "place the site"
unfoldable pub site_owner : List ℕ → ℕ → ℕ → Answer
site_owner owners office s = refuse_if (not (owns owners office s)) Owner s

-- ".. or 0 for an add"
unfoldable pub add_owner : ℕ → Answer
add_owner office = refuse_if (eqb office free) Owner 0

-- the lowest free place; as many as there are places, where none is free
unfoldable pub lowest_free : List ℕ → ℕ
lowest_free [] = 0
lowest_free (owner ∷ owners) = cond (eqb owner free) 0 (suc (lowest_free owners))

-- 10 FULL: "for an add exactly when no place is free"; place 0
unfoldable pub full_answer : List ℕ → Answer
full_answer owners = refuse_if (leb (length owners) (lowest_free owners)) Full 0

-- AN ADD of entries e by an office: what does not go by the places that are taken, and then FULL
unfoldable pub may_add : Study → ℕ → List ℕ → Answer
may_add S office e = study_size S then size_answer e then add_owner office then judged e

unfoldable pub add_answer : Study → ℕ → List ℕ → Answer
add_answer S office e = may_add S office e then full_answer S.owners

-- "whether a free place is left and which is the lowest: that one it gets"
unfoldable pub with_site : Study → ℕ → ℕ → List ℕ → Study
with_site S s office e = study (set S.owners s office) (over S.blocks (block_from s) e)

unfoldable pub added : Study → ℕ → List ℕ → Study
added S office e = left_by (add_answer S office e) (with_site S (lowest_free S.owners) office e) S

-- and the number in which the place is told, which was `before`
unfoldable pub added_place : Study → ℕ → List ℕ → ℕ → ℕ
added_place S office e before = left_by (add_answer S office e) (lowest_free S.owners) before

-- AN AMENDMENT "in the block": entry i of the site at place s becomes v; "3 to 5 judge all the entries as they would stand"
unfoldable pub amend_site_answer : Study → ℕ → ℕ → ℕ → ℕ → Answer
amend_site_answer S office s i v =
    study_size S then entry_answer i then site_owner S.owners office s then judged (set (block_at S.blocks s) i v)

unfoldable pub with_entry : List ℕ → ℕ → ℕ → ℕ → List ℕ
with_entry blocks s i v = set blocks (block_place s i) v

unfoldable pub amended_blocks : Study → ℕ → ℕ → ℕ → ℕ → List ℕ
amended_blocks S office s i v = left_by (amend_site_answer S office s i v) (with_entry S.blocks s i v) S.blocks

-- A READING "fills a lent sheet", which holds d; blocks are lent, too, so that the block is judged
unfoldable pub read_answer : Study → ℕ → ℕ → List ℕ → Answer
read_answer S office s d = study_size S then sheet_answer Junction d then site_owner S.owners office s then judged (block_at S.blocks s)

unfoldable pub read_sheet : Study → ℕ → ℕ → List ℕ → List ℕ
read_sheet S office s d = left_by (read_answer S office s d) (sheet (block_at S.blocks s)) d
