-- The cells of a sheet: how many there must be, and whose lines look at whose.
use Rattle.std.specs.Prelude.{cond, not, List, ℕ, ◌+◌, ◌-◌, ◌%◌, length, eqb}
use Rattle.layout.specs.declared.Worksheet.{Worksheet}
use Rattle.layout.specs.Sheet.{sheet_count}
use Rattle.answers.specs.Answers.{refuse_if}
use Rattle.answers.specs.declared.Refusal.TheVariants.{Size}
use Rattle.answers.specs.declared.Answer.{Answer}

-- 1 SIZE: "or sheet not" 221; of a single point, Request Seven, "by that length", 175; place 0
unfoldable pub sheet_answer : Worksheet → List ℕ → Answer
sheet_answer k d = refuse_if (not (eqb (length d) (sheet_count k))) Size 0

-- EB and WB, NB and SB
unfoldable pub opposite : ℕ → ℕ
opposite a = cond (eqb (a % 2) 0) (a + 1) (a - 1)
