-- What the changes leave in lent areas, and how long a sentence is at most: no public promise says it.
use Rattle.std.specs.Prelude.{ℕ, ◌+◌, ◌*◌, ◌≤◌, ◌≡◌, Bool, ◌||◌, List, Result, is_ok}
use Rattle.text.specs.Text.{digit_most, Placed}
use Rattle.program_outcome.specs.Outcome.{word_most}
use Rattle.program_changes.specs.declared.Change.{Change}
use Rattle.program_changes.specs.declared.NotMade.{NotMade}
use Rattle.program_changes.specs.declared.Done.{Done}
use Rattle.program_changes.specs.Changes.{Changes, most_changes, entries_after, told}

-- "change ", a number and ": "
abbrev pub heading_most : ℕ
heading_most = 7 + digit_most + 2

-- what is said of one change: a word, and as much for what is said of it
abbrev pub verdict_most : ℕ
verdict_most = 2 * word_most

abbrev pub sentence_most : ℕ
sentence_most = heading_most + verdict_most

abbrev pub said_most : ℕ
said_most = most_changes * sentence_most

-- what one change leaves that comes to a verdict, told past what was said before it
pub record Stepped (so : Done) (verdict : Result Change NotMade) (several : Bool) (words : List ℕ) (n : ℕ)
    (e e' said said' : List ℕ) (done : Done) : Type 0 where
  pub entries : e' ≡ entries_after verdict e
  pub made : done.made ≡ so.made || is_ok verdict
  pub says : Placed said so.says (told several words n verdict) said' done.says
  pub few : done.says ≤ so.says + sentence_most

-- the entries and the sentences that changes come to, in the areas that they were lent
pub record Came (so : Changes) (said entries' said' : List ℕ) (done : Done) : Type 0 where
  pub entries : entries' ≡ so.entries
  pub made : done.made ≡ so.made
  pub says : Placed said 0 so.says said' done.says
