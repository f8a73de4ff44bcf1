-- The changes that `icuamend` is asked for, of entries for a sheet of kind k: "as all entries would stand" each is judged; one that is
-- not made is told and passed over.
use Rattle.std.specs.Prelude.{ℕ, zero, suc, ◌+◌, ◌*◌, Bool, false, cond, ◌||◌, List, [], ◌++◌, set, ltb, Option, Some, None, Result, Ok, Err, is_ok}
use Rattle.answers.specs.declared.Answer.{Answer}
use Rattle.answers.specs.declared.Answer.TheVariants.{Accepted, Refused as No}
use Rattle.layout.specs.declared.Worksheet.{Worksheet}
use Rattle.kinds.specs.Kinds.{kind_at}
use Rattle.entries.specs.Judging.{judged_for}
use Rattle.text.specs.Text.{ascii}
use Rattle.text_names.specs.Names.{title_count, row_of, entry_named}
use Rattle.text_phrases.specs.Phrases.{numbered}
use Rattle.text_values.specs.declared.Value.{Value}
use Rattle.text_values.specs.declared.Value.TheVariants.{Is, Not}
use Rattle.text_values.specs.Values.{value_of}
use Rattle.text_troubles.specs.Troubles.{trouble_text}
use Rattle.text_refusals.specs.Refusals.{refusal_text}
use Rattle.program_words.specs.Words.{word_at}
use Rattle.program_outcome.specs.declared.Remark.TheVariants.{NoName as NotNamed, NoEntry as NotEntry}
use Rattle.program_outcome.specs.Outcome.{named, remarked}
use Rattle.program_changes.specs.declared.Wrong.{Wrong}
use Rattle.program_changes.specs.declared.Wrong.TheVariants.{NoName, NoEntry, NotValue}
use Rattle.program_changes.specs.declared.Change.{Change}
use Rattle.program_changes.specs.declared.NotMade.{NotMade}
use Rattle.program_changes.specs.declared.NotMade.TheVariants.{Unclear, Refused}

-- the most changes of one call
abbrev pub most_changes : ℕ
most_changes = 20

-- one change -----------------------------------------------------------------------------------------------------------

-- what is asked for: two words name the entry, a third is its value
abbrev pub asked_for : ℕ → Value → Result Change Wrong
asked_for i (Is value) = Ok (record { entry = i; value = value })
asked_for i (Not why) = Err (NotValue why)

-- whether a word's row in the table is a title's
abbrev pub is_title : Option ℕ → Bool
is_title None = false
is_title (Some row) = ltb row title_count

abbrev pub asked_at : Option ℕ → List ℕ → Result Change Wrong
asked_at None value = Err NoEntry
asked_at (Some i) value = asked_for i (value_of (kind_at i) value)

unfoldable pub asked_of : List ℕ → List ℕ → List ℕ → Result Change Wrong
asked_of title kind value = cond (is_title (row_of title)) (asked_at (entry_named title kind) value) (Err NoName)

-- what is said of the word that is wrong
abbrev pub wrong_text : Wrong → List ℕ → List ℕ → List ℕ → List ℕ
wrong_text NoName title kind value = remarked title NotNamed
wrong_text NoEntry title kind value = remarked kind NotEntry
wrong_text (NotValue why) title kind value = named value (trouble_text why value)

-- the entry becomes the value, if the entries are acceptable as they would stand
abbrev pub verdict_by : Answer → Change → Result Change NotMade
verdict_by Accepted change = Ok change
verdict_by (No why place) change = Err (Refused why place)

abbrev pub verdict_for : Worksheet → Result Change Wrong → List ℕ → Result Change NotMade
verdict_for k (Ok change) e = verdict_by (judged_for k (set e change.entry change.value)) change
verdict_for k (Err wrong) e = Err (Unclear wrong)

-- what a change of entries comes to
unfoldable pub verdict_of : Worksheet → List ℕ → List ℕ → List ℕ → List ℕ → Result Change NotMade
verdict_of k title kind value e = verdict_for k (asked_of title kind value) e

-- the entries afterwards
abbrev pub entries_after : Result Change NotMade → List ℕ → List ℕ
entries_after (Ok change) e = set e change.entry change.value
entries_after (Err why) e = e

-- what is said of a change that is not made
abbrev pub why_text : NotMade → List ℕ → List ℕ → List ℕ → List ℕ
why_text (Unclear wrong) title kind value = wrong_text wrong title kind value
why_text (Refused why place) title kind value = refusal_text why place

-- the words of a call ---------------------------------------------------------------------------------------------------

-- a study and a site stand before the changes, each of which is a title, a kind and a value
abbrev pub changes_from : ℕ
changes_from = 2

abbrev pub change_words : ℕ
change_words = 3

-- word j of change n, from 0
abbrev pub word_of_change : List ℕ → ℕ → ℕ → List ℕ
word_of_change words n j = word_at words (changes_from + change_words * n + j)

abbrev pub title_in : List ℕ → ℕ → List ℕ
title_in words n = word_of_change words n 0

abbrev pub kind_in : List ℕ → ℕ → List ℕ
kind_in words n = word_of_change words n 1

abbrev pub value_in : List ℕ → ℕ → List ℕ
value_in words n = word_of_change words n 2

unfoldable pub verdict_in : Worksheet → List ℕ → ℕ → List ℕ → Result Change NotMade
verdict_in k words n e = verdict_of k (title_in words n) (kind_in words n) (value_in words n) e

-- "change 2: ", where there are several
unfoldable pub heading : Bool → ℕ → List ℕ
heading several n = cond several (numbered (ascii "change ") (n + 1) ++ ascii ": ") []

-- a change that is made is not told
abbrev pub told : Bool → List ℕ → ℕ → Result Change NotMade → List ℕ
told several words n (Ok change) = []
told several words n (Err why) = heading several n ++ why_text why (title_in words n) (kind_in words n) (value_in words n)

-- all of them -----------------------------------------------------------------------------------------------------------

-- the entries so far, whether a change was made, and what is said of those that were not
pub record Changes : Type 0 where
  pub entries : List ℕ
  pub made : Bool
  pub says : List ℕ

abbrev pub with_verdict : Bool → List ℕ → ℕ → Result Change NotMade → Changes → Changes
with_verdict several words n verdict so =
    record {
      entries = entries_after verdict so.entries;
      made = so.made || is_ok verdict;
      says = so.says ++ told several words n verdict;
    }

-- the first n changes, one after the other
unfoldable pub changes_to : Worksheet → Bool → List ℕ → List ℕ → ℕ → Changes
changes_to k several words e zero = record { entries = e; made = false; says = [] }
changes_to k several words e (suc n) =
    with_verdict several words n (verdict_in k words n (changes_to k several words e n).entries) (changes_to k several words e n)

abbrev pub changed_by : Worksheet → List ℕ → ℕ → List ℕ → Changes
changed_by k words changes e = changes_to k (ltb 1 changes) words e changes
