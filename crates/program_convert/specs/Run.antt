-- What `icustudy convert` gives: a study file as one of today, or what is said.
use Rattle.std.specs.Prelude.{cond, List, ℕ, ltb}
use Rattle.answers.specs.declared.Answer.{Answer}
use Rattle.answers.specs.declared.Answer.TheVariants.{Accepted, Refused as No}
use Rattle.text.specs.Text.{ascii}
use Rattle.text_refusals.specs.Refusals.{refusal_text}
use Rattle.study.specs.Study.{site_limit, judgement, count_of, converted}
use Rattle.program_words.specs.Words.{word_at}
use Rattle.program_outcome.specs.Outcome.{Input, Outcome, writing, saying, named, with_file}

-- what is said of a study of before with more sites than are written
unfoldable pub many_text : List ℕ
many_text = ascii "has more than 165 sites, which a study file holds at most: make two of its texts (icustudy show, make)\n"

-- a good study with no more sites than are written is written as one of today; of any other it is said why not
abbrev pub convert_by : Answer → List ℕ → List ℕ → Outcome
convert_by Accepted name file = cond (ltb site_limit (count_of file)) (saying (named name many_text)) (writing (converted file))
convert_by (No why place) name file = saying (named name (refusal_text why place))

unfoldable pub convert_of : List ℕ → List ℕ → Outcome
convert_of name file = convert_by (judgement file) name file

-- the words: the job, a study, the file to write
unfoldable pub convert_run : Input → List ℕ → List ℕ → Outcome
convert_run input words area = with_file input (word_at words 1) area (convert_of (word_at words 1))
