-- `program_outcome::put_remark`. What is said in each case.
use Rattle.program_outcome.proofs.Laws.{placed_as}
use Rattle.program_outcome.specs.Outcome.{remark_text}
use Rattle.text.specs.Text.{ascii}
use borrow.Author.Rules.{rules}
use Rattle.program_outcome.proofs.put_remark.Goals as goal

pub returns-in-Unread : goal.returns-in-Unread
unfolding remark_text ascii
returns-in-Unread c = (search (placed_as remark_text), search rules)

pub returns-in-Unwritten : goal.returns-in-Unwritten
unfolding remark_text ascii
returns-in-Unwritten c = (search (placed_as remark_text), search rules)

pub returns-in-NoName : goal.returns-in-NoName
unfolding remark_text ascii
returns-in-NoName c = (search (placed_as remark_text), search rules)

pub returns-in-NoEntry : goal.returns-in-NoEntry
unfolding remark_text ascii
returns-in-NoEntry c = (search (placed_as remark_text), search rules)

pub returns-in-IsStudy : goal.returns-in-IsStudy
unfolding remark_text ascii
returns-in-IsStudy c = (search (placed_as remark_text), search rules)

pub returns-in-WantsText : goal.returns-in-WantsText
unfolding remark_text ascii
returns-in-WantsText c = (search (placed_as remark_text), search rules)

pub returns-in-InTheWay : goal.returns-in-InTheWay
unfolding remark_text ascii
returns-in-InTheWay c = (search (placed_as remark_text), search rules)

pub returns-in-Stays : goal.returns-in-Stays
unfolding remark_text ascii
returns-in-Stays c = (search (placed_as remark_text), search rules)

pub returns-in-IsLink : goal.returns-in-IsLink
unfolding remark_text ascii
returns-in-IsLink c = (search (placed_as remark_text), search rules)

pub returns-in-NoInput : goal.returns-in-NoInput
unfolding remark_text ascii
returns-in-NoInput c = (search (placed_as remark_text), search rules)

pub returns-in-NoOutput : goal.returns-in-NoOutput
unfolding remark_text ascii
returns-in-NoOutput c = (search (placed_as remark_text), search rules)
