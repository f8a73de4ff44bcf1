-- `text_troubles::put_trouble`. The sentence of each case.
use Rattle.text_troubles.proofs.Laws.{trouble_placed}
use Rattle.text.specs.Text.{ascii}
use borrow.Author.Rules.{rules}
use Rattle.text_troubles.proofs.put_trouble.Goals as goal

pub returns-in-Unknown : goal.returns-in-Unknown
unfolding ascii
returns-in-Unknown c = (search trouble_placed, search rules)

pub returns-in-NoTitle : goal.returns-in-NoTitle
unfolding ascii
returns-in-NoTitle c = (search trouble_placed, search rules)

pub returns-in-NotOfTitle : goal.returns-in-NotOfTitle
unfolding ascii
returns-in-NotOfTitle c = (search trouble_placed, search rules)

pub returns-in-Twice : goal.returns-in-Twice
unfolding ascii
returns-in-Twice c = (search trouble_placed, search rules)

pub returns-in-NotNumber : goal.returns-in-NotNumber
unfolding ascii
returns-in-NotNumber c = (search trouble_placed, search rules)

pub returns-in-NotTime : goal.returns-in-NotTime
unfolding ascii
returns-in-NotTime c = (search trouble_placed, search rules)

pub returns-in-NotFactor : goal.returns-in-NotFactor
unfolding ascii
returns-in-NotFactor c = (search trouble_placed, search rules)

pub returns-in-TooLarge : goal.returns-in-TooLarge
unfolding ascii
returns-in-TooLarge c = (search trouble_placed, search rules)

pub returns-in-Ends : goal.returns-in-Ends
unfolding ascii
returns-in-Ends c = (search trouble_placed, search rules)

pub returns-in-TooLong : goal.returns-in-TooLong
unfolding ascii
returns-in-TooLong c = (search trouble_placed, search rules)

pub returns-in-BadTitle : goal.returns-in-BadTitle
unfolding ascii
returns-in-BadTitle c = (search trouble_placed, search rules)
