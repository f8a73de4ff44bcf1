-- `text_refusals::put_why`. What is said in each case.
use Rattle.text_refusals.proofs.Laws.{why_placed}
use Rattle.text_refusals.specs.Refusals.{why_text}
use Rattle.text.specs.Text.{ascii}
use borrow.Author.Rules.{rules}
use native.Mathlib.Omega.{arith}
use Rattle.text_refusals.proofs.put_why.Goals as goal

pub returns-in-Shared : goal.returns-in-Shared
unfolding why_text ascii
returns-in-Shared c =
    let named = rw c.approach_row.ensures at c.put_named.ensures.0 in
    (why_placed _ c.in-Shared.is named, omega arith)

pub returns-in-Size : goal.returns-in-Size
unfolding why_text ascii
returns-in-Size c = (search why_placed, search rules)

pub returns-in-Entry : goal.returns-in-Entry
unfolding why_text ascii
returns-in-Entry c = (search why_placed, search rules)

pub returns-in-Range : goal.returns-in-Range
unfolding why_text ascii
returns-in-Range c = (search why_placed, search rules)

pub returns-in-NoLane : goal.returns-in-NoLane
unfolding why_text ascii
returns-in-NoLane c = (search why_placed, search rules)

pub returns-in-File : goal.returns-in-File
unfolding why_text ascii
returns-in-File c = (search why_placed, search rules)

pub returns-in-Store : goal.returns-in-Store
unfolding why_text ascii
returns-in-Store c = (search why_placed, search rules)

pub returns-in-Travel : goal.returns-in-Travel
unfolding why_text ascii
returns-in-Travel c = (search why_placed, search rules)

pub returns-in-Owner : goal.returns-in-Owner
unfolding why_text ascii
returns-in-Owner c = (search why_placed, search rules)

pub returns-in-Full : goal.returns-in-Full
unfolding why_text ascii
returns-in-Full c = (search why_placed, search rules)
