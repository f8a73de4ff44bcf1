use Rattle.text.specs.Text.{ascii, joined}
use Rattle.page_form.specs.Form.{titles}
use Rattle.page_form.proofs.titles.Goals as goal

pub returns-in-Junction : goal.returns-in-Junction
unfolding titles joined ascii
returns-in-Junction c = rw c.in-Junction.is

pub returns-in-Point : goal.returns-in-Point
unfolding titles joined ascii
returns-in-Point c = rw c.in-Point.is
