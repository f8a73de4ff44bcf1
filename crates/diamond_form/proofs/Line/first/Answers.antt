-- That the place is on the page's list is one computed test of all rows.
use mathlib.Core.Path.{refl}
use lib.Dec.{leb}
use borrow.Author.Rules.{rules}
use borrow.Author.Tests.{leb-true}
use Rattle.lists.proofs.Tests.{at_each}
use Rattle.layout.specs.Diamond.{diamond_page_count}
use Rattle.diamond_form.specs.Form.{first_of}
use Rattle.diamond_form.specs.Working.{form_count}
use Rattle.diamond_form.proofs.Line.first.Goals as goal

pub returns : goal.returns
unfolding first_of
returns c =
    (refl, leb-true _ _ (at_each (λ k. leb (first_of k) diamond_page_count) form_count refl c.args.self.number (search rules)))
