-- `program_site::put_sites`. One site, or another number of them: the number, and the word past it.
use Rattle.text.proofs.Laws.{placed_after}
use Rattle.text.specs.Text.{ascii}
use Rattle.program_site.specs.Site.{sites_text}
use borrow.Author.Tests.{eq-eqb, ne_eqb}
use native.Mathlib.Omega.{arith}
use Rattle.program_site.proofs.put_sites.Goals as goal

pub returns-then-sites-eq1 : goal.returns-then-sites-eq1
unfolding sites_text ascii
returns-then-sites-eq1 c =
    (rw (eq-eqb _ _ c.if-sites-eq1.true) (placed_after c.put_numbered-counted.ensures.placed c.put_bytes.ensures (omega arith)), omega arith)

pub returns : goal.returns
unfolding sites_text ascii
returns c =
    (rw (ne_eqb _ _ c.if-sites-eq1.false) (placed_after c.put_numbered-counted.ensures.placed c.put_bytes-2.ensures (omega arith)), omega arith)
