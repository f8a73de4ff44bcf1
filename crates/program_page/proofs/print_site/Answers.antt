use Rattle.program_page.specs.Pages.{site_page}
use mathlib.Core.Path.{refl}
use Rattle.program_page.proofs.print_site.Goals as goal

pub returns : goal.returns
unfolding site_page
returns c = record { prints = rw c.of_site-heading.ensures at c.put_page-prints.ensures; writes = refl; says = c.say_site-says.ensures }
