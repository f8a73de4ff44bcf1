use Rattle.program_page.specs.Pages.{text_page}
use mathlib.Core.Path.{refl}
use Rattle.program_page.proofs.print_text.Goals as goal

pub returns : goal.returns
unfolding text_page
returns c =
    let heading = rw (c.title_in-title.ensures, c.unmarked.ensures) at c.of_text-heading.ensures in
    record { prints = rw heading at c.put_page-prints.ensures; writes = refl; says = c.say_refused-says.ensures }
