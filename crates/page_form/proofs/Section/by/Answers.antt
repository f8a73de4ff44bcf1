-- What each call promises, from the last to the first.
use Rattle.page_form.specs.Form.{section_by}
use Rattle.page_form.proofs.Section.by.Goals as goal

pub returns : goal.returns
unfolding section_by
returns c = (
  rw (
    c.or.ensures.0,
    c.or-from_approaches.ensures.0,
    c.or-from_cycle.ensures.0,
    c.or-from_lines.ensures.0,
    c.lines.ensures.0,
    c.or-from_pairs.ensures.0,
    c.pairs.ensures.0,
    c.or-from_rights.ensures.0,
    c.rights.ensures.0,
    c.or-from_whole.ensures.0,
    c.beside.ensures.0,
    c.whole.ensures.0,
  ),
  c.or.ensures.1,
)
