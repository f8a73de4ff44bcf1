-- Each way to return is a case of the definition: a title, then an entry under it, then the entry's value by its kind.
use Rattle.program_changes.specs.Changes.{asked_of}
use Rattle.program_changes.proofs.ChangeWords.asked.Goals as goal

pub returns-then-not-is_title-clause-value : goal.returns-then-not-is_title-clause-value
unfolding asked_of
returns-then-not-is_title-clause-value c = rw (← c.is_title.ensures, c.if-not-is_title.true)

pub returns-in_default-clause-value : goal.returns-in_default-clause-value
unfolding asked_of
returns-in_default-clause-value c =
    rw (← c.is_title.ensures, c.if-not-is_title.false, ← c.entry_named.ensures.value, c.in_default.is)

pub returns-in-Is-clause-value : goal.returns-in-Is-clause-value
unfolding asked_of
returns-in-Is-clause-value c =
    rw (
      ← c.is_title.ensures,
      c.if-not-is_title.false,
      ← c.entry_named.ensures.value,
      c.in-Some.is,
      ← c.at.ensures,
      ← c.value_of-word.ensures,
      c.in-Is.is,
    )

pub returns-in-Not-clause-value : goal.returns-in-Not-clause-value
unfolding asked_of
returns-in-Not-clause-value c =
    rw (
      ← c.is_title.ensures,
      c.if-not-is_title.false,
      ← c.entry_named.ensures.value,
      c.in-Some.is,
      ← c.at.ensures,
      ← c.value_of-word.ensures,
      c.in-Not.is,
    )
