-- Three ways out, then the entry of the kind.
use mathlib.Core.Path.{sym, ◌∙◌}
use native.Mathlib.Omega.{arith}
use borrow.Author.Tests.{lt-ltb, le-ltb, le-leb, lt-leb}
use Rattle.text_names.specs.Names.{entry_for}
use Rattle.text_names.proofs.entry_for.Goals as goal

pub returns-then-title-ge-TITLES-clause-value : goal.returns-then-title-ge-TITLES-clause-value
unfolding entry_for
returns-then-title-ge-TITLES-clause-value c = rw (le-leb _ _ c.if-title-ge-TITLES.true)

pub returns-then-row-lt-TITLES-clause-value : goal.returns-then-row-lt-TITLES-clause-value
unfolding entry_for
returns-then-row-lt-TITLES-clause-value c = rw (lt-leb _ _ c.if-title-ge-TITLES.false, lt-ltb _ _ c.if-row-lt-TITLES.true)

pub returns-then-not-has_kind-clause-value : goal.returns-then-not-has_kind-clause-value
unfolding entry_for
returns-then-not-has_kind-clause-value c =
    rw (lt-leb _ _ c.if-title-ge-TITLES.false, le-ltb _ _ c.if-row-lt-TITLES.false, ← c.has_kind.ensures, c.if-not-has_kind.true)

pub entry_in-requires : goal.entry_in-requires
entry_in-requires c = (omega arith, omega arith, sym c.has_kind.ensures ∙ c.if-not-has_kind.false)

pub returns-clause-value : goal.returns-clause-value
unfolding entry_for
returns-clause-value c =
    rw (
      lt-leb _ _ c.if-title-ge-TITLES.false,
      le-ltb _ _ c.if-row-lt-TITLES.false,
      ← c.has_kind.ensures,
      c.if-not-has_kind.false,
      c.entry_in.ensures.0,
    )
