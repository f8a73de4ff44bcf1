use lib.Dec.{lit≤}
use Rattle.study_format.proofs.Laws.{same_format}
use Rattle.study.specs.Study.{icut, icus, format_of}
use Rattle.study.proofs.format_of.Goals as goal

pub returns-then-is_old : goal.returns-then-is_old
unfolding format_of
returns-then-is_old c =
    (rw (← c.is_old.ensures, c.if-is_old.true) (same_format _ _ _ _ icus.opening_long _ icus.some_entries _ icus.some_sites _ icus.fits), lit≤ tt)

pub returns : goal.returns
unfolding format_of
returns c =
    (rw (← c.is_old.ensures, c.if-is_old.false) (same_format _ _ _ _ icut.opening_long _ icut.some_entries _ icut.some_sites _ icut.fits), lit≤ tt)
