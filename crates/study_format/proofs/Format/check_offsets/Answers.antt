-- `study_format::Format::check_offsets`. The loop's invariant: what is left of the offsets answers for all of them.
use Rattle.answers.proofs.Laws.{search_starts, search_goes_on, search_stops, search_ends}
use native.Mathlib.Omega.{arith}
use mathlib.Core.Path.{sym, ◌∙◌}
use Rattle.study_format.proofs.Format.check_offsets.Goals as goal

pub returns-in_default : goal.returns-in_default
returns-in_default c =
    search_stops _ _ _ (omega arith) c.check_offset-answer.ensures c.in_default.is c.loop-site.invariant

pub loop-site-preserved : goal.loop-site-preserved
loop-site-preserved c =
    search_goes_on _ _ _ (omega arith) (sym c.check_offset-answer.ensures ∙ c.in-Accepted.is) c.loop-site.invariant

pub returns : goal.returns
returns c = search_ends _ _ _ (omega arith) c.loop-site.invariant

pub loop-site-init : goal.loop-site-init
loop-site-init c = search_starts _ _
