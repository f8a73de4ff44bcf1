-- `study_format::Format::check_offsets`. The loop's invariant: what is left of the offsets answers for all of them.
use Rattle.answers.proofs.Laws.{Searched}
use Rattle.study_format.specs.Format.{offset_field}
use Rattle.study_format.proofs.Format.check_offsets.Given as goal

abbrev pub invariant-loop-site : goal.invariant-loop-site
invariant-loop-site l = Searched (offset_field l.self l.file l.sites) l.sites l.site
