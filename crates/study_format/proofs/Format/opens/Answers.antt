use Rattle.study_format.proofs.Laws.{start_is}
use mathlib.Core.Path.{sym, ◌∙◌}
use Rattle.study_format.proofs.Format.opens.Goals as goal

pub returns : goal.returns
returns c = c.starts_with.ensures.value ∙ sym (start_is c.args.file.now c.args.self.opening)
