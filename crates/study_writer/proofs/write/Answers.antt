-- `study_writer::write`. The checks first; entries that pass them are written.
use Rattle.study_writer.proofs.Laws.{writable}
use Rattle.answers.proofs.Laws.{kept, renewed}
use mathlib.Core.Path.{sym, ◌∙◌}
use Rattle.study_writer.proofs.write.Goals as goal

pub returns-in_default : goal.returns-in_default
returns-in_default c =
    let checked = c.check-answer.ensures in
    record {
      value = checked;
      out_after = kept _ _ (sym checked ∙ c.in_default.is);
    }

pub put_file-requires : goal.put_file-requires
put_file-requires c = writable _ _ _ (sym c.check-answer.ensures ∙ c.in-Accepted.is)

pub returns : goal.returns
returns c =
    let is = sym c.check-answer.ensures ∙ c.in-Accepted.is in
    record {
      value = sym is;
      out_after = c.put_file.ensures ∙ renewed _ _ is;
    }
