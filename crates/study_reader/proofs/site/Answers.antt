-- `study_reader::site`. The part is the site's block, and empty on a refusal.
use native.Mathlib.Nat.{add-sub_cancel_left}
use mathlib.Core.Path.{sym, ◌∙◌}
use Rattle.study_reader.proofs.site.Goals as goal

pub returns-in_default : goal.returns-in_default
returns-in_default c =
    simp (sym c.site_answer-answer.ensures ∙ c.in_default.is)

pub site_place-at-requires : goal.site_place-at-requires
site_place-at-requires c = sym c.site_answer-answer.ensures ∙ c.in-Accepted.is

pub returns : goal.returns
returns c =
    let is = sym c.site_answer-answer.ensures ∙ c.in-Accepted.is in
    simp (is, add-sub_cancel_left, c.block_bytes.ensures, c.site_place-at.ensures.0)
