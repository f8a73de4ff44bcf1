-- `text_titles::titling_of`. No title, one that is not in quotes, and one that is; what was passed lies within the text.
use Rattle.text_titles.proofs.Laws.{untitled, mistitled, titled, within}
use Rattle.text.specs.Text.{ascii}
use mathlib.Core.Path.{sym, ◌∙◌}
use Rattle.text_titles.proofs.titling_of.Goals as goal

pub returns-in_default : goal.returns-in_default
unfolding ascii
returns-in_default c = sym (untitled _ c.lead_size-lead.ensures.0 c.past-word.ensures c.in_default.ensures.cases)

pub returns-then-not-is_quoted : goal.returns-then-not-is_quoted
unfolding ascii
returns-then-not-is_quoted c =
    let word = c.in-Some.ensures.cases in
    let bad = sym c.is_quoted.ensures ∙ c.if-not-is_quoted.true in
    sym (mistitled _ c.lead_size-lead.ensures.0 c.past-word.ensures word.1 c.gap_size-gap.ensures.0
    c.past-inner.ensures c.title_size-size.ensures.0 word.0 bad)

pub titled-requires : goal.titled-requires
titled-requires c =
    let lead = c.lead_size-lead.ensures in
    within _ lead.0 c.past-word.ensures c.in-Some.ensures.cases.1 c.gap_size-gap.ensures.0
    c.past-inner.ensures c.title_size-size.ensures.0 lead.1 c.gap_size-gap.ensures.1 c.title_size-size.ensures.1

pub returns : goal.returns
unfolding ascii
returns c =
    let word = c.in-Some.ensures.cases in
    let good = sym c.is_quoted.ensures ∙ c.if-not-is_quoted.false in
    rw c.titled.ensures
    (sym (titled _ c.lead_size-lead.ensures.0 c.past-word.ensures word.1 c.gap_size-gap.ensures.0
    c.past-inner.ensures c.title_size-size.ensures.0 word.0 good))
