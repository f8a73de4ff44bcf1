-- `text_titles::lead_size`. The loop's invariant: every byte passed is of a blank or a comment.
use Rattle.text_titles.proofs.Laws.{lead_on, lead_stops, lead_ends}
use mathlib.Core.Path.{sym, ◌∙◌}
use native.Mathlib.Omega.{arith}
use Rattle.text_titles.proofs.lead_size.Goals as goal

pub returns-then-not-is_lead : goal.returns-then-not-is_lead
returns-then-not-is_lead c =
    let text = c.args.text.now in
    let off = sym c.is_lead.ensures ∙ c.if-not-is_lead.true in
    let stops = lead_stops text c.loop-at.at c.loop-at.comments (omega arith) off in
    (omega (arith, c.loop-at.invariant, stops), omega arith)

pub loop-at-preserved : goal.loop-at-preserved
loop-at-preserved c =
    let text = c.args.text.now in
    let on = sym c.is_lead.ensures ∙ c.if-not-is_lead.false in
    let more = lead_on text c.loop-at.at c.loop-at.comments (omega arith) on in
    rw c.goes_on-comments.ensures (omega (arith, c.loop-at.invariant, more))

pub returns : goal.returns
returns c =
    let text = c.args.text.now in
    (omega (arith, c.loop-at.invariant, lead_ends text c.loop-at.at c.loop-at.comments (omega arith)), omega arith)
