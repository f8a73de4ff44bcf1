-- `text_titles::lead_size`. The loop's invariant: every byte passed is of a blank or a comment.
use Rattle.text_titles.specs.Blanks.{lead_size}
use Prim.Native.Nat.{◌+◌}
use mathlib.Core.Path.{◌≡◌}
use mathlib.Core.Bool.{false}
use lib.ListN.{drop}
use Rattle.text_titles.proofs.lead_size.Given as goal

abbrev pub invariant-loop-at : goal.invariant-loop-at
invariant-loop-at l = lead_size false l.text ≡ l.at + lead_size l.comments (drop l.at l.text)
