-- The loop's invariant: the entries of the sites passed stand at the front.
use Prim.Native.Nat.{◌≤◌, ◌-◌}
use mathlib.Core.Path.{◌≡◌}
use lib.ListN.{length}
use Rattle.lists.specs.Lists.{over}
use Rattle.study.specs.Study.{entries_up_to}
use Rattle.program_convert.proofs.put_sites.Given as goal

abbrev pub invariant-loop-site : goal.invariant-loop-site
invariant-loop-site l = (l.site ≤ l.sites) × (length l.all ≡ length l.initial.all) × (l.all ≡ over l.initial.all 0 (entries_up_to l.file l.site))

abbrev pub decreases-loop-site : goal.decreases-loop-site
decreases-loop-site l = l.sites - l.site
