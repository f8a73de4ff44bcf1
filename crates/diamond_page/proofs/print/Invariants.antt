-- The loop's invariant: the bytes passed are those of the page, the others are as they were.
use mathlib.Core.Path.{◌≡◌}
use mathlib.Core.List.{◌++◌}
use lib.ListN.{drop}
use Rattle.lists.specs.Lists.{table}
use Rattle.diamond_page.specs.Page.{page_byte}
use Rattle.diamond_page.proofs.print.Given as goal

abbrev pub invariant-loop-i : goal.invariant-loop-i
invariant-loop-i l = l.out ≡ table (page_byte l.numbers) l.i ++ drop l.i l.initial.out
