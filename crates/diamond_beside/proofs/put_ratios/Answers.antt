-- `diamond_beside::put_ratios`. Three runs of a number for each storage, put one after the other.
use Rattle.layout.specs.Diamond.{page_volumes}
use Rattle.lists.proofs.Laws.{over_then}
use Rattle.diamond_beside.specs.Beside.{volumes, rooms, ratios}
use Rattle.diamond_beside.proofs.Laws.{volumes-length, rooms-length, ratios-length}
use Rattle.diamond_beside.proofs.Made.{made}
use lib.ListN.{length-append}
use mathlib.Core.List.{◌++◌}
use mathlib.Core.Path.{◌≡◌}
use native.Mathlib.Omega.{arith}
use borrow.Author.Rules.{rules}
use Rattle.diamond_beside.proofs.put_ratios.Goals as goal

pub returns : goal.returns
unfolding volumes rooms ratios
returns c =
    let r = c.args.given.numbers.now in
    let d = c.args.all.now in
    let v : c.from_fn-volumes.result ≡ volumes r = made _ _ _ _ c.from_fn-volumes.ensures.items (λ k y q call. search rules) in
    let m : c.from_fn-rooms.result ≡ rooms r = made _ _ _ _ c.from_fn-rooms.ensures.items (λ k y q call. search rules) in
    let t : c.from_fn-ratios.result ≡ ratios r = made _ _ _ _ c.from_fn-ratios.ensures.items (λ k y q call. search rules) in
    let one = rw v at c.put.ensures in
    let two = rw m at c.put-2.ensures in
    let three = rw t at c.put-3.ensures in
    let long = volumes-length r in
    let more = rooms-length r in
    let both = over_then d page_volumes (volumes r) (rooms r) one two (omega (arith, long)) (omega (arith, more)) in
    over_then d page_volumes (volumes r ++ rooms r) (ratios r) both three (omega (arith, long, more, length-append (volumes r) (rooms r)))
    (omega (arith, ratios-length r))
