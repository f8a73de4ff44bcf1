-- `study_listing::list`. The text is made in an area that holds any listing, and copied if there is room.
use mathlib.Core.Path.{◌≡◌, sym}
use native.Mathlib.Omega.{arith}
use lib.ListN.{length, replicate}
use borrow.Author.Tests.{lt-ltb, le-ltb}
use Rattle.lists.proofs.Laws.{front_over}
use Rattle.study_listing.specs.Listing.{listing}
use Rattle.study_listing.specs.Working.{area_bytes}
use Rattle.study_listing.proofs.Laws.{length-listing}
use Rattle.study_listing.proofs.list.Goals as goal

pub returns-then-out-size : goal.returns-then-out-size
returns-then-out-size c =
    let args = c.args in
    let short = lt-ltb (length args.out.now) (length (listing args.file.now)) (omega arith) in
    record {
      value = simp short c.refused.ensures;
      out_after = simp short;
      written_after = simp short;
    }

pub slice_bounds-area-end : goal.slice_bounds-area-end
slice_bounds-area-end c = omega (arith, length-listing c.args.file.now)

pub slice_bounds-put_bytes-end : goal.slice_bounds-put_bytes-end
slice_bounds-put_bytes-end c =
    let text = listing c.args.file.now in
    let size : length text ≡ c.put_listing-size.result = omega arith in
    rw (c.put_listing-size.ensures.is, front_over (replicate area_bytes 0) text c.put_listing-size.result size) (sym size)

pub put_bytes-requires : goal.put_bytes-requires
put_bytes-requires c =
    let text = listing c.args.file.now in
    let size : length text ≡ c.put_listing-size.result = omega arith in
    rw (c.put_listing-size.ensures.is, front_over (replicate area_bytes 0) text c.put_listing-size.result size) (omega arith)

pub overflow_cast-written : goal.overflow_cast-written
overflow_cast-written c =
    omega (arith, length-listing c.args.file.now)

pub returns : goal.returns
returns c =
    let args = c.args in
    let text = listing args.file.now in
    let size : length text ≡ c.put_listing-size.result = omega arith in
    let whole = c.put_listing-size.ensures.is in
    let front = front_over (replicate area_bytes 0) text c.put_listing-size.result size in
    let fits = le-ltb (length args.out.now) (length text) (omega arith) in
    record {
      value = simp fits;
      out_after = simp fits (rw (whole, front) at c.put_bytes.ensures.is);
      written_after = simp fits (sym size);
    }
