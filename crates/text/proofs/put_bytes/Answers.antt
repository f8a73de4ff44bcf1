-- `text::put_bytes`. The part of the area from the place on holds the bytes.
use Rattle.std.proofs.Common.{length, arith}
use Rattle.std.proofs.lemmas.Slice.{put_mid-paste}
use Rattle.lists.specs.Lists.{over}
use lib.Seq.{take-length}
use mathlib.Core.Path.{refl, ◌∙◌}
use Rattle.text.proofs.put_bytes.Goals as goal

pub returns : goal.returns
unfolding over
returns c =
    let bytes = c.args.bytes.now in
    let is = put_mid-paste c.args.at _ c.args.out.now _ bytes (length bytes) c.copy_from_slice.ensures.after (omega arith) refl in
    record { is = is ∙ rw (take-length bytes); next = refl }
