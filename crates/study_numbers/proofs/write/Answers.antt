-- `study_numbers::write`. The number's four bytes are put over the list at once.
use Rattle.lists.proofs.Laws.{put_over}
use Rattle.study_numbers.specs.Numbers.{bytes_of}
use Rattle.study_numbers.proofs.write.Goals as goal

pub returns : goal.returns
unfolding bytes_of
returns c = rw (c.copy_from_slice.ensures.after, c.to_le_bytes-four.ensures) (put_over c.args.bytes.now (bytes_of c.args.number) c.args.at)
