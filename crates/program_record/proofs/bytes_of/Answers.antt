use mathlib.Core.Path.{◌≡◌, refl}
use mathlib.Core.List.{List}
use Prim.Native.Nat.{ℕ}
use lib.ListN.{take}
use Rattle.std.specs.Prelude.{Some, None, unwrap_or}
use Rattle.program_outcome.specs.Outcome.{Input}
use Rattle.program_record.specs.Arguments.{bytes_of}
use Rattle.program_record.proofs.bytes_of.Goals as goal

-- of no bytes, the front has none
front_read : (input : Input) (area : List ℕ) → take (unwrap_or input 0) area ≡ bytes_of input area
front_read (Some size) area = refl
front_read None area = refl

pub returns : goal.returns
returns c = rw (c.unwrap_or.ensures, front_read c.args.input c.args.area.now) at c.front.ensures.0
