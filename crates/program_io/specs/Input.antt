-- Working definitions: how much reading can have come to, which bytes it gives, and how long a name beside another is.
use Rattle.std.specs.Prelude.{ℕ, ◌≡◌, ◌+◌, ◌≤◌, ◌<◌, List, length, take, Option, Some, None, ⊤}
use Rattle.std.specs.Io.KnownBytes.{Consumes, IsAtEnd}
use Rattle.program_outcome.specs.Outcome.{Input, word_most}

-- what was read lies within an area of this size
abbrev pub Within : Input → ℕ → Type 0
Within (Some count) size = count ≤ size
Within None size = ⊤

-- the bytes at the front of the area are those that the reader lost; where they do not fill it, the reader has no more
abbrev pub Reads : Input → Option (List ℕ) → Option (List ℕ) → List ℕ → Type 0
Reads (Some count) old new area = Consumes old new (take count area) × (count < length area → IsAtEnd new)
Reads None old new area = ⊤

-- one read: the same, but the reader is known to have no more only where there was room and it gave nothing
abbrev pub ReadsOnce : Input → Option (List ℕ) → Option (List ℕ) → List ℕ → Type 0
ReadsOnce (Some count) old new area = Consumes old new (take count area) × (0 < length area → count ≡ 0 → IsAtEnd new)
ReadsOnce None old new area = ⊤

-- an argument and an ending, as `.part` and a digit
abbrev pub beside_most : ℕ
beside_most = word_most + 6
