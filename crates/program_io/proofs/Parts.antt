-- Two reads one after the other are one read of both.
use Rattle.std.proofs.Common.{ℕ, List, ◌++◌, ◌+◌, ◌≡◌, ◌≤◌, None, Some, Option, take, length, rules}
use Rattle.std.proofs.lemmas.List.{take-append-le, append_assoc}
use Rattle.std.proofs.Math.Seq.{take-append-add}
use Rattle.std.specs.Io.KnownBytes.{Consumes}
use borrow.Rule.Slice.PartMut.{put_mid}

-- what is lost in two reads is lost in one of both's bytes
pub Consumes-twice : (a b c : Option (List ℕ)) (xs ys : List ℕ) → Consumes a b xs → Consumes b c ys → Consumes a c (xs ++ ys)
Consumes-twice None b c xs ys p q = search rules
Consumes-twice (Some a) None c xs ys p q = search rules
Consumes-twice (Some a) (Some b) None xs ys p q = search rules
Consumes-twice (Some a) (Some b) (Some c) xs ys p q = search (rules, append_assoc)

-- where a part past the first a bytes was lent and has ys now, the front of it all is those a bytes and the front of ys
pub take-put_mid : {X : Type 0} (a k n : ℕ) (xs ys : List X) → a ≤ length xs → n ≤ length ys → take (a + n) (put_mid a k xs ys) ≡ take a xs ++ take n ys
take-put_mid a k n xs ys p q = search (rules, take-append-add, take-append-le)
