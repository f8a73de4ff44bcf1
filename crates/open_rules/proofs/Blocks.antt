-- The block of a site among all blocks: how long it is, what it becomes where it is written, and that every other block stays.
use mathlib.Core.Path.{◌≡◌, sym, ap, ◌∙◌}
use mathlib.Core.List.{List, ◌++◌, append_assoc}
use mathlib.Core.Logic.{◌≢◌}
use Prim.Native.Nat.{ℕ, ◌+◌, ◌-◌, ◌≤◌, ◌<◌}
use native.Mathlib.Decide.{dec_lt}
use native.Mathlib.Omega.{arith}
use lib.ListN.{length, set, take, drop, length-append, length-drop, take-append-drop}
use lib.Seq.{length-take-le, take-append-le, drop-append-le, drop-append-add, take-append_seam, drop-drop, drop_at}
use lib.Seq.{take-set-le, take-set-lt, drop-set-lt, drop-set-add}
use Rattle.lists.specs.Lists.{over}
use Rattle.layout.specs.Entries.{entry_count}
use Rattle.layout.specs.Open.{place_count, blocks_count, block_from, block_place}
use Rattle.open_rules.specs.Open.{block_at, with_entry}

pub block_length : (blocks : List ℕ) (s : ℕ) → length blocks ≡ blocks_count → s < place_count → length (block_at blocks s) ≡ entry_count
unfolding block_at
block_length blocks s whole h =
    length-take-le entry_count (drop (block_from s) blocks) (omega (arith, length-drop (block_from s) blocks))

-- ---- a part of a list, where another part is written

-- what is written stands there
part_same : (list part : List ℕ) (at : ℕ) → at ≤ length list → take (length part) (drop at (over list at part)) ≡ part
unfolding over
part_same list part at h =
    let rest = drop (at + length part) list in
    rw (append_assoc (take at list) part rest, drop_at (take at list) (part ++ rest) at (length-take-le at list h), take-append_seam part rest)

-- what stands before it stays
in_front : (front rest : List ℕ) (m n : ℕ) → m + n ≤ length front → take n (drop m (front ++ rest)) ≡ take n (drop m front)
in_front front rest m n h =
    rw (drop-append-le m front rest (omega arith)) (take-append-le n (drop m front) rest (omega (arith, length-drop m front)))

part_before : (list part : List ℕ) (at m n : ℕ) → at ≤ length list → m + n ≤ at → take n (drop m (over list at part)) ≡ take n (drop m list)
unfolding over
part_before list part at m n h before =
    let room : m + n ≤ length (take at list) = omega (arith, length-take-le at list h) in
    let whole = sym (in_front (take at list) (drop at list) m n room) ∙ ap (λ l. take n (drop m l)) (take-append-drop at list) in
    rw (append_assoc (take at list) part (drop (at + length part) list)) (in_front (take at list) _ m n room ∙ whole)

-- and so does what stands past it
part_past : (list part : List ℕ) (at m n : ℕ) → at ≤ length list → at + length part ≤ m → take n (drop m (over list at part)) ≡ take n (drop m list)
unfolding over
part_past list part at m n h past =
    let k = m - (at + length part) in
    let front = take at list ++ part in
    let here : m ≡ length front + k = omega (arith, length-append (take at list) part, length-take-le at list h) in
    let there : at + length part + k ≡ m = omega arith in
    ap (λ j. take n (drop j (over list at part))) here
    ∙ ap (take n) (drop-append-add front (drop (at + length part) list) k ∙ drop-drop k (at + length part) list ∙ ap (λ j. drop j list) there)

-- ---- the block of a site

-- entries written to a block are the block's
pub written_block :
    (blocks e : List ℕ) (s : ℕ) → length blocks ≡ blocks_count → length e ≡ entry_count → s < place_count → block_at (over blocks (block_from s) e) s ≡ e
unfolding block_at
written_block blocks e s whole long h =
    ap (λ n. take n (drop (block_from s) (over blocks (block_from s) e))) (sym long) ∙ part_same blocks e (block_from s) (omega arith)

-- and every other stays
pub other_block :
    (blocks e : List ℕ) (s p : ℕ) → length blocks ≡ blocks_count → length e ≡ entry_count → p < place_count → s ≢ p
    → block_at (over blocks (block_from p) e) s ≡ block_at blocks s
unfolding block_at
other_block blocks e s p whole long h apart = go (dec_lt s p)
  where
    go : Dec (s < p) → take entry_count (drop (block_from s) (over blocks (block_from p) e)) ≡ take entry_count (drop (block_from s) blocks)
    go (yes before) = part_before blocks e (block_from p) (block_from s) entry_count (omega arith) (omega arith)
    go (no past) =
        let later : p < s = omega (arith, apart) in
        part_past blocks e (block_from p) (block_from s) entry_count (omega arith) (omega arith)

-- an entry that is stored is the block's entry
pub amended_block :
    (blocks : List ℕ) (s i v : ℕ) → i < entry_count → block_at (with_entry blocks s i v) s ≡ set (block_at blocks s) i v
unfolding block_at with_entry
amended_block blocks s i v h = rw (drop-set-add (block_from s) blocks i v) (take-set-lt entry_count (drop (block_from s) blocks) i v h)

-- and every other block stays
pub unamended_block :
    (blocks : List ℕ) (s p i v : ℕ) → i < entry_count → s ≢ p → block_at (with_entry blocks p i v) s ≡ block_at blocks s
unfolding block_at with_entry
unamended_block blocks s p i v h apart = go (dec_lt s p)
  where
    go : Dec (s < p) → take entry_count (drop (block_from s) (set blocks (block_place p i) v)) ≡ take entry_count (drop (block_from s) blocks)
    go (yes before) =
        let far : block_place p i ≡ block_from s + (block_place p i - block_from s) = omega arith in
        ap (λ j. take entry_count (drop (block_from s) (set blocks j v))) far
        ∙ rw (drop-set-add (block_from s) blocks (block_place p i - block_from s) v)
        (take-set-le entry_count (drop (block_from s) blocks) (block_place p i - block_from s) v (omega arith))
    go (no past) =
        let later : p < s = omega (arith, apart) in
        rw (drop-set-lt (block_from s) blocks (block_place p i) v (omega arith))
