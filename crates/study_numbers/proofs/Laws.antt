-- Laws of numbers as four bytes each, and of runs of them.
use Prim.Native.Nat.{ℕ, ◌+◌, ◌*◌, ◌≤◌}
use mathlib.Core.Path.{◌≡◌, refl, sym}
use mathlib.Core.List.{List, [], ◌∷◌, ◌++◌, append_assoc, append-nil}
use lib.ListN.{length, length-append}
use native.Mathlib.Omega.{arith}
use Rattle.lists.specs.Lists.{over}
use Rattle.lists.proofs.Laws.{over_nothing, over_next}
use Rattle.study_numbers.specs.Numbers.{number_bytes, bytes_of, packed}

pub length-bytes_of : (number : ℕ) → length (bytes_of number) ≡ number_bytes
unfolding bytes_of
length-bytes_of number = refl

pub length-packed : (numbers : List ℕ) → length (packed numbers) ≡ number_bytes * length numbers
unfolding packed
length-packed [] = refl
length-packed (number ∷ numbers) = simp (length-append, length-bytes_of, length-packed numbers) (omega arith)

pub packed-append : (first second : List ℕ) → packed (first ++ second) ≡ packed first ++ packed second
unfolding packed
packed-append [] second = refl
packed-append (number ∷ numbers) second = rw (packed-append numbers second, append_assoc (bytes_of number) (packed numbers) (packed second))

pub packed_one : (number : ℕ) → packed (number ∷ []) ≡ bytes_of number
unfolding packed
packed_one number = append-nil (bytes_of number)

-- a run of numbers that is being written: none yet
pub packed_none : (list : List ℕ) (at : ℕ) → list ≡ over list at (packed [])
unfolding packed
packed_none list at = sym (over_nothing list at)

-- and one more
pub packed_more : (list : List ℕ) (at n : ℕ) (numbers : List ℕ) (number : ℕ) → length numbers ≡ n → at + number_bytes * n + number_bytes ≤ length list
    → over (over list at (packed numbers)) (at + number_bytes * n) (bytes_of number) ≡ over list at (packed (numbers ++ (number ∷ [])))
packed_more list at n numbers number e h =
    rw (packed-append numbers (number ∷ []), packed_one number)
    (over_next list at (number_bytes * n) (packed numbers) (bytes_of number) (omega (arith, length-packed numbers)) (omega (arith, length-bytes_of number)))
