-- Numbers that were packed are read back, and bytes that were read are packed again.
use Prim.Native.Nat.{ℕ, zero, suc, ◌+◌, ◌*◌, ◌/◌, ◌%◌, ◌<◌, ◌≤◌}
use mathlib.Core.Path.{◌≡◌, refl, sym, ap, ◌∙◌}
use mathlib.Core.List.{List, [], ◌∷◌, ◌++◌}
use lib.ListN.{length, get_or, take, drop}
use lib.Seq.{get_or-append-add, get_or-take, get_or-drop, drop-cons, take-add}
use native.Mathlib.Nat.{add_assoc, le_of_suc-le-suc}
use native.Mathlib.Omega.{arith}
use Rattle.lists.specs.Lists.{AllBelow, table}
use Rattle.study_numbers.specs.Numbers.{number_bytes, number_limit, byte_limit, number_at, bytes_of, numbers_in, packed}
use Rattle.study_numbers.proofs.Laws.{length-bytes_of, packed-append, packed_one}

-- a number past the front of a list, in a list's front, and in what is left past a place

past_front : (front back : List ℕ) (n at : ℕ) → length front ≡ n → get_or (front ++ back) (n + at) 0 ≡ get_or back at 0
past_front front back n at e = rw (← e) (get_or-append-add front back at 0)

pub number_past : (front back : List ℕ) (n at : ℕ) → length front ≡ n → number_at (front ++ back) (n + at) ≡ number_at back at
number_past front back n at e =
    rw (
      add_assoc n at 1,
      add_assoc n at 2,
      add_assoc n at 3,
      past_front front back n at e,
      past_front front back n (at + 1) e,
      past_front front back n (at + 2) e,
      past_front front back n (at + 3) e,
    )

pub number_take : (list : List ℕ) (n at : ℕ) → at + number_bytes ≤ n → number_at (take n list) at ≡ number_at list at
number_take list n at h =
    rw (
      get_or-take n list at 0 (omega arith),
      get_or-take n list (at + 1) 0 (omega arith),
      get_or-take n list (at + 2) 0 (omega arith),
      get_or-take n list (at + 3) 0 (omega arith),
    )

pub number_drop : (list : List ℕ) (n at : ℕ) → number_at (drop n list) at ≡ number_at list (n + at)
number_drop list n at =
    rw (
      get_or-drop n list at 0,
      get_or-drop n list (at + 1) 0,
      get_or-drop n list (at + 2) 0,
      get_or-drop n list (at + 3) 0,
      add_assoc n at 1,
      add_assoc n at 2,
      add_assoc n at 3,
    )

-- packed and read back

first_number : (number : ℕ) (rest : List ℕ) → number < number_limit → number_at (bytes_of number ++ rest) 0 ≡ number
unfolding bytes_of
first_number number rest h =
    let top : number / 16777216 % 256 ≡ number / 16777216 = omega arith in
    rw top (omega arith)

pub number_packed : (numbers : List ℕ) (i : ℕ) → i < length numbers → get_or numbers i 0 < number_limit
    → number_at (packed numbers) (number_bytes * i) ≡ get_or numbers i 0
unfolding packed
number_packed [] i h fits = absurd (omega arith)
number_packed (number ∷ numbers) zero h fits = first_number number (packed numbers) fits
number_packed (number ∷ numbers) (suc i) h fits =
    let e : number_bytes * suc i ≡ number_bytes + number_bytes * i = omega arith in
    ap (number_at (bytes_of number ++ packed numbers)) e
    ∙ number_past (bytes_of number) (packed numbers) number_bytes (number_bytes * i) (length-bytes_of number)
    ∙ number_packed numbers i (le_of_suc-le-suc h) fits

-- read and packed again

bytes_of_four : (a b c d : ℕ) → a < 256 → b < 256 → c < 256 → d < 256
    → bytes_of (a + 256 * b + 65536 * c + 16777216 * d) ≡ a ∷ b ∷ c ∷ d ∷ []
unfolding bytes_of
bytes_of_four a b c d ha hb hc hd =
    let number = a + 256 * b + 65536 * c + 16777216 * d in
    let e0 : number % 256 ≡ a = omega arith in
    let q1 : number / 256 ≡ b + 256 * c + 65536 * d = omega arith in
    let e1 : number / 256 % 256 ≡ b = rw q1 (omega arith) in
    let q2 : number / 65536 ≡ c + 256 * d = omega arith in
    let e2 : number / 65536 % 256 ≡ c = rw q2 (omega arith) in
    let q3 : number / 16777216 ≡ d = omega arith in
    let e3 : number / 16777216 % 256 ≡ d = rw q3 (omega arith) in
    rw (e0, e1, e2, e3)

four_bytes : (list : List ℕ) (at : ℕ) → at + number_bytes ≤ length list
    → take number_bytes (drop at list) ≡ get_or list at 0 ∷ get_or list (at + 1) 0 ∷ get_or list (at + 2) 0 ∷ get_or list (at + 3) 0 ∷ []
four_bytes list at h =
    let e1 : at + 1 ≡ suc at = omega arith in
    let e2 : at + 2 ≡ suc (suc at) = omega arith in
    let e3 : at + 3 ≡ suc (suc (suc at)) = omega arith in
    rw (
      e1,
      e2,
      e3,
      drop-cons list at 0 (omega arith),
      drop-cons list (suc at) 0 (omega arith),
      drop-cons list (suc (suc at)) 0 (omega arith),
      drop-cons list (suc (suc (suc at))) 0 (omega arith),
    )

bytes_of_number : (list : List ℕ) (at : ℕ) → AllBelow byte_limit list → at + number_bytes ≤ length list
    → bytes_of (number_at list at) ≡ take number_bytes (drop at list)
bytes_of_number list at small h =
    bytes_of_four (get_or list at 0) (get_or list (at + 1) 0) (get_or list (at + 2) 0) (get_or list (at + 3) 0) (small at) (small (at + 1)) (small (at + 2))
    (small (at + 3))
    ∙ sym (four_bytes list at h)

pub packed_numbers : (list : List ℕ) (n : ℕ) → AllBelow byte_limit list → number_bytes * n ≤ length list
    → packed (numbers_in list n) ≡ take (number_bytes * n) list
unfolding table packed
packed_numbers list zero small h = refl
packed_numbers list (suc n) small h =
    let number = number_at list (number_bytes * n) in
    let e : number_bytes * suc n ≡ number_bytes * n + number_bytes = omega arith in
    packed-append (numbers_in list n) (number ∷ [])
    ∙ rw (
      packed_one number,
      packed_numbers list n small (omega arith),
      bytes_of_number list (number_bytes * n) small (omega arith),
      ← take-add (number_bytes * n) number_bytes list,
      e,
    )
