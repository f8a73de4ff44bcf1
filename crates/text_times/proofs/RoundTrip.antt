-- A time that was written is read as that time: the unit stands past its bytes, the point past the seconds, and one, two or three
-- digits past the point spell the thousandths.
use Prim.Native.Nat.{ℕ, zero, suc, ◌+◌, ◌*◌, ◌-◌, ◌/◌, ◌%◌, ◌≤◌, ◌<◌}
use mathlib.Core.Path.{◌≡◌, refl, sym, ◌∙◌}
use mathlib.Core.Bool.{Bool, true, false, cond}
use mathlib.Core.List.{List, [], ◌∷◌, ◌++◌, append-nil}
use lib.ListN.{length, get_or, length-append, get_or-append}
use lib.Seq.{get_or-append_seam, take_at, drop-append-add, take-append_seam}
use lib.Dec.{eqb}
use borrow.Author.Tests.{eqb-true, ne_eqb, lt-ltb, le-leb}
use native.Mathlib.Omega.{arith}
use Rattle.text.specs.Text.{digit, decimal, first_in}
use Rattle.text.proofs.Laws.{decimal_digits, first_after}
use Rattle.text_numbers.specs.Numbers.{too_large, next_number, number_in, number_of}
use Rattle.text_numbers.proofs.Laws.{next_digit, decimal_some, number_read}
use Rattle.text_times.specs.Times.{second, point, letter_s, letter_m, is_point, point_in, scaled, thousandths, decimal_of, from_end, without, time_of}
use Rattle.text_times.specs.Times.{decimals, fraction_text, decimal_text, time_text}
use Rattle.text_times.proofs.Laws.{together_small, decimal_whole, decimal_parted, tenth, hundredth, thousandth, as_digits}

-- what each byte of a list is

abbrev pub Each : (ℕ → Type 0) → List ℕ → Type 0
Each P bytes = (i : ℕ) → i < length bytes → P (get_or bytes i 0)

module _ (P : ℕ → Type 0) where
  each_none : Each P []
  each_none i h = absurd (omega arith)

  each_next : (byte : ℕ) (bytes : List ℕ) → P byte → Each P bytes → Each P (byte ∷ bytes)
  each_next byte bytes p q zero h = p
  each_next byte bytes p q (suc i) h = q i (omega arith)

  each_both : (front back : List ℕ) → Each P front → Each P back → Each P (front ++ back)
  each_both [] back p q i h = q i h
  each_both (byte ∷ front) back p q zero h = p zero (omega arith)
  each_both (byte ∷ front) back p q (suc i) h = each_both front back (λ j l. p (suc j) (omega arith)) q i (omega arith)

-- the digits and the point, which stand before the unit

abbrev Numeral : ℕ → Type 0
Numeral byte = (point ≤ byte) × (byte < digit 10)

decimal_numeral : (number : ℕ) → Each Numeral (decimal number)
decimal_numeral number i h =
    let is = decimal_digits number i h in
    (omega (arith, is.0), is.1)

module _ (part : ℕ) (small : part < second) where
  decimals_numeral : Each Numeral (decimals part)
  unfolding decimals
  decimals_numeral = by (eqb (part % 100) 0) (eqb (part % 10) 0)
    where
      one : (d : ℕ) → d < 10 → (digits : List ℕ) → Each Numeral digits → Each Numeral (digit d ∷ digits)
      one d less digits = each_next Numeral (digit d) digits (omega arith, omega arith)

      last : (d : ℕ) → d < 10 → Each Numeral (digit d ∷ [])
      last d less = one d less [] (each_none Numeral)

      by : (p q : Bool) → Each Numeral (as_digits part p q)
      by true q = last (tenth part) (omega arith)
      by false true = one (tenth part) (omega arith) (digit (hundredth part) ∷ []) (last (hundredth part) (omega arith))
      by false false =
          one (tenth part) (omega arith) (digit (hundredth part) ∷ digit (thousandth part) ∷ [])
          (one (hundredth part) (omega arith) (digit (thousandth part) ∷ []) (last (thousandth part) (omega arith)))

  fraction_numeral : Each Numeral (fraction_text part)
  unfolding fraction_text
  fraction_numeral = by (eqb part 0)
    where
      by : (b : Bool) → Each Numeral (cond b [] (point ∷ decimals part))
      by true = each_none Numeral
      by false = each_next Numeral point (decimals part) (omega arith, omega arith) decimals_numeral

-- the point is found past digits
point_after : (number : ℕ) (rest : List ℕ) → point_in (decimal number ++ rest) ≡ length (decimal number) + point_in rest
point_after number rest =
    first_after is_point (decimal number) rest
    (λ i h. let is = decimal_digits number i h in ne_eqb (get_or (decimal number) i 0) point (λ e. omega (arith, e, is.0)))

-- one, two and three digits

module _ (a : ℕ) (small : a < 10) where
  first_digit : next_number 0 (digit a) ≡ a
  first_digit = next_digit 0 a small (omega arith) ∙ omega arith

  one_digit : number_of (digit a ∷ []) ≡ a
  unfolding number_of number_in
  one_digit = first_digit

  module _ (b : ℕ) (less : b < 10) where
    second_digit : next_number (next_number 0 (digit a)) (digit b) ≡ 10 * a + b
    second_digit = rw first_digit (next_digit a b less (omega arith))

    two_digits : number_of (digit a ∷ digit b ∷ []) ≡ 10 * a + b
    unfolding number_of number_in
    two_digits = second_digit

    three_digits : (c : ℕ) → c < 10 → number_of (digit a ∷ digit b ∷ digit c ∷ []) ≡ 10 * (10 * a + b) + c
    unfolding number_of number_in
    three_digits c least = rw second_digit (next_digit (10 * a + b) c least (omega arith))

-- digits that spell a number are the thousandths that it scales to
thousandths-scaled : (word : List ℕ) {number part : ℕ} → number_of word ≡ number → number < too_large → scaled number (length word) ≡ part
    → thousandths word ≡ part
unfolding thousandths
thousandths-scaled word {number} is fits so = rw (is, lt-ltb number too_large fits) so

thousandths_read : (part : ℕ) → part < second → thousandths (decimals part) ≡ part
unfolding decimals scaled
thousandths_read part small = by (eqb (part % 100) 0) refl (eqb (part % 10) 0) refl
  where
    two : number_of (digit (tenth part) ∷ digit (hundredth part) ∷ []) ≡ 10 * (tenth part) + hundredth part
    two = two_digits (tenth part) (omega arith) (hundredth part) (omega arith)

    by : (p : Bool) → eqb (part % 100) 0 ≡ p → (q : Bool) → eqb (part % 10) 0 ≡ q → thousandths (as_digits part p q) ≡ part
    by true e q f =
        let ends = eqb-true (part % 100) 0 e in
        thousandths-scaled (digit (tenth part) ∷ []) (one_digit (tenth part) (omega arith)) (omega arith) (omega (arith, ends))
    by false e true f =
        let ends = eqb-true (part % 10) 0 f in
        thousandths-scaled (digit (tenth part) ∷ digit (hundredth part) ∷ []) two (omega arith) (omega (arith, ends))
    by false e false f =
        let three = three_digits (tenth part) (omega arith) (hundredth part) (omega arith) (thousandth part) (omega arith) in
        thousandths-scaled (digit (tenth part) ∷ digit (hundredth part) ∷ digit (thousandth part) ∷ []) three (omega arith) (omega arith)

-- whole ones with what stands past them

module _ (whole part : ℕ) (small : part < second) (fits : second * whole + part < too_large) where
  parts_read : decimal_of (decimal whole ++ fraction_text part) ≡ second * whole + part
  unfolding fraction_text first_in
  parts_read = by (eqb part 0) refl
    where
      digits : List ℕ
      digits = decimal whole

      by : (b : Bool) → eqb part 0 ≡ b → decimal_of (digits ++ cond b [] (point ∷ decimals part)) ≡ second * whole + part
      by true e =
          let none = eqb-true part 0 e in
          let end : length digits ≡ point_in digits = sym (rw (append-nil digits) at (point_after whole []) ∙ omega arith) in
          rw (
            append-nil digits,
            decimal_whole digits (length digits) end refl,
            number_read whole (omega arith),
            together_small whole 0 (omega arith),
          )
          (omega (arith, none))
      by false e =
          let rest = point ∷ decimals part in
          let at = length digits in
          let here : at ≡ point_in (digits ++ rest) = sym (point_after whole rest ∙ omega arith) in
          rw (
            decimal_parted (digits ++ rest) at here (omega (arith, length-append digits rest)),
            take-append_seam digits rest,
            drop-append-add digits rest 1,
            number_read whole (omega arith),
            thousandths_read part small,
            together_small whole part (omega arith),
          )
          (omega arith)

-- the unit past a front

module _ (front : List ℕ) (byte : ℕ) where
  last_byte : from_end (front ++ (byte ∷ [])) 1 ≡ byte
  unfolding from_end
  last_byte =
      let l = length-append front (byte ∷ []) in
      let at : length (front ++ (byte ∷ [])) - 1 ≡ length front = omega arith in
      rw (le-leb 1 (length (front ++ (byte ∷ []))) (omega arith), at) (get_or-append_seam front byte [] 0)

  byte_before : 0 < length front → from_end (front ++ (byte ∷ [])) 2 ≡ get_or front (length front - 1) 0
  unfolding from_end
  byte_before some =
      let l = length-append front (byte ∷ []) in
      let at : length (front ++ (byte ∷ [])) - 2 ≡ length front - 1 = omega arith in
      rw (le-leb 2 (length (front ++ (byte ∷ []))) (omega arith), at) (get_or-append front (byte ∷ []) 0 (length front - 1) (omega arith))

  without_last : without (front ++ (byte ∷ [])) 1 ≡ front
  without_last =
      let l = length-append front (byte ∷ []) in
      take_at front (byte ∷ []) (length (front ++ (byte ∷ [])) - 1) (omega arith)

module _ (time : ℕ) (fits : time < too_large) where
  abbrev until_unit : List ℕ
  until_unit = decimal_text time

  numerals : Each Numeral until_unit
  numerals =
      each_both Numeral (decimal (time / second)) (fraction_text (time % second)) (decimal_numeral (time / second))
      (fraction_numeral (time % second) (omega arith))

  pub some_bytes : 0 < length until_unit
  some_bytes =
      omega (arith, length-append (decimal (time / second)) (fraction_text (time % second)), decimal_some (time / second) (omega arith))

  -- so without a unit the thousandths are read, and it is one word of a text
  pub decimal_read : decimal_of (decimal_text time) ≡ time
  decimal_read = parts_read (time / second) (time % second) (omega arith) (omega arith) ∙ omega arith

  pub decimal_bytes : Each (λ byte. point ≤ byte) (decimal_text time)
  decimal_bytes i h = (numerals i h).0

  -- and with it the time
  pub time_read : time_of (time_text time) ≡ time
  unfolding time_of time_text
  time_read =
      let last = numerals (length until_unit - 1) (omega (arith, some_bytes)) in
      rw (
        last_byte until_unit letter_s,
        byte_before until_unit letter_s some_bytes,
        ne_eqb (get_or until_unit (length until_unit - 1) 0) letter_m (λ e. omega (arith, last.1, e)),
        without_last until_unit letter_s,
      )
      decimal_read

  -- none of its bytes stands before the point in ASCII: it is one word of a text
  pub time_bytes : Each (λ byte. point ≤ byte) (time_text time)
  unfolding time_text
  time_bytes =
      each_both (λ byte. point ≤ byte) until_unit (letter_s ∷ []) (λ i h. (numerals i h).0)
      (each_next (λ byte. point ≤ byte) letter_s [] (omega arith) (each_none (λ byte. point ≤ byte)))

  pub time_some : 0 < length (time_text time)
  unfolding time_text
  time_some = omega (arith, length-append until_unit (letter_s ∷ []))
