-- A value that was written is read as that value, is one word of a text, and is no longer than a time.
use Prim.Native.Nat.{ℕ, ◌≤◌, ◌<◌}
use mathlib.Core.Path.{◌≡◌}
use lib.ListN.{length}
use borrow.Author.Tests.{lt-ltb}
use native.Mathlib.Omega.{arith}
use Rattle.kinds.specs.declared.Kind.{Kind}
use Rattle.text.proofs.Laws.{length-decimal, decimal_digits}
use Rattle.text_numbers.specs.Numbers.{too_large}
use Rattle.text_numbers.proofs.Laws.{decimal_some, number_read}
use Rattle.text_times.specs.Times.{point}
use Rattle.text_times.proofs.Laws.{length-decimal_text, length_time}
use Rattle.text_times.proofs.RoundTrip.{Each, decimal_read, decimal_bytes, some_bytes, time_read, time_bytes, time_some}
use Rattle.text_values.specs.Values.{form_of, value_from, value_in, value_of, text_in, value_text}
use Rattle.text_values.specs.Working.{value_most}
use Rattle.text_values.specs.declared.Trouble.{Trouble}
use Rattle.text_values.specs.declared.Trouble.TheVariants.{NotNumber, NotTime, NotFactor}
use Rattle.text_values.specs.declared.Form.{Form}
use Rattle.text_values.specs.declared.Form.TheVariants.{Number, Time, Factor}
use Rattle.text_values.specs.declared.Value.TheVariants.{Is}

value_fits : (why : Trouble) (number : ℕ) → number < too_large → value_from why number ≡ Is number
unfolding value_from
value_fits why number fits = rw (lt-ltb number too_large fits)

module _ (kind : Kind) (value : ℕ) where
  pub length_value : length (value_text kind value) ≤ value_most
  unfolding value_text
  length_value = by (form_of kind)
    where
      by : (form : Form) → length (text_in form value) ≤ value_most
      by Number = omega (arith, length-decimal value)
      by Time = length_time value
      by Factor = omega (arith, length-decimal_text value)

  module _ (fits : value < too_large) where
    pub value_read : value_of kind (value_text kind value) ≡ Is value
    unfolding value_of value_text
    value_read = by (form_of kind)
      where
        by : (form : Form) → value_in form (text_in form value) ≡ Is value
        by Number = rw (number_read value fits) (value_fits NotNumber value fits)
        by Time = rw (time_read value fits) (value_fits NotTime value fits)
        by Factor = rw (decimal_read value fits) (value_fits NotFactor value fits)

    pub value_bytes : Each (λ byte. point ≤ byte) (value_text kind value)
    unfolding value_text
    value_bytes = by (form_of kind)
      where
        by : (form : Form) → Each (λ byte. point ≤ byte) (text_in form value)
        by Number = λ i h. omega (arith, (decimal_digits value i h).0)
        by Time = time_bytes value fits
        by Factor = decimal_bytes value fits

    pub value_some : 0 < length (value_text kind value)
    unfolding value_text
    value_some = by (form_of kind)
      where
        by : (form : Form) → 0 < length (text_in form value)
        by Number = decimal_some value fits
        by Time = time_some value fits
        by Factor = some_bytes value fits
