-- The values of entries in a text: a time with its unit, a factor with its decimals, or a whole number.
use Rattle.std.specs.Prelude.{ℕ, cond, List, eqb, ltb}
use Rattle.kinds.specs.declared.Kind.{Kind}
use Rattle.kinds.specs.declared.Kind.TheVariants.{Lanes, Volume, IdealFlow, LostTime, MinimumGreen, LaneFactor}
use Rattle.kinds.specs.declared.Kind.TheVariants.{SharedLane, Pedestrians, PushButton, PedestrianTime, FreeRight, Cycle, Storage, TravelTime}
use Rattle.text.specs.Text.{decimal}
use Rattle.text_numbers.specs.Numbers.{too_large, number_of}
use Rattle.text_times.specs.Times.{decimal_of, time_of, decimal_text, time_text}
use Rattle.text_values.specs.declared.Trouble.{Trouble}
use Rattle.text_values.specs.declared.Trouble.TheVariants.{NotNumber, NotTime, NotFactor, TooLarge}
use Rattle.text_values.specs.declared.Form.{Form}
use Rattle.text_values.specs.declared.Form.TheVariants.{Number, Time, Factor}
use Rattle.text_values.specs.declared.Value.{Value}
use Rattle.text_values.specs.declared.Value.TheVariants.{Is, Not}

-- how each kind is written: times are kept in milliseconds, a measured lane factor in thousandths; the cycle is a number of seconds, and
-- no other unit fits its range
abbrev pub form_of : Kind → Form
form_of Lanes = Number
form_of Volume = Number
form_of IdealFlow = Number
form_of LostTime = Time
form_of MinimumGreen = Time
form_of LaneFactor = Factor
form_of SharedLane = Number
form_of Pedestrians = Number
form_of PushButton = Number
form_of PedestrianTime = Time
form_of FreeRight = Number
form_of Cycle = Number
form_of Storage = Number
form_of TravelTime = Time

-- a number that was read; one that is too large; and what is wrong with what is none
unfoldable pub value_from : Trouble → ℕ → Value
value_from why number = cond (ltb number too_large) (Is number) (cond (eqb number too_large) (Not TooLarge) (Not why))

-- a word as the value of an entry: "4", "4s", "0.971"
abbrev pub value_in : Form → List ℕ → Value
value_in Number word = value_from NotNumber (number_of word)
value_in Time word = value_from NotTime (time_of word)
value_in Factor word = value_from NotFactor (decimal_of word)

unfoldable pub value_of : Kind → List ℕ → Value
value_of kind word = value_in (form_of kind) word

-- and a value as a word
abbrev pub text_in : Form → ℕ → List ℕ
text_in Number value = decimal value
text_in Time value = time_text value
text_in Factor value = decimal_text value

unfoldable pub value_text : Kind → ℕ → List ℕ
value_text kind value = text_in (form_of kind) value
