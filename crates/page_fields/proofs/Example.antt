-- How a field reads: times, a factor, a lane factor that was measured and one that was not, a flow, a whole number, the ICU, and an option that is not allowed.
use mathlib.Core.Path.{◌≡◌, refl}
use Prim.Native.Nat.{ℕ, ◌-◌}
use mathlib.Core.List.{List}
use Rattle.lists.specs.Lists.{table}
use Rattle.text.specs.Text.{ascii, joined}
use Rattle.layout.specs.Sheet.{BLANK}
use Rattle.page_fields.specs.Fields.{field_width, last_place, space, dropped, digit_byte, number_byte, fields, shown}
use Rattle.page_fields.specs.Fields.{seconds, factor, measured, carried, percent, letter, pick}

-- a whole field, from left to right
unfoldable pub field : ℕ → ℕ → List ℕ
field unit value = table (λ i. shown unit value (last_place - i)) field_width

pub record Fields : Type 0 where
  pub time : field seconds 45_690 ≡ ascii "     45.690"
  pub nothing : field seconds 0 ≡ ascii "      0.000"
  pub longest : field seconds 4_294_967_294 ≡ ascii "4294967.294"
  pub blank : field seconds BLANK ≡ ascii "         NA"
  pub share : field factor 9603 ≡ ascii "     0.9603"
  pub counted : field measured 971 ≡ ascii "      0.971"
  pub uncounted : field measured 0 ≡ ascii "      table"
  pub flow : field carried 18_245 ≡ ascii "     1824.5"
  pub tenths : field percent 829 ≡ ascii "       82.9"
  pub level : field letter 4 ≡ ascii "          E"
  pub picked : field pick 1 ≡ ascii "  permitted"
  pub whole : field space 1900 ≡ ascii "       1900"

pub read_so : Fields
unfolding field table shown number_byte digit_byte dropped fields joined ascii
read_so =
    record {
      time = refl;
      nothing = refl;
      longest = refl;
      blank = refl;
      share = refl;
      counted = refl;
      uncounted = refl;
      flow = refl;
      tenths = refl;
      level = refl;
      picked = refl;
      whole = refl;
    }
