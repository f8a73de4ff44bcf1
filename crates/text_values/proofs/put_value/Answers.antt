-- `text_values::put_value`. A number in decimal, a time, or a factor.
use Rattle.text_values.specs.Values.{value_text}
use Rattle.text.proofs.Laws.{length-decimal}
use mathlib.Core.Path.{sym, ◌∙◌}
use native.Mathlib.Omega.{arith}
use Rattle.text_values.proofs.put_value.Goals as goal

pub put_number-requires : goal.put_number-requires
put_number-requires c = omega (arith, length-decimal c.args.value)

pub returns-in-Number : goal.returns-in-Number
unfolding value_text
returns-in-Number c =
    let put = c.put_number.ensures in
    (rw (sym c.of.ensures ∙ c.in-Number.is) put, omega (arith, put.next, length-decimal c.args.value))

pub returns-in-Time : goal.returns-in-Time
unfolding value_text
returns-in-Time c =
    (rw (sym c.of.ensures ∙ c.in-Time.is) c.put_time.ensures.0, c.put_time.ensures.1)

pub returns-in-Factor : goal.returns-in-Factor
unfolding value_text
returns-in-Factor c =
    let put = c.put_decimal.ensures in
    (rw (sym c.of.ensures ∙ c.in-Factor.is) put.0, omega (arith, put.1))
