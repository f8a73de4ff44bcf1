-- `text_values::value_of`. A number, a time, or a factor.
use Rattle.text_values.specs.Values.{value_of}
use mathlib.Core.Path.{sym, ◌∙◌}
use Rattle.text_values.proofs.value_of.Goals as goal

pub returns-in-Number : goal.returns-in-Number
unfolding value_of
returns-in-Number c =
    rw (sym c.of.ensures ∙ c.in-Number.is, ← c.number_of.ensures) c.value_from.ensures

pub returns-in-Time : goal.returns-in-Time
unfolding value_of
returns-in-Time c =
    rw (sym c.of.ensures ∙ c.in-Time.is, ← c.time_of.ensures) c.value_from-in-Time.ensures

pub returns-in-Factor : goal.returns-in-Factor
unfolding value_of
returns-in-Factor c =
    rw (sym c.of.ensures ∙ c.in-Factor.is, ← c.decimal_of.ensures) c.value_from-in-Factor.ensures
