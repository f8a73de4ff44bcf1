-- `program_record::take_word`. A word that is a value, and one that is none.
use Rattle.program_outcome.proofs.Laws.{stops_of}
use Rattle.program_record.proofs.Laws.{made_number}
use mathlib.Core.Path.{sym, ◌∙◌}
use Rattle.layout.specs.Diamond.{storages_from}
use Prim.Native.Nat.{◌+◌}
use Rattle.program_record.proofs.take_word.Goals as goal

pub returns-in-Is : goal.returns-in-Is
returns-in-Is c =
    let is = rw (c.own_kind.ensures, c.own_word-word.ensures) at (sym c.value_of-value.ensures ∙ c.in-Is.is) in
    made_number c.args.words.now c.args.k c.args.numbers.now (storages_from + c.args.k) is

pub returns-in-Not : goal.returns-in-Not
returns-in-Not c =
    let word = c.own_word-word.ensures in
    let is = rw (c.own_kind.ensures, word) at (sym c.value_of-value.ensures ∙ c.in-Not.is) in
    rw is (stops_of _ _ (rw word at c.say_trouble.ensures))
