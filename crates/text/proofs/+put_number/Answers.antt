-- `text::put_number`. What stands before the last digit is one shorter than the number, and its last digit stands just past that.
use Rattle.std.proofs.Common.{length, ◌<◌, arith, ap}
use Rattle.text.proofs.Laws.{decimal_one, length_more, placed_digit, placed_digits}
use Rattle.text.proofs.+put_number.Goals as goal

pub put_digit-requires : goal.put_digit-requires
put_digit-requires t c =
    let small : c.args.number < 10 = omega arith in
    (omega (arith, ap length (decimal_one c.args.number small)), small)

pub returns-then-number-lt10 : goal.returns-then-number-lt10
returns-then-number-lt10 t c = placed_digit (omega arith) c.put_digit.ensures

pub put_number-end-requires : goal.put_number-end-requires
put_number-end-requires t c = (omega arith, omega (arith, length_more c.args.number (omega arith) (omega arith)))

pub put_digit-requires-2 : goal.put_digit-requires-2
put_digit-requires-2 t c = (omega (arith, length_more c.args.number (omega arith) (omega arith)), omega arith)

pub returns : goal.returns
returns t c = placed_digits (omega arith) (omega arith) c.requires c.put_number-end.ensures c.put_digit-2.ensures
