-- An answer as the C surface gives it: number 0 is accepted.
use Rattle.answers.specs.declared.Answer.{Answer}
use Rattle.answers.specs.Answers.{number_of, place_of}
use Rattle.icu.specs.declared.IcuAnswer.{IcuAnswer}

abbrev pub told : Answer → IcuAnswer
told answer = record { number = number_of answer; place = place_of answer }
