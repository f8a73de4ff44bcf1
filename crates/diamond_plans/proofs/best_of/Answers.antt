use Rattle.diamond_rules.specs.Lines.{best_of}
use Rattle.sheet_pairs.proofs.Picks.{chosen_time}
use Rattle.diamond_plans.proofs.best_of.Goals as goal

pub returns : goal.returns
unfolding best_of
returns c = rw (c.letter_of-letter.ensures, c.icu_of-icu.ensures, c.from.ensures, c.choose-best.ensures, chosen_time, c.least-picked.ensures)
