-- K1 to K10 are acceptable: judging computes.
use mathlib.Core.Path.{◌≡◌, refl}
use mathlib.Core.List.{map, length, replicate}
use Rattle.answers.specs.Answers.{in_turn}
use Rattle.answers.specs.declared.Answer.TheVariants.{Accepted}
use Rattle.kinds.specs.Kinds.{kind_at}
use Rattle.entries.specs.Layout.{movement_entry, approach_entry}
use Rattle.entries.specs.Judging.{size_answer, outside, badly_shared, other_lanes, unserved, judged_for, judged}
use Rattle.icu_theorems.specs.Outcomes.{to_compare}

pub acceptable : map judged to_compare ≡ replicate (length to_compare) Accepted
unfolding in_turn kind_at movement_entry approach_entry size_answer outside badly_shared other_lanes unserved judged_for
acceptable = refl
