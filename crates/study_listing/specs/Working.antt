-- The room that any listing fits.
use Rattle.std.specs.Prelude.{ℕ, ◌*◌}
use Rattle.study.specs.Study.{limit_before}
use Rattle.study_lines.specs.Working.{line_most}

-- the lines of as many sites as a file that is read holds
abbrev pub area_bytes : ℕ
area_bytes = line_most * limit_before
