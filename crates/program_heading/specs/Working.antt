-- How long a heading is at most: no public promise says it.
use Rattle.std.specs.Prelude.{ℕ, ◌+◌}
use Rattle.text.specs.Text.{digit_most}
use Rattle.text_titles.specs.Titles.{title_most}
use Rattle.program_outcome.specs.Outcome.{word_most}

-- ": " and a title
abbrev pub titled_most : ℕ
titled_most = 2 + title_most

-- a name, ", site " and a number
abbrev pub site_title_most : ℕ
site_title_most = word_most + 7 + digit_most

-- "single point: "
abbrev pub worksheet_most : ℕ
worksheet_most = 14

-- that, a name, ": ", a title and the lines' ends: more than what a site's heading takes
abbrev pub heading_most : ℕ
heading_most = worksheet_most + word_most + titled_most + 2

-- "east: ", on a new line
abbrev pub side_most : ℕ
side_most = 7

-- that, a name and a title
abbrev pub side_line_most : ℕ
side_line_most = side_most + word_most + titled_most

-- two such lines and the lines' ends
abbrev pub diamond_most : ℕ
diamond_most = side_line_most + side_line_most + 2
