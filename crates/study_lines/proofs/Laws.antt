-- Laws of a listing's lines: how long one is, and how it is put piece after piece.
use Prim.Native.Nat.{ℕ, ◌+◌, ◌≤◌}
use mathlib.Core.List.{List, [], ◌∷◌, ◌++◌}
use lib.ListN.{length, length-append}
use native.Mathlib.Omega.{arith}
use Rattle.std.specs.Prelude.{Result, Ok, Err}
use Rattle.answers.specs.Answers.{refusal_number}
use Rattle.answers.specs.declared.Refusal.{Refusal}
use Rattle.text.specs.Text.{number_then, Placed, ascii}
use Rattle.text.proofs.Laws.{length-number_then, placed_next}
use Rattle.study_lines.specs.Lines.{space, line_feed, letter_byte, phasing_byte, rated_line, refused_mark, refused_line, line_of, file_line}
use Rattle.study_lines.specs.Working.{line_most}
use Rattle.study_lines.specs.declared.Rating.{Rating}
use Rattle.study_lines.specs.declared.Refused.{Refused}

-- what a rated site's line has past the ICU
abbrev ending : Rating → List ℕ
ending r = letter_byte r.letter ∷ space ∷ phasing_byte r.first ∷ phasing_byte r.second ∷ line_feed ∷ []

abbrev mark : List ℕ
mark = refused_mark ∷ []

pub length-line_of : (number : ℕ) (site : Result Rating Refused) → length (line_of number site) ≤ line_most
unfolding rated_line refused_line
length-line_of number (Ok r) =
    let first = number_then number space in
    let second = number_then r.icu space in
    omega (
      arith,
      length-append (first ++ second) (ending r),
      length-append first second,
      length-number_then number space,
      length-number_then r.icu space,
    )
length-line_of number (Err refused) =
    let first = number_then number space in
    let second = number_then (refusal_number refused.why) space in
    let third = number_then refused.place line_feed in
    omega (
      arith,
      length-append (first ++ mark ++ second) third,
      length-append (first ++ mark) second,
      length-append first mark,
      length-number_then number space,
      length-number_then (refusal_number refused.why) space,
      length-number_then refused.place line_feed,
    )

pub length-file_line : (place : ℕ) → length (file_line place) ≤ line_most
unfolding file_line ascii
length-file_line place = omega (arith, length-number_then place line_feed)

module _
    {list one two three : List ℕ} {at n m p : ℕ} (number : ℕ) (room : at + line_most ≤ length list)
    (first : Placed list at (number_then number space) one n)
  where
    pub rated_placed : (r : Rating) → Placed one n (number_then r.icu space) two m → Placed two m (ending r) three p
        → Placed list at (rated_line number r) three p
    unfolding rated_line
    rated_placed r second third =
        let l = length-append (number_then number space) (number_then r.icu space) in
        let h = length-number_then number space in
        let k = length-number_then r.icu space in
        placed_next (placed_next first second (omega arith)) third (omega arith)

    pub refused_placed : {four : List ℕ} {q : ℕ} (why : Refusal) (place : ℕ)
        → Placed one n mark two m
        → Placed two m (number_then (refusal_number why) space) three p
        → Placed three p (number_then place line_feed) four q
        → Placed list at (refused_line number why place) four q
    unfolding refused_line
    refused_placed why place second third fourth =
        let head = number_then number space ++ mark in
        let l = length-append (number_then number space) mark in
        let m = length-append head (number_then (refusal_number why) space) in
        let h = length-number_then number space in
        let i = length-number_then (refusal_number why) space in
        let k = length-number_then place line_feed in
        placed_next (placed_next (placed_next first second (omega arith)) third (omega arith)) fourth (omega arith)
