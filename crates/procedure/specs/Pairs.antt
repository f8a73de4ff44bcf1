-- "Pairs" and the "last eight cells", from the lines of the approaches.
use Rattle.std.specs.Prelude.{Bool, cond, ◌&&◌, ◌||◌, List, [], ◌∷◌, ℕ, suc, ◌+◌, ◌-◌, max, eqb, leb, get_or}
use Rattle.units.specs.Rounding.{up}
use Rattle.layout.specs.declared.Worksheet.{Worksheet}
use Rattle.layout.specs.declared.Worksheet.TheVariants.{Junction, Point}
use Rattle.layout.specs.Sheet.{BLANK, pick_no}

-- line k of an approach
abbrev pub line : ℕ → List ℕ → ℕ
line k lines = get_or lines (k - 1) 0

-- "protected = the larger sum of one approach's 16 and the other's 17, BLANK if either is shared"
unfoldable pub protected : Bool → List ℕ → List ℕ → ℕ
protected shared x y = cond shared BLANK (max (line 16 x + line 17 y) (line 16 y + line 17 x))

-- "permitted = larger of the 26s, BLANK if either is"
unfoldable pub permitted : List ℕ → List ℕ → ℕ
permitted x y = cond (eqb (line 26 x) BLANK || eqb (line 26 y) BLANK) BLANK (max (line 26 x) (line 26 y))

-- "split = sum of the 28s"
unfoldable pub split : List ℕ → List ℕ → ℕ
split x y = line 28 x + line 28 y

-- "picked = 0, 1, 2 for the least, earlier on a tie"
unfoldable pub picked : ℕ → ℕ → ℕ → ℕ
picked protected permitted split =
    cond (leb protected permitted && leb protected split) 0 (cond (leb permitted split) 1 2)

unfoldable pub pair : Bool → List ℕ → List ℕ → List ℕ
pair shared x y =
    let p = protected shared x y in
    let m = permitted x y in
    let s = split x y in
    p ∷ m ∷ s ∷ picked p m s ∷ []

-- of a single point, Request Seven, "protected phasing only": "two protected totals", a pair's own alone
unfoldable pub pair_for : Worksheet → Bool → List ℕ → List ℕ → List ℕ
pair_for Junction shared x y = pair shared x y
pair_for Point shared x y = protected shared x y ∷ []

-- a pair's pick, and its picked time; one total alone leaves nothing to pick, and 0 stands for it
abbrev pub pick_of : List ℕ → ℕ
pick_of pair = get_or pair pick_no 0

abbrev pub picked_time : List ℕ → ℕ
picked_time pair = get_or pair (pick_of pair) 0

-- by a pick: protected, permitted, split
abbrev pub by_pick : ℕ → ℕ → ℕ → ℕ → ℕ
by_pick pick protected permitted split = cond (eqb pick 0) protected (cond (eqb pick 1) permitted split)

-- "Each goes by the pick of its own pair: protected, lines 17 and 16; permitted, 26 and 0; split, 28 and 28."
unfoldable pub through_time : List ℕ → List ℕ → ℕ
through_time pair lines = by_pick (pick_of pair) (line 17 lines) (line 26 lines) (line 28 lines)

unfoldable pub left_time : List ℕ → List ℕ → ℕ
left_time pair lines = by_pick (pick_of pair) (line 16 lines) 0 (line 28 lines)

-- "A right total is 0 if line 3 is 0; line 18 alone if free; else line 18, plus the cross through and the oncoming left."
unfoldable pub right_total : Bool → List ℕ → ℕ → ℕ → ℕ
right_total free lines cross_through oncoming_left =
    cond (eqb (line 3 lines) 0) 0 (cond free (line 18 lines) (line 18 lines + cross_through + oncoming_left))

-- "ICU in tenths of a percent = required/CL up"
unfoldable pub icu_of : ℕ → ℕ → ℕ
icu_of required CL = up required CL

-- "Letters A–G end at 550, 640, 730, 820, 910, 1000, 1090; H is above."
abbrev pub letter_ends : List ℕ
letter_ends = 550 ∷ 640 ∷ 730 ∷ 820 ∷ 910 ∷ 1000 ∷ 1090 ∷ []

-- how many ends a number has passed, up to the first that it has not
unfoldable pub ends_passed : List ℕ → ℕ → ℕ
ends_passed [] icu = 0
ends_passed (end ∷ ends) icu = cond (leb icu end) 0 (suc (ends_passed ends icu))

-- A to H as 0 to 7
abbrev pub letter_of : ℕ → ℕ
letter_of icu = ends_passed letter_ends icu
