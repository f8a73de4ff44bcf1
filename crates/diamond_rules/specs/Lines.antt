-- Chapter 6 of the source, "for an east-west arterial", from its line 24 on. The lines 1–18 behind it are paper 01's.
-- A side is the west junction or the east; each line is said of a side, under the book's number. Times are ms.
use Rattle.std.specs.Prelude.{Bool, cond, ◌&&◌, List, [], ◌∷◌, ◌++◌, ℕ, zero, suc, ◌+◌, ◌-◌, ◌*◌, max, min, ltb}
use Rattle.units.specs.declared.Ms.{Ms}
use Rattle.layout.specs.Entries.{EB, WB, NB, SB, left}
use Rattle.layout.specs.Sheet.{BLANK}
use Rattle.answers.specs.Answers.{left_by}
use Rattle.kinds.specs.declared.Group.{Group}
use Rattle.kinds.specs.declared.Group.TheVariants.{Left, Through, Right}
use Rattle.entries.specs.Layout.{cycle, volume}
use Rattle.procedure.specs.declared.Approach.{Approach}
use Rattle.procedure.specs.Approach.{read_approach, is_free}
use Rattle.procedure.specs.Lines.{adjusted}
use Rattle.procedure.specs.Pairs.{picked, by_pick, icu_of, letter_of}
use Rattle.diamond_rules.specs.declared.Side.{Side}
use Rattle.diamond_rules.specs.Record.{west, east, storage, travel, diamond_answer}

-- 24 tIC: "the Adjusted Reference Time, except for free right movements", which take 0
unfoldable pub interchange : Approach → Group → ℕ → ℕ
interchange s Left CL = adjusted s Left CL
interchange s Through CL = adjusted s Through CL
interchange s Right CL = cond (is_free s) 0 (adjusted s Right CL)

abbrev pub t_ic : Approach → Group → ℕ → Ms
t_ic s g CL = record { 0 = interchange s g CL }

-- the times of a side: x comes along the arterial from outside, y from the other junction, z off the ramp
unfoldable pub side_of : Approach → Approach → Approach → ℕ → Side
side_of x y z CL =
    record {
      through = t_ic x Through CL;
      right = t_ic x Right CL;
      onramp = t_ic y Left CL;
      inner = t_ic y Through CL;
      rampleft = t_ic z Left CL;
      rampthrough = t_ic z Through CL;
      rampright = t_ic z Right CL;
    }

abbrev pub side_at : List ℕ → ℕ → ℕ → ℕ → Side
side_at e x y z = side_of (read_approach e x) (read_approach e y) (read_approach e z) (cycle e)

-- "west EBT, EBR, WBL, WBT, SBL, SBT, SBR"; "east WBT, WBR, EBL, EBT, NBL, NBT, NBR"
unfoldable pub west_side : List ℕ → Side
west_side r = side_at (west r) EB WB SB

unfoldable pub east_side : List ℕ → Side
east_side r = side_at (east r) WB EB NB

-- 25–27 "with N = vL·CL and storage L vehicles, it is N < 3600L and 16,384·3,600·N < 10,000·(3600L−N)²": the ratio is below 1
unfoldable pub below1 : ℕ → ℕ → Bool
below1 N L = ltb N (3600 * L) && ltb (16_384 * 3_600 * N) (10_000 * ((3600 * L - N) * (3600 * L - N)))

-- the left volume that each storage is for: WB left, EB left, off the west ramp, off the east ramp
unfoldable pub stored : List ℕ → ℕ → ℕ
stored r zero = volume (west r) (left WB)
stored r (suc zero) = volume (east r) (left EB)
stored r (suc (suc zero)) = volume (west r) (left SB)
stored r (suc (suc (suc k))) = volume (east r) (left NB)

unfoldable pub fits : List ℕ → ℕ → Bool
fits r k = below1 (stored r k * cycle (west r)) (storage r k)

-- what the arterial takes as it enters: "max(tICEBT, tICEBR)"; and what the ramp takes: "max(tICSBL, tICSBT, tICSBR)"
unfoldable pub entering : Side → ℕ
entering s = max s.through.0 s.right.0

unfoldable pub off_ramp : Side → ℕ
off_ramp s = max (max s.rampleft.0 s.rampthrough.0) s.rampright.0

-- 28 tI1 = "max(tICEBT, tICEBR) + tICWBL + max(tICSBL, tICSBT)"
unfoldable pub isolated : Side → ℕ
isolated s = entering s + s.onramp.0 + max s.rampleft.0 s.rampthrough.0

-- 29 tI2 = "tICWBT + max(tICSBL, tICSBT, tICSBR)"
unfoldable pub alternate : Side → ℕ
alternate s = s.inner.0 + off_ramp s

-- 30 tI = "max(tI1, tI2)"
unfoldable pub combined : Side → ℕ
combined s = max (isolated s) (alternate s)

-- 31 tO = "min(tT, max(tICEBT, tICEBR))"
unfoldable pub overlap : ℕ → Side → ℕ
overlap t_t s = min t_t (entering s)

-- the ramp's row of Table 6-4: "held at least twice the travel time"
unfoldable pub held : ℕ → Side → ℕ
held t_t s = max (off_ramp s) (2 * t_t)

-- 32 tLA, Table 6-4: add the EB phase and the SB phase, subtract the east's overlap; add the WB phase and the NB phase, subtract the west's
unfoldable pub leading_alternate : ℕ → Side → Side → ℕ
leading_alternate t_t w e = entering w + held t_t w - overlap t_t e + entering e + held t_t e - overlap t_t w

-- 33, 34 tLG and tLL: "the maximum of the two isolated times"
unfoldable pub isolated_plan : Side → Side → ℕ
isolated_plan w e = max (combined w) (combined e)

-- "BLANK where not allowed"
abbrev pub if_allowed : Bool → ℕ → ℕ
if_allowed allowed time = cond allowed time BLANK

-- 33 "Lagging is allowed only when all four storage ratios are below 1"
unfoldable pub lagging_allowed : List ℕ → Bool
lagging_allowed r = (fits r 0 && fits r 1) && (fits r 2 && fits r 3)

-- 34 "lead-lag when the two off-ramp ones are"
unfoldable pub lead_lag_allowed : List ℕ → Bool
lead_lag_allowed r = fits r 2 && fits r 3

-- 35–37 "best alternative over CL up, letter": which is picked, "on a tie leading alternate, lagging, lead-lag, in that order"
unfoldable pub best_of : ℕ → ℕ → ℕ → ℕ → List ℕ
best_of t_la t_lg t_ll CL =
    let pick = picked t_la t_lg t_ll in
    let best = by_pick pick t_la t_lg t_ll in
    let icu = icu_of best CL in
    t_la ∷ t_lg ∷ t_ll ∷ pick ∷ best ∷ icu ∷ letter_of icu ∷ []

-- 28–31 of both sides, west and east
unfoldable pub sides_of : ℕ → Side → Side → List ℕ
sides_of t_t w e =
    isolated w ∷ isolated e ∷ alternate w ∷ alternate e ∷ combined w ∷ combined e ∷ overlap t_t w ∷ overlap t_t e ∷ []

-- the seven times of a side
abbrev pub times_of : Side → List ℕ
times_of s =
    s.through.0 ∷ s.right.0 ∷ s.onramp.0 ∷ s.inner.0 ∷ s.rampleft.0 ∷ s.rampthrough.0 ∷ s.rampright.0 ∷ []

unfoldable pub plans_of : List ℕ → Side → Side → List ℕ
plans_of r w e =
    let t_i = isolated_plan w e in
    best_of (leading_alternate (travel r) w e) (if_allowed (lagging_allowed r) t_i) (if_allowed (lead_lag_allowed r) t_i) (cycle (west r))

-- the 29 cells of an acceptable record
unfoldable pub diamond : List ℕ → List ℕ
diamond r =
    let w = west_side r in
    let e = east_side r in
    (times_of w ++ times_of e) ++ (sides_of (travel r) w e ++ plans_of r w e)

-- the cells afterwards, in a list that holds d: the worksheet's, or as they were
unfoldable pub rated : List ℕ → List ℕ → List ℕ
rated r d = left_by (diamond_answer r d) (diamond r) d
