-- "The lines" of an approach s: for each its formula, in the paper's letters, and the line itself.
-- o is the oncoming approach, CL the cycle in seconds. Volumes are vehicles per hour; flows tenths of a vehicle per hour (`flow_unit`),
-- rounded down; factors and shares ten-thousandths; times ms, rounded up.
use Rattle.std.specs.Prelude.{Bool, cond, ◌&&◌, ◌||◌, List, [], ◌∷◌, ◌++◌, ℕ, ◌+◌, ◌-◌, ◌*◌, ◌/◌, max, min, eqb, leb, ltb}
use Rattle.units.specs.Rounding.{up}
use Rattle.units.specs.Unit.{flow_unit, whole}
use Rattle.layout.specs.declared.Worksheet.{Worksheet}
use Rattle.layout.specs.declared.Worksheet.TheVariants.{Junction, Point}
use Rattle.layout.specs.Sheet.{BLANK}
use Rattle.line_decay.specs.Decay.{decay_number as D}
use Rattle.line_factors.specs.Factors.{factor_of}
use Rattle.kinds.specs.declared.Group.{Group}
use Rattle.kinds.specs.declared.Group.TheVariants.{Left, Through, Right}
use Rattle.procedure.specs.declared.Approach.{Approach}
use Rattle.procedure.specs.Approach.{n, v, i, lost, green, measured, p, crossing, is_shared, has_button}

-- "the folded right a, folded left b"
unfoldable pub a : Approach → ℕ
a s = cond (eqb (n s Right) 0) (v s Right) 0

unfoldable pub b : Approach → ℕ
b s = cond (is_shared s) (v s Left) 0

-- 1–3 "volumes of the groups: L is vL unless shared, then 0; T is vT, plus vL if shared, plus vR if no right lane;
-- R is vR with a right lane, else 0"
unfoldable pub volume : Approach → Group → ℕ
volume s Left = cond (is_shared s) 0 (v s Left)
volume s Through = v s Through + b s + a s
volume s Right = cond (eqb (n s Right) 0) 0 (v s Right)

-- "Write vC for T"; "vST = vC − b"
abbrev pub v_c : Approach → ℕ
v_c s = volume s Through

unfoldable pub v_st : Approach → ℕ
v_st s = v_c s - b s

-- 4 "fT = (100vC−15a)(100vC−5b)/vC², down; 10,000 if vC is 0"
unfoldable pub turning_t : ℕ → ℕ → ℕ → ℕ
turning_t v_c a b = cond (eqb v_c 0) whole ((100 * v_c - 15 * a) * (100 * v_c - 5 * b) / (v_c * v_c))

unfoldable pub f_t : Approach → ℕ
f_t s = turning_t (v_c s) (a s) (b s)

-- 5–7 "flows of L, T, R: i·n·lane factor·f/10⁷, f being 9,500, fT, 8,500. No lanes: 0."; Request Five: "tenths of a vehicle per
-- hour, still rounded down", so over 10⁶. The ideal flow i is an entry, whole vehicles per hour.
unfoldable pub flow_of : ℕ → ℕ → ℕ → ℕ → ℕ
flow_of i n factor f = cond (eqb n 0) 0 (i * n * factor * f / (10_000_000 / flow_unit))

abbrev pub f : Approach → Group → ℕ
f s Left = 9_500
f s Through = f_t s
f s Right = 8_500

-- the "lane factor" of a group's lanes; Request Six: measured, "or 0 for the table's"
unfoldable pub factor : Approach → Group → ℕ
factor s g = factor_of g (n s g) (measured s g)

unfoldable pub flow : Approach → Group → ℕ
flow s g = flow_of (i s g) (n s g) (factor s g) (f s g)

-- 8 "sST: as line 6 with f = 100(100vST−15a)/vST, down (10,000 if vST is 0)"
unfoldable pub turning_st : ℕ → ℕ → ℕ
turning_st v_st a = cond (eqb v_st 0) whole (100 * (100 * v_st - 15 * a) / v_st)

unfoldable pub s_st : Approach → ℕ
s_st s = flow_of (i s Through) (n s Through) (factor s Through) (turning_st (v_st s) (a s))

-- 9 "sSL: line 5, or if shared one left lane"; Request Six: "a shared lane's line 9 uses the left movement's"
unfoldable pub s_sl : Approach → ℕ
s_sl s = cond (is_shared s) (flow_of (i s Left) 1 (factor_of Left 1 (measured s Left)) (f s Left)) (flow s Left)

-- "G = 24,000 − ⌊(8·D(p(CL−8)) + 16·D(4p))/10⁶⌋, p pedestrians"
unfoldable pub G : ℕ → ℕ → ℕ
G p CL = 24_000 - (8 * D (p * (CL - 8)) + 16 * D (4 * p)) / 1_000_000

-- 10 "interference of R, if right lanes: G; else 0"; 11 "of T, if no right lanes and vC>0: G·vR/vC up; else 0"; L none
unfoldable pub interference : Approach → Group → ℕ → ℕ
interference s Left CL = 0
interference s Through CL = cond (eqb (n s Right) 0 && ltb 0 (v_c s)) (up (G (p s) CL * v s Right) (v_c s)) 0
interference s Right CL = cond (eqb (n s Right) 0) 0 (G (p s) CL)

-- 12 "pedestrian frequency F: 0 if p is 0; else 10,000 without a button; else 10,000 − ⌊D(2p·CL)/10⁵⌋"
unfoldable pub frequency : ℕ → Bool → ℕ → ℕ
frequency p button CL = cond (eqb p 0) 0 (cond button (whole - D (2 * p * CL) / 100_000) whole)

unfoldable pub F : Approach → ℕ → ℕ
F s CL = frequency (p s) (has_button s) CL

-- "1000·v·CL/flow, up"; Request Five: "Times use 10,000·v·CL over the flow". Where the lines below quote the first, this is meant.
unfoldable pub time : ℕ → ℕ → ℕ → ℕ
time v CL flow = up (1000 * flow_unit * v * CL) flow

-- "A part without volume is 0 in lines 13–28", but for 17, 26 and 28 where people cross (below)
abbrev pub part : ℕ → ℕ → ℕ
part v x = cond (eqb v 0) 0 x

-- 13–15 "reference times of L, T, R: 1000·v·CL/flow, up, plus interference (L none)"
unfoldable pub reference : Approach → Group → ℕ → ℕ
reference s g CL = part (volume s g) (time (volume s g) CL (flow s g) + interference s g CL)

-- 16–18 "adjusted: L and R lost + max(minimum, reference)"
unfoldable pub adjusted_of : ℕ → ℕ → ℕ → ℕ
adjusted_of lost minimum reference = lost + max minimum reference

-- "T is weighted: lost + A + (B−A)·F/10,000 up, with A = max(minimum, reference), B = max(A, pedestrian time)"
unfoldable pub weighted_of : ℕ → ℕ → ℕ → ℕ → ℕ → ℕ
weighted_of lost minimum crossing F reference =
    let A = max minimum reference in
    let B = max A crossing in
    lost + A + up ((B - A) * F) whole

-- "The through movement's entries serve the whole approach in 26 and 28."
unfoldable pub weighted : Approach → ℕ → ℕ → ℕ
weighted s CL reference = weighted_of (lost s Through) (green s Through) (crossing s) (F s CL) reference

-- Request One, where nobody drives: "through lanes, .. and pedestrians above 0"
unfoldable pub crossed : Approach → Bool
crossed s = ltb 0 (n s Through) && ltb 0 (p s)

-- "has reference time 0 and takes its adjusted time by the weighted formula in line 17";
-- "Without pedestrians, or without through lanes, all stay 0."
unfoldable pub nobody_driving : Approach → ℕ → ℕ
nobody_driving s CL = cond (crossed s) (weighted s CL 0) 0

unfoldable pub adjusted : Approach → Group → ℕ → ℕ
adjusted s Left CL = part (volume s Left) (adjusted_of (lost s Left) (green s Left) (reference s Left CL))
adjusted s Through CL = cond (eqb (v_c s) 0) (nobody_driving s CL) (weighted s CL (reference s Through CL))
adjusted s Right CL = part (volume s Right) (adjusted_of (lost s Right) (green s Right) (reference s Right CL))

-- 19 "vLL = max(vlT, ⌈(4vlT+vC)/n⌉ − 4vlT), where vlT is b"
unfoldable pub heaviest : ℕ → ℕ → ℕ → ℕ
heaviest b v_c n = max b (up (4 * b + v_c) n - 4 * b)

unfoldable pub v_ll : Approach → ℕ
v_ll s = part (v_c s) (heaviest (b s) (v_c s) (n s Through))

-- 20 "q = 10⁴·b/vLL up"
unfoldable pub q : Approach → ℕ
q s = part (v_c s) (up (whole * b s) (v_ll s))

-- "single (below)": "no left lane, one through lane, no right lane, shared, left volume above 0"
unfoldable pub single : Approach → Bool
single s = eqb (n s Left) 0 && (eqb (n s Through) 1 && (eqb (n s Right) 0 && (is_shared s && ltb 0 (v s Left))))

-- "o = ⌊10⁴·vLO/vCO⌋ if the oncoming approach is single, of its left and T volumes, else 0"
unfoldable pub left_share : Approach → ℕ
left_share o = cond (single o) (whole * v o Left / v_c o) 0

-- 21 "E = num·CL/(10·den) up; num = 5·10⁸ + 80,000q − 3q²; den = 2(10⁴+q) + o·CL"
unfoldable pub equivalent : ℕ → ℕ → ℕ → ℕ
equivalent q o CL = up ((500_000_000 + 80_000 * q - 3 * (q * q)) * CL) (10 * (2 * (whole + q) + o * CL))

unfoldable pub E : Approach → Approach → ℕ → ℕ
E s o CL = part (v_c s) (equivalent (q s) (left_share o) CL)

-- 22 "sA = line 6 × ⌊10¹²/(10⁸ + q(E−10⁴))⌋ / (n·10⁴), down": in the unit of the flow that it is of
unfoldable pub flow_a : ℕ → ℕ → ℕ → ℕ → ℕ
flow_a flow q E n = flow * (1_000_000_000_000 / (100_000_000 + q * E - whole * q)) / (n * whole)

unfoldable pub s_a : Approach → Approach → ℕ → ℕ
s_a s o CL = part (v_c s) (flow_a (flow s Through) (q s) (E s o CL) (n s Through))

-- 23 "the T and L values of max(1000·vLL·CL/sA up + interference, 1000·v·CL/flow up)"
unfoldable pub option_a_of : ℕ → ℕ → ℕ → ℕ → ℕ → ℕ → ℕ
option_a_of v_ll s_a v flow interference CL = max (time v_ll CL s_a + interference) (time v CL flow)

-- "For L: vLL = ⌈vL/nL⌉, q = 10,000, with its own E, sA (from line 5), lanes."
unfoldable pub left_a : Approach → Approach → ℕ → ℕ
left_a s o CL = flow_a (flow s Left) whole (equivalent whole (left_share o) CL) (n s Left)

unfoldable pub option_a : Approach → Approach → ℕ → ℕ
option_a s o CL =
    max
    (part (v_c s) (option_a_of (v_ll s) (s_a s o CL) (v_c s) (flow s Through) (interference s Through CL) CL))
    (part (volume s Left) (option_a_of (up (volume s Left) (n s Left)) (left_a s o CL) (volume s Left) (flow s Left) 0 CL))

-- "A is allowed when vL is under 60 or the oncoming approach is single"
unfoldable pub allowed_a : Approach → Approach → Bool
allowed_a s o = ltb (v s Left) 60 || single o

-- "B is allowed when oncoming vST is at most 120"
unfoldable pub allowed_b : Approach → Bool
allowed_b o = leb (v_st o) 120

-- "an approach whose L and T are 0 has 0 in 23–28", but for 26 and 28 where people cross; "BLANK goes before these in 23 and 24
-- where an option is not allowed and L or T has volume"
unfoldable pub empty : Approach → Bool
empty s = eqb (volume s Left) 0 && eqb (v_c s) 0

abbrev pub unless_empty : Approach → ℕ → ℕ
unless_empty s x = cond (empty s) 0 x

unfoldable pub line23 : Approach → Approach → ℕ → ℕ
line23 s o CL = unless_empty s (cond (allowed_a s o) (option_a s o CL) BLANK)

-- "with sB = line 6, or ⌊line 6·(n−1)/n⌋ if shared"; Request Five: "and the ⌊⌋ in sB likewise", in tenths
unfoldable pub s_b : Approach → ℕ
s_b s = cond (is_shared s) (flow s Through * (n s Through - 1) / n s Through) (flow s Through)

-- the 8,000 ms of line 24, in which the through lanes beside a waiting left move
abbrev pub waiting : ℕ
waiting = 8_000

-- 24 "the larger of 8,000 + 1000·vST·CL/sST up − ⌊8000·sB/sST⌋ + line 11; and 8,000 + 1000·vL·CL/sSL up";
-- "lefts of 0 add nothing to 24 and 27"; Request Five: "8000·sB/sST is unchanged in form", a ratio of two flows
unfoldable pub through_b : ℕ → ℕ → ℕ → ℕ → ℕ → ℕ
through_b v_st s_st s_b interference CL = waiting + time v_st CL s_st - waiting * s_b / s_st + interference

unfoldable pub option_b : Approach → ℕ → ℕ
option_b s CL =
    max
    (part (v_st s) (through_b (v_st s) (s_st s) (s_b s) (interference s Through CL) CL))
    (part (v s Left) (waiting + time (v s Left) CL (s_sl s)))

unfoldable pub line24 : Approach → Approach → ℕ → ℕ
line24 s o CL = unless_empty s (cond (allowed_b o) (option_b s CL) BLANK)

-- 25 "the lesser of 23 and 24 that are not BLANK; BLANK if both are"
unfoldable pub lesser : ℕ → ℕ → ℕ
lesser x y = cond (eqb x BLANK) y (cond (eqb y BLANK) x (min x y))

unfoldable pub line25 : Approach → Approach → ℕ → ℕ
line25 s o CL = lesser (line23 s o CL) (line24 s o CL)

-- 26 "line 25 weighted as line 17; BLANK if 25 is"; Request One: an approach "with L and T both 0 takes 26 and 28 the same way"
unfoldable pub line26 : Approach → Approach → ℕ → ℕ
line26 s o CL = cond (empty s) (nobody_driving s CL) (cond (eqb (line25 s o CL) BLANK) BLANK (weighted s CL (line25 s o CL)))

-- 27 "the largest of line 14, 1000·vST·CL/sST up + line 11, and 1000·vL·CL/sSL up"
unfoldable pub line27 : Approach → ℕ → ℕ
line27 s CL =
    max (reference s Through CL)
    (max (part (v_st s) (time (v_st s) CL (s_st s) + interference s Through CL)) (part (v s Left) (time (v s Left) CL (s_sl s))))

-- 28 "line 27 weighted", and as 26 where nobody drives
unfoldable pub line28 : Approach → ℕ → ℕ
line28 s CL = cond (empty s) (nobody_driving s CL) (weighted s CL (line27 s CL))

-- lines 1–18, which look at the approach alone
unfoldable pub first_lines : Approach → ℕ → List ℕ
first_lines s CL =
    volume s Left ∷ volume s Through ∷ volume s Right
    ∷ f_t s
    ∷ flow s Left ∷ flow s Through ∷ flow s Right
    ∷ s_st s ∷ s_sl s
    ∷ interference s Right CL ∷ interference s Through CL
    ∷ F s CL
    ∷ reference s Left CL ∷ reference s Through CL ∷ reference s Right CL
    ∷ adjusted s Left CL ∷ adjusted s Through CL ∷ adjusted s Right CL
    ∷ []

-- lines 19–28
unfoldable pub later_lines : Approach → Approach → ℕ → List ℕ
later_lines s o CL =
    v_ll s ∷ q s ∷ E s o CL ∷ s_a s o CL
    ∷ line23 s o CL ∷ line24 s o CL ∷ line25 s o CL ∷ line26 s o CL
    ∷ line27 s CL ∷ line28 s CL
    ∷ []

unfoldable pub lines : Approach → Approach → ℕ → List ℕ
lines s o CL = first_lines s CL ++ later_lines s o CL

-- "28 lines of each approach"; on the sheet of a single point, Request Seven, "lines 1–18 of each approach"
unfoldable pub lines_for : Worksheet → Approach → Approach → ℕ → List ℕ
lines_for Junction s o CL = lines s o CL
lines_for Point s o CL = first_lines s CL
