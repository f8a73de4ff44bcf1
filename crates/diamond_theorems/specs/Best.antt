-- What the theorems say of the timing plans: by number, 0 leading alternate, 1 lagging, 2 lead-lag.
use Rattle.std.specs.Prelude.{◌≡◌, Bool, true, List, ℕ, zero, suc, ◌+◌, ◌≤◌, ◌<◌}
use Rattle.layout.specs.Diamond.{plan_count}
use Rattle.diamond_rules.specs.declared.Side.{Side}
use Rattle.diamond_rules.specs.Record.{travel}
use Rattle.diamond_rules.specs.Lines.{west_side, east_side, entering, overlap, held, leading_alternate, isolated_plan, lagging_allowed, lead_lag_allowed}

-- whether a plan is allowed, where lagging and lead-lag are or not; leading alternate always is
abbrev pub allowed_by : Bool → Bool → ℕ → Bool
allowed_by lagging lead_lag zero = true
allowed_by lagging lead_lag (suc zero) = lagging
allowed_by lagging lead_lag (suc (suc k)) = lead_lag

-- and what it takes
abbrev pub takes_by : ℕ → ℕ → ℕ → ℕ
takes_by leading isolated zero = leading
takes_by leading isolated (suc k) = isolated

-- "the picked alternative is allowed and none allowed takes less; on a tie" the earlier
pub record Picks (allowed : ℕ → Bool) (takes : ℕ → ℕ) (pick best : ℕ) : Type 0 where
  pub few : pick < plan_count
  pub allows : allowed pick ≡ true
  pub time : best ≡ takes pick
  pub least : (k : ℕ) → k < plan_count → allowed k ≡ true → best ≤ takes k
  pub earlier : (k : ℕ) → k < pick → allowed k ≡ true → best < takes k

-- of a record
abbrev pub allowed : List ℕ → ℕ → Bool
allowed r = allowed_by (lagging_allowed r) (lead_lag_allowed r)

abbrev pub takes : List ℕ → ℕ → ℕ
takes r = takes_by (leading_alternate (travel r) (west_side r) (east_side r)) (isolated_plan (west_side r) (east_side r))

-- "no subtraction of Table 6-4 goes below 0": what is taken off, put back, gives what was added
abbrev pub NothingLost : ℕ → Side → Side → Type 0
NothingLost t_t w e =
    leading_alternate t_t w e + overlap t_t e + overlap t_t w ≡ entering w + held t_t w + entering e + held t_t e
