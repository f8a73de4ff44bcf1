-- A time is never BLANK, so that lines 23–26 of what is allowed are those of the cells.
use mathlib.Core.Path.{◌≡◌, refl, ap}
use mathlib.Core.Bool.{Bool, true, false, cond}
use Prim.Native.Nat.{ℕ, ◌≤◌}
use native.Mathlib.Omega.{arith}
use lib.Dec.{eqb}
use borrow.Author.Tests.{ne_eqb}
use Rattle.std.specs.Prelude.{Option, None, Some, IfSome, unwrap_or}
use Rattle.units.specs.declared.Ms.{Ms}
use Rattle.layout.specs.Sheet.{BLANK}
use Rattle.procedure.specs.declared.Approach.{Approach}
use Rattle.procedure.specs.Ranges.{Fair, FairCycle}
use Rattle.procedure.specs.Lines.{allowed_a, allowed_b, empty, option_a, option_b, lesser, line23, line24, line25}
use Rattle.line_bounds.specs.Bounds.{most_option}
use Rattle.line_bounds.proofs.Permitted.{option_a_most, option_b_most}
use Rattle.line_formulas.specs.Working.{weighed_by}
use Rattle.line_stages.specs.Stages.{ms}
use Rattle.line_permitted.specs.Options.{cell, lesser_time, weighed_time}

-- a time that was found
pub time_is : {t : Ms} {x : ℕ} → t.0 ≡ x → t ≡ ms x
time_is e = ap ms e

pub cell_or : (t : Option Ms) → (unwrap_or t (ms BLANK)).0 ≡ cell t
cell_or None = refl
cell_or (Some t) = refl

-- the time of an option, where it is allowed
abbrev pub allowed_time : Bool → ℕ → Option Ms
allowed_time t x = cond t (Some (ms x)) None

abbrev pub Small : Option Ms → Type 0
Small t = IfSome t (λ x. x.0 ≤ most_option)

allowed_cell : (t : Bool) (x : ℕ) → cell (allowed_time t x) ≡ cond t x BLANK
allowed_cell true x = refl
allowed_cell false x = refl

allowed_small : (t : Bool) (x : ℕ) → x ≤ most_option → Small (allowed_time t x)
allowed_small true x h = h
allowed_small false x h = tt

lesser_small : (a b : Option Ms) → Small a → Small b → Small (lesser_time a b)
lesser_small None b h k = k
lesser_small (Some a) None h k = h
lesser_small (Some a) (Some b) h k = omega arith

lesser_cell : (a b : Option Ms) → Small a → Small b → cell (lesser_time a b) ≡ lesser (cell a) (cell b)
unfolding lesser
lesser_cell None b h k = refl
lesser_cell (Some a) None h k = rw (ne_eqb a.0 BLANK (λ e. omega arith))
lesser_cell (Some a) (Some b) h k = rw (ne_eqb a.0 BLANK (λ e. omega arith), ne_eqb b.0 BLANK (λ e. omega arith))

pub weighed_cell : (s : Approach) (F : ℕ) (t : Option Ms) → Small t → cell (weighed_time s F t) ≡ cond (eqb (cell t) BLANK) BLANK (weighed_by s F (cell t))
weighed_cell s F None h = refl
weighed_cell s F (Some t) h = rw (ne_eqb t.0 BLANK (λ e. omega arith))

-- both options of an approach that has volume
module _ (s o : Approach) (CL : ℕ) (fair : Fair s) (cycle : FairCycle CL) where
  abbrev pub time_a : Option Ms
  time_a = allowed_time (allowed_a s o) (option_a s o CL)

  abbrev pub time_b : Option Ms
  time_b = allowed_time (allowed_b o) (option_b s CL)

  small_a : Small time_a
  small_a = allowed_small (allowed_a s o) (option_a s o CL) (option_a_most s CL fair cycle o)

  small_b : Small time_b
  small_b = allowed_small (allowed_b o) (option_b s CL) (option_b_most s CL fair cycle)

  pub small_lesser : Small (lesser_time time_a time_b)
  small_lesser = lesser_small time_a time_b small_a small_b

  module _ (some : empty s ≡ false) where
    pub cell_a : cell time_a ≡ line23 s o CL
    unfolding line23
    cell_a = rw (some, allowed_cell)

    pub cell_b : cell time_b ≡ line24 s o CL
    unfolding line24
    cell_b = rw (some, allowed_cell)

    pub cell_lesser : cell (lesser_time time_a time_b) ≡ line25 s o CL
    unfolding line25
    cell_lesser = rw (lesser_cell time_a time_b small_a small_b, cell_a, cell_b)
