-- What is put one after the other is the worksheet's cells.
use mathlib.Core.Path.{◌≡◌, refl, ◌∙◌}
use mathlib.Core.List.{List, ◌++◌, append_assoc}
use Prim.Native.Nat.{ℕ, ◌+◌}
use native.Mathlib.Omega.{arith}
use lib.ListN.{length, length-append}
use Rattle.lists.specs.Lists.{over}
use Rattle.lists.proofs.Laws.{over_then, over_whole}
use Rattle.layout.specs.Diamond.{plan_from, diamond_count}
use Rattle.diamond_rules.specs.declared.Side.{Side}
use Rattle.diamond_rules.specs.Record.{travel}
use Rattle.diamond_rules.specs.Lines.{west_side, east_side, times_of, sides_of, best_of, plans_of, diamond}

abbrev front : ℕ → Side → Side → List ℕ
front t_t w e = (times_of w ++ times_of e) ++ sides_of t_t w e

pub front_length : (t_t : ℕ) (w e : Side) → length (front t_t w e) ≡ plan_from
unfolding sides_of
front_length t_t w e = refl

pub plans_length : (r : List ℕ) (w e : Side) → plan_from + length (plans_of r w e) ≡ diamond_count
unfolding plans_of best_of
plans_length r w e = refl

pub cells_assembled : (r d : List ℕ) {w e : Side} {t_t : ℕ} {once twice : List ℕ} → length d ≡ diamond_count → w ≡ west_side r → e ≡ east_side r → t_t ≡ travel r
    → once ≡ over d 0 (front t_t w e) → twice ≡ over once plan_from (plans_of r w e) → twice ≡ diamond r
unfolding diamond
cells_assembled r d {w} {e} {t_t} size west east time first second =
    let whole = front t_t w e ++ plans_of r w e in
    let parts = length-append (front t_t w e) (plans_of r w e) in
    over_then d 0 (front t_t w e) (plans_of r w e) first second (omega (arith, front_length t_t w e)) (omega (arith, size, plans_length r w e))
    ∙ over_whole d whole (omega (arith, size, parts, front_length t_t w e, plans_length r w e))
    ∙ append_assoc (times_of w ++ times_of e) (sides_of t_t w e) (plans_of r w e)
    ∙ rw (west, east, time)
