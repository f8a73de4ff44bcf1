-- A value that agrees with the entries in each of its numbers is the one that is read from them.
use mathlib.Core.Path.{◌≡◌}
use mathlib.Core.List.{List}
use Prim.Native.Nat.{ℕ}
use Rattle.layout.specs.Entries.{left, through, right, lanes_no, volume_no, ideal_no, lost_no, green_no, factor_no}
use Rattle.layout.specs.Entries.{shared_no, walkers_no, button_no, crossing_no, free_no}
use Rattle.entries.specs.Layout.{movement_entry, approach_entry}
use Rattle.procedure.specs.declared.Movement.{Movement}
use Rattle.procedure.specs.declared.Approach.{Approach}
use Rattle.procedure.specs.Approach.{read_movement, read_approach}

pub is_movement : (e : List ℕ) (m : ℕ) (x : Movement) → x.lanes.0 ≡ movement_entry e m lanes_no → x.volume.0.0 ≡ movement_entry e m volume_no
    → x.ideal.0.0 ≡ movement_entry e m ideal_no → x.lost.0.0 ≡ movement_entry e m lost_no → x.green.0.0 ≡ movement_entry e m green_no
    → x.measured.0 ≡ movement_entry e m factor_no → x ≡ read_movement e m
unfolding read_movement
is_movement e m x lanes volume ideal lost green measured = rw (← lanes, ← volume, ← ideal, ← lost, ← green, ← measured)

pub is_approach : (e : List ℕ) (a : ℕ) (x : Approach) → x.left ≡ read_movement e (left a) → x.through ≡ read_movement e (through a)
    → x.right ≡ read_movement e (right a) → x.shared.0 ≡ approach_entry e a shared_no → x.walkers.0 ≡ approach_entry e a walkers_no
    → x.button.0 ≡ approach_entry e a button_no → x.crossing.0.0 ≡ approach_entry e a crossing_no → x.free.0 ≡ approach_entry e a free_no
    → x ≡ read_approach e a
unfolding read_approach
is_approach e a x l t r shared walkers button crossing free =
    rw (← l, ← t, ← r, ← shared, ← walkers, ← button, ← crossing, ← free)
