-- An approach: its three movements and its own entries, and how they are read from the entries.
use Rattle.std.specs.Prelude.{Bool, List, ℕ, eqb}
use Rattle.kinds.specs.declared.Group.{Group}
use Rattle.kinds.specs.declared.Group.TheVariants.{Left, Through, Right}
use Rattle.layout.specs.Entries.{left, through, right, lanes_no, volume_no, ideal_no, lost_no, green_no, factor_no}
use Rattle.layout.specs.Entries.{shared_no, walkers_no, button_no, crossing_no, free_no}
use Rattle.entries.specs.Layout.{movement_entry, approach_entry}
use Rattle.procedure.specs.declared.Movement.{Movement}
use Rattle.procedure.specs.declared.Approach.{Approach}

-- "Movement m then has entries 6m to 6m+5". (`1 = record { }` is the field of no content that lets none but the kinds make their values.)
unfoldable pub read_movement : List ℕ → ℕ → Movement
read_movement e m =
    record {
      lanes = record { 0 = movement_entry e m lanes_no; 1 = record {} };
      volume = record { 0 = record { 0 = movement_entry e m volume_no }; 1 = record {} };
      ideal = record { 0 = record { 0 = movement_entry e m ideal_no }; 1 = record {} };
      lost = record { 0 = record { 0 = movement_entry e m lost_no }; 1 = record {} };
      green = record { 0 = record { 0 = movement_entry e m green_no }; 1 = record {} };
      measured = record { 0 = movement_entry e m factor_no; 1 = record {} };
    }

-- "approach a 72+5a onward"
unfoldable pub read_approach : List ℕ → ℕ → Approach
read_approach e a =
    record {
      left = read_movement e (left a);
      through = read_movement e (through a);
      right = read_movement e (right a);
      shared = record { 0 = approach_entry e a shared_no; 1 = record {} };
      walkers = record { 0 = approach_entry e a walkers_no; 1 = record {} };
      button = record { 0 = approach_entry e a button_no; 1 = record {} };
      crossing = record { 0 = record { 0 = approach_entry e a crossing_no }; 1 = record {} };
      free = record { 0 = approach_entry e a free_no; 1 = record {} };
    }

abbrev pub movement_of : Approach → Group → Movement
movement_of s Left = s.left
movement_of s Through = s.through
movement_of s Right = s.right

-- "n, v, i are the movement's entries", of a group of the approach
abbrev pub n : Approach → Group → ℕ
n s g = (movement_of s g).lanes.0

abbrev pub v : Approach → Group → ℕ
v s g = (movement_of s g).volume.0.0

abbrev pub i : Approach → Group → ℕ
i s g = (movement_of s g).ideal.0.0

abbrev pub lost : Approach → Group → ℕ
lost s g = (movement_of s g).lost.0.0

abbrev pub green : Approach → Group → ℕ
green s g = (movement_of s g).green.0.0

-- Request Six, "a sixth entry, its measured lane factor in thousandths"
abbrev pub measured : Approach → Group → ℕ
measured s g = (movement_of s g).measured.0

-- the approach's own: pedestrians p, whether it is shared, has a button, has a free right
abbrev pub p : Approach → ℕ
p s = s.walkers.0

abbrev pub crossing : Approach → ℕ
crossing s = s.crossing.0.0

abbrev pub is_shared : Approach → Bool
is_shared s = eqb s.shared.0 1

abbrev pub has_button : Approach → Bool
has_button s = eqb s.button.0 1

abbrev pub is_free : Approach → Bool
is_free s = eqb s.free.0 1
