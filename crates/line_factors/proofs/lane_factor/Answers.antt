-- A group's number among its kin is its row of the table.
use Rattle.line_factors.proofs.Rule.{typed, rule}
use Rattle.line_factors.specs.Factors.{lane_factor}
use Rattle.kinds.specs.contracts.Group.{the_type}
use Rattle.kinds.specs.declared.Group.{Group}
use Rattle.kinds.specs.declared.Group.TheVariants.{Left, Through, Right}
use Rattle.kinds.specs.declared.Kind.TheVariants.{Lanes}
use Rattle.kinds.specs.Working.{most_of}
use Rattle.std.proofs.Common.{◌≡◌, ℕ, ◌+◌, ◌-◌, ◌*◌, ◌≤◌, get_or, lit<}
use denote.Enum.Declared.{tag_of}
use Rattle.line_factors.proofs.lane_factor.Goals as goal

by_number : (g : Group) (n : ℕ) → 1 ≤ n → n ≤ most_of Lanes
    → (get_or typed (most_of Lanes * tag_of the_type g + (n - 1)) 0 ≡ lane_factor g n)
    × (get_or typed (most_of Lanes * tag_of the_type g + (n - 1)) 0 ≤ 1000)
by_number Left n some few = rule Left n (lit< tt) some few
by_number Through n some few = rule Through n (lit< tt) some few
by_number Right n some few = rule Right n (lit< tt) some few

pub returns : goal.returns
returns c = by_number c.args.group c.args.lanes c.requires.0 c.requires.1
