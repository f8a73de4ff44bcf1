-- The lowest free place, where there is one: what a search for it gives. No public promise says it.
use Rattle.std.specs.Prelude.{List, ℕ, eqb, position, Option}
use Rattle.open_rules.specs.Open.{free}

-- the lowest free place, where there is one
abbrev pub free_place : List ℕ → Option ℕ
free_place owners = position (λ owner. eqb owner free) owners
