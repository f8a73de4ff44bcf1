-- Working definition: the most that a kind takes, its usual value among it; what bounds are worked out from.
use Rattle.std.specs.Prelude.{ℕ, max}
use Rattle.kinds.specs.declared.Kind.{Kind}
use Rattle.kinds.specs.Kinds.{limits_of}

abbrev pub most_of : Kind → ℕ
most_of k = max (limits_of k).usual (limits_of k).most
