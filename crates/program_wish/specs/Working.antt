-- Room for the version's line: no public promise says it.
use Rattle.std.specs.Prelude.{ℕ}

abbrev pub version_most : ℕ
version_most = 32
