-- How long the program's use is at most: no public promise says it.
use Rattle.std.specs.Prelude.{ℕ}

abbrev pub use_most : ℕ
use_most = 640
