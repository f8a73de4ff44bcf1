-- Room for what is said of how the program is called: no public promise says it.
use Rattle.std.specs.Prelude.{ℕ}

abbrev pub use_most : ℕ
use_most = 256
