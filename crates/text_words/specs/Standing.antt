-- Where the reader of a text stands: under the title that was named last, and waiting for the value of an entry.
use Rattle.std.specs.Prelude.{ℕ, Option}

pub record Standing : Type 0 where
  pub title : Option ℕ
  pub wanted : Option ℕ
