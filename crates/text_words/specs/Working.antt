-- What each reader keeps, the title and the entry are ones that there are: no public promise says it.
use Rattle.std.specs.Prelude.{ℕ, ◌<◌, Option, IfSome}
use Rattle.layout.specs.Entries.{entry_count}
use Rattle.text_names.specs.Names.{title_count}

abbrev pub IsWithin : Option ℕ → Option ℕ → Type 0
IsWithin title wanted = IfSome title (λ t. t < title_count) × IfSome wanted (λ e. e < entry_count)
