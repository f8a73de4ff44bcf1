-- Laws of what is given before the pages of all sites.
use Prim.Native.Nat.{ℕ}
use mathlib.Core.Path.{◌≡◌, refl}
use mathlib.Core.List.{List}
use Rattle.program_site.specs.Site.{with_site}
use Rattle.program_site.specs.Working.{sought_text}
use Rattle.std.specs.Prelude.{Result, Ok, Err}
use Rattle.program_site.specs.declared.NoSite.{NoSite}
use Rattle.program_outcome.specs.Outcome.{saying}
use Rattle.program_page.specs.Pages.{nothing}

-- only what is said, and that is nothing where there is a site
pub said_alone : (this : Result ℕ NoSite) (name word : List ℕ) → with_site this name word (λ site. nothing) ≡ saying (sought_text this name word)
said_alone (Ok site) name word = refl
said_alone (Err why) name word = refl
