-- What is there for one of the cases is there for what is known to be that case.
use Prim.Native.Nat.{ℕ}
use mathlib.Core.Path.{◌≡◌}
use mathlib.Core.List.{List}
use Rattle.text_values.specs.declared.Trouble.{Trouble}
use Rattle.text.specs.Text.{Placed}
use Rattle.text_troubles.specs.Troubles.{trouble_text}

pub trouble_placed : {list after : List ℕ} {at past : ℕ} {why case : Trouble} (word : List ℕ) → why ≡ case
    → Placed list at (trouble_text case word) after past
    → Placed list at (trouble_text why word) after past
trouble_placed word is p = rw is p
