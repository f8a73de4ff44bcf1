-- What is there for one of the cases is there for what is known to be that case.
use Prim.Native.Nat.{ℕ}
use mathlib.Core.Path.{◌≡◌}
use mathlib.Core.List.{List}
use Rattle.answers.specs.declared.Refusal.{Refusal}
use Rattle.text.specs.Text.{Placed}
use Rattle.text_refusals.specs.Refusals.{why_text}

pub why_placed : {list after : List ℕ} {at past : ℕ} {why case : Refusal} (place : ℕ) → why ≡ case → Placed list at (why_text case place) after past
    → Placed list at (why_text why place) after past
why_placed place is p = rw is p
