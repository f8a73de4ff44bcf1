-- Laws of the scan: one byte more of a text, and the entries that it begins with.
use Prim.Native.Nat.{ℕ, ◌+◌, ◌<◌}
use mathlib.Core.Path.{◌≡◌, sym, ◌∙◌}
use mathlib.Core.List.{List}
use lib.Seq.{ext_get_or}
use native.Mathlib.Numerals.{add-one}
use native.Mathlib.Omega.{arith}
use denote.Param.Members.{Mut}
use Rattle.std.specs.Fn.{Called}
use Rattle.std.specs.Array.{IsFromFnResult}
use Rattle.lists.specs.Lists.{table}
use Rattle.lists.proofs.Laws.{length-table, table_at}
use Rattle.text_scan.specs.Scanning.{next, scanned}

-- one byte more of a text
pub scan_more : (text : List ℕ) (n : ℕ) → scanned text (n + 1) ≡ next text n (scanned text n)
unfolding scanned
scan_more text n = rw (add-one n)

-- an array made of what a function gives at each number below n
pub table_made : {F : Type 0} (g : Mut F (ℕ × Unit {0}) ℕ) (f : F) (ys : List ℕ) (n : ℕ) (v : ℕ → ℕ) → IsFromFnResult g f ys n
    → ((p : F) (i y : ℕ) (q : F) → Called g p (i, tt) y q → y ≡ v i) → ys ≡ table v n
table_made g f ys n v made gives =
    ext_get_or 0 ys (table v n) (made.long ∙ sym (length-table v n))
    (λ i h. let below : i < n = omega (arith, made.long, h) in let call = made.at i 0 below in gives _ i _ _ call.2 ∙ sym (table_at v n i below))
