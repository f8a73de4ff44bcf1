-- Laws of the line and the column past each byte.
use Prim.Native.Nat.{ℕ, ◌+◌}
use mathlib.Core.Path.{◌≡◌}
use mathlib.Core.List.{List}
use lib.ListN.{get_or}
use borrow.Author.Tests.{eq-eqb, ne_eqb}
use native.Mathlib.Numerals.{add-one}
use Rattle.text_names.specs.Names.{line_feed}
use Rattle.text_places.specs.Places.{more, line_at, column_at}

module _ (text : List ℕ) (n : ℕ) where
  pub line_fed : {line : ℕ} → get_or text n 0 ≡ line_feed → line ≡ line_at text n → more line ≡ line_at text (n + 1)
  unfolding line_at
  line_fed is so = rw (add-one n, eq-eqb (get_or text n 0) line_feed is, so)

  pub line_kept : {line : ℕ} → (get_or text n 0 ≡ line_feed → ⊥) → line ≡ line_at text n → line ≡ line_at text (n + 1)
  unfolding line_at
  line_kept not so = rw (add-one n, ne_eqb (get_or text n 0) line_feed not) so

  pub column_fed : get_or text n 0 ≡ line_feed → 1 ≡ column_at text (n + 1)
  unfolding column_at
  column_fed is = rw (add-one n, eq-eqb (get_or text n 0) line_feed is)

  pub column_more : {column : ℕ} → (get_or text n 0 ≡ line_feed → ⊥) → column ≡ column_at text n → more column ≡ column_at text (n + 1)
  unfolding column_at
  column_more not so = rw (add-one n, ne_eqb (get_or text n 0) line_feed not, so)
