-- What a word does to a state in which all is well.
use Prim.Native.Nat.{ℕ, ◌+◌, ◌-◌, ◌<◌}
use mathlib.Core.Path.{◌≡◌}
use mathlib.Core.Bool.{true}
use mathlib.Core.List.{List}
use lib.ListN.{get_or, set}
use borrow.Author.Tests.{lt-ltb, le-ltb}
use native.Mathlib.Omega.{arith}
use Rattle.std.specs.Prelude.{Option, None, Some}
use Rattle.kinds.specs.Kinds.{kind_at}
use Rattle.text_values.specs.Values.{value_of}
use Rattle.text_values.specs.declared.Value.TheVariants.{Is}
use Rattle.text_names.specs.Names.{title_count, has_kind, entry_in, row_of}
use Rattle.text_words.specs.Words.{stands, state, taken_value, taken_kind, taken_name, taken}

module _ (place : ℕ) (word : List ℕ) (title : Option ℕ) (entries : List ℕ) (places : List (Option ℕ)) where
  pub title_named : (row : ℕ) → row_of word ≡ Some row → row < title_count
      → taken place word (state (stands title None) entries places) ≡ state (stands (Some row) None) entries places
  unfolding taken taken_name
  title_named row is h = simp (is, lt-ltb row title_count h)

  pub value_set : (entry value : ℕ) → value_of (kind_at entry) word ≡ Is value
      → taken place word (state (stands title (Some entry)) entries places)
      ≡ state (stands title None) (set entries entry value) (set places entry (Some place))
  unfolding taken taken_value
  value_set entry value is = rw is

pub kind_named : (place : ℕ) (word : List ℕ) (title : ℕ) (entries : List ℕ) (places : List (Option ℕ)) (kind entry : ℕ)
    → row_of word ≡ Some (title_count + kind) → has_kind title kind ≡ true → entry_in title kind ≡ entry
    → get_or places entry None ≡ None
    → taken place word (state (stands (Some title) None) entries places) ≡ state (stands (Some title) (Some entry)) entries places
unfolding taken taken_name taken_kind
kind_named place word title entries places kind entry is has e none =
    let row = title_count + kind in
    let same : row - title_count ≡ kind = omega arith in
    simp (is, le-ltb row title_count (omega arith), same, has, e, none)
