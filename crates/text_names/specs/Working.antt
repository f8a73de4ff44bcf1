-- What the calls lean on of a class that was looked up: no public promise says it.
use Rattle.std.specs.Prelude.{◌≡◌, ℕ, ◌+◌, ◌≤◌, ◌<◌}
use Rattle.text_names.specs.declared.Class.{Class}
use Rattle.text_names.specs.Names.{kind_count, class_of, class_at}

pub record OfTitle (title : ℕ) (class : Class) : Type 0 where
  pub is : class ≡ class_of title
  pub from : class.title ≤ title
  pub kinds : class.kind + class.width ≤ kind_count

pub record OfEntry (entry : ℕ) (class : Class) : Type 0 where
  pub is : class ≡ class_at entry
  pub from : class.entry ≤ entry
  pub before : class.title ≤ class.entry
  pub some : 0 < class.width
  pub kinds : class.kind + class.width ≤ kind_count
