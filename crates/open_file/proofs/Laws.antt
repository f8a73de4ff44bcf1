-- Laws of the file of an open study: its length, and its three parts written one after the other.
use Prim.Native.Nat.{ℕ}
use mathlib.Core.Path.{◌≡◌, ◌∙◌, refl}
use mathlib.Core.Bool.{true}
use mathlib.Core.List.{List, ◌++◌}
use lib.Dec.{eqb}
use lib.ListN.{length, length-append}
use borrow.Author.Tests.{eqb-true}
use native.Mathlib.Omega.{arith}
use Rattle.lists.specs.Lists.{over}
use Rattle.lists.proofs.Laws.{length-table, over_then}
use Rattle.lists.proofs.Tests.{both_true}
use Rattle.layout.specs.Open.{place_count, blocks_count}
use Rattle.study_numbers.specs.Numbers.{number_at, packed}
use Rattle.study_numbers.proofs.Laws.{length-packed}
use Rattle.text.specs.Text.{Placed}
use Rattle.open_file.specs.File.{opens, owners_place, blocks_place, open_bytes, is_open, owners_in, blocks_in, open_file}

-- what a file has that is open
pub open_has : (file : List ℕ) → is_open file ≡ true → (length file ≡ open_bytes) × (number_at file 0 ≡ number_at opens 0)
unfolding is_open
open_has file e =
    let both = both_true (eqb (length file) open_bytes) (eqb (number_at file 0) (number_at opens 0)) e in
    (eqb-true _ _ both.0, eqb-true _ _ both.1)

-- what is read of any bytes is as long as it should be

pub length_owners : (file : List ℕ) → length (owners_in file) ≡ place_count
unfolding owners_in
length_owners file = length-table _ place_count

pub length_blocks : (file : List ℕ) → length (blocks_in file) ≡ blocks_count
unfolding blocks_in
length_blocks file = length-table _ blocks_count

module _ (owners blocks : List ℕ) (places : length owners ≡ place_count) (numbers : length blocks ≡ blocks_count) where
  pub length_front : length (opens ++ packed owners) ≡ blocks_place
  length_front = length-append opens (packed owners) ∙ omega (arith, length-packed owners)

  pub length_file : length (open_file owners blocks) ≡ open_bytes
  unfolding open_file
  length_file = length-append (opens ++ packed owners) (packed blocks) ∙ omega (arith, length_front, length-packed blocks)

  -- three runs that meet are the file
  pub written : {out opened owned done : List ℕ} → length out ≡ open_bytes → opened ≡ over out 0 opens → owned ≡ over opened owners_place (packed owners)
      → done ≡ over owned blocks_place (packed blocks)
      → Placed out 0 (open_file owners blocks) done open_bytes
  unfolding open_file
  written {out} room e1 e2 e3 =
      let front = over_then out 0 opens (packed owners) e1 e2 refl (omega (arith, length-packed owners)) in
      record {
        is = over_then out 0 (opens ++ packed owners) (packed blocks) front e3 (omega (arith, length_front)) (omega (arith, length-packed blocks));
        next = omega (arith, length_file);
      }
