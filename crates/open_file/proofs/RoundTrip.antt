-- What is written is an open study and is read back, and an open study that is read and written is the same bytes. Each part of the
-- file is a run of numbers, which study_numbers reads back and packs again.
use Prim.Native.Nat.{ℕ, zero, suc, ◌*◌, ◌+◌, ◌<◌}
use mathlib.Core.Path.{◌≡◌, refl, sym, ap, ◌∙◌}
use mathlib.Core.Bool.{true}
use mathlib.Core.List.{List, [], ◌∷◌, ◌++◌}
use lib.ListN.{length, take, drop, replicate, length-drop, length-replicate, take-append-drop}
use lib.Seq.{get_or-drop, take_at, drop_at, take_all, take-add, ext_get_or}
use borrow.Author.Tests.{eq-eqb}
use native.Mathlib.Omega.{arith}
use Rattle.lists.specs.Lists.{AllBelow, table}
use Rattle.lists.proofs.Laws.{length-table, table_at}
use Rattle.layout.specs.Open.{place_count, blocks_count}
use Rattle.study_numbers.specs.Numbers.{number_bytes, number_limit, byte_limit, number_at, bytes_of, numbers_in, packed}
use Rattle.study_numbers.proofs.Laws.{length-packed}
use Rattle.study_numbers.proofs.RoundTrip.{number_take, number_packed, packed_numbers}
use Rattle.open_file.specs.File.{opens, owners_place, blocks_place, open_bytes, is_open, owners_in, blocks_in, open_file, empty_file}
use Rattle.open_file.proofs.Laws.{open_has, length_front, length_file}

-- numbers whose bytes stand at the front are read from there
numbers_back : (bytes numbers : List ℕ) (n : ℕ) → length numbers ≡ n → AllBelow number_limit numbers → take (number_bytes * n) bytes ≡ packed numbers
    → numbers_in bytes n ≡ numbers
numbers_back bytes numbers n size small front =
    let number : ℕ → ℕ = λ i. number_at bytes (number_bytes * i) in
    let long = length-table number n in
    ext_get_or 0 (numbers_in bytes n) numbers (long ∙ sym size)
    (λ i below.
    let few : i < n = rw long at below in
    table_at number n i few
    ∙ sym (number_take bytes (number_bytes * n) (number_bytes * i) (omega arith))
    ∙ ap (λ l. number_at l (number_bytes * i)) front
    ∙ number_packed numbers i (omega arith) (small i)
    )

-- bytes are an open study where they are so many and begin with its opening
pub opened_is_open : (file : List ℕ) → length file ≡ open_bytes → take number_bytes file ≡ opens → is_open file ≡ true
unfolding is_open
opened_is_open file long front =
    let number = sym (number_take file number_bytes 0 (omega arith)) ∙ ap (λ l. number_at l 0) front in
    rw (eq-eqb _ _ long, eq-eqb _ _ number)

-- written and read back

module _ (owners blocks : List ℕ) (places : length owners ≡ place_count) (numbers : length blocks ≡ blocks_count) where
  pub written_is_open : is_open (open_file owners blocks) ≡ true
  unfolding open_file
  written_is_open = opened_is_open (open_file owners blocks) (length_file owners blocks places numbers) refl

  pub owners_back : AllBelow number_limit owners → owners_in (open_file owners blocks) ≡ owners
  unfolding owners_in open_file
  owners_back small =
      numbers_back (packed owners ++ packed blocks) owners place_count places small
      (take_at (packed owners) (packed blocks) (number_bytes * place_count) (omega (arith, length-packed owners)))

  pub blocks_back : AllBelow number_limit blocks → blocks_in (open_file owners blocks) ≡ blocks
  unfolding blocks_in open_file
  blocks_back small =
      rw (drop_at (opens ++ packed owners) (packed blocks) blocks_place (length_front owners blocks places numbers))
      (numbers_back (packed blocks) blocks blocks_count numbers small
      (take_all (number_bytes * blocks_count) (packed blocks) (omega (arith, length-packed blocks))))

-- read and written

module _ (file : List ℕ) (small : AllBelow byte_limit file) (good : is_open file ≡ true) where
  -- bytes that are an open study begin with the opening
  pub opening : take number_bytes file ≡ opens
  unfolding table packed bytes_of
  opening =
      let has = open_has file good in
      sym (packed_numbers file 1 small (omega arith)) ∙ ap (λ number. packed (number ∷ [])) has.1

  low : (at : ℕ) → AllBelow byte_limit (drop at file)
  low at i = rw (get_or-drop at file i 0) (small (at + i))

  pub read_written : open_file (owners_in file) (blocks_in file) ≡ file
  unfolding owners_in blocks_in open_file
  read_written =
      let long = (open_has file good).0 in
      let rest = drop blocks_place file in
      let size : length rest ≡ number_bytes * blocks_count = length-drop blocks_place file ∙ omega arith in
      let owned = packed_numbers (drop owners_place file) place_count (low owners_place) (simp length-drop (omega arith)) in
      let blocked = packed_numbers rest blocks_count (low blocks_place) (omega arith) ∙ take_all (number_bytes * blocks_count) rest (omega arith) in
      ap (λ front. front ++ packed (owners_in file) ++ packed (blocks_in file)) (sym opening)
      ∙ rw (owned, blocked, ← take-add owners_place (number_bytes * place_count) file) (take-append-drop blocks_place file)

-- in a new study every place is free

zeros : (n : ℕ) → AllBelow number_limit (replicate n 0)
zeros zero i = omega arith
zeros (suc n) zero = omega arith
zeros (suc n) (suc i) = zeros n i

pub empty_is_open : is_open empty_file ≡ true
unfolding empty_file
empty_is_open = written_is_open _ _ (length-replicate {A = ℕ} place_count 0) (length-replicate {A = ℕ} blocks_count 0)

pub empty_owners : owners_in empty_file ≡ replicate place_count 0
unfolding empty_file
empty_owners = owners_back _ _ (length-replicate {A = ℕ} place_count 0) (length-replicate {A = ℕ} blocks_count 0) (zeros place_count)
