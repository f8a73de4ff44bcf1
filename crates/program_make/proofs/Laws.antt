-- Laws of a study that is written whole: whole sites, at most as many as a study holds, always fit.
use Prim.Native.Nat.{ℕ, ◌*◌, ◌%◌, ◌≤◌}
use mathlib.Core.Path.{◌≡◌}
use mathlib.Core.List.{List, [], ◌∷◌, ◌++◌}
use lib.ListN.{length, length-append}
use borrow.Author.Tests.{eq-eqb, le-ltb}
use native.Mathlib.Omega.{arith}
use Rattle.answers.specs.Answers.{left_by}
use Rattle.answers.specs.declared.Answer.TheVariants.{Accepted}
use Rattle.lists.specs.Lists.{over}
use Rattle.lists.proofs.Laws.{length-table}
use Rattle.layout.specs.Entries.{entry_count}
use Rattle.study_numbers.proofs.Laws.{length-packed}
use Rattle.study_format.specs.Format.{block_place, offsets, file_of as file_in}
use Rattle.study.specs.Study.{icut, site_limit, file_bytes, sites_in, write_answer, file_of}
use Rattle.text.specs.Text.{Placed}

module _ (entries : List ℕ) (sites : ℕ) (few : sites ≤ site_limit) (whole : length entries ≡ entry_count * sites) where
  as_many : sites_in entries ≡ sites
  as_many = rw whole (omega arith)

  written : (room : ℕ) → file_bytes site_limit ≤ room → write_answer entries room ≡ Accepted
  written room enough =
      let even : length entries % entry_count ≡ 0 = rw whole (omega arith) in
      simp (
        eq-eqb (length entries % entry_count) 0 even,
        le-ltb site_limit (sites_in entries) (rw as_many few),
        le-ltb room (file_bytes (sites_in entries)) (rw as_many (omega arith)),
      )

  file_long : length (file_of entries) ≡ file_bytes sites
  unfolding file_in
  file_long =
      let k = sites_in entries in
      let numbers = (k ∷ []) ++ offsets icut k ++ entries in
      rw (
        length-append icut.opening _,
        length-packed numbers,
        length-append ((k ∷ []) ++ offsets icut k) entries,
        length-append (k ∷ []) (offsets icut k),
        length-table (block_place icut k) k,
        as_many,
        whole,
      )
      (omega arith)

  pub file_placed : {written' list : List ℕ} {size : ℕ} → file_bytes site_limit ≤ length list
      → written' ≡ left_by (write_answer entries (length list)) (over list 0 (file_of entries)) list
      → size ≡ file_bytes sites
      → Placed list 0 (file_of entries) written' size
  file_placed {list = list} room is long =
      record { is = rw (written (length list) room) at is; next = omega (arith, long, file_long) }
