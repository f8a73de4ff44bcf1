-- The writer's four steps, one after the other, write the file.
use Prim.Native.Nat.{ℕ, ◌*◌, ◌%◌, ◌≤◌}
use mathlib.Core.Path.{◌≡◌, ◌∙◌}
use mathlib.Core.Bool.{not}
use mathlib.Core.List.{List, [], ◌∷◌, ◌++◌, append_assoc}
use lib.Dec.{eqb, ltb}
use borrow.Author.Tests.{eqb-true, ltb-false, not-false}
use lib.ListN.{length, length-append}
use native.Mathlib.Nat.{div-add-mod}
use native.Mathlib.Omega.{arith}
use Rattle.answers.specs.Answers.{◌then◌, refuse_if}
use Rattle.answers.specs.declared.Refusal.TheVariants.{Size, File}
use Rattle.answers.specs.declared.Answer.TheVariants.{Accepted}
use Rattle.answers.proofs.Laws.{both_accepted, not_refused}
use Rattle.lists.specs.Lists.{over}
use Rattle.study_numbers.specs.Numbers.{number_bytes, bytes_of, packed}
use Rattle.lists.proofs.Laws.{length-table, over_then}
use Rattle.study_numbers.proofs.Laws.{length-bytes_of, length-packed, packed-append, packed_one}
use Rattle.study_format.specs.declared.Format.{Format}
use Rattle.study_format.specs.Format.{count_place, room_place, offsets_place, block_place, file_bytes, offsets, sites_in, write_answer, file_of}
use Rattle.study_writer.specs.Working.{Writable}

module _ (f : Format) where
  length-offsets : (k : ℕ) → length (packed (offsets f k)) ≡ number_bytes * k
  length-offsets k = length-packed (offsets f k) ∙ simp (length-table (block_place f k) k)

  file_parts : (entries : List ℕ)
      → file_of f entries ≡ f.opening ++ bytes_of (sites_in f entries) ++ packed (offsets f (sites_in f entries)) ++ packed entries
  unfolding file_of
  file_parts entries =
      let k = sites_in f entries in
      rw (packed-append ((k ∷ []) ++ offsets f k) entries, packed-append (k ∷ []) (offsets f k), packed_one k) (simp append_assoc)

  -- whole sites are as many entries as their blocks have
  pub whole_sites : (entries : List ℕ) → length entries % f.entries ≡ 0 → length entries ≡ f.entries * sites_in f entries
  whole_sites entries sized = omega (arith, div-add-mod (length entries) f.entries)

  -- entries that every check passes can be written
  pub writable : (entries : List ℕ) (room : ℕ) → write_answer f entries room ≡ Accepted → Writable f entries room
  writable entries room e =
      let odd = not (eqb (length entries % f.entries) 0) in
      let many = ltb f.most (sites_in f entries) in
      let short = ltb room (file_bytes f (sites_in f entries)) in
      let first = both_accepted (refuse_if odd Size 0) (refuse_if many File 0 then refuse_if short File room_place) e in
      let second = both_accepted (refuse_if many File 0) (refuse_if short File room_place) first.1 in
      record {
        whole = eqb-true _ _ (not-false _ (not_refused odd Size 0 first.0));
        few = ltb-false _ _ (not_refused many File 0 second.0);
        fits = ltb-false _ _ (not_refused short File room_place second.1);
      }

  module _ (entries out : List ℕ) (sized : length entries % f.entries ≡ 0) (room : file_bytes f (sites_in f entries) ≤ length out) where
    pub written : {opened counted placed done : List ℕ}
        → opened ≡ over out 0 f.opening
        → counted ≡ over opened count_place (bytes_of (sites_in f entries))
        → placed ≡ over counted offsets_place (packed (offsets f (sites_in f entries)))
        → done ≡ over placed (block_place f (sites_in f entries) 0) (packed entries)
        → done ≡ over out 0 (file_of f entries)
    written e1 e2 e3 e4 =
        let k = sites_in f entries in
        let head = f.opening ++ bytes_of k in
        let front = head ++ packed (offsets f k) in
        let lh : length head ≡ offsets_place = length-append f.opening (bytes_of k) ∙ simp (f.opening_long, length-bytes_of) in
        let lf : length front ≡ block_place f k 0 = length-append head (packed (offsets f k)) ∙ simp (lh, length-offsets) (omega arith) in
        let l4 = whole_sites entries sized in
        let s2 = over_then out 0 f.opening (bytes_of k) e1 e2 (omega (arith, f.opening_long)) (omega (arith, length-bytes_of k)) in
        let s3 = over_then out 0 head (packed (offsets f k)) s2 e3 (omega arith) (omega (arith, length-offsets k)) in
        rw (file_parts entries) (over_then out 0 front (packed entries) s3 e4 (omega arith) (omega (arith, length-packed entries)))
