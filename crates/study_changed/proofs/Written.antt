-- The changed file is the study file of all sites' entries, those of the site replaced: both are a head and the entries' bytes.
use Prim.Native.Nat.{ℕ, ◌+◌, ◌*◌, ◌≤◌}
use mathlib.Core.Path.{◌≡◌, sym, ap, ◌∙◌}
use mathlib.Core.List.{List, [], ◌∷◌, ◌++◌, append_assoc}
use lib.ListN.{length, take, drop, length-append, take-append-drop}
use lib.Seq.{length-take-le, take_at, drop_at, take-append-add, drop-append-add}
use native.Mathlib.Omega.{arith}
use Rattle.answers.specs.declared.Answer.TheVariants.{Accepted}
use Rattle.answers.proofs.Laws.{both_accepted}
use Rattle.lists.specs.Lists.{AllBelow, over}
use Rattle.lists.proofs.Laws.{length-table, length_over}
use Rattle.layout.specs.Entries.{entry_count}
use Rattle.study_numbers.specs.Numbers.{number_bytes, byte_limit, packed}
use Rattle.study_numbers.proofs.Laws.{length-packed, packed-append}
use Rattle.study_format.specs.Format.{block_place, offsets, file_of as file_in}
use Rattle.study.specs.Study.{icut, format_of, sites_of, judgement, count_of, site_answer, entries_up_to, sites_in, file_of}
use Rattle.study_theorems.proofs.Sites.{length_sites}
use Rattle.study_theorems.proofs.Study.{read_written}
use Rattle.study_changed.specs.Changed.{with_entries}
use Rattle.study_changed.proofs.Laws.{in_file}

-- the bytes of the first numbers, and of those past them
module _ (numbers : List ℕ) (n : ℕ) (within : n ≤ length numbers) where
  parts : packed numbers ≡ packed (take n numbers) ++ packed (drop n numbers)
  parts = ap packed (sym (take-append-drop n numbers)) ∙ packed-append (take n numbers) (drop n numbers)

  first_bytes : length (packed (take n numbers)) ≡ number_bytes * n
  first_bytes = omega (arith, length-packed (take n numbers), length-take-le n numbers within)

  packed-take : take (number_bytes * n) (packed numbers) ≡ packed (take n numbers)
  packed-take = ap (take (number_bytes * n)) parts ∙ take_at (packed (take n numbers)) (packed (drop n numbers)) (number_bytes * n) first_bytes

  packed-drop : drop (number_bytes * n) (packed numbers) ≡ packed (drop n numbers)
  packed-drop = ap (drop (number_bytes * n)) parts ∙ drop_at (packed (take n numbers)) (packed (drop n numbers)) (number_bytes * n) first_bytes

-- numbers put over others are bytes put over theirs
packed-over : (numbers part : List ℕ) (at : ℕ) → at + length part ≤ length numbers
    → packed (over numbers at part) ≡ over (packed numbers) (number_bytes * at) (packed part)
unfolding over
packed-over numbers part at within =
    let past : number_bytes * at + length (packed part) ≡ number_bytes * (at + length part) = omega (arith, length-packed part) in
    rw (
      past,
      packed-take numbers at (omega arith),
      packed-drop numbers (at + length part) within,
      packed-append (take at numbers ++ part) (drop (at + length part) numbers),
      packed-append (take at numbers) part,
    )

-- a part past a head
over_past : (head list part : List ℕ) (at : ℕ) → over (head ++ list) (length head + at) part ≡ head ++ over list at part
unfolding over
over_past head list part at =
    let past : length head + at + length part ≡ length head + (at + length part) = omega arith in
    rw (past, take-append-add head list at, drop-append-add head list (at + length part)) (simp append_assoc)

-- a study file of k sites is a head, which goes by k alone, and the entries' bytes
module _ (k : ℕ) where
  front : List ℕ
  front = (k ∷ []) ++ offsets icut k

  head : List ℕ
  head = icut.opening ++ packed front

  head_bytes : length head ≡ block_place icut k 0
  unfolding head front
  head_bytes =
      let numbers = length-append (k ∷ []) (offsets icut k) in
      let places = length-table (block_place icut k) k in
      omega (arith, length-append icut.opening (packed front), length-packed front, numbers, places)

  file_split : (entries : List ℕ) → length entries ≡ entry_count * k → file_of entries ≡ head ++ packed entries
  unfolding file_in head front
  file_split entries whole =
      let sites : sites_in entries ≡ k = rw whole (omega arith) in
      rw (sites, packed-append front entries) (sym (append_assoc icut.opening (packed front) (packed entries)))

pub changed_study : (file : List ℕ) (site : ℕ) (entries : List ℕ) → AllBelow byte_limit file → site_answer file site ≡ Accepted → format_of file ≡ icut
    → length entries ≡ entry_count
    → with_entries file site entries ≡ file_of (over (entries_up_to file (count_of file)) (entry_count * site) entries)
unfolding with_entries
changed_study file site entries small there today sized =
    let k = sites_of file in
    let good = (both_accepted (judgement file) _ there).0 in
    let count : count_of file ≡ k = rw good in
    let all = entries_up_to file (count_of file) in
    let long : length all ≡ entry_count * k = length_sites file (count_of file) ∙ ap (λ n. entry_count * n) count in
    let at = entry_count * site in
    let within : at + length entries ≤ length all = omega (arith, long, sized, in_file file site there today) in
    let place : block_place icut k site ≡ length (head k) + number_bytes * at = omega (arith, head_bytes k) in
    let is = sym (read_written file good today small) ∙ file_split k all long in
    ap (λ bytes. over bytes (block_place icut k site) (packed entries)) is
    ∙ ap (λ n. over (head k ++ packed all) n (packed entries)) place
    ∙ over_past (head k) (packed all) (packed entries) (number_bytes * at)
    ∙ ap (λ bytes. head k ++ bytes) (sym (packed-over all entries at within))
    ∙ sym (file_split k (over all at entries) (length_over all at entries within ∙ long))
