-- What is written is read back, and a good file that is read and written is the same bytes, in any format.
use Prim.Native.Nat.{ℕ, zero, suc, ◌+◌, ◌*◌, ◌/◌, ◌%◌, ◌<◌, ◌≤◌}
use mathlib.Core.Path.{◌≡◌, refl, sym, ap, ◌∙◌}
use mathlib.Core.Bool.{true}
use mathlib.Core.List.{List, [], ◌∷◌, ◌++◌}
use lib.ListN.{length, get_or, take, drop, length-append, length-drop, take-append-drop, get_or-append}
use lib.Seq.{get_or-append-add, get_or-take, get_or-drop, length-take-le, take_all, ext_get_or}
use borrow.Author.Tests.{le-ltb, lt-leb, eq-eqb}
use native.Mathlib.Nat.{mul-le-mul_left, mul-div_cancel_left, mul-mod_right}
use native.Mathlib.Omega.{arith}
use Rattle.lists.specs.Lists.{AllBelow, table, over}
use Rattle.lists.proofs.Laws.{length-table, table_at, table_join, table_same, front_over}
use Rattle.study_numbers.specs.Numbers.{number_bytes, number_limit, byte_limit, number_at, numbers_in, packed}
use Rattle.study_numbers.proofs.Laws.{length-packed}
use Rattle.study_numbers.proofs.RoundTrip.{number_past, number_take, number_drop, number_packed, packed_numbers}
use Rattle.answers.specs.declared.Answer.TheVariants.{Accepted}
use Rattle.study_format.specs.declared.Format.{Format}
use Rattle.study_format.specs.Fields.{starts_with}
use Rattle.study_format.specs.Format.{count_place, sites_of, offset_place, block_bytes, block_place, file_bytes}
use Rattle.study_format.specs.Format.{judgement, count_of, site_answer, site_block, site_entries, sites_in, write_answer, offsets, file_of}
use Rattle.study_format.specs.Working.{entries_up_to}
use Rattle.study_format.proofs.Laws.{WellLaidOut, take_of_starts_with, accepted, laid_out, places_fit}
use Rattle.study_writer.proofs.Laws.{whole_sites, writable}

-- bytes begin with what stands at their front

starts_self : (bytes rest : List ℕ) → starts_with (bytes ++ rest) bytes ≡ true
unfolding starts_with
starts_self [] rest = refl
starts_self (byte ∷ bytes) rest = rw (eq-eqb byte byte refl) (starts_self bytes rest)

-- what reading finds in a file that holds these entries
pub record ReadBack (f : Format) (entries bytes : List ℕ) : Type 0 where
  pub good : judgement f bytes ≡ Accepted
  pub count : count_of f bytes ≡ sites_in f entries
  pub site : (j : ℕ) → j < sites_in f entries
      → (site_answer f bytes j ≡ Accepted) × (site_entries f bytes j ≡ take f.entries (drop (f.entries * j) entries))

module _ (f : Format) where
  -- entry i of a site's block stands in the file
  entry_at : (file : List ℕ) (site i : ℕ) → i < f.entries
      → number_at (site_block f file site) (number_bytes * i) ≡ number_at file (block_place f (sites_of file) site + number_bytes * i)
  entry_at file site i h =
      let place = block_place f (sites_of file) site in
      number_take (drop place file) (block_bytes f) (number_bytes * i) (omega arith) ∙ number_drop file place (number_bytes * i)

  -- the numbers of a file of k sites
  abbrev fields : ℕ → List ℕ → List ℕ
  fields k entries = (k ∷ []) ++ offsets f k ++ entries

  module _ (entries : List ℕ) (k : ℕ) where
    length_front : length ((k ∷ []) ++ offsets f k) ≡ 1 + k
    length_front = length-append (k ∷ []) (offsets f k) ∙ simp (length-table (block_place f k) k)

    length_fields : length (fields k entries) ≡ 1 + k + length entries
    length_fields = length-append ((k ∷ []) ++ offsets f k) entries ∙ simp length_front

    field_offset : (j : ℕ) → j < k → get_or (fields k entries) (1 + j) 0 ≡ block_place f k j
    field_offset j h =
        let e : 1 + j ≡ suc j = omega arith in
        rw e (get_or-append (offsets f k) entries 0 j (rw length-table h) ∙ table_at (block_place f k) k j h)

    field_entry : (i : ℕ) → get_or (fields k entries) (1 + k + i) 0 ≡ get_or entries i 0
    field_entry i =
        ap (λ n. get_or (fields k entries) (n + i) 0) (sym length_front)
        ∙ get_or-append-add ((k ∷ []) ++ offsets f k) entries i 0

-- written and read back

module _ (f : Format) where
  pub sites_in_lem : (entries : List ℕ) (k : ℕ) → length entries ≡ f.entries * k → sites_in f entries ≡ k
  sites_in_lem entries k sites = ap (λ n. n / f.entries) sites ∙ mul-div_cancel_left k f.some_entries

  -- the entries of k sites, each a u32
  module _ (entries : List ℕ) (k : ℕ) (sites : length entries ≡ f.entries * k) (few : k ≤ f.most) (fits : AllBelow number_limit entries) where
    file : List ℕ
    file = f.opening ++ packed (fields f k entries)

    number_at_field : (i : ℕ) → i < 1 + k + f.entries * k → get_or (fields f k entries) i 0 < number_limit
        → number_at file (number_bytes + number_bytes * i) ≡ get_or (fields f k entries) i 0
    unfolding file
    number_at_field i h small =
        number_past f.opening (packed (fields f k entries)) number_bytes (number_bytes * i) f.opening_long
        ∙ number_packed (fields f k entries) i (omega (arith, length_fields f entries k)) small

    count_back : sites_of file ≡ k
    count_back = number_at_field 0 (omega arith) (omega (arith, places_fit f k 0 few (omega arith)))

    offset_back : (j : ℕ) → j < k → number_at file (offset_place j) ≡ block_place f k j
    offset_back j h =
        let e : offset_place j ≡ number_bytes + number_bytes * (1 + j) = omega arith in
        let is = field_offset f entries k j h in
        ap (number_at file) e ∙ number_at_field (1 + j) (omega arith) (rw is (places_fit f k j few (omega arith))) ∙ is

    entry_back : (i : ℕ) → i < f.entries * k → number_at file (block_place f k 0 + number_bytes * i) ≡ get_or entries i 0
    entry_back i h =
        let e : block_place f k 0 + number_bytes * i ≡ number_bytes + number_bytes * (1 + k + i) = omega arith in
        let is = field_entry f entries k i in
        ap (number_at file) e ∙ number_at_field (1 + k + i) (omega arith) (rw is (fits i)) ∙ is

    length_file : length file ≡ file_bytes f k
    unfolding file
    length_file =
        length-append f.opening (packed (fields f k entries))
        ∙ omega (arith, f.opening_long, length-packed (fields f k entries), length_fields f entries k)

    file_laid : WellLaidOut f file
    unfolding file
    file_laid =
        record {
          opened = starts_self f.opening (packed (fields f k entries));
          few = rw count_back few;
          offset = λ j h. rw count_back (offset_back j (rw count_back at h));
          size = rw count_back length_file;
        }

    site_back : (j : ℕ) → j < k → site_entries f file j ≡ take f.entries (drop (f.entries * j) entries)
    site_back j h =
        let n = f.entries in
        let past = mul-le-mul_left {m = suc j} {n = k} n h in
        let rest = drop (n * j) entries in
        let l : length (take n rest) ≡ n = length-take-le n rest (simp length-drop (omega arith)) in
        let number : ℕ → ℕ = λ i. number_at (site_block f file j) (number_bytes * i) in
        let m = length-table number n in
        ext_get_or 0 (site_entries f file j) (take n rest) (m ∙ sym l)
        (λ i below.
        let b : i < n = rw m at below in
        let e : block_place f k j + number_bytes * i ≡ block_place f k 0 + number_bytes * (n * j + i) = omega arith in
        table_at number n i b
        ∙ entry_at f file j i b
        ∙ rw (count_back, e, entry_back (n * j + i) (omega arith), get_or-take n rest i 0 b, get_or-drop (n * j) entries i 0)
        )

    file_is : file_of f entries ≡ file
    unfolding file file_of
    file_is = rw (sites_in_lem entries k sites)

    pub file_back : ReadBack f entries (file_of f entries)
    file_back =
        let e = sites_in_lem entries k sites in
        let good = laid_out f file file_laid in
        rw file_is
        (record {
          good = good;
          count = simp (good, count_back, e);
          site = λ j h.
              let below : j < k = rw e at h in
              (simp (good, count_back, lt-leb k j below), site_back j below);
        })

  -- u32s that are written at the front of any area are read back from the file cut out of it
  pub written_read : (entries area : List ℕ) → AllBelow number_limit entries → write_answer f entries (length area) ≡ Accepted
      → ReadBack f entries (take (file_bytes f (sites_in f entries)) (over area 0 (file_of f entries)))
  written_read entries area small e =
      let w = writable f entries (length area) e in
      let k = sites_in f entries in
      let sites = whole_sites f entries w.whole in
      let l : length (file_of f entries) ≡ file_bytes f k =
      ap length (file_is entries k sites w.few small) ∙ length_file entries k sites w.few small in
      rw (front_over area (file_of f entries) (file_bytes f k) l) (file_back entries k sites w.few small)

-- read and written

same_parts : {a a' b b' c c' : List ℕ} → a ≡ a' → b ≡ b' → c ≡ c' → a ++ b ++ c ≡ a' ++ b' ++ c'
same_parts e f g = cc

table_one : (f : ℕ → ℕ) → table f 1 ≡ f 0 ∷ []
unfolding table
table_one f = refl

module _ (f : Format) (bytes : List ℕ) (laid : WellLaidOut f bytes) where
  -- the sites' entries are the numbers from the first block on
  entries_are : (n : ℕ) → entries_up_to f bytes n ≡ numbers_in (drop (block_place f (sites_of bytes) 0) bytes) (f.entries * n)
  unfolding entries_up_to table
  entries_are zero = let e : f.entries * 0 ≡ 0 = omega arith in rw e
  entries_are (suc n) =
      let k = sites_of bytes in
      let size = f.entries in
      let from = block_place f k 0 in
      let number : ℕ → ℕ = λ i. number_at (drop from bytes) (number_bytes * i) in
      let e : size * suc n ≡ size * n + size = omega arith in
      let here : site_entries f bytes n ≡ table (λ i. number (size * n + i)) size =
      table_same (λ i. number_at (site_block f bytes n) (number_bytes * i)) (λ i. number (size * n + i)) size
      (λ i h.
      let at : block_place f k n + number_bytes * i ≡ from + number_bytes * (size * n + i) = omega arith in
      entry_at f bytes n i h ∙ ap (number_at bytes) at ∙ sym (number_drop bytes from (number_bytes * (size * n + i)))
      ) in
      rw (e, entries_are n, here) (sym (table_join number (size * n) size))

  -- the numbers past the opening are those that the writer packs
  fields_are : fields f (sites_of bytes) (entries_up_to f bytes (sites_of bytes))
      ≡ numbers_in (drop count_place bytes) (1 + sites_of bytes + f.entries * sites_of bytes)
  fields_are =
      let k = sites_of bytes in
      let all = f.entries * k in
      let from = block_place f k 0 in
      let number : ℕ → ℕ = λ i. number_at (drop count_place bytes) (number_bytes * i) in
      let moved : (i : ℕ) → number i ≡ number_at bytes (count_place + number_bytes * i) = λ i. number_drop bytes count_place (number_bytes * i) in
      let count : table number 1 ≡ k ∷ [] = table_one number ∙ ap (λ n. n ∷ []) (moved 0) in
      let places : table (λ i. number (1 + i)) k ≡ offsets f k =
      table_same (λ i. number (1 + i)) (block_place f k) k
      (λ i h.
      let at : count_place + number_bytes * (1 + i) ≡ offset_place i = omega arith in
      moved (1 + i) ∙ ap (number_at bytes) at ∙ laid.offset i h
      ) in
      let entries : table (λ i. number (1 + k + i)) all ≡ entries_up_to f bytes k =
      table_same (λ i. number (1 + k + i)) (λ i. number_at (drop from bytes) (number_bytes * i)) all
      (λ i h.
      let at : count_place + number_bytes * (1 + k + i) ≡ from + number_bytes * i = omega arith in
      moved (1 + k + i) ∙ ap (number_at bytes) at ∙ sym (number_drop bytes from (number_bytes * i))
      )
      ∙ sym (entries_are k) in
      sym
      (table_join number (1 + k) all
      ∙ ap (λ l. l ++ table (λ i. number (1 + k + i)) all) (table_join number 1 k)
      ∙ same_parts count places entries
      )

-- a good file of bytes, read and written, is the same bytes
pub read_written : (f : Format) → (bytes : List ℕ) → AllBelow byte_limit bytes → judgement f bytes ≡ Accepted
    → file_of f (entries_up_to f bytes (count_of f bytes)) ≡ bytes
unfolding file_of
read_written f bytes small e =
    let laid = accepted f bytes e in
    let k = sites_of bytes in
    let n = 1 + k + f.entries * k in
    let rest = drop count_place bytes in
    let l : length (entries_up_to f bytes k) ≡ f.entries * k = ap length (entries_are f bytes laid k) ∙ length-table _ (f.entries * k) in
    let long : length rest ≡ number_bytes * n = length-drop count_place bytes ∙ omega (arith, laid.size) in
    let low : AllBelow byte_limit rest = λ i. rw (get_or-drop count_place bytes i 0) (small (count_place + i)) in
    let back = packed_numbers rest n low (omega (arith, long)) ∙ take_all (number_bytes * n) rest (omega (arith, long)) in
    let opened : take count_place bytes ≡ f.opening = rw f.opening_long at (take_of_starts_with bytes f.opening laid.opened) in
    let k_sites = sites_in_lem f (entries_up_to f bytes k) k l in
    simp e (rw (k_sites, fields_are f bytes laid, back) (ap (λ front. front ++ rest) (sym opened) ∙ take-append-drop count_place bytes))

module _ (f : Format) (bytes : List ℕ) (good : judgement f bytes ≡ Accepted) where
  -- the sites' entries of a good file are accepted for writing wherever there is room for it
  pub accepted_again : (room : ℕ) → length bytes ≤ room → write_answer f (entries_up_to f bytes (count_of f bytes)) room ≡ Accepted
  accepted_again room fits =
      let laid = accepted f bytes good in
      let k = sites_of bytes in
      let e = entries_up_to f bytes k in
      let l : length e ≡ f.entries * k = ap length (entries_are f bytes laid k) ∙ length-table _ (f.entries * k) in
      let whole : length e % f.entries ≡ 0 = ap (λ n. n % f.entries) l ∙ mul-mod_right f.entries k in
      let sites = sites_in_lem f e k l in
      rw good
      (simp (eq-eqb (length e % f.entries) 0 whole, sites, le-ltb f.most k laid.few, le-ltb room (file_bytes f k) (omega (arith, laid.size))))
