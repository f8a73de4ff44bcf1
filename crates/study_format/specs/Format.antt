-- "Study file and listing", of any format: what any bytes are as a study file, what is read of one and what is written.
use Rattle.std.specs.Prelude.{ℕ, ◌+◌, ◌*◌, ◌/◌, ◌%◌, List, [], ◌∷◌, ◌++◌, not, length, take, drop, ltb, leb, eqb}
use Rattle.lists.specs.Lists.{table}
use Rattle.study_numbers.specs.Numbers.{number_bytes, number_at, numbers_in, packed}
use Rattle.answers.specs.Answers.{◌then◌, refuse_if, in_turn, left_by}
use Rattle.answers.specs.declared.Refusal.TheVariants.{Size, File}
use Rattle.answers.specs.declared.Answer.{Answer}
use Rattle.study_format.specs.declared.Format.{Format}
pub use Rattle.study_format.specs.Fields.{count_place, sites_of, offsets_place, offset_place, starts_with, whole, field, room_place, size_answer}

module _ (f : Format) where
  -- "blocks of 81 entries": of 324 bytes in paper 01, of 372 with Request Six, since each entry is a u32
  abbrev pub block_bytes : ℕ
  block_bytes = number_bytes * f.entries

  -- "Offset j is 8+4k+324j", or 372j: the place of block j, past the offsets and the blocks before it
  abbrev pub block_place : ℕ → ℕ → ℕ
  block_place k j = offset_place k + block_bytes * j

  -- "no byte more": the file ends where the last block does
  abbrev pub file_bytes : ℕ → ℕ
  file_bytes k = block_place k k

  -- reading

  -- "opening 0"
  abbrev pub opening_field : List ℕ → Answer
  opening_field file = field file 0 (not (starts_with file f.opening))

  -- "count 4"
  abbrev pub count_field : List ℕ → Answer
  count_field file = field file count_place (ltb f.most (sites_of file))

  -- offset j of k
  abbrev pub offset_field : List ℕ → ℕ → ℕ → Answer
  offset_field file k j = field file (offset_place j) (not (eqb (number_at file (offset_place j)) (block_place k j)))

  -- "offsets in order"
  abbrev pub offset_fields : List ℕ → ℕ → Answer
  offset_fields file k = in_turn (offset_field file k) 0 k

  -- "the file's length if it is short", "or the first byte too many"
  abbrev pub ending : List ℕ → ℕ → Answer
  ending file k =
      refuse_if (ltb (length file) (file_bytes k)) File (length file) then refuse_if (ltb (file_bytes k) (length file)) File (file_bytes k)

  -- any bytes, judged as a study file
  unfoldable pub judgement : List ℕ → Answer
  judgement file = opening_field file then count_field file then offset_fields file (sites_of file) then ending file (sites_of file)

  -- the number of sites, 0 of a refused file
  abbrev pub count_of : List ℕ → ℕ
  count_of file = left_by (judgement file) (sites_of file) 0

  -- "Sites are asked for from 0"; "one that a good file lacks has place 4"
  abbrev pub site_answer : List ℕ → ℕ → Answer
  site_answer file site = judgement file then refuse_if (leb (sites_of file) site) File count_place

  -- "A site's block is handed back as a part of the lent file"
  abbrev pub site_block : List ℕ → ℕ → List ℕ
  site_block file site = take block_bytes (drop (block_place (sites_of file) site) file)

  -- a block's entries, asked for with room for some numbers
  abbrev pub block_answer : List ℕ → ℕ → Answer
  block_answer block room = size_answer block_bytes (length block) then size_answer f.entries room

  abbrev pub block_entries : List ℕ → List ℕ
  block_entries block = numbers_in block f.entries

  -- a site's entries
  abbrev pub site_entries : List ℕ → ℕ → List ℕ
  site_entries file site = block_entries (site_block file site)

  -- writing

  -- the sites whose entries are to be written
  abbrev pub sites_in : List ℕ → ℕ
  sites_in entries = length entries / f.entries

  -- "to write, not a multiple"; "place 0 for more than" the most "sites, then 4 for too little room"
  abbrev pub write_answer : List ℕ → ℕ → Answer
  write_answer entries room =
      refuse_if (not (eqb (length entries % f.entries) 0)) Size 0
      then refuse_if (ltb f.most (sites_in entries)) File 0
      then refuse_if (ltb room (file_bytes (sites_in entries))) File room_place

  -- the offsets of k sites
  abbrev pub offsets : ℕ → List ℕ
  offsets k = table (block_place k) k

  -- "four bytes open the file, then k, then k offsets, then k blocks of entries"
  unfoldable pub file_of : List ℕ → List ℕ
  file_of entries = f.opening ++ packed ((sites_in entries ∷ []) ++ offsets (sites_in entries) ++ entries)
