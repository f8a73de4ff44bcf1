-- What is written is read back: the text of any entries is read as those entries. Each word of the table is found in its own
-- row, each entry's text sets that entry, and so do the texts of all the entries, one after the other.
use Prim.Native.Nat.{ℕ, zero, suc, ◌+◌, ◌-◌, ◌^◌, ◌<◌, ◌≤◌}
use mathlib.Core.Path.{◌≡◌, refl, sym, ap, ◌∙◌}
use mathlib.Core.Bool.{Bool, true, false, cond, not, ◌&&◌, ◌||◌}
use mathlib.Core.List.{List, [], ◌∷◌, ◌++◌, append_assoc}
use lib.ListN.{length, get_or, drop, set, replicate}
use lib.Seq.{get_or-set_other, take-length, ext_get_or}
use lib.Dec.{eqb, ltb}
use borrow.Author.Tests.{eqb-true, ne_eqb, not-true, ltb-true, le-ltb}
use native.Mathlib.Nat.{add-zero, zero-add}
use native.Mathlib.Numerals.{add-one}
use native.Mathlib.Omega.{arith}
use Rattle.std.specs.Prelude.{Option, None, Some, Ok}
use Rattle.std.specs.Option.{option_eq}
use Rattle.layout.specs.declared.Worksheet.{Worksheet}
use Rattle.layout.specs.Entries.{entry_count}
use Rattle.lists.specs.Lists.{AllBelow, table}
use Rattle.lists.proofs.Laws.{length-table, table_at, filled_more, filled_all}
use Rattle.lists.proofs.Tests.{holds_below, both_true, at_each}
use Rattle.answers.specs.declared.Answer.TheVariants.{Accepted}
use Rattle.entries.specs.Judging.{judged_for}
use Rattle.kinds.specs.Kinds.{kind_at}
use Rattle.text.specs.Text.{ascii, joined}
use Rattle.text_numbers.specs.Numbers.{too_large}
use Rattle.text_times.specs.Times.{point}
use Rattle.text_values.specs.Values.{value_text}
use Rattle.text_values.proofs.Laws.{value_read, value_bytes, value_some}
use Rattle.text_names.specs.Names.{space, line_feed, title_count, word_count, word_table, word_in, word_of, agrees, is_word, found_in, row_of, junction}
use Rattle.text_names.specs.Names.{class_at, title_of, kind_of, is_first, is_last}
use Rattle.text_names.proofs.Laws.{in_place}
use Rattle.text_words.specs.Words.{stands, state}
use Rattle.text_words.specs.declared.State.{State}
use Rattle.text_words.proofs.Laws.{title_named, kind_named, value_set}
use Rattle.text_titles.specs.Blanks.{tab, carriage_return, hash, ends_word}
use Rattle.text_titles.specs.Titles.{titling_of}
use Rattle.text_titles.proofs.Laws.{no_title}
use Rattle.text_scan.specs.Scanning.{word_taken, scanned, start, usually, ended, words_parsed, unmarked, parsed}
use Rattle.text_reader.specs.Reader.{text_most, short_reading, reading, kept_unless_read}
use Rattle.text_writer.specs.Writer.{opening, closing, named, entry_text, entry_texts, junction_text}
use Rattle.text_writer.proofs.Laws.{length-entry_texts}
use Rattle.text_theorems.proofs.Reading.{Has, has_first, has_second, Reads, reads_both, Word, Blank, reads_word}

-- each word of the table stands in a row of its own, and is one word of a text

abbrev goes_on : List ℕ → ℕ → Bool
goes_on word i = not (ends_word (get_or word i 0))

abbrev is_one_word : List ℕ → Bool
is_one_word word = ltb 0 (length word) && holds_below (goes_on word) (length word)

is_found : ℕ → Bool
is_found row = option_eq eqb (row_of (word_of row)) (Some row) && is_one_word (word_of row)

each_found : holds_below is_found word_count ≡ true
unfolding is_found word_table ascii joined word_in agrees is_word found_in
each_found = refl

same_row : (found : Option ℕ) (row : ℕ) → option_eq eqb found (Some row) ≡ true → found ≡ Some row
same_row None row same = cc
same_row (Some one) row same = ap Some (eqb-true one row same)

record InTable (row : ℕ) : Type 0 where
  is : row_of (word_of row) ≡ Some row
  word : Word (word_of row)

in_table : (row : ℕ) → row < word_count → InTable row
unfolding is_found
in_table row h =
    let word = word_of row in
    let found = both_true (option_eq eqb (row_of word) (Some row)) (is_one_word word) (at_each is_found word_count each_found row h) in
    let one = both_true (ltb 0 (length word)) (holds_below (goes_on word) (length word)) found.1 in
    record {
      is = same_row (row_of word) row found.0;
      word = record {
        some = ltb-true 0 (length word) one.0;
        plain = λ i l. not-true (ends_word (get_or word i 0)) (at_each (goes_on word) (length word) one.1 i l);
      };
    }

-- a value is one word of a text

plain_byte : (byte : ℕ) → point ≤ byte → ends_word byte ≡ false
plain_byte byte low =
    simp (
      ne_eqb byte space (λ e. omega arith),
      ne_eqb byte tab (λ e. omega arith),
      ne_eqb byte carriage_return (λ e. omega arith),
      ne_eqb byte line_feed (λ e. omega arith),
      ne_eqb byte hash (λ e. omega arith),
    )

Word-value_text : (i value : ℕ) → value < too_large → Word (value_text (kind_at i) value)
Word-value_text i value fits =
    record {
      some = value_some (kind_at i) value fits;
      plain = λ j h. plain_byte (get_or (value_text (kind_at i) value) j 0) (value_bytes (kind_at i) value fits j h);
    }

-- and a space or a new line ends it

space_blank : Blank space
space_blank = record { ends = refl; quiet = refl }

closing_blank : (i : ℕ) → Blank (closing i)
closing_blank i = by (is_last i)
  where
    by : (b : Bool) → Blank (cond b line_feed space)
    by true = record { ends = refl; quiet = refl }
    by false = space_blank

-- an entry's text sets that entry, from a state under its title, or under any if the text names the title

module _ (text : List ℕ) (at i : ℕ) (title : Option ℕ) (entries : List ℕ) (places : List (Option ℕ))
    (h : i < entry_count) (same : is_first i ≡ false → title ≡ Some (title_of i)) where
  abbrev before : State
  before = state (stands title None) entries places

  abbrev titled : State
  titled = state (stands (Some (title_of i)) None) entries places

  reads_opening : Has text at (opening i) → Reads text at (opening i) before titled
  unfolding opening
  reads_opening = by (is_first i) refl
    where
      by : (b : Bool) → is_first i ≡ b → Has text at (cond b (word_of (title_of i) ++ (space ∷ [])) [])
          → Reads text at (cond b (word_of (title_of i) ++ (space ∷ [])) []) before titled
      by true e has =
          let word = word_of (title_of i) in
          let there = (in_place i h).title in
          let row = in_table (title_of i) (omega (arith, there)) in
          rw (title_named at word title entries places (title_of i) row.is there) at
          (reads_word text at word space before has row.word space_blank)
      by false e has = λ r. rw (add-zero at, ← same e) r

  reads_named : get_or places i None ≡ None → Has text at (named i)
      → Reads text at (named i) before (state (stands (Some (title_of i)) (Some i)) entries places)
  unfolding named
  reads_named none whole =
      let word = word_of (title_count + kind_of i) in
      let name = word ++ (space ∷ []) in
      let has = rw (append_assoc (opening i) word (space ∷ [])) at whole in
      let past = at + length (opening i) in
      let under = in_place i h in
      let there : title_count + kind_of i < word_count = omega (arith, under.kind) in
      let row = in_table (title_count + kind_of i) there in
      let takes = kind_named past word (title_of i) entries places (kind_of i) i row.is in
      let is = takes under.has under.entry none in
      let second = has_second text at (opening i) name has in
      rw (append_assoc (opening i) word (space ∷ []))
      (reads_both text at (opening i) name (reads_opening (has_first text at (opening i) name has))
      (rw is at (reads_word text past word space titled second row.word space_blank)))

  reads_entry : (value : ℕ) → value < too_large → get_or places i None ≡ None → Has text at (entry_text i value)
      → Reads text at (entry_text i value) before
      (state (stands (Some (title_of i)) None) (set entries i value) (set places i (Some (at + length (named i)))))
  unfolding entry_text
  reads_entry value fits none whole =
      let word = value_text (kind_at i) value in
      let told = word ++ (closing i ∷ []) in
      let past = at + length (named i) in
      let has = rw (append_assoc (named i) word (closing i ∷ [])) at whole in
      let is = value_set past word (Some (title_of i)) entries places i value (value_read (kind_at i) value fits) in
      let due = state (stands (Some (title_of i)) (Some i)) entries places in
      let second = has_second text at (named i) told has in
      rw (append_assoc (named i) word (closing i ∷ []))
      (reads_both text at (named i) told (reads_named none (has_first text at (named i) told has))
      (rw is at (reads_word text past word (closing i) due second (Word-value_text i value fits) (closing_blank i))))

-- the title that was named last, past the first n entries, is that of the next unless the next is its title's first

abbrev title_after : ℕ → Option ℕ
title_after zero = None
title_after (suc n) = Some (title_of n)

goes_under : ℕ → Bool
goes_under n = is_first n || option_eq eqb (title_after n) (Some (title_of n))

all_go : holds_below goes_under entry_count ≡ true
unfolding goes_under class_at
all_go = refl

same_title : (n : ℕ) → n < entry_count → is_first n ≡ false → title_after n ≡ Some (title_of n)
unfolding goes_under
same_title n h later = same_row (title_after n) (title_of n) (rw later at (at_each goes_under entry_count all_go n h))

-- past the first n entries they are set and the others are not

abbrev value_in : List ℕ → ℕ → ℕ
value_in e i = get_or e i 0

record Reached (e text : List ℕ) (n : ℕ) : Type 0 where
  places : List (Option ℕ)
  reads : Reads text 0 (entry_texts e n) (start (Ok None)).state
      (state (stands (title_after n) None) (table (value_in e) n ++ drop n (table usually entry_count)) places)
  none : (i : ℕ) → n ≤ i → get_or places i None ≡ None

no_places : (n i : ℕ) → ◌≡◌ {A = Option ℕ} (get_or (replicate n None) i None) None
no_places zero i = refl
no_places (suc n) zero = refl
no_places (suc n) (suc i) = no_places n i

module _ (e text : List ℕ) (fits : AllBelow too_large e) where
  one_more : (n : ℕ) → n < entry_count → Has text (0 + length (entry_texts e n)) (entry_text n (value_in e n))
      → Reached e text n → Reached e text (suc n)
  unfolding entry_texts
  one_more n h has r =
      let at = 0 + length (entry_texts e n) in
      let value = value_in e n in
      let usual = table usually entry_count in
      let entries = table (value_in e) n ++ drop n usual in
      let set_one = rw (add-one n) at (filled_more (value_in e) usual n (rw (length-table usually entry_count) h)) in
      let unread = r.none n (omega arith) in
      let entry = reads_entry text at n (title_after n) entries r.places h (same_title n h) value (fits n) unread has in
      record {
        places = set r.places n _;
        reads = reads_both text 0 (entry_texts e n) (entry_text n value) r.reads (rw set_one at entry);
        none = λ i l. get_or-set_other r.places n i _ None (λ q. omega arith) ∙ r.none i (omega arith);
      }

  reached : (n : ℕ) → n ≤ entry_count → Has text 0 (entry_texts e n) → Reached e text n
  unfolding entry_texts table
  reached zero h has =
      record {
        places = replicate entry_count None;
        reads = λ r. r;
        none = λ i l. no_places entry_count i;
      }
  reached (suc n) h has =
      let entry = entry_text n (value_in e n) in
      one_more n (omega arith) (has_second text 0 (entry_texts e n) entry has)
      (reached n (omega arith) (has_first text 0 (entry_texts e n) entry has))

-- what is written begins with the E of the first title, so with no mark and no title in quotes

begins : (first second : List ℕ) (byte : ℕ) → 0 < byte → get_or first 0 0 ≡ byte → get_or (first ++ second) 0 0 ≡ byte
begins [] second byte some is = absurd (omega (arith, some, is))
begins (x ∷ first) second byte some is = is

abbrev letter_e : ℕ
letter_e = 69

text_begins : (e : List ℕ) (n : ℕ) → get_or (entry_texts e (suc n)) 0 0 ≡ letter_e
unfolding entry_texts entry_text named opening word_table ascii joined word_in class_at
text_begins e zero =
    let value = value_text (kind_at 0) (value_in e 0) in
    begins (named 0 ++ value) (closing 0 ∷ []) letter_e (omega arith) (begins (named 0) value letter_e (omega arith) refl)
text_begins e (suc n) =
    begins (entry_texts e (suc n)) (entry_text (suc n) (value_in e (suc n))) letter_e (omega arith) (text_begins e n)

no_mark : (text : List ℕ) → get_or text 0 0 ≡ letter_e → unmarked text ≡ text
no_mark [] is = absurd (omega (arith, is))
no_mark (x ∷ text) is = rw is

not_titled : (text : List ℕ) → get_or text 0 0 ≡ letter_e → titling_of text ≡ Ok None
not_titled text is = no_title text (rw is refl) (rw is refl)

-- as many numbers of 32 bits as there are entries, written and read

module _ (e : List ℕ) (size : length e ≡ entry_count) (fits : AllBelow (2 ^ 32) e) where
  all_reached : Reached e (junction_text e) entry_count
  all_reached = reached e (junction_text e) fits entry_count (omega arith) (take-length (junction_text e))

  all_set : table (value_in e) entry_count ++ drop entry_count (table usually entry_count) ≡ e
  all_set =
      let value = value_in e in
      let l = length-table value entry_count in
      rw (length-table usually entry_count) at (filled_all value (table usually entry_count))
      ∙ ext_get_or 0 (table value entry_count) e (l ∙ sym size) (λ i h. table_at value entry_count i (omega arith))

  parsed_back : parsed (junction_text e) ≡ state (stands (Some junction.title) None) e all_reached.places
  unfolding words_parsed ended word_taken scanned class_at
  parsed_back =
      let end = length (junction_text e) in
      rw (
        no_mark (junction_text e) (text_begins e (entry_count - 1)),
        rw (zero-add, all_set) at (all_reached.reads (rw (not_titled (junction_text e) (text_begins e (entry_count - 1))) refl)),
        le-ltb end end (omega arith),
      )

  -- what is read is what was written
  pub entries_back : (parsed (junction_text e)).entries ≡ e
  entries_back = rw parsed_back

  -- nothing is wrong with the text: at its end the reader stands under the last title, and waits for no value
  pub reads_well : (parsed (junction_text e)).reader ≡ stands (Some junction.title) None
  reads_well = rw parsed_back

  -- so the text of entries that are acceptable for a sheet of a kind is read for that kind, and leaves them
  pub read_back : (k : Worksheet) → judged_for k e ≡ Accepted → reading k (junction_text e) ≡ Ok tt
  unfolding reading short_reading
  read_back k good = rw (le-ltb text_most (length (junction_text e)) (omega (arith, length-entry_texts e entry_count)), parsed_back, good)

  pub left_back : (k : Worksheet) (old : List ℕ) → judged_for k e ≡ Accepted
      → kept_unless_read (reading k (junction_text e)) (parsed (junction_text e)).entries old ≡ e
  left_back k old good = rw (read_back k good, entries_back)
