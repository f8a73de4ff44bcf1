-- A junction as text. Blanks part the words, `#` begins a comment that ends with its line, and an entry that is not written
-- has its kind's usual value. A byte-order mark at the front is passed over: places in the text are counted past it. So is the
-- text's title, whose bytes are counted.
use Rattle.std.specs.Prelude.{ℕ, zero, suc, ◌+◌, ◌-◌, Bool, false, cond, List, [], ◌∷◌, length, get_or, take, drop, replicate, ltb}
use Rattle.std.specs.Prelude.{Option, None, Some, is_some, Result, Ok, Err}
use Rattle.layout.specs.Entries.{entry_count}
use Rattle.lists.specs.Lists.{table}
use Rattle.kinds.specs.Kinds.{limits_of, kind_at}
use Rattle.text_titles.specs.Blanks.{ends_word, goes_on}
use Rattle.text_titles.specs.Titles.{begins_with, titling_of}
use Rattle.text_titles.specs.declared.Title.{Title}
use Rattle.text_words.specs.Standing.{Standing}
use Rattle.text_words.specs.Words.{stands, wrong, unless, state, taken}
use Rattle.text_words.specs.declared.Mistake.{Mistake}
use Rattle.text_words.specs.declared.State.{State}
use Rattle.text_values.specs.declared.Trouble.TheVariants.{Ends, BadTitle}
use Rattle.text_scan.specs.declared.Scan.{Scan}

-- the bytes of a text between two places
abbrev pub part : List ℕ → ℕ → ℕ → List ℕ
part text from to = take (to - from) (drop from text)

-- what is read so far, and where the word begins that is not taken yet; the next byte, if none has begun
abbrev pub scan : State → ℕ → Bool → Scan
scan state begun is_comment = record { state = state; begun = begun; is_comment = is_comment }

-- the word that ends at a place, if there is one
unfoldable pub word_taken : List ℕ → ℕ → Scan → State
word_taken text n s = cond (ltb s.begun n) (taken s.begun (part text s.begun n) s.state) s.state

-- a byte before the place where a word may begin is a title's, and is passed over
unfoldable pub next : List ℕ → ℕ → Scan → Scan
next text n s =
    cond (ltb n s.begun) s
    (cond s.is_comment (scan s.state (n + 1) (goes_on s.is_comment (get_or text n 0)))
    (cond (ends_word (get_or text n 0)) (scan (word_taken text n s) (n + 1) (goes_on s.is_comment (get_or text n 0))) s))

abbrev pub usually : ℕ → ℕ
usually i = (limits_of (kind_at i)).usual

-- the reader at the start of a text, and the place where its first word may begin: past its title
abbrev pub start_reader : Result (Option Title) ℕ → Result Standing Mistake
start_reader (Ok title) = stands None None
start_reader (Err place) = wrong BadTitle place

abbrev pub start_place : Result (Option Title) ℕ → ℕ
start_place (Ok (Some title)) = title.past
start_place (Ok None) = 0
start_place (Err place) = 0

abbrev pub start : Result (Option Title) ℕ → Scan
start titling = scan (state (start_reader titling) (table usually entry_count) (replicate entry_count None)) (start_place titling) false

-- the first n bytes
unfoldable pub scanned : List ℕ → ℕ → Scan
scanned text zero = start (titling_of text)
scanned text (suc n) = next text n (scanned text n)

-- at the end no value may be due
unfoldable pub ended : ℕ → Result Standing Mistake → Result Standing Mistake
ended size reader = unless reader reader (λ r. cond (is_some r.wanted) (wrong Ends size) reader)

abbrev pub last_taken : List ℕ → State
last_taken text = word_taken text (length text) (scanned text (length text))

unfoldable pub words_parsed : List ℕ → State
words_parsed text = state (ended (length text) (last_taken text).reader) (last_taken text).entries (last_taken text).places

-- a byte-order mark has the three bytes EF BB BF
abbrev pub mark : List ℕ
mark = 239 ∷ 187 ∷ 191 ∷ []

abbrev pub mark_size : List ℕ → ℕ
mark_size text = cond (begins_with text mark) (length mark) 0

-- the text past its mark
abbrev pub unmarked : List ℕ → List ℕ
unmarked text = drop (mark_size text) text

abbrev pub parsed : List ℕ → State
parsed text = words_parsed (unmarked text)
