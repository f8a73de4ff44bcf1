-- A junction's text may begin with its title in quotes, before any other word: `title "Elm Street and 3rd Avenue"`.
use Rattle.std.specs.Prelude.{ℕ, ◌+◌, Bool, false, cond, not, ◌&&◌, ◌||◌, List, [], length, get_or, take, drop, eqb, leb, ltb}
use Rattle.std.specs.Prelude.{Option, None, Some, Result, Ok, Err}
use Rattle.std.specs.Str.{bytes_eq}
use Rattle.text.specs.Text.{ascii, first_in}
use Rattle.text_titles.specs.Blanks.{is_blank, lead_size}
use Rattle.text_titles.specs.declared.Title.{Title}

-- the byte of a quote
abbrev pub quote : ℕ
quote = 34

-- the most bytes of a title
abbrev pub title_most : ℕ
title_most = 60

-- the bytes that steer a terminal: those below the space, and 127
abbrev pub steers : ℕ → Bool
steers byte = ltb byte 32 || eqb byte 127

-- a title has no such byte, and no quote within
abbrev pub ends_title : ℕ → Bool
ends_title byte = steers byte || eqb byte quote

-- the byte that ends blanks
abbrev pub ends_gap : ℕ → Bool
ends_gap byte = not (is_blank byte)

-- whether a text begins with some bytes
abbrev pub begins_with : List ℕ → List ℕ → Bool
begins_with text bytes = bytes_eq (take (length bytes) text) bytes

abbrev pub title_bytes : ℕ
title_bytes = 5

module _ (text : List ℕ) where
  -- past what is passed over, past the word `title`, and past the quote that opens the title
  abbrev pub lead : ℕ
  lead = lead_size false text

  abbrev pub rest : List ℕ
  rest = drop title_bytes (drop lead text)

  abbrev pub gap : ℕ
  gap = first_in ends_gap rest

  abbrev pub inner : List ℕ
  inner = drop (gap + 1) rest

  abbrev pub size : ℕ
  size = first_in ends_title inner

abbrev pub is_title_size : ℕ → Bool
is_title_size size = not (eqb size 0) && leb size title_most

-- blanks, a quote, a title's bytes, and a quote
unfoldable pub is_quoted : List ℕ → ℕ → List ℕ → ℕ → Bool
is_quoted rest gap inner size =
    not (eqb gap 0) && (eqb (get_or rest gap 0) quote && (is_title_size size && eqb (get_or inner size 0) quote))

-- the title's place, its bytes, and the place past its quote
abbrev pub titled_at : ℕ → ℕ → ℕ → Title
titled_at lead gap size =
    record { from = lead + title_bytes + gap + 1; size = size; past = lead + title_bytes + gap + 1 + size + 1 }

-- no title; where the title stands; or the place of the word `title` where it is not so written
unfoldable pub titling_of : List ℕ → Result (Option Title) ℕ
titling_of text =
    cond (begins_with (drop (lead text) text) (ascii "title"))
    (cond (is_quoted (rest text) (gap text) (inner text) (size text))
    (Ok (Some (titled_at (lead text) (gap text) (size text))))
    (Err (lead text)))
    (Ok None)

abbrev pub title_by : Result (Option Title) ℕ → List ℕ → List ℕ
title_by (Ok (Some title)) text = take title.size (drop title.from text)
title_by (Ok None) text = []
title_by (Err place) text = []

-- the title's bytes
abbrev pub title_of : List ℕ → List ℕ
title_of text = title_by (titling_of text) text
