-- Where all sites of a study are asked for, what is given is their pages in order, and nothing else.
use Prim.Native.Nat.{ℕ, ◌<◌}
use mathlib.Core.Path.{◌≡◌, refl}
use mathlib.Core.Bool.{true}
use mathlib.Core.List.{List}
use lib.ListN.{take}
use Rattle.std.specs.Prelude.{Some}
use Rattle.text.specs.Text.{ascii}
use Rattle.text_numbers.specs.Numbers.{number_of, number_in, next_number}
use Rattle.study.specs.Study.{count_of}
use Rattle.program_words.specs.Words.{word_at}
use Rattle.program_wish.specs.Wish.{wish_of}
use Rattle.layout.specs.declared.Worksheet.{Worksheet}
use Rattle.program_outcome.specs.declared.Call.{Call}
use Rattle.program_site.specs.Site.{site_of, site_named, sought}
use Rattle.std.specs.Prelude.{Ok}
use Rattle.program_site.proofs.Laws.{good_file, there}
use Rattle.program_sheet.specs.Run.{asks_all, before_all, sheet_run, pages_of}
use Rattle.program_sheet.specs.Whole.{pages_up_to, sheet_whole}

-- the word `1` names the first site
first_named : site_named (ascii "1") ≡ 0
unfolding site_of number_of number_in next_number ascii
first_named = refl

module _
    (k : Worksheet) (words area : List ℕ) (size : ℕ) (all : asks_all (word_at words 1) ≡ true) (some : 0 < count_of (take size area)) where
  there_first : sought (take size area) (ascii "1") ≡ Ok (site_named (ascii "1"))
  there_first = there (take size area) (ascii "1") (good_file (take size area) 0 some) (rw first_named some)

  abbrev call : Call
  call = record { worksheet = k; arguments = 3; input = Some size }

  pub all_pages : sheet_whole call words area ≡ pages_up_to call words area (count_of (take size area))
  unfolding sheet_run wish_of pages_of before_all
  all_pages = rw (all, there_first)
