-- The site of a study file that an argument names: its entries, or what is said where there is none.
use Rattle.std.specs.Prelude.{ℕ, ◌-◌, cond, List, [], ◌++◌, eqb, leb, Result, Ok, Err}
use Rattle.answers.specs.declared.Answer.{Answer}
use Rattle.answers.specs.declared.Answer.TheVariants.{Accepted, Refused as No}
use Rattle.text.specs.Text.{ascii}
use Rattle.text_phrases.specs.Phrases.{numbered}
use Rattle.text_numbers.specs.Numbers.{too_large, number_of}
use Rattle.text_refusals.specs.Refusals.{refusal_text}
use Rattle.study.specs.Study.{sites_of, judgement}
use Rattle.program_outcome.specs.Outcome.{Outcome, saying, named}
use Rattle.program_site.specs.declared.NoSite.{NoSite}
use Rattle.program_site.specs.declared.NoSite.TheVariants.{Missing, Bad}

-- past any site of a study: the largest number of 32 bits
abbrev pub no_site : ℕ
no_site = too_large - 1

-- "Sites are asked for from 0"; the engineers count them from 1
unfoldable pub site_of : ℕ → ℕ
site_of number = cond (eqb number 0) no_site (cond (leb too_large number) no_site (number - 1))

abbrev pub site_named : List ℕ → ℕ
site_named word = site_of (number_of word)

-- the file is judged first, then whether it has the site
abbrev pub sought_by : Answer → ℕ → ℕ → Result ℕ NoSite
sought_by Accepted sites site = cond (leb sites site) (Err (Missing sites)) (Ok site)
sought_by (No why place) sites site = Err (Bad why place)

unfoldable pub sought : List ℕ → List ℕ → Result ℕ NoSite
sought file word = sought_by (judgement file) (sites_of file) (site_named word)

-- "the study has 3 sites"
unfoldable pub sites_text : ℕ → List ℕ
sites_text sites = numbered (ascii "the study has ") sites ++ cond (eqb sites 1) (ascii " site\n") (ascii " sites\n")

-- what is said: of the word, where the study has no such site; of the file of that name, where it is no study
abbrev pub no_site_text : NoSite → List ℕ → List ℕ → List ℕ
no_site_text (Missing sites) name word = named word (sites_text sites)
no_site_text (Bad why place) name word = named name (refusal_text why place)

-- what is done with the site, where the file has it
abbrev pub with_site : Result ℕ NoSite → List ℕ → List ℕ → (ℕ → Outcome) → Outcome
with_site (Ok site) name word run = run site
with_site (Err why) name word run = saying (no_site_text why name word)
