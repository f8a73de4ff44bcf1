-- What is left of a lent list where a site is sought, what is said where it is not found, and how long a sentence is at most: no public promise says it.
use Rattle.std.specs.Prelude.{ℕ, ◌+◌, List, [], Result, Ok, Err}
use Rattle.text.specs.Text.{digit_most}
use Rattle.study.specs.Study.{site_entries}
use Rattle.program_site.specs.declared.NoSite.{NoSite}
use Rattle.program_site.specs.Site.{no_site_text}

-- what a lent list of entries holds afterwards
abbrev pub entries_sought : Result ℕ NoSite → List ℕ → List ℕ → List ℕ
entries_sought (Ok site) file old = site_entries file site
entries_sought (Err why) file old = old

-- what is said of the word or of the file where there is no such site
abbrev pub sought_text : Result ℕ NoSite → List ℕ → List ℕ → List ℕ
sought_text (Ok site) name word = []
sought_text (Err why) name word = no_site_text why name word

-- "the study has ", the number, and " sites" at the end of a line
abbrev pub sites_most : ℕ
sites_most = 14 + digit_most + 7
