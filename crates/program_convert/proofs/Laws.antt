-- Laws of a file's sites, read one after the other into a list of entries, and of what is given of a good file.
use Prim.Native.Nat.{ℕ, ◌+◌, ◌*◌, ◌≤◌, ◌<◌}
use mathlib.Core.Path.{◌≡◌, sym, ap, ◌∙◌}
use mathlib.Core.List.{List}
use lib.ListN.{length, take}
use borrow.Author.Tests.{lt-ltb, le-ltb}
use native.Mathlib.Numerals.{add-one}
use native.Mathlib.Omega.{arith}
use Rattle.answers.specs.declared.Answer.TheVariants.{Accepted}
use Rattle.layout.specs.Entries.{entry_count}
use Rattle.lists.specs.Lists.{over}
use Rattle.lists.proofs.Laws.{over_nothing, over_then, front_over}
use Rattle.study.specs.Study.{site_limit, judgement, count_of, site_block, site_entries, entries_up_to, converted}
use Rattle.study.proofs.Laws.{length-block_entries}
use Rattle.study_theorems.proofs.Sites.{length_sites}
use Rattle.program_outcome.specs.Outcome.{writing, saying, named}
use Rattle.program_convert.specs.Run.{many_text, convert_by, convert_of}

pub no_sites : (file list : List ℕ) → list ≡ over list 0 (entries_up_to file 0)
unfolding entries_up_to
no_sites file list = sym (over_nothing list 0)

pub one_site_more : {one two : List ℕ} (file list : List ℕ) (site : ℕ) → site < site_limit → length list ≡ entry_count * site_limit
    → one ≡ over list 0 (entries_up_to file site)
    → two ≡ over one (entry_count * site) (site_entries file site)
    → two ≡ over list 0 (entries_up_to file (site + 1))
unfolding entries_up_to
one_site_more file list site few long before now =
    rw (add-one site)
    (over_then list 0 (entries_up_to file site) (site_entries file site) before now (omega (arith, length_sites file site))
    (omega (arith, long, length-block_entries (site_block file site))))

-- the first of them are those entries
pub front_sites : (file list : List ℕ) (k : ℕ) → take (entry_count * k) (over list 0 (entries_up_to file k)) ≡ entries_up_to file k
front_sites file list k = front_over list (entries_up_to file k) (entry_count * k) (length_sites file k)

-- a good file with too many sites, and one that is written
module _ (name file : List ℕ) (good : judgement file ≡ Accepted) where
  pub many_said : site_limit < count_of file → convert_of name file ≡ saying (named name many_text)
  unfolding convert_of
  many_said many = ap (λ a. convert_by a name file) good ∙ rw (lt-ltb site_limit (count_of file) many)

  pub few_written : count_of file ≤ site_limit → convert_of name file ≡ writing (converted file)
  unfolding convert_of
  few_written few = ap (λ a. convert_by a name file) good ∙ rw (le-ltb site_limit (count_of file) few)
