-- Laws of the two formats: a file of either is no longer than the longest of today, and which one a file is of.
use Prim.Native.Nat.{ℕ, ◌≤◌}
use mathlib.Core.Path.{◌≡◌, refl, ap, ◌∙◌}
use mathlib.Core.Bool.{Bool, true, false, cond}
use mathlib.Core.List.{List}
use lib.ListN.{length, get_or}
use lib.Dec.{lit≤}
use borrow.Author.Tests.{eq-eqb, ne_eqb}
use native.Mathlib.Omega.{arith}
use Rattle.answers.specs.Answers.{left_by}
use Rattle.answers.specs.declared.Answer.TheVariants.{Accepted}
use Rattle.study_format.specs.declared.Format.{Format}
use Rattle.study_format.specs.Format.{starts_with, block_bytes}
use Rattle.study_format.specs.Format as format
use Rattle.study_format.proofs.Laws.{other_opening, accepted, has_site, length-site_block, within_largest}
use Rattle.lists.proofs.Laws.{length-table}
use Rattle.study_before.specs.Before.{widened}
use Rattle.study_before.proofs.Laws.{length-widened}
use Rattle.study.specs.Study.{site_limit, icut, limit_before, icus, is_old, format_of, file_bytes, sites_of, judgement, site_answer, site_block}
use Rattle.study.specs.Study.{is_before, block_answer, block_entries, site_entries_answer, site_entries}
use Rattle.layout.specs.Entries.{entry_count}

-- what holds of both formats holds of any file's
pub of_either : (P : Format → Type 0) → P icus → P icut → (file : List ℕ) → P (format_of file)
unfolding format_of
of_either P before today file = go (starts_with file icus.opening)
  where
    go : (t : Bool) → P (cond t icus icut)
    go true = before
    go false = today

pub few_sites : (file : List ℕ) → (format_of file).most ≤ limit_before
few_sites = of_either (λ f. f.most ≤ limit_before) (lit≤ tt) (lit≤ tt)

-- a good file has no more sites, and no more bytes, than this
pub sites_few : (file : List ℕ) → judgement file ≡ Accepted → sites_of file ≤ limit_before
sites_few file good = omega (arith, (accepted (format_of file) file good).few, few_sites file)

pub file_fits : (file : List ℕ) → judgement file ≡ Accepted → length file ≤ file_bytes site_limit
file_fits file good =
    let f = format_of file in
    let laid = accepted f file good in
    let largest = of_either (λ f. format.file_bytes f f.most ≤ file_bytes site_limit) (lit≤ tt) (lit≤ tt) file in
    omega (arith, laid.size, within_largest f (sites_of file) (sites_of file) laid.few (omega arith), largest)

-- the block of a site that a file has is of its format's size, and so its entries are given where there is room for them
pub block_sized : (file : List ℕ) (site : ℕ) → site_answer file site ≡ Accepted → length (site_block file site) ≡ block_bytes (format_of file)
block_sized file site there = length-site_block (format_of file) file site (has_site (format_of file) file site there)

pub block_accepted : (file : List ℕ) (site room : ℕ) → site_answer file site ≡ Accepted → room ≡ entry_count
    → block_answer (site_block file site) room ≡ Accepted
unfolding block_answer
block_accepted file site room there sized = of_either (λ f. length (site_block file site) ≡ block_bytes f → block_answer (site_block file site) room ≡ Accepted)
    (λ before. simp (eq-eqb _ _ before, eq-eqb room entry_count sized))
    (λ today.
    let other = ne_eqb (length (site_block file site)) (block_bytes icus) (λ before. omega (arith, today)) in
    simp (other, eq-eqb _ _ today, eq-eqb room entry_count sized))
    file (block_sized file site there)

-- so where there is room they are what is left in lent numbers
pub entries_given : (file : List ℕ) (site room : ℕ) (new old : List ℕ) → site_answer file site ≡ Accepted → room ≡ entry_count
    → left_by (site_entries_answer file site room) new old ≡ new
entries_given file site room new old there sized = simp (eq-eqb room entry_count sized, there)

-- which one a file is of -----------------------------------------------------------------------------------------------

-- what opens as a file of today is one
pub opened_today : (file : List ℕ) → starts_with file icut.opening ≡ true → format_of file ≡ icut
unfolding format_of
opened_today file opened =
    rw (other_opening file icut.opening icus.opening refl (λ same. omega (arith, ap (λ bytes. get_or bytes 3 0) same)) opened)

pub not_old : (file : List ℕ) → is_old file ≡ false → format_of file ≡ icut
unfolding format_of
not_old file other = rw other

-- so a good one of that format is
pub good_today : (file : List ℕ) → format.judgement icut file ≡ Accepted → format_of file ≡ icut
good_today file good = opened_today file (accepted icut file good).opened

-- what its sites' entries are --------------------------------------------------------------------------------------------

pub length-block_entries : (block : List ℕ) → length (block_entries block) ≡ entry_count
unfolding block_entries
length-block_entries block = go (is_before block)
  where
    go : (t : Bool) → length (cond t (widened (format.block_entries icus block)) (format.block_entries icut block)) ≡ entry_count
    go true = length-widened (format.block_entries icus block)
    go false = length-table _ entry_count

pub entries_today : (file : List ℕ) (site : ℕ) → format_of file ≡ icut → site_answer file site ≡ Accepted
    → site_entries file site ≡ format.site_entries icut file site
unfolding block_entries
entries_today file site is there =
    let sized = block_sized file site there ∙ ap block_bytes is in
    rw (ne_eqb (length (site_block file site)) (block_bytes icus) (λ before. omega (arith, sized)), is)

pub site_entries-widened : (file : List ℕ) (site : ℕ) → format_of file ≡ icus → site_answer file site ≡ Accepted
    → site_entries file site ≡ widened (format.site_entries icus file site)
unfolding block_entries
site_entries-widened file site is there =
    let sized = block_sized file site there ∙ ap block_bytes is in
    rw (eq-eqb (length (site_block file site)) (block_bytes icus) sized, is)
