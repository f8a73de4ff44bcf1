-- Laws of a site's block within its file, and of a part that is put into what was put before.
use Prim.Native.Nat.{ℕ, ◌+◌, ◌≤◌, ◌<◌}
use mathlib.Core.Path.{◌≡◌, ◌∙◌}
use mathlib.Core.List.{List, ◌++◌, append_assoc}
use lib.ListN.{length, take, drop}
use lib.Seq.{take-append-le, drop-append-le}
use native.Mathlib.Omega.{arith}
use Rattle.answers.specs.declared.Answer.TheVariants.{Accepted}
use Rattle.lists.specs.Lists.{over}
use Rattle.lists.proofs.Laws.{length_over}
use Rattle.study_numbers.specs.Numbers.{packed}
use Rattle.study_numbers.proofs.Laws.{length-packed}
use Rattle.layout.specs.Entries.{entry_count}
use Rattle.text.specs.Text.{Placed}
use Rattle.study_format.specs.Format.{block_place, file_bytes, block_bytes}
use Rattle.study_format.proofs.Laws.{HasSite, has_site, within_largest}
use Rattle.study.specs.Study.{icut, format_of, site_limit, sites_of, site_answer}
use Rattle.study_changed.specs.Changed.{with_entries}

-- a file of today that has a site is at most the largest, and the site's block lies in it
module _ (file : List ℕ) (site : ℕ) (there : site_answer file site ≡ Accepted) (today : format_of file ≡ icut) where
  has : HasSite icut file site
  has = has_site icut file site (rw today at there)

  pub few : sites_of file ≤ site_limit
  few = has.good.few

  pub in_file : site < sites_of file
  in_file = has.there

  pub file_fits : length file ≤ file_bytes icut site_limit
  file_fits = rw has.good.size (within_largest icut (sites_of file) (sites_of file) has.good.few (omega arith))

  pub block_within : block_place icut (sites_of file) site + block_bytes icut ≤ length file
  block_within = has.within

-- a part put into what stands at the front is put there with it
over_inside : (list whole part : List ℕ) (at : ℕ) → at + length part ≤ length whole
    → over (over list 0 whole) at part ≡ over list 0 (over whole at part)
unfolding over
over_inside list whole part at within =
    let rest = drop (0 + length whole) list in
    let long : 0 + length (take at whole ++ part ++ drop (at + length part) whole) ≡ 0 + length whole =
    omega (arith, length_over whole at part within) in
    rw (
      take-append-le at whole rest (omega arith),
      drop-append-le (at + length part) whole rest within,
      long,
      append_assoc (take at whole ++ part) (drop (at + length part) whole) rest,
    )

pub changed_placed : {list one two : List ℕ} {at past : ℕ} (file : List ℕ) (site : ℕ) (entries : List ℕ)
    → site_answer file site ≡ Accepted → format_of file ≡ icut
    → length entries ≡ entry_count
    → Placed list 0 file one past
    → at ≡ block_place icut (sites_of file) site
    → two ≡ over one at (packed entries)
    → Placed list 0 (with_entries file site entries) two past
unfolding with_entries
changed_placed {list} file site entries there today whole placed here is =
    let place = block_place icut (sites_of file) site in
    let within : place + length (packed entries) ≤ length file =
    omega (arith, length-packed entries, block_within file site there today) in
    record {
      is = is ∙ rw (placed.is, here) (over_inside list file (packed entries) place within);
      next = omega (arith, placed.next, length_over file place (packed entries) within);
    }
