-- A listing that has room for the longest is never refused.
use Prim.Native.Nat.{ℕ, ◌≤◌}
use mathlib.Core.Path.{◌≡◌}
use mathlib.Core.List.{List}
use lib.ListN.{length}
use borrow.Author.Tests.{le-ltb}
use native.Mathlib.Omega.{arith}
use Rattle.answers.specs.Answers.{left_by}
use Rattle.answers.specs.declared.Answer.TheVariants.{Accepted}
use Rattle.lists.specs.Lists.{over}
use Rattle.text.specs.Text.{Placed}
use Rattle.study_listing.specs.Listing.{listing, list_answer}
use Rattle.study_listing.specs.Working.{area_bytes}
use Rattle.study_listing.proofs.Laws.{length-listing}

always : (file : List ℕ) (room : ℕ) → area_bytes ≤ room → list_answer file room ≡ Accepted
always file room enough = simp (le-ltb room (length (listing file)) (omega (arith, length-listing file)))

pub listing_placed : (file : List ℕ) (old : ℕ) {list after : List ℕ} {size : ℕ} → area_bytes ≤ length list
    → after ≡ left_by (list_answer file (length list)) (over list 0 (listing file)) list
    → size ≡ left_by (list_answer file (length list)) (length (listing file)) old
    → Placed list 0 (listing file) after size
listing_placed file old {list} enough is long =
    let accepted = always file (length list) enough in
    record { is = rw accepted at is; next = omega (arith, rw accepted at long) }
