-- The ends of letters that are left: the first of them is passed, or it decides; all are passed, at most.
use mathlib.Core.Path.{◌≡◌, sym, ap, refl}
use mathlib.Core.Bool.{not, cond}
use mathlib.Core.List.{List}
use Prim.Native.Nat.{ℕ, suc, ◌+◌, ◌≤◌, ◌<◌}
use native.Mathlib.Numerals.{add-one}
use native.Mathlib.Omega.{arith}
use lib.Dec.{leb}
use lib.ListN.{length, get_or, drop}
use lib.Seq.{drop-cons}
use borrow.Author.Tests.{le-leb, lt-leb}
use Rattle.std.specs.List.{position_or_len}
use Rattle.std.proofs.lemmas.List.Recursion.{is_position_or_len}
use Rattle.std.proofs.lemmas.List.Sums.{prefix_len-le-length}
use Rattle.procedure.specs.Pairs.{ends_passed}

module _ (ends : List ℕ) (number n : ℕ) (h : n < length ends) where
  pub end_ahead : number ≤ get_or ends n 0 → ends_passed (drop n ends) number ≡ 0
  unfolding ends_passed
  end_ahead k = rw (drop-cons ends n 0 h, le-leb _ _ k)

  pub end_behind : get_or ends n 0 < number → ends_passed (drop n ends) number ≡ suc (ends_passed (drop (n + 1) ends) number)
  unfolding ends_passed
  end_behind k = rw (drop-cons ends n 0 h, lt-leb _ _ k, add-one n)

module _ (ends : List ℕ) (number : ℕ) where
  passed_is : position_or_len (λ end. leb number end) ends ≡ ends_passed ends number
  unfolding ends_passed
  passed_is =
      sym
      (is_position_or_len (λ xs. ends_passed xs number) (λ end. leb number end) refl
      (λ x xs. ap (cond (leb number x) 0) (omega arith)) ends)

  pub passed_few : ends_passed ends number ≤ length ends
  passed_few = rw (← passed_is) (prefix_len-le-length (λ end. not (leb number end)) ends)
