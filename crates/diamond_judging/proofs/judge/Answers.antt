-- The size first, since the rest is read by its places; then the junctions, then the record's own numbers.
use Rattle.diamond_rules.specs.Record.{judged_record, record_size}
use Rattle.answers.specs.declared.Answer.TheVariants.{Accepted}
use Rattle.answers.proofs.Laws.{handed_on, passed}
use Rattle.layout.specs.Diamond.{record_count}
use borrow.Author.Tests.{eq-eqb, ne_eqb}
use lib.ListN.{length}
use mathlib.Core.List.{List}
use mathlib.Core.Path.{◌≡◌, refl}
use Prim.Native.Nat.{ℕ}
use Rattle.diamond_judging.proofs.judge.Goals as goal

-- a record of just so many numbers
whole : (r : List ℕ) → length r ≡ record_count → Accepted ≡ record_size r
unfolding record_size
whole r long = rw (eq-eqb _ _ long)

pub returns-in_default : goal.returns-in_default
unfolding judged_record record_size
returns-in_default c = rw (ne_eqb _ _ (rw c.in_default.is at c.as_array.ensures.cases))

pub returns-in_default-junctions : goal.returns-in_default-junctions
unfolding judged_record
returns-in_default-junctions c =
    let array = rw c.in-Some.is at c.as_array.ensures.cases in
    let junctions = rw array.same at c.check_junctions-junctions.ensures in
    passed _ (whole c.args.numbers.now array.long) refl (handed_on _ junctions c.in_default-junctions.is)

pub returns : goal.returns
unfolding judged_record
returns c =
    let array = rw c.in-Some.is at c.as_array.ensures.cases in
    let junctions = rw array.same at c.check_junctions-junctions.ensures in
    let own = rw array.same at c.check_own.ensures in
    passed _ (whole c.args.numbers.now array.long) refl (passed _ junctions c.in-Accepted.is own)
