-- A refusal leaves all as it was; past it the lowest place is free, and the site is put there.
use Rattle.std.specs.Prelude.{Option, Some}
use Rattle.answers.specs.declared.Answer.{Answer}
use Rattle.answers.specs.declared.Answer.TheVariants.{Accepted}
use Rattle.open_rules.specs.Open.{study, may_add, with_site, added, added_place, add_answer}
use Rattle.open_rules.specs.Working.{free_place}
use Rattle.open_rules.proofs.Laws.{Adds, adds, Found, found, add_accepted, add_full}
use mathlib.Core.List.{List}
use Prim.Native.Nat.{ℕ}
use Rattle.entries.proofs.Laws.{accepted_count}
use Rattle.answers.proofs.Laws.{handed_on, kept, renewed}
use mathlib.Core.Path.{◌≡◌, sym, ◌∙◌}
use native.Mathlib.Omega.{arith}
use Rattle.open_study.proofs.add.Goals as goal

pub returns-in_default : goal.returns-in_default
unfolding added added_place add_answer
returns-in_default c =
    let answer = handed_on _ c.judge_add-may.ensures c.in_default.is in
    let refused = sym answer ∙ c.in_default.is in
    record {
      value = answer;
      blocks_after = kept _ _ refused;
      place_after = kept _ _ refused;
    }

pub returns-in_default-lowest_free : goal.returns-in_default-lowest_free
unfolding added added_place
returns-in_default-lowest_free c =
    let may = sym c.judge_add-may.ensures ∙ c.in-Accepted.is in
    let answer = add_full _ _ _ may (sym c.lowest_free.ensures ∙ c.in_default-lowest_free.is) in
    record {
      value = sym answer;
      blocks_after = kept _ _ answer;
      place_after = kept _ _ answer;
    }

-- what was told of an add that was accepted, and of its place
record Place (owners blocks : List ℕ) (office : ℕ) (entries : List ℕ) (place : ℕ) : Type 0 where
  answer : add_answer (study owners blocks) office entries ≡ Accepted
  adds : Adds (study owners blocks) office entries
  found : Found owners place

place_of : {owners blocks entries : List ℕ} {office place : ℕ} {may : Answer} {free : Option ℕ}
    → may ≡ may_add (study owners blocks) office entries → may ≡ Accepted → free ≡ free_place owners → free ≡ Some place
    → Place owners blocks office entries place
place_of told accepted looked some =
    let answer = add_accepted _ _ _ (sym told ∙ accepted) (sym looked ∙ some) in
    record { answer = answer; adds = adds _ _ _ answer; found = found _ (sym looked ∙ some) }

pub bounds-owners-lowest : goal.bounds-owners-lowest
bounds-owners-lowest c = (found c.args.owners.now (sym c.lowest_free.ensures ∙ c.in-Some.is)).there

pub overflow_mul-lowest : goal.overflow_mul-lowest
overflow_mul-lowest c =
    let p = place_of c.judge_add-may.ensures c.in-Accepted.is c.lowest_free.ensures c.in-Some.is in
    omega (arith, p.found.lowest, p.adds.place)

pub put-requires : goal.put-requires
put-requires c =
    let p = place_of c.judge_add-may.ensures c.in-Accepted.is c.lowest_free.ensures c.in-Some.is in
    omega (arith, p.adds.study.blocks, p.found.lowest, p.adds.place, accepted_count _ p.adds.fine)

pub overflow_cast-place : goal.overflow_cast-place
overflow_cast-place c =
    let p = place_of c.judge_add-may.ensures c.in-Accepted.is c.lowest_free.ensures c.in-Some.is in
    omega (arith, p.found.lowest, p.adds.place)

pub returns : goal.returns
unfolding added added_place with_site
returns c =
    let p = place_of c.judge_add-may.ensures c.in-Accepted.is c.lowest_free.ensures c.in-Some.is in
    let place = p.found.lowest in
    record {
      value = c.in-Accepted.is ∙ sym p.answer;
      blocks_after = rw (c.put.ensures, place) (renewed _ _ p.answer);
      place_after = place ∙ renewed _ _ p.answer;
    }
