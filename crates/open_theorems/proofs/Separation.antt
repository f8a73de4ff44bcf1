-- What an office may learn over any run: two runs in which it makes the same calls, from studies that are alike to it, tell it the
-- same and end in studies that are alike to it, if the same was revealed to it. The other run is followed to the office's next call.
use mathlib.Core.Path.{◌≡◌, refl, sym, ◌∙◌}
use mathlib.Core.Bool.{Bool, true, false, cond, ◌&&◌}
use mathlib.Core.List.{List, [], ◌∷◌}
use Prim.Native.Nat.{ℕ}
use native.Mathlib.Omega.{arith}
use borrow.Author.Tests.{eqb-true, eqb-false}
use Rattle.open_rules.specs.Open.{Study, lowest_free}
use Rattle.open_theorems.specs.Calls.{Call, caller, is_add, is_of, next, output, own, revealed}
use Rattle.open_theorems.specs.Working.{after, outputs}
use Rattle.open_theorems.specs.Separation.{Alike}
use Rattle.open_theorems.proofs.Respect.{alike_same, alike_then, alike_back, respects}
use Rattle.open_theorems.proofs.Unwinding.{told_same, steps_same}

-- what is revealed by one call of the office's own, before what is revealed later
abbrev reveals : Study → Call → List ℕ → List ℕ
reveals S c later = cond (is_add c) (lowest_free S.owners ∷ later) later

true_not_false : true ≡ false → ⊥
true_not_false same = let z : ◌≡◌ {A = ℕ} 0 1 = cc in omega arith

module _ (o : ℕ) where
  -- a run in which the office calls nothing more
  record Silent (run : List Call) (S : Study) : Type 0 where
    tells : outputs o run S ≡ []
    shows : revealed o run S ≡ []
    leaves : Alike o S (after run S)

  silent : (run : List Call) (S : Study) → own o run ≡ [] → Silent run S
  unfolding own outputs revealed after
  silent [] S none = record { tells = refl; shows = refl; leaves = alike_same o S }
  silent (c ∷ run) S none = by (is_of o c) refl none (silent run (next S c))
    where
      by : (t : Bool) → is_of o c ≡ t → cond t (c ∷ own o run) (own o run) ≡ [] → (own o run ≡ [] → Silent run (next S c)) → Silent (c ∷ run) S
      by true mine none later = absurd (let z : ◌≡◌ {A = ℕ} 0 1 = cc in omega arith)
      by false other none later =
          let rest = later none in
          record {
            tells = rw other rest.tells;
            shows = rw other rest.shows;
            leaves = alike_then (respects o S c (eqb-false (caller c) o other)) rest.leaves;
          }

  -- so whatever others call, the study is to the office what it was
  pub undisturbed : (run : List Call) (S : Study) → own o run ≡ [] → Alike o S (after run S)
  undisturbed run S none = (silent run S none).leaves

  -- a run in which its next call is c: T₁ is the study then, and run₁ what follows
  record Calls (c : Call) (later : List Call) (run : List Call) (S : Study) : Type 0 where
    then_study : Study
    then_run : List Call
    so_far : Alike o S then_study
    same : own o then_run ≡ later
    mine : caller c ≡ o
    tells : outputs o run S ≡ output then_study c ∷ outputs o then_run (next then_study c)
    shows : revealed o run S ≡ reveals then_study c (revealed o then_run (next then_study c))
    leaves : after run S ≡ after then_run (next then_study c)

  calls : (c : Call) (later run : List Call) (S : Study) → own o run ≡ c ∷ later → Calls c later run S
  unfolding own outputs revealed after
  calls c later [] S some = absurd (let z : ◌≡◌ {A = ℕ} 0 1 = cc in omega arith)
  calls c later (d ∷ run) S some = by (is_of o d) refl some (calls c later run (next S d))
    where
      by : (t : Bool) → is_of o d ≡ t → cond t (d ∷ own o run) (own o run) ≡ c ∷ later → (own o run ≡ c ∷ later → Calls c later run (next S d))
          → Calls c later (d ∷ run) S
      by true mine some rest =
          let this : d ≡ c = cc in
          let others : own o run ≡ later = cc in
          rw (sym this, sym others)
          record {
            then_study = S;
            then_run = run;
            so_far = alike_same o S;
            same = refl;
            mine = eqb-true (caller d) o mine;
            tells = rw mine;
            shows = rw mine;
            leaves = refl;
          }
      by false other some rest =
          let found = rest some in
          record {
            then_study = found.then_study;
            then_run = found.then_run;
            so_far = alike_then (respects o S d (eqb-false (caller d) o other)) found.so_far;
            same = found.same;
            mine = found.mine;
            tells = rw other found.tells;
            shows = rw other found.shows;
            leaves = found.leaves;
          }

  -- where the same is revealed by a call and later, it is the lowest free place, if the call is an add, and the same later
  record Revealed (S T : Study) (c : Call) (one other : List ℕ) : Type 0 where
    lowest : is_add c ≡ true → lowest_free S.owners ≡ lowest_free T.owners
    later : one ≡ other

  shown : (S T : Study) (c : Call) (one other : List ℕ) → reveals S c one ≡ reveals T c other → Revealed S T c one other
  shown S T c one other = by (is_add c) refl
    where
      by : (t : Bool) → is_add c ≡ t → cond t (lowest_free S.owners ∷ one) one ≡ cond t (lowest_free T.owners ∷ other) other → Revealed S T c one other
      by true adds same = record { lowest = λ _. cc; later = cc }
      by false not_adds same =
          record { lowest = λ adds. absurd (let z : true ≡ false = sym adds ∙ not_adds in true_not_false z); later = same }

  -- the office is told the same, and the studies afterwards are alike to it
  pub record Agree (run run' : List Call) (S T : Study) : Type 0 where
    pub tells : outputs o run S ≡ outputs o run' T
    pub leaves : Alike o (after run S) (after run' T)

  pub separation :
      (run run' : List Call) {S T : Study} → Alike o S T → own o run ≡ own o run' → revealed o run S ≡ revealed o run' T → Agree run run' S T
  unfolding own outputs revealed after
  separation [] run' {S} {T} alike calls_same Shows_same =
      let quiet = silent run' T (sym calls_same) in
      record { tells = sym quiet.tells; leaves = alike_then alike quiet.leaves }
  separation (c ∷ run) run' {S} {T} alike calls_same Shows_same =
      by (is_of o c) refl calls_same Shows_same (λ run₁ P Q near same shows. separation run run₁ {S = P} {T = Q} near same shows)
    where
      by : (t : Bool) → is_of o c ≡ t → cond t (c ∷ own o run) (own o run) ≡ own o run'
          → cond (t && is_add c) (lowest_free S.owners ∷ revealed o run (next S c)) (revealed o run (next S c)) ≡ revealed o run' T
          → ((run₁ : List Call) (P Q : Study) → Alike o P Q → own o run ≡ own o run₁ → revealed o run P ≡ revealed o run₁ Q → Agree run run₁ P Q)
          → Agree (c ∷ run) run' S T
      by true mine calls_same Shows_same later =
          let there = calls c (own o run) run' T (sym calls_same) in
          let P = there.then_study in
          let near = alike_then alike there.so_far in
          let told = shown S P c _ _ (Shows_same ∙ there.shows) in
          let rest = later there.then_run (next S c) (next P c) (steps_same near c there.mine told.lowest) (sym there.same) told.later in
          record {
            tells = rw (mine, there.tells, told_same near c there.mine told.lowest, rest.tells);
            leaves = rw there.leaves rest.leaves;
          }
      by false other calls_same Shows_same later =
          let back = alike_back (respects o S c (eqb-false (caller c) o other)) in
          let rest = later run' (next S c) T (alike_then back alike) calls_same Shows_same in
          record { tells = rw other rest.tells; leaves = rest.leaves }
