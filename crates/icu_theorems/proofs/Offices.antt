-- Request Three of what the calls allow, from the theorems of the definitions: each call leaves `next` and tells `output`.
use mathlib.Core.Path.{◌≡◌, refl, sym, ap, ◌∙◌}
use mathlib.Core.Logic.{◌≢◌}
use mathlib.Core.Bool.{Bool, true, false, cond}
use mathlib.Core.List.{List, [], ◌∷◌, map}
use Prim.Native.Nat.{ℕ, ◌<◌}
use native.Mathlib.Omega.{arith}
use lib.ListN.{length, get_or}
use Rattle.answers.specs.Answers.{left_by, refusal_number}
use Rattle.answers.specs.declared.Refusal.TheVariants.{Owner, Full}
use Rattle.answers.specs.declared.Answer.TheVariants.{Accepted, Refused}
use Rattle.answers.proofs.Laws.{renewed}
use Rattle.layout.specs.Sheet.{sheet_count}
use Rattle.entries.specs.Judging.{judged}
use Rattle.procedure.specs.Sheet.{sheet}
use Rattle.layout.specs.declared.Worksheet.TheVariants.{Junction}
use Rattle.sheet_cells.specs.Cells.{sheet_answer}
use Rattle.amend_sets.specs.Amend.{entry_answer, entries_by, amended_by}
use Rattle.amend_sets.proofs.Runs.{run_is_fresh}
use Rattle.open_rules.specs.Open.{Study, study, free, owns, study_size, lowest_free, may_add, add_answer, with_site, added, added_place}
use Rattle.open_rules.specs.Open.{with_entry, amend_site_answer, amended_blocks, read_answer, read_sheet, block_at}
use Rattle.open_rules.proofs.Laws.{adds, whole, read_judged, get_or-lowest_free, lower_taken, not_own_refused}
use Rattle.open_theorems.specs.Calls.{Call, Add, Amend, Read, Output, is_of, next, output, own, revealed, changes_of}
use Rattle.open_theorems.specs.Working.{after, outputs}
use Rattle.open_theorems.specs.Separation.{Alike}
use Rattle.open_theorems.proofs.Unwinding.{told_same}
use Rattle.open_theorems.proofs.Separation.{separation, undisturbed}
use Rattle.open_theorems.proofs.Sites.{Site, site_kept, still_fine, added_site, read_of_site}
use Rattle.open_theorems.proofs.Places as places
use Rattle.icu.specs.declared.IcuAnswer.{IcuAnswer}
use Rattle.icu.specs.Told.{told}
use Rattle.icu.specs.Calls.{OpenAddAllows, OpenAmendAllows, OpenReadAllows}
use Rattle.icu_theorems.specs.Outcomes.{Yes, No}
use Rattle.icu_theorems.specs.Offices.{OpenAllows, Heard, OpenRun}
use Rattle.icu_theorems.proofs.Told.{told_yes, told_no}

-- refused

pub refused_add :
    {said : IcuAnswer} {left : Study} {place : ℕ} (S : Study) (office : ℕ) (e : List ℕ) (before : ℕ)
    → OpenAddAllows S office e before said left place → No said → (left ≡ S) × (place ≡ before)
unfolding added added_place
refused_add S office e before allowed refused =
    let answer = add_answer S office e in
    let is = allowed.0.0 in (
      told_no answer (with_site S (lowest_free S.owners) office e) S is allowed.0.1 refused,
      told_no answer (lowest_free S.owners) before is allowed.1 refused,
    )

pub refused_open_amend :
    {said : IcuAnswer} {left : List ℕ} (S : Study) (office s i v : ℕ) → OpenAmendAllows S office s i v said left → No said → left ≡ S.blocks
unfolding amended_blocks
refused_open_amend S office s i v allowed =
    told_no (amend_site_answer S office s i v) (with_entry S.blocks s i v) S.blocks allowed.0 allowed.1

pub refused_read : {said : IcuAnswer} {left : List ℕ} (S : Study) (office s : ℕ) (d : List ℕ) → OpenReadAllows S office s d said left → No said → left ≡ d
unfolding read_sheet
refused_read S office s d allowed = told_no (read_answer S office s d) (sheet (block_at S.blocks s)) d allowed.0 allowed.1

-- one call, and a run of calls

alone : (lent : List ℕ) {n : ℕ} → length lent ≡ 1 → get_or lent 0 0 ≡ n → lent ≡ n ∷ []
alone [] long is = absurd (omega arith)
alone (x ∷ []) long is = ap (λ k. k ∷ []) is
alone (x ∷ y ∷ rest) long is = absurd (omega arith)

as_study : (left : Study) {owners blocks : List ℕ} → left.owners ≡ owners → left.blocks ≡ blocks → left ≡ study owners blocks
as_study left one two = rw (sym one, sym two)

pub record Does (S : Study) (c : Call) (said : IcuAnswer) (left : Study) (lent : List ℕ) : Type 0 where
  pub answers : said ≡ told (output S c).answer
  pub leaves : left ≡ next S c
  pub fills : lent ≡ (output S c).lent

pub does : (S : Study) (c : Call) {said : IcuAnswer} {left : Study} {lent : List ℕ} → OpenAllows S c said left lent → Does S c said left lent
does S (Add office e before) {lent = lent} allowed =
    record { answers = allowed.0.0.0; leaves = allowed.0.0.1; fills = alone lent allowed.1 allowed.0.1 }
does S (Amend office s i v) {left = left} allowed =
    record { answers = allowed.0.0; leaves = as_study left allowed.1 allowed.0.1; fills = allowed.2 }
does S (Read office s d) allowed = record { answers = allowed.0.0; leaves = allowed.1; fills = allowed.0.1 }

abbrev hear : Output → Heard
hear x = record { said = told x.answer; lent = x.lent }

record Ran (o : ℕ) (run : List Call) (S end : Study) (heard : List Heard) : Type 0 where
  ends : end ≡ after run S
  hears : heard ≡ map hear (outputs o run S)

ran : (o : ℕ) (run : List Call) (S : Study) {end : Study} {heard : List Heard} → OpenRun o run S end heard → Ran o run S end heard
unfolding OpenRun after outputs
ran o [] S done = record { ends = done.0; hears = done.1 }
ran o (c ∷ run) S {end} {heard} step =
    let did = does S c step.allowed in
    let rest = ran o run step.left step.goes_on in
    record {
      ends = rest.ends ∙ ap (after run) did.leaves;
      hears = step.hears ∙ by (is_of o c) (rest.hears ∙ ap (λ P. map hear (outputs o run P)) did.leaves) did.answers did.fills;
    }
  where
    by : (t : Bool) {said : IcuAnswer} {lent : List ℕ} {later : List Heard} → later ≡ map hear (outputs o run (next S c))
        → said ≡ told (output S c).answer → lent ≡ (output S c).lent
        → cond t (record { said = said; lent = lent } ∷ later) later
        ≡ map hear (cond t (output S c ∷ outputs o run (next S c)) (outputs o run (next S c)))
    by true later one two = rw (later, one, two)
    by false later one two = later

-- T1: what others call changes nothing of an office's own, nor what it reads of it
pub undisturbed_run :
    (o : ℕ) (run : List Call) (S end : Study) (heard : List Heard) → OpenRun o run S end heard → own o run ≡ [] → Alike o S end
undisturbed_run o run S end heard steps none = rw (ran o run S steps).ends (undisturbed o run S none)

pub reads_alike :
    (o s : ℕ) (d : List ℕ) {S T : Study} {one other : IcuAnswer} {left right : List ℕ}
    → Alike o S T → OpenReadAllows S o s d one left → OpenReadAllows T o s d other right → (one ≡ other) × (left ≡ right)
reads_alike o s d alike p q =
    let same = told_same alike (Read o s d) refl (λ adds. absurd (let z : ◌≡◌ {A = ℕ} 0 1 = cc in omega arith)) in
    (p.0 ∙ ap (λ x. told x.answer) same ∙ sym q.0, p.1 ∙ ap (λ x. x.lent) same ∙ sym q.1)

-- T2: what an office may learn
pub learns :
    (o : ℕ) (run run' : List Call) (S T : Study) {end end' : Study} {heard heard' : List Heard}
    → OpenRun o run S end heard → OpenRun o run' T end' heard' → Alike o S T → own o run ≡ own o run' → revealed o run S ≡ revealed o run' T
    → (heard ≡ heard') × Alike o end end'
learns o run run' S T steps steps' alike calls shows =
    let one = ran o run S steps in
    let two = ran o run' T steps' in
    let same = separation o run run' alike calls shows in
    (one.hears ∙ ap (map hear) same.tells ∙ sym two.hears, rw (one.ends, two.ends) same.leaves)

-- OWNER is one answer, whatever stands there
not_own_site : (S : Study) (o s : ℕ) → study_size S ≡ Accepted → owns S.owners o s ≡ false → (i v : ℕ) → entry_answer i ≡ Accepted
    → amend_site_answer S o s i v ≡ Refused Owner s
unfolding amend_site_answer
not_own_site S o s whole other i v entry = rw (whole, entry, not_own_refused S.owners o s other)

pub owner_amending :
    (S : Study) (o s i v : ℕ) {said : IcuAnswer} {left : List ℕ} → OpenAmendAllows S o s i v said left
    → study_size S ≡ Accepted → entry_answer i ≡ Accepted → owns S.owners o s ≡ false → said ≡ told (Refused Owner s)
owner_amending S o s i v allowed whole entry other = allowed.0 ∙ ap told (not_own_site S o s whole other i v entry)

pub owner_reading :
    (S : Study) (o s : ℕ) (d : List ℕ) {said : IcuAnswer} {left : List ℕ} → OpenReadAllows S o s d said left
    → study_size S ≡ Accepted → sheet_answer Junction d ≡ Accepted → owns S.owners o s ≡ false → said ≡ told (Refused Owner s)
unfolding read_answer
owner_reading S o s d allowed whole sheet other =
    allowed.0 ∙ rw (whole, sheet, not_own_refused S.owners o s other)

-- T3: demand 3 of each site, from any start ..
answered : (S : Study) (o s : ℕ) (e d : List ℕ) → Site o s S e → length d ≡ sheet_count Junction → read_answer S o s d ≡ judged e
answered S o s e d at cells = read_judged S o s d at.study at.own cells ∙ ap judged at.entries

pub site_from_any_start :
    (o s : ℕ) (S : Study) (run : List Call) (end : Study) (heard : List Heard) (d : List ℕ) {two : IcuAnswer} {cells : List ℕ}
    → study_size S ≡ Accepted → owns S.owners o s ≡ true → OpenRun o run S end heard → OpenReadAllows end o s d two cells → length d ≡ sheet_count Junction
    → let e = entries_by Junction (changes_of o s run) (block_at S.blocks s) in (two ≡ told (judged e)) × (cells ≡ left_by (judged e) (sheet e) d)
unfolding read_sheet
site_from_any_start o s S run end heard d size mine steps reads_it cells_long =
    let e = entries_by Junction (changes_of o s run) (block_at S.blocks s) in
    let start : Site o s S (block_at S.blocks s) = record { study = whole S size; own = mine; entries = refl } in
    let later : Site o s end e = rw (ran o run S steps).ends (site_kept o s run start) in
    let answer = answered end o s e d later cells_long in
    (reads_it.0 ∙ ap told answer, reads_it.1 ∙ rw (answer, later.entries))

-- .. and of one that was added
pub site_read :
    (o : ℕ) (S : Study) (e : List ℕ) (before : ℕ) (run : List Call) (end : Study) (heard : List Heard) (d : List ℕ)
    {said two : IcuAnswer} {left : Study} {place : ℕ} {cells : List ℕ}
    → OpenAddAllows S o e before said left place → Yes said → OpenRun o run left end heard
    → OpenReadAllows end o place d two cells → length d ≡ sheet_count Junction
    → Yes two × (cells ≡ sheet (entries_by Junction (changes_of o place run) e)) × (cells ≡ amended_by Junction (changes_of o place run) (sheet e))
unfolding added_place
site_read o S e before run end heard d {left = left} {place = place} adds_it granted steps reads_it cells_long =
    let accepted = told_yes (add_answer S o e) adds_it.0.0 granted in
    let here : place ≡ lowest_free S.owners = adds_it.1 ∙ sym (renewed (lowest_free S.owners) before accepted) in
    let fine = (adds S o e accepted).fine in
    let start : Site o place left e = rw (adds_it.0.1, here) (added_site o S e accepted) in
    let later : Site o place end (entries_by Junction (changes_of o place run) e) = rw (ran o run left steps).ends (site_kept o place run start) in
    let given = read_of_site later (still_fine (changes_of o place run) e fine) d cells_long in
    let is = reads_it.1 ∙ given.1 in
    (rw (reads_it.0, given.0), is, is ∙ sym (run_is_fresh Junction (changes_of o place run) e fine))

-- T4: the lowest free place
module _ (S : Study) (office : ℕ) (e : List ℕ) (before : ℕ) {said : IcuAnswer} {left : Study} {place : ℕ}
    (allowed : OpenAddAllows S office e before said left place) where
  pub lowest_got : Yes said → (place < length S.owners) × (get_or S.owners place free ≡ free) × ((k : ℕ) → k < place → get_or S.owners k free ≢ free)
  unfolding added_place
  lowest_got granted =
      let accepted = told_yes (add_answer S office e) allowed.0.0 granted in
      let here : place ≡ lowest_free S.owners = allowed.1 ∙ sym (renewed (lowest_free S.owners) before accepted) in
      let a = adds S office e accepted in
      rw here (omega (arith, a.study.owners, a.place), get_or-lowest_free S.owners, lower_taken S.owners)

  pub got_if_free : may_add S office e ≡ Accepted → (s : ℕ) → s < length S.owners → get_or S.owners s free ≡ free → Yes said
  got_if_free may s there is = rw (allowed.0.0, places.gets_place S office e may s there is)

  pub full_if_none : may_add S office e ≡ Accepted → ((s : ℕ) → s < length S.owners → get_or S.owners s free ≢ free) → said ≡ told (Refused Full 0)
  full_if_none may none = allowed.0.0 ∙ ap told (places.told_full S office e may none)

  pub full_only : said.number ≡ refusal_number Full → (s : ℕ) → s < length S.owners → get_or S.owners s free ≢ free
  full_only is = places.full_only S office e (sym (ap (λ a. a.number) allowed.0.0) ∙ is)
