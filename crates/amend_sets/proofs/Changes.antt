-- Changes in a list of numbers, one after another, and what each leaves.
use mathlib.Core.Path.{◌≡◌, refl, sym, ◌∙◌}
use mathlib.Core.Bool.{or_comm}
use mathlib.Core.List.{List, [], ◌∷◌}
use Prim.Native.Nat.{ℕ, suc, ◌+◌, ◌*◌, ◌/◌, ◌≤◌, ◌<◌}
use native.Mathlib.Numerals.{add-one}
use native.Mathlib.Omega.{arith}
use lib.Dec.{ltb}
use lib.ListN.{length, get_or, set, drop, length-set, length-drop}
use lib.Seq.{drop-cons}
use borrow.Author.Tests.{ltb-false}
use Rattle.layout.specs.declared.Worksheet.{Worksheet}
use Rattle.layout.specs.Entries.{cycle_entry, entry_count}
use Rattle.answers.specs.Answers.{◌then◌}
use Rattle.answers.specs.declared.Refusal.{Refusal}
use Rattle.answers.specs.declared.Refusal.TheVariants.{Entry}
use Rattle.answers.specs.declared.Answer.{Answer}
use Rattle.answers.specs.declared.Answer.TheVariants.{Accepted, Refused}
use Rattle.answers.proofs.Laws.{not_refused, both_accepted}
use Rattle.amend_reach.specs.Reach.{reached, merged_from, merged}
use Rattle.amend_reach.proofs.Merging.{Copying, some_copied, all_copied}
use Rattle.amend_sets.specs.Amend.{Change, with_changes, entry_answer, entries_answer, some_reaches}
use Rattle.amend_sets.specs.Working.{changes_of}

-- a refusal is no acceptance
pub never_both : {A : Type 0} {answer : Answer} {why : Refusal} {place : ℕ} → answer ≡ Refused why place → answer ≡ Accepted → A
never_both refused accepted = absurd (let z : ◌≡◌ {A = ℕ} 0 1 = cc in omega arith)

-- ENTRY is not answered only of entries
pub entry_accepted : (i : ℕ) → entry_answer i ≡ Accepted → i < entry_count
unfolding entry_answer
entry_accepted i h = omega (arith, ltb-false cycle_entry i (not_refused (ltb cycle_entry i) Entry 0 h))

pub entries_accepted :
    (c : Change) (changes : List Change) → entries_answer (c ∷ changes) ≡ Accepted → (c.entry < entry_count) × (entries_answer changes ≡ Accepted)
unfolding entries_answer
entries_accepted c changes h =
    let two = both_accepted (entry_answer c.entry) (entries_answer changes) h in (entry_accepted c.entry two.0, two.1)

-- changes keep the number of entries
pub still_long : (changes : List Change) (e : List ℕ) → length (with_changes changes e) ≡ length e
unfolding with_changes
still_long [] e = refl
still_long (c ∷ changes) e = still_long changes (set e c.entry c.value) ∙ length-set e c.entry c.value

-- the n-th change of a list of numbers, and those from it on
module _ (xs : List ℕ) where
  abbrev pub change_at : ℕ → Change
  change_at n = record { entry = get_or xs (2 * n) 0; value = get_or xs (2 * n + 1) 0 }

  abbrev pub changes_from : ℕ → List Change
  changes_from n = changes_of (drop (2 * n) xs)

  pub next_change : (n : ℕ) → n < length xs / 2 → changes_from n ≡ change_at n ∷ changes_from (n + 1)
  unfolding changes_of
  next_change n h =
      let after : 2 * (n + 1) ≡ suc (suc (2 * n)) = omega arith in
      rw (after, add-one (2 * n), drop-cons xs (2 * n) 0 (omega arith), drop-cons xs (suc (2 * n)) 0 (omega arith))

  pub no_more : (n : ℕ) → length xs / 2 ≤ n → changes_from n ≡ []
  unfolding changes_of
  no_more n h = go (drop (2 * n) xs) (omega (arith, length-drop (2 * n) xs))
    where
      go : (rest : List ℕ) → length rest < 2 → changes_of rest ≡ []
      go [] h = refl
      go (x ∷ []) h = refl
      go (x ∷ y ∷ rest) h = absurd (omega arith)

  -- where all of them name entries, the next one does, and so do those after it
  pub next_entry :
      (n : ℕ) → n < length xs / 2 → entries_answer (changes_from n) ≡ Accepted
      → (get_or xs (2 * n) 0 < entry_count) × (entries_answer (changes_from (n + 1)) ≡ Accepted)
  next_entry n h all = entries_accepted (change_at n) (changes_from (n + 1)) (rw (next_change n h) at all)

  -- checked so far: the answer is that of the changes left
  abbrev pub Checked : ℕ → Type 0
  Checked n = entries_answer (changes_of xs) ≡ entries_answer (changes_from n)

  pub checked_one :
      (n : ℕ) → n < length xs / 2 → Checked n
      → entries_answer (changes_of xs) ≡ (entry_answer (get_or xs (2 * n) 0) then entries_answer (changes_from (n + 1)))
  unfolding entries_answer
  checked_one n h so_far = so_far ∙ rw (next_change n h)

  pub checked_all : (n : ℕ) → length xs / 2 ≤ n → Checked n → Accepted ≡ entries_answer (changes_of xs)
  unfolding entries_answer
  checked_all n h so_far = sym (so_far ∙ rw (no_more n h))

  -- made so far: those left, made of the entries as they stand, make the same
  pub record Made (before now : List ℕ) (n : ℕ) : Type 0 where
    pub long : length now ≡ entry_count
    pub known : entries_answer (changes_from n) ≡ Accepted
    pub is : with_changes (changes_of xs) before ≡ with_changes (changes_from n) now

  pub made_one :
      {before now : List ℕ} (n : ℕ) → n < length xs / 2 → Made before now n
      → Made before (set now (get_or xs (2 * n) 0) (get_or xs (2 * n + 1) 0)) (n + 1)
  unfolding with_changes
  made_one {before} {now} n h m =
      record {
        long = length-set now (get_or xs (2 * n) 0) (get_or xs (2 * n + 1) 0) ∙ m.long;
        known = (next_entry n h m.known).1;
        is = m.is ∙ rw (next_change n h);
      }

  pub made_all : {before now : List ℕ} (n : ℕ) → length xs / 2 ≤ n → Made before now n → now ≡ with_changes (changes_of xs) before
  unfolding with_changes
  made_all n h m = sym (m.is ∙ rw (no_more n h))

  -- renewed so far: the cells that those left reach are still to be renewed
  pub record Renewed (k : Worksheet) (fresh old cells : List ℕ) (n : ℕ) : Type 0 where
    pub known : entries_answer (changes_from n) ≡ Accepted
    pub copying : Copying (some_reaches k (changes_of xs)) (some_reaches k (changes_from n)) fresh old cells

  pub renewed_one :
      {k : Worksheet} {fresh old cells : List ℕ} (n : ℕ) → n < length xs / 2 → Renewed k fresh old cells n
      → Renewed k fresh old (merged k (get_or xs (2 * n) 0) fresh cells) (n + 1)
  unfolding some_reaches
  renewed_one {k} n h r =
      let entry = get_or xs (2 * n) 0 in
      record {
        known = (next_entry n h r.known).1;
        copying =
            some_copied (some_reaches k (changes_from (n + 1))) (reached k entry)
            (λ j. rw (next_change n h) (or_comm (reached k entry j) (some_reaches k (changes_from (n + 1)) j))) r.copying;
      }

  pub renewed_all :
      {k : Worksheet} {fresh old cells : List ℕ} (n : ℕ) → length xs / 2 ≤ n → Renewed k fresh old cells n
      → cells ≡ merged_from (some_reaches k (changes_of xs)) 0 fresh old
  unfolding some_reaches
  renewed_all n h r = all_copied (λ j. rw (no_more n h)) r.copying
