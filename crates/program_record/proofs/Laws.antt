-- Laws of what is said first, and of the words that are taken one after the other.
use Prim.Native.Nat.{ℕ, suc, ◌+◌, ◌-◌, ◌≤◌, ◌<◌}
use mathlib.Core.Path.{◌≡◌, refl, sym, ◌∙◌}
use mathlib.Core.List.{List, [], ◌∷◌, ◌++◌}
use lib.ListN.{length, set, length-append, length-set}
use native.Mathlib.Numerals.{add-one}
use native.Mathlib.Omega.{arith}
use Rattle.std.specs.Prelude.{Result, Ok, Err, ⊤}
use Rattle.std.proofs.lemmas.Result.{IfOk-weaker}
use Rattle.layout.specs.Entries.{entry_count}
use Rattle.layout.specs.Diamond.{east_from, storages_from, record_count}
use Rattle.lists.specs.Lists.{table, over}
use Rattle.lists.proofs.Laws.{over_nothing, over_more, over_then, over_whole, length-table, table_more}
use Rattle.program_outcome.specs.Outcome.{Tells}
use Rattle.program_outcome.proofs.Laws.{goes_on, quiet}
use Rattle.program_record.specs.Arguments.{◌or_else◌, own_count, own_word, own_value, number_by, own_numbers, value_says, words_say}
use Rattle.text_values.specs.declared.Value.TheVariants.{Is}
use Rattle.program_record.specs.Working.{Made}

-- a word that is a value is put in its place, and nothing said
pub made_number : (words : List ℕ) (k : ℕ) (list : List ℕ) (at : ℕ) {said : List ℕ} {number : ℕ} → own_value words k ≡ Is number
    → Made (value_says (own_value words k) (own_word words k)) said said (set list at (number_by (own_value words k))) (set list at number) (Ok tt)
made_number words k list at value = rw value (goes_on refl)

-- a list that is made is also the one that is equal to it
pub made_so : {text said said' one other list' : List ℕ} {result : Result ⊤ ℕ} → Made text said said' one list' result
    → (list' ≡ one → list' ≡ other)
    → Made text said said' other list' result
made_so {one = one} {other} {list'} {result} m so =
    record { says = m.says; some = m.some; good = IfOk-weaker result (λ done. list' ≡ one) (λ done. list' ≡ other) (λ done. so) m.good }

-- what is said first stays, and only where nothing is said does the next follow
module _ {A B : Type 0} {Good : A → Type 0} {Good' : B → Type 0} (first next : List ℕ) {said one : List ℕ} where
  pub else_stops : {size : ℕ} → Tells first said one Good (Err size) → Tells (first or_else next) said one Good' (Err size)
  else_stops t = record { says = rw (spoken first (omega (arith, t.some, t.says.next))) t.says; some = t.some; good = tt }
    where
      spoken : (text : List ℕ) → 0 < length text → (text or_else next) ≡ text
      spoken [] some = absurd (omega arith)
      spoken (byte ∷ bytes) some = refl

  pub else_goes_on : {value : A} {two : List ℕ} {result : Result B ℕ} → Tells first said one Good (Ok value) → Tells next one two Good' result
      → Tells (first or_else next) said two Good' result
  else_goes_on t then =
      let q = quiet t in
      rw q.none (rw q.same at then)

-- the words, taken one after the other

module _ (words : List ℕ) where
  abbrev pub number_at : ℕ → ℕ
  number_at k = number_by (own_value words k)

  abbrev pub says_at : ℕ → List ℕ
  says_at k = value_says (own_value words k) (own_word words k)

  pub words_more : (k : ℕ) → k < own_count → words_say words k (own_count - k) ≡ (says_at k or_else words_say words (k + 1) (own_count - (k + 1)))
  unfolding words_say
  words_more k h =
      let e : own_count - k ≡ suc (own_count - (k + 1)) = omega arith in
      rw (e, add-one k)

  -- the first k are values, which stand in the record, and nothing is said yet
  pub record Taken (numbers said numbers' said' : List ℕ) (k : ℕ) : Type 0 where
    pub few : k ≤ own_count
    pub still : said' ≡ said
    pub long : length numbers' ≡ length numbers
    pub is : numbers' ≡ over numbers storages_from (table number_at k)
    pub rest : words_say words 0 own_count ≡ words_say words k (own_count - k)

  pub taken_none : (numbers said : List ℕ) → Taken numbers said numbers said 0
  unfolding table
  taken_none numbers said =
      record { few = omega arith; still = refl; long = refl; is = sym (over_nothing numbers storages_from); rest = refl }

  module _ {numbers said numbers' said' : List ℕ} {k : ℕ} (so : Taken numbers said numbers' said' k) where
    pub taken_stops : {numbers'' said'' made list : List ℕ} {size : ℕ} → k < own_count
        → Made (says_at k) said' said'' (set numbers' (storages_from + k) (number_at k)) numbers'' (Err size)
        → Made (words_say words 0 own_count) said said'' made list (Err size)
    taken_stops h m = rw (so.rest, words_more k h) (else_stops (says_at k) _ (rw so.still at m))

    pub taken_more : {numbers'' said'' : List ℕ} {value : ⊤} → k < own_count → storages_from + own_count ≤ length numbers
        → Made (says_at k) said' said'' (set numbers' (storages_from + k) (number_at k)) numbers'' (Ok value)
        → Taken numbers said numbers'' said'' (k + 1)
    taken_more h room m =
        let q = quiet m in
        let long = length-table number_at k in
        record {
          few = omega arith;
          still = q.same ∙ so.still;
          long = rw (q.good, length-set numbers' (storages_from + k) (number_at k)) so.long;
          is = rw (q.good, so.is, table_more number_at k) (over_more numbers storages_from k (table number_at k) (number_at k) long (omega arith));
          rest = rw (so.rest, words_more k h, q.none);
        }

    pub taken_all : own_count ≤ k → Made (words_say words 0 own_count) said said' (over numbers storages_from (own_numbers words)) numbers' (Ok tt)
    unfolding words_say
    taken_all h =
        let end : k ≡ own_count = omega (arith, so.few) in
        let past : own_count - k ≡ 0 = omega arith in
        let none = rw past at so.rest in
        rw (none, so.still) (goes_on (rw (← end) so.is))

-- the junctions' entries and the own numbers, put one after the other, are the record
pub whole_record : (words numbers west east : List ℕ) {one two three : List ℕ} → length numbers ≡ record_count
    → length west ≡ entry_count → one ≡ over numbers 0 west
    → length east ≡ entry_count → two ≡ over one east_from east
    → three ≡ over two storages_from (own_numbers words)
    → three ≡ west ++ east ++ own_numbers words
whole_record words numbers west east whole w is_one e is_two is_three =
    let own = length-table (number_at words) own_count in
    let both = over_then numbers 0 west east is_one is_two (omega arith) (omega arith) in
    let long = length-append west east in
    let all = over_then numbers 0 (west ++ east) (own_numbers words) both is_three (omega arith) (omega arith) in
    all ∙ over_whole numbers (west ++ east ++ own_numbers words) (omega (arith, length-append (west ++ east) (own_numbers words)))
