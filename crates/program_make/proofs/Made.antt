-- Text after text, the calls of this crate make what the texts come to all together: `made_of_texts`.
use Prim.Native.Nat.{ℕ, ◌+◌, ◌*◌, ◌≤◌}
use mathlib.Core.Path.{◌≡◌, refl, sym, ap, ◌∙◌}
use mathlib.Core.Bool.{Bool, true, false}
use mathlib.Core.List.{List, [], ◌∷◌, ◌++◌}
use lib.ListN.{length, take, drop, length-append}
use lib.Seq.{length-take-le, take_at}
use lib.Dec.{ltb}
use borrow.Author.Tests.{le-leb}
use native.Mathlib.Omega.{arith}
use Rattle.answers.specs.declared.Answer.{Answer}
use Rattle.answers.specs.declared.Answer.TheVariants.{Accepted, Refused as No}
use Rattle.lists.specs.Lists.{over}
use Rattle.lists.proofs.Laws.{length_over}
use Rattle.layout.specs.declared.Worksheet.TheVariants.{Junction}
use Rattle.layout.specs.Entries.{entry_count}
use Rattle.entries.specs.Judging.{judged}
use Rattle.entries.proofs.Laws.{accepted_count}
use Rattle.study.specs.Study.{site_limit}
use Rattle.text.specs.Text.{ascii}
use Rattle.std.specs.Prelude.{Result, Ok, Err}
use Rattle.text_words.specs.Standing.{Standing}
use Rattle.text_words.specs.declared.Mistake.{Mistake}
use Rattle.text_scan.specs.Scanning.{parsed}
use Rattle.text_reader.specs.Reader.{short_reading, text_most, reading, Reading}
use Rattle.std.specs.Prelude.{Some, None}
use Rattle.program_outcome.specs.Outcome.{Input, word_most, opening, named}
use Rattle.program_make.specs.Make.{said_by, with_site, text_says, text_adds}
use Rattle.program_make.specs.Steps.{Typed, says_of, typed_in, entries_of, is_nothing, made, Making, step, steps, finished}

-- two truths that differ
never : {A : Type 0} → ◌≡◌ {A = Bool} true false → A
never e = absurd (let z : ◌≡◌ {A = ℕ} 0 1 = cc in omega arith)

-- a text that is well has as many entries as a junction
well_judged : (text : List ℕ) → reading Junction text ≡ Ok tt → judged (parsed text).entries ≡ Accepted
unfolding reading short_reading
well_judged text e = by (ltb text_most (length text)) refl (parsed text).reader refl (judged (parsed text).entries) refl e
  where
    by : (b : Bool) → ltb text_most (length text) ≡ b → (f : Result Standing Mistake) → (parsed text).reader ≡ f → (a : Answer)
        → judged (parsed text).entries ≡ a
        → reading Junction text ≡ Ok tt
        → judged (parsed text).entries ≡ Accepted
    by b long f found Accepted good is = good
    by true long f found (No why place) bad is = absurd (let y = rw long at is in let z : ◌≡◌ {A = ℕ} 0 1 = cc in omega arith)
    by false long (Ok reader) found (No why place) bad is = absurd (let y = rw (long, found, bad) at is in let z : ◌≡◌ {A = ℕ} 0 1 = cc in omega arith)
    by false long (Err mistake) found (No why place) bad is = absurd (let y = rw (long, found) at is in let z : ◌≡◌ {A = ℕ} 0 1 = cc in omega arith)

-- what is said of a text is something
something : (front back rest : List ℕ) (byte : ℕ) → is_nothing ((front ++ (byte ∷ back)) ++ rest) ≡ false
something [] back rest byte = refl
something (first ∷ front) back rest byte = refl

named_something : (word what : List ℕ) → is_nothing (named word what) ≡ false
unfolding named opening ascii
named_something word what = something (take word_most word) (32 ∷ []) what 58

-- a text of which nothing is said adds its entries
adds : (name : List ℕ) (input : Input) (area : List ℕ) → is_nothing (text_says input name area) ≡ true
    → (length (typed_in input area) ≡ entry_count)
    × ((all : List ℕ) (site : ℕ) → text_adds input area site all ≡ with_site all site (typed_in input area))
unfolding text_says text_adds
adds name None area nothing = never (sym nothing ∙ named_something name _)
adds name (Some size) area nothing = by (reading Junction (take size area)) refl nothing
  where
    by : (r : Reading) → reading Junction (take size area) ≡ r → is_nothing (said_by (reading Junction (take size area)) name (take size area)) ≡ true
        → (length (parsed (take size area)).entries ≡ entry_count)
        × ((all : List ℕ) (site : ℕ) → text_adds (Some size) area site all ≡ with_site all site (parsed (take size area)).entries)
    by (Ok done) is nothing = (accepted_count (parsed (take size area)).entries (well_judged (take size area) is), λ all site. rw is)
    by (Err why) is nothing = never (sym (rw is at nothing) ∙ named_something name _)

-- the entries so far, with a site's after them
one_more : (all entries e : List ℕ) (sites : ℕ) → length e ≡ entry_count → entry_count * (sites + 1) ≤ length all → take (entry_count * sites) all ≡ entries
    → (take (entry_count * (sites + 1)) (with_site all sites e) ≡ entries ++ e) × (length (with_site all sites e) ≡ length all)
unfolding with_site over
one_more all entries e sites long room so_far =
    let at = entry_count * sites in
    let front : length (take at all) ≡ at = length-take-le at all (omega arith) in
    let both : length (take at all ++ e) ≡ entry_count * (sites + 1) = omega (arith, length-append (take at all) e) in
    let fits = le-leb (at + length e) (length all) (omega arith) in (
      rw fits (take_at (take at all ++ e) (drop (at + length e) all) (entry_count * (sites + 1)) both ∙ rw so_far),
      rw fits (length_over all at e (omega arith)),
    )

-- once something is said, all stays
stays : (texts : List Typed) (m : Making) → is_nothing m.says ≡ false → steps m texts ≡ m
unfolding steps
stays [] m said = refl
stays (t ∷ texts) m said = rw said (stays texts m said)

-- until then, a text is taken
abbrev next : Making → Typed → Making
next m t = record { all = text_adds t.input t.area m.sites m.all; sites = m.sites + 1; says = says_of t }

taken : (m : Making) (t : Typed) (texts : List Typed) → is_nothing m.says ≡ true → steps m (t ∷ texts) ≡ steps (next m t) texts
unfolding steps
taken m t texts nothing =
    let on : step m t ≡ next m t = rw nothing in
    ap (λ (x : Making). steps x texts) on

made_from : (texts : List Typed) (m : Making) (entries : List ℕ) → is_nothing m.says ≡ true → entry_count * (m.sites + length texts) ≤ length m.all
    → take (entry_count * m.sites) m.all ≡ entries
    → finished (steps m texts) ≡ made entries texts
unfolding steps made
made_from [] m entries nothing room so_far = rw (nothing, so_far)
made_from (t ∷ texts) m entries nothing room so_far = rw (taken m t texts nothing) (by (is_nothing (says_of t)) refl (made_from texts))
  where
    by : (b : Bool) → is_nothing (says_of t) ≡ b
        → ((m' : Making) (entries' : List ℕ) → is_nothing m'.says ≡ true → entry_count * (m'.sites + length texts) ≤ length m'.all
        → take (entry_count * m'.sites) m'.all ≡ entries'
        → finished (steps m' texts) ≡ made entries' texts)
        → finished (steps (next m t) texts) ≡ made entries (t ∷ texts)
    by true well on =
        let a = adds t.name t.input t.area well in
        let more = one_more m.all entries (entries_of t) m.sites a.0 (omega arith) so_far in
        rw well
        (on (next m t) (entries ++ entries_of t) well (rw (a.1 m.all m.sites, more.1) (omega arith)) (rw (a.1 m.all m.sites) more.0))
    by false wrong on = rw (wrong, stays texts (next m t) wrong, wrong)

-- stepping through the texts gives the study of all their entries in order, or what is said of the first that is not well
pub made_of_texts : (all : List ℕ) (texts : List Typed) → length all ≡ entry_count * site_limit → length texts ≤ site_limit
    → finished (steps (record { all = all; sites = 0; says = [] }) texts) ≡ made [] texts
made_of_texts all texts sized few = made_from texts (record { all = all; sites = 0; says = [] }) [] refl (omega arith) refl
