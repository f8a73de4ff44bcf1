-- The cells that a copy has still to write, one fewer with each turn.
use mathlib.Core.Path.{◌≡◌, refl, sym, ◌∙◌, ap, fun_ext}
use mathlib.Core.Bool.{Bool, true, false, cond, ◌&&◌, ◌||◌, and-false, or-false, or-true}
use mathlib.Core.List.{List, ◌++◌}
use Prim.Native.Nat.{ℕ, suc, ◌+◌, ◌-◌, ◌*◌, ◌≤◌, ◌<◌, min}
use native.Mathlib.Numerals.{add-one}
use native.Mathlib.Decide.{dec_lt, ℕ_discrete}
use native.Mathlib.Omega.{arith}
use lib.Dec.{leb, ltb, eqb}
use lib.ListN.{length, get_or, take, drop, drop_of_length-le, length-append, length-drop, get_or-append}
use lib.Seq.{drop-cons, length-take-le, get_or-take, get_or-drop, get_or-append-add, ext_get_or}
use borrow.Author.Tests.{leb-true, lt-ltb, le-ltb, le-leb, lt-leb, eq-eqb, ne_eqb}
use Rattle.lists.specs.Lists.{over}
use Rattle.lists.proofs.Laws.{length_over}
use Rattle.lists.proofs.Tests.{both_true}
use Rattle.sheet_cells.proofs.Cells.{within_blocks}
use Rattle.amend_reach.specs.Reach.{among, faces, first_facing, last_facing, merged_from}
use Rattle.amend_reach.specs.Working.{run, run_if, lines_named, are_lines}
use Rattle.amend_reach.proofs.Blocks.{block_ends}
use Rattle.amend_reach.proofs.Merging.{length_merged, merged_cell}

module _ (from to j : ℕ) where
  pub in_run : from ≤ j → j < to → run from to j ≡ true
  unfolding run
  in_run h p = rw (le-leb from j h, lt-ltb j to p)

  pub before_run : j < from → run from to j ≡ false
  unfolding run
  before_run h = rw (lt-leb from j h)

  pub after_run : to ≤ j → run from to j ≡ false
  unfolding run
  after_run h = rw (le-ltb j to h, and-false (leb from j))

  -- the run without its first cell
  pub run_next : from < to → run from to j ≡ (run (from + 1) to j || eqb j from)
  unfolding run
  run_next h = go (ℕ_discrete j from) (dec_lt j from)
    where
      go : Dec (j ≡ from) → Dec (j < from) → (leb from j && ltb j to) ≡ ((leb (from + 1) j && ltb j to) || eqb j from)
      go (yes e) _ = rw (eq-eqb j from e, or-true (leb (from + 1) j && ltb j to)) (in_run (omega arith) (omega arith))
      go (no e) (yes p) = rw (ne_eqb j from e, lt-leb from j p, lt-leb (from + 1) j (omega arith))
      go (no e) (no p) = rw (ne_eqb j from e, le-leb from j (omega arith), le-leb (from + 1) j (omega arith), or-false (ltb j to))

pub run_over : (from to : ℕ) → to ≤ from → (j : ℕ) → run from to j ≡ false
run_over from to h j = go (dec_lt j from)
  where
    go : Dec (j < from) → run from to j ≡ false
    go (yes p) = before_run from to j p
    go (no p) = after_run from to j (omega arith)

-- a run of a list put over the same places of another is the merge by the run
module _ (from to : ℕ) (fresh old : List ℕ) (same : length fresh ≡ length old) (some : from < to) (room : to ≤ length old) where
  part : List ℕ
  part = take (to - from) (drop from fresh)

  long : length part ≡ to - from
  unfolding part
  long = length-take-le (to - from) (drop from fresh) (omega (arith, length-drop from fresh))

  front : length (take from old) ≡ from
  front = length-take-le from old (omega arith)

  both : length (take from old ++ part) ≡ to
  both = omega (arith, length-append (take from old) part, front, long)

  put_cell : (j : ℕ) → Dec (j < from) → Dec (j < to) → get_or (over old from part) j 0 ≡ cond (run from to j) (get_or fresh j 0) (get_or old j 0)
  unfolding over part
  put_cell j (yes p) _ =
      rw (
        before_run from to j p,
        get_or-append (take from old ++ part) (drop (from + length part) old) 0 j (omega (arith, both)),
        get_or-append (take from old) part 0 j (omega (arith, front)),
      )
      (get_or-take from old j 0 p)
  put_cell j (no p) (yes q) =
      let at : j ≡ length (take from old) + (j - from) = omega (arith, front) in
      let back : from + (j - from) ≡ j = omega arith in
      rw (in_run from to j (omega arith) q, get_or-append (take from old ++ part) (drop (from + length part) old) 0 j (omega (arith, both)))
      (ap (λ i. get_or (take from old ++ part) i 0) at ∙ get_or-append-add (take from old) part (j - from) 0
      ∙ get_or-take (to - from) (drop from fresh) (j - from) 0 (omega arith) ∙ get_or-drop from fresh (j - from) 0
      ∙ ap (λ i. get_or fresh i 0) back)
  put_cell j (no p) (no q) =
      let at : j ≡ length (take from old ++ part) + (j - to) = omega (arith, both) in
      let back : from + length part + (j - to) ≡ j = omega (arith, long) in
      rw (after_run from to j (omega arith))
      (ap (λ i. get_or (take from old ++ part ++ drop (from + length part) old) i 0) at
      ∙ get_or-append-add (take from old ++ part) (drop (from + length part) old) (j - to) 0
      ∙ get_or-drop (from + length part) old (j - to) 0 ∙ ap (λ i. get_or old i 0) back)

  pub run_room : from + length (take (to - from) (drop from fresh)) ≤ length old
  unfolding part
  run_room = omega (arith, long)

  pub run_put : over old from (take (to - from) (drop from fresh)) ≡ merged_from (run from to) 0 fresh old
  unfolding part
  run_put =
      let whole : length (over old from part) ≡ length old = length_over old from part (omega (arith, long)) in
      ext_get_or 0 (over old from part) (merged_from (run from to) 0 fresh old)
      (whole ∙ sym (length_merged (run from to) 0 fresh old same))
      (λ j h. put_cell j (dec_lt j from) (dec_lt j to) ∙ sym (merged_cell (run from to) fresh old same j (omega (arith, whole))))

-- of blocks of one width, the run that is block a has of block c all or nothing
pub block_run : (from w a c t j : ℕ) → j ≡ from + w * c + t → t < w → run (from + w * a) (from + w * a + w) j ≡ eqb c a
block_run from w a c t j at h = go (ℕ_discrete c a) (dec_lt c a)
  where
    go : Dec (c ≡ a) → Dec (c < a) → run (from + w * a) (from + w * a + w) j ≡ eqb c a
    go (yes p) _ =
        let here : j ≡ from + w * a + t = rw p at at in
        rw (eq-eqb c a p) (in_run (from + w * a) (from + w * a + w) j (omega arith) (omega arith))
    go (no p) (yes q) = rw (ne_eqb c a p) (before_run (from + w * a) (from + w * a + w) j (omega (arith, within_blocks c t q h)))
    go (no p) (no q) =
        let later : a < c = omega arith in
        rw (ne_eqb c a p) (after_run (from + w * a) (from + w * a + w) j (omega (arith, block_ends w a later)))

-- what a list of lines says of the one to be copied next
pub record Next (lines : List ℕ) (i : ℕ) : Type 0 where
  pub least : 1 ≤ get_or lines i 0
  pub later : are_lines (drop (i + 1) lines) ≡ true

pub next_line : (lines : List ℕ) (i : ℕ) → i < length lines → are_lines (drop i lines) ≡ true → Next lines i
next_line lines i h are =
    let x = get_or lines i 0 in
    let two = both_true (leb 1 x) (are_lines (drop (suc i) lines)) (rw (drop-cons lines i 0 h) at are) in
    record { least = leb-true 1 x two.0; later = rw (add-one i) two.1 }

module _ (count first : ℕ) (lines : List ℕ) where
  -- the lines of a list, from its i-th on
  abbrev pub named_from : ℕ → ℕ → Bool
  named_from i = lines_named count first (λ n. among n (drop i lines))

  module _ (i : ℕ) (more : i < length lines) where
    -- the next one is one of them
    pub lines_next :
        1 ≤ get_or lines i 0 → get_or lines i 0 ≤ count
        → (j : ℕ) → named_from i j ≡ (named_from (i + 1) j || eqb j (first + get_or lines i 0 - 1))
    unfolding lines_named
    lines_next least most j = rw (drop-cons lines i 0 more, add-one i) (go (dec_lt j first) (ℕ_discrete j (first + x - 1)))
      where
        x : ℕ
        x = get_or lines i 0

        rest : Bool
        rest = among (suc (j - first)) (drop (suc i) lines)

        inside : Bool
        inside = run first (first + count) j

        go :
            Dec (j < first) → Dec (j ≡ first + x - 1)
            → ((eqb (suc (j - first)) x || rest) && inside) ≡ ((rest && inside) || eqb j (first + x - 1))
        go _ (yes e) =
            rw (eq-eqb j (first + x - 1) e, or-true (rest && inside), eq-eqb (suc (j - first)) x (omega arith))
            (in_run first (first + count) j (omega arith) (omega arith))
        go (yes p) (no e) =
            rw (ne_eqb j (first + x - 1) e, before_run first (first + count) j p, or-false (rest && false))
            (and-false (eqb (suc (j - first)) x || rest) ∙ sym (and-false rest))
        go (no p) (no e) = rw (ne_eqb j (first + x - 1) e, or-false (rest && inside), ne_eqb (suc (j - first)) x (λ q. e (omega arith)))

    -- it is past them
    pub lines_passed : count < get_or lines i 0 → named_from i ≡ named_from (i + 1)
    unfolding lines_named
    lines_passed past = fun_ext (λ j. rw (drop-cons lines i 0 more, add-one i) (go j (dec_lt j first) (dec_lt j (first + count))))
      where
        rest : ℕ → Bool
        rest j = among (suc (j - first)) (drop (suc i) lines)

        outside :
            (j : ℕ) → run first (first + count) j ≡ false
            → ((eqb (suc (j - first)) (get_or lines i 0) || rest j) && run first (first + count) j) ≡ (rest j && run first (first + count) j)
        outside j off = rw off (and-false (eqb (suc (j - first)) (get_or lines i 0) || rest j) ∙ sym (and-false (rest j)))

        go :
            (j : ℕ) → Dec (j < first) → Dec (j < first + count)
            → ((eqb (suc (j - first)) (get_or lines i 0) || rest j) && run first (first + count) j) ≡ (rest j && run first (first + count) j)
        go j (yes p) _ = outside j (before_run first (first + count) j p)
        go j (no p) (yes q) = rw (ne_eqb (suc (j - first)) (get_or lines i 0) (λ e. omega arith))
        go j (no p) (no q) = outside j (after_run first (first + count) j (omega arith))

  pub lines_over : (i : ℕ) → length lines ≤ i → (j : ℕ) → named_from i j ≡ false
  unfolding lines_named
  lines_over i h j = rw (drop_of_length-le lines {i = i} h)

module _ (count first : ℕ) where
  -- all lines are a run, and none is nothing
  pub all_lines : lines_named count first (λ n. true) ≡ run first (first + count)
  unfolding lines_named
  all_lines = refl

  pub no_lines : (j : ℕ) → lines_named count first (λ n. false) j ≡ false
  unfolding lines_named
  no_lines j = refl

  -- the lines that face the other approach are a run, wanted or not, that ends with the last line at the latest
  pub facing_lines :
      (looks : Bool) → lines_named count first (faces looks) ≡ run_if looks (first + first_facing - 1) (first + min last_facing (count))
  unfolding lines_named run_if
  facing_lines false = refl
  facing_lines true = fun_ext (λ j. go j (dec_lt j from) (dec_lt j to) (dec_lt j (first + count)))
    where
      from : ℕ
      from = first + first_facing - 1

      to : ℕ
      to = first + min last_facing (count)

      go :
          (j : ℕ) → Dec (j < from) → Dec (j < to) → Dec (j < first + count)
          → (faces true (suc (j - first)) && run first (first + count) j) ≡ run from to j
      go j (yes p) _ _ = rw (lt-leb first_facing (suc (j - first)) (omega arith)) (sym (before_run from to j p))
      go j (no p) (yes q) _ =
          rw (le-leb first_facing (suc (j - first)) (omega arith), le-leb (suc (j - first)) last_facing (omega arith), in_run from to j (omega arith) q)
          (in_run first (first + count) j (omega arith) (omega arith))
      go j (no p) (no q) (yes r) =
          rw (lt-leb (suc (j - first)) last_facing (omega arith), le-leb first_facing (suc (j - first)) (omega arith))
          (sym (after_run from to j (omega arith)))
      go j (no p) (no q) (no r) =
          rw (after_run first (first + count) j (omega arith))
          (and-false (faces true (suc (j - first))) ∙ sym (after_run from to j (omega arith)))
