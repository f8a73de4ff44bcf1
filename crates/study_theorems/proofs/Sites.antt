-- The entries of a file's sites, site after site, whichever format it is of: how many, which stand where, and that each fits 32 bits.
use Prim.Native.Nat.{ℕ, zero, suc, ◌+◌, ◌-◌, ◌*◌, ◌%◌, ◌≤◌, ◌<◌}
use mathlib.Core.Path.{◌≡◌, ap, ◌∙◌}
use mathlib.Core.Bool.{Bool, true, false, cond, ◌&&◌}
use mathlib.Core.List.{List, [], ◌++◌}
use lib.ListN.{length, get_or, take, drop, length-append, length-take, length-drop, get_or-append, get_or-eq_default}
use lib.Dec.{eqb, ltb}
use lib.Seq.{get_or-append-add, get_or-take, get_or-drop, take_all, take-append-le, drop-append-le, drop_at}
use native.Mathlib.Decide.{dec_lt}
use native.Mathlib.Omega.{arith}
use Rattle.lists.specs.Lists.{AllBelow, table}
use Rattle.lists.proofs.Laws.{length-table, table_at}
use Rattle.layout.specs.Entries.{entry_count, movement_entries, factor_no, approaches_from}
use Rattle.study_numbers.specs.Numbers.{number_bytes, number_limit, byte_limit, number_at, numbers_in}
use Rattle.study_format.specs.Format as format
use Rattle.study_before.specs.Before.{place_before, widened_at, widened}
use Rattle.study.specs.Study.{icut, icus, format_of, sites_of, is_before, block_entries, site_block, site_entries, entries_up_to}
use Rattle.study.proofs.Laws.{length-block_entries}

pub length_sites : (file : List ℕ) (n : ℕ) → length (entries_up_to file n) ≡ entry_count * n
unfolding entries_up_to
length_sites file zero = omega arith
length_sites file (suc n) =
    length-append (entries_up_to file n) (site_entries file n)
    ∙ omega (arith, length_sites file n, length-block_entries (site_block file n))

-- site j's are the j-th part of them
pub site_part : (file : List ℕ) (n j : ℕ) → j < n → take entry_count (drop (entry_count * j) (entries_up_to file n)) ≡ site_entries file j
unfolding entries_up_to
site_part file zero j h = absurd (omega arith)
site_part file (suc n) j h = go (dec_lt j n) (λ below. site_part file n j below)
  where
    before : List ℕ
    before = entries_up_to file n

    last : List ℕ
    last = site_entries file n

    long : length before ≡ entry_count * n
    long = length_sites file n

    go : Dec (j < n) → (j < n → take entry_count (drop (entry_count * j) before) ≡ site_entries file j)
        → take entry_count (drop (entry_count * j) (before ++ last)) ≡ site_entries file j
    go (yes below) earlier =
        let rest = drop (entry_count * j) before in
        rw (drop-append-le (entry_count * j) before last (omega (arith, long)))
        (take-append-le entry_count rest last (rw (length-drop (entry_count * j) before) (omega (arith, long))) ∙ earlier below)
    go (no past) earlier =
        let is : j ≡ n = omega arith in
        rw (is, drop_at before last (entry_count * n) long) (take_all entry_count last (omega (arith, length-block_entries (site_block file n))))

-- ---- numbers that are read from bytes

past_end : {limit : ℕ} (list : List ℕ) (i : ℕ) → 0 < limit → length list ≤ i → get_or list i 0 < limit
past_end list i some past = rw (get_or-eq_default list 0 {n = i} past) some

below_append : {limit : ℕ} (one two : List ℕ) → AllBelow limit one → AllBelow limit two → AllBelow limit (one ++ two)
below_append {limit} one two p q i = go (dec_lt i (length one))
  where
    go : Dec (i < length one) → get_or (one ++ two) i 0 < limit
    go (yes h) = rw (get_or-append one two 0 i h) (p i)
    go (no h) =
        let k = i - length one in
        let is : i ≡ length one + k = omega arith in
        rw (ap (λ n. get_or (one ++ two) n 0) is, get_or-append-add one two k 0) (q k)

below_table : {limit : ℕ} (f : ℕ → ℕ) (n : ℕ) → 0 < limit → ((i : ℕ) → i < n → f i < limit) → AllBelow limit (table f n)
below_table {limit} f n some each i = go (dec_lt i n)
  where
    go : Dec (i < n) → get_or (table f n) i 0 < limit
    go (yes h) = rw (table_at f n i h) (each i h)
    go (no h) = past_end (table f n) i some (omega (arith, length-table f n))

below_part : {limit : ℕ} (list : List ℕ) (n m : ℕ) → 0 < limit → AllBelow limit list → AllBelow limit (take n (drop m list))
below_part {limit} list n m some all i = go (dec_lt i n)
  where
    go : Dec (i < n) → get_or (take n (drop m list)) i 0 < limit
    go (yes h) = rw (get_or-take n (drop m list) i 0 h, get_or-drop m list i 0) (all (m + i))
    go (no h) = past_end (take n (drop m list)) i some (omega (arith, length-take n (drop m list)))

number_below : (bytes : List ℕ) (at : ℕ) → AllBelow byte_limit bytes → number_at bytes at < number_limit
number_below bytes at all = omega (arith, all at, all (at + 1), all (at + 2), all (at + 3))

numbers_below : (bytes : List ℕ) (n : ℕ) → AllBelow byte_limit bytes → AllBelow number_limit (numbers_in bytes n)
numbers_below bytes n all = below_table _ n (omega arith) (λ i h. number_below bytes (number_bytes * i) all)

widened_below : (e : List ℕ) → AllBelow number_limit e → AllBelow number_limit (widened e)
unfolding widened widened_at
widened_below e all = below_table (widened_at e) entry_count (omega arith) (λ i h. go i (ltb i approaches_from && eqb (i % movement_entries) factor_no))
  where
    go : (i : ℕ) (t : Bool) → cond t 0 (get_or e (place_before i) 0) < number_limit
    go i true = omega arith
    go i false = all (place_before i)

block_below : (block : List ℕ) → AllBelow byte_limit block → AllBelow number_limit (block_entries block)
unfolding block_entries
block_below block all = go (is_before block)
  where
    go : (t : Bool) → AllBelow number_limit (cond t (widened (format.block_entries icus block)) (format.block_entries icut block))
    go true = widened_below (format.block_entries icus block) (numbers_below block _ all)
    go false = numbers_below block entry_count all

pub sites_below : (file : List ℕ) (n : ℕ) → AllBelow byte_limit file → AllBelow number_limit (entries_up_to file n)
unfolding entries_up_to
sites_below file zero all = λ i. past_end [] i (omega arith) (omega arith)
sites_below file (suc n) all =
    let f = format_of file in
    below_append (entries_up_to file n) (site_entries file n) (sites_below file n all)
    (block_below (site_block file n) (below_part file (format.block_bytes f) (format.block_place f (sites_of file) n) (omega arith) all))
