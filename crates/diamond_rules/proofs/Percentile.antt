-- The ratio test says what the book's 90th percentile says, x + 1.28·√x < L with x = N/3600, in whole numbers and without roots.
use mathlib.Core.Path.{◌≡◌}
use mathlib.Core.Bool.{true}
use Prim.Native.Nat.{ℕ, ◌+◌, ◌-◌, ◌*◌, ◌≤◌, ◌<◌}
use native.Mathlib.Nat.{mul-le-mul}
use native.Mathlib.Decide.{dec_lt}
use native.Mathlib.Omega.{arith}
use lib.Dec.{ltb}
use borrow.Author.Tests.{lt-ltb, ltb-true}
use Rattle.lists.proofs.Tests.{both_true}
use Rattle.diamond_rules.specs.Lines.{below1}

-- "some fraction r with r² ≥ x has x + 1.28·r < L": r is a/b, and each side is multiplied by what it is divided by
pub record Percentile (N L : ℕ) : Type 0 where
  pub a : ℕ
  pub b : ℕ
  pub parts : 0 < b
  pub root : N * (b * b) ≤ 3600 * (a * a)
  pub room : 100 * N * b + 128 * 3600 * a < 100 * (3600 * L) * b

-- M is what the storage has more than the mean; the fraction a little below M/4608 is one
module _ (N L M : ℕ) (more : 3600 * L ≡ N + M) where
  fraction : 0 < M → 16_384 * 3_600 * N < 10_000 * (M * M) → Percentile N L
  fraction some h =
      let Q = M * M in
      let a = 20_000 * Q - 1 in
      let least : 1 ≤ Q = mul-le-mul {n₁ = 1} {m₁ = 1} some some in
      let over : a + 1 ≡ 20_000 * Q = omega (arith, least) in
      let squared : (a + 1) * (a + 1) ≡ 20_000 * Q * (20_000 * Q) = rw over in
      let wide : (16_384 * 3_600 * N + 1) * Q ≤ 10_000 * Q * Q = mul-le-mul {n₂ = 10_000 * Q} {m₂ = Q} (omega (arith, h)) (omega arith) in
      let all : 3600 * L * M ≡ (N + M) * M = rw more in
      record {
        a = a;
        b = 92_160_000 * M;
        parts = omega (arith, some);
        root = omega (arith, squared, wide, over);
        room = omega (arith, over, all);
      }

  -- and any such fraction shows the test
  squared_test : Percentile N L → 16_384 * 3_600 * N < 10_000 * (M * M)
  squared_test p =
      let b = p.b in
      let all : 3600 * L * b ≡ (N + M) * b = rw more in
      let below : 4608 * p.a + 1 ≤ M * b = omega (arith, p.room, all) in
      let squares : (4608 * p.a + 1) * (4608 * p.a + 1) ≤ M * b * (M * b) = mul-le-mul below below in
      go (dec_lt (16_384 * 3_600 * N) (10_000 * (M * M))) squares
    where
      go : Dec (16_384 * 3_600 * N < 10_000 * (M * M)) → (4608 * p.a + 1) * (4608 * p.a + 1) ≤ M * p.b * (M * p.b)
          → 16_384 * 3_600 * N < 10_000 * (M * M)
      go (yes h) squares = h
      go (no h) squares =
          let most : 10_000 * (M * M) ≤ 16_384 * 3_600 * N = omega (arith, h) in
          let times : 10_000 * (M * M) * (p.b * p.b) ≤ 16_384 * 3_600 * N * (p.b * p.b) = mul-le-mul most (omega arith) in
          absurd (omega (arith, times, squares, p.root))

-- a mean as large as the storage leaves no room
mean_below : (N L : ℕ) → Percentile N L → N < 3600 * L
mean_below N L p = go (dec_lt N (3600 * L))
  where
    go : Dec (N < 3600 * L) → N < 3600 * L
    go (yes h) = h
    go (no h) =
        let most : 3600 * L ≤ N = omega (arith, h) in
        let times : 3600 * L * p.b ≤ N * p.b = mul-le-mul most (omega arith) in
        absurd (omega (arith, times, p.room))

pub percentile : (N L : ℕ) → (below1 N L ≡ true → Percentile N L) × (Percentile N L → below1 N L ≡ true)
unfolding below1
percentile N L = (
  λ h.
      let two : (ltb N (3600 * L) ≡ true) × (ltb (16_384 * 3_600 * N) (10_000 * ((3600 * L - N) * (3600 * L - N))) ≡ true) = both_true _ _ h in
      let mean : N < 3600 * L = ltb-true _ _ two.0 in
      fraction N L (3600 * L - N) (omega (arith, mean)) (omega (arith, mean)) (ltb-true _ _ two.1),
  λ p.
      let mean : N < 3600 * L = mean_below N L p in
      rw (lt-ltb N (3600 * L) mean, lt-ltb _ _ (squared_test N L (3600 * L - N) (omega (arith, mean)) p)),
)
