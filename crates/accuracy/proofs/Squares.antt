-- The test by squares, and the fractions up to the confidence coefficient.
-- n runs, m = n − 1, g = T²·W and a the allowance.
use Rattle.std.proofs.Common.{◌≡◌, ℕ, ◌+◌, ◌*◌, ◌<◌, ◌≤◌, refl, ap, ⊎_elim, mul-le-mul_left, mul-pos, arith}
use native.Mathlib.Nat.{le_of_mul-le-mul_left}
use Rattle.std.proofs.lemmas.Nat.{mul-le}
use Rattle.std.proofs.lemmas.Bool.{cases_lt}

-- u/v is at most the coefficient, by squares.
abbrev pub Below : ℕ → ℕ → ℕ → ℕ → ℕ → Type 0
Below n m g u v = u * u * (1000000 * (n * n * m)) ≤ v * v * g

-- u/v is at most a/(100·n).
abbrev pub Fits : ℕ → ℕ → ℕ → ℕ → Type 0
Fits n a u v = 100 * (n * u) ≤ v * a

-- The smaller square has the smaller root.
root_le : (x y : ℕ) → x * x ≤ y * y → x ≤ y
root_le x y h = ⊎_elim (λ lt. omega (arith, mul-le _ _ _ _ lt lt)) (λ le. le) (cases_lt y x)

module _ (n m g a : ℕ) (some : 0 < m) where
  pub fits : g ≤ 100 * m * (a * a) → (u v : ℕ) → Below n m g u v → Fits n a u v
  fits h u v below =
      let squares : m * (100 * (n * u) * (100 * (n * u))) ≤ m * (v * a * (v * a)) =
      omega (arith, mul-le-mul_left (v * v) h) in
      root_le _ _ (le_of_mul-le-mul_left squares some)

  -- Where the test fails, (k·a + 1)/(100·n·k) is above a/(100·n) and still at most the coefficient.
  between : (k : ℕ) → k ≡ 100 * (m * (2 * a + 1)) → 100 * m * (a * a) < g → Below n m g (k * a + 1) (100 * (n * k))
  between k is h =
      let one : m * 1 ≤ m * k = mul-le-mul_left m (omega arith) in
      let gap = mul-le-mul_left (k * k) h in
      let under : 100 * m * ((k * a + 1) * (k * a + 1)) ≤ k * k * g = omega (arith, ap (λ x. k * x) is) in
      omega (arith, mul-le-mul_left (n * n) under)

  pub confined : 0 < n → ((u v : ℕ) → 0 < v → Below n m g u v → Fits n a u v) → g ≤ 100 * m * (a * a)
  confined runs all =
      let k : ℕ = 100 * (m * (2 * a + 1)) in
      let much : 0 < k = omega arith in
      ⊎_elim
      (λ h. omega (arith, all (k * a + 1) (100 * (n * k)) (omega (arith, mul-pos runs much)) (between k refl h)))
      (λ le. le)
      (cases_lt (100 * m * (a * a)) g)
