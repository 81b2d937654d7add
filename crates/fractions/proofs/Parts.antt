-- Fractions held against each other by whole parts and remainders: a/b against c/d is a·d against c·b.
use Rattle.std.proofs.Common.{◌≡◌, ℕ, ◌+◌, ◌*◌, ◌<◌, ◌≤◌, eqb, ltb, leb, ◌⊎◌, sym, ap, ◌∙◌, inl, inr, mul-le-mul_right, mul-le-mul_left, arith}
use Rattle.std.proofs.lemmas.Bool.{eq-eqb, le-leb}
use Rattle.std.proofs.lemmas.Bool.Decides.{nat_tests}

-- two tests with one meaning have one answer
same_test : (x y z w : ℕ) → (x ≤ y → z ≤ w) → (z ≤ w → x ≤ y) → leb x y ≡ leb z w
same_test x y z w there back = grind (arith, nat_tests)

zero_test : (b d e f : ℕ) → 0 < d → (e ≡ 0) ⊎ (f ≡ 0) → eqb e 0 ≡ leb (d * e) (b * f)
zero_test b d e f hd (inl h) = eq-eqb e 0 h ∙ sym (le-leb _ _ (omega (arith, ap (λ k. d * k) h)))
zero_test b d e f hd (inr h) =
    let none : b * f ≡ 0 = omega (arith, ap (λ x. b * x) h) in
    let some : 0 < e → 0 < d * e = λ p. omega (arith, mul-le-mul_left d p) in
    grind (arith, nat_tests)

-- a/b is p and e/b, c/d is q and f/d
module _ {a b c d e f : ℕ} (p q : ℕ) (x : (a ≡ b * p + e) × (e < b)) (y : (c ≡ d * q + f) × (f < d)) where
  left : a * d ≡ b * p * d + e * d
  left = omega (arith, ap (λ k. k * d) x.0)

  right : c * b ≡ d * q * b + f * b
  right = omega (arith, ap (λ k. k * b) y.0)

  less : p < q → a * d < c * b
  less h = omega (arith, left, right, mul-le-mul_right d x.1, mul-le-mul_right (b * d) h)

  greater : q < p → c * b < a * d
  greater h = omega (arith, left, right, mul-le-mul_right b y.1, mul-le-mul_right (b * d) h)

  pub by_whole_parts : ¬ (p ≡ q) → ltb p q ≡ leb (a * d) (c * b)
  by_whole_parts ne = grind (arith, nat_tests, less, greater)

  -- At equal whole parts the remainders decide, turned over.
  pub by_remainders : p ≡ q → leb (d * e) (b * f) ≡ leb (a * d) (c * b)
  by_remainders h =
      let same : b * p * d ≡ d * q * b = omega (arith, ap (λ k. k * (b * d)) h) in
      same_test _ _ _ _ (λ h. omega (arith, left, right)) (λ h. omega (arith, left, right))

  -- Where a remainder is 0, nothing is left to turn over.
  pub by_zero : p ≡ q → (e ≡ 0) ⊎ (f ≡ 0) → eqb e 0 ≡ leb (a * d) (c * b)
  by_zero h z = zero_test b d e f (omega (arith, y.1)) z ∙ by_remainders h
