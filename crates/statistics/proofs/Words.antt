-- The tests on whole numbers say what PS-16's words say.
use Rattle.std.proofs.Common.{◌≡◌, ℕ, ◌-◌, ◌*◌, ◌<◌, ◌≤◌, true, ◌||◌, ltb, leb, ◌↔◌, pos, ◌-ℤ◌, ◌*ℤ◌, sym, ap, ◌∙◌, subst, inl, inr, ⊎_elim, mul-le-mul_left, mul-pos, arith}
use native.Mathlib.Nat.{le_of_mul-le-mul_left}
use Rattle.std.proofs.lemmas.Int.{ints}
use Rattle.std.proofs.lemmas.Bool.{and_from, and_parts, both_ways, cases_lt, leb-true, le-leb, ltb-true, lt-ltb, or_cases, or_left, or_right}
use Rattle.accuracy.specs.Confidence.{confidence_of, student}
use Rattle.accuracy.specs.Rational.{◌over◌, ◌*ℚ◌, ◌≤ℚ◌}
use Rattle.accuracy.specs.Words.{AtMostConfidence}
use Rattle.accuracy.proofs.Squares.{Below}
use Rattle.accuracy.proofs.Words.{at_most, below, spread_of}
use Rattle.statistics.specs.Bias.{is_biased}
use Rattle.statistics.specs.Variance.{critical_f, f_part, floor_of, is_steady}
use Rattle.statistics.specs.Words.{Biased, Steady, critical, floor, predicted_variance, reference_variance, variance_of}
use Rattle.statistics.proofs.Biased.{biased_is, not_biased}
use Rattle.tally.specs.Numbers.{D, W, X, Y}
use Rattle.tally.specs.Sums.{Spreads, Tops}
use Rattle.tally.specs.declared.sums.Sums.{Sums}
use Rattle.tally.proofs.Numbers.{minus_is}
use Rattle.terms.specs.declared.kinds.Kind.{Kind}

-- Over n, the mean difference is at most the coefficient where its square is.
over_n : (n m g d : ℕ) → 0 < n → Below n m g d n → 1000000 * m * (d * d) ≤ g
over_n n m g d some h =
    let k : n * n * (1000000 * m * (d * d)) ≤ n * n * g = omega arith in
    le_of_mul-le-mul_left k (mul-pos some some)

under_n : (n m g d : ℕ) → 1000000 * m * (d * d) ≤ g → Below n m g d n
under_n n m g d h = omega (arith, mul-le-mul_left (n * n) h)

module _ {most : ℕ} (s : Sums) (tops : Tops most s) (spreads : Spreads s) where
  abbrev w : ℕ
  w = (spread_of s tops spreads).0

  abbrev g : ℕ
  g = student s.n * student s.n * w

  spread_is : W s ≡ pos w
  spread_is = (spread_of s tops spreads).1

  confidence_is : confidence_of s ≡ pos g
  confidence_is = ap (λ z. pos (student s.n * student s.n) *ℤ z) spread_is

  module _ (low : s.p < s.r) where
    abbrev d : ℕ
    d = s.r - s.p

    difference_is : D s ≡ pos d
    difference_is = minus_is s.r s.p d (omega arith)

    -- where the predictions are low, the test is on the square of the difference
    test : 3 ≤ s.n → is_biased s ≡ ltb g (1000000 * (s.n - 1) * (d * d))
    test enough = biased_is s g d enough confidence_is (omega arith)

    biased_words : 3 ≤ s.n → is_biased s ≡ true → Biased s
    biased_words enough e = record {
      enough = enough;
      low = rw difference_is (omega (arith, ints));
      beyond = λ under.
          let k = subst (λ z. AtMostConfidence s (z over s.n)) difference_is under in
          omega (arith, over_n s.n (s.n - 1) g d (omega arith) (below s w spread_is d s.n k), ltb-true _ _ (sym (test enough) ∙ e));
    }

    biased_test : Biased s → is_biased s ≡ true
    biased_test a =
        test a.enough
        ∙ ⊎_elim
        (λ (h : g < 1000000 * (s.n - 1) * (d * d)). lt-ltb _ _ h)
        (λ h. absurd (a.beyond (subst (λ z. AtMostConfidence s (z over s.n)) (sym difference_is) (at_most s w spread_is d s.n (under_n s.n (s.n - 1) g d h)))))
        (cases_lt g (1000000 * (s.n - 1) * (d * d)))

  pub biased_says : (is_biased s ≡ true) ↔ Biased s
  biased_says = (
    λ e. ⊎_elim
        (λ low. biased_words low (leb-true _ _ (and_parts _ _ e).0) e)
        (λ none. absurd (both_ways _ (not_biased s none) e))
        (cases_lt s.p s.r),
    λ a. let above = a.low in biased_test (omega (arith, ints)) a,
  )

-- A test of squares over n·(n − 1) is one of the squares.
module _ (k : ℕ) (some : 0 < k) (f x y : ℕ) where
  crossed : 1000 * y ≤ f * x → y * (1000 * k) ≤ f * x * k
  crossed h = omega (arith, mul-le-mul_left k h)

  uncrossed : y * (1000 * k) ≤ f * x * k → 1000 * y ≤ f * x
  uncrossed h = let m : k * (1000 * y) ≤ k * (f * x) = omega arith in le_of_mul-le-mul_left m some

variance_top : (n sum squares x : ℕ) → pos (n * squares) -ℤ pos (sum * sum) ≡ pos x → (variance_of n sum squares).top ≡ pos x
variance_top n sum squares x e = omega (arith, ints)

module _ {most : ℕ} (s : Sums) (tops : Tops most s) (spreads : Spreads s) (kind : Kind) (span : ℕ) where
  abbrev x : ℕ
  x = s.n * s.rr - s.r * s.r

  abbrev y : ℕ
  y = s.n * s.pp - s.p * s.p

  X_is : X s ≡ pos x
  X_is = minus_is (s.n * s.rr) (s.r * s.r) x (omega (arith, spreads))

  Y_is : Y s ≡ pos y
  Y_is = minus_is (s.n * s.pp) (s.p * s.p) y (omega (arith, spreads))

  abbrev F : ℕ
  F = critical_f s.n

  abbrev G : ℕ
  G = floor_of kind span

  -- the two ways to pass, by squares
  abbrev Ratio : Type 0
  Ratio = 1000 * y ≤ F * x

  abbrev Floor : Type 0
  Floor = 10000000 * y ≤ F * (s.n * (s.n - 1)) * (G * G)

  ratio_says : 9 ≤ s.n → Ratio ↔ (predicted_variance s ≤ℚ critical s *ℚ reference_variance s)
  ratio_says enough =
      let p = variance_top s.n s.p s.pp y Y_is in
      let r = variance_top s.n s.r s.rr x X_is in
      let some : 0 < s.n * (s.n - 1) = mul-pos (omega arith) (omega arith) in (
        λ h. let k = crossed (s.n * (s.n - 1)) some F x y h in rw (p, r) (omega (arith, ints)),
        λ h. let k = rw (p, r) at h in uncrossed (s.n * (s.n - 1)) some F x y (omega (arith, ints)),
      )

  floor_says : Floor ↔ (predicted_variance s ≤ℚ critical s *ℚ floor kind span *ℚ floor kind span)
  floor_says =
      let p = variance_top s.n s.p s.pp y Y_is in
      (λ h. rw p (omega (arith, ints)), λ h. let k = rw p at h in omega (arith, ints))

  parts_are : f_part kind span s ≡ (leb (1000 * y) (F * x) || leb (10000000 * y) (F * (s.n * (s.n - 1)) * (G * G)))
  parts_are = rw (X_is, Y_is)

  pub steady_says : (is_steady kind span s ≡ true) ↔ Steady kind span s
  steady_says = (
    λ e.
        let h = and_parts _ _ e in
        let k = and_parts _ _ h.1 in
        let least = leb-true _ _ h.0 in
        record {
          least = least;
          most = leb-true _ _ k.0;
          variance = ⊎_elim (λ r. inl ((ratio_says least).0 (leb-true _ _ r))) (λ f. inr (floor_says.0 (leb-true _ _ f))) (or_cases _ _ (sym parts_are ∙ k.1));
        },
    λ a.
        let part = ⊎_elim (λ r. or_left _ _ (le-leb _ _ ((ratio_says a.least).1 r))) (λ f. or_right _ _ (le-leb _ _ (floor_says.1 f))) a.variance in
        and_from _ _ (le-leb _ _ a.least) (and_from _ _ (le-leb _ _ a.most) (parts_are ∙ part)),
  )
