-- The test on whole numbers says what the rule's words say.
use Rattle.std.proofs.Common.{◌≡◌, ℕ, ◌+◌, ◌-◌, ◌*◌, ◌<◌, ◌≤◌, true, leb, ◌↔◌, ℤ, pos, ◌-ℤ◌, ◌*ℤ◌, nat_abs, sym, refl, ap, ◌∙◌, ⊎_elim, mul-le-mul_left, arith}
use lib.IntN.{*ℤ_comm}
use native.Mathlib.Nat.{le_of_mul-le-mul_left}
use Rattle.std.proofs.lemmas.Int.{ints}
use Rattle.std.proofs.lemmas.Bool.{both_ways, cases_lt, leb-true, le-leb}
use Rattle.accuracy.specs.Accuracy.{is_within}
use Rattle.accuracy.specs.Confidence.{student}
use Rattle.accuracy.specs.Rational.{◌over◌}
use Rattle.tally.specs.Numbers.{D, DD, W}
use Rattle.tally.specs.Sums.{Spreads, Tops}
use Rattle.accuracy.specs.Words.{AtMostConfidence, RelativeAccuracy, mean, variance}
use Rattle.tally.specs.declared.sums.Sums.{Sums}
use Rattle.accuracy.proofs.Squares.{Below, Fits, confined, fits}
use Rattle.tally.proofs.Numbers.{W_is, distance_fits}
use Rattle.accuracy.proofs.Within.{not_within, within_is}

-- Over one, the variance is W.
over_one : (n : ℕ) (x y : ℤ) → (x *ℤ pos n -ℤ y *ℤ pos 1) *ℤ pos 1 ≡ pos n *ℤ x -ℤ y
over_one n x y = rw (*ℤ_comm x (pos n)) (omega (arith, ints))

-- The mean difference d/n and u/v are within the limit, as naturals: b is the limit times the reference, and a what it leaves.
abbrev Together : ℕ → ℕ → ℕ → ℕ → ℕ → Type 0
Together n b d u v = (d * v + u * n) * (100 * n) ≤ b * (n * v)

together : (n a b d u v : ℕ) → a + 100 * d ≡ b → Fits n a u v → Together n b d u v
together n a b d u v e h = omega (arith, ap (λ x. n * v * x) e, mul-le-mul_left n h)

apart : (n a b d u v : ℕ) → 0 < n → a + 100 * d ≡ b → Together n b d u v → Fits n a u v
apart n a b d u v some e h =
    let k : n * (100 * (n * u)) ≤ n * (v * a) = omega (arith, ap (λ x. n * v * x) e) in
    le_of_mul-le-mul_left k some

alone : (n b d : ℕ) → 0 < n → Together n b d 0 1 → 100 * d ≤ b
alone n b d some h = let k : n * (100 * d) ≤ n * b = omega arith in le_of_mul-le-mul_left k some

module _ (s : Sums) (w : ℕ) (ew : W s ≡ pos w) where
  variance_is : (variance s).top ≡ pos w
  variance_is = over_one s.n (DD s) (D s *ℤ D s) ∙ ew

  pub below : (u v : ℕ) → AtMostConfidence s (pos u over v) → Below s.n (s.n - 1) (student s.n * student s.n * w) u v
  below u v h = let k = rw variance_is at h in omega (arith, ints)

  pub at_most : (u v : ℕ) → Below s.n (s.n - 1) (student s.n * student s.n * w) u v → AtMostConfidence s (pos u over v)
  at_most u v h = rw variance_is (omega (arith, ints))

  module _ (limit reference : ℕ) (enough : 3 ≤ s.n) where
    -- With no coefficient at all, the differences are within the limit.
    whole : RelativeAccuracy limit (mean s reference) s → 100 * nat_abs (D s) ≤ limit * reference
    whole all =
        let h = all 0 1 (omega arith) (at_most 0 1 (omega arith)) in
        alone s.n (limit * reference) (nat_abs (D s)) (omega arith) (omega (arith, ints))

    module _ (part : 100 * nat_abs (D s) ≤ limit * reference) where
      test : is_within limit reference s
          ≡ leb (student s.n * student s.n * w) (100 * (s.n - 1) * ((limit * reference - 100 * nat_abs (D s)) * (limit * reference - 100 * nat_abs (D s))))
      test = within_is s limit reference _ _ enough (ap (λ z. pos (student s.n * student s.n) *ℤ z) ew) refl part

      words : is_within limit reference s ≡ true → RelativeAccuracy limit (mean s reference) s
      words e u v some most =
          let square = leb-true _ _ (sym test ∙ e) in
          let h = together _ _ (limit * reference) (nat_abs (D s)) u v (omega arith) (fits _ _ _ _ (omega arith) square u v (below u v most)) in
          omega (arith, ints)

      test_holds : RelativeAccuracy limit (mean s reference) s → is_within limit reference s ≡ true
      test_holds all =
          test
          ∙ le-leb _ _ (confined _ _ _ _ (omega arith) (omega arith) (λ u v some h.
          let k = all u v some (at_most u v h) in
          apart _ _ (limit * reference) (nat_abs (D s)) u v (omega arith) (omega arith) (omega (arith, ints))))

    -- Where the differences alone pass the limit, both say no.
    neither : limit * reference < 100 * nat_abs (D s) → (is_within limit reference s ≡ true) ↔ RelativeAccuracy limit (mean s reference) s
    neither h = (λ e. absurd (both_ways _ (not_within s limit reference _ refl h) e), λ all. absurd (omega (arith, whole all)))

    pub within_says : (is_within limit reference s ≡ true) ↔ RelativeAccuracy limit (mean s reference) s
    within_says = ⊎_elim neither (λ part. (words part, test_holds part)) (cases_lt (limit * reference) (100 * nat_abs (D s)))

-- The same of a tally's sums.
pub spread_of : {most : ℕ} (s : Sums) → Tops most s → Spreads s → (w : ℕ) × (W s ≡ pos w)
spread_of s tops spreads =
    (s.n * (s.rr + s.pp - 2 * s.rp) - nat_abs (D s) * nat_abs (D s), W_is s tops spreads _ refl _ (omega (arith, distance_fits s tops spreads _ refl)))

pub says : {most : ℕ} (s : Sums) → Tops most s → Spreads s → (limit reference : ℕ) → 3 ≤ s.n
    → (is_within limit reference s ≡ true) ↔ RelativeAccuracy limit (mean s reference) s
says s tops spreads limit reference enough =
    let w = spread_of s tops spreads in within_says s w.0 w.1 limit reference enough
