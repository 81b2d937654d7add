-- The test of relative accuracy, from its numbers.
use Rattle.std.proofs.Common.{◌≡◌, ℕ, ◌-◌, ◌*◌, ◌<◌, ◌≤◌, true, false, leb, pos, ◌-ℤ◌, ◌*ℤ◌, nat_abs, sym, ap, ◌∙◌, arith}
use lib.Signed.{le_z}
use Rattle.std.proofs.lemmas.Int.{ints}
use Rattle.std.proofs.lemmas.Bool.{and_left, and_right, le-leb}
use Rattle.accuracy.specs.Accuracy.{allowance, is_within}
use Rattle.accuracy.specs.Confidence.{confidence_of, student}
use Rattle.accuracy.specs.Words.{Flawless}
use Rattle.tally.specs.Numbers.{D}
use Rattle.tally.specs.declared.sums.Sums.{Sums}
use Rattle.tally.proofs.Numbers.{minus_is}

negative : (a b : ℕ) → a < b → le_z (pos 0) (pos a -ℤ pos b) ≡ false
negative a b h = grind (arith, ints)

module _ (s : Sums) (limit reference : ℕ) where
  -- the differences alone pass the limit
  pub not_within : (d : ℕ) → d ≡ nat_abs (D s) → limit * reference < 100 * d → is_within limit reference s ≡ false
  not_within d ed h = and_right (leb 3 s.n) _ (and_left _ _ (negative _ _ (rw ed at h)))

  -- what the limit leaves beside them decides
  pub within_is : (g d : ℕ) → 3 ≤ s.n → confidence_of s ≡ pos g → d ≡ nat_abs (D s) → 100 * d ≤ limit * reference
      → is_within limit reference s
      ≡ leb g (100 * (s.n - 1) * ((limit * reference - 100 * d) * (limit * reference - 100 * d)))
  within_is g d enough eg ed h =
      let a : allowance limit reference s ≡ pos (limit * reference - 100 * d) =
      ap (λ x. pos (limit * reference) -ℤ pos (100 * x)) (sym ed) ∙ minus_is (limit * reference) (100 * d) (limit * reference - 100 * d) (omega arith) in
      rw (le-leb 3 s.n enough, a, eg, le-leb 0 (limit * reference - 100 * d) (omega arith))

  -- no difference and no spread of differences
  pub flawless_within : 3 ≤ s.n → Flawless s → is_within limit reference s ≡ true
  flawless_within enough h =
      let none = ap (λ z. pos (student s.n * student s.n) *ℤ z) h.no_spread in
      within_is 0 0 enough (none ∙ omega (arith, ints)) (sym (ap nat_abs h.no_difference)) (omega arith) ∙ le-leb 0 _ (omega arith)
