-- The bias test, from its numbers.
use Rattle.std.proofs.Common.{◌≡◌, ◌≤ℤ◌, ℕ, ◌+◌, ◌-◌, ◌*◌, ◌≤◌, false, ltb, leb, pos, sym, refl, ⊎_elim, arith}
use Rattle.std.proofs.lemmas.Int.{ints}
use Rattle.std.proofs.lemmas.Bool.{and_left, and_right, cases_lt, le-leb, le-ltb, lt-ltb}
use Rattle.accuracy.specs.Confidence.{confidence_of}
use Rattle.statistics.specs.Bias.{is_biased}
use Rattle.tally.specs.declared.sums.Sums.{Sums}
use Rattle.tally.specs.Numbers.{D}
use Rattle.tally.proofs.Numbers.{minus_is, not_above}

module _ (s : Sums) where
  pub not_biased : s.r ≤ s.p → is_biased s ≡ false
  not_biased h =
      let low : D s ≤ℤ pos 0 = omega (arith, ints) in and_right (leb 3 s.n) _ (and_left _ _ (not_above _ low))

  pub biased_is : (g d : ℕ) → 3 ≤ s.n → confidence_of s ≡ pos g → d + s.p ≡ s.r → is_biased s ≡ ltb g (1000000 * (s.n - 1) * (d * d))
  biased_is g d enough eg ed =
      rw (le-leb 3 s.n enough, eg, minus_is s.r s.p d ed) (
      ⊎_elim
      (λ some. rw (lt-ltb 0 d some) refl)
      (λ none. let least : d ≡ 0 = omega arith in rw least (sym (le-ltb g (1000000 * (s.n - 1) * 0) (omega arith))))
      (cases_lt 0 d)
      )
