-- The bias test and the F test in PS-16's own words.
use Rattle.std.specs.Prelude.{ℕ, ◌-◌, ◌*◌, ◌≤◌, ◌⊎◌, pos, ◌<ℤ◌}
use Rattle.accuracy.specs.Rational.{Rational, ◌over◌, ◌-ℚ◌, ◌*ℚ◌, ◌≤ℚ◌}
use Rattle.accuracy.specs.Words.{AtMostConfidence}
use Rattle.statistics.specs.Variance.{critical_f, floor_of}
use Rattle.tally.specs.Numbers.{D}
use Rattle.tally.specs.declared.sums.Sums.{Sums}
use Rattle.terms.specs.declared.kinds.Kind.{Kind}

-- The predictions are low, and the mean difference is above the confidence coefficient.
pub record Biased (s : Sums) : Type 0 where
  pub enough : 3 ≤ s.n
  pub low : pos 0 <ℤ D s
  pub beyond : AtMostConfidence s (D s over s.n) → ⊥

-- The variance of n numbers, from their sum and that of their squares: (Σe² − (Σe)²/n) / (n − 1).
abbrev pub variance_of : ℕ → ℕ → ℕ → Rational
variance_of n sum squares = (pos squares over 1 -ℚ pos (sum * sum) over n) *ℚ pos 1 over (n - 1)

abbrev pub reference_variance : Sums → Rational
reference_variance s = variance_of s.n s.r s.rr

abbrev pub predicted_variance : Sums → Rational
predicted_variance s = variance_of s.n s.p s.pp

-- the critical value of F
abbrev pub critical : Sums → Rational
critical s = pos (critical_f s.n) over 1000

-- the least deviation of the references that counts, in units
abbrev pub floor : Kind → ℕ → Rational
floor kind span = pos (floor_of kind span) over 100

-- The variance of the predictions is at most the critical F times that of the references, or times the square of the floor.
pub record Steady (kind : Kind) (span : ℕ) (s : Sums) : Type 0 where
  pub least : 9 ≤ s.n
  pub most : s.n ≤ 12
  pub variance : (predicted_variance s ≤ℚ critical s *ℚ reference_variance s) ⊎ (predicted_variance s ≤ℚ critical s *ℚ floor kind span *ℚ floor kind span)
