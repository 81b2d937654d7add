-- Accuracy in the rule's own words: the mean difference and the confidence coefficient
-- come to at most a limit in percent of the mean reference.
use Rattle.std.specs.Prelude.{◌≡◌, ℕ, ◌-◌, ◌<◌, ◌≤◌, pos, ◌*ℤ◌, unsigned_abs}
use Rattle.accuracy.specs.Accuracy.{marks_of, reference_of}
use Rattle.accuracy.specs.Confidence.{student}
use Rattle.accuracy.specs.Rational.{Rational, ◌over◌, ◌+ℚ◌, ◌-ℚ◌, ◌*ℚ◌, ◌≤ℚ◌, ◌<ℚ◌}
use Rattle.tally.specs.Numbers.{D, DD, W}
use Rattle.terms.specs.declared.kinds.Kind.{Kind}
use Rattle.tally.specs.declared.sums.Sums.{Sums}

-- A whole number of units, and a sum shared out over the runs.
abbrev pub units : ℕ → Rational
units x = pos x over 1

abbrev pub mean : Sums → ℕ → Rational
mean s sum = pos sum over s.n

-- The mean difference, without its sign.
abbrev pub mean_difference : Sums → Rational
mean_difference s = mean s (unsigned_abs (D s))

-- The square of the differences' standard deviation: (Σd² − (Σd)²/n) / (n − 1).
abbrev pub variance : Sums → Rational
variance s = (DD s over 1 -ℚ (D s *ℤ D s) over s.n) *ℚ pos 1 over (s.n - 1)

-- Student's t.
abbrev pub t : Sums → Rational
t s = pos (student s.n) over 1000

-- A fraction not below 0 is at most the confidence coefficient, t times the deviation over √n: its square is at most the coefficient's.
abbrev pub AtMostConfidence : Sums → Rational → Type 0
AtMostConfidence s q = q *ℚ q ≤ℚ t s *ℚ t s *ℚ variance s *ℚ pos 1 over s.n

-- The mean difference and the coefficient are at most `limit` percent of a reference.
-- The coefficient is a root and mostly no fraction, so this is said of every fraction up to it.
abbrev pub RelativeAccuracy : ℕ → Rational → Sums → Type 0
RelativeAccuracy limit reference s =
    (u v : ℕ) → 0 < v → AtMostConfidence s (pos u over v)
    → mean_difference s +ℚ pos u over v ≤ℚ pos limit over 100 *ℚ reference

-- A pollutant's predictions are accurate, under an emission standard in units: in at least three runs, by a margin
-- where the mean prediction is low, and else within 20 percent of the reference, or 10 where it is high.
pub record Accurate (kind : Kind) (emission : ℕ) (s : Sums) : Type 0 where
  pub enough : 3 ≤ s.n
  pub low : mean s s.p <ℚ units (marks_of kind).low → mean_difference s ≤ℚ units (marks_of kind).margin
  pub middle : units (marks_of kind).low ≤ℚ mean s s.p → mean s s.p ≤ℚ units (marks_of kind).high
      → RelativeAccuracy 20 (mean s (reference_of emission s)) s
  pub high : units (marks_of kind).high <ℚ mean s s.p → RelativeAccuracy 10 (mean s (reference_of emission s)) s

-- The same of a diluent: 20 percent of the mean reference, however low.
pub record AccurateDiluent (s : Sums) : Type 0 where
  pub enough : 3 ≤ s.n
  pub within : RelativeAccuracy 20 (mean s s.r) s

-- The differences come to nothing, and have no spread.
pub record Flawless (s : Sums) : Type 0 where
  pub no_difference : D s ≡ pos 0
  pub no_spread : W s ≡ pos 0
