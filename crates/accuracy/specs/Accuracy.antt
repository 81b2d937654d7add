-- The accuracy rules on whole numbers.
use Rattle.std.specs.Prelude.{ℕ, ◌-◌, ◌*◌, Bool, cond, ◌&&◌, ℤ, pos, ◌-ℤ◌, ◌*ℤ◌, int_le, nat_le, nat_lt, unsigned_abs}
use Rattle.accuracy.specs.Confidence.{confidence_of}
use Rattle.accuracy.specs.declared.limits.Marks.{Marks}
use Rattle.tally.specs.Numbers.{D}
use Rattle.tally.specs.declared.sums.Sums.{Sums}
use Rattle.terms.specs.declared.kinds.Kind.{Kind}
use Rattle.terms.specs.declared.kinds.Kind.TheVariants.{Ppm, Heat, Diluent}

-- The marks of a kind, in its units. Any kind but ppm takes those of heat.
abbrev pub marks_of : Kind → Marks
marks_of Ppm = record { high = 1000; low = 100; margin = 20 }
marks_of Heat = record { high = 2000; low = 500; margin = 100 }
marks_of Diluent = record { high = 2000; low = 500; margin = 100 }

-- |D| is at most the margin times n.
abbrev pub is_close : ℕ → Sums → Bool
is_close margin s = nat_le (unsigned_abs (D s)) (margin * s.n)

-- L: 10 percent where the predictions are above the high mark, and else 20
abbrev pub limit_of : Kind → Sums → ℕ
limit_of kind s = cond (nat_lt ((marks_of kind).high * s.n) s.p) 10 20

-- R': n·E where 2·R is below it, and else R
abbrev pub reference_of : ℕ → Sums → ℕ
reference_of emission s = cond (nat_lt (2 * s.r) (s.n * emission)) (s.n * emission) s.r

-- A = L·R' − 100·|D|
abbrev pub allowance : ℕ → ℕ → Sums → ℤ
allowance limit reference s = pos (limit * reference) -ℤ pos (100 * unsigned_abs (D s))

-- Three runs and more, A ≥ 0, and T²·W ≤ 100·(n − 1)·A²
abbrev pub is_within : ℕ → ℕ → Sums → Bool
is_within limit reference s =
    nat_le 3 s.n
    && (int_le (pos 0) (allowance limit reference s)
    && int_le (confidence_of s) (pos (100 * (s.n - 1)) *ℤ (allowance limit reference s *ℤ allowance limit reference s)))

-- A pollutant, under an emission standard in units: three runs and more; by the margin where the predictions are below the
-- low mark, and else within the limit.
abbrev pub pollutant_accurate : Kind → ℕ → Sums → Bool
pollutant_accurate kind emission s =
    nat_le 3 s.n
    && cond (nat_lt s.p ((marks_of kind).low * s.n)) (is_close (marks_of kind).margin s)
    (is_within (limit_of kind s) (reference_of emission s) s)

-- A diluent: within 20 percent of the references, however low.
abbrev pub diluent_accurate : Sums → Bool
diluent_accurate s = is_within 20 s.r s
