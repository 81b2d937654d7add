-- The bias test on whole numbers.
use Rattle.std.specs.Prelude.{◌-◌, ◌*◌, Bool, ◌&&◌, pos, ◌*ℤ◌, int_lt, nat_le}
use Rattle.accuracy.specs.Confidence.{confidence_of}
use Rattle.tally.specs.Numbers.{D}
use Rattle.tally.specs.declared.sums.Sums.{Sums}

-- D > 0 and 1,000,000·(n − 1)·D² > T²·W, with three runs and more
abbrev pub is_biased : Sums → Bool
is_biased s = nat_le 3 s.n && (int_lt (pos 0) (D s) && int_lt (confidence_of s) (pos (1000000 * (s.n - 1)) *ℤ (D s *ℤ D s)))
