-- The correlation test on whole numbers.
use Rattle.std.specs.Prelude.{Bool, ◌&&◌, pos, ◌*ℤ◌, int_le, int_lt}
use Rattle.tally.specs.Numbers.{X, Y, Z}
use Rattle.tally.specs.declared.sums.Sums.{Sums}

-- X, Y and Z are above 0, and 25·Z² ≥ 16·X·Y.
abbrev pub is_correlated : Sums → Bool
is_correlated s =
    int_lt (pos 0) (X s)
    && (int_lt (pos 0) (Y s) && (int_lt (pos 0) (Z s) && int_le (pos 16 *ℤ (X s *ℤ Y s)) (pos 25 *ℤ (Z s *ℤ Z s))))
