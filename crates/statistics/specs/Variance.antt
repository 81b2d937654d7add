-- The F test on whole numbers.
use Rattle.std.specs.Prelude.{ℕ, ◌-◌, ◌*◌, min, Bool, ◌&&◌, ◌||◌, [], ◌∷◌, pos, ◌*ℤ◌, int_le, nat_le, slice_index}
use Rattle.tally.specs.Numbers.{X, Y}
use Rattle.tally.specs.declared.sums.Sums.{Sums}
use Rattle.terms.specs.declared.kinds.Kind.{Kind}
use Rattle.terms.specs.declared.kinds.Kind.TheVariants.{Ppm, Heat, Diluent}

-- F, the critical value in thousandths, for n runs from 9 to 12
abbrev pub critical_f : ℕ → ℕ
critical_f n = slice_index (3438 ∷ 3197 ∷ 2978 ∷ 2817 ∷ []) (n - 9)

-- G, the least deviation of the references that counts, in hundredths of a unit: 3 percent of the span, and for ppm at most 5 ppm
abbrev pub floor_of : Kind → ℕ → ℕ
floor_of Ppm span = min 5000 (3 * span)
floor_of Heat span = 3 * span
floor_of Diluent span = 3 * span

-- 1000·Y ≤ F·X or 10,000,000·Y ≤ F·n·(n − 1)·G²
abbrev pub f_part : Kind → ℕ → Sums → Bool
f_part kind span s =
    int_le (pos 1000 *ℤ Y s) (pos (critical_f s.n) *ℤ X s)
    || int_le (pos 10000000 *ℤ Y s) (pos (critical_f s.n * (s.n * (s.n - 1)) * (floor_of kind span * floor_of kind span)))

-- 9 to 12 runs, and the F part holds.
abbrev pub is_steady : Kind → ℕ → Sums → Bool
is_steady kind span s = nat_le 9 s.n && (nat_le s.n 12 && f_part kind span s)
