-- Student's t, and the confidence coefficient of the differences.
use Rattle.std.specs.Prelude.{◌≡◌, ℕ, ◌-◌, ◌*◌, ◌<◌, ◌≤◌, [], ◌∷◌, ℤ, pos, ◌*ℤ◌, Some, None, Option, slice_index}
use Rattle.tally.specs.Numbers.{W}
use Rattle.tally.specs.declared.sums.Sums.{Sums}

-- T, Student's t in thousandths, for n runs from 3 to 12
abbrev pub student : ℕ → ℕ
student n = slice_index (4303 ∷ 3182 ∷ 2776 ∷ 2571 ∷ 2447 ∷ 2365 ∷ 2306 ∷ 2262 ∷ 2228 ∷ 2201 ∷ []) (n - 3)

-- T²·W
abbrev pub confidence_of : Sums → ℤ
confidence_of s = pos (student s.n * student s.n) *ℤ W s

-- Three runs and more have it; fewer have none.
abbrev pub ConfidenceAnswer : Sums → Option ℕ → Type 0
ConfidenceAnswer s (Some g) = (3 ≤ s.n) × (confidence_of s ≡ pos g)
ConfidenceAnswer s None = s.n < 3
