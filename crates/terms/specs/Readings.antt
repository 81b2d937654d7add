-- The readings of a list of pairs.
use Rattle.std.specs.Prelude.{ℕ, max, List, [], ◌∷◌}
use Rattle.terms.specs.declared.pairs.Pair.{Pair}

-- the higher of a pair's two readings
abbrev pub higher : Pair → ℕ
higher q = max q.reference q.predicted

-- the highest of all readings, 0 where there is none
abbrev pub highest : List Pair → ℕ
highest [] = 0
highest (q ∷ qs) = max (higher q) (highest qs)
