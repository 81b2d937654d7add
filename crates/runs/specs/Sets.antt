-- Sets of struck positions at a level. Position k, from 1, counts 2 ^ (k - 1) in a set.
use Rattle.std.specs.Prelude.{ℕ, ◌/◌, ◌%◌, cond, List, [], ◌∷◌, ◌==◌}
use Rattle.terms.specs.declared.levels.Levels.{Levels}
use Rattle.terms.specs.declared.pairs.Pair.{Pair}

-- a set of struck positions at each level
abbrev pub Selection : Type 0
Selection = Levels ℕ

-- the pairs whose positions are not in the set, in order
abbrev pub kept : ℕ → List Pair → List Pair
kept set [] = []
kept set (q ∷ qs) = cond ((set % 2) == 0) (q ∷ kept (set / 2) qs) (kept (set / 2) qs)
