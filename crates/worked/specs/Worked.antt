-- Worked pairs, for kind ppm, an emission standard of 2000 and a span of 5000.
use Rattle.std.specs.Prelude.{◌≡◌, ℕ, Bool, true, false, List, ◌++◌, replicate}
use Rattle.accuracy.specs.Accuracy.{pollutant_accurate}
use Rattle.statistics.specs.Correlation.{is_correlated}
use Rattle.statistics.specs.Variance.{is_steady}
use Rattle.tally.specs.Sums.{sums_of}
use Rattle.terms.specs.declared.kinds.Kind.TheVariants.{Ppm}
use Rattle.terms.specs.declared.pairs.Pair.{Pair}
use Rattle.worked.specs.declared.Edge.{Edge}
use Rattle.worked.specs.declared.WorkedPairs.{WorkedPairs}

abbrev pub accurate : List Pair → Bool
accurate qs = pollutant_accurate Ppm 2000 (sums_of qs)

abbrev pub steady : List Pair → Bool
steady qs = is_steady Ppm 5000 (sums_of qs)

abbrev pub correlated : List Pair → Bool
correlated qs = is_correlated (sums_of qs)

-- so many times the same pair
abbrev pub of : ℕ → ℕ → ℕ → List Pair
of n r p = replicate n (record { reference = r; predicted = p })

-- the answers on two lists of pairs
pub record Answers (question : List Pair → Bool) (at beyond : List Pair) (e : Edge) : Type 0 where
  pub at_is : e.at ≡ question at
  pub beyond_is : e.beyond ≡ question beyond

pub record Worked (w : WorkedPairs) : Type 0 where
  pub tenth : Answers accurate (of 3 2000 1800) (of 1 2000 1799 ++ of 2 2000 1800) w.tenth
  pub fifth : Answers accurate (of 3 1200 1000) (of 3 1201 1001) w.fifth
  pub scatter : Answers accurate
      (of 4 2000 2260 ++ of 4 2000 1740 ++ of 1 2000 2000)
      (of 4 2000 2261 ++ of 4 2000 1739 ++ of 1 2000 2000)
      w.scatter
  pub variance : Answers steady
      (of 4 2100 2185 ++ of 4 1900 1815 ++ of 1 2000 2000)
      (of 4 2100 2186 ++ of 4 1900 1814 ++ of 1 2000 2000)
      w.variance
  pub correlation : Answers correlated
      (of 1 100 100 ++ of 1 200 300 ++ of 1 300 200 ++ of 1 400 400)
      (of 1 100 100 ++ of 1 200 300 ++ of 1 300 200 ++ of 1 400 399)
      w.correlation

-- The answer is yes at the edge, and no just beyond it.
abbrev pub IsEdge : Edge → Type 0
IsEdge e = (e.at ≡ true) × (e.beyond ≡ false)

pub record Edges (w : WorkedPairs) : Type 0 where
  pub tenth : IsEdge w.tenth
  pub fifth : IsEdge w.fifth
  pub scatter : IsEdge w.scatter
  pub variance : IsEdge w.variance
  pub correlation : IsEdge w.correlation
