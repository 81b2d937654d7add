-- Which sets of positions may be struck at a level, and which of them get the standard's yes there.
use Rattle.std.specs.Prelude.{◌≡◌, ℕ, ◌^◌, ◌<◌, ◌≤◌, true, List, length, count_ones}
use Rattle.runs.specs.Sets.{kept}
use Rattle.standard.specs.Meaning.{Meaning}
use Rattle.tally.specs.Sums.{sums_of}
use Rattle.terms.specs.declared.levels.Level.{Level}
use Rattle.terms.specs.declared.pairs.Pair.{Pair}

-- A set fits a level: it strikes closed runs only, keeps at least the least number, and strikes at most the most at a level.
pub record Fits (m : Meaning) (runs : List Pair) (set : ℕ) : Type 0 where
  pub closed : set < 2 ^ length runs
  pub keeps : m.least_kept ≤ length (kept set runs)
  pub strikes : count_ones set ≤ m.most_struck

-- What is kept gets yes to accuracy.
abbrev pub Accurate : Meaning → Level → List Pair → ℕ → Type 0
Accurate m at runs set = m.accuracy at (sums_of (kept set runs)) ≡ true

-- What is kept gets both yeses.
pub record Passes (m : Meaning) (at : Level) (runs : List Pair) (set : ℕ) : Type 0 where
  pub accurate : Accurate m at runs set
  pub steady : m.statistics at (sums_of (kept set runs)) ≡ true
