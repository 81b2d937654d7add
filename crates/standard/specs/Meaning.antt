-- What a standard means: its answer to each question, and its three numbers.
use Rattle.std.specs.Prelude.{ℕ, ◌≤◌, Bool}
use Rattle.tally.specs.declared.sums.Sums.{Sums}
use Rattle.terms.specs.declared.levels.Level.{Level}

-- The numbers are the least runs kept at a level, the most struck at a level, and the most struck in all.
pub record Meaning : Type 0 where
  pub accuracy : Level → Sums → Bool
  pub statistics : Level → Sums → Bool
  pub together : Sums → Sums → Sums → Bool
  pub least_kept : ℕ
  pub most_struck : ℕ
  pub most_in_all : ℕ

-- the ranges of the numbers
pub record Lawful (m : Meaning) : Type 0 where
  pub least_from : 3 ≤ m.least_kept
  pub least_to : m.least_kept ≤ 12
  pub struck_to : m.most_struck ≤ 3
  pub in_all_to : m.most_in_all ≤ 9
