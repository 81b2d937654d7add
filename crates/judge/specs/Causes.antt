-- What a level has to show for itself when nothing meets the standard.
use Rattle.std.specs.Prelude.{◌≡◌, ℕ, ◌≤◌, ◌⊎◌, List, Ok, Err, Result, count_ones}
use Rattle.judge.specs.Judging.{AllFit, AllPass, Barren, Because, Campaign, struck_in_all}
use Rattle.judge.specs.Sets.{Accurate, Fits, Passes}
use Rattle.judge.specs.declared.verdicts.Cause.{Cause}
use Rattle.judge.specs.declared.verdicts.Cause.TheVariants.{Accuracy, Statistics}
use Rattle.runs.specs.Sets.{Selection}
use Rattle.standard.specs.Meaning.{Meaning}
use Rattle.terms.specs.declared.levels.Level.{Level}
use Rattle.terms.specs.declared.pairs.Pair.{Pair}

module _ (m : Meaning) (at : Level) (runs : List Pair) where
  -- n is the fewest that a fitting set with both yeses strikes.
  pub record Lightest (n : ℕ) : Type 0 where
    pub set : ℕ
    pub fits : Fits m runs set
    pub passes : Passes m at runs set
    pub is : count_ones set ≡ n
    pub least : (other : ℕ) → Fits m runs other → Passes m at runs other → n ≤ count_ones other

  -- No fitting set gets both yeses, and this is why.
  pub record Wants (why : Cause) : Type 0 where
    pub barren : (set : ℕ) → Fits m runs set → Passes m at runs set → ⊥
    pub which : ((why ≡ Accuracy at) × ((set : ℕ) → Fits m runs set → Accurate m at runs set → ⊥))
        ⊎ ((why ≡ Statistics at) × ((set : ℕ) × Fits m runs set × Accurate m at runs set))

  -- The fewest that a fitting set with both yeses strikes, or why there is none.
  abbrev pub Shows : Result ℕ Cause → Type 0
  Shows (Ok n) = Lightest n
  Shows (Err why) = Wants why

module _ (m : Meaning) (c : Campaign) where
  -- n is the fewest that fitting sets with both yeses strike in all.
  pub record LightestInAll (n : ℕ) : Type 0 where
    pub none_barren : (at : Level) → Barren m c at → ⊥
    pub chosen : Selection
    pub fits : AllFit m c chosen
    pub passes : AllPass m c chosen
    pub is : struck_in_all chosen ≡ n
    pub least : (other : Selection) → AllFit m c other → AllPass m c other → n ≤ struck_in_all other

  -- That number, or why there is none.
  abbrev pub ShowsInAll : Result ℕ Cause → Type 0
  ShowsInAll (Ok n) = LightestInAll n
  ShowsInAll (Err why) = Because m c why
