-- What the judge answers, of the closed runs of three levels under a standard.
use Rattle.std.specs.Prelude.{◌≡◌, ℕ, ◌+◌, ◌*◌, ◌<◌, ◌≤◌, true, ◌⊎◌, List, length, count_ones}
use Rattle.judge.specs.Sets.{Accurate, Fits, Passes}
use Rattle.judge.specs.declared.verdicts.Cause.{Cause}
use Rattle.judge.specs.declared.verdicts.Cause.TheVariants.{Accuracy, Statistics, TooMany, Together}
use Rattle.judge.specs.declared.verdicts.Verdict.{Verdict}
use Rattle.judge.specs.declared.verdicts.Verdict.TheVariants.{Short, Certified, Denied}
use Rattle.runs.specs.Sets.{Selection, kept}
use Rattle.standard.specs.Meaning.{Meaning}
use Rattle.tally.specs.Sums.{sums_of}
use Rattle.tally.specs.declared.sums.Sums.{Sums}
use Rattle.terms.specs.Levels.{at_level}
use Rattle.terms.specs.declared.levels.Level.{Level}
use Rattle.terms.specs.declared.levels.Level.TheVariants.{Low, Mid, High}
use Rattle.terms.specs.declared.levels.Levels.{Levels}
use Rattle.terms.specs.declared.pairs.Pair.{Pair}

-- the closed runs of each level, in closing order
abbrev pub Campaign : Type 0
Campaign = Levels (List Pair)

-- how many runs a selection strikes in all
abbrev pub struck_in_all : Selection → ℕ
struck_in_all x = count_ones x.low + count_ones x.mid + count_ones x.high

-- the code that decides among selections that strike as many
abbrev pub code : Selection → ℕ
code x = x.low + 4096 * x.mid + 16777216 * x.high

-- It holds of this level and of none before it.
abbrev pub First : (Level → Type 0) → Level → Type 0
First P Low = P Low
First P Mid = (P Low → ⊥) × P Mid
First P High = (P Low → ⊥) × (P Mid → ⊥) × P High

module _ (m : Meaning) (c : Campaign) where
  -- the sums of what a selection keeps at a level
  abbrev pub left_at : Selection → Level → Sums
  left_at x at = sums_of (kept (at_level x at) (at_level c at))

  -- Its sets fit.
  abbrev pub AllFit : Selection → Type 0
  AllFit x = (at : Level) → Fits m (at_level c at) (at_level x at)

  -- Each level gets yes to accuracy and to statistics.
  abbrev pub AllPass : Selection → Type 0
  AllPass x = (at : Level) → Passes m at (at_level c at) (at_level x at)

  -- A selection is allowed if its sets fit and it strikes at most the most in all.
  pub record Allowed (x : Selection) : Type 0 where
    pub fits : AllFit x
    pub in_all : struck_in_all x ≤ m.most_in_all

  -- It meets the standard if each level gets both yeses and the three get yes to together.
  pub record Meets (x : Selection) : Type 0 where
    pub passes : AllPass x
    pub together : m.together (left_at x Low) (left_at x Mid) (left_at x High) ≡ true

  -- The level has fewer closed runs than the least to be kept.
  abbrev pub TooFew : Level → Type 0
  TooFew at = length (at_level c at) < m.least_kept

  -- No level has.
  abbrev pub Enough : Type 0
  Enough = (at : Level) → TooFew at → ⊥

  -- No fitting set gets both yeses.
  abbrev pub Barren : Level → Type 0
  Barren at = (set : ℕ) → Fits m (at_level c at) set → Passes m at (at_level c at) set → ⊥

  -- x strikes fewer than y, or as many with a code that is no larger.
  abbrev pub NoWorse : Selection → Selection → Type 0
  NoWorse x y = (struck_in_all x < struck_in_all y) ⊎ ((struck_in_all x ≡ struck_in_all y) × (code x ≤ code y))

  -- The selection is allowed and meets the standard, n counts what it strikes, and none that does so too is better.
  pub record Best (x : Selection) (n : ℕ) : Type 0 where
    pub enough : Enough
    pub allowed : Allowed x
    pub meets : Meets x
    pub count : n ≡ struck_in_all x
    pub best : (y : Selection) → Allowed y → Meets y → NoWorse x y

  -- Why there is none: at the first level where no fitting set gets both yeses, none gets accuracy, or some do; else, fitting
  -- sets with both yeses always strike too many in all, or not always.
  abbrev pub Because : Cause → Type 0
  Because (Accuracy at) = First Barren at × ((set : ℕ) → Fits m (at_level c at) set → Accurate m at (at_level c at) set → ⊥)
  Because (Statistics at) = First Barren at × ((set : ℕ) × Fits m (at_level c at) set × Accurate m at (at_level c at) set)
  Because TooMany = ((at : Level) → Barren at → ⊥) × ((x : Selection) → AllFit x → AllPass x → m.most_in_all < struck_in_all x)
  Because Together = ((at : Level) → Barren at → ⊥) × ((x : Selection) × Allowed x × AllPass x)

  -- No allowed selection meets the standard, and this is why.
  pub record Denies (why : Cause) : Type 0 where
    pub enough : Enough
    pub none : (x : Selection) → Allowed x → Meets x → ⊥
    pub because : Because why

  -- What each verdict says.
  abbrev pub Answers : Verdict → Type 0
  Answers (Short at) = First TooFew at
  Answers (Certified x n) = Best x n
  Answers (Denied why) = Denies why
