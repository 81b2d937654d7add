-- The law of the judge, in plain sight: each of its parts follows from what the verdict says.
use Rattle.std.specs.Prelude.{◌≡◌, ℕ, ◌↔◌, List}
use Rattle.judge.specs.Judging.{Allowed, Answers, Campaign, Enough, Meets, NoWorse, struck_in_all}
use Rattle.judge.specs.declared.verdicts.Cause.{Cause}
use Rattle.judge.specs.declared.verdicts.Verdict.{Verdict}
use Rattle.judge.specs.declared.verdicts.Verdict.TheVariants.{Certified, Denied}
use Rattle.runs.specs.Sets.{Selection}
use Rattle.standard.specs.Meaning.{Meaning}
use Rattle.tally.specs.Sums.{Tallies}
use Rattle.tally.specs.declared.sums.Sums.{Sums}
use Rattle.terms.specs.declared.levels.Level.{Level}
use Rattle.terms.specs.declared.pairs.Pair.{Pair}

abbrev pub IsCertified : Verdict → Type 0
IsCertified v = (x : Selection) × ((n : ℕ) × (v ≡ Certified x n))

abbrev pub IsDenied : Verdict → Type 0
IsDenied v = (why : Cause) × (v ≡ Denied why)

-- the sums of some list of at most twelve lawful pairs
abbrev pub Tallied : Sums → Type 0
Tallied s = (qs : List Pair) × Tallies 12 s qs

-- Two standards are of one meaning: the same numbers, and the same answer to each question on every tally.
pub record OneMeaning (m m' : Meaning) : Type 0 where
  pub accuracy : (at : Level) (s : Sums) → Tallied s → m.accuracy at s ≡ m'.accuracy at s
  pub statistics : (at : Level) (s : Sums) → Tallied s → m.statistics at s ≡ m'.statistics at s
  pub together : (low mid high : Sums) → Tallied low → Tallied mid → Tallied high → m.together low mid high ≡ m'.together low mid high
  pub least_kept : m.least_kept ≡ m'.least_kept
  pub most_struck : m.most_struck ≡ m'.most_struck
  pub most_in_all : m.most_in_all ≡ m'.most_in_all

module _ (m : Meaning) (c : Campaign) where
  -- A certificate names an allowed selection that meets the standard and counts the runs it strikes, and every other one that
  -- meets it strikes as many at least, and if as many has no smaller code.
  pub record Certificate (x : Selection) (n : ℕ) : Type 0 where
    pub allowed : Allowed m c x
    pub meets : Meets m c x
    pub count : n ≡ struck_in_all x
    pub fewest : (y : Selection) → Allowed m c y → Meets m c y → NoWorse m c x y

  pub record Law (v : Verdict) : Type 0 where
    -- the verdict is the one that the rules give, and there is no other
    pub answers : Answers m c v
    pub only : (w : Verdict) → Answers m c w → w ≡ v
    -- with runs enough, it denies exactly when no allowed selection meets the standard, and certifies otherwise
    pub denies : Enough m c → IsDenied v ↔ ((x : Selection) → Allowed m c x → Meets m c x → ⊥)
    pub certifies : Enough m c → IsCertified v ↔ ((x : Selection) × Allowed m c x × Meets m c x)
    -- with a level that has too few, it does neither
    pub neither : (Enough m c → ⊥) → (IsDenied v → ⊥) × (IsCertified v → ⊥)
    pub certificate : (x : Selection) (n : ℕ) → v ≡ Certified x n → Certificate x n
    -- the same closed runs get the same verdict under every standard of one meaning
    pub alike : (m' : Meaning) → OneMeaning m m' → (w : Verdict) → Answers m' c w → w ≡ v
