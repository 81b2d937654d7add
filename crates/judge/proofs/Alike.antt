-- What answers under a standard answers under every standard of the same meaning.
use Rattle.std.proofs.Common.{ℕ, ◌/◌, ◌%◌, ◌≤◌, eqb, List, [], ◌∷◌, length, sym, refl, ◌∙◌, zero-le, arith}
use Rattle.std.proofs.lemmas.Bool.{cond_both}
use Rattle.judge.specs.Judging.{AllFit, AllPass, Allowed, Answers, Barren, Because, Campaign, First, Meets, TooFew}
use Rattle.judge.specs.Law.{OneMeaning, Tallied}
use Rattle.judge.specs.Sets.{Accurate, Fits, Passes}
use Rattle.judge.specs.declared.verdicts.Cause.{Cause}
use Rattle.judge.specs.declared.verdicts.Cause.TheVariants.{Accuracy, Statistics, TooMany, Together}
use Rattle.judge.specs.declared.verdicts.Verdict.{Verdict}
use Rattle.judge.specs.declared.verdicts.Verdict.TheVariants.{Short, Certified, Denied}
use Rattle.runs.specs.Sets.{Selection, kept}
use Rattle.standard.specs.Meaning.{Meaning}
use Rattle.tally.specs.Sums.{sums_of}
use Rattle.terms.specs.Levels.{at_level}
use Rattle.terms.specs.Readings.{highest}
use Rattle.terms.specs.declared.levels.Level.{Level}
use Rattle.terms.specs.declared.levels.Level.TheVariants.{Low, Mid, High}
use Rattle.terms.specs.declared.pairs.Pair.{Pair}

-- the closed runs of a level, as a log keeps them
pub record LawfulRuns (qs : List Pair) : Type 0 where
  pub few : length qs ≤ 12
  pub within : highest qs ≤ 50000

-- What is kept is no more and no higher.
kept_fewer : (qs : List Pair) (set : ℕ) → (length (kept set qs) ≤ length qs) × (highest (kept set qs) ≤ highest qs)
kept_fewer [] set = (zero-le, zero-le)
kept_fewer (q ∷ qs) set =
    let rest = kept_fewer qs (set / 2) in
    cond_both (eqb (set % 2) 0) (q ∷ kept (set / 2) qs) (kept (set / 2) qs) (λ ys. (length ys ≤ length (q ∷ qs)) × (highest ys ≤ highest (q ∷ qs)))
    (λ _. (omega arith, omega arith)) (λ _. (omega arith, omega arith))

pub kept_tallied : (qs : List Pair) (set : ℕ) → LawfulRuns qs → Tallied (sums_of (kept set qs))
kept_tallied qs set lawful =
    let fewer = kept_fewer qs set in
    (kept set qs, record { few = omega (arith, lawful.few); within = omega (arith, lawful.within); sums = refl })

pub other_way : (m m' : Meaning) → OneMeaning m m' → OneMeaning m' m
other_way m m' one = record {
  accuracy = λ at s t. sym (one.accuracy at s t);
  statistics = λ at s t. sym (one.statistics at s t);
  together = λ a b d ta tb td. sym (one.together a b d ta tb td);
  least_kept = sym one.least_kept;
  most_struck = sym one.most_struck;
  most_in_all = sym one.most_in_all;
}

module _ (c : Campaign) (lawful : (at : Level) → LawfulRuns (at_level c at)) where
  -- one way
  module _ (m m' : Meaning) (one : OneMeaning m m') where
    fits : (at : Level) (set : ℕ) → Fits m (at_level c at) set → Fits m' (at_level c at) set
    fits at set f = record { closed = f.closed; keeps = omega (arith, f.keeps, one.least_kept); strikes = omega (arith, f.strikes, one.most_struck) }

    accurate : (at : Level) (set : ℕ) → Accurate m at (at_level c at) set → Accurate m' at (at_level c at) set
    accurate at set yea = sym (one.accuracy at _ (kept_tallied (at_level c at) set (lawful at))) ∙ yea

    passes : (at : Level) (set : ℕ) → Passes m at (at_level c at) set → Passes m' at (at_level c at) set
    passes at set p = record {
      accurate = accurate at set p.accurate;
      steady = sym (one.statistics at _ (kept_tallied (at_level c at) set (lawful at))) ∙ p.steady;
    }

    all_fit : (x : Selection) → AllFit m c x → AllFit m' c x
    all_fit x f at = fits at (at_level x at) (f at)

    all_pass : (x : Selection) → AllPass m c x → AllPass m' c x
    all_pass x p at = passes at (at_level x at) (p at)

    allowed : (x : Selection) → Allowed m c x → Allowed m' c x
    allowed x a = record { fits = all_fit x a.fits; in_all = omega (arith, a.in_all, one.most_in_all) }

    meets : (x : Selection) → Meets m c x → Meets m' c x
    meets x a = record {
      passes = all_pass x a.passes;
      together = sym (one.together _ _ _ (kept_tallied c.low x.low (lawful Low)) (kept_tallied c.mid x.mid (lawful Mid)) (kept_tallied c.high x.high (lawful High)))
          ∙ a.together;
    }

    too_few : (at : Level) → TooFew m c at → TooFew m' c at
    too_few at few = omega (arith, few, one.least_kept)

  first : (P Q : Level → Type 0) → ((at : Level) → P at → Q at) → ((at : Level) → Q at → P at) → (at : Level) → First P at → First Q at
  first P Q to from Low f = to Low f
  first P Q to from Mid f = (λ q. f.0 (from Low q), to Mid f.1)
  first P Q to from High f = (λ q. f.0 (from Low q), λ q. f.1 (from Mid q), to High f.2)

  -- both ways
  module _ (m m' : Meaning) (one : OneMeaning m m') where
    back : OneMeaning m' m
    back = other_way m m' one

    barren : (at : Level) → Barren m c at → Barren m' c at
    barren at none set f p = none set (fits m' m back at set f) (passes m' m back at set p)

    fruitful : (at : Level) → Barren m' c at → Barren m c at
    fruitful at none set f p = none set (fits m m' one at set f) (passes m m' one at set p)

    because : (why : Cause) → Because m c why → Because m' c why
    because (Accuracy at) b = (first (Barren m c) (Barren m' c) barren fruitful at b.0, λ set f a. b.1 set (fits m' m back at set f) (accurate m' m back at set a))
    because (Statistics at) b =
        (first (Barren m c) (Barren m' c) barren fruitful at b.0, (b.1.0, fits m m' one at _ b.1.1, accurate m m' one at _ b.1.2))
    because TooMany b =
        (λ at none. b.0 at (fruitful at none), λ x f p. omega (arith, b.1 x (all_fit m' m back x f) (all_pass m' m back x p), one.most_in_all))
    because Together b =
        (λ at none. b.0 at (fruitful at none), (b.1.0, allowed m m' one b.1.0 b.1.1, all_pass m m' one b.1.0 b.1.2))

    pub carried : (v : Verdict) → Answers m c v → Answers m' c v
    carried (Short at) a = first (TooFew m c) (TooFew m' c) (too_few m m' one) (too_few m' m back) at a
    carried (Certified x n) a = record {
      enough = λ at few. a.enough at (too_few m' m back at few);
      allowed = allowed m m' one x a.allowed;
      meets = meets m m' one x a.meets;
      count = a.count;
      best = λ y ay my. a.best y (allowed m' m back y ay) (meets m' m back y my);
    }
    carried (Denied why) a = record {
      enough = λ at few. a.enough at (too_few m' m back at few);
      none = λ x ax mx. a.none x (allowed m' m back x ax) (meets m' m back x mx);
      because = because why a.because;
    }
