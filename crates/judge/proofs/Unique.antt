-- The closed runs of a campaign have one verdict under a standard, and no other.
use Rattle.std.proofs.Common.{◌≡◌, ℕ, ◌<◌, ◌≤◌, length, refl, ap, subst, ⊎_elim, arith}
use Rattle.judge.specs.Judging.{Answers, Barren, Because, Best, Campaign, First, TooFew, code, struck_in_all}
use Rattle.judge.specs.Sets.{Accurate, Fits}
use Rattle.judge.specs.declared.verdicts.Cause.{Cause}
use Rattle.judge.specs.declared.verdicts.Cause.TheVariants.{Accuracy, Statistics, TooMany, Together}
use Rattle.judge.specs.declared.verdicts.Verdict.{Verdict}
use Rattle.judge.specs.declared.verdicts.Verdict.TheVariants.{Short, Certified, Denied}
use Rattle.judge.proofs.Counting.{below_4096}
use Rattle.runs.specs.Sets.{Selection}
use Rattle.standard.specs.Meaning.{Meaning}
use Rattle.terms.specs.Levels.{at_level}
use Rattle.terms.specs.declared.levels.Level.{Level}
use Rattle.terms.specs.declared.levels.Level.TheVariants.{Low, Mid, High}

pub first_holds : (P : Level → Type 0) (at : Level) → First P at → P at
first_holds P Low f = f
first_holds P Mid f = f.1
first_holds P High f = f.2

first_one : (P : Level → Type 0) (a b : Level) → First P a → First P b → a ≡ b
first_one P Low Low f g = refl
first_one P Low Mid f g = absurd (g.0 f)
first_one P Low High f g = absurd (g.0 f)
first_one P Mid Low f g = absurd (f.0 g)
first_one P Mid Mid f g = refl
first_one P Mid High f g = absurd (g.1 f.1)
first_one P High Low f g = absurd (f.0 g)
first_one P High Mid f g = absurd (f.1 g.1)
first_one P High High f g = refl

same_sets : {a b d a' b' d' : ℕ} → a ≡ a' → b ≡ b' → d ≡ d' → ◌≡◌ {A = Selection} (record { low = a; mid = b; high = d }) (record { low = a'; mid = b'; high = d' })
same_sets p q r = cc

-- The code of sets of twelve positions tells them apart.
same_code : (x y : Selection) → x.low < 4096 → x.mid < 4096 → y.low < 4096 → y.mid < 4096 → code x ≡ code y → x ≡ y
same_code x y a b d e same = same_sets (omega arith) (omega arith) (omega arith)

module _ (m : Meaning) (c : Campaign) where
  -- none of a level's fitting sets is accurate, and one is
  wanting_one : (a b : Level) → First (Barren m c) a → First (Barren m c) b → ((set : ℕ) → Fits m (at_level c a) set → Accurate m a (at_level c a) set → ⊥)
      → ((set : ℕ) × Fits m (at_level c b) set × Accurate m b (at_level c b) set) → ⊥
  wanting_one a b f g none some =
      subst (λ at. (set : ℕ) → Fits m (at_level c at) set → Accurate m at (at_level c at) set → ⊥) (first_one (Barren m c) a b f g) none some.0 some.1 some.2

  one_cause : (v w : Cause) → Because m c v → Because m c w → v ≡ w
  one_cause (Accuracy a) (Accuracy b) f g = ap Accuracy (first_one (Barren m c) a b f.0 g.0)
  one_cause (Accuracy a) (Statistics b) f g = absurd (wanting_one a b f.0 g.0 f.1 g.1)
  one_cause (Accuracy a) TooMany f g = absurd (g.0 a (first_holds (Barren m c) a f.0))
  one_cause (Accuracy a) Together f g = absurd (g.0 a (first_holds (Barren m c) a f.0))
  one_cause (Statistics a) (Accuracy b) f g = absurd (wanting_one b a g.0 f.0 g.1 f.1)
  one_cause (Statistics a) (Statistics b) f g = ap Statistics (first_one (Barren m c) a b f.0 g.0)
  one_cause (Statistics a) TooMany f g = absurd (g.0 a (first_holds (Barren m c) a f.0))
  one_cause (Statistics a) Together f g = absurd (g.0 a (first_holds (Barren m c) a f.0))
  one_cause TooMany (Accuracy b) f g = absurd (f.0 b (first_holds (Barren m c) b g.0))
  one_cause TooMany (Statistics b) f g = absurd (f.0 b (first_holds (Barren m c) b g.0))
  one_cause TooMany TooMany f g = refl
  one_cause TooMany Together f g = absurd (omega (arith, f.1 g.1.0 g.1.1.fits g.1.2, g.1.1.in_all))
  one_cause Together (Accuracy b) f g = absurd (f.0 b (first_holds (Barren m c) b g.0))
  one_cause Together (Statistics b) f g = absurd (f.0 b (first_holds (Barren m c) b g.0))
  one_cause Together TooMany f g = absurd (omega (arith, g.1 f.1.0 f.1.1.fits f.1.2, f.1.1.in_all))
  one_cause Together Together f g = refl

  one_best : ((at : Level) → length (at_level c at) ≤ 12) → (x y : Selection) (n k : ℕ) → Best m c x n → Best m c y k → Certified x n ≡ Certified y k
  one_best short x y n k f g =
      let xl = below_4096 x.low _ (short Low) (f.allowed.fits Low).closed in
      let xm = below_4096 x.mid _ (short Mid) (f.allowed.fits Mid).closed in
      let yl = below_4096 y.low _ (short Low) (g.allowed.fits Low).closed in
      let ym = below_4096 y.mid _ (short Mid) (g.allowed.fits Mid).closed in
      let equal : code x ≡ code y =
      ⊎_elim
      (λ l. ⊎_elim (λ k. omega arith) (λ k. omega arith) (g.best x f.allowed f.meets))
      (λ l. ⊎_elim (λ k. omega arith) (λ k. omega arith) (g.best x f.allowed f.meets))
      (f.best y g.allowed g.meets) in
      let selection = same_code x y xl xm yl ym equal in
      let many = ap struck_in_all selection in
      let count : n ≡ k = omega (arith, f.count, g.count) in
      cc

  pub only_one : ((at : Level) → length (at_level c at) ≤ 12) → (v w : Verdict) → Answers m c v → Answers m c w → v ≡ w
  only_one short (Short a) (Short b) f g = ap Short (first_one (TooFew m c) a b f g)
  only_one short (Short a) (Certified y n) f g = absurd (g.enough a (first_holds (TooFew m c) a f))
  only_one short (Short a) (Denied w) f g = absurd (g.enough a (first_holds (TooFew m c) a f))
  only_one short (Certified x n) (Short b) f g = absurd (f.enough b (first_holds (TooFew m c) b g))
  only_one short (Certified x n) (Certified y k) f g = one_best short x y n k f g
  only_one short (Certified x n) (Denied w) f g = absurd (g.none x f.allowed f.meets)
  only_one short (Denied v) (Short b) f g = absurd (f.enough b (first_holds (TooFew m c) b g))
  only_one short (Denied v) (Certified y n) f g = absurd (f.none y g.allowed g.meets)
  only_one short (Denied v) (Denied w) f g = ap Denied (one_cause v w f.because g.because)
