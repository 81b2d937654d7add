-- The law of the judge follows from what its verdict says.
use Rattle.std.proofs.Common.{◌≡◌, ℕ, ◌↔◌, refl, subst, arith}
use Rattle.judge.specs.Judging.{Allowed, Answers, Campaign, Enough, Meets, TooFew}
use Rattle.judge.specs.Law.{Certificate, IsCertified, IsDenied, Law}
use Rattle.judge.specs.declared.verdicts.Verdict.{Verdict}
use Rattle.judge.specs.declared.verdicts.Verdict.TheVariants.{Short, Certified, Denied}
use Rattle.judge.proofs.Alike.{LawfulRuns, carried, other_way}
use Rattle.judge.proofs.Unique.{first_holds, only_one}
use Rattle.runs.specs.Sets.{Selection}
use Rattle.standard.specs.Meaning.{Meaning}
use Rattle.terms.specs.Levels.{at_level}
use Rattle.terms.specs.declared.levels.Level.{Level}

module _ (m : Meaning) (c : Campaign) where
  denies : (v : Verdict) → Answers m c v → Enough m c → IsDenied v ↔ ((x : Selection) → Allowed m c x → Meets m c x → ⊥)
  denies (Short at) a enough = absurd (enough at (first_holds (TooFew m c) at a))
  denies (Certified x n) a enough =
      (λ d. let z : ◌≡◌ {A = ℕ} 0 1 = cc d.1 in absurd (omega arith), λ none. absurd (none x a.allowed a.meets))
  denies (Denied why) a enough = (λ _. a.none, λ _. (why, refl))

  certifies : (v : Verdict) → Answers m c v → Enough m c → IsCertified v ↔ ((x : Selection) × Allowed m c x × Meets m c x)
  certifies (Short at) a enough = absurd (enough at (first_holds (TooFew m c) at a))
  certifies (Certified x n) a enough = (λ _. (x, a.allowed, a.meets), λ _. (x, (n, refl)))
  certifies (Denied why) a enough =
      (λ d. let z : ◌≡◌ {A = ℕ} 0 1 = cc d.1.1 in absurd (omega arith), λ some. absurd (a.none some.0 some.1 some.2))

  neither : (v : Verdict) → Answers m c v → (Enough m c → ⊥) → (IsDenied v → ⊥) × (IsCertified v → ⊥)
  neither (Short at) a short =
      (λ d. let z : ◌≡◌ {A = ℕ} 0 1 = cc d.1 in omega arith, λ d. let z : ◌≡◌ {A = ℕ} 0 1 = cc d.1.1 in omega arith)
  neither (Certified x n) a short = absurd (short a.enough)
  neither (Denied why) a short = absurd (short a.enough)

  certificate : (x : Selection) (n : ℕ) → Answers m c (Certified x n) → Certificate m c x n
  certificate x n a = record { allowed = a.allowed; meets = a.meets; count = a.count; fewest = a.best }

  pub the_law : ((at : Level) → LawfulRuns (at_level c at)) → (v : Verdict) → Answers m c v → Law m c v
  the_law lawful v a = record {
    answers = a;
    only = λ w b. only_one m c (λ at. (lawful at).few) w v b a;
    denies = denies v a;
    certifies = certifies v a;
    neither = neither v a;
    certificate = λ x n is. certificate x n (subst (Answers m c) is a);
    alike = λ m' one w b. only_one m c (λ at. (lawful at).few) w v (carried c lawful m' m (other_way m m' one) w b) a;
  }
