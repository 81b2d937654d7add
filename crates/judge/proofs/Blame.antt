-- Why none meets the standard, from what each level has to show.
use Rattle.std.proofs.Common.{◌≡◌, ℕ, ◌+◌, Bool, true, false, ltb, [], ◌∷◌, length, Some, None, Option, sym, subst, ⊎_elim, arith, MatchOption}
use Rattle.std.specs.List.{find}
use Rattle.std.proofs.lemmas.Bool.{cond_both, ltb-false, ltb-true}
use Rattle.judge.specs.Causes.{Lightest, LightestInAll, Wants}
use Rattle.judge.specs.Judging.{Barren, Because, Campaign, Enough, First, TooFew}
use Rattle.judge.specs.Sets.{Fits, Passes}
use Rattle.judge.specs.declared.verdicts.Cause.{Cause}
use Rattle.judge.proofs.Groups.{by_level}
use Rattle.runs.specs.Sets.{Selection}
use Rattle.standard.specs.Meaning.{Meaning}
use Rattle.terms.specs.Levels.{at_level}
use Rattle.terms.specs.declared.levels.Level.{Level}
use Rattle.terms.specs.declared.levels.Level.TheVariants.{Low, Mid, High}

module _ (m : Meaning) (c : Campaign) where
  pub fruitful : (at : Level) (n : ℕ) → Lightest m at (at_level c at) n → Barren m c at → ⊥
  fruitful at n light none = none light.set light.fits light.passes

  -- The first level with no set that gets both yeses is to blame.
  pub blamed : (at : Level) (why : Cause) → Wants m at (at_level c at) why → First (Barren m c) at → Because m c why
  blamed at why wants first =
      ⊎_elim (λ a. subst (Because m c) (sym a.0) (first, a.1)) (λ s. subst (Because m c) (sym s.0) (first, s.1)) wants.which

  -- all three
  pub in_all : (i j k : ℕ) → Lightest m Low c.low i → Lightest m Mid c.mid j → Lightest m High c.high k → LightestInAll m c (i + j + k)
  in_all i j k low mid high =
      let x : Selection = record { low = low.set; mid = mid.set; high = high.set } in
      record {
        none_barren = by_level (λ at. Barren m c at → ⊥) (fruitful Low i low) (fruitful Mid j mid) (fruitful High k high);
        chosen = x;
        fits = by_level (λ at. Fits m (at_level c at) (at_level x at)) low.fits mid.fits high.fits;
        passes = by_level (λ at. Passes m at (at_level c at) (at_level x at)) low.passes mid.passes high.passes;
        is = omega (arith, low.is, mid.is, high.is);
        least = λ y fits passes.
            let a = low.least y.low (fits Low) (passes Low) in
            let b = mid.least y.mid (fits Mid) (passes Mid) in
            let d = high.least y.high (fits High) (passes High) in
            omega arith;
      }

  -- the first level that has too few, if any has
  pub first_short : (least : ℕ) → least ≡ m.least_kept → (short : Option Level) → short ≡ find (λ at. ltb (length (at_level c at)) least) (Low ∷ Mid ∷ High ∷ []) → MatchOption short (Enough m c) (First (TooFew m c))
  first_short least least_is short short_is =
      let few : (at : Level) → Bool = λ at. ltb (length (at_level c at)) least in
      let yes : (at : Level) → few at ≡ true → TooFew m c at = λ at e. omega (arith, ltb-true (length (at_level c at)) least e) in
      let no : (at : Level) → few at ≡ false → TooFew m c at → ⊥ = λ at e few. omega (arith, ltb-false (length (at_level c at)) least e) in
      let Right : Option Level → Type 0 = λ r. MatchOption r (Enough m c) (First (TooFew m c)) in
      subst Right (sym short_is)
      (cond_both (few Low) (Some Low) _ Right (yes Low)
      (λ low. cond_both (few Mid) (Some Mid) _ Right (λ mid. (no Low low, yes Mid mid))
      (λ mid. cond_both (few High) (Some High) None Right (λ high. (no Low low, no Mid mid, yes High high))
      (λ high. by_level (λ at. TooFew m c at → ⊥) (no Low low) (no Mid mid) (no High high)))))
