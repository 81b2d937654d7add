-- What a level's shortlists have to show for it.
use Rattle.std.proofs.Common.{◌≡◌, ℕ, zero, suc, ◌+◌, ◌<◌, ◌≤◌, Bool, true, false, not, cond, ltb, eqb, ◌⊎◌, [], ◌∷◌, length, get_or, map, Some, None, Option, sym, refl, ap, ◌∙◌, inl, inr, ⊎_elim, arith, List, min}
use lib.Count.{ones}
use Rattle.std.specs.List.{fold, list_any, position, position_or_len, reduce}
use Rattle.std.specs.Option.{ok_or}
use Rattle.std.proofs.lemmas.Bool.{cases_lt, cond-true, cond_both, eqb-false, eqb-true, false_from_ne_true, lt-ltb, not-false, not-true}
use borrow.Author.Tests.{clash}
use Rattle.std.proofs.lemmas.List.{get_or-map}
use Rattle.std.proofs.lemmas.Option.{none-some}
use Rattle.std.proofs.lemmas.List.Folds.{Any-from_list_any, list_any_at}
use Rattle.std.proofs.lemmas.List.Quantifiers.{position-Some}
use Rattle.judge.specs.Causes.{Lightest, Shows, Wants}
use Rattle.judge.specs.Search.{Groups, accurate_in, group}
use Rattle.judge.specs.Sets.{Accurate, Fits, Passes}
use Rattle.judge.specs.Shortlists.{Whole, item, listed}
use Rattle.judge.specs.declared.shortlists.ByCount.{ByCount}
use Rattle.judge.specs.declared.shortlists.Entry.{Entry}
use Rattle.judge.specs.declared.shortlists.Shortlist.{Shortlist}
use Rattle.judge.specs.declared.verdicts.Cause.TheVariants.{Accuracy, Statistics}
use Rattle.standard.specs.Meaning.{Lawful, Meaning}
use Rattle.terms.specs.declared.levels.Level.{Level}
use Rattle.terms.specs.declared.pairs.Pair.{Pair}

-- what holds of the first item and of the others
each : (P : Entry → Type 0) (e : Entry) (es : List Entry) → P e → ((k : ℕ) → k < length es → P (item es k)) → (k : ℕ) → k < length (e ∷ es) → P (item (e ∷ es) k)
each P e es here others zero h = here
each P e es here others (suc k) h = others k (omega arith)

-- the fewest that entries strike
fewest_of : (items : List Entry) (n : ℕ) → ((fold min n (map (λ (e : Entry). e.struck) items) ≡ n) ⊎ ((k : ℕ) × (k < length items) × ((item items k).struck ≡ fold min n (map (λ (e : Entry). e.struck) items))))
    × (fold min n (map (λ (e : Entry). e.struck) items) ≤ n) × ((k : ℕ) → k < length items → fold min n (map (λ (e : Entry). e.struck) items) ≤ (item items k).struck)
fewest_of [] n = (inl refl, omega arith, λ k h. absurd (omega arith))
fewest_of (e ∷ es) n =
    let rest = fewest_of es (min n e.struck) in (
      ⊎_elim
          (λ is. ⊎_elim (λ less. inl (omega arith)) (λ more. inr (0, omega arith, omega arith)) (cases_lt n e.struck))
          (λ later. inr (suc later.0, omega (arith, later.1), later.2))
          rest.0,
      omega (arith, rest.1),
      each (λ x. fold min (min n e.struck) (map (λ (e : Entry). e.struck) es) ≤ x.struck) e es (omega (arith, rest.1)) rest.2,
    )

pub least_of : (items : List Entry) (n : ℕ) → reduce min (map (λ (e : Entry). e.struck) items) ≡ Some n
    → ((k : ℕ) × (k < length items) × ((item items k).struck ≡ n)) × ((k : ℕ) → k < length items → n ≤ (item items k).struck)
least_of [] n is = absurd (none-some n is)
least_of (e ∷ es) n is =
    let all = fewest_of es e.struck in
    let same : fold min e.struck (map (λ (e : Entry). e.struck) es) ≡ n = cc is in (
      ⊎_elim (λ first. (0, omega arith, omega arith)) (λ later. (suc later.0, omega (arith, later.1), later.2 ∙ same)) all.0,
      each (λ x. n ≤ x.struck) e es (omega (arith, all.1)) (λ k h. omega (arith, all.2 k h)),
    )

none_of : (items : List Entry) → reduce min (map (λ (e : Entry). e.struck) items) ≡ None → length items ≡ 0
none_of [] is = refl
none_of (e ∷ es) is = absurd (none-some _ (sym is))

-- no group passes a test that finds no position
passes_at : (p : Shortlist → Bool) (lists : List Shortlist) (d : Shortlist) (k : ℕ) → k < length lists → p (get_or lists k d) ≡ true → position_or_len p lists < length lists
passes_at p [] d k h e = absurd (omega arith)
passes_at p (x ∷ xs) d zero h e = rw e (omega arith)
passes_at p (x ∷ xs) d (suc k) h e =
    cond_both (not (p x)) (1 + position_or_len p xs) 0 (λ n. n < suc (length xs)) (λ _. omega (arith, passes_at p xs d k (omega arith) e)) (λ _. omega arith)

position_none : (p : Shortlist → Bool) (lists : List Shortlist) (d : Shortlist) → position p lists ≡ None → (k : ℕ) → k < length lists → p (get_or lists k d) ≡ false
position_none p lists d is k h =
    false_from_ne_true (p (get_or lists k d))
    (λ e. none-some _ (sym is ∙ cond-true (ltb (position_or_len p lists) (length lists)) (Some (position_or_len p lists)) None (lt-ltb _ _ (passes_at p lists d k h e))))

-- a list that stands for any
no_list : Shortlist
no_list = record { entries = record { items = [] }; accurate = false }

module _ (m : Meaning) (lawful : Lawful m) (at : Level) (runs : List Pair) where
  three : (set : ℕ) → Fits m runs set → ones set ≤ 3
  three set fits = omega (arith, fits.strikes, lawful.struck_to)

  -- which of the two yeses is wanting where no set gets both
  wants : (accurate : Bool) → ((set : ℕ) → Fits m runs set → Passes m at runs set → ⊥)
      → (accurate ≡ true → (set : ℕ) × Fits m runs set × Accurate m at runs set)
      → (accurate ≡ false → (set : ℕ) → Fits m runs set → Accurate m at runs set → ⊥)
      → Wants m at runs (cond accurate (Statistics at) (Accuracy at))
  wants true barren some none = record { barren = barren; which = inr (refl, some refl) }
  wants false barren some none = record { barren = barren; which = inl (refl, none refl) }

  -- one list of all sets
  module _ (list : Shortlist) (w : Whole m at runs 0 3 list) where
    list_lightest : (n : ℕ) → reduce min (map (λ (e : Entry). e.struck) (listed list)) ≡ Some n → Lightest m at runs n
    list_lightest n is =
        let some = least_of (listed list) n is in
        let k = some.0.0 in
        let here = w.listed k some.0.1 in
        record {
          set = (item (listed list) k).set;
          fits = here.fits;
          passes = here.passes;
          is = omega (arith, here.struck, some.0.2);
          least = λ other fits passes.
              let found = w.complete other fits.closed (omega arith, three other fits) fits passes in
              let there = w.listed found.0 found.1 in
              omega (arith, some.1 found.0 found.1, there.struck, ap ones found.2);
        }

    list_wants : reduce min (map (λ (e : Entry). e.struck) (listed list)) ≡ None → Wants m at runs (cond list.accurate (Statistics at) (Accuracy at))
    list_wants is =
        let none = none_of (listed list) is in
        wants list.accurate
        (λ set fits passes. let found = w.complete set fits.closed (omega arith, three set fits) fits passes in omega (arith, found.1))
        w.some
        (λ e set fits right. w.none e set fits.closed (omega arith, three set fits) fits right)

    pub list_shows : (fewest : Option ℕ) → fewest ≡ reduce min (map (λ (e : Entry). e.struck) (listed list)) → Shows m at runs (ok_or fewest (cond list.accurate (Statistics at) (Accuracy at)))
    list_shows None is = list_wants (sym is)
    list_shows (Some n) is = list_lightest n (sym is)

  -- the same sets in four groups
  module _ (lows : ByCount) (w : Groups m at runs lows) where
    -- whether a group has any set
    abbrev has_any : Shortlist → Bool
    has_any list = not (eqb (length (listed list)) 0)

    abbrev has_accurate : Shortlist → Bool
    has_accurate list = list.accurate

    module _ (n : ℕ) (h : n ≤ 3) (d : Shortlist) where
      size : length (group lows n) ≡ length (listed (get_or lows.groups n d))
      size = ap length (get_or-map listed lows.groups n d [] (omega (arith, lows.four)))

      accurate_is : accurate_in lows n ≡ (get_or lows.groups n d).accurate
      accurate_is = get_or-map has_accurate lows.groups n d false (omega (arith, lows.four))

      none_in : has_any (get_or lows.groups n d) ≡ false → (set : ℕ) → ones set ≡ n → Fits m runs set → Passes m at runs set → ⊥
      none_in none set is fits passes =
          let found = (w n h).complete set fits.closed (omega arith, omega arith) fits passes in
          omega (arith, found.1, size, eqb-true (length (listed (get_or lows.groups n d))) 0 (not-false _ none))

    -- The first group that has any is the fewest.
    pub groups_lightest : (n : ℕ) → position has_any lows.groups ≡ Some n → Lightest m at runs n
    groups_lightest n is =
        let first = position-Some has_any lows.groups n no_list is in
        let h : n ≤ 3 = omega (arith, first.0, lows.four) in
        let any : 0 < length (group lows n) = omega (arith, size n h no_list, eqb-false (length (listed (get_or lows.groups n no_list))) 0 (not-true _ first.1)) in
        let here = (w n h).listed 0 any in
        let range = (w n h).between 0 any in
        record {
          set = (item (group lows n) 0).set;
          fits = here.fits;
          passes = here.passes;
          is = omega arith;
          least = λ other fits passes.
              ⊎_elim
              (λ less. absurd (none_in (ones other) (three other fits) no_list (first.2 (ones other) less) other refl fits passes))
              (λ more. more)
              (cases_lt (ones other) n);
        }

    pub groups_wants : position has_any lows.groups ≡ None → Wants m at runs (cond (list_any has_accurate lows.groups) (Statistics at) (Accuracy at))
    groups_wants is =
        wants (list_any has_accurate lows.groups)
        (λ set fits passes.
        let few = three set fits in
        none_in (ones set) few no_list (position_none has_any lows.groups no_list is (ones set) (omega (arith, few, lows.four))) set refl fits passes)
        (λ e.
        let any = Any-from_list_any has_accurate lows.groups e in
        let h : any.0 ≤ 3 = omega (arith, any.2, lows.four) in
        (w any.0 h).some (accurate_is any.0 h any.1 ∙ ap has_accurate any.3 ∙ any.4))
        (λ e set fits right.
        let few = three set fits in
        let n = ones set in
        let none : (get_or lows.groups n no_list).accurate ≡ false =
        false_from_ne_true (get_or lows.groups n no_list).accurate (λ yes. clash (sym e ∙ list_any_at has_accurate lows.groups n no_list (omega (arith, few, lows.four)) yes)) in
        (w n few).none (accurate_is n few no_list ∙ none) set fits.closed (omega arith, omega arith) fits right)
