-- A shortlist grows by one set.
use Rattle.std.proofs.Common.{◌≡◌, ℕ, ◌+◌, ◌<◌, ◌≤◌, Bool, true, List, [], ◌∷◌, ◌++◌, length, sym, refl, ap, ◌∙◌, subst, ⊎_elim, arith, below_more}
use borrow.Author.Tests.{clash}
use lib.Count.{ones}
use Rattle.std.proofs.lemmas.List.{get_or_append_left, get_or_push, length_push}
use Rattle.std.proofs.lemmas.Bool.{cases_lt}
use Rattle.judge.specs.Sets.{Accurate, Fits, Passes}
use Rattle.judge.specs.Shortlists.{Between, Listed, Upto, blank, item}
use Rattle.judge.specs.declared.shortlists.Entry.{Entry}
use Rattle.judge.proofs.Counting.{few_more, few_same}
use Rattle.standard.specs.Meaning.{Meaning}
use Rattle.terms.specs.declared.levels.Level.{Level}
use Rattle.terms.specs.declared.pairs.Pair.{Pair}

module _ (m : Meaning) (at : Level) (runs : List Pair) (from to n : ℕ) (items : List Entry) (accurate : Bool) (u : Upto m at runs from to n items accurate) where
  -- The set is listed.
  abbrev Stands : List Entry → ℕ → Type 0
  Stands list set = (k : ℕ) × (k < length list) × ((item list k).set ≡ set)

  -- a set that is not taken, or is not accurate
  pub passed_over : (Between from to n → Fits m runs n → Accurate m at runs n → ⊥) → Upto m at runs from to (n + 1) items accurate
  passed_over not = record {
    few = omega (arith, few_same n, u.few);
    listed = u.listed;
    between = u.between;
    before = λ k h. omega (arith, u.before k h);
    rising = u.rising;
    complete = below_more (λ set. Between from to set → Fits m runs set → Passes m at runs set → Stands items set) n u.complete (λ b f p. absurd (not b f p.accurate));
    some = u.some;
    none = λ e. below_more (λ set. Between from to set → Fits m runs set → Accurate m at runs set → ⊥) n (u.none e) not;
  }

  -- a set that is accurate and no more
  pub accurate_only : Fits m runs n → Accurate m at runs n → (Passes m at runs n → ⊥) → Upto m at runs from to (n + 1) items true
  accurate_only fits right not = record {
    few = omega (arith, few_same n, u.few);
    listed = u.listed;
    between = u.between;
    before = λ k h. omega (arith, u.before k h);
    rising = u.rising;
    complete = below_more (λ set. Between from to set → Fits m runs set → Passes m at runs set → Stands items set) n u.complete (λ _ _ p. absurd (not p));
    some = λ _. (n, fits, right);
    none = λ e. absurd (clash (sym e));
  }

  -- a set for the list
  pub taken_in : (e : Entry) → e.set ≡ n → Between from to n → Listed m at runs e → n < 4096 → ones n ≤ 3 → Upto m at runs from to (n + 1) (items ++ e ∷ []) true
  taken_in e is range new small three =
      let longer : List Entry = items ++ e ∷ [] in
      let long = length_push items e in
      let old : (k : ℕ) → k < length items → item longer k ≡ item items k = λ k h. get_or_append_left items (e ∷ []) blank k h in
      let last : item longer (length items) ≡ e = get_or_push items e blank (length items) refl in
      let each : (P : Entry → Type 0) → ((k : ℕ) → k < length items → P (item items k)) → P e → (k : ℕ) → k < length longer → P (item longer k) =
      λ P all here k h. below_more (λ j. P (item longer j)) (length items) (λ j l. subst P (sym (old j l)) (all j l)) (subst P (sym last) here) k (omega arith) in
      record {
        few = omega (arith, few_more n small three, u.few);
        listed = each (Listed m at runs) u.listed new;
        between = each (λ x. Between from to x.set) u.between (subst (Between from to) (sym is) range);
        before = each (λ x. x.set < n + 1) (λ k h. omega (arith, u.before k h)) (omega arith);
        rising = λ j k less h.
            ⊎_elim
            (λ l. subst (λ x. x.set < (item longer k).set) (sym (old j (omega arith))) (subst (λ x. (item items j).set < x.set) (sym (old k l)) (u.rising j k less l)))
            (λ l. let here : k ≡ length items = omega arith in
            subst (λ i. (item longer j).set < (item longer i).set) (sym here)
            (subst (λ x. (item longer j).set < x.set) (sym last) (subst (λ x. x.set < e.set) (sym (old j (omega arith))) (omega (arith, u.before j (omega arith))))))
            (cases_lt k (length items));
        complete = below_more (λ set. Between from to set → Fits m runs set → Passes m at runs set → Stands longer set) n
            (λ set h b f p. let found = u.complete set h b f p in (found.0, omega (arith, found.1), ap (λ x. x.set) (old found.0 found.1) ∙ found.2))
            (λ _ _ _. (length items, omega arith, ap (λ x. x.set) last ∙ is));
        some = λ _. (n, subst (Fits m runs) is new.fits, subst (Accurate m at runs) is new.passes.accurate);
        none = λ y. absurd (clash (sym y));
      }
