-- The tally of the runs that a set leaves, run by run.
use Rattle.std.proofs.Common.{◌≡◌, ℕ, ◌+◌, ◌/◌, ◌%◌, ◌<◌, ◌≤◌, eqb, List, [], ◌∷◌, length, get_or, drop, sym, ap, ◌∙◌, add-zero, add_assoc}
use Rattle.std.proofs.lemmas.List.{at_drop_more, at_drop_all}
use Rattle.std.proofs.lemmas.Bool.{cond-true, cond-false, eq-eqb, ne_eqb}
use Rattle.runs.specs.Sets.{kept}
use Rattle.tally.specs.Sums.{none, plus, sums_of}
use Rattle.tally.specs.declared.sums.Sums.{Sums}
use Rattle.tally.proofs.Sound.{sums_of-append}
use Rattle.terms.specs.declared.pairs.Pair.{Pair}

plus_assoc : (s t u : Sums) → plus (plus s t) u ≡ plus s (plus t u)
plus_assoc s t u i = record {
  n = add_assoc s.n t.n u.n i;
  r = add_assoc s.r t.r u.r i;
  p = add_assoc s.p t.p u.p i;
  rr = add_assoc s.rr t.rr u.rr i;
  pp = add_assoc s.pp t.pp u.pp i;
  rp = add_assoc s.rp t.rp u.rp i;
}

plus_none : (s : Sums) → plus s none ≡ s
plus_none s i = record {
  n = add-zero s.n i;
  r = add-zero s.r i;
  p = add-zero s.p i;
  rr = add-zero s.rr i;
  pp = add-zero s.pp i;
  rp = add-zero s.rp i;
}

-- What was taken in, and what is left of the runs, make up the whole.
module _ (qs : List Pair) (i set : ℕ) (s whole : Sums) (d : Pair) (so_far : plus s (sums_of (kept set (drop i qs))) ≡ whole) (h : i < length qs) where
  abbrev rest : List Pair
  rest = kept (set / 2) (drop (i + 1) qs)

  -- one run kept
  pub more_kept : (t : Sums) → t ≡ plus s (sums_of (get_or qs i d ∷ [])) → set % 2 ≡ 0 → plus t (sums_of rest) ≡ whole
  more_kept t is even =
      let q = get_or qs i d in
      let left : sums_of (kept set (drop i qs)) ≡ plus (sums_of (q ∷ [])) (sums_of rest) =
      at_drop_more (λ zs. sums_of (kept set zs)) qs i d h
      ∙ ap sums_of (cond-true (eqb (set % 2) 0) (q ∷ rest) rest (eq-eqb (set % 2) 0 even))
      ∙ sums_of-append (q ∷ []) rest in
      ap (λ x. plus x (sums_of rest)) is ∙ plus_assoc s (sums_of (q ∷ [])) (sums_of rest) ∙ ap (plus s) (sym left) ∙ so_far

  -- one run struck
  pub more_struck : (t : Sums) → t ≡ s → (set % 2 ≡ 0 → ⊥) → plus t (sums_of rest) ≡ whole
  more_struck t is odd =
      let q = get_or qs i d in
      let left : sums_of (kept set (drop i qs)) ≡ sums_of rest =
      at_drop_more (λ zs. sums_of (kept set zs)) qs i d h
      ∙ ap sums_of (cond-false (eqb (set % 2) 0) (q ∷ rest) rest (ne_eqb (set % 2) 0 odd)) in
      ap (λ x. plus x (sums_of rest)) is ∙ ap (plus s) (sym left) ∙ so_far

-- At the end nothing is left.
pub all_kept : (qs : List Pair) (i set : ℕ) (s whole : Sums) → plus s (sums_of (kept set (drop i qs))) ≡ whole → length qs ≤ i → s ≡ whole
all_kept qs i set s whole so_far h =
    sym (plus_none s) ∙ ap (plus s) (sym (at_drop_all (λ zs. sums_of (kept set zs)) qs i h)) ∙ so_far
