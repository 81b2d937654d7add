-- How many sets strike at most three, and what a set keeps.
use Rattle.std.proofs.Common.{◌≡◌, ℕ, zero, suc, ◌+◌, ◌/◌, ◌%◌, ◌^◌, ◌<◌, ◌≤◌, cond, eqb, leb, List, [], ◌∷◌, length, sym, refl, ap, ◌∙◌, subst, le_trans, le_refl, le-add_right, add-one, arith, pow_mono, shr_lt}
use native.Mathlib.Decide.{le_ind}
use lib.Arith.{lt-one}
use lib.Count.{ones, ones_in, ones_step}
use Rattle.std.proofs.lemmas.Nat.{mod_below}
use Rattle.std.proofs.lemmas.Bool.{cond_both, cond-true, eqb-false, eqb-true, le-leb}
use Rattle.judge.specs.Shortlists.{few_below}
use Rattle.runs.specs.Sets.{kept}
use Rattle.terms.specs.declared.pairs.Pair.{Pair}

-- 1 + 12 + 66 + 220 sets strike at most three of twelve, counted out
all_few : few_below 4096 ≡ 299
unfolding few_below ones_in
all_few = refl

few_grows : (m n : ℕ) → m ≤ n → few_below m ≤ few_below n
unfolding few_below
few_grows m n h = le_ind (λ k. few_below m ≤ few_below k) (le_refl (few_below m)) (λ k _ e. le_trans e (le-add_right (few_below k) (cond (leb (ones_in 12 k) 3) 1 0))) n h

ones_in-ones : (k n : ℕ) → n < 2 ^ k → ones_in k n ≡ ones n
unfolding ones_in ones
ones_in-ones zero n h = sym (ap ones (lt-one h))
ones_in-ones (suc k) n h = ap (λ x. n % 2 + x) (ones_in-ones k (n / 2) (shr_lt k 1 (subst (λ x. n < 2 ^ x) (sym (add-one k)) h))) ∙ sym (ones_step n)

pub few_more : (n : ℕ) → n < 4096 → ones n ≤ 3 → few_below (n + 1) ≡ few_below n + 1
unfolding few_below
few_more n h three =
    ap few_below (add-one n)
    ∙ ap (λ x. few_below n + x) (cond-true (leb (ones_in 12 n) 3) 1 0 (le-leb (ones_in 12 n) 3 (subst (λ x. x ≤ 3) (sym (ones_in-ones 12 n h)) three)))

pub few_same : (n : ℕ) → few_below n ≤ few_below (n + 1)
few_same n = few_grows n (n + 1) (omega arith)

-- While a set that strikes at most three is to come, there is room for it.
pub room : (n len : ℕ) → n < 4096 → ones n ≤ 3 → len ≤ few_below n → len < 299
room n len h three few = omega (arith, few_more n h three, few_grows (n + 1) 4096 (omega arith), all_few)

-- A set of at most twelve positions is below 4096.
pub below_4096 : (n k : ℕ) → k ≤ 12 → n < 2 ^ k → n < 4096
below_4096 n k h l = le_trans l (pow_mono {i = k} {j = 12} h)

-- What a set keeps and what it strikes make up the runs.
pub kept_struck : (qs : List Pair) (set : ℕ) → set < 2 ^ length qs → length (kept set qs) + ones set ≡ length qs
unfolding ones
kept_struck [] set h = ap (λ n. 0 + ones n) (lt-one h)
kept_struck (q ∷ qs) set h =
    let half : set / 2 < 2 ^ length qs = shr_lt (length qs) 1 (subst (λ k. set < 2 ^ k) (sym (add-one (length qs))) h) in
    let rest = kept_struck qs (set / 2) half in
    let step = ones_step set in
    let low : set % 2 < 2 = mod_below set 2 (omega arith) in
    cond_both (eqb (set % 2) 0) (q ∷ kept (set / 2) qs) (kept (set / 2) qs) (λ ys. length ys + ones set ≡ suc (length qs))
    (λ e. omega (arith, eqb-true (set % 2) 0 e)) (λ e. let ne : set % 2 ≡ 0 → ⊥ = eqb-false (set % 2) 0 e in omega arith)
