-- What the sums of a tally keep, for the bounds of every number made from them.
use Rattle.std.proofs.Common.{◌≡◌, ℕ, ◌+◌, ◌*◌, ◌<◌, ◌≤◌, List, [], ◌∷◌, ◌++◌, length, get_or, take, sum_by, sym, refl, ap, ◌∙◌, subst, arith, length-append, length-take, length-take-le}
use mathlib.Core.Logic.{∥∥₁_elim, ∥∥₁_map, ∥∥₁_prop}
use native.Mathlib.Bridge.{le_prop}
use Rattle.std.proofs.lemmas.Nat.{mul-le}
use Rattle.std.proofs.lemmas.List.{take_all, take_more}
use Rattle.std.proofs.lemmas.List.Sums.{sum_by-append, sum_by-cons}
use Rattle.terms.proofs.Highest.{higher_at, highest-append}
use Rattle.terms.specs.Pairs.{Refuses}
use Rattle.terms.specs.Readings.{higher, highest}
use Rattle.tally.specs.Sums.{Spreads, Tallies, TallyOf, Tops, plus, sums_of}
use Rattle.terms.specs.declared.pairs.Pair.{Pair}
use Rattle.terms.specs.declared.pairs.PairRefusal.{PairRefusal}
use Rattle.terms.specs.declared.pairs.PairRefusal.TheVariants.{Full, OverTop}
use Rattle.tally.specs.declared.sums.Sums.{Sums}
use Rattle.tally.proofs.Spread.{spread, spread_difference, squares}

pub record Sound (most : ℕ) (s : Sums) : Type 0 where
  pub few : s.n ≤ most
  pub r_top : s.r ≤ s.n * 50000
  pub p_top : s.p ≤ s.n * 50000
  pub rr_top : s.rr ≤ s.n * 2500000000
  pub pp_top : s.pp ≤ s.n * 2500000000
  pub rp_top : s.rp ≤ s.n * 2500000000
  pub d_squares : 2 * s.rp ≤ s.rr + s.pp
  pub r_spread : s.r * s.r ≤ s.n * s.rr
  pub p_spread : s.p * s.p ≤ s.n * s.pp
  pub d_spread : 2 * (s.n * s.rp) + s.r * s.r + s.p * s.p ≤ s.n * (s.rr + s.pp) + 2 * (s.r * s.p)

sound_prop : {most : ℕ} {s : Sums} → IsProp (Sound most s)
sound_prop x y i = record {
  few = le_prop x.few y.few i;
  r_top = le_prop x.r_top y.r_top i;
  p_top = le_prop x.p_top y.p_top i;
  rr_top = le_prop x.rr_top y.rr_top i;
  pp_top = le_prop x.pp_top y.pp_top i;
  rp_top = le_prop x.rp_top y.rp_top i;
  d_squares = le_prop x.d_squares y.d_squares i;
  r_spread = le_prop x.r_spread y.r_spread i;
  p_spread = le_prop x.p_spread y.p_spread i;
  d_spread = le_prop x.d_spread y.d_spread i;
}

-- The readings, squares and product of one pair.
record OfPair (q : Pair) : Type 0 where
  r : q.reference ≤ 50000
  p : q.predicted ≤ 50000
  rr : q.reference * q.reference ≤ 2500000000
  pp : q.predicted * q.predicted ≤ 2500000000
  rp : q.reference * q.predicted ≤ 2500000000

of_pair : (q : Pair) → higher q ≤ 50000 → OfPair q
of_pair q h =
    let r : q.reference ≤ 50000 = omega arith in
    let p : q.predicted ≤ 50000 = omega arith in
    record { r = r; p = p; rr = mul-le _ _ 50000 50000 r r; pp = mul-le _ _ 50000 50000 p p; rp = mul-le _ _ 50000 50000 r p }

top : (f : Pair → ℕ) (m : ℕ) → ((q : Pair) → higher q ≤ 50000 → f q ≤ m) → (qs : List Pair) → highest qs ≤ 50000 → sum_by f qs ≤ length qs * m
top f m each [] h = omega arith
top f m each (q ∷ qs) h = simp sum_by-cons (omega (arith, top f m each qs (omega arith), each q (omega arith)))

sound_list : {most : ℕ} (qs : List Pair) → length qs ≤ most → highest qs ≤ 50000 → Sound most (sums_of qs)
sound_list qs few within = record {
  few = few;
  r_top = top _ 50000 (λ q h. (of_pair q h).r) qs within;
  p_top = top _ 50000 (λ q h. (of_pair q h).p) qs within;
  rr_top = top _ 2500000000 (λ q h. (of_pair q h).rr) qs within;
  pp_top = top _ 2500000000 (λ q h. (of_pair q h).pp) qs within;
  rp_top = top _ 2500000000 (λ q h. (of_pair q h).rp) qs within;
  d_squares = squares (λ q. q.reference) (λ q. q.predicted) qs;
  r_spread = spread (λ q. q.reference) qs;
  p_spread = spread (λ q. q.predicted) qs;
  d_spread = spread_difference (λ q. q.reference) (λ q. q.predicted) qs;
}

pub sound : {most : ℕ} {s : Sums} → TallyOf most s → Sound most s
sound {most} h =
    ∥∥₁_elim h sound_prop (λ w. subst (Sound most) (sym w.1.sums) (sound_list w.0 w.1.few w.1.within))

-- The sums over one list and then another.
pub sums_of-append : (qs ps : List Pair) → sums_of (qs ++ ps) ≡ plus (sums_of qs) (sums_of ps)
sums_of-append qs ps i = record {
  n = length-append qs ps i;
  r = sum_by-append (λ q. q.reference) qs ps i;
  p = sum_by-append (λ q. q.predicted) qs ps i;
  rr = sum_by-append (λ q. q.reference * q.reference) qs ps i;
  pp = sum_by-append (λ q. q.predicted * q.predicted) qs ps i;
  rp = sum_by-append (λ q. q.reference * q.predicted) qs ps i;
}

-- A loop's step: one pair more is taken in, or refused, and at the end all are in.
module _ (qs : List Pair) (i : ℕ) (d : Pair) (few : length qs ≤ 12) (h : i < length qs) where
  pub taken_more : {s t : Sums} → Tallies 12 s (take i qs) → higher (get_or qs i d) ≤ 50000 → t ≡ plus s (sums_of (get_or qs i d ∷ [])) → Tallies 12 t (take (i + 1) qs)
  taken_more so_far within is =
      let more : take (i + 1) qs ≡ take i qs ++ get_or qs i d ∷ [] = take_more qs i d h in
      record {
        few = simp length-take (omega arith);
        within = rw (more, highest-append) (omega (arith, so_far.within));
        sums = is ∙ ap (λ x. plus x (sums_of (get_or qs i d ∷ []))) so_far.sums ∙ sym (ap sums_of more ∙ sums_of-append (take i qs) (get_or qs i d ∷ []));
      }

  pub refused_more : {s : Sums} (e : PairRefusal) → Tallies 12 s (take i qs) → Refuses (s.n + 1) (higher (get_or qs i d)) e → Refuses (length qs) (highest qs) e
  refused_more {s} Full so_far r =
      let n : s.n ≡ length (take i qs) = ap (λ (x : Sums). x.n) so_far.sums in
      absurd (omega (arith, length-take-le i qs (omega arith)))
  refused_more OverTop so_far r = (few, let reads = higher_at qs i d h in omega arith)

pub taken_all : {s : Sums} (qs : List Pair) (i : ℕ) → length qs ≤ i → Tallies 12 s (take i qs) → Tallies 12 s qs
taken_all {s} qs i h all = subst (Tallies 12 s) (take_all i qs h) all

-- The same, as the types of tallies state it.
pub tops : {most : ℕ} {s : Sums} → TallyOf most s → Tops most s
tops {most} {s} h =
    let ok = sound h in
    let rr : s.rr ≤ most * 2500000000 = omega (arith, ok) in
    let pp : s.pp ≤ most * 2500000000 = omega (arith, ok) in
    let rp : s.rp ≤ most * 2500000000 = omega (arith, ok) in (
      (ok.few, omega (arith, ok), omega (arith, ok)),
      (rr, pp, rp),
      (mul-le _ _ _ _ ok.few rr, mul-le _ _ _ _ ok.few pp, mul-le _ _ _ _ ok.few rp),
    )

pub spreads : {most : ℕ} {s : Sums} → TallyOf most s → Spreads s
spreads h = let ok = sound h in omega (arith, ok)

-- one list's sums and another's
pub joined_lists : {m k : ℕ} {a b : Sums} (xs ys : List Pair) → Tallies m a xs → Tallies k b ys → Tallies (m + k) (plus a b) (xs ++ ys)
joined_lists xs ys x y = record {
  few = simp length-append (omega (arith, x.few, y.few));
  within = simp highest-append (omega (arith, x.within, y.within));
  sums = (λ i. plus (x.sums i) (y.sums i)) ∙ sym (sums_of-append xs ys);
}

joined_two : {m k : ℕ} {a b : Sums} → TallyOf m a → TallyOf k b → TallyOf (m + k) (plus a b)
joined_two x y =
    ∥∥₁_elim x ∥∥₁_prop (λ u. ∥∥₁_map y (λ v. (u.0 ++ v.0, joined_lists u.0 v.0 u.1 v.1)))

-- three tallies together
pub joined : {a b c : Sums} → TallyOf 12 a → TallyOf 12 b → TallyOf 12 c → TallyOf 36 (plus (plus a b) c)
joined x y z = joined_two (joined_two x y) z

-- a tally with room takes one pair more
pub one_more : {s t : Sums} (q : Pair) → TallyOf 12 s → s.n < 12 → higher q ≤ 50000 → t ≡ plus s (sums_of (q ∷ [])) → TallyOf 12 t
one_more {s} q h room within is = subst (TallyOf 12) (sym is) (∥∥₁_map h (λ u.
    let n : s.n ≡ length u.0 = ap (λ (x : Sums). x.n) u.1.sums in
    let fewer : Tallies 11 s u.0 = record { few = omega (arith, n); within = u.1.within; sums = u.1.sums } in
    (u.0 ++ q ∷ [], joined_lists {k = 1} u.0 (q ∷ []) fewer (record { few = omega arith; within = omega arith; sums = refl }))))
