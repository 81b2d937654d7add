-- The numbers made from a tally's sums, as naturals.
use Rattle.std.proofs.Common.{◌≡◌, ℕ, ◌+◌, ◌-◌, ◌*◌, ◌≤◌, false, ◌⊎◌, ℤ, pos, negsuc, ◌-ℤ◌, ◌*ℤ◌, ◌≤ℤ◌, nat_abs, sym, refl, ap, ◌∙◌, subst, inl, inr, ⊎_elim, le_of_lt, add-sub_of_le, arith}
use Rattle.std.specs.Int.{abs_diff}
use lib.Signed.{lt_z}
use Rattle.std.proofs.lemmas.Nat.{mul-le}
use Rattle.std.proofs.lemmas.Int.{ints}
use Rattle.std.proofs.lemmas.Bool.{cases_lt}
use Rattle.tally.specs.Numbers.{D, DD, W}
use Rattle.tally.specs.declared.sums.Sums.{Sums}
use Rattle.tally.specs.Sums.{Spreads, Tops}

pub minus_is : (a b x : ℕ) → x + b ≡ a → pos a -ℤ pos b ≡ pos x
minus_is a b x e = omega (arith, ints)

pub not_above : (z : ℤ) → z ≤ℤ pos 0 → lt_z (pos 0) z ≡ false
not_above z h = grind (arith, ints)

pub square_is : (z : ℤ) → z *ℤ z ≡ pos (nat_abs z * nat_abs z)
square_is (pos n) = refl
square_is (negsuc n) = refl

by_gap : (a b k : ℕ) → nat_abs (pos a -ℤ pos b) ≡ k → (a + k ≡ b) ⊎ (b + k ≡ a)
    → nat_abs (pos a -ℤ pos b) * nat_abs (pos a -ℤ pos b) + 2 * (a * b) ≡ a * a + b * b
by_gap a b k e (inl h) = rw e (subst (λ x. k * k + 2 * (a * x) ≡ a * a + x * x) h (omega arith))
by_gap a b k e (inr h) = rw e (subst (λ x. k * k + 2 * (x * b) ≡ x * x + b * b) h (omega arith))

-- how far apart the sums of the references and of the predictions are
pub apart : (s : Sums) → abs_diff s.r s.p ≡ nat_abs (D s)
apart s = omega (arith, ints)

-- The square of a distance.
pub distance_square : (a b : ℕ) → nat_abs (pos a -ℤ pos b) * nat_abs (pos a -ℤ pos b) + 2 * (a * b) ≡ a * a + b * b
distance_square a b =
    ⊎_elim
    (λ h. by_gap a b (b - a) (omega (arith, ints)) (inl (add-sub_of_le (le_of_lt h))))
    (λ h. by_gap a b (a - b) (omega (arith, ints)) (inr (add-sub_of_le h)))
    (cases_lt a b)

-- The differences' spread, from their distance d and their squares.
module _ {most : ℕ} (s : Sums) (tops : Tops most s) (spreads : Spreads s) (d : ℕ) (is : d ≡ nat_abs (D s)) where
  pub distance_fits : d * d ≤ s.n * (s.rr + s.pp - 2 * s.rp)
  distance_fits =
      let k : s.rr + s.pp - 2 * s.rp + 2 * s.rp ≡ s.rr + s.pp = omega (arith, spreads) in
      let e : d * d + 2 * (s.r * s.p) ≡ s.r * s.r + s.p * s.p = rw is (distance_square s.r s.p) in
      omega (arith, spreads.0.1, ap (λ x. s.n * x) k)

  pub W_is : (w : ℕ) → w + d * d ≡ s.n * (s.rr + s.pp - 2 * s.rp) → W s ≡ pos w
  W_is w e =
      let dd : DD s ≡ pos (s.rr + s.pp - 2 * s.rp) = omega (arith, ints, spreads.0.0) in
      rw (dd, square_is (D s), sym is) (minus_is _ _ w e)

  -- No spread passes the count times the squares.
  pub W_top : (w : ℕ) → W s ≡ pos w → w ≤ most * (most * 5000000000)
  W_top w e =
      let v : ℕ = s.n * (s.rr + s.pp - 2 * s.rp) - d * d in
      let same : pos w ≡ pos v = sym e ∙ W_is v (omega (arith, distance_fits)) in
      let top : s.rr + s.pp - 2 * s.rp ≤ most * 5000000000 = omega (arith, tops) in
      omega (arith, ints, mul-le _ _ _ _ tops.0.0 top)
