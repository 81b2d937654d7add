-- The square of the shared spread of two numbers of each pair is at most the product of their own spreads.
use Rattle.std.proofs.Common.{◌≡◌, ℕ, ◌+◌, ◌*◌, ◌<◌, ◌≤◌, Bool, true, false, refl, List, [], ◌∷◌, length, pos, ◌-ℤ◌, sum_by, sym, ap, subst, ⊎_elim, mul-le-mul_left, arith}
use mathlib.Core.Logic.{∥∥₁_elim}
use native.Mathlib.Bridge.{le_prop}
use native.Mathlib.Nat.{le_of_mul-le-mul_left}
use Rattle.std.proofs.lemmas.Int.{ints}
use Rattle.std.proofs.lemmas.Nat.{mul-le}
use Rattle.std.proofs.lemmas.List.Sums.{sum_by-cons}
use Rattle.std.proofs.lemmas.Bool.{cases_lt}
use Rattle.std.specs.Bool.{then_some}
use Rattle.tally.specs.Numbers.{X, Y}
use Rattle.tally.specs.Sums.{TallyOf, Tops}
use Rattle.tally.specs.Tallying.{SharedAnswer}
use Rattle.tally.specs.declared.sums.Sums.{Sums}
use Rattle.tally.proofs.Numbers.{minus_is}
use Rattle.tally.proofs.Spread.{spread_difference}

-- a number times each is that number times the sum
sum_by-times : {Q : Type 0} (k : ℕ) (f g : Q → ℕ) → ((q : Q) → g q ≡ k * f q) → (qs : List Q) → sum_by g qs ≡ k * sum_by f qs
sum_by-times k f g times [] = omega arith
sum_by-times k f g times (q ∷ qs) = simp sum_by-cons (omega (arith, sum_by-times k f g times qs, times q))

nothing : (x z : ℕ) → 2 * ((x + 1) * z) ≤ x → z ≡ 0
nothing x z h = ⊎_elim (λ some. absurd (omega (arith, mul-le-mul_left (x + 1) some))) (λ none. omega arith) (cases_lt 0 z)

-- With 2·a·b·z at most a²·x + b²·y for all a and b, z² is at most x·y.
by_all : (x y z : ℕ) → ((a b : ℕ) → 2 * (a * b * z) ≤ a * a * x + b * b * y) → z * z ≤ x * y
by_all x y z all =
    ⊎_elim
    (λ some. le_of_mul-le-mul_left {k = y} (let h = all y z in omega arith) some)
    (λ (none : y ≤ 0).
    let y_is : y ≡ 0 = omega arith in
    let h = all 1 (x + 1) in
    let z_is : z ≡ 0 = nothing x z (omega (arith, ap (λ k. (x + 1) * (x + 1) * k) y_is)) in
    rw z_is (omega arith))
    (cases_lt 0 y)

module _ {Q : Type 0} (u v : Q → ℕ) (qs : List Q) where
  abbrev n : ℕ
  n = length qs

  abbrev U : ℕ
  U = sum_by u qs

  abbrev V : ℕ
  V = sum_by v qs

  abbrev UU : ℕ
  UU = sum_by (λ q. u q * u q) qs

  abbrev VV : ℕ
  VV = sum_by (λ q. v q * v q) qs

  abbrev UV : ℕ
  UV = sum_by (λ q. u q * v q) qs

  -- a·u and b·v in the place of u and v
  scaled : (a b : ℕ) → 2 * (a * b * (n * UV)) + a * a * (U * U) + b * b * (V * V) ≤ n * (a * a * UU + b * b * VV) + 2 * (a * b * (U * V))
  scaled a b =
      let uv = sum_by-times (a * b) (λ q. u q * v q) (λ q. a * u q * (b * v q)) (λ q. omega arith) qs in
      let uu = sum_by-times (a * a) (λ q. u q * u q) (λ q. a * u q * (a * u q)) (λ q. omega arith) qs in
      let vv = sum_by-times (b * b) (λ q. v q * v q) (λ q. b * v q * (b * v q)) (λ q. omega arith) qs in
      let us = sum_by-times a u (λ q. a * u q) (λ q. omega arith) qs in
      let vs = sum_by-times b v (λ q. b * v q) (λ q. omega arith) qs in
      let apart = spread_difference {Q = Q} (λ q. a * u q) (λ q. b * v q) qs in
      let h = rw (uv, us, vs, uu, vv) at apart in
      omega arith

  pub shared : (x y z : ℕ) → x + U * U ≡ n * UU → y + V * V ≡ n * VV → z + U * V ≡ n * UV → z * z ≤ x * y
  shared x y z ex ey ez = by_all x y z (λ a b.
      let h = scaled a b in
      omega (arith, ap (λ k. a * a * k) ex, ap (λ k. b * b * k) ey, ap (λ k. 2 * (a * b * k)) ez))

-- The same of a tally's sums.
back : (a b x : ℕ) → pos a -ℤ pos b ≡ pos x → x + b ≡ a
back a b x e = omega (arith, ints)

pub shared_of : {most : ℕ} (s : Sums) → TallyOf most s → (x y z : ℕ) → X s ≡ pos x → Y s ≡ pos y → z + s.r * s.p ≡ s.n * s.rp → z * z ≤ x * y
shared_of s real x y z ex ey ez =
    ∥∥₁_elim real le_prop (λ w.
    subst (λ (t : Sums). X t ≡ pos x → Y t ≡ pos y → z + t.r * t.p ≡ t.n * t.rp → z * z ≤ x * y) (sym w.1.sums)
    (λ ex ey ez. shared (λ q. q.reference) (λ q. q.predicted) w.0 x y z (back _ _ x ex) (back _ _ y ey) ez)
    ex ey ez)

-- A shared spread is answered where it is above 0, as a test of that says.
pub shared_answer : {most : ℕ} (s : Sums) → most ≤ 36 → TallyOf most s → Tops most s → (z : ℕ) → z + s.r * s.p ≡ s.n * s.rp → (some : Bool) → (some ≡ true → 0 < z) → (some ≡ false → z ≤ 0) → SharedAnswer s (then_some some z)
shared_answer {most} s few real tops z e true above none = record {
  value = minus_is _ _ _ e;
  above = above refl;
  top = omega (arith, tops, mul-le _ _ _ _ few few);
  square = λ x y ex ey. shared_of s real x y z ex ey e;
}
shared_answer s few real tops z e false above none = let h = none refl in omega (arith, ints)
