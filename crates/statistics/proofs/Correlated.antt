-- Without a shared spread there is no correlation.
use Rattle.std.proofs.Common.{◌≡◌, ℕ, zero, suc, ◌*◌, ◌<◌, mul-pos, false, pos, ◌≤ℤ◌, sym, ap, ◌∙◌, arith}
use lib.Signed.{lt_z}
use Rattle.std.proofs.lemmas.Bool.{and_left, and_right}
use Rattle.statistics.specs.Correlation.{is_correlated}
use Rattle.tally.specs.Numbers.{X, Y, Z}
use Rattle.tally.specs.Tallying.{SharedSpread}
use Rattle.tally.proofs.Numbers.{not_above}
use Rattle.tally.specs.declared.sums.Sums.{Sums}

pub not_correlated : {s t : Sums} → t ≡ s → Z t ≤ℤ pos 0 → false ≡ is_correlated s
not_correlated {s} {t} is h =
    let none = and_right (lt_z (pos 0) (X t)) _ (and_right (lt_z (pos 0) (Y t)) _ (and_left _ _ (not_above (Z t) h))) in
    sym none ∙ ap is_correlated is

some_left : (x y : ℕ) → 0 < x * y → 0 < x
some_left zero y h = absurd (omega arith)
some_left (suc x) y h = omega arith

-- With a shared spread above 0, both spreads are.
pub some_each : {s : Sums} {z : ℕ} → SharedSpread s z → (x y : ℕ) → X s ≡ pos x → Y s ≡ pos y → (0 < x) × (0 < y)
some_each {s} {z} shared x y ex ey =
    let both : 0 < x * y = omega (arith, shared.square x y ex ey, mul-pos shared.above shared.above) in
    (some_left x y both, some_left y x (omega arith))
