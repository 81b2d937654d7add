-- Numbers up to three, levels, and a test's answers, one by one.
use Rattle.std.proofs.Common.{◌≡◌, ℕ, zero, suc, ◌≤◌, Bool, true, false, refl, arith}
use Rattle.std.specs.Bool.{MatchBool}
use Rattle.terms.specs.declared.levels.Level.{Level}
use Rattle.terms.specs.declared.levels.Level.TheVariants.{Low, Mid, High}

pub up_to_three : (P : ℕ → Type 0) → P 0 → P 1 → P 2 → P 3 → (n : ℕ) → n ≤ 3 → P n
up_to_three P a b c d zero h = a
up_to_three P a b c d (suc zero) h = b
up_to_three P a b c d (suc (suc zero)) h = c
up_to_three P a b c d (suc (suc (suc zero))) h = d
up_to_three P a b c d (suc (suc (suc (suc n)))) h = absurd (omega arith)

pub by_level : (P : Level → Type 0) → P Low → P Mid → P High → (at : Level) → P at
by_level P low mid high Low = low
by_level P low mid high Mid = mid
by_level P low mid high High = high

-- what holds of a test's answer
pub either : (b : Bool) (P Q : Type 0) → (b ≡ true → P) → (b ≡ false → Q) → MatchBool b P Q
either true P Q here there = here refl
either false P Q here there = there refl
