-- Rationals, each over a number above 0, compared by multiplying across.
use Rattle.std.specs.Prelude.{ℕ, ◌*◌, ℤ, pos, ◌+ℤ◌, ◌-ℤ◌, ◌*ℤ◌, ◌≤ℤ◌, ◌<ℤ◌}

pub record Rational : Type 0 where
  pub top : ℤ
  pub bottom : ℕ

infix 80 ◌over◌
abbrev pub ◌over◌ : ℤ → ℕ → Rational
z over n = record { top = z; bottom = n }

infixl 60 ◌+ℚ◌ ◌-ℚ◌
abbrev pub ◌+ℚ◌ : Rational → Rational → Rational
x +ℚ y = (x.top *ℤ pos y.bottom +ℤ y.top *ℤ pos x.bottom) over (x.bottom * y.bottom)

abbrev pub ◌-ℚ◌ : Rational → Rational → Rational
x -ℚ y = (x.top *ℤ pos y.bottom -ℤ y.top *ℤ pos x.bottom) over (x.bottom * y.bottom)

infixl 70 ◌*ℚ◌
abbrev pub ◌*ℚ◌ : Rational → Rational → Rational
x *ℚ y = (x.top *ℤ y.top) over (x.bottom * y.bottom)

infix 50 ◌≤ℚ◌ ◌<ℚ◌
abbrev pub ◌≤ℚ◌ : Rational → Rational → Type 0
x ≤ℚ y = (x.top *ℤ pos y.bottom) ≤ℤ (y.top *ℤ pos x.bottom)

abbrev pub ◌<ℚ◌ : Rational → Rational → Type 0
x <ℚ y = (x.top *ℤ pos y.bottom) <ℤ (y.top *ℤ pos x.bottom)
