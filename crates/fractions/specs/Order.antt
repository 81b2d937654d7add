-- The order of fractions, by multiplying across: a/b is at most c/d where a·d is at most c·b.
use Rattle.std.specs.Prelude.{◌*◌, Bool, nat_le}
use Rattle.fractions.specs.declared.Fraction.{Fraction}

abbrev pub is_at_most : Fraction → Fraction → Bool
is_at_most x y = nat_le (x.top * y.bottom) (y.top * x.bottom)

abbrev pub is_at_least : Fraction → Fraction → Bool
is_at_least x y = is_at_most y x
