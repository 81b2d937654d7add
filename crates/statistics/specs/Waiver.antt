-- Where the statistical tests of a level are waived.
use Rattle.std.specs.Prelude.{ℕ, ◌*◌, Bool, ◌||◌, nat_lt}
use Rattle.tally.specs.declared.sums.Sums.{Sums}
use Rattle.terms.specs.declared.kinds.Kind.{Kind}
use Rattle.terms.specs.declared.kinds.Kind.TheVariants.{Ppm, Heat, Diluent}

-- R < 100·n or 20·R < n·E for ppm, 20·R < n·E for heat, 100·R < 3·n·span for a diluent
abbrev pub is_waived : Kind → ℕ → ℕ → Sums → Bool
is_waived Ppm emission span s = nat_lt s.r (100 * s.n) || nat_lt (20 * s.r) (s.n * emission)
is_waived Heat emission span s = nat_lt (20 * s.r) (s.n * emission)
is_waived Diluent emission span s = nat_lt (100 * s.r) (3 * (s.n * span))
