-- What is asked from outside.
use Rattle.std.specs.Prelude.{Bool, ◌&&◌, ℕ, ◌*◌, ◌^◌, nat_le}

abbrev pub in_range : ℕ → Bool
in_range n = nat_le 1 n && nat_le n (2 ^ 58)

-- All three are from 1 to 2^58, and 16·x·y ≤ 25·z².
abbrev pub correlated : ℕ → ℕ → ℕ → Bool
correlated x y z = in_range x && (in_range y && (in_range z && nat_le (16 * (x * y)) (25 * (z * z))))
