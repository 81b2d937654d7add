-- The numbers that the rules are written in, from the sums over a list of pairs.
use Rattle.std.specs.Prelude.{◌≡◌, ℕ, ◌*◌, List, length, ℤ, pos, ◌+ℤ◌, ◌-ℤ◌, ◌*ℤ◌, fold}
use Rattle.tally.specs.Sums.{sums_of}
use Rattle.tally.specs.declared.sums.Sums.{Sums}
use Rattle.terms.specs.declared.pairs.Pair.{Pair}

-- D = R − P
abbrev pub D : Sums → ℤ
D s = pos s.r -ℤ pos s.p

-- Σd², with d = r − p
abbrev pub DD : Sums → ℤ
DD s = pos s.rr -ℤ pos (2 * s.rp) +ℤ pos s.pp

-- W = n·Σd² − D²
abbrev pub W : Sums → ℤ
W s = pos s.n *ℤ DD s -ℤ D s *ℤ D s

-- X = n·Σr² − R²
abbrev pub X : Sums → ℤ
X s = pos (s.n * s.rr) -ℤ pos (s.r * s.r)

-- Y = n·Σp² − P²
abbrev pub Y : Sums → ℤ
Y s = pos (s.n * s.pp) -ℤ pos (s.p * s.p)

-- Z = n·Σ(r·p) − R·P
abbrev pub Z : Sums → ℤ
Z s = pos (s.n * s.rp) -ℤ pos (s.r * s.p)

-- d² of one pair
abbrev pub square : Pair → ℤ
square q = (pos q.reference -ℤ pos q.predicted) *ℤ (pos q.reference -ℤ pos q.predicted)

-- Σd² over a list, pair by pair
abbrev pub squares : List Pair → ℤ
squares qs = fold (λ z q. z +ℤ square q) (pos 0) qs

-- w is n·Σd² − D² of any list that has these sums.
abbrev pub DifferenceSpread : Sums → ℕ → Type 0
DifferenceSpread s w = (qs : List Pair) → s ≡ sums_of qs → pos w ≡ pos (length qs) *ℤ squares qs -ℤ D s *ℤ D s
