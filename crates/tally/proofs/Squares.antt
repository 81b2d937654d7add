-- What the sums say of the differences: Σr² − 2·Σ(r·p) + Σp² is the sum of their squares.
use Rattle.std.proofs.Common.{◌≡◌, ℕ, ◌*◌, List, [], ◌∷◌, length, ℤ, pos, ◌+ℤ◌, ◌-ℤ◌, ◌*ℤ◌, nat_abs, fold, sym, ap, ◌∙◌, arith}
use lib.IntN.{+ℤ_assoc, +ℤ_idl}
use Rattle.std.proofs.lemmas.Int.{ints}
use Rattle.std.proofs.lemmas.List.Sums.{sum_by-cons}
use Rattle.tally.specs.Numbers.{D, DD, DifferenceSpread, W, square, squares}
use Rattle.tally.specs.Sums.{sums_of}
use Rattle.tally.specs.declared.sums.Sums.{Sums}
use Rattle.terms.specs.declared.pairs.Pair.{Pair}
use Rattle.tally.proofs.Numbers.{distance_square, square_is}

one_more : (q : Pair) (qs : List Pair) → DD (sums_of (q ∷ qs)) ≡ square q +ℤ DD (sums_of qs)
one_more q qs =
    let sq : square q ≡ pos (nat_abs (pos q.reference -ℤ pos q.predicted) * nat_abs (pos q.reference -ℤ pos q.predicted)) = square_is _ in
    let s = sums_of qs in
    rw sq (
    omega (
      arith,
      ints,
      distance_square q.reference q.predicted,
      sum_by-cons (λ q. q.reference * q.reference) q qs,
      sum_by-cons (λ q. q.predicted * q.predicted) q qs,
      sum_by-cons (λ q. q.reference * q.predicted) q qs,
    )
    )

from : (a : ℤ) (qs : List Pair) → fold (λ z q. z +ℤ square q) a qs ≡ a +ℤ DD (sums_of qs)
from a [] = omega (arith, ints)
from a (q ∷ qs) =
    from (a +ℤ square q) qs ∙ +ℤ_assoc a (square q) (DD (sums_of qs)) ∙ ap (λ z. a +ℤ z) (sym (one_more q qs))

-- The differences' spread of a list, from its differences.
pub spread_of_differences : (s : Sums) (w : ℕ) → W s ≡ pos w → DifferenceSpread s w
spread_of_differences s w is qs sums =
    let squared : DD s ≡ squares qs = ap DD sums ∙ sym (from (pos 0) qs ∙ +ℤ_idl (DD (sums_of qs))) in
    let count : s.n ≡ length qs = ap (λ (x : Sums). x.n) sums in
    sym is ∙ ap (λ z. pos s.n *ℤ z -ℤ D s *ℤ D s) squared ∙ ap (λ n. pos n *ℤ squares qs -ℤ D s *ℤ D s) count
