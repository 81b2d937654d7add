-- What taking pairs into a tally answers, and what the shared spread is.
use Rattle.std.specs.Prelude.{◌≡◌, ℕ, ◌+◌, ◌*◌, ◌<◌, ◌≤◌, List, [], ◌∷◌, length, pos, ◌≤ℤ◌, Some, None, Ok, Err, Option, Result, refl}
use Rattle.std.proofs.Common.{zero-le}
use Rattle.std.proofs.Math.Nat.{le-add_right}
use Rattle.tally.specs.Numbers.{X, Y, Z}
use Rattle.tally.specs.Sums.{Tallies, none, plus, sums_of}
use Rattle.tally.specs.declared.sums.Sums.{Sums}
use Rattle.tally.specs.declared.totals.Totals.{Totals}
use Rattle.terms.specs.Pairs.{Refuses}
use Rattle.terms.specs.Readings.{higher, highest}
use Rattle.terms.specs.declared.pairs.Pair.{Pair}
use Rattle.terms.specs.declared.pairs.PairRefusal.{PairRefusal}

-- the totals of at most twelve pairs
abbrev pub Tally : Type 0
Tally = Totals 12

-- The pair is taken in, or refused with all as it was.
abbrev pub AddAnswer : Tally → Pair → Tally → Result (Unit {0}) PairRefusal → Type 0
AddAnswer before q after (Ok _) =
    (before.sums.n < 12) × (higher q ≤ 50000) × (after.sums ≡ plus before.sums (sums_of (q ∷ [])))
AddAnswer before q after (Err e) = Refuses (before.sums.n + 1) (higher q) e × (after ≡ before)

-- The tally of a list, or why there is none.
abbrev pub TallyAnswer : List Pair → Result Tally PairRefusal → Type 0
TallyAnswer qs (Ok t) = Tallies 12 t.sums qs
TallyAnswer qs (Err e) = Refuses (length qs) (highest qs) e

-- Z, where it is above 0. Its square is at most X·Y, so no correlation is above 1.
pub record SharedSpread (s : Sums) (z : ℕ) : Type 0 where
  pub value : Z s ≡ pos z
  pub above : 0 < z
  pub top : z ≤ 3240000000000
  pub square : (x y : ℕ) → X s ≡ pos x → Y s ≡ pos y → z * z ≤ x * y

abbrev pub SharedAnswer : Sums → Option ℕ → Type 0
SharedAnswer s (Some z) = SharedSpread s z
SharedAnswer s None = Z s ≤ℤ pos 0

-- the tally of no pairs
abbrev pub empty : Tally
empty = record {
  sums = none;
  few = le-add_right 12 24;
  real = ∣ ([], record { few = zero-le; within = zero-le; sums = refl }) ∣₁;
  tops = ((zero-le, zero-le, zero-le), (zero-le, zero-le, zero-le), (zero-le, zero-le, zero-le));
  spreads = ((zero-le, zero-le), (zero-le, zero-le));
}
