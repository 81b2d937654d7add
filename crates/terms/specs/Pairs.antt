-- Why pairs are not taken in.
use Rattle.std.specs.Prelude.{ℕ, ◌+◌, ◌<◌, ◌≤◌, Ok, Err, Result}
use Rattle.terms.specs.Readings.{higher}
use Rattle.terms.specs.declared.pairs.Pair.{Pair}
use Rattle.terms.specs.declared.pairs.PairRefusal.{PairRefusal}
use Rattle.terms.specs.declared.pairs.PairRefusal.TheVariants.{Full, OverTop}

-- Of so many pairs, with this highest reading: first, that there would be more than twelve; then, that a reading is over 50,000.
abbrev pub Refuses : ℕ → ℕ → PairRefusal → Type 0
Refuses count reading Full = 12 < count
Refuses count reading OverTop = (count ≤ 12) × (50000 < reading)

-- A pair beside so many others: there is room for it and no reading is over 50,000, or it is refused.
abbrev pub AdmitAnswer : ℕ → Pair → Result (Unit {0}) PairRefusal → Type 0
AdmitAnswer others q (Ok _) = (others < 12) × (higher q ≤ 50000)
AdmitAnswer others q (Err e) = Refuses (others + 1) (higher q) e
