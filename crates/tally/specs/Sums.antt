-- Sums over a list of pairs, and what the sums of few enough lawful pairs keep.
use Rattle.std.specs.Prelude.{◌≡◌, ℕ, ◌+◌, ◌*◌, ◌≤◌, List, [], length, sum_by}
use Rattle.tally.specs.declared.sums.Sums.{Sums}
use Rattle.terms.specs.Readings.{highest}
use Rattle.terms.specs.declared.pairs.Pair.{Pair}

-- n, R, P, Σr², Σp² and Σ(r·p)
abbrev pub sums_of : List Pair → Sums
sums_of qs = record {
  n = length qs;
  r = sum_by (λ q. q.reference) qs;
  p = sum_by (λ q. q.predicted) qs;
  rr = sum_by (λ q. q.reference * q.reference) qs;
  pp = sum_by (λ q. q.predicted * q.predicted) qs;
  rp = sum_by (λ q. q.reference * q.predicted) qs;
}

abbrev pub none : Sums
none = sums_of []

-- the sums over two lists, one after the other
abbrev pub plus : Sums → Sums → Sums
plus s t = record {
  n = s.n + t.n;
  r = s.r + t.r;
  p = s.p + t.p;
  rr = s.rr + t.rr;
  pp = s.pp + t.pp;
  rp = s.rp + t.rp;
}

-- The sums are those of a list of at most so many pairs, with no reading over 50,000.
pub record Tallies (most : ℕ) (s : Sums) (qs : List Pair) : Type 0 where
  pub few : length qs ≤ most
  pub within : highest qs ≤ 50000
  pub sums : s ≡ sums_of qs

abbrev pub TallyOf : ℕ → Sums → Type 0
TallyOf most s = ∥ ((qs : List Pair) × Tallies most s qs) ∥₁

-- No sum over at most so many pairs passes these, nor does one times the count.
abbrev pub Tops : ℕ → Sums → Type 0
Tops most s =
    ((s.n ≤ most) × (s.r ≤ most * 50000) × (s.p ≤ most * 50000))
    × ((s.rr ≤ most * 2500000000) × (s.pp ≤ most * 2500000000) × (s.rp ≤ most * 2500000000))
    × ((s.n * s.rr ≤ most * (most * 2500000000)) × (s.n * s.pp ≤ most * (most * 2500000000)) × (s.n * s.rp ≤ most * (most * 2500000000)))

-- None of these is negative: the sum of the squared differences, and the spreads of differences, references and predictions.
abbrev pub Spreads : Sums → Type 0
Spreads s =
    ((2 * s.rp ≤ s.rr + s.pp)
    × (2 * (s.n * s.rp) + s.r * s.r + s.p * s.p ≤ s.n * (s.rr + s.pp) + 2 * (s.r * s.p)))
    × ((s.r * s.r ≤ s.n * s.rr) × (s.p * s.p ≤ s.n * s.pp))
