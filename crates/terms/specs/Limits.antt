-- The ranges of readings, emission standards and spans, in units of a kind.
use Rattle.std.specs.Prelude.{ℕ, Bool, ◌&&◌, nat_le}
use Rattle.terms.specs.declared.kinds.Kind.{Kind}
use Rattle.terms.specs.declared.kinds.Kind.TheVariants.{Ppm, Heat, Diluent}

-- the highest reading of a kind
abbrev pub top_reading : Kind → ℕ
top_reading Ppm = 50000
top_reading Heat = 50000
top_reading Diluent = 10000

-- An emission standard is 1 to 50,000 units, and 0 for a diluent, which has none.
abbrev pub least_emission : Kind → ℕ
least_emission Ppm = 1
least_emission Heat = 1
least_emission Diluent = 0

abbrev pub most_emission : Kind → ℕ
most_emission Ppm = 50000
most_emission Heat = 50000
most_emission Diluent = 0

abbrev pub is_within : ℕ → ℕ → ℕ → Bool
is_within least most n = nat_le least n && nat_le n most

abbrev pub is_emission : Kind → ℕ → Bool
is_emission kind emission = is_within (least_emission kind) (most_emission kind) emission

-- A span is 1 to the highest reading.
abbrev pub is_span : Kind → ℕ → Bool
is_span kind span = is_within 1 (top_reading kind) span
