-- The meaning of each layer, as a function of the meaning below, and PS-16 by the head.
use Rattle.std.specs.Prelude.{ℕ, Bool, true, false, cond, not, ◌&&◌, ◌||◌, ◌==◌}
use Rattle.accuracy.specs.Accuracy.{is_close}
use Rattle.standard.specs.Meaning.{Meaning}
use Rattle.standard.specs.Plain.{diluent, pollutant}
use Rattle.statistics.specs.Bias.{is_biased}
use Rattle.statistics.specs.Correlation.{is_correlated}
use Rattle.statistics.specs.Variance.{is_steady}
use Rattle.statistics.specs.Waiver.{is_waived}
use Rattle.tally.specs.Sums.{none, plus}
use Rattle.tally.specs.declared.sums.Sums.{Sums}
use Rattle.terms.specs.Levels.{at_level}
use Rattle.terms.specs.declared.heads.Head.{Head}
use Rattle.terms.specs.declared.kinds.Kind.{Kind}
use Rattle.terms.specs.declared.kinds.Kind.TheVariants.{Ppm, Heat, Diluent}
use Rattle.terms.specs.declared.kinds.Use.{Use}
use Rattle.terms.specs.declared.kinds.Use.TheVariants.{Excess, Compliance}
use Rattle.terms.specs.declared.levels.Level.{Level}

-- Absolute, with a margin in units: accurate too where |D| ≤ margin·n. The rest is handed on.
abbrev pub absolute : ℕ → Meaning → Meaning
absolute margin below = record {
  accuracy = λ level s. below.accuracy level s || is_close margin s;
  statistics = below.statistics;
  together = below.together;
  least_kept = below.least_kept;
  most_struck = below.most_struck;
  most_in_all = below.most_in_all;
}

-- the level is mid
abbrev pub is_mid : Level → Bool
is_mid level = at_level (record { low = false; mid = true; high = false }) level

-- Mid is biased, and with P = 0 no factor can mend it.
abbrev pub is_past_mending : Level → Sums → Bool
is_past_mending level s = is_mid level && (s.p == 0 && is_biased s)

-- Statistics, with a head: 9 to 12 runs, yes below, the F part holds, and mid is not biased with P = 0; together, yes below
-- and a correlation. Accuracy is handed on; the numbers are 9, 3, 9.
abbrev pub statistics : Head → Meaning → Meaning
statistics head below = record {
  accuracy = below.accuracy;
  statistics = λ level s. below.statistics level s && (is_steady head.kind head.span s && not (is_past_mending level s));
  together = λ low mid high. below.together low mid high && is_correlated (plus (plus low mid) high);
  least_kept = 9;
  most_struck = 3;
  most_in_all = 9;
}

-- the level is waived under a head
abbrev pub waives : Head → Sums → Bool
waives head s = is_waived head.kind head.emission head.span s

-- a tally, emptied where its level is waived
abbrev pub unwaived : Head → Sums → Sums
unwaived head s = cond (waives head s) none s

-- Waiver, with a head: statistics is yes at a waived level; together asks below with each waived tally emptied, and is yes if
-- all three are waived. The rest is handed on.
abbrev pub waiver : Head → Meaning → Meaning
waiver head below = record {
  accuracy = below.accuracy;
  statistics = λ level s. waives head s || below.statistics level s;
  together = λ low mid high.
      (waives head low && (waives head mid && waives head high))
      || below.together (unwaived head low) (unwaived head mid) (unwaived head high);
  least_kept = below.least_kept;
  most_struck = below.most_struck;
  most_in_all = below.most_in_all;
}

-- PS-16 for excess use: pollutant, or absolute with margin 100 over diluent.
abbrev pub ps16_excess : Kind → Head → Meaning
ps16_excess Ppm head = pollutant head
ps16_excess Heat head = pollutant head
ps16_excess Diluent head = absolute 100 diluent

-- For compliance use it is waiver over statistics over that.
abbrev pub ps16_by : Use → Head → Meaning
ps16_by Excess head = ps16_excess head.kind head
ps16_by Compliance head = waiver head (statistics head (ps16_excess head.kind head))

abbrev pub ps16 : Head → Meaning
ps16 head = ps16_by head.usage head
