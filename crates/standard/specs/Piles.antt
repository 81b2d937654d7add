-- The meaning of each of PS-16's piles, from the layers that it is made of.
use Rattle.standard.specs.Layers.{absolute, statistics, waiver}
use Rattle.standard.specs.Meaning.{Meaning}
use Rattle.standard.specs.Plain.{diluent, pollutant}
use Rattle.standard.specs.declared.piles.Ps16.{Ps16}
use Rattle.standard.specs.declared.piles.Ps16.TheVariants.{Excess, ExcessDiluent, Compliance, ComplianceDiluent}

abbrev pub meaning_of : Ps16 → Meaning
meaning_of (Excess s) = pollutant s.head
meaning_of (ExcessDiluent s) = absolute s.margin diluent
meaning_of (Compliance s) = waiver s.head (statistics s.below.head (pollutant s.below.below.head))
meaning_of (ComplianceDiluent s) = waiver s.head (statistics s.below.head (absolute s.below.below.margin diluent))
