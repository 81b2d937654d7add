-- The meanings of the standards of a pollutant and of a diluent.
use Rattle.std.specs.Prelude.{true}
use Rattle.accuracy.specs.Accuracy.{diluent_accurate, pollutant_accurate}
use Rattle.standard.specs.Meaning.{Meaning}
use Rattle.terms.specs.declared.heads.Head.{Head}

-- Accuracy alone is asked; the numbers are 3, 3, 3.
abbrev pub pollutant : Head → Meaning
pollutant head = record {
  accuracy = λ _ s. pollutant_accurate head.kind head.emission s;
  statistics = λ _ _. true;
  together = λ _ _ _. true;
  least_kept = 3;
  most_struck = 3;
  most_in_all = 3;
}

abbrev pub diluent : Meaning
diluent = record {
  accuracy = λ _ s. diluent_accurate s;
  statistics = λ _ _. true;
  together = λ _ _ _. true;
  least_kept = 3;
  most_struck = 3;
  most_in_all = 3;
}
