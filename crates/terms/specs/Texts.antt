-- How levels and pairs are written.
use Rattle.std.specs.Prelude.{ℕ, List, ◌++◌, codes, decimal}
use Rattle.terms.specs.declared.levels.Level.{Level}
use Rattle.terms.specs.declared.levels.Level.TheVariants.{Low, Mid, High}
use Rattle.terms.specs.declared.pairs.Pair.{Pair}

abbrev pub level_name : Level → List ℕ
level_name Low = codes "low"
level_name Mid = codes "mid"
level_name High = codes "high"

-- the reference, a slash and the prediction
abbrev pub pair_text : Pair → List ℕ
pair_text q = decimal q.reference ++ codes "/" ++ decimal q.predicted
