-- What each level has.
use Rattle.terms.specs.declared.levels.Level.{Level}
use Rattle.terms.specs.declared.levels.Level.TheVariants.{Low, Mid, High}
use Rattle.terms.specs.declared.levels.Levels.{Levels}

abbrev pub at_level : {X : Type 0} → Levels X → Level → X
at_level xs Low = xs.low
at_level xs Mid = xs.mid
at_level xs High = xs.high
