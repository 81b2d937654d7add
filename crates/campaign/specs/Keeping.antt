-- What a log keeps beside its readings.
use Rattle.std.specs.Prelude.{ℕ, length, Some, None, Option}
use Rattle.runs.specs.Closed.{pairs_of}
use Rattle.runs.specs.declared.ClosedRuns.{ClosedRuns}
use Rattle.terms.specs.Levels.{at_level}
use Rattle.terms.specs.declared.levels.Level.{Level}
use Rattle.terms.specs.declared.levels.Levels.{Levels}

-- how many runs are closed at the level of the run that is begun, 0 where none is
abbrev pub before_current : Option Level → Levels ClosedRuns → ℕ
before_current None closed = 0
before_current (Some level) closed = length (pairs_of (at_level closed level))
