-- The closed runs of a level as a list of pairs, and what putting one last answers.
use Rattle.std.specs.Prelude.{◌≡◌, ◌+◌, ◌<◌, ◌≤◌, List, [], ◌∷◌, ◌++◌, length, take, Ok, Err, Result}
use Rattle.terms.specs.Pairs.{Refuses}
use Rattle.terms.specs.Readings.{higher}
use Rattle.runs.specs.declared.ClosedRuns.{ClosedRuns}
use Rattle.terms.specs.declared.levels.Levels.{Levels}
use Rattle.terms.specs.declared.pairs.Pair.{Pair}
use Rattle.terms.specs.declared.pairs.PairRefusal.{PairRefusal}

-- the pairs in closing order
abbrev pub pairs_of : ClosedRuns → List Pair
pairs_of closed = take closed.count closed.runs

-- the pairs of each level
abbrev pub lists_of : Levels ClosedRuns → Levels (List Pair)
lists_of closed = record { low = pairs_of closed.low; mid = pairs_of closed.mid; high = pairs_of closed.high }

-- The pair is put last, or refused with all as it was.
abbrev pub PushAnswer : ClosedRuns → Pair → ClosedRuns → Result (Unit {0}) PairRefusal → Type 0
PushAnswer before q after (Ok _) =
    (length (pairs_of before) < 12) × (higher q ≤ 50000) × (pairs_of after ≡ pairs_of before ++ (q ∷ []))
PushAnswer before q after (Err e) = Refuses (length (pairs_of before) + 1) (higher q) e × (after ≡ before)
