-- The closed runs of a level are at most twelve.
use Rattle.std.proofs.Common.{◌≤◌, length, arith, length-take-le}
use Rattle.runs.specs.Closed.{pairs_of}
use Rattle.runs.specs.declared.ClosedRuns.{ClosedRuns}

pub few_pairs : (closed : ClosedRuns) → length (pairs_of closed) ≤ 12
few_pairs closed = omega (arith, length-take-le closed.count closed.runs (omega arith))
