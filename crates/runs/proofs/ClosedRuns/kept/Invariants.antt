use Rattle.std.proofs.Common.{◌≡◌, ◌≤◌, drop}
use Rattle.runs.specs.Sets.{kept}
use Rattle.tally.specs.Sums.{plus, sums_of}
use Rattle.runs.proofs.ClosedRuns.kept.Given as goal

-- What was taken in, and what is left, make up the whole; and no more were taken in than were passed.
abbrev pub invariant-loop-pair : goal.invariant-loop-pair
invariant-loop-pair l =
    (l.tally.sums.n ≤ l.pair-index)
    × (plus l.tally.sums (sums_of (kept l.rest (drop l.pair-index l.pairs))) ≡ sums_of (kept l.struck l.pairs))
