use Rattle.std.proofs.Common.{take}
use Rattle.tally.specs.Sums.{Tallies}
use Rattle.tally.proofs.totals.taking.Tally.of.Given as goal

-- the tally is that of the pairs so far
abbrev pub invariant-loop-pair : goal.invariant-loop-pair
invariant-loop-pair l = Tallies 12 l.tally.sums (take l.pair-index l.pairs)
