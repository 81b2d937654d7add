use Rattle.std.specs.Range.{range_inclusive_start, range_inclusive_end}
use Rattle.judge.specs.Shortlists.{Gathered}
use Rattle.runs.specs.Closed.{pairs_of}
use Rattle.judge.proofs.listing.Candidates.gather.Given as goal

-- the sets so far
abbrev pub invariant-loop-set : goal.invariant-loop-set
invariant-loop-set g l =
    Gathered (g.S.Standard.meaning l.self.standard.now) l.self.level (pairs_of l.self.runs.now) (range_inclusive_start l.self.strikes) (range_inclusive_end l.self.strikes) l.set l.list
