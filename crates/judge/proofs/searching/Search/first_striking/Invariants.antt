use Rattle.std.proofs.Common.{◌≡◌, None}
use Rattle.judge.specs.Search.{Passed}
use Rattle.judge.proofs.searching.Search.first_striking.Given as goal

-- Nothing is found, and nothing before this place would do.
abbrev pub invariant-search : goal.invariant-search
invariant-search g l = (l.found ≡ None) × Passed (g.S.Standard.meaning l.self.standard.now) l.self.low l.mids l.highs l.total 0 0 l.h-index

abbrev pub invariant-loop-m : goal.invariant-loop-m
invariant-loop-m g l = (l.found ≡ None) × Passed (g.S.Standard.meaning l.self.standard.now) l.self.low l.mids l.highs l.total 0 l.m-index l.h-index

abbrev pub invariant-loop-l : goal.invariant-loop-l
invariant-loop-l g l = (l.found ≡ None) × Passed (g.S.Standard.meaning l.self.standard.now) l.self.low l.mids l.highs l.total l.l-index l.m-index l.h-index
