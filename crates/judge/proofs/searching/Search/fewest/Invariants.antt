use Rattle.judge.specs.Search.{NoneBelow}
use Rattle.judge.specs.Shortlists.{listed}
use Rattle.judge.proofs.searching.Search.fewest.Given as goal

-- nothing that strikes fewer would do
abbrev pub invariant-loop-total : goal.invariant-loop-total
invariant-loop-total g l = NoneBelow (g.S.Standard.meaning l.self.standard.now) l.self.low (listed l.self.mid) (listed l.self.high) l.total
