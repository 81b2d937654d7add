use Rattle.std.proofs.Common.{arith, below_more}
use Rattle.judge.specs.Search.{NoStrike}
use Rattle.judge.specs.Shortlists.{listed}
use Rattle.judge.proofs.searching.Search.fewest.Goals as goal

pub loop-total-preserved : goal.loop-total-preserved
loop-total-preserved g c =
    let self = c.args.self.now in
    below_more (NoStrike (g.S.Standard.meaning self.standard.now) self.low (listed self.mid) (listed self.high)) c.loop-total.total c.loop-total.invariant c.in_default.ensures

pub returns-in_default : goal.returns-in_default
returns-in_default g c n h =
    let self = c.args.self.now in
    below_more (NoStrike (g.S.Standard.meaning self.standard.now) self.low (listed self.mid) (listed self.high)) c.loop-total.total c.loop-total.invariant c.in_default.ensures
    n (omega (arith, c.limits-total-end.ensures.most_in_all))
