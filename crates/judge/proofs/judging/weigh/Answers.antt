use Rattle.std.proofs.Common.{◌≤◌, ◌∙◌, length}
use Rattle.judge.proofs.Blame.{first_short}
use Rattle.judge.proofs.Found.{fewest_best, none_meets}
use Rattle.judge.proofs.Groups.{by_level}
use Rattle.runs.specs.Closed.{lists_of}
use Rattle.runs.proofs.Few.{few_pairs}
use Rattle.terms.specs.Levels.{at_level}
use Rattle.judge.proofs.judging.weigh.Goals as goal

pub returns-in-Some : goal.returns-in-Some
returns-in-Some g c = first_short (g.S.Standard.meaning c.args.standard.now) (lists_of c.args.closed.now) _ c.limits.ensures.least_kept _ c.in-Some.ensures

pub returns-in-Some-fewest : goal.returns-in-Some-fewest
returns-in-Some-fewest g c =
    let standard = c.args.standard.now in
    let closed = c.args.closed.now in
    let fewest = rw (c.gather.ensures.standard ∙ c.new-search.ensures.standard) at c.in-Some-fewest.ensures in
    let whole = rw c.new-search.ensures.standard at c.gather.ensures.whole in
    fewest_best (g.S.Standard.meaning standard) (g.met.S.Standard.lawful standard) (lists_of closed) _ _ _ whole
    (by_level (λ at. length (at_level (lists_of closed) at) ≤ 12) (few_pairs closed.low) (few_pairs closed.mid) (few_pairs closed.high))
    (first_short (g.S.Standard.meaning standard) (lists_of closed) _ c.limits.ensures.least_kept _ c.in_default.ensures) _ _ fewest

pub returns-in-None : goal.returns-in-None
returns-in-None g c =
    let standard = c.args.standard.now in
    let closed = lists_of c.args.closed.now in
    let same = c.gather.ensures.standard ∙ c.new-search.ensures.standard in
    let whole = rw c.new-search.ensures.standard at c.gather.ensures.whole in
    let none = rw same at c.in-None.ensures in
    let because = rw same at c.cause.ensures in
    record {
      enough = first_short (g.S.Standard.meaning standard) closed _ c.limits.ensures.least_kept _ c.in_default.ensures;
      none = none_meets (g.S.Standard.meaning standard) (g.met.S.Standard.lawful standard) closed _ _ _ whole none;
      because = because closed whole;
    }
