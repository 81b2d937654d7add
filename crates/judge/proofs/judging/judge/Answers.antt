use Rattle.judge.proofs.Alike.{LawfulRuns}
use Rattle.judge.proofs.Groups.{by_level}
use Rattle.judge.proofs.Lawful.{the_law}
use Rattle.runs.specs.Closed.{lists_of}
use Rattle.runs.proofs.Few.{few_pairs}
use Rattle.terms.specs.Levels.{at_level}
use Rattle.judge.proofs.judging.judge.Goals as goal

pub returns : goal.returns
returns g c =
    let closed = c.args.closed.now in
    the_law _ (lists_of closed)
    (by_level (λ at. LawfulRuns (at_level (lists_of closed) at))
    (record { few = few_pairs closed.low; within = closed.low.within })
    (record { few = few_pairs closed.mid; within = closed.mid.within })
    (record { few = few_pairs closed.high; within = closed.high.within }))
    _ c.weigh.ensures
