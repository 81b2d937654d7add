use Rattle.std.proofs.Common.{arith}
use Rattle.std.proofs.lemmas.Result.{err_from_is_err_and}
use Rattle.tally.proofs.Sound.{refused_more, taken_all, taken_more}
use Rattle.tally.proofs.totals.taking.Tally.of.Goals as goal

pub returns-in_err-add : goal.returns-in_err-add
returns-in_err-add c =
    let p = err_from_is_err_and c.from_residual.result c.from_residual.ensures.1 in
    rw (p.1, p.2) (refused_more c.args.pairs.now _ _ (omega arith) c.loop-pair-test.true _ c.loop-pair.invariant c.in_err-add.ensures.0)

pub loop-pair-preserved : goal.loop-pair-preserved
loop-pair-preserved c =
    let added = c.in_ok-add.ensures in
    taken_more c.args.pairs.now _ _ (omega arith) c.loop-pair-test.true c.loop-pair.invariant added.1 added.2

pub returns : goal.returns
returns c = taken_all _ _ c.loop-pair-test.false c.loop-pair.invariant
