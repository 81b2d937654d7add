use Rattle.std.proofs.Common.{◌≡◌, rules}
use Rattle.statistics.specs.Variance.{is_steady}
use Rattle.statistics.proofs.Words.{steady_says}
use Rattle.statistics.proofs.variances.is_steady.Goals as goal

pub returns : goal.returns
returns c =
    let t = c.args.tally.now in
    let head = c.args.head.now in
    let is : c.passes.result ≡ is_steady head.kind head.span t.sums = search rules in
    record { value = is; words = rw is (steady_says t.sums t.tops t.spreads head.kind head.span) }
