use Rattle.std.proofs.Common.{arith}
use Rattle.tally.proofs.Sound.{joined, spreads, tops}
use Rattle.tally.proofs.totals.joining.Joined.of.Goals as goal

pub invariant_of-result : goal.invariant_of-result
invariant_of-result c =
    let real = joined c.args.low.now.real c.args.mid.now.real c.args.high.now.real in
    record { few = omega arith; real = real; tops = tops real; spreads = spreads real }
