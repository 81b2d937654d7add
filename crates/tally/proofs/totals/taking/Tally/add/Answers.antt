use Rattle.std.proofs.Common.{arith, rules}
use Rattle.tally.proofs.Sound.{one_more, spreads, tops}
use Rattle.tally.proofs.totals.taking.Tally.add.Goals as goal

pub invariant_of-self : goal.invariant_of-self
invariant_of-self c =
    let t = c.args.self.now in
    let real = one_more c.args.pair.now t.real (omega arith) (omega arith) (search rules) in
    record { few = t.few; real = real; tops = tops real; spreads = spreads real }
