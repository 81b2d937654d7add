use Rattle.std.proofs.Common.{◌≡◌, ◌+◌, ◌*◌, rules}
use Rattle.tally.proofs.Shared.{shared_answer}
use Rattle.tally.proofs.totals.Totals.shared_spread.Goals as goal

pub returns : goal.returns
returns g c =
    let t = c.args.self.now in
    let z : c.in_ok-z.z + t.sums.r * t.sums.p ≡ t.sums.n * t.sums.rp = search rules in
    rw c.then_some.ensures (shared_answer t.sums t.few t.real t.tops _ z _ (search rules) (search rules))
