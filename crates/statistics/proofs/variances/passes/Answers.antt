use Rattle.std.proofs.Common.{◌-◌, ◌≤◌, arith}
use Rattle.std.proofs.lemmas.Nat.{mul-le}
use Rattle.statistics.proofs.variances.passes.Goals as goal

pub overflow_mul-result-else-y-f-4 : goal.overflow_mul-result-else-y-f-4
overflow_mul-result-else-y-f-4 c =
    let less : c.args.n - 1 ≤ 11 = omega arith in
    let runs = mul-le _ _ _ _ c.requires.n.1 less in
    omega (arith, mul-le _ _ _ _ (mul-le _ _ _ _ c.requires.f runs) (mul-le _ _ _ _ c.requires.g c.requires.g))
