use Rattle.std.proofs.Common.{◌-◌, ◌*◌, ◌≤◌, sym, arith, rules}
use Rattle.std.proofs.lemmas.Nat.{mul-le}
use Rattle.accuracy.proofs.Within.{not_within, within_is}
use Rattle.accuracy.proofs.rules.is_within.Goals as goal

pub returns-in_default-checked_sub : goal.returns-in_default-checked_sub
returns-in_default-checked_sub c =
    let less = c.in_default-checked_sub.ensures in
    sym (not_within c.args.tally.now.sums _ _ _ c.distance.ensures.value (omega (arith, less)))

pub overflow_mul-result-3 : goal.overflow_mul-result-3
overflow_mul-result-3 c =
    let left : c.in-Some-checked_sub.left ≤ 12000000 = omega (arith, mul-le _ _ _ _ c.requires.limit c.requires.reference) in
    let runs : 100 * (c.args.tally.now.sums.n - 1) ≤ 1100 = omega arith in
    omega (arith, mul-le _ _ _ _ runs (mul-le _ _ _ _ left left))

pub returns : goal.returns
returns c =
    let some = c.in-Some.ensures in
    let left = c.in-Some-checked_sub.ensures in
    let within = within_is c.args.tally.now.sums _ _ _ _ some.0 some.1 c.distance.ensures.value left.0 in
    rw (left.1, within) (search rules)
