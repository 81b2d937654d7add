use Rattle.std.proofs.Common.{rules}
use Rattle.statistics.proofs.Correlated.{not_correlated, some_each}
use Rattle.statistics.proofs.correlations.are_correlated.Goals as goal

pub invariant_of-slope : goal.invariant_of-slope
invariant_of-slope c =
    record { some = (some_each c.in-Some.ensures _ _ c.reference_spread-x.ensures.value c.predicted_spread-y.ensures.value).0 }

pub returns-in_default : goal.returns-in_default
returns-in_default c = not_correlated c.of-joined.ensures c.in_default.ensures

pub returns : goal.returns
returns c =
    let some = some_each c.in-Some.ensures _ _ c.reference_spread-x.ensures.value c.predicted_spread-y.ensures.value in
    let shared = c.in-Some.ensures in
    search rules
