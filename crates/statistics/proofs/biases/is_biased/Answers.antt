use Rattle.std.proofs.Common.{sym, arith}
use Rattle.statistics.proofs.Biased.{biased_is}
use Rattle.statistics.proofs.Words.{biased_says}
use Rattle.statistics.proofs.biases.is_biased.Goals as goal

pub returns : goal.returns
returns c =
    let t = c.args.tally.now in
    let some = c.in-Some.ensures in
    let difference = c.in-Some-checked_sub.ensures in
    let is = sym (biased_is t.sums _ _ some.0 some.1 (omega (arith, difference))) in
    record { value = is; words = rw is (biased_says t.sums t.tops t.spreads) }
