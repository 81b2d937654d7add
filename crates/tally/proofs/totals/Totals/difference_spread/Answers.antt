use Rattle.std.proofs.Common.{◌∙◌}
use Rattle.tally.proofs.Numbers.{W_is, W_top, apart, distance_fits}
use Rattle.tally.proofs.Squares.{spread_of_differences}
use Rattle.tally.proofs.totals.Totals.difference_spread.Goals as goal

pub spread-requires-clause-sum : goal.spread-requires-clause-sum
spread-requires-clause-sum g c =
    let t = c.args.self.now in
    distance_fits t.sums t.tops t.spreads _ (c.abs_diff-distance.ensures ∙ apart t.sums)

pub returns : goal.returns
returns g c =
    let t = c.args.self.now in
    let distance = c.abs_diff-distance.ensures ∙ apart t.sums in
    let value = W_is t.sums t.tops t.spreads _ distance _ c.spread.ensures in
    record {
      value = value;
      top = W_top t.sums t.tops t.spreads _ distance _ value;
      differences = spread_of_differences _ _ value;
    }
