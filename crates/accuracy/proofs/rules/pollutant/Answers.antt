use Rattle.std.proofs.Common.{◌≡◌, ◌∙◌, rules}
use Rattle.accuracy.specs.Accuracy.{pollutant_accurate}
use Rattle.accuracy.proofs.Accurate.{flawless_pollutant, pollutant_says}
use Rattle.accuracy.proofs.rules.pollutant.Goals as goal

pub returns : goal.returns
returns c =
    let t = c.args.tally.now in
    let head = c.args.head.now in
    let is : c.is_within.result ≡ pollutant_accurate head.kind head.emission t.sums = search rules in
    record {
      value = is;
      words = rw is (pollutant_says t.sums t.tops t.spreads head.kind head.emission);
      flawless = λ enough h. is ∙ flawless_pollutant t.sums head.kind head.emission enough h;
    }
