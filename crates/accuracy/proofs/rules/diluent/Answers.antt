use Rattle.std.proofs.Common.{◌∙◌}
use Rattle.accuracy.proofs.Within.{flawless_within}
use Rattle.accuracy.proofs.Accurate.{diluent_says}
use Rattle.accuracy.proofs.rules.diluent.Goals as goal

pub returns : goal.returns
returns c =
    let t = c.args.tally.now in
    let is = c.is_within.ensures in
    record {
      value = is;
      words = rw is (diluent_says t.sums t.tops t.spreads);
      flawless = λ enough h. is ∙ flawless_within t.sums 20 t.sums.r enough h;
    }
