use Rattle.std.proofs.Common.{rules}
use Rattle.judge.specs.Judging.{Because}
use Rattle.judge.proofs.Blame.{blamed, fruitful, in_all}
use Rattle.terms.specs.declared.levels.Level.TheVariants.{Low, Mid, High}
use Rattle.judge.proofs.searching.Search.fewest_in_all.Goals as goal

pub returns-in_err-mid : goal.returns-in_err-mid
returns-in_err-mid g c d s =
    let m = g.S.Standard.meaning c.args.self.now.standard.now in
    let lawful = g.met.S.Standard.lawful c.args.self.now.standard.now in
    let low = fruitful m d Low _ (c.in_ok-low.ensures m d.low lawful s.low) in
    let none = c.in_err-mid.ensures m d.mid lawful s.mid in
    let because : Because m d c.in_err-mid.field-0.0 = blamed m d Mid _ none (low, none.barren) in
    search rules

pub returns-in_err-high : goal.returns-in_err-high
returns-in_err-high g c d s =
    let m = g.S.Standard.meaning c.args.self.now.standard.now in
    let lawful = g.met.S.Standard.lawful c.args.self.now.standard.now in
    let low = fruitful m d Low _ (c.in_ok-low.ensures m d.low lawful s.low) in
    let mid = fruitful m d Mid _ (c.in_ok-mid.ensures m d.mid lawful s.mid) in
    let none = c.in_err-high.ensures m d.high lawful s.high in
    let because : Because m d c.in_err-high.field-0.0 = blamed m d High _ none (low, mid, none.barren) in
    search rules

pub returns : goal.returns
returns g c d s =
    let m = g.S.Standard.meaning c.args.self.now.standard.now in
    let lawful = g.met.S.Standard.lawful c.args.self.now.standard.now in
    let all = in_all m d _ _ _ (c.in_ok-low.ensures m d.low lawful s.low) (c.in_ok-mid.ensures m d.mid lawful s.mid) (c.in_ok-high.ensures m d.high lawful s.high) in
    rw (c.from.ensures, c.from-2.ensures, c.from-3.ensures) all
