use Rattle.std.proofs.Common.{sym}
use Rattle.judge.proofs.Summing.{groups_lightest, groups_wants}
use Rattle.judge.proofs.shortlists.ByCount.fewest.Goals as goal

pub returns-in-Some : goal.returns-in-Some
returns-in-Some c m runs lawful w = groups_lightest m lawful c.args.level runs c.args.self.now w _ (sym c.in-Some.ensures)

pub returns-in-None : goal.returns-in-None
returns-in-None c m runs lawful w =
    let level = c.args.level in
    rw (c.wanting.ensures, c.accurate.ensures) (groups_wants m lawful level runs c.args.self.now w (sym c.in-None.ensures))
