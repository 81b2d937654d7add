use Rattle.judge.proofs.Summing.{list_shows}
use Rattle.judge.proofs.shortlists.Shortlist.fewest.Goals as goal

pub returns : goal.returns
returns c m runs lawful w =
    rw (c.ok_or.ensures.value, c.wanting.ensures) (list_shows m lawful c.args.level runs c.args.self.now w c.least.result c.least.ensures)
