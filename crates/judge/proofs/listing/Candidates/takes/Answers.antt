use Rattle.std.proofs.Common.{◌+◌, leb, arith, rules}
use Rattle.std.specs.Range.{range_inclusive_start, range_inclusive_end}
use Rattle.judge.specs.Shortlists.{Between}
use lib.Count.{ones}
use Rattle.std.proofs.lemmas.Bool.{leb-false, leb-true}
use Rattle.judge.proofs.Counting.{kept_struck}
use Rattle.judge.proofs.Groups.{either}
use Rattle.runs.specs.Closed.{pairs_of}
use Rattle.judge.proofs.listing.Candidates.takes.Goals as goal

pub returns-then-struck-limits : goal.returns-then-struck-limits
returns-then-struck-limits g c =
    let all = kept_struck (pairs_of c.args.self.now.runs.now) c.args.set c.requires.closed in
    let limits = c.requires.limits in
    let needed = c.args.limits.least_kept + ones c.args.set in
    either (leb needed c.len.result) _ _
    (λ e.
    let enough = leb-true needed c.len.result e in
    let between : Between (range_inclusive_start c.args.self.now.strikes) (range_inclusive_end c.args.self.now.strikes) c.args.set = search rules in
    (between, record { closed = c.requires.closed; keeps = omega (arith, limits.0, limits.1); strikes = omega (arith, limits.0, limits.1) }))
    (λ e between fits. let wanting = leb-false needed c.len.result e in omega (arith, limits.0, fits.keeps))
