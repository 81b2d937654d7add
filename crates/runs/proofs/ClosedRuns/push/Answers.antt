use Rattle.std.proofs.Common.{◌∙◌, arith, length-set, length-take-le}
use Rattle.std.proofs.lemmas.List.{take_more_set}
use Rattle.terms.proofs.Highest.{highest_stored}
use Rattle.runs.proofs.ClosedRuns.push.Goals as goal

pub invariant_of-self : goal.invariant_of-self
invariant_of-self c =
    let runs = c.args.self.now.runs in
    let higher = highest_stored runs c.args.self.now.count c.args.pair (omega arith) in
    record {
      room = length-set runs _ _ ∙ c.args.self.now.room;
      few = omega arith;
      within = omega (arith, higher);
    }

pub returns : goal.returns
returns c =
    let runs = c.args.self.now.runs in
    let long = length-take-le c.args.self.now.count runs (omega arith) in
    record {
      answer = (omega (arith, long), omega arith, take_more_set runs _ c.args.pair (omega arith));
      highest = highest_stored runs c.args.self.now.count c.args.pair (omega arith);
    }
