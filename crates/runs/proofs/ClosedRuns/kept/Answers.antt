use Rattle.std.proofs.Common.{ap, ◌∙◌, arith}
use Rattle.runs.specs.Sets.{kept}
use Rattle.runs.proofs.Kept.{all_kept, more_kept, more_struck}
use Rattle.tally.specs.Sums.{sums_of}
use Rattle.tally.specs.declared.sums.Sums.{Sums}
use Rattle.tally.specs.Tallying.{Tally}
use Rattle.terms.specs.declared.pairs.Pair.{Pair}
use Rattle.terms.proofs.Highest.{higher_at}
use Rattle.runs.proofs.ClosedRuns.kept.Goals as goal
use Rattle.runs.proofs.ClosedRuns.kept.Goals.{then-rest-eq0, else-rest-eq0}

-- what stands beyond a list of pairs
abbrev beyond : Pair
beyond = record { reference = 0; predicted = 0 }

pub take_in-requires : goal.take_in-requires
take_in-requires c =
    let high = higher_at c.as_slice-pairs.result.now c.loop-pair.pair-index beyond c.loop-pair-test.true in
    record { room = omega arith; within = omega arith }

pub loop-pair-preserved : goal.loop-pair-preserved
loop-pair-preserved c =
    let pairs = c.as_slice-pairs.result.now in
    let l = c.loop-pair in
    elim c.if-rest-eq0.branch [
      | then-rest-eq0 w ↦
          let is = ap (λ (t : Tally). t.sums) w.tally-is ∙ w.take_in.ensures in
          let n = ap (λ (s : Sums). s.n) is in
          (omega arith, more_kept pairs _ _ _ _ beyond l.invariant.1 c.loop-pair-test.true _ is w.if-rest-eq0.true)
      | else-rest-eq0 w ↦
          let is = ap (λ (t : Tally). t.sums) w.tally-is in
          let n = ap (λ (s : Sums). s.n) is in
          (omega arith, more_struck pairs _ _ _ _ beyond l.invariant.1 c.loop-pair-test.true _ is w.if-rest-eq0.false)
    ]

pub returns : goal.returns
returns c =
    all_kept _ _ _ _ _ c.loop-pair.invariant.1 c.loop-pair-test.false ∙ ap (λ qs. sums_of (kept c.args.struck qs)) c.as_slice-pairs.ensures.pairs
