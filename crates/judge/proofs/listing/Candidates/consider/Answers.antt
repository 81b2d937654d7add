use Rattle.std.proofs.Common.{◌+◌, ◌≤◌, true, sym, refl, ap, ◌∙◌, subst, arith}
use Rattle.std.specs.Range.{range_inclusive_start, range_inclusive_end}
use borrow.Author.Tests.{clash}
use lib.Count.{ones}
use Rattle.judge.specs.Sets.{Accurate, Passes}
use Rattle.judge.specs.Shortlists.{Listed, Upto, listed}
use Rattle.judge.specs.declared.shortlists.Entry.{Entry}
use Rattle.judge.proofs.Counting.{below_4096, room}
use Rattle.judge.proofs.Growing.{accurate_only, passed_over, taken_in}
use Rattle.runs.specs.Closed.{pairs_of}
use Rattle.runs.proofs.Few.{few_pairs}
use Rattle.judge.proofs.listing.Candidates.consider.Goals as goal

pub returns-then-not-takes : goal.returns-then-not-takes
returns-then-not-takes g c = passed_over _ _ _ _ _ _ _ _ c.requires.begun (λ b f _. c.if-not-takes.ensures b f)

pub returns-then-not-accurate : goal.returns-then-not-accurate
returns-then-not-accurate g c =
    let self = c.args.self.now in
    let m = g.S.Standard.meaning self.standard.now in
    passed_over _ _ _ _ _ _ _ _ c.requires.begun
    (λ _ _ a. clash (sym c.if-not-accurate.true ∙ c.accurate.ensures ∙ ap (m.accuracy self.level) c.kept-kept.ensures ∙ a))

pub push-requires : goal.push-requires
push-requires g c =
    let self = c.args.self.now in
    let fits = c.if-not-takes.ensures.1 in
    let most = (g.met.S.Standard.lawful self.standard.now).struck_to in
    (omega arith, room c.args.set _ (below_4096 _ _ (few_pairs self.runs.now) c.requires.closed) (omega (arith, fits.strikes)) (omega (arith, c.requires.begun.few)))

pub returns-then-steady : goal.returns-then-steady
returns-then-steady g c =
    let self = c.args.self.now in
    let m = g.S.Standard.meaning self.standard.now in
    let at = self.level in
    let runs = pairs_of self.runs.now in
    let set = c.args.set in
    let list = c.args.list.now in
    let from = range_inclusive_start c.args.self.now.strikes in
    let to = range_inclusive_end c.args.self.now.strikes in
    let tallied = c.kept-kept.ensures in
    let taken = c.if-not-takes.ensures in
    let passes : Passes m at runs set = record {
      accurate = ap (m.accuracy at) (sym tallied) ∙ sym c.accurate.ensures ∙ c.if-not-accurate.false;
      steady = ap (m.statistics at) (sym tallied) ∙ sym c.steady.ensures ∙ c.if-steady.true;
    } in
    let e : Entry = record { set = set; struck = ones set; kept = c.kept-kept.result } in
    let entry : Listed m at runs e = record { fits = taken.1; passes = passes; struck = refl; tallied = tallied } in
    let three : ones set ≤ 3 = omega (arith, taken.1.strikes, (g.met.S.Standard.lawful self.standard.now).struck_to) in
    let grown = taken_in m at runs from to set (listed list) list.accurate c.requires.begun e refl taken.0 entry (below_4096 _ _ (few_pairs self.runs.now) c.requires.closed) three in
    subst (λ items. Upto m at runs from to (set + 1) items true) (sym c.push.ensures.items) grown

pub returns-else-steady : goal.returns-else-steady
returns-else-steady g c =
    let self = c.args.self.now in
    let m = g.S.Standard.meaning self.standard.now in
    let at = self.level in
    let tallied = c.kept-kept.ensures in
    let accurate : Accurate m at (pairs_of self.runs.now) c.args.set = ap (m.accuracy at) (sym tallied) ∙ sym c.accurate.ensures ∙ c.if-not-accurate.false in
    accurate_only _ _ _ _ _ _ _ _ c.requires.begun c.if-not-takes.ensures.1 accurate
    (λ p. clash (sym c.if-steady.false ∙ c.steady.ensures ∙ ap (m.statistics at) tallied ∙ p.steady))
