use Rattle.std.proofs.Common.{◌≡◌, ◌+◌, ◌<◌, ◌≤◌, List, length, sym, ap, ◌∙◌, subst, inl, inr, arith, MatchOption}
use Rattle.judge.specs.Search.{Found, NoStrike}
use Rattle.judge.specs.Shortlists.{item}
use Rattle.judge.specs.declared.shortlists.Entry.{Entry}
use Rattle.judge.proofs.Passing.{found_here, low_done, next_high, next_low, next_mid, no_more, not_there, not_together, read}
use Rattle.judge.proofs.searching.Search.first_striking.Goals as goal

-- what holds of two lists holds of their likes
alike : (P : List Entry → List Entry → Type 0) {a b a' b' : List Entry} → a ≡ a' → b ≡ b' → P a b → P a' b'
alike P p q h = rw (← p, ← q) h

pub loop-m-preserved-in_default : goal.loop-m-preserved-in_default
loop-m-preserved-in_default g c =
    let mid_is = read c.items-mids.result.now c.loop-m.m-index c.m-item.result c.loop-m-test.true c.m-item.is in
    let high_is = read c.items-highs.result.now c.search.h-index c.h-item.result c.search-test.true c.h-item.is in
    let none = not_there _ c.args.self.now.low _ _ c.args.total _ _ _ _ mid_is high_is (c.from.result + c.from-in-loop-m.result) (omega arith) in
    (c.loop-m.invariant.0, next_mid _ _ _ _ _ 0 _ _ c.loop-m.invariant.1 (λ i here. absurd (none (inl (omega (arith, c.in_default.ensures))) i here)))

pub loop-m-preserved-then-rest-gt3 : goal.loop-m-preserved-then-rest-gt3
loop-m-preserved-then-rest-gt3 g c =
    let mid_is = read c.items-mids.result.now c.loop-m.m-index c.m-item.result c.loop-m-test.true c.m-item.is in
    let high_is = read c.items-highs.result.now c.search.h-index c.h-item.result c.search-test.true c.h-item.is in
    let none = not_there _ c.args.self.now.low _ _ c.args.total _ _ _ _ mid_is high_is (c.from.result + c.from-in-loop-m.result) (omega arith) in
    (c.loop-m.invariant.0, next_mid _ _ _ _ _ 0 _ _ c.loop-m.invariant.1 (λ i here. absurd (none (inr (omega arith)) i here)))

pub loop-l-preserved : goal.loop-l-preserved
loop-l-preserved g c =
    let mid_is = read c.items-mids.result.now c.loop-m.m-index c.m-item.result c.loop-m-test.true c.m-item.is in
    let high_is = read c.items-highs.result.now c.search.h-index c.h-item.result c.search-test.true c.h-item.is in
    let lows = c.striking-l-items.ensures in
    let low_is = ap (λ xs. item xs c.loop-l.l-index) (sym lows) ∙ read _ c.loop-l.l-index c.l-item.result c.loop-l-test.true c.l-item.is in (
      c.loop-l.invariant.0,
      next_low _ _ _ _ _ _ _ _ c.loop-l.invariant.1
          (not_together _ c.args.self.now.low _ _ c.args.total _ _ _ _ mid_is high_is c.in-Some.rest (omega arith) (omega arith) _ _ low_is (sym c.together.ensures ∙ c.if-together.false)),
    )

pub loop-m-preserved : goal.loop-m-preserved
loop-m-preserved g c =
    let mid_is = read c.items-mids.result.now c.loop-m.m-index c.m-item.result c.loop-m-test.true c.m-item.is in
    let high_is = read c.items-highs.result.now c.search.h-index c.h-item.result c.search-test.true c.h-item.is in
    let all = subst (λ xs. length xs ≤ c.loop-l.l-index) c.striking-l-items.ensures c.loop-l-test.false in (
      c.loop-l.invariant.0,
      next_mid _ _ _ _ _ _ _ _ c.loop-l.invariant.1
          (low_done _ c.args.self.now.low _ _ c.args.total _ _ _ _ mid_is high_is c.in-Some.rest (omega arith) (omega arith) _ all),
    )

pub search-preserved : goal.search-preserved
search-preserved g c = (c.loop-m.invariant.0, next_high _ _ _ _ _ _ _ c.loop-m.invariant.1 c.loop-m-test.false)

pub returns-after-search : goal.returns-after-search
returns-after-search g c =
    let m = g.S.Standard.meaning c.args.self.now.standard.now in
    let low = c.args.self.now.low in
    alike (λ mids highs. MatchOption c.search.found-1 (NoStrike m low mids highs c.args.total) (Found m low mids highs c.args.total)) c.items-mids.ensures c.items-highs.ensures
    (subst (λ r. MatchOption r (NoStrike m low c.items-mids.result.now c.items-highs.result.now c.args.total) (Found m low c.items-mids.result.now c.items-highs.result.now c.args.total)) (sym c.search.invariant.0)
    (no_more _ _ _ _ _ _ c.search.invariant.1 c.search-test.false))

pub returns-then-together : goal.returns-then-together
returns-then-together g c =
    let m = g.S.Standard.meaning c.args.self.now.standard.now in
    let mid_is = read c.items-mids.result.now c.loop-m.m-index c.m-item.result c.loop-m-test.true c.m-item.is in
    let high_is = read c.items-highs.result.now c.search.h-index c.h-item.result c.search-test.true c.h-item.is in
    let lows = c.striking-l-items.ensures in
    let low_is = ap (λ xs. item xs c.loop-l.l-index) (sym lows) ∙ read _ c.loop-l.l-index c.l-item.result c.loop-l-test.true c.l-item.is in
    let within = subst (λ xs. c.loop-l.l-index < length xs) lows c.loop-l-test.true in
    alike (λ mids highs. Found m c.args.self.now.low mids highs c.args.total (record { low = c.l-item.result.set; mid = c.m-item.result.set; high = c.h-item.result.set })) c.items-mids.ensures c.items-highs.ensures
    (found_here _ c.args.self.now.low _ _ c.args.total _ _ _ _ mid_is high_is c.in-Some.rest (omega arith) (omega arith) _ _ low_is
    within c.loop-m-test.true c.search-test.true (sym c.together.ensures ∙ c.if-together.true) c.loop-l.invariant.1)
