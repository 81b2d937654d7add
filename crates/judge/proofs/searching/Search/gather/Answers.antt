use Rattle.std.proofs.Common.{◌^◌, ◌≤◌, ℕ, List, [], ◌∷◌, false, length, map, slice_index_or, subst, sym, arith, rules}
use Rattle.judge.specs.Shortlists.{Upto, listed}
use Rattle.judge.specs.declared.shortlists.Shortlist.{Shortlist}
use Rattle.judge.proofs.Filling.{filled, last_empty}
use Rattle.judge.proofs.Groups.{up_to_three}
use Rattle.runs.specs.Closed.{pairs_of}
use Rattle.terms.specs.declared.levels.Level.TheVariants.{Low}
use Rattle.judge.proofs.searching.Search.gather.Goals as goal

pub gather-requires-4 : goal.gather-requires-4
gather-requires-4 g c =
    let low = c.args.self.now.low in
    let empty = c.requires.low 3 (omega arith) in
    last_empty low.groups _ _ _ _ low.four empty.0 empty.1

pub returns-clause-whole : goal.returns-clause-whole
returns-clause-whole g c =
    let low = c.args.self.now.low in
    let runs = pairs_of c.args.closed.now.low in
    let whole : List Shortlist → ℕ → Type 0 = λ lists n. Upto (g.S.Standard.meaning c.args.self.now.standard.now) Low runs n n (2 ^ length runs) (slice_index_or (map listed lists) n []) (slice_index_or (map (λ (list : Shortlist). list.accurate) lists) n false) in
    let lists : List Shortlist = c.gather.new.list ∷ c.gather-2.new.list ∷ c.gather-3.new.list ∷ c.gather-4.new.list ∷ [] in
    record {
      low = subst (λ lists. (n : ℕ) → n ≤ 3 → whole lists n) (sym (filled low.groups _ _ _ _ low.four)) (up_to_three (whole lists) (search rules) (search rules) (search rules) (search rules));
      mid = search rules;
      high = search rules;
    }
