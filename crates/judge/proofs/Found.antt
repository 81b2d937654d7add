-- From the shortlists of the three levels to the best selection, or to none.
use Rattle.std.proofs.Common.{◌≡◌, ℕ, ◌+◌, ◌<◌, ◌≤◌, length, sym, ap, ◌∙◌, subst, inl, inr, ⊎_elim, arith}
use lib.Count.{ones}
use Rattle.std.proofs.lemmas.Bool.{cases_order}
use Rattle.judge.specs.Judging.{AllFit, AllPass, Allowed, Best, Campaign, Enough, Meets, code, left_at, struck_in_all}
use Rattle.judge.specs.Search.{Fewest, NoneBelow, Searches, Strike, group}
use Rattle.judge.specs.Sets.{Fits, Passes}
use Rattle.judge.specs.Shortlists.{Listed, item, listed}
use Rattle.judge.specs.declared.shortlists.ByCount.{ByCount}
use Rattle.judge.specs.declared.shortlists.Entry.{Entry}
use Rattle.judge.specs.declared.shortlists.Shortlist.{Shortlist}
use Rattle.judge.proofs.Counting.{below_4096}
use Rattle.judge.proofs.Groups.{by_level}
use Rattle.runs.specs.Sets.{Selection, kept}
use Rattle.standard.specs.Meaning.{Lawful, Meaning}
use Rattle.tally.specs.Sums.{sums_of}
use Rattle.terms.specs.Levels.{at_level}
use Rattle.terms.specs.declared.levels.Level.{Level}
use Rattle.terms.specs.declared.levels.Level.TheVariants.{Low, Mid, High}

module _ (m : Meaning) (lawful : Lawful m) (c : Campaign) (lows : ByCount) (mids highs : Shortlist) (s : Searches m c lows mids highs) where
  -- what stands at a place of each level
  abbrev low_at : ℕ → ℕ → Entry
  low_at rest i = item (group lows rest) i

  abbrev mid_at : ℕ → Entry
  mid_at j = item (listed mids) j

  abbrev high_at : ℕ → Entry
  high_at k = item (listed highs) k

  abbrev Here : ℕ → ℕ → ℕ → ℕ → Type 0
  Here n = Strike m lows (listed mids) (listed highs) n

  -- the sums kept by a set that is that of an entry
  same_sums : (at : Level) (x : Selection) (e : Entry) → e.kept.sums ≡ sums_of (kept e.set (at_level c at)) → at_level x at ≡ e.set → left_at m c x at ≡ e.kept.sums
  same_sums at x e tallied is = ap (λ set. sums_of (kept set (at_level c at))) is ∙ sym tallied

  module _ (n i j k : ℕ) (here : Here n i j k) where
    low_listed : Listed m Low c.low (low_at here.rest i)
    low_listed = (s.low here.rest here.few).listed i here.low

    mid_listed : Listed m Mid c.mid (mid_at j)
    mid_listed = s.mid.listed j here.mid

    high_listed : Listed m High c.high (high_at k)
    high_listed = s.high.listed k here.high

    low_count : ones (low_at here.rest i).set ≡ here.rest
    low_count = let b = (s.low here.rest here.few).between i here.low in omega arith

    -- what is struck at three places is allowed and meets the standard
    module _ (x : Selection) (el : x.low ≡ (low_at here.rest i).set) (em : x.mid ≡ (mid_at j).set) (eh : x.high ≡ (high_at k).set) where
      pub counts : n ≡ struck_in_all x
      counts = omega (arith, here.count, low_count, mid_listed.struck, high_listed.struck, ap ones el, ap ones em, ap ones eh)

      pub allows : n ≤ m.most_in_all → Allowed m c x
      allows most = record {
        fits = by_level (λ at. Fits m (at_level c at) (at_level x at)) (subst (Fits m c.low) (sym el) low_listed.fits) (subst (Fits m c.mid) (sym em) mid_listed.fits) (subst (Fits m c.high) (sym eh) high_listed.fits);
        in_all = omega (arith, counts);
      }

      pub meets : Meets m c x
      meets = record {
        passes = by_level (λ at. Passes m at (at_level c at) (at_level x at)) (subst (Passes m Low c.low) (sym el) low_listed.passes) (subst (Passes m Mid c.mid) (sym em) mid_listed.passes) (subst (Passes m High c.high) (sym eh) high_listed.passes);
        together = rw (same_sums Low x (low_at here.rest i) low_listed.tallied el, same_sums Mid x (mid_at j) mid_listed.tallied em, same_sums High x (high_at k) high_listed.tallied eh) here.together;
      }

  -- and every selection whose sets fit and get both yeses is in the shortlists
  pub record Stands (y : Selection) : Type 0 where
    pub i : ℕ
    pub j : ℕ
    pub k : ℕ
    pub few : ones y.low ≤ 3
    pub low : i < length (group lows (ones y.low))
    pub mid : j < length (listed mids)
    pub high : k < length (listed highs)
    pub low_set : (low_at (ones y.low) i).set ≡ y.low
    pub mid_set : (mid_at j).set ≡ y.mid
    pub high_set : (high_at k).set ≡ y.high

  pub stands : (y : Selection) → AllFit m c y → AllPass m c y → Stands y
  stands y fits passes =
      let three : (at : Level) → ones (at_level y at) ≤ 3 = λ at. omega (arith, (fits at).strikes, lawful.struck_to) in
      let a = (s.low (ones y.low) (three Low)).complete y.low (fits Low).closed (omega arith, omega arith) (fits Low) (passes Low) in
      let b = s.mid.complete y.mid (fits Mid).closed (omega arith, three Mid) (fits Mid) (passes Mid) in
      let d = s.high.complete y.high (fits High).closed (omega arith, three High) (fits High) (passes High) in
      record { i = a.0; j = b.0; k = d.0; few = three Low; low = a.1; mid = b.1; high = d.1; low_set = a.2; mid_set = b.2; high_set = d.2 }

  pub meets_here : (y : Selection) (p : Stands y) → Meets m c y → Here (struck_in_all y) p.i p.j p.k
  meets_here y p meets =
      let a = (s.low (ones y.low) p.few).listed p.i p.low in
      let b = s.mid.listed p.j p.mid in
      let d = s.high.listed p.k p.high in
      record {
        rest = ones y.low;
        count = omega (arith, b.struck, d.struck, ap ones p.mid_set, ap ones p.high_set);
        few = p.few;
        low = p.low;
        mid = p.mid;
        high = p.high;
        together = rw (← same_sums Low y (low_at (ones y.low) p.i) a.tallied (sym p.low_set), ← same_sums Mid y (mid_at p.j) b.tallied (sym p.mid_set), ← same_sums High y (high_at p.k) d.tallied (sym p.high_set)) meets.together;
      }

  pub none_meets : NoneBelow m lows (listed mids) (listed highs) (m.most_in_all + 1) → (y : Selection) → Allowed m c y → Meets m c y → ⊥
  none_meets none y allowed met =
      let p = stands y allowed.fits met.passes in
      none (struck_in_all y) (omega (arith, allowed.in_all)) p.i p.j p.k (meets_here y p met)

  -- the first that strikes fewest is the best
  module _ (short : (at : Level) → length (at_level c at) ≤ 12) (x : Selection) (n : ℕ) (f : Fewest m lows (listed mids) (listed highs) x n) where
    abbrev z_here : Here n f.found.i f.found.j f.found.k
    z_here = f.found.here

    count : n ≡ struck_in_all x
    count = counts n _ _ _ z_here x f.found.low f.found.mid f.found.high

    allowed : Allowed m c x
    allowed = allows n _ _ _ z_here x f.found.low f.found.mid f.found.high f.in_all

    -- among those that strike as many, none comes before
    as_many : (y : Selection) (p : Stands y) (here : Here n p.i p.j p.k) → struck_in_all y ≡ n → code x ≤ code y
    as_many y p here e =
        let b = s.mid.listed p.j p.mid in
        let d = s.high.listed p.k p.high in
        let own : ones y.low ≡ here.rest = omega (arith, here.count, b.struck, d.struck, ap ones p.mid_set, ap ones p.high_set) in
        let xl : x.low < 4096 = below_4096 x.low _ (short Low) (allowed.fits Low).closed in
        let xm : x.mid < 4096 = below_4096 x.mid _ (short Mid) (allowed.fits Mid).closed in
        let z = f.found in
        let fl = z.low in
        let fm = z.mid in
        let fh = z.high in
        let pl = p.low_set in
        let pm = p.mid_set in
        let ph = p.high_set in
        let not_before = z.first p.i p.j p.k here in
        ⊎_elim
        (λ ek. let eh = ap (λ k. (high_at k).set) ek in
        let hs = ap (λ k. (high_at k).struck) ek in
        ⊎_elim
        (λ ej. let em = ap (λ j. (mid_at j).set) ej in
        let ms = ap (λ j. (mid_at j).struck) ej in
        let rest : here.rest ≡ z.here.rest = omega (arith, z.here.count, here.count) in
        let same : (low_at (ones y.low) p.i).set ≡ (low_at z.here.rest p.i).set = ap (λ r. (low_at r p.i).set) (own ∙ rest) in
        ⊎_elim
        (λ ei. let el = ap (λ i. (low_at z.here.rest i).set) ei in omega arith)
        (⊎_elim
        (λ before. absurd (not_before (inr (ek, inr (ej, before)))))
        (λ after. let r = (s.low z.here.rest z.here.few).rising z.i p.i after (subst (λ r. p.i < length (group lows r)) rest here.low) in omega arith))
        (cases_order p.i z.i))
        (⊎_elim
        (λ before. absurd (not_before (inr (ek, inl before))))
        (λ after. let r = s.mid.rising z.j p.j after p.mid in omega arith))
        (cases_order p.j z.j))
        (⊎_elim
        (λ before. absurd (not_before (inl before)))
        (λ after. let r = s.high.rising z.k p.k after p.high in omega arith))
        (cases_order p.k z.k)

  pub fewest_best : ((at : Level) → length (at_level c at) ≤ 12) → Enough m c → (x : Selection) (n : ℕ) → Fewest m lows (listed mids) (listed highs) x n → Best m c x n
  fewest_best short enough x n f = record {
    enough = enough;
    allowed = allowed short x n f;
    meets = meets n _ _ _ f.found.here x f.found.low f.found.mid f.found.high;
    count = count short x n f;
    best = λ y ay my.
        let p = stands y ay.fits my.passes in
        let here = meets_here y p my in
        let counted = count short x n f in
        ⊎_elim
        (λ e. inr (omega arith, as_many short x n f y p (subst (λ k. Here k p.i p.j p.k) e here) e))
        (⊎_elim (λ less. absurd (f.fewer (struck_in_all y) less p.i p.j p.k here)) (λ more. inl (omega arith)))
        (cases_order (struck_in_all y) n);
  }
