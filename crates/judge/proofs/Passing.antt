-- How far a search has come, place by place.
use Rattle.std.proofs.Common.{◌≡◌, ℕ, ◌+◌, ◌-◌, ◌<◌, ◌≤◌, true, false, ◌⊎◌, List, length, get_or, sym, ap, ◌∙◌, subst, inl, inr, ⊎_elim, arith}
use borrow.Author.Tests.{clash}
use Rattle.std.proofs.lemmas.List.{get_or_read}
use Rattle.std.proofs.lemmas.Bool.{cases_lt}
use Rattle.judge.specs.Search.{Found, NoStrike, Passed, Strike, group}
use Rattle.judge.specs.Shortlists.{blank, item}
use Rattle.judge.specs.declared.shortlists.ByCount.{ByCount}
use Rattle.judge.specs.declared.shortlists.Entry.{Entry}
use Rattle.standard.specs.Meaning.{Meaning}

-- an element as it is read
pub read : (items : List Entry) (k : ℕ) (e : Entry) → k < length items → e ≡ get_or items k e → item items k ≡ e
read items k e h is = sym (get_or_read items k e h is blank)

module _ (m : Meaning) (lows : ByCount) (mids highs : List Entry) (total : ℕ) where
  abbrev Here : ℕ → ℕ → ℕ → Type 0
  Here = Strike m lows mids highs total

  abbrev Before : ℕ → ℕ → ℕ → Type 0
  Before = Passed m lows mids highs total

  -- one low entry more
  pub next_low : (i j k : ℕ) → Before i j k → (Here i j k → ⊥) → Before (i + 1) j k
  next_low i j k so_far not i' j' k' here =
      ⊎_elim
      (λ above. so_far i' j' k' here (inl above))
      (λ high. ⊎_elim
      (λ above. so_far i' j' k' here (inr (high.0, inl above)))
      (λ mid. ⊎_elim
      (λ before. so_far i' j' k' here (inr (high.0, inr (mid.0, before))))
      (λ at. let i_is : i' ≡ i = omega (arith, mid.1) in
      not (subst (λ x. Here x j k) i_is (subst (λ x. Here i' x k) mid.0 (subst (λ x. Here i' j' x) high.0 here))))
      (cases_lt i' i))
      high.1)

  -- one mid entry more, with every low entry beside it passed
  pub next_mid : (n j k : ℕ) → Before n j k → ((i : ℕ) → Here i j k → i < n) → Before 0 (j + 1) k
  next_mid n j k so_far all i' j' k' here =
      ⊎_elim
      (λ above. so_far i' j' k' here (inl above))
      (λ high. ⊎_elim
      (λ upto. ⊎_elim
      (λ above. so_far i' j' k' here (inr (high.0, inl above)))
      (λ at. let j_is : j' ≡ j = omega arith in
      let here' = subst (λ x. Here i' x k) j_is (subst (λ x. Here i' j' x) high.0 here) in
      so_far i' j' k' here (inr (high.0, inr (j_is, all i' here'))))
      (cases_lt j' j))
      (λ none. omega (arith, none.1))
      high.1)

  -- one high entry more, with every mid entry beside it passed
  pub next_high : (n k : ℕ) → Before 0 n k → length mids ≤ n → Before 0 0 (k + 1)
  next_high n k so_far all i' j' k' here =
      ⊎_elim
      (λ upto. ⊎_elim
      (λ above. so_far i' j' k' here (inl above))
      (λ at. so_far i' j' k' here (inr (omega arith, inl (omega (arith, here.mid)))))
      (cases_lt k' k))
      (λ high. ⊎_elim (λ none. omega arith) (λ none. omega (arith, none.1)) high.1)

  -- every high entry passed
  pub no_more : (k : ℕ) → Before 0 0 k → length highs ≤ k → NoStrike m lows mids highs total
  no_more k so_far all i j k' here = so_far i j k' here (inl (omega (arith, here.high)))

  -- At the entries j and k, low has the rest of the total to strike.
  module _ (j k : ℕ) (mid high : Entry) (mid_is : item mids j ≡ mid) (high_is : item highs k ≡ high) where
    struck_are : (i : ℕ) (here : Here i j k) → here.rest + mid.struck + high.struck ≡ total
    struck_are i here = omega (arith, here.count, ap (λ (e : Entry). e.struck) mid_is, ap (λ (e : Entry). e.struck) high_is)

    -- Too many are struck already, or more than three are left to strike.
    pub not_there : (others : ℕ) → others ≡ high.struck + mid.struck → (total < others) ⊎ (3 < total - others) → (i : ℕ) → Here i j k → ⊥
    not_there others is (inl over) i here = omega (arith, struck_are i here)
    not_there others is (inr over) i here = omega (arith, struck_are i here, here.few)

    module _ (rest : ℕ) (count : rest + mid.struck + high.struck ≡ total) (few : rest ≤ 3) where
      abbrev beside : List Entry
      beside = group lows rest

      rest_is : (i : ℕ) (here : Here i j k) → here.rest ≡ rest
      rest_is i here = omega (arith, struck_are i here)

      -- every low entry is passed
      pub low_done : (n : ℕ) → length beside ≤ n → (i : ℕ) → Here i j k → i < n
      low_done n all i here = omega (arith, here.low, ap (λ x. length (group lows x)) (rest_is i here))

      module _ (i : ℕ) (low : Entry) (low_is : item beside i ≡ low) where
        asked : (here : Here i j k) → m.together low.kept.sums mid.kept.sums high.kept.sums ≡ true
        asked here =
            let same : item (group lows here.rest) i ≡ low = ap (λ x. item (group lows x) i) (rest_is i here) ∙ low_is in
            subst (λ (e : Entry). m.together e.kept.sums mid.kept.sums high.kept.sums ≡ true) same
            (subst (λ (e : Entry). m.together (item (group lows here.rest) i).kept.sums e.kept.sums high.kept.sums ≡ true) mid_is
            (subst (λ (e : Entry). m.together (item (group lows here.rest) i).kept.sums (item mids j).kept.sums e.kept.sums ≡ true) high_is here.together))

        -- together's answer is no
        pub not_together : m.together low.kept.sums mid.kept.sums high.kept.sums ≡ false → Here i j k → ⊥
        not_together answer here = clash (sym answer ∙ asked here)

        -- and where it is yes, this is the first
        pub found_here : i < length beside → j < length mids → k < length highs → m.together low.kept.sums mid.kept.sums high.kept.sums ≡ true
            → Before i j k → Found m lows mids highs total (record { low = low.set; mid = mid.set; high = high.set })
        found_here hi hj hk answer before = record {
          i = i;
          j = j;
          k = k;
          here = record {
            rest = rest;
            count = omega (arith, count, ap (λ (e : Entry). e.struck) mid_is, ap (λ (e : Entry). e.struck) high_is);
            few = few;
            low = hi;
            mid = hj;
            high = hk;
            together = rw (low_is, mid_is, high_is) answer;
          };
          first = before;
          low = sym (ap (λ (e : Entry). e.set) low_is);
          mid = sym (ap (λ (e : Entry). e.set) mid_is);
          high = sym (ap (λ (e : Entry). e.set) high_is);
        }
