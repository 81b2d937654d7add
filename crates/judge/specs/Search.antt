-- Going through the sets of three levels in order: by high, then mid, then low.
use Rattle.std.specs.Prelude.{◌≡◌, ℕ, ◌+◌, ◌^◌, ◌<◌, ◌≤◌, Bool, true, false, ◌⊎◌, List, [], length, map, slice_index_or}
use Rattle.judge.specs.Judging.{Campaign}
use Rattle.judge.specs.Shortlists.{Upto, Whole, item, listed}
use Rattle.judge.specs.declared.shortlists.ByCount.{ByCount}
use Rattle.judge.specs.declared.shortlists.Entry.{Entry}
use Rattle.judge.specs.declared.shortlists.Shortlist.{Shortlist}
use Rattle.runs.specs.Sets.{Selection}
use Rattle.standard.specs.Meaning.{Meaning}
use Rattle.terms.specs.declared.levels.Level.{Level}
use Rattle.terms.specs.declared.levels.Level.TheVariants.{Low, Mid, High}
use Rattle.terms.specs.declared.pairs.Pair.{Pair}

-- the sets that strike so many
abbrev pub group : ByCount → ℕ → List Entry
group lows n = slice_index_or (map listed lows.groups) n []

-- whether any set that strikes so many is accurate
abbrev pub accurate_in : ByCount → ℕ → Bool
accurate_in lows n = slice_index_or (map (λ (list : Shortlist). list.accurate) lows.groups) n false

-- No group has begun.
abbrev pub AllEmpty : ByCount → Type 0
AllEmpty lows = (n : ℕ) → n ≤ 3 → (group lows n ≡ []) × (accurate_in lows n ≡ false)

-- Each group is whole.
abbrev pub Groups : Meaning → Level → List Pair → ByCount → Type 0
Groups m at runs lows = (n : ℕ) → n ≤ 3 → Upto m at runs n n (2 ^ length runs) (group lows n) (accurate_in lows n)

-- The shortlists of the three levels are whole.
pub record Searches (m : Meaning) (c : Campaign) (lows : ByCount) (mids highs : Shortlist) : Type 0 where
  pub low : Groups m Low c.low lows
  pub mid : Whole m Mid c.mid 0 3 mids
  pub high : Whole m High c.high 0 3 highs

module _ (m : Meaning) (lows : ByCount) (mids highs : List Entry) (total : ℕ) where
  -- The entries at j and k, and that at i among the low ones that strike the rest of the total, get together's yes.
  pub record Strike (i j k : ℕ) : Type 0 where
    pub rest : ℕ
    pub count : rest + (item mids j).struck + (item highs k).struck ≡ total
    pub few : rest ≤ 3
    pub low : i < length (group lows rest)
    pub mid : j < length mids
    pub high : k < length highs
    pub together : m.together (item (group lows rest) i).kept.sums (item mids j).kept.sums (item highs k).kept.sums ≡ true

  abbrev pub NoStrike : Type 0
  NoStrike = (i j k : ℕ) → Strike i j k → ⊥

  -- none before i, j and k
  abbrev pub Passed : ℕ → ℕ → ℕ → Type 0
  Passed i j k = (i' j' k' : ℕ) → Strike i' j' k' → (k' < k) ⊎ ((k' ≡ k) × ((j' < j) ⊎ ((j' ≡ j) × (i' < i)))) → ⊥

  -- The selection is the first.
  pub record Found (x : Selection) : Type 0 where
    pub i : ℕ
    pub j : ℕ
    pub k : ℕ
    pub here : Strike i j k
    pub first : Passed i j k
    pub low : x.low ≡ (item (group lows here.rest) i).set
    pub mid : x.mid ≡ (item mids j).set
    pub high : x.high ≡ (item highs k).set

-- No entries strike fewer than the total and get together's yes.
abbrev pub NoneBelow : Meaning → ByCount → List Entry → List Entry → ℕ → Type 0
NoneBelow m lows mids highs total = (n : ℕ) → n < total → NoStrike m lows mids highs n

pub record Fewest (m : Meaning) (lows : ByCount) (mids highs : List Entry) (x : Selection) (total : ℕ) : Type 0 where
  pub in_all : total ≤ m.most_in_all
  pub fewer : NoneBelow m lows mids highs total
  pub found : Found m lows mids highs total x
