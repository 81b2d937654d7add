-- The sets of a level that fit and get both yeses, and how far a list of them has come.
use Rattle.std.specs.Prelude.{◌≡◌, ℕ, zero, suc, ◌+◌, ◌^◌, ◌<◌, ◌≤◌, Bool, true, false, cond, List, [], length, count_ones, nat_le, slice_index_or}
use Rattle.std.specs.Int.Count.{ones_in}
use Rattle.judge.specs.Sets.{Accurate, Fits, Passes}
use Rattle.judge.specs.declared.shortlists.Entry.{Entry}
use Rattle.judge.specs.declared.shortlists.Shortlist.{Shortlist}
use Rattle.runs.specs.Sets.{kept}
use Rattle.standard.specs.Meaning.{Meaning}
use Rattle.standard.specs.declared.standards.Limits.{Limits}
use Rattle.tally.specs.Sums.{sums_of}
use Rattle.tally.specs.Tallying.{empty}
use Rattle.terms.specs.declared.levels.Level.{Level}
use Rattle.terms.specs.declared.pairs.Pair.{Pair}

abbrev pub listed : Shortlist → List Entry
listed list = list.entries.items

abbrev pub blank : Entry
blank = record { set = 0; struck = 0; kept = empty }

abbrev pub item : List Entry → ℕ → Entry
item items k = slice_index_or items k blank

-- how many of the sets below n strike at most three of twelve positions
unfoldable pub few_below : ℕ → ℕ
few_below zero = 0
few_below (suc n) = few_below n + cond (nat_le (ones_in 12 n) 3) 1 0

-- An entry tells a set that fits and gets both yeses, how many it strikes, and the tally of what it keeps.
pub record Listed (m : Meaning) (at : Level) (runs : List Pair) (e : Entry) : Type 0 where
  pub fits : Fits m runs e.set
  pub passes : Passes m at runs e.set
  pub struck : e.struck ≡ count_ones e.set
  pub tallied : e.kept.sums ≡ sums_of (kept e.set runs)

-- the limits of a standard of this meaning
abbrev pub AreLimits : Meaning → Limits → Type 0
AreLimits m limits =
    (limits.least_kept ≡ m.least_kept) × (limits.most_struck ≡ m.most_struck) × (limits.most_in_all ≡ m.most_in_all)

-- a set that strikes from so many to so many
abbrev pub Between : ℕ → ℕ → ℕ → Type 0
Between from to set = (from ≤ count_ones set) × (count_ones set ≤ to)

-- The list of all such sets below n that strike from so many to so many, rising, and whether any fitting one is accurate.
pub record Upto (m : Meaning) (at : Level) (runs : List Pair) (from to n : ℕ) (items : List Entry) (accurate : Bool) : Type 0 where
  pub few : length items ≤ few_below n
  pub listed : (k : ℕ) → k < length items → Listed m at runs (item items k)
  pub between : (k : ℕ) → k < length items → Between from to (item items k).set
  pub before : (k : ℕ) → k < length items → (item items k).set < n
  pub rising : (j k : ℕ) → j < k → k < length items → (item items j).set < (item items k).set
  pub complete : (set : ℕ) → set < n → Between from to set → Fits m runs set → Passes m at runs set → (k : ℕ) × (k < length items) × ((item items k).set ≡ set)
  pub some : accurate ≡ true → (set : ℕ) × Fits m runs set × Accurate m at runs set
  pub none : accurate ≡ false → (set : ℕ) → set < n → Between from to set → Fits m runs set → Accurate m at runs set → ⊥

-- a shortlist that has not begun
abbrev pub IsEmpty : Shortlist → Type 0
IsEmpty list = (listed list ≡ []) × (list.accurate ≡ false)

-- a shortlist that has come so far
abbrev pub Gathered : Meaning → Level → List Pair → ℕ → ℕ → ℕ → Shortlist → Type 0
Gathered m at runs from to n list = Upto m at runs from to n (listed list) list.accurate

-- and has come to the end
abbrev pub Whole : Meaning → Level → List Pair → ℕ → ℕ → Shortlist → Type 0
Whole m at runs from to list = Gathered m at runs from to (2 ^ length runs) list
