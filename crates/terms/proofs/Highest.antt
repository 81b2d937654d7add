-- The highest reading of lists put together, and of each pair in a list.
use Rattle.std.proofs.Common.{◌≡◌, ℕ, zero, suc, ◌+◌, ◌<◌, ◌≤◌, max, List, [], ◌∷◌, ◌++◌, length, get_or, take, set, ap, ◌∙◌, le_of_suc-le-suc, arith}
use Rattle.std.proofs.lemmas.List.{take_more_set}
use Rattle.terms.specs.Readings.{higher, highest}
use Rattle.terms.specs.declared.pairs.Pair.{Pair}

-- one list after another
pub highest-append : (xs ys : List Pair) → highest (xs ++ ys) ≡ max (highest xs) (highest ys)
highest-append [] ys = omega arith
highest-append (x ∷ xs) ys = let rest = highest-append xs ys in omega arith

-- a pair stored behind the first n
pub highest_stored : (qs : List Pair) (n : ℕ) (q : Pair) → n < length qs → highest (take (n + 1) (set qs n q)) ≡ max (highest (take n qs)) (higher q)
highest_stored qs n q h =
    let last : highest (take n qs ++ (q ∷ [])) ≡ max (highest (take n qs)) (higher q) = let joined = highest-append (take n qs) (q ∷ []) in omega arith in
    ap highest (take_more_set qs n q h) ∙ last

-- no pair of the list reads higher
pub higher_at : (qs : List Pair) (k : ℕ) (d : Pair) → k < length qs → higher (get_or qs k d) ≤ highest qs
higher_at [] k d h = absurd (omega arith)
higher_at (q ∷ qs) zero d h = omega arith
higher_at (q ∷ qs) (suc k) d h = let rest = higher_at qs k d (le_of_suc-le-suc h) in omega arith
