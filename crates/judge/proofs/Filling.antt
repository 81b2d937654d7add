-- The four shortlists of a level, filled one after another.
use Rattle.std.proofs.Common.{◌≡◌, List, [], ◌∷◌, false, length, map, refl, slice_index_or, slice_set, arith}
use Rattle.judge.specs.Shortlists.{IsEmpty, listed}
use Rattle.judge.specs.declared.shortlists.Shortlist.{Shortlist}

-- what holds of any four lists
of_four : (P : List Shortlist → Type 0) → ((w x y z : Shortlist) → P (w ∷ x ∷ y ∷ z ∷ [])) → (lists : List Shortlist) → length lists ≡ 4 → P lists
of_four P each (w ∷ x ∷ y ∷ z ∷ []) four = each w x y z
of_four P each (w ∷ x ∷ y ∷ z ∷ v ∷ lists) four = absurd (omega (arith, four))
of_four P each (w ∷ x ∷ y ∷ []) four = absurd (omega (arith, four))
of_four P each (w ∷ x ∷ []) four = absurd (omega (arith, four))
of_four P each (w ∷ []) four = absurd (omega (arith, four))
of_four P each [] four = absurd (omega (arith, four))

-- The last is empty until it is filled.
pub last_empty : (lists : List Shortlist) (a b c default : Shortlist) → length lists ≡ 4 → slice_index_or (map listed lists) 3 [] ≡ [] → slice_index_or (map (λ (list : Shortlist). list.accurate) lists) 3 false ≡ false
    → IsEmpty (slice_index_or (slice_set (slice_set (slice_set lists 0 a) 1 b) 2 c) 3 default)
last_empty lists a b c default four =
    of_four (λ lists. slice_index_or (map listed lists) 3 [] ≡ [] → slice_index_or (map (λ (list : Shortlist). list.accurate) lists) 3 false ≡ false → IsEmpty (slice_index_or (slice_set (slice_set (slice_set lists 0 a) 1 b) 2 c) 3 default))
    (λ w x y z none unseen. (none, unseen)) lists four

pub filled : (lists : List Shortlist) (a b c d : Shortlist) → length lists ≡ 4 → slice_set (slice_set (slice_set (slice_set lists 0 a) 1 b) 2 c) 3 d ≡ a ∷ b ∷ c ∷ d ∷ []
filled lists a b c d four =
    of_four (λ lists. slice_set (slice_set (slice_set (slice_set lists 0 a) 1 b) 2 c) 3 d ≡ a ∷ b ∷ c ∷ d ∷ []) (λ w x y z. refl) lists four
