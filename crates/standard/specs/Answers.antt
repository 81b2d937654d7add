-- What making a layer answers.
use Rattle.std.specs.Prelude.{◌≡◌, ℕ, ◌<◌, ◌≤◌, Ok, Err, Result}
use Rattle.standard.specs.declared.layers.Absolute.{Absolute}
use Rattle.standard.specs.declared.layers.MarginRefusal.{MarginRefusal}

abbrev pub margin_number : ℕ
margin_number = 12

-- The layer has its margin over the standard below; or the margin is over 50,000, and the standard is handed back.
abbrev pub AbsoluteAnswer : {S : Type 0} → S → ℕ → Result (Absolute S) (MarginRefusal S) → Type 0
AbsoluteAnswer below margin (Ok layer) = (margin ≤ 50000) × (layer.below ≡ below) × (layer.margin ≡ margin)
AbsoluteAnswer below margin (Err e) = (50000 < margin) × (e.below ≡ below)
