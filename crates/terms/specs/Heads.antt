-- What making a head answers.
use Rattle.std.specs.Prelude.{◌≡◌, ℕ, cond, Some, None, Ok, Err, Option, Result}
use Rattle.terms.specs.Limits.{is_emission, is_span}
use Rattle.terms.specs.declared.heads.Head.{Head}
use Rattle.terms.specs.declared.heads.HeadRefusal.{HeadRefusal}
use Rattle.terms.specs.declared.heads.HeadRefusal.TheVariants.{Emission, Span}
use Rattle.terms.specs.declared.kinds.Kind.{Kind}
use Rattle.terms.specs.declared.kinds.Use.{Use}

-- the number by which each refusal is told
abbrev pub head_number : HeadRefusal → ℕ
head_number Emission = 10
head_number Span = 11

-- the number of the refusal that is due: the emission standard is looked at first, then the span
abbrev pub head_fault : Kind → ℕ → ℕ → Option ℕ
head_fault kind emission span =
    cond (is_emission kind emission) (cond (is_span kind span) None (Some 11)) (Some 10)

-- the head has these parts
pub record IsHead (kind : Kind) (usage : Use) (emission span : ℕ) (h : Head) : Type 0 where
  pub kind_is : h.kind ≡ kind
  pub usage_is : h.usage ≡ usage
  pub emission_is : h.emission ≡ emission
  pub span_is : h.span ≡ span

-- A head is made of its parts where no refusal is due, and else that refusal is given.
abbrev pub HeadAnswer : Kind → Use → ℕ → ℕ → Result Head HeadRefusal → Type 0
HeadAnswer kind usage emission span (Ok h) = (head_fault kind emission span ≡ None) × IsHead kind usage emission span h
HeadAnswer kind usage emission span (Err e) = head_fault kind emission span ≡ Some (head_number e)
