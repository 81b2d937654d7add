use Rattle.std.proofs.Common.{sym, ◌∙◌, inl, inr}
use Rattle.fractions.proofs.Parts.{by_whole_parts, by_remainders, by_zero}
use Rattle.fractions.proofs.Fraction.+not_greater_not_less.Goals as goal

pub not_greater-returns-then-whole-other_whole : goal.not_greater-returns-then-whole-other_whole
not_greater-returns-then-whole-other_whole t c =
    by_whole_parts _ _ c.parts-whole.ensures c.parts-other_whole.ensures c.if-whole-other_whole.true

pub not_greater-returns-then-rest-eq0 : goal.not_greater-returns-then-rest-eq0
not_greater-returns-then-rest-eq0 t c =
    by_zero _ _ c.parts-whole.ensures c.parts-other_whole.ensures c.if-whole-other_whole.false (elim c.then-rest-eq0.either [ inl h ↦ inl h | inr h ↦ inr h.1 ])

pub not_greater-returns : goal.not_greater-returns
not_greater-returns t c =
    c.not_less.ensures ∙ by_remainders _ _ c.parts-whole.ensures c.parts-other_whole.ensures c.if-whole-other_whole.false

pub not_less-returns-then-whole-other_whole : goal.not_less-returns-then-whole-other_whole
not_less-returns-then-whole-other_whole t c =
    by_whole_parts _ _ c.parts-other_whole.ensures c.parts-whole.ensures (λ e. c.if-whole-other_whole.true (sym e))

pub not_less-returns-then-rest-eq0 : goal.not_less-returns-then-rest-eq0
not_less-returns-then-rest-eq0 t c =
    by_zero _ _ c.parts-other_whole.ensures c.parts-whole.ensures (sym c.if-whole-other_whole.false) (elim c.then-rest-eq0.either [ inl h ↦ inr h | inr h ↦ inl h.1 ])

pub not_less-returns : goal.not_less-returns
not_less-returns t c =
    c.not_greater.ensures ∙ by_remainders _ _ c.parts-other_whole.ensures c.parts-whole.ensures (sym c.if-whole-other_whole.false)
