-- The tests of a pollutant and of a diluent say what the rule's words say.
use Rattle.std.proofs.Common.{◌≡◌, ℕ, ◌*◌, ◌<◌, ◌≤◌, Bool, true, cond, ltb, ◌↔◌, nat_abs, sym, ap, ◌∙◌, ⊎_elim, mul-le-mul_right, arith}
use Rattle.std.proofs.lemmas.Int.{ints}
use Rattle.std.proofs.lemmas.Bool.{and_from, and_parts, cases_lt, cond_both, cond-false, cond-true, le-leb, le-ltb, leb-true, lt-ltb}
use Rattle.accuracy.specs.Accuracy.{diluent_accurate, is_close, is_within, limit_of, marks_of, pollutant_accurate, reference_of}
use Rattle.tally.specs.Sums.{Spreads, Tops}
use Rattle.accuracy.specs.Words.{Accurate, AccurateDiluent, Flawless}
use Rattle.terms.specs.declared.kinds.Kind.{Kind}
use Rattle.terms.specs.declared.kinds.Kind.TheVariants.{Ppm, Heat, Diluent}
use Rattle.tally.specs.declared.sums.Sums.{Sums}
use Rattle.accuracy.proofs.Within.{flawless_within}
use Rattle.accuracy.proofs.Words.{says}

marks_rise : (kind : Kind) → (marks_of kind).low ≤ (marks_of kind).high
marks_rise Ppm = omega arith
marks_rise Heat = omega arith
marks_rise Diluent = omega arith

module _ {most : ℕ} (s : Sums) (tops : Tops most s) (spreads : Spreads s) where
  pub diluent_says : (diluent_accurate s ≡ true) ↔ AccurateDiluent s
  diluent_says = (
    λ e.
        let enough = leb-true _ _ (and_parts _ _ e).0 in
        record { enough = enough; within = (says s tops spreads 20 s.r enough).0 e },
    λ a. (says s tops spreads 20 s.r a.enough).1 a.within,
  )

  module _ (kind : Kind) (emission : ℕ) where
    -- The test once there are enough runs: where the predictions are low, up to the high mark, and above it.
    abbrev rest : Bool
    rest = cond (ltb s.p ((marks_of kind).low * s.n)) (is_close (marks_of kind).margin s) (is_within (limit_of kind s) (reference_of emission s) s)

    low_rest : s.p < (marks_of kind).low * s.n → rest ≡ is_close (marks_of kind).margin s
    low_rest h = cond-true _ _ _ (lt-ltb _ _ h)

    middle_rest : (marks_of kind).low * s.n ≤ s.p → s.p ≤ (marks_of kind).high * s.n → rest ≡ is_within 20 (reference_of emission s) s
    middle_rest l h =
        cond-false _ _ _ (le-ltb _ _ l) ∙ ap (λ x. is_within x (reference_of emission s) s) (cond-false _ _ _ (le-ltb _ _ h))

    high_rest : (marks_of kind).high * s.n < s.p → rest ≡ is_within 10 (reference_of emission s) s
    high_rest h =
        let l : (marks_of kind).low * s.n ≤ s.p = omega (arith, mul-le-mul_right s.n (marks_rise kind)) in
        cond-false _ _ _ (le-ltb _ _ l) ∙ ap (λ x. is_within x (reference_of emission s) s) (cond-true _ _ _ (lt-ltb _ _ h))

    to_words : pollutant_accurate kind emission s ≡ true → Accurate kind emission s
    to_words e =
        let h = and_parts _ _ e in
        let enough = leb-true _ _ h.0 in
        let sound = λ (percent : ℕ). (says s tops spreads percent (reference_of emission s) enough).0 in
        record {
          enough = enough;
          low = λ low. let k = leb-true _ _ (sym (low_rest (omega (arith, ints))) ∙ h.1) in omega (arith, ints);
          middle = λ low high. sound 20 (sym (middle_rest (omega (arith, ints)) (omega (arith, ints))) ∙ h.1);
          high = λ high. sound 10 (sym (high_rest (omega (arith, ints))) ∙ h.1);
        }

    from_words : Accurate kind emission s → pollutant_accurate kind emission s ≡ true
    from_words a =
        let holds = λ (percent : ℕ). (says s tops spreads percent (reference_of emission s) a.enough).1 in
        let upper : (marks_of kind).low * s.n ≤ s.p → rest ≡ true = λ l.
        ⊎_elim
        (λ h. high_rest h ∙ holds 10 (a.high (omega (arith, ints))))
        (λ h. middle_rest l h ∙ holds 20 (a.middle (omega (arith, ints)) (omega (arith, ints))))
        (cases_lt ((marks_of kind).high * s.n) s.p) in
        let lower : s.p < (marks_of kind).low * s.n → rest ≡ true = λ h.
        let k = a.low (omega (arith, ints)) in
        low_rest h ∙ le-leb _ _ (omega (arith, ints)) in
        and_from _ _ (le-leb _ _ a.enough) (⊎_elim lower upper (cases_lt s.p ((marks_of kind).low * s.n)))

    pub pollutant_says : (pollutant_accurate kind emission s ≡ true) ↔ Accurate kind emission s
    pollutant_says = (to_words, from_words)

-- A level without differences is accurate.
pub flawless_pollutant : (s : Sums) (kind : Kind) (emission : ℕ) → 3 ≤ s.n → Flawless s → pollutant_accurate kind emission s ≡ true
flawless_pollutant s kind emission enough h =
    let close : is_close (marks_of kind).margin s ≡ true = rw (ap nat_abs h.no_difference) (le-leb 0 _ (omega arith)) in
    let within = flawless_within s (limit_of kind s) (reference_of emission s) enough h in
    and_from _ _ (le-leb 3 s.n enough) (cond_both (ltb s.p ((marks_of kind).low * s.n)) _ _ (λ x. x ≡ true) (λ _. close) (λ _. within))
