use Rattle.fractions.proofs.Fraction.+not_greater_not_less.Given as goal

-- the denominators fall
abbrev pub decreases-not_greater : goal.decreases-not_greater
decreases-not_greater l = l.self.bottom

abbrev pub decreases-not_less : goal.decreases-not_less
decreases-not_less l = l.self.bottom
