-- The number by which each verdict is told, and the level that it names.
use Rattle.std.specs.Prelude.{ℕ, List, ◌++◌, Some, None, Option, codes, decimal}
use Rattle.judge.specs.declared.verdicts.Cause.{Cause}
use Rattle.judge.specs.declared.verdicts.Cause.TheVariants.{Accuracy, Statistics, TooMany, Together}
use Rattle.judge.specs.declared.verdicts.Verdict.{Verdict}
use Rattle.judge.specs.declared.verdicts.Verdict.TheVariants.{Short, Certified, Denied}
use Rattle.terms.specs.Texts.{level_name}
use Rattle.terms.specs.declared.levels.Level.{Level}

abbrev pub cause_number : Cause → ℕ
cause_number (Accuracy at) = 40
cause_number (Statistics at) = 41
cause_number TooMany = 42
cause_number Together = 43

abbrev pub cause_level : Cause → Option Level
cause_level (Accuracy at) = Some at
cause_level (Statistics at) = Some at
cause_level TooMany = None
cause_level Together = None

-- how a cause is written: its number, and behind a space the level that it names
abbrev pub with_level : List ℕ → Option Level → List ℕ
with_level text None = text
with_level text (Some at) = text ++ codes " " ++ level_name at

abbrev pub cause_text : Cause → List ℕ
cause_text cause = with_level (decimal (cause_number cause)) (cause_level cause)

-- A certificate has no number.
abbrev pub verdict_number : Verdict → Option ℕ
verdict_number (Short at) = Some 30
verdict_number (Certified x n) = None
verdict_number (Denied why) = Some (cause_number why)

abbrev pub verdict_level : Verdict → Option Level
verdict_level (Short at) = Some at
verdict_level (Certified x n) = None
verdict_level (Denied why) = cause_level why
