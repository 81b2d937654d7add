-- What each call on a log answers.
use Rattle.std.specs.Prelude.{◌≡◌, ℕ, ◌+◌, cond, length, is_some, Some, None, Ok, Err, Option, Result, nat_le}
use Rattle.campaign.specs.Account.{Account, is_current, is_reading}
use Rattle.campaign.specs.Refusals.{begin_number, close_number, void_number}
use Rattle.campaign.specs.declared.BegunRun.{BegunRun}
use Rattle.campaign.specs.declared.endings.CloseRefusal.{CloseRefusal}
use Rattle.campaign.specs.declared.endings.VoidRefusal.{VoidRefusal}
use Rattle.campaign.specs.declared.refusals.BeginRefusal.{BeginRefusal}
use Rattle.terms.specs.Levels.{at_level}
use Rattle.terms.specs.declared.levels.Level.{Level}
use Rattle.terms.specs.declared.pairs.Pair.{Pair}

-- the number of begin's refusal that is due: a run is begun, 99 are begun, the level has 12, looked at in this order
abbrev pub begin_fault : Account → Level → Option ℕ
begin_fault a level =
    cond (is_some a.current) (Some 20) (cond (nat_le 99 a.begun) (Some 22) (cond (nat_le 12 (length (at_level a.closed level))) (Some 21) None))

-- The begun run handed out has the serial, the level and the next number.
pub record HandsOut (a : Account) (level : Level) (run : BegunRun) : Type 0 where
  pub due : begin_fault a level ≡ None
  pub id : run.id ≡ record { serial = a.serial; level = level; number = a.begun + 1 }

abbrev pub BeginAnswer : Account → Level → Result BegunRun BeginRefusal → Type 0
BeginAnswer a level (Ok run) = HandsOut a level run
BeginAnswer a level (Err e) = begin_fault a level ≡ Some (begin_number e)

-- the number of close's refusal that is due: not the run now begun, the reference over the top, the prediction over it
abbrev pub close_fault : Account → BegunRun → Pair → Option ℕ
close_fault a run q =
    cond (is_current a run.id) (cond (is_reading a q.reference) (cond (is_reading a q.predicted) None (Some 25)) (Some 24)) (Some 23)

-- A refusal is told by its number and hands the begun run back, whole.
pub record HandsBack (due : Option ℕ) (run : BegunRun) (number : ℕ) (back : BegunRun) : Type 0 where
  pub told : due ≡ Some number
  pub same : back ≡ run

abbrev pub CloseAnswer : Account → BegunRun → Pair → Result (Unit {0}) CloseRefusal → Type 0
CloseAnswer a run q (Ok _) = close_fault a run q ≡ None
CloseAnswer a run q (Err e) = HandsBack (close_fault a run q) run (close_number e.fault) e.run

abbrev pub void_fault : Account → BegunRun → Option ℕ
void_fault a run = cond (is_current a run.id) None (Some 23)

abbrev pub VoidAnswer : Account → BegunRun → Result (Unit {0}) VoidRefusal → Type 0
VoidAnswer a run (Ok _) = void_fault a run ≡ None
VoidAnswer a run (Err e) = HandsBack (void_fault a run) run void_number e.run
