-- The number by which each refusal of a call on a log is told.
use Rattle.std.specs.Prelude.{ℕ}
use Rattle.campaign.specs.declared.endings.CloseFault.TheVariants.{NotCurrent, Reference, Predicted}
use Rattle.campaign.specs.declared.endings.CloseFault.{CloseFault}
use Rattle.campaign.specs.declared.refusals.BeginRefusal.TheVariants.{RunBegun, NoNumber, LevelFull}
use Rattle.campaign.specs.declared.refusals.BeginRefusal.{BeginRefusal}

abbrev pub begin_number : BeginRefusal → ℕ
begin_number RunBegun = 20
begin_number NoNumber = 22
begin_number LevelFull = 21

abbrev pub close_number : CloseFault → ℕ
close_number NotCurrent = 23
close_number Reference = 24
close_number Predicted = 25

-- a run is not voided for one reason only
abbrev pub void_number : ℕ
void_number = 23
