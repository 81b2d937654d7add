-- The run that is held beside a log while a list of calls is given to it.
use Rattle.std.specs.Prelude.{◌≡◌, true, Some, None, Option}
use Rattle.std.specs.Option.{option_map}
use Rattle.campaign.specs.Account.{is_current}
use Rattle.campaign.specs.View.{view}
use Rattle.campaign.specs.declared.BegunRun.{BegunRun}
use Rattle.campaign.specs.declared.Log.{Log}
use Rattle.campaign.specs.declared.RunId.{RunId}
use Rattle.campaign.specs.declared.replaying.Call.{Call}
use Rattle.campaign.specs.declared.replaying.Call.TheVariants.{Close, Void}
use Rattle.terms.specs.declared.pairs.Pair.{Pair}

-- what identifies the run that is held, if any
abbrev pub held_id : Option BegunRun → Option RunId
held_id held = option_map (λ run. run.id) held

-- the call that closes a run with a pair, or voids it where there is none
abbrev pub end_call : RunId → Option Pair → Call
end_call id (Some q) = Close id q
end_call id None = Void id

-- The run was the one begun and none is now; or it comes back, and the log is as it was.
abbrev pub HandedBack : Log → BegunRun → Log → Option BegunRun → Type 0
HandedBack before run after None = (is_current (view before) run.id ≡ true) × ((view after).current ≡ None)
HandedBack before run after (Some back) = (back ≡ run) × (after ≡ before)
