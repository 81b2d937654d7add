use Rattle.std.proofs.Common.{◌≡◌, take}
use Rattle.campaign.specs.Account.{account}
use Rattle.campaign.specs.View.{view}
use Rattle.campaign.proofs.replaying.replay.Given as goal

-- The log stands for the account of the calls so far.
abbrev pub invariant-loop-call : goal.invariant-loop-call
invariant-loop-call l = view l.following.log ≡ account l.fn.head l.fn.serial (take l.call-index l.calls)
