-- What a crew's runs leave of an account.
use Rattle.std.specs.Prelude.{◌+◌, [], ◌∷◌, fold}
use Rattle.campaign.specs.Account.{Account, step}
use Rattle.campaign.specs.declared.RunId.{RunId}
use Rattle.campaign.specs.declared.replaying.Call.TheVariants.{Begin, Close, Void}
use Rattle.terms.specs.declared.levels.Level.{Level}
use Rattle.terms.specs.declared.pairs.Pair.{Pair}

-- what identifies the next run of a level
abbrev pub next_id : Account → Level → RunId
next_id a level = record { serial = a.serial; level = level; number = a.begun + 1 }

-- A run is closed with its readings, and voided where these are refused.
abbrev pub finished : Account → RunId → Pair → Account
finished a id q = fold step a (Close id q ∷ Void id ∷ [])

-- A run is begun and then finished so.
abbrev pub measured : Account → Level → Pair → Account
measured a level q = finished (step a (Begin level)) (next_id a level) q

-- A run is begun and voided.
abbrev pub given_up : Account → Level → Account
given_up a level = fold step a (Begin level ∷ Void (next_id a level) ∷ [])
