-- The account of a campaign: what its calls leave, from their arguments alone.
use Rattle.std.specs.Prelude.{ℕ, ◌+◌, Bool, true, false, cond, ◌&&◌, ◌||◌, List, [], ◌∷◌, ◌++◌, length, is_some, Some, None, fold, Option, ◌==◌, nat_le}
use Rattle.campaign.specs.declared.RunId.{RunId}
use Rattle.campaign.specs.declared.replaying.Call.{Call}
use Rattle.campaign.specs.declared.replaying.Call.TheVariants.{Begin, Close, Void, Judge}
use Rattle.terms.specs.Levels.{at_level}
use Rattle.terms.specs.Limits.{top_reading}
use Rattle.terms.specs.declared.heads.Head.{Head}
use Rattle.terms.specs.declared.levels.Level.{Level}
use Rattle.terms.specs.declared.levels.Level.TheVariants.{Low, Mid, High}
use Rattle.terms.specs.declared.levels.Levels.{Levels}
use Rattle.terms.specs.declared.pairs.Pair.{Pair}

-- The closed pairs of each level in closing order, how many runs were begun, and the run that is begun and not ended.
pub record Account : Type 0 where
  pub head : Head
  pub serial : ℕ
  pub closed : Levels (List Pair)
  pub begun : ℕ
  pub current : Option RunId

-- no pairs, none begun, none open
abbrev pub start : Head → ℕ → Account
start head serial = record { head = head; serial = serial; closed = record { low = []; mid = []; high = [] }; begun = 0; current = None }

-- a run is open, 99 are begun or the level has 12 pairs
abbrev pub no_begin : Account → Level → Bool
no_begin a level = is_some a.current || (nat_le 99 a.begun || nat_le 12 (length (at_level a.closed level)))

-- one more begun, and that level open under that number
abbrev pub opened : Account → Level → Account
opened a level = record {
  head = a.head;
  serial = a.serial;
  closed = a.closed;
  begun = a.begun + 1;
  current = Some (record { serial = a.serial; level = level; number = a.begun + 1 });
}

abbrev pub same_level : Level → Level → Bool
same_level Low l = at_level (record { low = true; mid = false; high = false }) l
same_level Mid l = at_level (record { low = false; mid = true; high = false }) l
same_level High l = at_level (record { low = false; mid = false; high = true }) l

abbrev pub same_run : RunId → RunId → Bool
same_run a b = a.serial == b.serial && (same_level a.level b.level && a.number == b.number)

-- the run has the serial, level and number of the one that is begun and not ended
abbrev pub is_open : Option RunId → RunId → Bool
is_open None id = false
is_open (Some run) id = same_run run id

abbrev pub is_current : Account → RunId → Bool
is_current a id = is_open a.current id

-- the reading is not over the top
abbrev pub is_reading : Account → ℕ → Bool
is_reading a reading = nat_le reading (top_reading a.head.kind)

-- none open
abbrev pub ended : Account → Account
ended a = record { head = a.head; serial = a.serial; closed = a.closed; begun = a.begun; current = None }

-- the pair last at its level
abbrev pub put_last : Levels (List Pair) → Level → Pair → Levels (List Pair)
put_last closed Low q = record { low = closed.low ++ (q ∷ []); mid = closed.mid; high = closed.high }
put_last closed Mid q = record { low = closed.low; mid = closed.mid ++ (q ∷ []); high = closed.high }
put_last closed High q = record { low = closed.low; mid = closed.mid; high = closed.high ++ (q ∷ []) }

-- none open, and the pair last at its level
abbrev pub closed_with : Account → Level → Pair → Account
closed_with a level q =
    record { head = a.head; serial = a.serial; closed = put_last a.closed level q; begun = a.begun; current = None }

-- What one call leaves.
abbrev pub step : Account → Call → Account
step a (Begin level) = cond (no_begin a level) a (opened a level)
step a (Close id q) =
    cond (is_current a id && (is_reading a q.reference && is_reading a q.predicted)) (closed_with a id.level q) a
step a (Void id) = cond (is_current a id) (ended a) a
step a Judge = a

-- What a list of calls leaves of an empty campaign.
abbrev pub account : Head → ℕ → List Call → Account
account head serial calls = fold step (start head serial) calls
