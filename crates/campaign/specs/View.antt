-- The account that a log stands for.
use Rattle.std.specs.Option.{option_map}
use Rattle.campaign.specs.Account.{Account}
use Rattle.campaign.specs.declared.Log.{Log}
use Rattle.runs.specs.Closed.{pairs_of}

abbrev pub view : Log → Account
view log = record {
  head = log.head;
  serial = log.serial;
  closed = record { low = pairs_of log.closed.low; mid = pairs_of log.closed.mid; high = pairs_of log.closed.high };
  begun = log.begun;
  current = option_map (λ level. record { serial = log.serial; level = level; number = log.begun }) log.current;
}
