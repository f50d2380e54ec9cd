-- The tails of logs.
use Rattle.std.specs.Prelude.{nat_lt, List, map, filter}
use Rattle.log_record.specs.declared.log.Log.{Log}
use Rattle.restart_plan.specs.declared.tails.Tail.{Tail}

abbrev pub tail_of : Log → Tail
tail_of log = record { member = log.member; length = log.length }

-- of those that have one, in the order of the logs
abbrev pub tails_of : List Log → List Tail
tails_of logs = map tail_of (filter (λ (l : Log). nat_lt 0 l.tail) logs)
