-- Where logs end once a restart is done.
use Rattle.std.specs.Prelude.{ℕ}
use Rattle.restart_plan.specs.Ends.{end_of}
use Rattle.group_restart.specs.Machine.{Restart}

-- the member's log is whole records, and ends there
abbrev pub log_end : Restart → ℕ → ℕ
log_end h member = end_of h.plan.ends member
