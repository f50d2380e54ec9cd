-- What a group restart finds in the logs of a sound disk, all of whose records were read.
use Rattle.std.specs.Prelude.{◌≡◌, List, [], None}
use Rattle.ds_disk.specs.Contents.{Contents}
use Rattle.log_record.specs.declared.log.Log.{Log}
use Rattle.restart_plan.specs.Plans.{plan_of}
use Rattle.group_restart.specs.Machine.{Restart}
use Rattle.group_restart.specs.Course.{found_damage, plan_read, next_tail, take_logs}
use Rattle.sound_disk.specs.Sound.{IsSoundWith}

-- no number and no offset is one that can't stand there
abbrev pub FindsNoDamage : Type 0
FindsNoDamage = (c : Contents) (logs : List Log) → IsSoundWith c logs → found_damage logs ≡ None

-- the plan is that of the logs
abbrev pub PlansAll : Type 0
PlansAll = (c : Contents) (logs : List Log) → IsSoundWith c logs → plan_read logs ≡ plan_of logs

-- so the restart goes on with the tails of that plan
abbrev pub GoesToTails : Type 0
GoesToTails = (c : Contents) (h : Restart) → IsSoundWith c h.logs → take_logs h ≡ next_tail (record h { plan = plan_of h.logs; logs = [] })
