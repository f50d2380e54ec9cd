-- Transactions that wait for the restart of another member.
use Rattle.std.specs.Prelude.{◌==◌, Bool, ◌&&◌, if◌then◌else◌, length, is_none, Option, None, Some}
use Rattle.restart_marks.specs.declared.adopt.Adopted.{Adopted}
use Rattle.restart_marks.specs.declared.marks.KeptBy.{KeptBy}
use Rattle.restart_records.specs.Trans.{opened_among, no_trans}
use Rattle.restart_marks.specs.State.{RestartState, with_trans}

-- all names that open transactions need are retained, and nothing is in hand, claimed or pending
abbrev pub may_adopt : RestartState → Bool
may_adopt s = (s.names.missing == 0) && is_none s.hand.page && is_none s.claim && (length s.log.pending == 0)

abbrev pub adopted_by : RestartState → Option KeptBy → Option Adopted
adopted_by s None = None
adopted_by s (Some kept) = if may_adopt s then Some (record { by = kept.by; trans = opened_among s.trans.list }) else None

abbrev pub adopted_told : RestartState → Option Adopted
adopted_told s = adopted_by s s.kept

abbrev pub adopted_as : RestartState → Option KeptBy → RestartState
adopted_as s None = s
adopted_as s (Some kept) = if may_adopt s then with_trans s no_trans else s

-- their retained locks stay
abbrev pub adopted_after : RestartState → RestartState
adopted_after s = adopted_as s s.kept
