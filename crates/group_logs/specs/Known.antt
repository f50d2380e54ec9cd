-- Up to where the members of a group know their logs to be whole records, beside the logs on disk.
use Rattle.std.specs.Prelude.{◌≡◌, ◌≢◌, ℕ, ◌+◌, ◌<◌, ◌≤◌, true, false, List, ◌++◌, length, take, Option, Some, None, IfSome, Err, slice_get, slice_index_or}
use Rattle.checkpoint_reader.specs.Ends.{end_of, nothing_known}
use Rattle.checkpoint_reader.specs.Readers.{ReaderState}
use Rattle.cache_structure.specs.Directory.{Directory}
use Rattle.disk_restart.specs.Ends.{EndsBehind}
use Rattle.ds_disk.specs.Contents.{Contents, log_of}
use Rattle.ds_model.specs.declared.script.Phase.{Phase}
use Rattle.group_core.specs.Given.{BeginsAnew, Crew, CrewState, PhaseBegins, begins_restart, crew_state}
use Rattle.group_core.specs.Starts.{AllKnowDisk}
use Rattle.group_member.specs.declared.stepped.Stepped.{Stepped}
use Rattle.group_member.specs.declared.stepped.Stepped.TheVariants as steps
use Rattle.group_member.specs.Happening.{RestartSent}
use Rattle.group_member.specs.Happening.restart_sent as restarting
use Rattle.group_member.specs.Members.{Member}
use Rattle.group_restart.specs.Machine.{Restart}
use Rattle.list_structure.specs.Standings.{is_live, status_of}
use Rattle.log_reader.specs.Keeping.{AreWhole}
use Rattle.log_record.specs.Reading.{record_in}
use Rattle.log_record.specs.declared.fault.RecordFault.TheVariants.{NotWhole}
use Rattle.group_logs.specs.Logs.{LogGoes, OneGoes}

-- ---- one log

-- it has so many bytes, and those are whole records
pub record EndHolds (end : ℕ) (bytes : List ℕ) : Type 0 where
  pub within : end ≤ length bytes
  pub whole : AreWhole (take end bytes)

-- so it is of what a restart's reader was told
abbrev pub ReadsKnown : List ℕ → Option ReaderState → Type 0
ReadsKnown bytes reader = IfSome reader (λ r. AreWhole (take r.known bytes))

-- ---- all logs

-- as the member at a place knows its own
abbrev pub end_at : CrewState → ℕ → ℕ
end_at s at = end_of (slice_index_or s.known at nothing_known) (at + 1)

abbrev pub EndsHold : Contents → CrewState → Type 0
EndsHold c s = (at : ℕ) → at < 32 → EndHolds (end_at s at) (log_of c.logs (at + 1))

-- ---- where a group starts, and behind a group restart

abbrev pub StartsKnow : {C : Type 0} → (P : Type 0) → (C → Directory) → Type 0
StartsKnow {C} P directory = (crew : Crew C P) (b c : Contents) → AllKnowDisk (Some b) (Some c) crew.parts.items → EndsHold c (crew_state directory crew)

abbrev pub AnewKnow : Type 0
AnewKnow = (c : Contents) (counter : ℕ) (restart : Restart) (old new : CrewState) → BeginsAnew counter old new → old.restart ≡ Some restart → EndsBehind restart c → EndsHold c new

-- ---- the begin of a phase

-- the members are numbered by their places, and one that isn't live has no restart
abbrev pub DeadRest : CrewState → Type 0
DeadRest s = (at : ℕ) → IfSome (slice_get s.members at) (λ (m : Member). (m.id ≡ at + 1) × (is_live (status_of s.facility.lists.statuses (at + 1)) ≡ false → m.restart ≡ None))

-- each restart that begins with it was told of whole records alone
abbrev pub BeginsKnow : Type 0
BeginsKnow = (c : Contents) (phase : Phase) (old new : CrewState)
    → PhaseBegins phase old new → EndsHold c old → DeadRest old → length old.members ≤ 32
    → (at : ℕ) → IfSome (slice_get new.members at) (λ n. begins_restart phase old.facility.lists.statuses n.id ≡ true → IfSome n.restart (λ q. ReadsKnown (log_of c.logs (at + 1)) q.resources.marks.own.reader))

-- and what is known is so
abbrev pub PhasesKnow : Type 0
PhasesKnow = (c : Contents) (phase : Phase) (old new : CrewState) → PhaseBegins phase old new → EndsHold c old → EndsHold c new

-- ---- the event of a member, which leaves what is known

-- a cut of its restart spares so many bytes
abbrev pub IsSparedBy : ℕ → RestartSent → Type 0
IsSparedBy end (restarting.CutLog long) = end ≤ long
IsSparedBy end _ = Unit {0}

abbrev pub IsSpared : ℕ → Stepped → Type 0
IsSpared end (steps.Sent sent answered) = Unit {0}
IsSpared end (steps.Restart sent answered) = IsSparedBy end sent
IsSpared end (steps.Rebuild sent answered) = Unit {0}
IsSpared end steps.Failed = Unit {0}

abbrev pub MembersKnow : Type 0
MembersKnow = (c d : Contents) (old new : CrewState) (at : ℕ) (m : Member) (stepped : Stepped)
    → EndsHold c old → new.known ≡ old.known → OneGoes (at + 1) (LogGoes m stepped) c d → IsSpared (end_at old at) stepped → EndsHold d new

-- what stands behind the whole records of a log, and is none, may be cut off
abbrev pub RestsAreUnknown : Type 0
RestsAreUnknown = (end : ℕ) (log rest : List ℕ) → AreWhole log → record_in rest ≡ Err NotWhole → EndHolds end (log ++ rest) → end ≤ length log
