-- A group that begins anew behind its restart, and one that starts.
use Rattle.std.specs.Prelude.{◌≡◌, ℕ, List, IfSome, slice_get}
use Rattle.facility.specs.States.{IsMade}
use Rattle.group_restart.specs.declared.stage.Stage.TheVariants as stage
use Rattle.group_restart.specs.Machine.{Restart}
use Rattle.group_member.specs.Members.{IsDown}
use Rattle.group_core.specs.Given.{BeginsAnew, CrewState}
use Rattle.lock_protocol.specs.Machine.{World as LockWorld}
use Rattle.page_protocol.specs.Moves.{World, start}
use Rattle.page_recoveries.specs.Given.{Drive, LocksTied, PageMoves, Shows}
use Rattle.fallen_pages.specs.Stands.{FallenPages}

-- its restart is done: each page on disk is its last version, all members are up, and nobody holds anything
abbrev pub BeginsAnewGo : Type 0
BeginsAnewGo = (d : Drive) (old new : CrewState) (k : Restart) (l : LockWorld) (w : World) → LocksTied old l → BeginsAnew k.counter old new → FallenPages k d w → k.stage ≡ stage.End → PageMoves d new w

-- It has just started, whatever the disk holds: that is version 0 of each page, and no change was made yet. The numbers that are drawn go on behind its
-- counter.
abbrev pub StartsGo : Type 0
StartsGo = (d : Drive) (s : CrewState) (l : LockWorld) (pages : ℕ → List ℕ) → LocksTied s l → IsMade s.sizes s.facility.counter s.facility → Shows d pages → ((at : ℕ) → IfSome (slice_get s.members at) (IsDown s.sizes)) → PageMoves d s start
