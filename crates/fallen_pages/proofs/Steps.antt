-- A call of the group restart that is in hand, in its group.
use Rattle.std.proofs.Common.{◌≡◌, sym, ap, subst, Bool, ◌++◌, Option, Some}
use Rattle.ds_disk.specs.Contents.{Contents}
use Rattle.group_restart.specs.declared.calls.State.{State}
use Rattle.group_restart.specs.declared.calls.State.TheVariants as state
use Rattle.group_restart.specs.Machine.{Restart}
use Rattle.group_core.specs.Given.{BeginsAnew, CrewState}
use Rattle.group_core.specs.Restarts.{EntersRestart}
use Rattle.group_core.specs.Starts as starts
use Rattle.lock_protocol.specs.Machine.{World as LockWorld}
use Rattle.page_protocol.specs.Moves.{World}
use Rattle.page_recoveries.specs.Given.{Drive, LocksTied, PageMoves}
use Rattle.fallen_pages.specs.Anew.{BeginsAnewGo}
use Rattle.fallen_pages.specs.Calls.{CallGoes, CallsGo}
use Rattle.fallen_pages.specs.Stands.{FallenMoves}
use Rattle.fallen_pages.specs.Steps.{PagesMove, PagesAt, RestartStepsGo, drive_of}
use Rattle.fallen_pages.proofs.Worlds.{run_on}

-- the restart that is in hand isn't the locks'
held : (s : CrewState) (l : LockWorld) (k : Restart) → LocksTied s l → LocksTied (record s { restart = Some k }) l
held s l k t = record { sound = t.sound; tied = t.tied; count = t.count; few = t.few; agents = t.agents; entries = t.entries; stands = t.stands }

-- it is in hand still
still : (e : Drive) (new : CrewState) (k : Restart) (w : World) → new.restart ≡ Some k → FallenMoves k e w → PagesMove e new w
still e new k w is a = record { moves = a.moves; world = a.world; run = a.run; stands = subst (λ (z : Option Restart). PagesAt z e new a.world) (sym is) a.stands }

pub steps_go : {D : Type 0} → (alive : D → Bool) (contents : D → Option Contents) → CallsGo → BeginsAnewGo → RestartStepsGo alive contents
steps_go {D} alive contents law anew why old new h disk left l w locks e f tells = enters e.reached goes e.enters
  where
    d : Drive
    d = drive_of alive contents left

    goes : CallGoes e.reached e.now d w
    goes = law (starts.drive_of alive contents disk) (starts.drive_of alive contents left) h e.now e.reached w e.steps f tells

    enters : (came : State) → CallGoes came e.now d w → EntersRestart came why (record old { restart = Some e.now }) new → PagesMove d new w
    enters state.Going a x = still d new e.now w (ap (λ (z : CrewState). z.restart) x.1) a.goes
    enters (state.Done counter) a x =
        let begins : BeginsAnew e.now.counter (record old { restart = Some e.now }) new = subst (λ z. BeginsAnew z (record old { restart = Some e.now }) new) (sym a.ends.1) x.1 in
        let more : PageMoves d new a.goes.world = anew d (record old { restart = Some e.now }) new e.now l a.goes.world (held old l e.now locks) begins a.goes.stands a.ends.0 in
        record {
          moves = a.goes.moves ++ more.moves;
          world = more.world;
          run = run_on w a.goes.world more.world a.goes.moves more.moves a.goes.run more.run;
          stands = subst (λ (z : Option Restart). PagesAt z d new more.world) (sym (ap (λ (z : CrewState). z.restart) begins.rest)) more.tied;
        }
    enters (state.Damaged volume at) a x = still d new e.now w (ap (λ (z : CrewState). z.restart) x.1) a.goes
    enters state.Failed a x = still d new e.now w (ap (λ (z : CrewState). z.restart) x.2) a.goes
