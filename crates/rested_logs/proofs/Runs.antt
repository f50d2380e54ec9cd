-- Whole runs over a disk that told what it held when it was opened, event by event.
use Rattle.std.proofs.Common.{◌≡◌, ℕ, zero, suc, ◌+◌, ◌≤◌, refl, sym, ◌∙◌, ap, subst, arith, Bool, true, false, inl, inr, List, [], ◌∷◌, ◌++◌, length, Option, Some, None, Ok}
use Rattle.std.specs.Prelude.{◌≢◌, ◌⊎◌, ◌%◌, IfSome, IsSomeAnd, is_some, map, slice_get}
use Rattle.std.proofs.lemmas.Bool.{cases_Bool}
use Rattle.std.proofs.lemmas.List.{length-map}
use Rattle.std.proofs.lemmas.Option.{slice_get-map}
use Rattle.ds_disk.specs.Contents.{Becomes, Contents, WhenTold, log_of}
use Rattle.ds_disk.specs.Pages.{PagesAreBytes}
use Rattle.cache_structure.specs.Directory.{Directory}
use Rattle.lock_names.specs.Entries.{entry_number}
use Rattle.lock_protocol.specs.Machine.{World, start}
use Rattle.lock_protocol.specs.Moves.{Move, Run}
use Rattle.lock_world.specs.Numbers.{name_at}
use Rattle.lock_world.specs.Views.{entry_in}
use Rattle.group_restart.specs.Course.{IsBegun}
use Rattle.group_restart.specs.Disk.{Drive}
use Rattle.group_restart.specs.Machine.{Restart}
use Rattle.group_restart.specs.Steps.{Steps}
use Rattle.group_restart.specs.declared.calls.State.{State}
use Rattle.group_restart.specs.declared.calls.State.TheVariants as state
use Rattle.disk_restart.specs.Runs.{AllGo, HasGone}
use Rattle.sound_disk.specs.Sound.{IsSoundDisk}
use Rattle.restart_soundness.specs.Left_out.{LeavesOutClosed}
use Rattle.restart_soundness.specs.Runs.{IsLeft, RestartsLeaveDisksSound, RunsLeaveDisksSound}
use Rattle.script_fates.specs.Fated.{FatesState}
use Rattle.claimed_logs.specs.Found.{AllOpensKnown}
use Rattle.claimed_logs.specs.Given.{AllEvents, AllKnowDisk, AreCounted, AreNumbered, BeginsAnew, CrewState, EndsHold, EntersRestart, Group, GroupFails, IsDown, IsLooked, IsNumbered, IsSafe, LocksTied, LogsChangeBy, LogsGo, Member, MemberStands, Moves, OfGroup, RestartInHand, RestartStands, RestartSteps, Restarting, RunsFresh, StandsBeside, StartsKnow, Takes, Whose, crew_state, drive_of, fail_counted, member_of, takes}
use Rattle.claimed_logs.specs.Logs.{FreshLogged, LogBelow, LogCloses, LogsClaimed, LogsKnow}
use Rattle.claimed_logs.specs.Runs.{FindsOpens, KnowingRunsStand, StandsKnowing}
use Rattle.claimed_logs.specs.Taken.{EventsKeep, LogsStand}
use Rattle.rested_logs.specs.Counts.{RestsBelow, RunsEnd}
use Rattle.rested_logs.specs.Rests.{GroupsLeaveClosed, GroupsStandAnew, OthersClose, RestsLogged, StandsAnew}
use Rattle.rested_logs.specs.Runs.{EndsLogged, FailsSound, LockedRunsStand, StandsLogged, StartsOver}
use Rattle.rested_logs.proofs.Events.{IsLawful, StaysOrFails, both_ways, disk_stays, faulty_unmoved, free_goes, is_call, lawful_before, looked_state, no_call}
use Rattle.rested_logs.proofs.Others.{changed_others}

-- ---- a run of the world goes on by the moves of an event
run_on : (entry : ℕ → ℕ) (w mid v : World) (xs ys : List Move) → Run entry w xs mid → Run entry mid ys v → Run entry w (xs ++ ys) v
run_on entry w mid v [] ys a b = subst (λ z. Run entry z ys v) a b
run_on entry w mid v (x ∷ xs) ys a b = (a.0, a.1, run_on entry a.0 mid v xs ys a.2 b)

goes_on : (by : Whose) (old new : CrewState) (w : World) → StandsBeside old w → (m : Moves by old new w) → StandsBeside new m.world
goes_on by old new w stands m = record {
  moves = stands.moves ++ m.moves;
  run = subst (λ (z : ℕ). Run (λ c. entry_number (name_at c) z) start (stands.moves ++ m.moves) m.world) (sym m.entries)
      (run_on (entry_in old.facility.locks) start w m.world stands.moves m.moves stands.run m.run);
  tied = m.tied;
}

-- ---- the group restart that is in hand, and fates, are nothing to it
beside : (s : CrewState) (x : Option Restart) (f : FatesState) (w : World) → StandsBeside s w → StandsBeside (record s { restart = x; fates = f }) w
beside s x f w b = record {
  moves = b.moves;
  run = b.run;
  tied = record { sound = b.tied.sound; tied = b.tied.tied; count = b.tied.count; few = b.tied.few; agents = b.tied.agents; entries = b.tied.entries; stands = b.tied.stands };
}

logged_beside : (c : Contents) (s : CrewState) (x : Option Restart) (f : FatesState) (w : World) → LogsClaimed c s w → LogsClaimed c (record s { restart = x; fates = f }) w
logged_beside c s x f w l = record { there = l.there; each = l.each }

-- ---- the members' numbers
in_hand_numbered : (k : ℕ) (m : Member) (x : Option Restarting) → RestartInHand k m x → IfSome x (λ q. q.resources.marks.member ≡ k)
in_hand_numbered k m None h = tt
in_hand_numbered k m (Some q) h = h.member

some_numbered : (s : CrewState) (at : ℕ) (x : Option Member) → IfSome x (MemberStands s.facility (at + 1)) → IfSome x (IsNumbered (at + 1))
some_numbered s at None h = tt
some_numbered s at (Some m) h = record { own = h.member; restart = in_hand_numbered (at + 1) m m.restart h.restart }

numbered : (s : CrewState) (w : World) → LocksTied s w → AreNumbered s
numbered s w t at = some_numbered s at (slice_get s.members at) (t.stands at)

-- ---- what is told
-- it still is behind an event, after which this holds
pub record Told (o : Option Contents) (P : Contents → Type 0) : Type 0 where
  pub now : Contents
  pub is : o ≡ Some now
  pub holds : P now

told_by : (c : Contents) (o : Option Contents) (R : Contents → Contents → Type 0) → Becomes (Some c) o R → Told o (R c)
told_by c None R h = absurd h
told_by c (Some d) R h = record { now = d; is = refl; holds = h }

told_from : (b o : Option Contents) (c : Contents) (R : Contents → Contents → Type 0) → b ≡ Some c → Becomes b o R → Told o (R c)
told_from b o c R is h = told_by c o R (subst (λ (z : Option Contents). Becomes z o R) is h)

when_told : (o : Option Contents) (c : Contents) (P : Contents → Type 0) → o ≡ Some c → P c → WhenTold o P
when_told o c P is h = subst (λ (z : Option Contents). WhenTold z P) (sym is) h

-- ---- one step more
go_more : (n : ℕ) (w v u : Drive) (h k l : Restart) → AllGo n w h v k → Steps v k (Ok state.Going) u l → AllGo (suc n) w h u l
go_more zero w v u h k l go step =
    let first : Steps w h (Ok state.Going) u l = subst (λ (z : Drive). Steps z h (Ok state.Going) u l) go.0 (subst (λ (z : Restart). Steps v z (Ok state.Going) u l) go.1 step) in
    (u, (l, (first, (refl, refl))))
go_more (suc n) w v u h k l go step = (go.0, (go.1.0, (go.1.1.0, go_more n go.0 v u go.1.0 k l go.1.1.1 step)))

pub record Facts {C D : Type 0} (P : Type 0) (directory : C → Directory) (alive : D → Bool) (contents : D → Option Contents) (count : D → ℕ) : Type 0 where
  pub keep : EventsKeep P directory alive contents count
  pub knowing : KnowingRunsStand P directory alive contents count
  pub logs : LogsGo P directory alive contents count
  pub starts : StartsKnow P directory
  pub has_logs : (disk : D) (c : Contents) → contents disk ≡ Some c → length c.logs ≡ 32
  pub bytes : (disk : D) (c : Contents) → contents disk ≡ Some c → PagesAreBytes c.pages
  pub run : RunsLeaveDisksSound alive contents
  pub restart : RestartsLeaveDisksSound alive contents
  pub know : LogsKnow
  pub fresh : FreshLogged
  pub anew : (old new : CrewState) (counter : ℕ) (w : World) → LocksTied old w → BeginsAnew counter old new → Moves OfGroup old new w
  pub leave : GroupsLeaveClosed
  pub rests : RestsLogged
  pub stand : GroupsStandAnew
  pub below : RestsBelow
  pub ends : RunsEnd

module _ {C D P : Type 0} (directory : C → Directory) (alive : D → Bool) (contents : D → Option Contents) (count : D → ℕ) (facts : Facts P directory alive contents count) where
  abbrev state_of : Group D C P → CrewState
  state_of group = crew_state directory group.crew

  -- ---- where a group stands
  record Free (group : Group D C P) : Type 0 where
    free : is_some group.crew.restart ≡ false
    stands : StandsLogged directory contents group

  -- Its restart has come so far from the disk that the group left as it failed.
  record InHand (group : Group D C P) : Type 0 where
    from : D
    began : Contents
    is : contents from ≡ Some began
    sound : IsSoundDisk began
    world : World
    stands : StandsBeside (state_of group) world
    logs : LogsClaimed began (state_of group) world
    others : OthersClose began (state_of group)
    begun : Restart
    begins : IsBegun begun
    now : Restart
    in_hand : group.crew.restart ≡ Some now
    gone : HasGone (drive_of alive contents from) begun (drive_of alive contents group.disk) now

  -- or the run has ended in it
  record Stopped (group : Group D C P) : Type 0 where
    fault : is_some group.fault ≡ true
    in_hand : is_some group.crew.restart ≡ true
    world : World
    stands : StandsBeside (state_of group) world
    known : AllOpensKnown (state_of group) world

  abbrev Stands : Group D C P → Type 0
  Stands group = Free group ⊎ (InHand group ⊎ Stopped group)

  stands_knowing : (group : Group D C P) → Stands group → StandsKnowing (state_of group)
  stands_knowing group (inl s) = record { world = s.stands.world; stands = s.stands.stands; known = facts.know s.stands.told (state_of group) s.stands.world s.stands.logs.claimed }
  stands_knowing group (inr (inl s)) = record { world = s.world; stands = s.stands; known = facts.know s.began (state_of group) s.world s.logs }
  stands_knowing group (inr (inr s)) = record { world = s.world; stands = s.stands; known = s.known }

  -- ---- a group of the same crew over the same disk
  record IsSame (old new : Group D C P) : Type 0 where
    crew : state_of new ≡ state_of old
    disk : new.disk ≡ old.disk
    fault : new.fault ≡ old.fault

  restart_same : (old new : Group D C P) → IsSame old new → new.crew.restart ≡ old.crew.restart
  restart_same old new same = ap (λ (z : CrewState). z.restart) same.crew

  same_logged : (old new : Group D C P) → IsSame old new → StandsLogged directory contents old → StandsLogged directory contents new
  same_logged old new same s = record {
    told = s.told;
    is = ap contents same.disk ∙ s.is;
    world = s.world;
    stands = subst (λ (z : CrewState). StandsBeside z s.world) (sym same.crew) s.stands;
    logs = subst (λ (z : CrewState). LogsStand s.told z s.world) (sym same.crew) s.logs;
    others = subst (λ (z : CrewState). OthersClose s.told z) (sym same.crew) s.others;
  }

  stands_as : (old new : Group D C P) → IsSame old new → Stands old → Stands new
  stands_as old new same (inl s) = inl (record { free = ap (λ (z : Option Restart). is_some z) (restart_same old new same) ∙ s.free; stands = same_logged old new same s.stands })
  stands_as old new same (inr (inl s)) = inr (inl (record {
    from = s.from;
    began = s.began;
    is = s.is;
    sound = s.sound;
    world = s.world;
    stands = subst (λ (z : CrewState). StandsBeside z s.world) (sym same.crew) s.stands;
    logs = subst (λ (z : CrewState). LogsClaimed s.began z s.world) (sym same.crew) s.logs;
    others = subst (λ (z : CrewState). OthersClose s.began z) (sym same.crew) s.others;
    begun = s.begun;
    begins = s.begins;
    now = s.now;
    in_hand = restart_same old new same ∙ s.in_hand;
    gone = subst (λ (z : D). HasGone (drive_of alive contents s.from) s.begun (drive_of alive contents z) s.now) (sym same.disk) s.gone;
  }))
  stands_as old new same (inr (inr s)) = inr (inr (record {
    fault = ap (λ z. is_some z) same.fault ∙ s.fault;
    in_hand = ap (λ (z : Option Restart). is_some z) (restart_same old new same) ∙ s.in_hand;
    world = s.world;
    stands = subst (λ (z : CrewState). StandsBeside z s.world) (sym same.crew) s.stands;
    known = subst (λ (z : CrewState). AllOpensKnown z s.world) (sym same.crew) s.known;
  }))

  looked_same : (old new : Group D C P) → IsLooked old new → IsSame old new
  looked_same old new l = record { crew = looked_state directory alive contents count old new l; disk = ap (λ (z : Group D C P). z.disk) l.rest; fault = ap (λ (z : Group D C P). z.fault) l.rest }

  unmoved : (old new : Group D C P) (event : ℕ) → Takes directory alive contents count old event new → takes old event ≡ false → IsSame old new
  unmoved old new event taken isnt = record {
    crew = ap (λ (z : Group D C P). state_of z) (taken.left isnt);
    disk = ap (λ (z : Group D C P). z.disk) (taken.left isnt);
    fault = ap (λ (z : Group D C P). z.fault) (taken.left isnt);
  }

  -- ---- where its logs stand, a sound disk leaves out of them what is closed alone
  leaves_closed : (group : Group D C P) → (s : StandsLogged directory contents group) → IsSoundDisk s.told → LeavesOutClosed s.told
  leaves_closed group s sound = facts.leave s.told (state_of group) s.world sound.logs sound.sound.whole_logs s.stands.tied s.logs.claimed s.others

  -- ---- the start
  module _ (opened : D) (c : Contents) (first : Group D C P) (over : StartsOver directory alive contents opened c first) where
    abbrev first_state : CrewState
    first_state = state_of first

    counted : AreCounted first_state
    counted = record {
      count = length-map first.crew.parts.items member_of ∙ over.count ∙ sym members;
      few = subst (λ (z : ℕ). z ≤ 32) (sym members) over.few;
      agents = over.agents;
    }
      where
        members : first_state.facility.lists.members ≡ first.crew.sizes.sizes.members
        members = over.fresh.facility.lists_new.members_kept

    abbrev counter : ℕ
    counter = first.crew.facility.counter

    left : Told (contents first.disk) (λ d. IsSoundDisk c → IsLeft (Ok (state.Done counter)) c d)
    left = told_from (contents opened) (contents first.disk) c (λ b d. IsSoundDisk b → IsLeft (Ok (state.Done counter)) b d) over.told (facts.restart opened first.disk (Ok (state.Done counter)) over.opens)

    abbrev now : Contents
    now = left.now

    is_left : IsLeft (Ok (state.Done counter)) c now
    is_left = left.holds over.sound

    many_logs : length now.logs ≡ 32
    many_logs = facts.has_logs first.disk now left.is

    closes : (at : ℕ) → LogCloses (log_of now.logs (at + 1))
    closes = facts.rests c now counter (facts.has_logs opened c over.told ∙ sym many_logs) over.closed is_left

    close : (at : ℕ) (o : Option Member) → IfSome o (λ (m : Member). LogCloses (log_of now.logs (at + 1)))
    close at None = tt
    close at (Some m) = closes at

    known : AllKnowDisk (Some c) (Some now) first.crew.parts.items
    known = subst (λ (z : Option Contents). AllKnowDisk (Some c) z first.crew.parts.items) left.is (subst (λ (z : Option Contents). AllKnowDisk z (contents first.disk) first.crew.parts.items) over.told over.known)

    starts : (w : World) → StandsBeside first_state w → Stands first
    starts w stands = inl (record {
      free = ap (λ (z : Option Restart). is_some z) over.fresh.unfailed;
      stands = record {
        told = now;
        is = left.is;
        world = w;
        stands = stands;
        logs = record {
          claimed = facts.fresh now first_state w stands.tied
              (λ at. subst (λ (z : Option Member). IfSome z (IsDown first.crew.sizes.sizes)) (sym (slice_get-map member_of first.crew.parts.items at)) (over.fresh.members at))
              (let size = counted.count in let few = counted.few in omega (arith, size, few, many_logs))
              (λ at. close at (slice_get first_state.members at))
              (facts.below c now counter is_left.ends);
          ends = facts.starts first.crew c now known;
        };
        others = λ at none. closes at;
      };
    })

  -- ---- an event while no group restart is in hand
  module _ (old new : Group D C P) (event : ℕ) (taken : Takes directory alive contents count old event new) (lawful : IsLawful directory alive contents count new) (sound : event ≡ 64 → WhenTold (contents old.disk) IsSoundDisk) where
    abbrev before : CrewState
    before = state_of old

    abbrev after : CrewState
    after = state_of new

    module _ (free : is_some old.crew.restart ≡ false) (s : StandsLogged directory contents old) (is : takes old event ≡ true) where
      goes : StaysOrFails event before after
      goes = free_goes directory alive contents count old new event taken is lawful free

      changes : Told (contents new.disk) (LogsChangeBy event before s.told)
      changes = told_from (contents old.disk) (contents new.disk) s.told (LogsChangeBy event before) s.is
          (facts.logs old new event taken (no_call directory alive contents count old new event taken is lawful free) lawful (numbered before s.world s.stands.tied))

      logged : StandsLogged directory contents new
      logged =
          let kept = facts.keep old new event s.world s.told changes.now taken lawful free s.is changes.is s.stands.tied s.logs in
          record {
            told = changes.now;
            is = changes.is;
            world = kept.2.world;
            stands = goes_on kept.0 before after s.world s.stands kept.2;
            logs = kept.3;
            others = λ at none. changed_others s.told changes.now before event changes.holds s.others at (goes.there at none);
          }

      fails : (x : Option Restart) → new.crew.restart ≡ x → event ≡ 64 → IsSomeAnd x IsBegun → Stands new
      fails None hand same h = absurd h
      fails (Some now) hand same begins = inr (inl (record {
        from = new.disk;
        began = logged.told;
        is = logged.is;
        sound = subst (λ (z : Option Contents). WhenTold z IsSoundDisk) (ap contents (sym (disk_stays directory alive contents count old new event taken is lawful free same)) ∙ logged.is) (sound same);
        world = logged.world;
        stands = logged.stands;
        logs = logged.logs.claimed;
        others = logged.others;
        begun = now;
        begins = begins;
        now = now;
        in_hand = hand;
        gone = record { count = 0; go = (refl, refl) };
      }))

      free_stands : Stands new
      free_stands = by goes.restart
        where
          by : (is_some after.restart ≡ false) ⊎ ((event ≡ 64) × GroupFails (fail_counted before) after) → Stands new
          by (inl none) = inl (record { free = none; stands = logged })
          by (inr (same, f)) = fails new.crew.restart refl same f.restart

    -- ---- and while one is
    module _ (s : InHand old) (is : takes old event ≡ true) where
      -- it is in hand still, and the members are as they were
      stopped : (x : Restart) (f : FatesState) → is_some new.fault ≡ true → after ≡ record before { restart = Some x; fates = f } → Stands new
      stopped x f faulty same = inr (inr (record {
        fault = faulty;
        in_hand = ap (λ (z : CrewState). is_some z.restart) same;
        world = s.world;
        stands = subst (λ (z : CrewState). StandsBeside z s.world) (sym same) (beside before (Some x) f s.world s.stands);
        known = facts.know s.began after s.world (subst (λ (z : CrewState). LogsClaimed s.began z s.world) (sym same) (logged_beside s.began before (Some x) f s.world s.logs));
      }))

      more : (x : Restart) → Steps (drive_of alive contents old.disk) s.now (Ok state.Going) (drive_of alive contents new.disk) x → after ≡ record before { restart = Some x } → Stands new
      more x step same = inr (inl (record {
        from = s.from;
        began = s.began;
        is = s.is;
        sound = s.sound;
        world = s.world;
        stands = subst (λ (z : CrewState). StandsBeside z s.world) (sym same) (beside before (Some x) before.fates s.world s.stands);
        logs = subst (λ (z : CrewState). LogsClaimed s.began z s.world) (sym same) (logged_beside s.began before (Some x) before.fates s.world s.logs);
        others = subst (λ (z : CrewState). OthersClose s.began z) (sym same) s.others;
        begun = s.begun;
        begins = s.begins;
        now = x;
        in_hand = ap (λ (z : CrewState). z.restart) same;
        gone = record {
          count = suc s.gone.count;
          go = go_more s.gone.count (drive_of alive contents s.from) (drive_of alive contents old.disk) (drive_of alive contents new.disk) s.begun s.now x s.gone.go step;
        };
      }))

      done : (x : Restart) (counter : ℕ) → Steps (drive_of alive contents old.disk) s.now (Ok (state.Done counter)) (drive_of alive contents new.disk) x → BeginsAnew counter (record before { restart = Some x }) after → Stands new
      done x counter step begins = inl (record {
        free = ap (λ (z : CrewState). is_some z.restart) begins.rest;
        stands = record {
          told = told.now;
          is = told.is;
          world = moves.world;
          stands = goes_on OfGroup (record before { restart = Some x }) after s.world there moves;
          logs = anew.logs;
          others = anew.others;
        };
      })
        where
          there : StandsBeside (record before { restart = Some x }) s.world
          there = beside before (Some x) before.fates s.world s.stands

          moves : Moves OfGroup (record before { restart = Some x }) after s.world
          moves = facts.anew (record before { restart = Some x }) after counter s.world there.tied begins

          told : Told (contents new.disk) (λ d. IsSoundDisk s.began → IsLeft (Ok (state.Done counter)) s.began d)
          told = told_from (contents s.from) (contents new.disk) s.began (λ b d. IsSoundDisk b → IsLeft (Ok (state.Done counter)) b d) s.is
              (facts.run s.from new.disk s.begun x (Ok (state.Done counter)) s.begins (inl (record { mid = drive_of alive contents old.disk; between = s.now; gone = s.gone; last = step })))

          is_left : IsLeft (Ok (state.Done counter)) s.began told.now
          is_left = told.holds s.sound

          many : length s.began.logs ≡ 32
          many = facts.has_logs s.from s.began s.is

          below : (at : ℕ) → LogBelow after.facility.counter (log_of told.now.logs (at + 1))
          below at = subst (λ (z : ℕ). LogBelow z (log_of told.now.logs (at + 1))) (sym begins.facility.counter_at) (facts.below s.began told.now counter is_left.ends at)

          anew : StandsAnew told.now after moves.world
          anew = facts.stand s.began told.now counter x (record before { restart = Some x }) after moves.world moves.tied begins refl
              (facts.ends (drive_of alive contents s.from) (drive_of alive contents new.disk) s.begun x counter s.began told.now s.is told.is many (facts.bytes s.from s.began s.is) s.sound s.begins
              (inl (record { mid = drive_of alive contents old.disk; between = s.now; gone = s.gone; last = step })))
              many (facts.has_logs new.disk told.now told.is)
              (facts.leave s.began before s.world s.sound.logs s.sound.sound.whole_logs s.stands.tied s.logs s.others)
              is_left below

      enters : (x : Restart) (reached : State) → Steps (drive_of alive contents old.disk) s.now (Ok reached) (drive_of alive contents new.disk) x → EntersRestart reached new.fault (record before { restart = Some x }) after → Stands new
      enters x state.Going step e = more x step e.1
      enters x (state.Done counter) step e = done x counter step e.1
      enters x (state.Damaged volume at) step e = stopped x before.fates (ap (λ z. is_some z) e.0) e.1
      enters x state.Failed step e = stopped x after.fates (ap (λ z. is_some z) e.0) e.2

      in_hand_stands : Stands new
      in_hand_stands =
          let call = is_call directory alive contents count old new event taken is (ap (λ (z : Option Restart). is_some z) s.in_hand) in
          let steps : RestartSteps alive contents new.fault before s.now old.disk after new.disk =
          subst (λ (z : Option Restart). IfSome z (λ restart. RestartSteps alive contents new.fault before restart old.disk after new.disk)) s.in_hand ((taken.own is call.1).goes call.0) in
          enters steps.now steps.reached steps.steps steps.enters

    -- ---- any event
    event_goes : Stands old → Stands new
    event_goes s = elim (cases_Bool (takes old event)) [
      | inr isnt ↦ stands_as old new (unmoved old new event taken isnt) s
      | inl is ↦ by is s
    ]
      where
        by : takes old event ≡ true → Stands old → Stands new
        by is (inl f) = free_stands f.free f.stands is
        by is (inr (inl h)) = in_hand_stands h is
        by is (inr (inr h)) = absurd (both_ways (takes old event) is (faulty_unmoved directory alive contents count old event h.fault))

  -- ---- all events
  record Reached (events : List ℕ) (old new : Group D C P) (runs : RunsFresh directory alive contents count old events new) : Type 0 where
    all : AllEvents FindsOpens directory alive contents count old events new runs
    stands : Stands new

  all_go : (events : List ℕ) (old new : Group D C P) (runs : RunsFresh directory alive contents count old events new) → FailsSound directory alive contents count old events → IsLawful directory alive contents count new → Stands old → Reached events old new runs
  all_go [] old new runs sound lawful s = record { all = tt; stands = stands_as old new (looked_same old new runs) s }
  all_go (event ∷ events) old new runs sound lawful s =
      let mid : Stands runs.1.mid = stands_as old runs.1.mid (looked_same old runs.1.mid runs.1.looked) s in
      let here : event ≡ 64 → WhenTold (contents runs.1.mid.disk) IsSoundDisk = λ same. sound [] events runs.1.mid (ap (λ (z : ℕ). z ∷ events) same) runs.1.looked in
      let rest : Reached events runs.0 new runs.2 =
      all_go events runs.0 new runs.2 (λ front back group split from. sound (event ∷ front) back group (ap (λ (z : List ℕ). event ∷ z) split) (runs.0, runs.1, from)) lawful
      (event_goes runs.1.mid runs.0 event runs.1.takes (lawful_before directory alive contents count events runs.0 new runs.2 lawful) here mid) in
      record { all = (λ w b. stands_knowing old s, rest.all); stands = rest.stands }

  -- ---- where they lead
  logged_of : (group : Group D C P) → Stands group → is_some group.crew.restart ≡ false → StandsLogged directory contents group
  logged_of group (inl s) free = s.stands
  logged_of group (inr (inl s)) free = absurd (both_ways (is_some group.crew.restart) (ap (λ (z : Option Restart). is_some z) s.in_hand) free)
  logged_of group (inr (inr s)) free = absurd (both_ways (is_some group.crew.restart) s.in_hand free)

  pub locked_runs : LockedRunsStand P directory alive contents count
  locked_runs opened c first events last over runs sound lawful = record {
    safe = facts.knowing first events last over.fresh (counted opened c first over) runs reached.all lawful;
    stands = logged_of last reached.stands;
    leaves = λ free. let s = logged_of last reached.stands free in when_told (contents last.disk) s.told (λ d. IsSoundDisk d → LeavesOutClosed d) s.is (leaves_closed last s);
  }
    where
      begun : IsSafe (state_of first)
      begun = facts.knowing first [] first over.fresh (counted opened c first over) (record { rest = refl; crew = record { rest = refl; parts = refl } }) tt (lawful_before directory alive contents count events first last runs lawful)

      reached : Reached events first last runs
      reached = all_go events first last runs sound lawful (starts opened c first over begun.world begun.stands)
