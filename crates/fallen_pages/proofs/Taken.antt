-- Any event of a group, whether a group restart is in hand or not.
use Rattle.std.proofs.Common.{◌≡◌, ℕ, zero, suc, ◌+◌, refl, sym, ap, subst, arith, Bool, true, false, inl, inr, List, [], Option, Some, None}
use Rattle.std.specs.Prelude.{◌≢◌, ◌*◌, ◌/◌, ◌%◌, IfSome, is_some, map, not}
use Rattle.std.proofs.lemmas.Bool.{and_parts, cases_Bool, cases_eq, eqb-true}
use Rattle.std.proofs.lemmas.Nat.{div-add-mod'}
use Rattle.ds_disk.specs.Contents.{Contents}
use Rattle.cache_structure.specs.Directory.{Directory}
use Rattle.script_phases.specs.Progresses.{own_choice}
use Rattle.group_restart.specs.Course.{IsBegun}
use Rattle.group_restart.specs.Machine.{Restart}
use Rattle.group_restart.specs.declared.stage.Stage.{Stage}
use Rattle.group_core.specs.declared.fault.RunFault.{RunFault}
use Rattle.group_core.specs.declared.fault.RunFault.TheVariants as fault
use Rattle.group_core.specs.declared.group.Group.{Group}
use Rattle.group_core.specs.Events.{takes}
use Rattle.group_core.specs.Given.{CrewState, crew_state, is_own, is_ready_in, ready_for}
use Rattle.group_core.specs.Restarts.{RestartSteps}
use Rattle.group_core.specs.Takes.{MemberPart, Takes}
use Rattle.lock_protocol.specs.Machine.{World as LockWorld}
use Rattle.page_protocol.specs.Moves.{World}
use Rattle.page_recoveries.specs.Given.{Drive, LocksTied}
use Rattle.page_recoveries.specs.Groups.{GroupMoves, PagesBy, PagesFallen}
use Rattle.page_recoveries.specs.Taken.{EventsGo as RunningGo}
use Rattle.fallen_pages.specs.Stands.{CounterIs, FallenPages, HandIs, OthersLast, is_left}
use Rattle.fallen_pages.specs.Steps.{PagesAt, PagesHold, PagesMove, RestartStepsGo, drive_of}
use Rattle.fallen_pages.specs.Calls.{CallTells}
use Rattle.fallen_pages.specs.Taken.{EventsGo, TellsAt}
use Rattle.fallen_pages.proofs.Looked.{looked_state}

abbrev IsLawful : Option RunFault → Type 0
IsLawful why = (at : ℕ) → why ≢ Some (fault.Unlawful at)

never : {A : Type 0} → true ≡ false → A
never e = cc e

-- ---- a group restart that has only begun
begun : (k : Restart) (d : Drive) (w : World) → IsBegun k → PagesFallen d w → FallenPages k d w
begun k d w is f = record {
  remains = f.remains;
  versions = f.versions;
  fallen = f.fallen;
  drive = f.drive;
  at = record {
    last = subst (λ (z : Stage). OthersLast w (is_left z k.plan.pages)) (sym is.stage_is) (λ n e. never e);
    counter = subst (λ (z : Stage). CounterIs z k.counter f.remains.counter) (sym is.stage_is) tt;
    hand = subst (λ (z : Stage). HandIs z k.page w f.remains f.versions) (sym is.stage_is) tt;
  };
}

by_restart : (o : Option Restart) (d : Drive) (s : CrewState) (w : World) → ((k : Restart) → o ≡ Some k → IsBegun k) → PagesBy o d s w → PagesAt o d s w
by_restart None d s w is t = t
by_restart (Some k) d s w is f = begun k d w (is k refl) f

-- ---- which event may be taken while one is in hand
own_two : (choice : ℕ) → is_own (Some 2) choice ≡ true → choice ≡ 2
own_two choice e = sym (eqb-true 2 choice e)

unready : (own : Option ℕ) (ready : List ℕ) (n choice : ℕ) → n ≢ 0 → ready_for true own ready n choice ≡ true → ⊥
unready own ready zero choice some e = some refl
unready own ready (suc n) choice some e = never (sym e)

own_number : (event choice : ℕ) → event % 64 ≡ 0 → event / 64 ≡ choice → event ≡ choice * 64
own_number event choice rest is =
    let whole : event / 64 * 64 + event % 64 ≡ event = div-add-mod' event 64 in
    let same : event / 64 * 64 ≡ choice * 64 = ap (λ z. z * 64) is in
    omega (arith, whole, same, rest)

module _ {C D : Type 0} (P : Type 0) (directory : C → Directory) (alive : D → Bool) (contents : D → Option Contents) (count : D → ℕ) where
  module _ (old new : Group D C P) (event : ℕ) (l : LockWorld) (w : World) (taken : Takes directory alive contents count old event new) (locks : LocksTied (crew_state directory old.crew) l) where
    abbrev before : CrewState
    before = crew_state directory old.crew

    abbrev after : CrewState
    after = crew_state directory new.crew

    abbrev d : Drive
    d = drive_of alive contents old.disk

    abbrev e : Drive
    e = drive_of alive contents new.disk

    -- ---- it isn't taken
    unmoved : new ≡ record old { journal = new.journal; lines = new.lines; faults = new.faults } → PagesHold d before w → PagesMove e after w
    unmoved is f = subst (λ (z : Group D C P). PagesMove (drive_of alive contents z.disk) (crew_state directory z.crew) w) (sym is) (record { moves = []; world = w; run = refl; stands = f })

    -- ---- a group restart is in hand
    abbrev readies : List ℕ
    readies = map (λ (p : MemberPart P). p.ready) old.crew.parts.items

    ready : is_some old.crew.restart ≡ true → takes old event ≡ true → ready_for true (own_choice true old.crew.progress old.crew.script) readies (event % 64) (event / 64) ≡ true
    ready in_hand is = subst (λ (b : Bool). ready_for b (own_choice b old.crew.progress old.crew.script) readies (event % 64) (event / 64) ≡ true) in_hand (and_parts (not (is_some old.fault)) (is_ready_in old.crew event) is).1

    restart_goes : RestartStepsGo alive contents → (h : Restart) → old.crew.restart ≡ Some h → (f : FallenPages h d w) → ((x : RestartSteps alive contents new.fault before h old.disk after new.disk) → CallTells w f.remains f.versions h x.now) → takes old event ≡ true → PagesMove e after w
    restart_goes law h stands f tells is = elim (cases_eq (event % 64) 0) [
      | inl own ↦ (
          let choice : event / 64 ≡ 2 = own_two (event / 64) (subst (λ (z : ℕ). ready_for true (own_choice true old.crew.progress old.crew.script) readies z (event / 64) ≡ true) own (ready in_hand is)) in
          let steps : RestartSteps alive contents new.fault before h old.disk after new.disk =
          subst (λ (z : Option Restart). IfSome z (λ (k : Restart). RestartSteps alive contents new.fault before k old.disk after new.disk)) stands ((taken.own is own).goes (own_number event 2 own choice)) in
          law new.fault before after h old.disk new.disk l w locks steps f (tells steps))
      | inr member ↦ absurd (unready (own_choice true old.crew.progress old.crew.script) readies (event % 64) (event / 64) member (ready in_hand is))
    ]
      where
        in_hand : is_some old.crew.restart ≡ true
        in_hand = ap (λ (z : Option Restart). is_some z) stands

    -- ---- any event
    pub event_goes : RunningGo P directory alive contents count → RestartStepsGo alive contents → IsLawful new.fault → (o : Option Restart) → old.crew.restart ≡ o → (f : PagesAt o d before w) → TellsAt alive contents new.fault before after old.disk new.disk l w o f → PagesMove e after w
    event_goes running law lawful None stands t tells =
        let a : GroupMoves e after w = running old new event l w taken lawful (ap (λ (z : Option Restart). is_some z) stands) locks t tells in
        record { moves = a.moves; world = a.world; run = a.run; stands = by_restart new.crew.restart e after a.world a.begun a.stands }
    event_goes running law lawful (Some h) stands f tells = elim (cases_Bool (takes old event)) [
      | inl is ↦ restart_goes law h stands f tells is
      | inr isnt ↦ unmoved (taken.left isnt) (subst (λ (z : Option Restart). PagesAt z d before w) (sym stands) f)
    ]

  -- ---- what is ready may have been found again before it
  abbrev Told : (why : Option RunFault) (s after : CrewState) (disk left : D) (l : LockWorld) (w : World) (o : Option Restart) → Type 0
  Told why s after disk left l w o = (f : PagesAt o (drive_of alive contents disk) s w) × TellsAt alive contents why s after disk left l w o f

  pub events_go : RunningGo P directory alive contents count → RestartStepsGo alive contents → EventsGo P directory alive contents count
  events_go running law old new event l w fresh lawful locks holds tells = event_goes fresh.mid new event l w fresh.takes (subst (λ (z : CrewState). LocksTied z l) (sym same) locks) running law lawful old.crew.restart (ap (λ (z : CrewState). z.restart) same) told.0 told.1
    where
      after : CrewState
      after = crew_state directory new.crew

      same : crew_state directory fresh.mid.crew ≡ crew_state directory old.crew
      same = looked_state directory old fresh.mid fresh.looked

      told : Told new.fault (crew_state directory fresh.mid.crew) after fresh.mid.disk new.disk l w old.crew.restart
      told =
          subst (λ (z : D). Told new.fault (crew_state directory fresh.mid.crew) after z new.disk l w old.crew.restart) (sym (ap (λ (z : Group D C P). z.disk) fresh.looked.rest))
          (subst (λ (z : CrewState). Told new.fault z after old.disk new.disk l w old.crew.restart) (sym same) (holds, tells))
