-- For what an event may still be refused in a run.
use Rattle.std.proofs.Common.{◌≡◌, ℕ, zero, suc, ◌≤◌, ◌<◌, refl, sym, ◌∙◌, ap, subst, arith, Bool, true, false, inl, inr, List, [], ◌∷◌, length, Option, Some, None, Ok}
use Rattle.std.specs.Prelude.{◌≢◌, ◌-◌, ◌/◌, ◌%◌, not, if◌then◌else◌, IfSome, is_some, map, slice_get}
use Rattle.std.specs.Option.{option_map}
use Rattle.std.proofs.lemmas.Bool.{and_parts, cases_Bool, cases_eq, ltb-true}
use Rattle.std.proofs.lemmas.Option.{slice_get-map}
use Rattle.ds_base.specs.declared.names.Sizes.{Sizes}
use Rattle.ds_disk.specs.Contents.{Contents}
use Rattle.ds_model.specs.declared.script.Script.{Script}
use Rattle.cache_structure.specs.Directory.{Directory}
use Rattle.list_structure.specs.Bells.{CanRing}
use Rattle.member_resources.specs.Events.{World, world_of}
use Rattle.needs_law.specs.Executing.{HasRoom}
use Rattle.restart_marks.specs.declared.intent.RestartSent.{RestartSent}
use Rattle.restart_marks.specs.declared.intent.RestartSent.TheVariants as restart_sent
use Rattle.restart_marks.specs.Needs.{need_of}
use Rattle.restart_resources.specs.Events as restarting
use Rattle.restart_resources.specs.Held as restart
use Rattle.rebuild_resources.specs.declared.intent.RebuildSent.{RebuildSent}
use Rattle.rebuild_resources.specs.declared.intent.RebuildSent.TheVariants as rebuild_sent
use Rattle.rebuild_resources.specs.Needs as needs
use Rattle.rebuild_resources.specs.Events as rebuilding
use Rattle.rebuild_resources.specs.State.{RebuildState}
use Rattle.script_phases.specs.declared.progress.Progress.{Progress}
use Rattle.script_phases.specs.Progresses.{has_groupfail, has_phase, own_choice}
use Rattle.group_member.specs.declared.part.MemberPart.{MemberPart}
use Rattle.group_member.specs.Happening.{as_rebuilding, as_restarting}
use Rattle.group_member.specs.Members.{Member, member_of}
use Rattle.group_member.specs.Refusing.{Adoption, Begin, Bells, Cause, IsBecause, IsRefused, Own, Purge, Rebuild, Restart, Standing}
use Rattle.group_core.specs.Given.{IsRefusedAt, crew_state, is_own, is_ready_in, member_at, ready_at, ready_for}
use Rattle.group_core.specs.declared.fault.RunFault.{RunFault}
use Rattle.group_core.specs.declared.fault.RunFault.TheVariants as fault
use Rattle.group_core.specs.declared.group.Group.{Group}
use Rattle.group_core.specs.Events.{takes}
use Rattle.group_core.specs.Takes.{Takes, TakesMember}
use Rattle.rooms_stay.specs.Left.{RefusalsTell}
use Rattle.rooms_stay.specs.Refused.{IsStillBecause, RefusalsLeave, RestartIsRefusedRest, StillRefused}
use Rattle.rooms_stay.specs.Runs.{IsUnrefused, RoomsStand}
use Rattle.rooms_stay.proofs.OfRebuild.{rebuilds_execute}
use Rattle.rooms_stay.proofs.OfRestart.{restarts_execute}
use Rattle.rooms_stay.proofs.Runs.{runs_have_room, runs_keep}

-- ---- the commands of a restart and of a rebuild
restart_rest : (w v : restarting.World) (h k : restart.Held) → 1 ≤ w.facility.directory.frames → restarting.IsNotExecutable w h v k → RestartIsRefusedRest w.facility h
restart_rest w v h k some r = by r.sent r.lawful r.stopped
  where
    by : (s : RestartSent) → need_of h.marks r.intent ≡ Ok s → restarting.IsStopped w h s v k → RestartIsRefusedRest w.facility h
    by restart_sent.None e stopped = absurd stopped
    by (restart_sent.Command c) e stopped = record { intent = r.intent; command = c; lawful = e; fails = λ left. stopped.0.cannot (restarts_execute w.facility h.marks.member h.marks r.intent c some e left) }
    by restart_sent.LogLength e stopped = absurd stopped
    by (restart_sent.ReadLog at count) e stopped = absurd stopped
    by (restart_sent.CutLog long) e stopped = absurd stopped
    by restart_sent.AppendLog e stopped = absurd stopped
    by (restart_sent.ReadPage page) e stopped = absurd stopped

rebuild_rest : (w v : rebuilding.World) (h k : RebuildState) → rebuilding.IsNotExecutable w h v k → ¬ CanRing w.facility.lists.bells
rebuild_rest w v h k r = by r.sent r.lawful r.stopped
  where
    by : (s : RebuildSent) → needs.need_of h r.intent ≡ Ok s → rebuilding.IsStopped w h s v k → ¬ CanRing w.facility.lists.bells
    by rebuild_sent.None e stopped = absurd stopped
    by (rebuild_sent.Command c) e stopped = λ ring. stopped.0.cannot (rebuilds_execute w.facility h.member h r.intent c e ring)
    by (rebuild_sent.LogLength member) e stopped = absurd stopped
    by (rebuild_sent.ReadLog member at count) e stopped = absurd stopped
    by (rebuild_sent.ReadPage page) e stopped = absurd stopped
    by (rebuild_sent.WritePage page) e stopped = absurd stopped

-- ---- by its cause
still : RefusalsTell → (m : Member) (w v : World) (place : ℕ) → HasRoom w.facility m.holds.marks → 1 ≤ w.facility.directory.frames → (cause : Cause) → IsBecause cause m w place v → IsStillBecause cause m w place v
still law m w v place room some Own b = record { intent = b.intent; keeps = b.keeps; why = elim b.why [ inl test ↦ inl test | inr n ↦ inr (law w v m.holds b.intent place room n) ] }
still law m w v place room some Restart b = record {
  before = b.before;
  had = b.had;
  why = elim b.why [ inl test ↦ inl (test.0, b.after, test.1) | inr n ↦ inr (restart_rest (as_restarting w) (as_restarting v) b.before.resources b.after some n) ];
}
still law m w v place room some Rebuild b = record {
  before = b.before;
  had = b.had;
  why = elim b.why [ inl test ↦ inl (test.0, b.after, test.1) | inr n ↦ inr (rebuild_rest (as_rebuilding w) (as_rebuilding v) b.before.resources b.after n) ];
}
still law m w v place room some Adoption b = b
still law m w v place room some Purge b = b
still law m w v place room some Begin b = b
still law m w v place room some Standing b = b
still law m w v place room some Bells b = b

-- ---- there is a next phase
never : false ≡ true → ⊥
never e = cc

phase_next : (r : Bool) (p : Progress) (script : Script) → is_own (own_choice r p script) 0 ≡ true → has_phase p script ≡ true
phase_next true p script e = absurd (never e)
phase_next false p script e = by p.is_idle (has_groupfail p script) (has_phase p script) e
  where
    by : (a b c : Bool) → is_own (if a then (if b then Some 1 else (if c then Some 0 else None)) else None) 0 ≡ true → c ≡ true
    by true true c e = absurd (never e)
    by true false true e = refl
    by true false false e = absurd (never e)
    by false b c e = absurd (never e)

some_there : {A : Type 0} → (xs : List A) (k : ℕ) → k < length xs → is_some (slice_get xs k) ≡ true
some_there [] k below = absurd (omega (arith, below))
some_there (x ∷ xs) zero below = refl
some_there (x ∷ xs) (suc k) below = some_there xs k (omega (arith, below))

zero_of : (event : ℕ) → event ≡ 0 → event / 64 ≡ 0
zero_of event e = ap (λ z. z / 64) e

-- ---- the member is there
record IsThere {P : Type 0} (o : Option (MemberPart P)) (w v : World) (place : ℕ) : Type 0 where
  pub member : Member
  pub there : option_map member_of o ≡ Some member
  pub refused : IsRefused member w place v

there_is : {P : Type 0} → (o : Option (MemberPart P)) (choice : ℕ) (w v : World) (place : ℕ) → ready_at (option_map (λ (p : MemberPart P). p.ready) o) choice ≡ true → IsRefusedAt (option_map member_of o) w place v → IsThere o w v place
there_is None choice w v place e r = absurd (never e)
there_is (Some p) choice w v place e r = record { member = member_of p; there = refl; refused = r }

one_less : (at : ℕ) → suc at - 1 ≡ at
one_less at = omega arith

ready_member : (restarting : Bool) (own : Option ℕ) (ready : List ℕ) (who choice : ℕ) → who ≢ 0 → ready_for restarting own ready who choice ≡ true → ready_at (slice_get ready (who - 1)) choice ≡ true
ready_member restarting own ready zero choice ne e = absurd (ne refl)
ready_member restarting own ready (suc at) choice ne e = subst (λ z. ready_at (slice_get ready z) choice ≡ true) (sym (one_less at)) (and_parts (not restarting) (ready_at (slice_get ready at) choice) e).1

-- ---- any event
module _ {C D P : Type 0} (directory : C → Directory) (alive : D → Bool) (contents : D → Option Contents) (count : D → ℕ) (law : RefusalsTell) where
  module _ (last next : Group D C P) (event at : ℕ) (taken : Takes directory alive contents count last event next) (unrefused : IsUnrefused last) (is : next.fault ≡ Some (fault.Unlawful at))
      (stand : RoomsStand (crew_state directory last.crew)) (some : 1 ≤ last.crew.sizes.sizes.pool)
      (room : (k : ℕ) → IfSome (slice_get (crew_state directory last.crew).members k) (λ (m : Member). HasRoom (crew_state directory last.crew).facility m.holds.marks)) where
    abbrev place : ℕ
    place = length next.journal.items

    abbrev before : World
    before = world_of directory alive contents last.crew.facility last.disk

    abbrev behind : World
    behind = world_of directory alive contents next.crew.facility next.disk

    -- the event is taken
    is_taken : takes last event ≡ true
    is_taken = elim (cases_Bool (takes last event)) [
      | inl there ↦ there
      | inr isnt ↦ absurd (unrefused at (sym (ap (λ (z : Group D C P). z.fault) (taken.left isnt)) ∙ is))
    ]

    ready : is_ready_in last.crew event ≡ true
    ready = (and_parts (not (is_some last.fault)) (is_ready_in last.crew event) is_taken).1

    own_case : event % 64 ≡ 0 → StillRefused directory alive contents last event at next
    own_case own =
        let e = (taken.own is_taken own).refused at is in
        let begins : is_own (own_choice (is_some last.crew.restart) last.crew.progress last.crew.script) (event / 64) ≡ true =
        subst (λ z. ready_for (is_some last.crew.restart) (own_choice (is_some last.crew.restart) last.crew.progress last.crew.script) (map (λ (p : MemberPart P). p.ready) last.crew.parts.items) z (event / 64) ≡ true) own ready in
        let has : has_phase last.crew.progress last.crew.script ≡ true =
        phase_next (is_some last.crew.restart) last.crew.progress last.crew.script (subst (λ z. is_own (own_choice (is_some last.crew.restart) last.crew.progress last.crew.script) z ≡ true) (zero_of event e.begins) begins) in
        inl (record { phase = some_there last.crew.script.phases last.crew.progress.begun (ltb-true last.crew.progress.begun (length last.crew.script.phases) has); unbegun = e })

    abbrev who : ℕ
    who = event % 64 - 1

    member_of_event : event % 64 ≢ 0 → (why : Option RunFault) → why ≡ Some (fault.Unlawful at) → TakesMember directory alive contents why last.crew last.disk who (event / 64) place taken.failed next.crew next.disk
        → IsRefusedAt (member_at last.crew.parts.items who) before place behind
    member_of_event ne None e t = cc
    member_of_event ne (Some (fault.Damaged volume offset)) e t = cc
    member_of_event ne (Some (fault.Unlawful refused)) e t = t.cause
    member_of_event ne (Some fault.Failed) e t = absurd t
    member_of_event ne (Some fault.NoMemory) e t = absurd t

    member_case : event % 64 ≢ 0 → StillRefused directory alive contents last event at next
    member_case ne =
        let there : IsThere (slice_get last.crew.parts.items who) before behind place =
        there_is (slice_get last.crew.parts.items who) (event / 64) before behind place
        (subst (λ z. ready_at z (event / 64) ≡ true) (slice_get-map (λ (p : MemberPart P). p.ready) last.crew.parts.items who)
        (ready_member (is_some last.crew.restart) (own_choice (is_some last.crew.restart) last.crew.progress last.crew.script) (map (λ (p : MemberPart P). p.ready) last.crew.parts.items) (event % 64) (event / 64) ne ready))
        (member_of_event ne next.fault is (taken.member is_taken ne)) in
        let here : slice_get (crew_state directory last.crew).members who ≡ Some there.member = slice_get-map member_of last.crew.parts.items who ∙ there.there in
        inr (record {
          member = there.member;
          there = here;
          cause = there.refused.cause;
          because = still law there.member before behind place
              (subst (λ (z : Option Member). IfSome z (λ (m : Member). HasRoom (crew_state directory last.crew).facility m.holds.marks)) here (room who))
              (subst (λ z. 1 ≤ z) (sym stand.frames) some) there.refused.cause there.refused.because;
        })

    still_refused : StillRefused directory alive contents last event at next
    still_refused = elim (cases_eq (event % 64) 0) [ inl own ↦ own_case own | inr ne ↦ member_case ne ]

pub refusals_leave : {C D : Type 0} → (P : Type 0) (directory : C → Directory) (alive : D → Bool) (contents : D → Option Contents) (count : D → ℕ) → RefusalsTell → RefusalsLeave P directory alive contents count
refusals_leave {C} {D} P directory alive contents count law first events last event at next fresh few some runs unrefused taken is =
    let kept = runs_keep P directory alive contents count first events last fresh runs unrefused in
    still_refused directory alive contents count law last next event at taken unrefused is kept.0 (subst (λ (z : Sizes). 1 ≤ z.pool) (sym kept.1) some)
    (runs_have_room P directory alive contents count first events last fresh few runs unrefused)
