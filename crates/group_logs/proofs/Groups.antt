-- The logs behind any event of a group.
use Rattle.std.proofs.Common.{◌≡◌, ℕ, zero, suc, ◌+◌, ◌≤◌, refl, sym, ◌∙◌, ap, subst, arith, Bool, true, false, inl, inr, length, Option, Some, None}
use Rattle.std.specs.Prelude.{◌≢◌, ◌-◌, ◌/◌, ◌%◌, IfSome, slice_get}
use Rattle.std.proofs.lemmas.Bool.{cases_Bool, cases_eq}
use Rattle.std.proofs.lemmas.Option.{slice_get-map}
use Rattle.ds_disk.specs.Contents.{Becomes, Contents}
use Rattle.cache_structure.specs.Directory.{Directory}
use Rattle.member_resources.specs.Events.{World, world_of}
use Rattle.group_member.specs.declared.stepped.Stepped.TheVariants as steps
use Rattle.group_member.specs.Members.{Member, member_of}
use Rattle.group_core.specs.Given.{ComesAt, member_at}
use Rattle.group_core.specs.Given.{CrewState, crew_state}
use Rattle.group_core.specs.declared.fault.RunFault.{RunFault}
use Rattle.group_core.specs.declared.fault.RunFault.TheVariants as fault
use Rattle.group_core.specs.declared.group.Group.{Group}
use Rattle.group_core.specs.Events.{takes}
use Rattle.group_core.specs.Takes.{IsMade, TakesMember}
use Rattle.group_logs.specs.Changes.{AreNumbered, LogsChangeBy, LogsGo, MemberLogs, MembersGo}
use Rattle.group_logs.specs.Logs.{IsNumbered, LogGoes, OneGoes}
use Rattle.group_logs.proofs.Calls.{becomes, same_goes, unmoved}

above_zero : (n : ℕ) → n ≢ 0 → 1 ≤ n
above_zero zero ne = absurd (ne refl)
above_zero (suc n) ne = omega arith

nothing_logged : (o : Option Member) (number : ℕ) (c : Contents) → MemberLogs o number c c
nothing_logged None number c = refl
nothing_logged (Some m) number c = (steps.Failed, same_goes number (LogGoes m steps.Failed) c c refl (λ log. refl))

pub logs_go : {C D : Type 0} → (P : Type 0) (directory : C → Directory) (alive : D → Bool) (contents : D → Option Contents) (count : D → ℕ) → MembersGo → LogsGo P directory alive contents count
logs_go {C} {D} P directory alive contents count law old new event taken no_restart lawful numbered = elim (cases_Bool (takes old event)) [
  | inr isnt ↦ same (ap (λ (z : Group D C P). contents z.disk) (taken.left isnt))
  | inl is ↦ elim (cases_eq (event % 64) 0) [
    | inl own ↦ same (ap contents ((taken.own is own).still no_restart))
    | inr member ↦ member_takes member new.fault refl (taken.member is member)
  ]
]
  where
    before : CrewState
    before = crew_state directory old.crew

    after : CrewState
    after = crew_state directory new.crew

    same : contents new.disk ≡ contents old.disk → Becomes (contents old.disk) (contents new.disk) (LogsChangeBy event before)
    same e = unmoved (contents old.disk) (contents new.disk) (LogsChangeBy event before) e
        (λ c. record { group = λ own. refl; member = λ member. nothing_logged (slice_get before.members (event % 64 - 1)) (event % 64) c })

    at : ℕ
    at = event % 64 - 1

    member_goes : event % 64 ≢ 0 → IsMade directory alive contents old.crew old.disk at (event / 64) (length new.journal.items) taken.failed new.crew new.disk → Becomes (contents old.disk) (contents new.disk) (LogsChangeBy event before)
    member_goes member e = by (member_at old.crew.parts.items at) (member_at new.crew.parts.items at) (slice_get-map member_of old.crew.parts.items at) e.steps.comes
      where
        u : World
        u = world_of directory alive contents old.crew.facility old.disk

        v : World
        v = world_of directory alive contents new.crew.facility new.disk

        by : (x y : Option Member) → slice_get before.members at ≡ x → ComesAt old.crew.script old.crew.progress.begun old.crew.sizes.sizes (event / 64) x u before.fates (length new.journal.items) e.stepped y v after.fates → Becomes (contents old.disk) (contents new.disk) (LogsChangeBy event before)
        by None y had c = absurd c
        by (Some m) None had c = absurd c
        by (Some m) (Some n) had c = becomes (contents old.disk) (contents new.disk) (OneGoes (event % 64) (LogGoes m e.stepped)) (LogsChangeBy event before)
            (λ x y goes. record { group = λ own. absurd (member own); member = λ ne. subst (λ (z : Option Member). MemberLogs z (event % 64) x y) (sym had) (e.stepped, goes) })
            (law old.crew.script old.crew.progress.begun old.crew.sizes.sizes (event / 64) (event % 64) m n u v before.fates after.fates (length new.journal.items) e.stepped c (above_zero (event % 64) member) number)
          where
            there : at + 1 ≡ event % 64
            there = let one = above_zero (event % 64) member in omega (arith, one)

            number : IsNumbered (event % 64) m
            number = subst (λ (z : ℕ). IsNumbered z m) there (subst (λ (z : Option Member). IfSome z (IsNumbered (at + 1))) had (numbered at))

    member_takes : event % 64 ≢ 0 → (why : Option RunFault) → new.fault ≡ why → TakesMember directory alive contents why old.crew old.disk at (event / 64) (length new.journal.items) taken.failed new.crew new.disk → Becomes (contents old.disk) (contents new.disk) (LogsChangeBy event before)
    member_takes member None left e = member_goes member e
    member_takes member (Some (fault.Damaged volume offset)) left e = member_goes member e
    member_takes member (Some (fault.Unlawful refused)) left e = absurd (lawful refused left)
    member_takes member (Some fault.Failed) left e = absurd e
    member_takes member (Some fault.NoMemory) left e = absurd e
