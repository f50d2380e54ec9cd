-- The other events of a member whose restart is in hand.
use Rattle.std.proofs.Common.{◌≡◌, ◌≢◌, ℕ, ◌+◌, ◌≤◌, refl, sym, ◌∙◌, ap, subst, arith, true, false, inl, inr, List, Option, Some, None}
use Rattle.std.specs.Prelude.{◌⊎◌, IfSome, is_some, slice_get}
use Rattle.std.proofs.lemmas.Bool.{cases_Bool}
use Rattle.ds_model.specs.declared.lock.Name.{Name}
use Rattle.lock_names.specs.Given.name_variants as name
use Rattle.list_structure.specs.declared.standing.MemberStatus.{MemberStatus}
use Rattle.list_structure.specs.declared.standing.MemberStatus.TheVariants.{Restarting, Up}
use Rattle.list_structure.specs.Standings.{is_live, status_of}
use Rattle.facility.specs.declared.command.Command.{Command}
use Rattle.facility.specs.declared.command.Command.TheVariants as command
use Rattle.facility.specs.States.{Held as Facility}
use Rattle.member_intents.specs.declared.outcome.Answered.{Answered}
use Rattle.member_intents.specs.declared.outcome.Answered.TheVariants as answered
use Rattle.member_intents.specs.declared.outcome.Sent.{Sent}
use Rattle.group_pages.specs.Given.{Acts, Begins, CastLeads, CastsGo, CommandsStay, Group, GroupGoes, HasCast, Held, InPages, IsBare, IsListing, IsRestarting, IsUndrawn, LeavesMember, LocksTied, Member, MemberStands, OwnsRestarting, PagesStay, RebuildSent, RebuildsGo, Resources, RestartHeld, RestartHolds, RestartInHand, RestartStands, RestartState, RestingStepsAt, RestsBare, RestsKeepCast, RestsLeave, SameCast, SameOthers, SendsLawfully, Shows, StageCasts, StageStays, Stepped, Steps, UndrawnCasts, cast_of, casts_out, is_failure, is_over, is_restart}
use Rattle.group_pages.specs.Given.stepped_variants as steps
use Rattle.group_core.specs.Given.{CrewState}
use Rattle.lock_protocol.specs.Machine.{World as LockWorld}
use Rattle.page_protocol.specs.Moves.{Move, Run, World}
use Rattle.page_world.specs.Holdings.{Holdings, KeepsPages, with_facility}
use Rattle.page_world.specs.Numbers.{page_at, set_of}
use Rattle.retained_pages.specs.Retained.{CommandsRetain, CommandsSpare, KeepsOwn, Retains, SparesOthers}
use Rattle.group_pages.specs.Events.{PageMoves}
use Rattle.page_recoveries.specs.Resting.{RestTells, RestingStepsGo}
use Rattle.group_pages.specs.Stands.{CrewPages, HoldsPages, IsUnread, MemberPages, RestartPages}
use Rattle.group_pages.proofs.Carry.{all_named, assembled, placed}
use Rattle.group_pages.proofs.Carry as carrying
use Rattle.group_pages.specs.Members.{LogsLead}
use Rattle.group_pages.proofs.Members.{unfailed}
use Rattle.group_pages.proofs.Rebuilds.{RebuildLeft, ToldBehind, rebuilt, told_behind}
use Rattle.group_pages.proofs.Sent.{KeepsRecords, keeps_records, spares_event}
use Rattle.group_pages.proofs.Up.{apart_at, numbered, pages_at, stood_at}

pub record Facts : Type 0 where
  pub carry : carrying.Facts
  pub stays : StageStays
  pub leave : RestsLeave
  pub bare : RestsBare
  pub keep : RestsKeepCast
  pub casts : CastsGo
  pub stage_casts : StageCasts
  pub undrawn : UndrawnCasts
  pub lawful : SendsLawfully
  pub retain : CommandsRetain
  pub spare : CommandsSpare
  pub rebuild : RebuildsGo
  pub quiet : CommandsStay

-- ---- the restart beside its good world, and what it is without
pub in_pages : (w : World) (u : Resources) (g : Holdings) (content : ℕ → ℕ → List ℕ) (forced : ℕ → ℕ) (h : RestartHolds) → Group w g content forced → g.facility ≡ u.facility → Shows u.drive g.disk → RestartPages g forced h → InPages w u g content forced h
in_pages w u g content forced h group facility drive r = by r.stage
  where
    begins : Begins w g content forced h
    begins = record { good = group.good; tied = group.tied; numbered = group.numbered; sound = group.sound; restarts = r.restarts }

    by : IsUnread g h.marks ⊎ (h.marks.own.is_read ≡ true) → InPages w u g content forced h
    by (inl x) = inl (record { begins = begins; facility = facility; drive = drive; level = x.level; unread = x.unread; rest = x.rest })
    by (inr e) = inr (record { begins = begins; facility = facility; drive = drive; read = e })

-- a group with the restart, which stands so
pub record StandsApart (w : World) (u : Resources) (g : Holdings) (content : ℕ → ℕ → List ℕ) (forced : ℕ → ℕ) (h : RestartHolds) : Type 0 where
  pub group : Group w g content forced
  pub facility : g.facility ≡ u.facility
  pub drive : Shows u.drive g.disk
  pub restarts : IsRestarting g forced h
  pub stage : IsUnread g h.marks ⊎ (h.marks.own.is_read ≡ true)

pub parts_of : (w : World) (u : Resources) (g : Holdings) (content : ℕ → ℕ → List ℕ) (forced : ℕ → ℕ) (h : RestartHolds) → InPages w u g content forced h → StandsApart w u g content forced h
parts_of w u g content forced h (inl r) = record {
  group = record { good = r.begins.good; tied = r.begins.tied; numbered = r.begins.numbered; sound = r.begins.sound };
  facility = r.facility;
  drive = r.drive;
  restarts = r.begins.restarts;
  stage = inl (record { level = r.level; unread = r.unread; rest = r.rest });
}
parts_of w u g content forced h (inr r) = record {
  group = record { good = r.begins.good; tied = r.begins.tied; numbered = r.begins.numbered; sound = r.begins.sound };
  facility = r.facility;
  drive = r.drive;
  restarts = r.begins.restarts;
  stage = inr r.read;
}

-- ---- the member's own event leaves its retained locks
retained_still : (f v : Facility) (owner : ℕ → Option ℕ) (s : RestartState) → KeepsRecords f v s.member → OwnsRestarting f owner s → OwnsRestarting v owner s
retained_still f v owner s keeps o = record { claimed = o.claimed; retained = λ n e. by n (o.retained n e) }
  where
    by : (n : ℕ) → (s.claim ≡ Some (page_at n)) ⊎ Retains f s.member (page_at n) → (s.claim ≡ Some (page_at n)) ⊎ Retains v s.member (page_at n)
    by n (inl e) = inl e
    by n (inr r) = inr (keeps.retains (page_at n) r)

listed_still : (f v : Facility) (s : RestartState) → (v ≡ f) ⊎ ((c : Command) × KeepsOwn f v s.member c × ((n : Name) → c ≢ command.Purge n)) → IsListing f s → IsListing v s
listed_still f v s (inl e) x = subst (λ (z : Facility). IsListing z s) (sym e) x
listed_still f v s (inr y) x = record {
  known = λ i p listed lt e. x.known i p listed lt (ap (λ (z : List Name). slice_get z i) (sym (y.1.names y.2)) ∙ e);
  all = λ p listed e. x.all p listed (y.1.retained (name.Page p) e);
  hand = x.hand;
}

-- ---- what a member holds whose restart is still in hand
both_up : (s : MemberStatus) → s ≡ Restarting → s ≡ Up → ⊥
both_up s a b = cc

pub live_restarting : (s : MemberStatus) → s ≡ Restarting → is_live s ≡ false → ⊥
live_restarting s a b = let live : is_live s ≡ true = ap is_live a in let never : true ≡ false = sym live ∙ b in cc

pub holds_restarting : (g : Holdings) (forced : ℕ → ℕ) (k : ℕ) (h : Held) (r : Option RestartHeld) → status_of g.facility.lists.statuses k ≡ Restarting → IfSome r (λ (q : RestartHeld). RestartPages g forced q.resources) → IsBare h → HasCast g k h.cast h.buffer → HoldsPages g forced k h r
holds_restarting g forced k h r is pages bare cast = record {
  up = λ e. absurd (both_up (status_of g.facility.lists.statuses k) is e);
  restarts = λ _. (pages, bare, cast);
  down = λ e. absurd (live_restarting (status_of g.facility.lists.statuses k) is e);
}

pub cast_as : (g : Holdings) (m : ℕ) (h k : Held) → SameCast h k → HasCast g m h.cast h.buffer → HasCast g m k.cast k.buffer
cast_as g m h k same has n = has n ∙ sym (ap (λ z. cast_of z h.buffer n) same.cast) ∙ sym (ap (λ z. cast_of k.cast z n) same.buffer)

some_of : {A : Type 0} → (o : Option A) → is_some o ≡ true → (x : A) × (o ≡ Some x)
some_of None e = absurd (never e)
  where
    never : false ≡ true → ⊥
    never e = cc e
some_of (Some x) e = (x, refl)

module _ (facts : Facts) (old new : CrewState) (at : ℕ) (m n : Member) (l : LockWorld) (w : World) (g : Holdings) (content : ℕ → ℕ → List ℕ) (forced : ℕ → ℕ) (t : LocksTied old l) (e : RestingStepsAt old new at m n) (p : CrewPages e.drive old.facility old.members w g content forced) where
  abbrev u : Resources
  u = record { facility = old.facility; drive = e.drive }

  abbrev v : Resources
  v = record { facility = new.facility; drive = e.left }

  stood : MemberStands old.facility (at + 1) m
  stood = stood_at old l at m t e.had

  held : MemberPages g forced (at + 1) m
  held = pages_at g forced old.members at m p.members e.had

  status : status_of g.facility.lists.statuses (at + 1) ≡ Restarting
  status = ap (λ (z : Facility). status_of z.lists.statuses (at + 1)) p.facility ∙ ap (λ z. status_of old.facility.lists.statuses z) (sym stood.id) ∙ e.restarting

  some_restart : is_some m.restart ≡ true
  some_restart = stood.restarts (ap (λ z. status_of old.facility.lists.statuses z) (sym stood.id) ∙ e.restarting)

  abbrev q : RestartHeld
  q = (some_of m.restart some_restart).0

  had : m.restart ≡ Some q
  had = (some_of m.restart some_restart).1

  hand : RestartStands (at + 1) m q.resources.marks
  hand = subst (λ (z : Option RestartHeld). RestartInHand (at + 1) m z) had stood.restart

  pages : RestartPages g forced q.resources
  pages = subst (λ (z : Option RestartHeld). IfSome z (λ (x : RestartHeld). RestartPages g forced x.resources)) had (held.restarts status).0

  bare : IsBare n.holds
  bare = facts.bare m n u v old.fates new.fates e.place e.stepped some_restart e.made (held.restarts status).1

  among : at + 1 ≤ g.facility.lists.members
  among = subst (λ (z : Facility). at + 1 ≤ z.lists.members) (sym p.facility) (numbered old.members at old.facility.lists.members m e.had t.count)

  -- the group behind it
  behind : (world : World) (moves : List Move) → Run set_of w moves world → (left : Holdings) → Group world left content forced → left.facility ≡ new.facility → Shows e.left left.disk → SameOthers g left forced forced (at + 1) → left.owner ≡ g.owner
      → SparesOthers g.facility left.facility (at + 1) → MemberPages left forced (at + 1) n → PageMoves e.left new w
  behind world moves run left group facility drive same owner spares here = record {
    moves = moves;
    world = world;
    run = run;
    tied = record {
      holdings = left;
      versions = content;
      forced = forced;
      pages = assembled facts.carry e.drive e.left old.facility new.facility old.members new.members at (at + 1) n w world g left content content forced forced (all_named old.facility old.members t.stands) p
          group facility drive same spares (λ j ne. apart_at j at ne) e.has e.others
          (λ j k x. owned j k (p.owned j k (sym (ap (λ f. f j) owner) ∙ x))) here;
    };
  }
    where
      owned : (j k : ℕ) → (1 ≤ k) × (k ≤ g.facility.lists.members) → (1 ≤ k) × (k ≤ left.facility.lists.members)
      owned j k y = (y.0, subst (λ z. k ≤ z) (sym same.members) y.1)

  restart_there : (left : Holdings) → n.restart ≡ m.restart → RestartPages left forced q.resources → IfSome n.restart (λ (x : RestartHeld). RestartPages left forced x.resources)
  restart_there left same r = subst (λ (z : Option RestartHeld). IfSome z (λ (x : RestartHeld). RestartPages left forced x.resources)) (sym (same ∙ had)) r

  -- ---- its own event
  module _ (s : Sent) (a : Answered) (made : Steps m u old.fates e.place (steps.Sent s a) n v new.fates) (unfailed : is_failure a ≡ false) where
    abbrev acts : Acts m u e.place s a v made.mid
    acts = made.makes

    same_restart : n.restart ≡ m.restart
    same_restart = ap (λ (z : Member). z.restart) made.enters.member ∙ ap (λ (z : Member). z.restart) acts.member

    spares : SparesOthers old.facility new.facility (at + 1)
    spares = subst (λ z. SparesOthers old.facility new.facility z) stood.member (spares_event facts.spare u v m.holds acts.after acts.intent e.place s a acts.happens)

    named : m.holds.marks.member ≡ q.resources.marks.member
    named = stood.member ∙ sym hand.member

    keeps : KeepsRecords old.facility new.facility q.resources.marks.member
    keeps = subst (λ z. KeepsRecords old.facility new.facility z) named
        (keeps_records facts.retain facts.spare facts.lawful u v m.holds acts.after acts.intent e.place s a (acts.rests some_restart) (acts.leaves some_restart) acts.happens)

    -- the restart beside what is left, which has the owners that there were
    behind_it : (world : World) (moves : List Move) → Run set_of w moves world → (left : Holdings) → InPages world v left content forced q.resources → SameOthers g left forced forced q.resources.marks.member → left.owner ≡ g.owner
        → IsUndrawn left q.resources.marks → HasCast left (at + 1) n.holds.cast n.holds.buffer → PageMoves e.left new w
    behind_it world moves run left stage same owner undrawn cast = behind world moves run left now.group now.facility now.drive (subst (λ z. SameOthers g left forced forced z) hand.member same) owner
        (subst (λ (z : Facility). SparesOthers g.facility z (at + 1)) (sym now.facility) (subst (λ (z : Facility). SparesOthers z new.facility (at + 1)) (sym p.facility) spares))
        (holds_restarting left forced (at + 1) n.holds n.restart (subst (λ z. status_of left.facility.lists.statuses z ≡ Restarting) hand.member now.restarts.restarts)
        (restart_there left same_restart (record { restarts = now.restarts; stage = now.stage; owns = owns; lists = lists; undrawn = undrawn })) bare cast)
      where
        now : StandsApart world v left content forced q.resources
        now = parts_of world v left content forced q.resources stage

        owns : OwnsRestarting left.facility left.owner q.resources.marks
        owns = subst (λ (z : Facility). OwnsRestarting z left.owner q.resources.marks) (sym now.facility) (subst (λ o. OwnsRestarting new.facility o q.resources.marks) (sym owner)
            (retained_still old.facility new.facility g.owner q.resources.marks keeps (subst (λ (z : Facility). OwnsRestarting z g.owner q.resources.marks) p.facility pages.owns)))

        lists : IsListing left.facility q.resources.marks
        lists = subst (λ (z : Facility). IsListing z q.resources.marks) (sym now.facility) (listed_still old.facility new.facility q.resources.marks keeps.own (subst (λ (z : Facility). IsListing z q.resources.marks) p.facility pages.lists))

    stage_before : InPages w u g content forced q.resources
    stage_before = in_pages w u g content forced q.resources p.group p.facility p.drive pages

    cast_before : HasCast g (at + 1) m.holds.cast m.holds.buffer
    cast_before = (held.restarts status).2

    -- not of a castout
    quietly : casts_out acts.intent ≡ false → PageMoves e.left new w
    quietly uncast = behind_it stays.world stays.moves stays.run (with_facility g new.facility) stays.pages stays.others refl (record { keyed = pages.undrawn.keyed; level = pages.undrawn.level })
        (cast_as (with_facility g new.facility) (at + 1) m.holds n.holds (facts.keep m n u v old.fates new.fates e.place (steps.Sent s a) some_restart made uncast) cast_before)
      where
        leaves : KeepsPages old.facility new.facility × (e.left ≡ e.drive)
        leaves = facts.leave m made.mid u v e.place s a some_restart acts uncast

        stays : PagesStay w v g content forced q.resources
        stays = facts.stays w u v g content forced q.resources stage_before leaves.0 leaves.1

    -- of a castout
    castout : casts_out acts.intent ≡ true → PageMoves e.left new w
    castout so = behind_it goes.world goes.moves goes.run out.left (facts.stage_casts w u v g out.left content forced q.resources stage_before goes own out.facility out.drive) goes.others own.owner (facts.undrawn g out.left q.resources.marks own pages.undrawn) cast
      where
        works : a ≢ answered.Failed
        works is = let failed : is_failure a ≡ true = ap is_failure is in let never : true ≡ false = sym failed ∙ unfailed in cc

        out : CastLeads w v g content forced m.holds made.mid.holds
        out = facts.casts w g content forced m made.mid u v e.place s a p.group p.facility p.drive (subst (λ z. HasCast g z m.holds.cast m.holds.buffer) (sym stood.member) cast_before) acts so works

        goes : GroupGoes w g out.left content forced q.resources.marks.member
        goes = subst (λ z. GroupGoes w g out.left content forced z) named out.goes

        own : LeavesMember g out.left q.resources.marks.member
        own = subst (λ z. LeavesMember g out.left z) named out.own

        -- what it is told of its transactions leaves that
        cast : HasCast out.left (at + 1) n.holds.cast n.holds.buffer
        cast = cast_as out.left (at + 1) made.mid.holds n.holds (record { cast = ap (λ (z : Member). z.holds.cast) made.enters.member; buffer = ap (λ (z : Member). z.holds.buffer) made.enters.member })
            (subst (λ z. HasCast out.left z made.mid.holds.cast made.mid.holds.buffer) stood.member out.cast)

    acts_go : PageMoves e.left new w
    acts_go = elim (cases_Bool (casts_out acts.intent)) [
      | inl casts ↦ castout casts
      | inr uncast ↦ quietly uncast
    ]

  -- ---- the event of its rebuild
  module _ (s : RebuildSent) (a : Answered) (made : Steps m u old.fates e.place (steps.Rebuild s a) n v new.fates) (unfailed : is_failure a ≡ false) (lead : LogsLead w g content made.makes.makes.before.resources s) where
    now : RebuildLeft e.left new.facility old.members w g content forced
    now = rebuilt facts.rebuild facts.quiet facts.carry u v old.members w g content forced made.makes.makes.before.resources made.makes.reached.resources s a (all_named old.facility old.members t.stands) p made.makes.makes.happens unfailed lead

    back : ToldBehind m e.place n
    back = told_behind m made.mid n e.place made.makes.reached (is_failure a) old.fates new.fates unfailed made.makes.ends made.enters

    held_now : MemberPages now.left forced (at + 1) m
    held_now = pages_at now.left forced old.members at m now.pages.members e.had

    restarting : status_of now.left.facility.lists.statuses (at + 1) ≡ Restarting
    restarting = now.statuses (at + 1) (omega arith) ∙ status

    here : MemberPages now.left forced (at + 1) n
    here = holds_restarting now.left forced (at + 1) n.holds n.restart restarting
        (subst (λ (z : Option RestartHeld). IfSome z (λ (x : RestartHeld). RestartPages now.left forced x.resources)) (sym back.restart) (held_now.restarts restarting).0) bare
        (cast_as now.left (at + 1) m.holds n.holds (facts.keep m n u v old.fates new.fates e.place (steps.Rebuild s a) some_restart made tt) (held_now.restarts restarting).2)

    rebuilds_go : PageMoves e.left new w
    rebuilds_go = record {
      moves = now.moves;
      world = now.world;
      run = now.run;
      tied = record {
        holdings = now.left;
        versions = content;
        forced = forced;
        pages = placed e.left new.facility old.members new.members at n now.world now.left content forced now.pages e.has e.others here;
      };
    }

  by : (stepped : Stepped) (made : Steps m u old.fates e.place stepped n v new.fates) → is_restart stepped ≡ false → is_over stepped ≡ false → RestTells w g content m u e.place stepped v made.mid made.makes → PageMoves e.left new w
  by (steps.Sent s a) made other over tells = acts_go s a made (unfailed (is_failure a) over)
  by (steps.Restart s a) made other over tells = absurd (no_restart other)
    where
      no_restart : true ≡ false → ⊥
      no_restart e = cc e
  by (steps.Rebuild s a) made other over tells = rebuilds_go s a made (unfailed (is_failure a) over) tells
  by steps.Failed made other over tells = absurd made.makes

pub resting_steps : Facts → RestingStepsGo
resting_steps facts old new at m n l w locks e over t tells = by facts old new at m n l w t.holdings t.versions t.forced locks e t.pages e.stepped e.made e.other over tells
