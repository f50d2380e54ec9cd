-- Any event of a restart, whether it reads its log yet or has read it.
use Rattle.std.proofs.Common.{◌≡◌, ◌≢◌, ℕ, refl, sym, subst, ◌∙◌, inl, inr, List, Ok, Err}
use Rattle.cache_structure.specs.Sound.{IsSound}
use Rattle.facility.specs.States.{Held as Facility}
use Rattle.member_intents.specs.declared.outcome.Answered.{Answered}
use Rattle.member_resources.specs.Events.{World as Outside}
use Rattle.restart_records.specs.Own.{OwnState}
use Rattle.restart_marks.specs.declared.intent.RestartIntent.TheVariants as intent
use Rattle.restart_marks.specs.declared.intent.RestartSent.{RestartSent}
use Rattle.restart_marks.specs.declared.intent.RestartTest.TheVariants as test
use Rattle.restart_marks.specs.Needs.{need_of}
use Rattle.restart_marks.specs.State.{RestartState}
use Rattle.restart_resources.specs.Events.{Happens}
use Rattle.restart_resources.specs.Held.{Held}
use Rattle.lock_protocol.specs.Machine.{World as LockWorld}
use Rattle.lock_world.specs.Tied.{Claims}
use Rattle.lock_restarts.specs.Stands.{Goes, Leads, OwnClaims}
use Rattle.lock_restarts.specs.Changes.{gone_by}
use Rattle.page_protocol.specs.Moves.{World}
use Rattle.page_protocol.specs.Always.{AlwaysGood}
use Rattle.page_world.specs.Holdings.{Holdings, KeepsPages, with_facility}
use Rattle.page_world.specs.Numbers.{set_of}
use Rattle.page_restarts.specs.Beside.{GroupGoes, LeavesMember, OwnRestarts, Shows, as_restarting}
use Rattle.page_restarts.specs.Locks.{StayGoes}
use Rattle.page_restarts.specs.Stands.{Begins, Goes as PageGoes, SameHand}
use Rattle.page_restarts.specs.Events.{IsOver, Owns}
use Rattle.page_restarts.specs.Reading.{IsReading, ReadingBegins, ReadingGoes, ReadingLeads, ReadingOwns, reading}
use Rattle.page_restarts.proofs.Leading.{others_facility, standings_of}
use Rattle.page_restarts.proofs.Needs.{err_ok}
use Rattle.restart_owners.specs.Ends.{EndsGo}
use Rattle.restart_owners.specs.Events.{BothRestart, EventsGo}
use Rattle.restart_owners.specs.Owners.{RestartsBegin}
use Rattle.restart_owners.specs.Stages.{InBoth, InPages, StageBegins, StageCasts, StageEnds, StageGoes, StageLeads, StageStays, StageTells, StagesGo}
use Rattle.restart_owners.proofs.Going.{Known, stage_goes, staged}

pub record Facts : Type 0 where
  pub known : Known
  pub reading : ReadingGoes
  pub still : ReadingOwns
  pub read : EventsGo

-- ---- it begins
pub stage_begins : ReadingBegins → RestartsBegin → StageBegins
stage_begins reads owns w l u g content forced held own m h group left facility drive new sound tied restarts knows failed = record {
  pages = inl (reads w u g content forced m h group left facility drive new);
  sound = sound;
  tied = tied;
  restarts = restarts;
  knows = knows;
  owners = failed.owners;
  owns = owns u.facility g.owner m h.marks new.marks failed.own;
}

-- ---- while it reads its log
read_on : (w : World) (v : Outside) (g : Holdings) (content : ℕ → ℕ → List ℕ) (forced : ℕ → ℕ) (h k : Held) (s : RestartSent) (a : Answered)
    → ReadingLeads w v g content forced h k → Owns g.owner g.owner h.marks.member s a → StageLeads w v g content forced h k s a
read_on w v g content forced h k s a e o = record {
  moves = e.moves;
  world = e.world;
  run = e.run;
  left = e.left;
  versions = content;
  force = e.force;
  pages = e.stands;
  same = e.same;
  others = e.others;
  owns = subst (λ z. Owns g.owner z h.marks.member s a) (sym e.owner) o;
  kept = λ n i l. refl;
  casts = e.casts;
  level = λ _ _. sym e.level;
}

-- ---- at either stage
module _ (facts : Facts) (w : World) (l : LockWorld) (u v : Outside) (g : Holdings) (content : ℕ → ℕ → List ℕ) (forced : ℕ → ℕ) (held left : Claims) (own : OwnClaims) (h k : Held) (s : RestartSent) (a : Answered)
    (b : InBoth w l u g content forced held own h) (happens : Happens (as_restarting u) h s a (as_restarting v) k) (up : happens.intent ≢ intent.Up) (tells : StageTells w u v g content forced h k s a happens)
    (leads : Leads held left own h.marks k.marks) (locked : Goes l u.facility v.facility left h.marks.member (gone_by s)) where
  led_by : StageLeads w v g content forced h k s a → StageGoes w l u v g content forced left own h k s a
  led_by paged = stage_goes facts.known w l u v g content forced held left own h k s a b happens leads paged locked

  reads : IsReading w u g content forced h → StageLeads w v g content forced h k s a
  reads r =
      let t = tells.reading r.unread in
      read_on w v g content forced h k s a (facts.reading w u v g content forced h k s a r happens t.works t.whole) (facts.still (as_restarting u) (as_restarting v) h k s a g.owner r.rest r.unread happens)

pub stages_go : Facts → StagesGo
stages_go facts w l u v g content forced held left own h k s a b happens up tells frees leads = by b.pages
  where
    locked : Goes l u.facility v.facility left h.marks.member (gone_by s)
    locked = facts.known.locks l (as_restarting u) (as_restarting v) held left own h k s a b.tied b.restarts b.knows frees happens leads

    by : InPages w u g content forced h → StageGoes w l u v g content forced left own h k s a
    by (inl r) = led_by facts w l u v g content forced held left own h k s a b happens up tells leads locked (reads facts w l u v g content forced held left own h k s a b happens up tells leads locked r)
    by (inr x) =
        let both : BothRestart w l u g content forced held own h = record { pages = x; sound = b.sound; tied = b.tied; restarts = b.restarts; knows = b.knows; owners = b.owners; owns = b.owns } in
        let paged = (facts.read w l u v g content forced held left own h k s a both happens up (tells.read x.read) frees leads).pages in
        led_by facts w l u v g content forced held left own h k s a b happens up tells leads locked (staged w v g content forced h k s a paged)

-- ---- an event that changes nothing of the pages
itself : (h : Held) → SameHand h h
itself h = record { member = refl; log = refl; page = refl; copy = refl; last = refl }

still_begins : AlwaysGood → (w : World) (v : Facility) (g : Holdings) (content : ℕ → ℕ → List ℕ) (forced : ℕ → ℕ) (h : Held) → Begins w g content forced h → KeepsPages g.facility v
    → (goes : PageGoes w content forced (with_facility g v) h h) → Begins goes.moved.world (with_facility g v) content forced h
still_begins good w v g content forced h b keeps goes = record {
  good = good set_of goes.moves w goes.moved.world b.good goes.moved.run;
  tied = goes.moved.tied;
  numbered = goes.numbered;
  sound = subst (λ z. IsSound z) (sym keeps.directory) b.sound;
  restarts = goes.stands;
}

pub stage_stays : AlwaysGood → StayGoes → StageStays
stage_stays good stay w u v g content forced h (inl r) keeps drive =
    let now : KeepsPages g.facility v.facility = subst (λ (f : Facility). KeepsPages f v.facility) (sym r.facility) keeps in
    let goes : PageGoes w content forced (with_facility g v.facility) h h = stay w g content forced h h v.facility r.begins now (itself h) in
    record {
      moves = goes.moves;
      world = goes.moved.world;
      run = goes.moved.run;
      pages = inl (record {
        begins = still_begins good w v.facility g content forced h r.begins now goes;
        facility = refl;
        drive = subst (λ z. Shows z g.disk) (sym drive) r.drive;
        level = r.level;
        unread = r.unread;
        rest = r.rest;
      });
      others = others_facility g v.facility forced h.marks.member (standings_of g.facility v.facility now);
    }
stage_stays good stay w u v g content forced h (inr r) keeps drive =
    let now : KeepsPages g.facility v.facility = subst (λ (f : Facility). KeepsPages f v.facility) (sym r.facility) keeps in
    let goes : PageGoes w content forced (with_facility g v.facility) h h = stay w g content forced h h v.facility r.begins now (itself h) in
    record {
      moves = goes.moves;
      world = goes.moved.world;
      run = goes.moved.run;
      pages = inr (record {
        begins = still_begins good w v.facility g content forced h r.begins now goes;
        facility = refl;
        drive = subst (λ z. Shows z g.disk) (sym drive) r.drive;
        read = r.read;
      });
      others = others_facility g v.facility forced h.marks.member (standings_of g.facility v.facility now);
    }

-- ---- a castout of its own member
casts_begin : OwnRestarts → (w : World) (g left : Holdings) (content : ℕ → ℕ → List ℕ) (forced : ℕ → ℕ) (h : Held) → Begins w g content forced h → (goes : GroupGoes w g left content forced h.marks.member) → LeavesMember g left h.marks.member → Begins goes.world left content forced h
casts_begin law w g left content forced h b goes own = record {
  good = goes.stands.good;
  tied = goes.stands.tied;
  numbered = goes.stands.numbered;
  sound = goes.stands.sound;
  restarts = law g left forced h goes.others own b.restarts;
}

pub stage_casts : OwnRestarts → StageCasts
stage_casts law w u v g left content forced h (inl r) goes own facility drive = inl (record {
  begins = casts_begin law w g left content forced h r.begins goes own;
  facility = facility;
  drive = drive;
  level = own.written ∙ r.level ∙ sym own.stable;
  unread = r.unread;
  rest = r.rest;
})
stage_casts law w u v g left content forced h (inr r) goes own facility drive = inr (record {
  begins = casts_begin law w g left content forced h r.begins goes own;
  facility = facility;
  drive = drive;
  read = r.read;
})

-- ---- the end
not_up : (m : ℕ) (own : OwnState) (s : RestartSent) → need_of (reading m own) intent.Up ≡ Ok s → ⊥
not_up m own s e = err_ok test.NotListed s (Err test.NotListed) refl e

pub stage_ends : EndsGo → StageEnds
stage_ends law w l u v g content forced held own h k s a b listing happens is_up = by b.pages
  where
    needed : need_of h.marks intent.Up ≡ Ok s
    needed = subst (λ i. need_of h.marks i ≡ Ok s) is_up happens.lawful

    by : InPages w u g content forced h → IsOver w v g content forced h.marks.member
    by (inl r) = absurd (not_up h.marks.member h.marks.own s (subst (λ (z : RestartState). need_of z intent.Up ≡ Ok s) r.rest needed))
    by (inr x) = law w u v g content forced h k s a x listing b.owns happens is_up
