-- A member that is up makes an event.
use Rattle.std.proofs.Common.{◌≡◌, ◌≢◌, ℕ, ◌+◌, ◌≤◌, ◌<◌, refl, sym, ◌∙◌, ap, subst, arith, true, false, inl, inr, List, length, Option, Some, None}
use Rattle.std.specs.Prelude.{◌==◌, not, IfSome, slice_get}
use Rattle.std.proofs.lemmas.Bool.{cases_eq, ne_eqb}
use Rattle.std.proofs.lemmas.Option.{none-some, slice_get_within}
use Rattle.ds_base.specs.declared.names.PageId.{PageId}
use Rattle.ds_model.specs.declared.lock.Name.TheVariants as name
use Rattle.lock_names.specs.declared.mode.Mode.TheVariants.{X}
use Rattle.list_structure.specs.declared.standing.MemberStatus.{MemberStatus}
use Rattle.list_structure.specs.declared.standing.MemberStatus.TheVariants.{Restarting, Up}
use Rattle.list_structure.specs.Standings.{is_live, status_of}
use Rattle.lock_manager.specs.Claims.{mode_in}
use Rattle.lock_manager.specs.Managers.{claims_of, held_by}
use Rattle.facility.specs.declared.command.Reply.TheVariants as reply
use Rattle.facility.specs.States.{Held as Facility}
use Rattle.member_intents.specs.declared.intent.Intent.{Intent}
use Rattle.member_intents.specs.declared.outcome.Answered.{Answered}
use Rattle.member_intents.specs.declared.outcome.Answered.TheVariants as answered
use Rattle.member_intents.specs.declared.outcome.Sent.{Sent}
use Rattle.member_marks.specs.Claims.{has_page}
use Rattle.page_owners.specs.Given.{Acts, Beside, CommandsStay, Drive, Enters, EventGoes, Group, HasCast, Held, IsRecorded, IsUp, Leads, Member, OwnClaimsStay, Plan, Rebuilds, Resources, RestartHeld, SameOthers, SendsLawfully, Tells, ToldGoes, begun, is_failure, kept_of, page_taken, told_once}
use Rattle.rebuild_resources.specs.declared.intent.RebuildSent.{RebuildSent}
use Rattle.group_locks.specs.Given.{CrewState}
use Rattle.lock_protocol.specs.Machine.{World as LockWorld}
use Rattle.lock_protocol.specs.Words.{SoundGives}
use Rattle.lock_world.specs.Books.{SlotHas}
use Rattle.lock_world.specs.Numbers.{number}
use Rattle.lock_world.specs.Views.{entry_in}
use Rattle.group_locks.specs.Events.{Moves, MovesSpare, OfMember}
use Rattle.group_locks.specs.Members.{MemberStepsMoves, StepsAt}
use Rattle.group_locks.specs.Stands.{LocksTied, MemberStands}
use Rattle.page_protocol.specs.Moves.{World}
use Rattle.page_world.specs.Holdings.{Holdings}
use Rattle.page_world.specs.Numbers.{AreNumbered, page_number}
use Rattle.page_numbers.specs.Recorded.{AreWhole, NumbersAreRecorded, PlanTells}
use Rattle.page_owners.specs.Owners.{OwnInX, StayInX, ToldInX}
use Rattle.page_rebuilds.specs.Rebuilds.{EventsGo as RebuildsGo}
use Rattle.retained_pages.specs.Retained.{CommandsSpare, GrantsNone, ObtainsNone, Retains, SparesOthers}
use Rattle.group_pages.specs.Events.{PageMoves}
use Rattle.group_pages.specs.Members.{LogsLead}
use Rattle.group_pages.specs.Stands.{CrewPages, HoldsPages, MemberPages, PagesTied, UpPages}
use Rattle.group_pages.proofs.Carry.{IsNamed, all_named, assembled, owned_on, spares_itself}
use Rattle.group_pages.proofs.Carry as carrying
use Rattle.group_pages.proofs.Going.{moved_behind}
use Rattle.group_pages.proofs.Granted.{Granted, granted_alone}
use Rattle.group_pages.proofs.Owners.{claims_known, owners_stand, page_known}
use Rattle.group_pages.proofs.Rebuilds.{RebuildLeft, ToldBehind, rebuilt, told_behind}
use Rattle.group_pages.proofs.Sent.{spares_event}

pub record Facts : Type 0 where
  pub carry : carrying.Facts
  pub event : EventGoes
  pub recorded : NumbersAreRecorded
  pub told : ToldGoes
  pub lawful : SendsLawfully
  pub obtain : ObtainsNone
  pub grant : GrantsNone
  pub spare : CommandsSpare
  pub pages : AreNumbered
  pub has : SlotHas
  pub gives : SoundGives
  pub own : OwnClaimsStay
  pub in_x : StayInX
  pub told_x : ToldInX
  pub steps : MemberStepsMoves
  pub others : MovesSpare

-- what the premise says where a number was drawn
abbrev Drawn : Member → Answered → Intent → Plan → World → (ℕ → ℕ → List ℕ) → Type 0
Drawn m a i p w content = (number : ℕ) → a ≡ answered.Reply (reply.Drawn number) → AreWhole w content × PlanTells m.holds i p

-- ---- what a member that is up holds, once it was told of its transactions
told_up : (g : Holdings) (forced : ℕ → ℕ) (h : Held) → IsUp g forced (kept_of h) → IsUp g forced (kept_of (told_once h))
told_up g forced h up = record {
  least = up.least;
  among = up.among;
  up = up.up;
  log = up.log;
  last = up.last;
  pending = up.pending;
  apart = up.apart;
  each = up.each;
  copies = up.copies;
  owns = up.owns;
  no_more = up.no_more;
}

both_up : (s : MemberStatus) → s ≡ Up → s ≡ Restarting → ⊥
both_up s a b = cc

live_up : (s : MemberStatus) → s ≡ Up → is_live s ≡ false → ⊥
live_up s a b = let live : is_live s ≡ true = ap is_live a in let never : true ≡ false = sym live ∙ b in cc

pub holds_up : (g : Holdings) (forced : ℕ → ℕ) (k : ℕ) (h : Held) (r : Option RestartHeld) → h.marks.member ≡ k → IsUp g forced (kept_of h) → HasCast g h.marks.member h.cast h.buffer → OwnInX h.marks → HoldsPages g forced k h r
holds_up g forced k h r named up cast in_x = record {
  up = λ _. record { up = up; cast = cast; in_x = in_x };
  restarts = λ e. absurd (both_up (status_of g.facility.lists.statuses k) is e);
  down = λ e. absurd (live_up (status_of g.facility.lists.statuses k) is e);
}
  where
    is : status_of g.facility.lists.statuses k ≡ Up
    is = subst (λ z. status_of g.facility.lists.statuses z ≡ Up) named up.up

-- the member of this number, whose event has led here
pub member_up : (w : World) (v : Resources) (g : Holdings) (content : ℕ → ℕ → List ℕ) (forced : ℕ → ℕ) (h k : Held) (at : ℕ) (n : Member) → h.marks.member ≡ at + 1 → (a : Leads w v g content forced h k) → OwnInX k.marks → n.holds ≡ told_once k → MemberPages a.left a.force (at + 1) n
member_up w v g content forced h k at n named a in_x is =
    subst (λ (z : Held). HoldsPages a.left a.force (at + 1) z n.restart) (sym is)
    (holds_up a.left a.force (at + 1) (told_once k) n.restart (a.same ∙ named) (told_up a.left a.force k a.beside.begins.up) a.beside.cast in_x)

-- ---- the member at a place
pub stood_at : (s : CrewState) (l : LockWorld) (at : ℕ) (m : Member) → LocksTied s l → slice_get s.members at ≡ Some m → MemberStands s.facility (at + 1) m
stood_at s l at m t e = subst (λ (z : Option Member). IfSome z (MemberStands s.facility (at + 1))) e (t.stands at)

pub pages_at : (g : Holdings) (forced : ℕ → ℕ) (ms : List Member) (at : ℕ) (m : Member) → ((k : ℕ) → IfSome (slice_get ms k) (MemberPages g forced (k + 1))) → slice_get ms at ≡ Some m → MemberPages g forced (at + 1) m
pages_at g forced ms at m each e = subst (λ (z : Option Member). IfSome z (MemberPages g forced (at + 1))) e (each at)

pub numbered : (ms : List Member) (k most : ℕ) (x : Member) → slice_get ms k ≡ Some x → length ms ≡ most → k + 1 ≤ most
numbered ms k most x h count = let a : k < length ms = slice_get_within ms k x h in omega (arith, a, count)

pub apart_at : (k at : ℕ) → k ≢ at → k + 1 ≢ at + 1
apart_at k at ne e = ne (omega (arith, e))

pub group_of : (w : World) (v : Resources) (g : Holdings) (content : ℕ → ℕ → List ℕ) (forced : ℕ → ℕ) (h k : Held) (a : Leads w v g content forced h k) → Group a.world a.left a.versions a.force
group_of w v g content forced h k a = record { good = a.beside.begins.good; tied = a.beside.begins.tied; numbered = a.beside.begins.numbered; sound = a.beside.begins.sound }

-- ---- its own event
module _ (facts : Facts) (old new : CrewState) (at : ℕ) (m n : Member) (l : LockWorld) (w : World) (g : Holdings) (content : ℕ → ℕ → List ℕ) (forced : ℕ → ℕ) (t : LocksTied old l) (e : StepsAt old new at m n) (p : CrewPages e.drive old.facility old.members w g content forced) where
  abbrev u : Resources
  u = record { facility = old.facility; drive = e.drive }

  abbrev v : Resources
  v = record { facility = new.facility; drive = e.left }

  stood : MemberStands old.facility (at + 1) m
  stood = stood_at old l at m t e.had

  held : MemberPages g forced (at + 1) m
  held = pages_at g forced old.members at m p.members e.had

  is_up : status_of g.facility.lists.statuses (at + 1) ≡ Up
  is_up = ap (λ (z : Facility). status_of z.lists.statuses (at + 1)) p.facility ∙ ap (λ z. status_of old.facility.lists.statuses z) (sym stood.id) ∙ e.up

  pages : UpPages g forced m.holds
  pages = held.up is_up

  beside : Beside w u g content forced m.holds
  beside = record {
    begins = record { good = p.group.good; tied = p.group.tied; numbered = p.group.numbered; sound = p.group.sound; up = pages.up };
    facility = p.facility;
    drive = p.drive;
    cast = pages.cast;
  }

  -- behind what it leads to
  pages_behind : (k : Held) (a : Leads w v g content forced m.holds k) → SparesOthers old.facility new.facility m.holds.marks.member → OwnInX k.marks → n.holds ≡ told_once k → PageMoves e.left new w
  pages_behind k a spares in_x is = record {
    moves = a.moves;
    world = a.world;
    run = a.run;
    tied = record {
      holdings = a.left;
      versions = a.versions;
      forced = a.force;
      pages = assembled facts.carry e.drive e.left old.facility new.facility old.members new.members at (at + 1) n w a.world g a.left content a.versions forced a.force (all_named old.facility old.members t.stands) p
          (group_of w v g content forced m.holds k a) a.beside.facility a.beside.drive same spared
          (λ j ne. apart_at j at ne) e.has e.others
          (owned_on g a.left forced a.force (at + 1) same (omega arith) among p.owned)
          (member_up w v g content forced m.holds k at n stood.member a in_x is);
    };
  }
    where
      same : SameOthers g a.left forced a.force (at + 1)
      same = subst (λ z. SameOthers g a.left forced a.force z) stood.member a.others

      spared : SparesOthers g.facility a.left.facility (at + 1)
      spared = subst (λ z. SparesOthers g.facility a.left.facility z) stood.member
          (subst (λ (z : Facility). SparesOthers g.facility z m.holds.marks.member) (sym a.beside.facility) (subst (λ (z : Facility). SparesOthers z new.facility m.holds.marks.member) (sym p.facility) spares))

      among : at + 1 ≤ a.left.facility.lists.members
      among = subst (λ z. z ≤ a.left.facility.lists.members) (a.same ∙ stood.member) a.beside.begins.up.among

  module _ (mid : Member) (s : Sent) (a : Answered) (acts : Acts m u e.place s a v mid) (enters : Enters mid old.fates n new.fates) (unfailed : is_failure a ≡ false) where
    locked : Moves (OfMember m.id) old new l
    locked = facts.steps old new at m n l t e

    left_holds : n.holds ≡ told_once acts.after
    left_holds = ap (λ (z : Member). z.holds) enters.member ∙ ap (λ (z : Member). told_once z.holds) acts.member

    -- what the event has claimed, the policy's local moves leave
    claims_left : claims_of n.holds.marks.locks 0 ≡ claims_of acts.happens.after.marks.locks 0
    claims_left = ap (λ (z : Held). claims_of z.marks.locks 0) left_holds ∙ facts.own.reaches acts.happens.after.marks acts.after.marks acts.happens.ends.0

    stood_after : MemberStands new.facility (at + 1) n
    stood_after = stood_at new locked.world at n locked.tied e.has

    -- nobody else has a page that is granted
    other : (page : PageId) (q : ℕ) → Granted old.facility m.holds acts.happens.after page → q ≢ at + 1 → g.owner (page_number page) ≢ Some q
    other page q granted ne owned = elim (owners_stand facts.has e.drive old l w g content forced t p (page_number page) q owned) [
      | inr retained ↦ ne (granted.alone q (subst (λ (z : PageId). Retains old.facility q z) (facts.pages.named page) retained) ∙ stood.member)
      | inl there ↦
          (let c = number (name.Page page) in
          let has : held_by n.holds.marks.locks 0 (name.Page page) ≡ Some X = ap (λ z. mode_in z (name.Page page)) claims_left ∙ granted.claimed in
          let here : locked.world.claims (at + 1) 0 c ≡ Some X = claims_known new locked.world at c n locked.tied e.has (page_known facts.has new.facility (at + 1) n page stood_after has) in
          let spared : not (q == m.id) ≡ true = ap not (ne_eqb q m.id (λ z. ne (z ∙ stood.id))) in
          let kept : locked.world.claims q 0 c ≡ Some X =
          facts.others (OfMember m.id) old new l locked q 0 c spared ∙ subst (λ (z : PageId). l.claims q 0 (number (name.Page z)) ≡ Some X) (facts.pages.named page) there in
          let gone : locked.world.claims (at + 1) 0 c ≡ None = (facts.gives (entry_in new.facility.locks) locked.world locked.tied.sound).alone q (at + 1) 0 0 c (λ z. absurd (ne z)) kept in
          none-some X (sym gone ∙ here))
    ]

    free : (page : PageId) (version : ℕ) → page_taken acts.intent ≡ Some page → a ≡ answered.Reply (reply.Granted version) → has_page m.holds.marks page ≡ false → (o : Option ℕ) → g.owner (page_number page) ≡ o → g.owner (page_number page) ≡ None
    free page version taken granted none None is = is
    free page version taken granted none (Some q) is = elim (cases_eq q (at + 1)) [
      | inl same ↦ absurd (pages.up.no_more (page_number page) (ap (has_page m.holds.marks) (facts.pages.named page) ∙ none) (is ∙ ap Some (same ∙ sym stood.member)))
      | inr ne ↦ absurd (other page q (granted_alone facts.lawful facts.obtain facts.grant u v m.holds acts.after acts.intent e.place version s a page acts.happens taken granted none) ne is)
    ]

    works : a ≢ answered.Failed
    works is = let failed : is_failure a ≡ true = ap is_failure is in let never : true ≡ false = sym failed ∙ unfailed in cc

    recorded : Drawn m a acts.intent acts.happens.plan w content → (number : ℕ) → a ≡ answered.Reply (reply.Drawn number) → IsRecorded (begun acts.happens.ready e.place) acts.intent acts.happens.plan number e.place
    recorded tells number is =
        let known = tells number is in
        facts.recorded w u v g content forced m.holds acts.after acts.intent e.place s a number beside.begins known.0 acts.happens known.1 is

    acts_go : Drawn m a acts.intent acts.happens.plan w content → PageMoves e.left new w
    acts_go tells = pages_behind acts.after
        (facts.event w u v g content forced m.holds acts.after acts.intent e.place s a beside acts.happens
        (record { distinct = stood.book.once 0; free = λ page version taken granted none. free page version taken granted none (g.owner (page_number page)) refl; recorded = recorded tells; works = works }))
        (spares_event facts.spare u v m.holds acts.after acts.intent e.place s a acts.happens)
        (facts.in_x u v m.holds acts.after acts.intent e.place s a acts.happens pages.in_x) left_holds

pub own_steps : (facts : Facts) (old new : CrewState) (at : ℕ) (m n : Member) (l : LockWorld) (w : World) → LocksTied old l → (e : StepsAt old new at m n) → (t : PagesTied e.drive old w)
    → (mid : Member) (s : Sent) (a : Answered) (acts : Acts m (record { facility = old.facility; drive = e.drive }) e.place s a (record { facility = new.facility; drive = e.left }) mid) → Enters mid old.fates n new.fates → is_failure a ≡ false
    → Drawn m a acts.intent acts.happens.plan w t.versions → PageMoves e.left new w
own_steps facts old new at m n l w locks e t mid s a acts enters unfailed tells = acts_go facts old new at m n l w t.holdings t.versions t.forced locks e t.pages mid s a acts enters unfailed tells

-- ---- a member that is up is told of its restart or its rebuild
pub record ToldFacts : Type 0 where
  pub carry : carrying.Facts
  pub told : ToldGoes
  pub told_x : ToldInX

module _ (facts : ToldFacts) (e : Drive) (new : CrewState) (ms : List Member) (at place : ℕ) (m n : Member) (w : World) (g : Holdings) (content : ℕ → ℕ → List ℕ) (forced : ℕ → ℕ) (after : Held)
    (stands : (k : ℕ) → IfSome (slice_get ms k) (IsNamed (k + 1))) (p : CrewPages e new.facility ms w g content forced) (named : m.holds.marks.member ≡ at + 1) (pages : UpPages g forced m.holds) (tells : Tells m.holds place after) where
  abbrev outside : Resources
  outside = record { facility = new.facility; drive = e }

  told_beside : Beside w outside g content forced m.holds
  told_beside = record {
    begins = record { good = p.group.good; tied = p.group.tied; numbered = p.group.numbered; sound = p.group.sound; up = pages.up };
    facility = p.facility;
    drive = p.drive;
    cast = pages.cast;
  }

  leads : Leads w outside g content forced m.holds after
  leads = facts.told w outside g content forced m.holds after place told_beside tells

  same : SameOthers g leads.left forced leads.force (at + 1)
  same = subst (λ z. SameOthers g leads.left forced leads.force z) named leads.others

  among : at + 1 ≤ leads.left.facility.lists.members
  among = subst (λ z. z ≤ leads.left.facility.lists.members) (leads.same ∙ named) leads.beside.begins.up.among

  tells_go : n.holds ≡ told_once after → slice_get new.members at ≡ Some n → ((k : ℕ) → k ≢ at → slice_get new.members k ≡ slice_get ms k) → PageMoves e new w
  tells_go is has others = record {
    moves = leads.moves;
    world = leads.world;
    run = leads.run;
    tied = record {
      holdings = leads.left;
      versions = leads.versions;
      forced = leads.force;
      pages = assembled facts.carry e e new.facility new.facility ms new.members at (at + 1) n w leads.world g leads.left content leads.versions forced leads.force stands p
          (group_of w outside g content forced m.holds after leads) leads.beside.facility leads.beside.drive same
          (spares_itself g.facility leads.left.facility (at + 1) (leads.beside.facility ∙ sym p.facility))
          (λ j ne. apart_at j at ne) has others
          (owned_on g leads.left forced leads.force (at + 1) same (omega arith) among p.owned)
          (member_up w outside g content forced m.holds after at n named leads (facts.told_x m.holds after place tells pages.in_x) is);
    };
  }

pub told_go : ToldFacts → (e : Drive) (new : CrewState) (ms : List Member) (at place : ℕ) (m n : Member) (w : World) (g : Holdings) (content : ℕ → ℕ → List ℕ) (forced : ℕ → ℕ) (after : Held)
    → ((k : ℕ) → IfSome (slice_get ms k) (IsNamed (k + 1))) → CrewPages e new.facility ms w g content forced → m.holds.marks.member ≡ at + 1 → UpPages g forced m.holds → Tells m.holds place after
    → n.holds ≡ told_once after → slice_get new.members at ≡ Some n → ((k : ℕ) → k ≢ at → slice_get new.members k ≡ slice_get ms k) → PageMoves e new w
told_go facts e new ms at place m n w g content forced after stands p named pages tells is has others = tells_go facts e new ms at place m n w g content forced after stands p named pages tells is has others

-- ---- the event of its rebuild
module _ (facts : Facts) (rebuild : RebuildsGo) (stay : CommandsStay) (old new : CrewState) (at : ℕ) (m n : Member) (l : LockWorld) (w : World) (g : Holdings) (content : ℕ → ℕ → List ℕ) (forced : ℕ → ℕ) (t : LocksTied old l) (e : StepsAt old new at m n) (p : CrewPages e.drive old.facility old.members w g content forced)
    (mid : Member) (s : RebuildSent) (a : Answered) (made : Rebuilds m (record { facility = old.facility; drive = e.drive }) e.place s a (record { facility = new.facility; drive = e.left }) mid) (enters : Enters mid old.fates n new.fates) (unfailed : is_failure a ≡ false) (lead : LogsLead w g content made.makes.before.resources s) where
  now : RebuildLeft e.left new.facility old.members w g content forced
  now = rebuilt rebuild stay facts.carry (record { facility = old.facility; drive = e.drive }) (record { facility = new.facility; drive = e.left }) old.members w g content forced made.makes.before.resources made.reached.resources s a (all_named old.facility old.members t.stands) p made.makes.happens unfailed lead

  back : ToldBehind m e.place n
  back = told_behind m mid n e.place made.reached (is_failure a) old.fates new.fates unfailed made.ends enters

  stood_before : MemberStands old.facility (at + 1) m
  stood_before = stood_at old l at m t e.had

  -- it is up behind it
  up_before : status_of g.facility.lists.statuses (at + 1) ≡ Up
  up_before = ap (λ (z : Facility). status_of z.lists.statuses (at + 1)) p.facility ∙ ap (λ z. status_of old.facility.lists.statuses z) (sym stood_before.id) ∙ e.up

  still_up : UpPages now.left forced m.holds
  still_up = (pages_at now.left forced old.members at m now.pages.members e.had).up (now.statuses (at + 1) (omega arith) ∙ up_before)

  rebuilds_go : PageMoves e.left new w
  rebuilds_go = moved_behind e.left new w now.world now.moves now.run
      (told_go (record { carry = facts.carry; told = facts.told; told_x = facts.told_x }) e.left new old.members at e.place m n now.world now.left content forced back.after (all_named old.facility old.members t.stands) now.pages stood_before.member still_up back.tells back.holds e.has e.others)

pub rebuild_steps : (facts : Facts) → RebuildsGo → CommandsStay → (old new : CrewState) (at : ℕ) (m n : Member) (l : LockWorld) (w : World) → LocksTied old l → (e : StepsAt old new at m n) → (t : PagesTied e.drive old w)
    → (mid : Member) (s : RebuildSent) (a : Answered) (made : Rebuilds m (record { facility = old.facility; drive = e.drive }) e.place s a (record { facility = new.facility; drive = e.left }) mid) → Enters mid old.fates n new.fates → is_failure a ≡ false
    → LogsLead w t.holdings t.versions made.makes.before.resources s → PageMoves e.left new w
rebuild_steps facts rebuild stay old new at m n l w locks e t mid s a made enters unfailed lead = rebuilds_go facts rebuild stay old new at m n l w t.holdings t.versions t.forced locks e t.pages mid s a made enters unfailed lead
