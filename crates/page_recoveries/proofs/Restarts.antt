-- A restart makes an event in its group.
use Rattle.std.proofs.Common.{◌≡◌, ◌≢◌, ℕ, zero, suc, ◌+◌, ◌≤◌, refl, sym, ◌∙◌, ap, subst, arith, Bool, true, false, inl, inr, List, [], ◌∷◌, length, Option, Some, None, Ok}
use Rattle.std.specs.Prelude.{◌⊎◌, ◌-◌, ◌==◌, if◌then◌else◌, IfSome, is_some, slice_get, slice_set, slice_index_or, is_none}
use Rattle.std.proofs.lemmas.Bool.{cond-true, eq-eqb, eqb-true}
use Rattle.ds_base.specs.Ids.{IsMember}
use Rattle.lock_names.specs.declared.mode.Mode.{Mode}
use Rattle.list_structure.specs.declared.standing.MemberStatus.{MemberStatus}
use Rattle.list_structure.specs.declared.standing.MemberStatus.TheVariants.{Down, Restarting, Up}
use Rattle.list_structure.specs.Standings.{status_of}
use Rattle.facility.specs.declared.command.Command.TheVariants as command
use Rattle.facility.specs.States.{Held as Facility}
use Rattle.member_intents.specs.declared.outcome.Answered.{Answered}
use Rattle.member_intents.specs.declared.outcome.Answered.TheVariants as answered
use Rattle.member_log.specs.Buffers.{LogBuffer}
use Rattle.group_pages.specs.Given.{AreBehind, EndsFree, Follows, GoesOn, Group, HandsOver, HasCast, HasHandedOver, HasLeft, Held, InBoth, IsBare, IsListing, IsOver, IsUp, KeptBy, Knows, Leads, ListingGoes, LocalsStay, LocksRestart, LocksTied, Member, MemberStands, OwnsRestarting, Resources, RestartEnds, RestartGoesOn, RestartHeld, RestartHolds, RestartInHand, RestartIntent, RestartSent, RestartStands, RestartState, RestartStepsAt, Restarts, RestartsFollow, RestsBare, RestsKeepCast, SameOthers, Sets, StageEnds, StageGoes, StageTells, StagesGo, StandingsFollow, Takes, Tells, Tested, ToldGoes, ToldInX, TransState, UndrawnGoes, UndrawnTells, adopted_as, after, as_restarting, copy_of, is_failure, is_hand, kept_of, known, known_with, lent_bytes, may_adopt, need_of, no_trans, over_test, page_undone, passed, recovered_test, rest_test, told_once, up_after, when, with_marks, with_trans}
use Rattle.group_pages.specs.Given.restart_intent as intent
use Rattle.group_pages.specs.Given.restart_sent as sent
use Rattle.group_pages.specs.Given.restart_test as test
use Rattle.group_pages.specs.Given.restart_events as restarting
use Rattle.group_pages.specs.Given.stepped_variants as steps
use Rattle.group_core.specs.Given.{CrewState}
use Rattle.lock_protocol.specs.Machine.{World as LockWorld}
use Rattle.lock_world.specs.Books.{NobodyHolds, SlotHas}
use Rattle.lock_world.specs.Numbers.{AreNumbered}
use Rattle.lock_world.specs.Tied.{Claims}
use Rattle.lock_world.specs.Views.{claim_in}
use Rattle.group_pages.proofs.Given.{after_first, after_tests, no_page, ups, when_first, when_rest, within}
use Rattle.page_protocol.specs.Moves.{World}
use Rattle.page_protocol.specs.Page.{put}
use Rattle.page_world.specs.Holdings.{Copy, Holdings, with_facility}
use Rattle.page_world.specs.Numbers.{AreNumbered as PagesHaveNumbers, page_at}
use Rattle.retained_pages.specs.Retained.{CommandsSpare, SparesOthers}
use Rattle.group_pages.specs.Events.{PageMoves}
use Rattle.group_pages.specs.Stands.{CrewPages, IsUnread, MemberPages, RestartPages, UpPages}
use Rattle.group_pages.proofs.Carry.{all_named, assembled, owned_on, spares_itself}
use Rattle.group_pages.proofs.Carry as carrying
use Rattle.group_pages.proofs.Going.{moved_behind}
use Rattle.group_pages.proofs.Owners.{known_there, owners_stand}
use Rattle.page_recoveries.proofs.Resting.{StandsApart, cast_as, holds_restarting, in_pages, parts_of}
use Rattle.group_pages.proofs.Up.{apart_at, holds_up, numbered, pages_at, stood_at, told_go}
use Rattle.page_recoveries.specs.Restarts.{RestartStepsGo, RestartTells}
use Rattle.page_recoveries.proofs.Opening.{none_in_x, others_placed, placed_tied, unforced, unforced_others, with_copies}
use Rattle.page_recoveries.proofs.Claims.{frees_as, known_as, own_apart, own_there, with_own}

pub record Facts : Type 0 where
  pub carry : carrying.Facts
  pub stages : StagesGo
  pub ends : StageEnds
  pub lists : ListingGoes
  pub undrawn : UndrawnGoes
  pub quiet : UndrawnTells
  pub follow : RestartsFollow
  pub standings : StandingsFollow
  pub nobody : NobodyHolds
  pub has : SlotHas
  pub spare : CommandsSpare
  pub bare : RestsBare
  pub keep : RestsKeepCast
  pub free : EndsFree
  pub local : LocalsStay
  pub names : AreNumbered
  pub pages : PagesHaveNumbers
  pub told : ToldGoes
  pub told_x : ToldInX

never : true ≡ false → ⊥
never e = cc e

both_up : (s : MemberStatus) → s ≡ Up → s ≡ Restarting → ⊥
both_up s a b = cc

set_live : (xs : List MemberStatus) (i : ℕ) → slice_index_or xs i Down ≡ Restarting → slice_index_or (slice_set xs i Up) i Down ≡ Up
set_live [] i e = cc
set_live (x ∷ xs) zero e = refl
set_live (x ∷ xs) (suc i) e = set_live xs i e

empty_list : {A : Type 0} → (xs : List A) → length xs ≡ 0 → xs ≡ []
empty_list [] e = refl
empty_list (x ∷ xs) e = absurd (omega (arith, e))

-- ---- its end, and all else
ends_or : (i : RestartIntent) → (i ≡ intent.Up) ⊎ (i ≢ intent.Up)
ends_or intent.Step = inr (λ e. cc e)
ends_or intent.ReadLog = inr (λ e. cc e)
ends_or intent.CutTail = inr (λ e. cc e)
ends_or intent.RetainedAt = inr (λ e. cc e)
ends_or intent.Read = inr (λ e. cc e)
ends_or intent.ReadPage = inr (λ e. cc e)
ends_or intent.Test = inr (λ e. cc e)
ends_or intent.WritePage = inr (λ e. cc e)
ends_or intent.PurgePage = inr (λ e. cc e)
ends_or (intent.Purge n) = inr (λ e. cc e)
ends_or intent.Append = inr (λ e. cc e)
ends_or (intent.Obtain id) = inr (λ e. cc e)
ends_or (intent.Ask id to) = inr (λ e. cc e)
ends_or (intent.Answers id asked) = inr (λ e. cc e)
ends_or (intent.Grant id) = inr (λ e. cc e)
ends_or (intent.Status member) = inr (λ e. cc e)
ends_or (intent.Undo id) = inr (λ e. cc e)
ends_or intent.ReleasePage = inr (λ e. cc e)
ends_or intent.Unregister = inr (λ e. cc e)
ends_or intent.Up = inl refl

-- nothing waits in its log buffer then
last_pending : (s : RestartState) (x : RestartSent) → need_of s intent.Up ≡ Ok x → (length s.log.pending == 0) ≡ true
last_pending s x e =
    let over = after (over_test s) (rest_test s) in
    let tests = after (recovered_test s) over in
    let first = after_first tests (Ok (sent.Command (command.SetStatus Up))) x e in
    let last = after_tests (over_test s) (rest_test s) (after_tests (recovered_test s) over first) in
    let pending : Tested = when (length s.log.pending == 0) test.StillPending (when (s.own.tail == 0) test.HasTail passed) in
    let claimed : Tested = when (is_none s.claim) test.StillClaimed pending in
    when_first (length s.log.pending == 0) test.StillPending (when (s.own.tail == 0) test.HasTail passed) (when_rest (is_none s.claim) test.StillClaimed pending (when_rest (is_none s.hand.page) test.StillPlaced claimed last))

-- ---- all others' records stay
pub spares_restart : CommandsSpare → (u v : restarting.World) (h k : RestartHolds) (s : RestartSent) (a : Answered) → restarting.Happens u h s a v k → SparesOthers u.facility v.facility h.marks.member
spares_restart law u v h k s a x = by s x.runs
  where
    by : (y : RestartSent) → restarting.Runs u h x.intent y a x.said v x.after → SparesOthers u.facility v.facility h.marks.member
    by sent.None r = spares_itself u.facility v.facility h.marks.member (ap (λ (z : restarting.World). z.facility) r.world)
    by (sent.Command c) r = (law u.facility v.facility h.marks.member c (lent_bytes h (is_hand h c)) (lent_bytes r.0.after (is_hand h c)) r.0.answer r.0.gives.executed.executes).0
    by sent.LogLength r = spares_itself u.facility v.facility h.marks.member r.1
    by (sent.ReadLog at count) r = spares_itself u.facility v.facility h.marks.member r.1
    by (sent.CutLog long) r = spares_itself u.facility v.facility h.marks.member r.1
    by sent.AppendLog r = spares_itself u.facility v.facility h.marks.member r.1
    by (sent.ReadPage page) r = spares_itself u.facility v.facility h.marks.member r.1

-- ---- what it hands over isn't pages
without_trans : (g : Holdings) (forced : ℕ → ℕ) (h : RestartHolds) → RestartPages g forced h → RestartPages g forced (with_marks h (with_trans h.marks no_trans))
without_trans g forced h r = record {
  restarts = record {
    least = r.restarts.least;
    among = r.restarts.among;
    restarts = r.restarts.restarts;
    log = r.restarts.log;
    last = r.restarts.last;
    pending = r.restarts.pending;
    full = r.restarts.full;
    shows = r.restarts.shows;
    copies = r.restarts.copies;
  };
  stage = stage r.stage;
  owns = record { claimed = r.owns.claimed; retained = r.owns.retained };
  lists = record { known = r.lists.known; all = r.lists.all; hand = r.lists.hand };
  undrawn = record { keyed = r.undrawn.keyed; level = r.undrawn.level };
}
  where
    stage : IsUnread g h.marks ⊎ (h.marks.own.is_read ≡ true) → IsUnread g (with_trans h.marks no_trans) ⊎ (h.marks.own.is_read ≡ true)
    stage (inl x) = inl (record { level = x.level; unread = x.unread; rest = ap (λ (z : RestartState). with_trans z no_trans) x.rest })
    stage (inr e) = inr e

hands_pages : (g : Holdings) (forced : ℕ → ℕ) (h : RestartHolds) (o : Option KeptBy) → RestartPages g forced h → RestartPages g forced (with_marks h (adopted_as h.marks o))
hands_pages g forced h None r = r
hands_pages g forced h (Some by) r = on (may_adopt h.marks) r (without_trans g forced h r)
  where
    on : (b : Bool) → RestartPages g forced h → RestartPages g forced (with_marks h (with_trans h.marks no_trans)) → RestartPages g forced (with_marks h (if b then with_trans h.marks no_trans else h.marks))
    on true stays left = left
    on false stays left = stays

-- ---- the restart in its group
module _ (facts : Facts) (old new : CrewState) (at : ℕ) (m n : Member) (l : LockWorld) (w : World) (g : Holdings) (content : ℕ → ℕ → List ℕ) (forced : ℕ → ℕ) (t : LocksTied old l) (e : RestartStepsAt old new at m n l) (p : CrewPages e.drive old.facility old.members w g content forced) where
  abbrev u : Resources
  u = record { facility = old.facility; drive = e.drive }

  abbrev v : Resources
  v = record { facility = new.facility; drive = e.left }

  abbrev mid : Member
  mid = e.made.mid

  abbrev made : Restarts m u e.place e.sent e.answered v mid
  made = e.made.makes

  abbrev q : RestartHeld
  q = made.makes.before

  abbrev r : RestartHeld
  r = made.reached

  abbrev s : RestartState
  s = q.resources.marks

  abbrev now : RestartState
  now = r.resources.marks

  stood : MemberStands old.facility (at + 1) m
  stood = stood_at old l at m t e.had

  standing : RestartStands (at + 1) m s
  standing = subst (λ (z : Option RestartHeld). RestartInHand (at + 1) m z) made.makes.had stood.restart

  held : MemberPages g forced (at + 1) m
  held = pages_at g forced old.members at m p.members e.had

  status : status_of g.facility.lists.statuses (at + 1) ≡ Restarting
  status = ap (λ (z : Facility). status_of z.lists.statuses (at + 1)) p.facility ∙ ap (λ z. status_of old.facility.lists.statuses z) (sym stood.id) ∙ e.restarting

  pages : RestartPages g forced q.resources
  pages = subst (λ (z : Option RestartHeld). IfSome z (λ (x : RestartHeld). RestartPages g forced x.resources)) made.makes.had (held.restarts status).0

  bare : IsBare n.holds
  bare = facts.bare m n u v old.fates new.fates e.place (steps.Restart e.sent e.answered) (ap (λ (z : Option RestartHeld). is_some z) made.makes.had) e.made (held.restarts status).1

  abbrev own : ℕ → ℕ → Option Mode
  own o c = claim_in m.holds.marks.locks o c

  -- ---- beside both worlds
  restarts : LocksRestart old.facility own s
  restarts = record {
    member = subst IsMember (sym standing.member) (within old.members at m old.facility.lists.members e.had t.count t.few);
    among = subst (λ z. z ≤ old.facility.lists.members) (sym standing.member) (numbered old.members at old.facility.lists.members m e.had t.count);
    few = t.few;
    restarts = ap (λ z. status_of old.facility.lists.statuses z) (standing.member ∙ sym stood.id) ∙ e.restarting;
    pages = standing.own;
    left = elim standing.left [
      | inl nothing ↦ inl nothing
      | inr h ↦ inr (h.unclaimed, λ id. ap (λ (z : TransState). page_undone z id) h.none_open)
    ];
  }

  knows : Knows (known old.members) own s
  knows o c = ap (λ z. known old.members z o c) standing.member ∙ known_there old at o c m e.had ∙ known_as m q made.makes.had o c

  both : InBoth w l u g content forced (known old.members) own q.resources
  both = record {
    pages = in_pages w u g content forced q.resources p.group p.facility p.drive pages;
    sound = t.sound;
    tied = t.tied;
    restarts = restarts;
    knows = knows;
    owners = owners_stand facts.has e.drive old l w g content forced t p;
    owns = subst (λ (z : Facility). OwnsRestarting z g.owner s) p.facility pages.owns;
  }

  lists : IsListing old.facility s
  lists = subst (λ (z : Facility). IsListing z s) p.facility pages.lists

  abbrev left : Claims
  left = with_own (known old.members) s.member (known_with own now.claim)

  leads : Leads (known old.members) left own s now
  leads = record {
    others = λ k o c ne. own_apart (known old.members) s.member (known_with own now.claim) k o c ne;
    knows = λ o c. own_there (known old.members) s.member (known_with own now.claim) o c;
  }

  follows : Follows s now
  follows = facts.follow (as_restarting u) (as_restarting v) q.resources r.resources e.sent e.answered made.makes.happens

  sets : Sets old.facility.lists new.facility.lists s now
  sets = facts.standings (as_restarting u) (as_restarting v) q.resources r.resources e.sent e.answered made.makes.happens

  spares : SparesOthers g.facility new.facility (at + 1)
  spares = subst (λ z. SparesOthers g.facility new.facility z) standing.member
      (subst (λ (z : Facility). SparesOthers z new.facility s.member) (sym p.facility) (spares_restart facts.spare (as_restarting u) (as_restarting v) q.resources r.resources e.sent e.answered made.makes.happens))

  -- what its member makes of it
  ends : RestartGoesOn r m e.place mid
  ends = subst (λ (b : Bool). RestartEnds b r m e.place mid) e.unfailed made.ends

  holds : n.holds ≡ told_once ends.after
  holds = ap (λ (z : Member). z.holds) e.made.enters.member ∙ ap (λ (z : Member). told_once z.holds) ends.member

  same_restart : n.restart ≡ mid.restart
  same_restart = ap (λ (z : Member). z.restart) e.made.enters.member

  -- ---- it restarts on
  module _ (not_up : made.makes.happens.intent ≢ intent.Up) (tells : RestartTells w g content forced m u e.place e.sent e.answered v mid made) where
    works : e.answered ≢ answered.Failed
    works is = let failed : is_failure e.answered ≡ true = ap is_failure is in never (sym failed ∙ e.unfailed)

    stage_tells : StageTells w u v g content forced q.resources r.resources e.sent e.answered made.makes.happens
    stage_tells = record {
      reading = λ unread. record { whole = tells.whole unread; works = works };
      read = λ read. record { told = tells.told read; quiet = facts.quiet u v g q.resources r.resources e.sent e.answered lists pages.undrawn made.makes.happens; works = works };
    }

    stage : StageGoes w l u v g content forced left own q.resources r.resources e.sent e.answered
    stage = facts.stages w l u v g content forced (known old.members) left own q.resources r.resources e.sent e.answered both made.makes.happens not_up stage_tells (frees_as facts.nobody m.holds.marks e.sent made.keeps) leads

    has_left : HasLeft own now
    has_left = elim standing.left [
      | inl nothing ↦ inl nothing
      | inr h ↦ inr (over (follows.handed standing.order h))
    ]
      where
        over : HasHandedOver now → (now.claim ≡ None) × ((id : ℕ) → page_undone now.trans id ≡ None)
        over h = (h.unclaimed, λ id. ap (λ (z : TransState). page_undone z id) h.none_open)

    standing_now : StandsApart stage.pages.world v stage.pages.left stage.pages.versions stage.pages.force r.resources
    standing_now = parts_of stage.pages.world v stage.pages.left stage.pages.versions stage.pages.force r.resources stage.pages.pages

    left_pages : RestartPages stage.pages.left stage.pages.force r.resources
    left_pages = record {
      restarts = standing_now.restarts;
      stage = standing_now.stage;
      owns = subst (λ (z : Facility). OwnsRestarting z stage.pages.left.owner now) (sym standing_now.facility) (stage.again has_left).owns;
      lists = subst (λ (z : Facility). IsListing z now) (sym standing_now.facility) (facts.lists (as_restarting u) (as_restarting v) q.resources r.resources e.sent e.answered made.makes.happens lists);
      undrawn = facts.undrawn w u v g content forced q.resources r.resources e.sent e.answered lists pages.undrawn made.makes.happens stage.pages;
    }

    same : SameOthers g stage.pages.left forced stage.pages.force (at + 1)
    same = subst (λ z. SameOthers g stage.pages.left forced stage.pages.force z) standing.member stage.pages.others

    now_member : now.member ≡ at + 1
    now_member = follows.member ∙ standing.member

    still : status_of stage.pages.left.facility.lists.statuses (at + 1) ≡ Restarting
    still = subst (λ z. status_of stage.pages.left.facility.lists.statuses z ≡ Restarting) now_member standing_now.restarts.restarts

    here : (x : Option RestartHeld) → n.restart ≡ x → IfSome x (λ (z : RestartHeld). RestartPages stage.pages.left stage.pages.force z.resources) → MemberPages stage.pages.left stage.pages.force (at + 1) n
    here x has restart = holds_restarting stage.pages.left stage.pages.force (at + 1) n.holds n.restart still
        (subst (λ (z : Option RestartHeld). IfSome z (λ (y : RestartHeld). RestartPages stage.pages.left stage.pages.force y.resources)) (sym has) restart) bare
        (cast_as stage.pages.left (at + 1) m.holds n.holds (facts.keep m n u v old.fates new.fates e.place (steps.Restart e.sent e.answered) (ap (λ (z : Option RestartHeld). is_some z) made.makes.had) e.made tt)
        (λ j. ap (λ f. f (at + 1) j) stage.pages.casts ∙ (held.restarts status).2 j))

    behind : MemberPages stage.pages.left stage.pages.force (at + 1) n → PageMoves e.left new w
    behind x = record {
      moves = stage.pages.moves;
      world = stage.pages.world;
      run = stage.pages.run;
      tied = record {
        holdings = stage.pages.left;
        versions = stage.pages.versions;
        forced = stage.pages.force;
        pages = assembled facts.carry e.drive e.left old.facility new.facility old.members new.members at (at + 1) n w stage.pages.world g stage.pages.left content stage.pages.versions forced stage.pages.force (all_named old.facility old.members t.stands) p
            standing_now.group standing_now.facility standing_now.drive same (subst (λ (z : Facility). SparesOthers g.facility z (at + 1)) (sym standing_now.facility) spares)
            (λ j ne. apart_at j at ne) e.has e.others
            (owned_on g stage.pages.left forced stage.pages.force (at + 1) same (omega arith) (subst (λ z. z ≤ stage.pages.left.facility.lists.members) now_member standing_now.restarts.among) p.owned) x;
      };
    }

    -- what it hands over is no page
    rest_pages : (o : HandsOver r m.holds mid.restart ends.left) → RestartPages stage.pages.left stage.pages.force o.rest.resources
    rest_pages o = by o.takes
      where
        by : Takes r o.left o.rest → RestartPages stage.pages.left stage.pages.force o.rest.resources
        by (inl none) = subst (λ (z : RestartHeld). RestartPages stage.pages.left stage.pages.force z.resources) (sym none.1) left_pages
        by (inr all) = subst (λ (z : RestartHeld). RestartPages stage.pages.left stage.pages.force z.resources) (sym all.1) (hands_pages stage.pages.left stage.pages.force r.resources now.kept left_pages)

    -- it isn't over
    by_end : (b : Bool) → now.is_up ≡ b → GoesOn b r m.holds mid.restart ends.left → PageMoves e.left new w
    by_end true up over = absurd (not_over (set_up up))
      where
        set_up : now.is_up ≡ true → new.facility.lists.statuses ≡ slice_set old.facility.lists.statuses (s.member - 1) Up
        set_up is = elim sets.statuses [
          | inl x ↦ absurd (never (sym is ∙ x.0 ∙ standing.on))
          | inr x ↦ x.2
        ]

        not_over : new.facility.lists.statuses ≡ slice_set old.facility.lists.statuses (s.member - 1) Up → ⊥
        not_over is = both_up (status_of new.facility.lists.statuses s.member)
            (ap (λ (z : List MemberStatus). status_of z s.member) is ∙ set_live old.facility.lists.statuses (s.member - 1) (ap (λ z. status_of old.facility.lists.statuses z) (standing.member ∙ sym stood.id) ∙ e.restarting))
            (ap (λ (z : Facility). status_of z.lists.statuses s.member) (sym standing_now.facility) ∙ ap (λ z. status_of stage.pages.left.facility.lists.statuses z) standing.member ∙ still)
    by_end false on over = behind (here (Some over.rest) (same_restart ∙ over.restart) (rest_pages over))

    goes_on : PageMoves e.left new w
    goes_on = by_end now.is_up refl ends.goes_on

  -- ---- it is over
  module _ (is_up : made.makes.happens.intent ≡ intent.Up) where
    needed : need_of s intent.Up ≡ Ok e.sent
    needed = subst (λ i. need_of s i ≡ Ok e.sent) is_up made.makes.happens.lawful

    over : IsOver w v g content forced s.member
    over = facts.ends w l u v g content forced (known old.members) own q.resources r.resources e.sent e.answered both lists made.makes.happens is_up

    free : (j : ℕ) → g.owner j ≢ Some s.member
    free = facts.free old.facility g.owner s e.sent lists both.owns needed

    -- the facility has set its standing
    runs : restarting.Runs (as_restarting u) q.resources intent.Up (sent.Command (command.SetStatus Up)) e.answered made.makes.happens.said (as_restarting v) made.makes.happens.after
    runs = subst (λ x. restarting.Runs (as_restarting u) q.resources intent.Up x e.answered made.makes.happens.said (as_restarting v) made.makes.happens.after) (ups s e.sent needed).is
        (subst (λ i. restarting.Runs (as_restarting u) q.resources i e.sent e.answered made.makes.happens.said (as_restarting v) made.makes.happens.after) is_up made.makes.happens.runs)

    settled_up : made.makes.happens.after.marks.is_up ≡ true
    settled_up = ap (λ (z : RestartHolds). z.marks.is_up) runs.0.settles ∙ ap (λ z. (up_after runs.0.after.marks z).is_up) runs.0.gives.executed.executes.0.0

    now_over : now.is_up ≡ true
    now_over = (facts.local made.makes.happens.after.marks now made.makes.happens.ends.0).up ∙ settled_up

    statuses : new.facility.lists.statuses ≡ slice_set old.facility.lists.statuses (s.member - 1) Up
    statuses = elim sets.statuses [
      | inl x ↦ absurd (never (sym now_over ∙ x.0 ∙ standing.on))
      | inr x ↦ x.2
    ]

    now_up : status_of new.facility.lists.statuses (at + 1) ≡ Up
    now_up = ap (λ z. status_of new.facility.lists.statuses z) (sym standing.member) ∙ ap (λ (z : List MemberStatus). status_of z s.member) statuses
        ∙ set_live old.facility.lists.statuses (s.member - 1) (ap (λ z. status_of old.facility.lists.statuses z) (standing.member ∙ sym stood.id) ∙ e.restarting)

    goes_over : GoesOn true r m.holds mid.restart ends.left
    goes_over = subst (λ (b : Bool). GoesOn b r m.holds mid.restart ends.left) now_over ends.goes_on

    -- it has rested until then
    rested : IsBare m.holds
    rested = (held.restarts status).1

    -- the group holds of it what is on disk, and the pages that were placed in its frames
    abbrev placed_now : ℕ → Copy
    placed_now n = copy_of m.holds.marks.heads m.holds.pages n

    abbrev left_now : Holdings
    left_now = with_copies (with_facility g new.facility) (at + 1) placed_now

    abbrev force_now : ℕ → ℕ
    force_now = put forced (at + 1) 0

    group_now : Group over.goes.world left_now content force_now
    group_now = record {
      good = over.goes.stands.good;
      tied = placed_tied facts.pages over.goes.world (with_facility g new.facility) content (at + 1) m.holds.marks.heads m.holds.pages (λ n. ap (λ z. g.copies z n) (sym standing.member) ∙ over.copies n) rested.frames over.goes.stands.tied;
      numbered = unforced over.goes.world content forced (at + 1) over.goes.stands.numbered;
      sound = over.goes.stands.sound;
    }

    others_now : SameOthers g left_now forced force_now (at + 1)
    others_now = others_placed g (with_facility g new.facility) forced force_now (at + 1) placed_now
        (unforced_others g (with_facility g new.facility) forced (at + 1) (subst (λ z. SameOthers g (with_facility g new.facility) forced forced z) standing.member over.goes.others))

    member_up_now : IsUp left_now force_now (kept_of m.holds)
    member_up_now = record {
      least = subst (λ z. 1 ≤ z) (sym stood.member) (omega arith);
      among = subst (λ z. z ≤ new.facility.lists.members) (sym stood.member) among;
      up = ap (λ z. status_of new.facility.lists.statuses z) stood.member ∙ now_up;
      log = subst (λ z. force_now z ≡ m.holds.marks.log.stable) (sym stood.member) (cond-true (at + 1 == at + 1) 0 (forced (at + 1)) (eq-eqb (at + 1) (at + 1) refl) ∙ sym (ap (λ (z : LogBuffer). z.stable) rested.log));
      last = (let z = ap (λ (z : LogBuffer). z.last) rested.log in omega (arith, z));
      pending = subst (λ z. AreBehind (g.stable z) (g.written z) m.holds.marks.log.pending) (sym stood.member)
          (subst (λ z. AreBehind (g.stable (at + 1)) (g.written (at + 1)) z) (sym (ap (λ (z : LogBuffer). z.pending) rested.log))
          (subst (λ z. AreBehind (g.stable z) (g.written z) []) standing.member (subst (λ z. AreBehind (g.stable s.member) (g.written s.member) z) nothing_left pages.restarts.pending)));
      apart = rested.apart;
      each = rested.each;
      copies = λ j. cond-true (m.holds.marks.member == at + 1) (placed_now j) (g.copies m.holds.marks.member j) (eq-eqb m.holds.marks.member (at + 1) stood.member);
      owns = λ j has. absurd (never (sym has ∙ no_page facts.names m.holds.marks standing.own (page_at j)));
      no_more = λ j none owned. free j (owned ∙ ap Some (stood.member ∙ sym standing.member));
    }
      where
        among : at + 1 ≤ new.facility.lists.members
        among = subst (λ z. at + 1 ≤ z) (sym sets.members) (numbered old.members at old.facility.lists.members m e.had t.count)

        nothing_left : s.log.pending ≡ []
        nothing_left = empty_list s.log.pending (eqb-true (length s.log.pending) 0 (last_pending s e.sent needed))

    first : CrewPages e.left new.facility old.members over.goes.world left_now content force_now
    first = assembled facts.carry e.drive e.left old.facility new.facility old.members old.members at (at + 1) m w over.goes.world g left_now content content forced force_now (all_named old.facility old.members t.stands) p
        group_now refl over.drive others_now spares (λ j ne. apart_at j at ne) e.had (λ j ne. refl)
        (owned_on g left_now forced force_now (at + 1) others_now (omega arith) (subst (λ z. at + 1 ≤ z) (sym sets.members) (numbered old.members at old.facility.lists.members m e.had t.count)) p.owned) here
      where
        here : MemberPages left_now force_now (at + 1) m
        here = holds_up left_now force_now (at + 1) m.holds m.restart stood.member member_up_now (subst (λ z. HasCast g z m.holds.cast m.holds.buffer) (sym stood.member) (held.restarts status).2) (none_in_x facts.names m.holds.marks standing.own)

    is_over_now : PageMoves e.left new w
    is_over_now = moved_behind e.left new w over.goes.world over.goes.moves over.goes.run
        (told_go (record { carry = facts.carry; told = facts.told; told_x = facts.told_x }) e.left new old.members at e.place m n over.goes.world left_now content force_now ends.after (all_named old.facility old.members t.stands) first stood.member
        (up_at left_now force_now old.members at m first.members e.had now_up) (subst (λ (z : Held). Tells z e.place ends.after) goes_over.1 ends.tells) holds e.has e.others)
      where
        up_at : (x : Holdings) (y : ℕ → ℕ) (ms : List Member) (at : ℕ) (m : Member) → ((k : ℕ) → IfSome (slice_get ms k) (MemberPages x y (k + 1))) → slice_get ms at ≡ Some m → status_of x.facility.lists.statuses (at + 1) ≡ Up → UpPages x y m.holds
        up_at x y ms at m each e is = (pages_at x y ms at m each e).up is

  -- ---- whatever was wanted
  goes : RestartTells w g content forced m u e.place e.sent e.answered v mid made → PageMoves e.left new w
  goes tells = elim (ends_or made.makes.happens.intent) [
    | inl is ↦ is_over_now is
    | inr other ↦ goes_on other tells
  ]

pub restart_steps : Facts → RestartStepsGo
restart_steps facts old new at m n l w locks e t tells = goes facts old new at m n l w t.holdings t.versions t.forced locks e t.pages tells
