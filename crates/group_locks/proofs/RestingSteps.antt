-- The other events of a member whose restart is in hand.
use Rattle.std.proofs.Common.{◌≡◌, ℕ, zero, suc, ◌+◌, ◌≤◌, ◌<◌, refl, sym, ◌∙◌, ap, subst, arith, Bool, true, false, inl, inr, List, [], ◌∷◌, length, Option, Some, None, Ok, Err}
use Rattle.std.specs.Prelude.{◌⊎◌, ◌==◌, IfSome, is_none, is_some, slice_get, slice_index_or}
use Rattle.std.proofs.lemmas.Bool.{cases_eq}
use Rattle.std.proofs.lemmas.Option.{slice_get_within}
use Rattle.ds_base.specs.Ids.{IsMember}
use Rattle.ds_base.specs.declared.names.PageId.{PageId}
use Rattle.ds_base.specs.declared.names.Sizes.{Sizes}
use Rattle.lock_names.specs.declared.mode.Mode.{Mode}
use Rattle.list_structure.specs.declared.standing.MemberStatus.{MemberStatus}
use Rattle.list_structure.specs.declared.standing.MemberStatus.TheVariants.{Restarting, Up}
use Rattle.list_structure.specs.Standings.{is_live, status_of}
use Rattle.log_reader.specs.declared.calls.LogCall.{LogCall}
use Rattle.log_reader.specs.declared.calls.LogCall.TheVariants as call
use Rattle.checkpoint_reader.specs.Readers.{next_call}
use Rattle.page_records.specs.declared.places.PageRecords.{PageRecords}
use Rattle.facility.specs.States.{Held as Facility}
use Rattle.member_intents.specs.declared.outcome.Answered.{Answered}
use Rattle.member_intents.specs.declared.outcome.Sent.{Sent}
use Rattle.member_trans.specs.Trans.{TransState, TranState, after_event, free_tran, is_free}
use Rattle.member_marks.specs.Local.{Reaches}
use Rattle.member_marks.specs.State.{MarksState}
use Rattle.member_resources.specs.Events.{World as Resources}
use Rattle.member_resources.specs.Held.{Held, begun}
use Rattle.rebuild_resources.specs.Events as rebuilding
use Rattle.rebuild_resources.specs.Needs.{Need, call_sent, first_sent, hand_sent, need_of, when}
use Rattle.rebuild_resources.specs.State.{RebuildState}
use Rattle.rebuild_resources.specs.declared.intent.RebuildIntent.{RebuildIntent}
use Rattle.rebuild_resources.specs.declared.intent.RebuildIntent.TheVariants as intent
use Rattle.rebuild_resources.specs.declared.intent.RebuildSent.{RebuildSent}
use Rattle.rebuild_resources.specs.declared.intent.RebuildSent.TheVariants as sent
use Rattle.rebuild_resources.specs.declared.intent.RebuildTest.{RebuildTest}
use Rattle.rebuild_resources.specs.declared.told.RebuildTold.{RebuildTold}
use Rattle.script_fates.specs.Fated.{FatesState}
use Rattle.group_member.specs.declared.restarting.Restarting.{Restarting as RestartHeld}
use Rattle.group_member.specs.declared.rebuilding.Rebuilding.{Rebuilding}
use Rattle.group_member.specs.declared.stepped.Stepped.{Stepped}
use Rattle.group_member.specs.declared.stepped.Stepped.TheVariants as steps
use Rattle.group_member.specs.Entering.{Enters, told_once}
use Rattle.group_member.specs.Happening.{Acts, RebuildEnds, Rebuilds, Steps, Tells, as_rebuilding}
use Rattle.group_member.specs.Members.{Member}
use Rattle.group_member.specs.Resting.{NoneInSlots, RestsIdle}
use Rattle.group_member.specs.Stepping.{is_failure}
use Rattle.group_core.specs.Given.{CrewState}
use Rattle.marks_law.specs.Slots.{AreSlots, SlotsReach, SlotsStand, SlotsStay, SlotsTell, has_own}
use Rattle.put_records.specs.Resting.{HasNothing, LocalsLeave, NothingWaits}
use Rattle.lock_protocol.specs.Machine.{World}
use Rattle.lock_protocol.specs.Sound.{RunKeepsSound}
use Rattle.lock_world.specs.Books.{IsBook, RollbackWaits}
use Rattle.lock_world.specs.Standing.{StaysTied}
use Rattle.lock_world.specs.Tied.{Moved, Tied}
use Rattle.lock_world.specs.Views.{claim_in}
use Rattle.lock_members.specs.Given.{CommandsStay, Quiet, is_quiet}
use Rattle.lock_members.specs.Known.{known_of, or_else, restart_claim}
use Rattle.lock_members.specs.Members.{StepsKeepFree}
use Rattle.group_locks.specs.Events.{Moves, OfMember}
use Rattle.group_locks.specs.Resting.{RestingMoves, RestingStepsAt, RestingStepsMove, is_restart}
use Rattle.group_locks.specs.Stands.{LocksTied, MemberStands, RestartInHand, known, known_by}
use Rattle.group_locks.proofs.Answering.{FacilityGoes, OwnGoes, Stands, by_quiet, own_goes}
use Rattle.group_locks.proofs.Answering as answering
use Rattle.group_locks.proofs.Idle.{no_page, none_own, pending_same}
use Rattle.group_locks.proofs.Moved.{stands_on, still_sound}
use Rattle.group_locks.proofs.Resting.{AreFree, IsBusy, SameOwn, all_free, locals_rest, not_both, own_same, reaches_busy}
use Rattle.group_locks.proofs.Whole.{within}

pub record Facts : Type 0 where
  pub run : RunKeepsSound
  pub stay : StaysTied
  pub waits : RollbackWaits
  pub tell : SlotsTell
  pub reach : SlotsReach
  pub slots : SlotsStay
  pub command : CommandsStay
  pub keep : StepsKeepFree
  pub answer : answering.Facts
  pub nothing : NothingWaits
  pub leave : LocalsLeave

never : true ≡ false → ⊥
never e = cc

-- ---- the event of its rebuild: nothing that it sends changes locks
abbrev QuietSent : RebuildSent → Type 0
QuietSent sent.None = Unit {0}
QuietSent (sent.Command c) = is_quiet c ≡ true
QuietSent (sent.LogLength member) = Unit {0}
QuietSent (sent.ReadLog member at count) = Unit {0}
QuietSent (sent.ReadPage page) = Unit {0}
QuietSent (sent.WritePage page) = Unit {0}

abbrev QuietNeed : Need → Type 0
QuietNeed (Ok s) = QuietSent s
QuietNeed (Err test) = Unit {0}

quiet_when : (b : Bool) (test : RebuildTest) (rest : Need) → QuietNeed rest → QuietNeed (when b test rest)
quiet_when true test rest q = q
quiet_when false test rest q = tt

quiet_call : (m : ℕ) (c : LogCall) → QuietSent (call_sent m c)
quiet_call m call.Length = tt
quiet_call m (call.Read at count) = tt

quiet_first : (o : Option PageRecords) → QuietNeed (first_sent o)
quiet_first None = tt
quiet_first (Some p) = tt

quiet_hand : (o : Option PageId) → QuietNeed (hand_sent o)
quiet_hand None = tt
quiet_hand (Some page) = tt

quiet_need : (h : RebuildState) (i : RebuildIntent) → QuietNeed (need_of h i)
quiet_need h intent.Step = tt
quiet_need h intent.Claim = refl
quiet_need h intent.ReadLog = quiet_when h.claimed _ _ (quiet_when (is_none h.merged) _ _ (quiet_call h.reader.member (next_call h.reader)))
quiet_need h intent.ReadPage = quiet_when h.claimed _ _ (quiet_when (is_some h.merged) _ _ (quiet_when (is_none h.hand) _ _ (quiet_first (slice_get h.pages 0))))
quiet_need h intent.WritePage = quiet_when h.claimed _ _ (quiet_hand h.hand)
quiet_need h intent.Rebuilt = quiet_when h.claimed _ _ (quiet_when (is_some h.merged) _ _ (quiet_when (length h.pages == 0) _ _ (quiet_when (is_none h.hand) _ _ refl)))
quiet_need h intent.Unclaim = refl

needed : (x : Need) (s : RebuildSent) → x ≡ Ok s → QuietNeed x → QuietSent s
needed x s e q = subst (λ z. QuietNeed z) e q

same_facility : (f g : Facility) → g ≡ f → Quiet f g
same_facility f g e = subst (λ z. Quiet f z) (sym e) (record { locks = refl; lists = record { cells = refl; statuses = refl; members = refl } })

quiet_runs : Facts → (u v : rebuilding.World) (h k : RebuildState) (i : RebuildIntent) (s : RebuildSent) (a : Answered) (said : RebuildTold) → QuietSent s → rebuilding.Runs u h i s a said v k → Quiet u.facility v.facility
quiet_runs facts u v h k i sent.None a said q r = same_facility u.facility v.facility (ap (λ (z : rebuilding.World). z.facility) r.world)
quiet_runs facts u v h k i (sent.Command c) a said q r = facts.command u.facility v.facility h.member c h.page r.0.after.page r.0.answer q r.0.gives.executes
quiet_runs facts u v h k i (sent.LogLength member) a said q r = same_facility u.facility v.facility r.1
quiet_runs facts u v h k i (sent.ReadLog member at count) a said q r = same_facility u.facility v.facility r.1
quiet_runs facts u v h k i (sent.ReadPage page) a said q r = same_facility u.facility v.facility r.1
quiet_runs facts u v h k i (sent.WritePage page) a said q r = same_facility u.facility v.facility r.1

quiet_rebuild : Facts → (m n : Member) (u v : Resources) (place : ℕ) (s : RebuildSent) (a : Answered) → Rebuilds m u place s a v n → Quiet u.facility v.facility
quiet_rebuild facts m n u v place s a r =
    let h = r.makes.happens in
    quiet_runs facts (as_rebuilding u) (as_rebuilding v) r.makes.before.resources r.reached.resources h.intent s a h.said (needed (need_of r.makes.before.resources h.intent) s h.lawful (quiet_need r.makes.before.resources h.intent)) h.runs

-- what the member holds behind it: nothing else, or what its policy has made of what it was told
record Behind (m : Member) (place : ℕ) (mid : Member) : Type 0 where
  pub after : Held
  pub tells : (after ≡ m.holds) ⊎ Tells m.holds place after
  pub holds : mid.holds ≡ after
  pub restart : mid.restart ≡ m.restart
  pub id : mid.id ≡ m.id

behind : (m : Member) (place : ℕ) (mid : Member) (q : Rebuilding) (b : Bool) → RebuildEnds b q m place mid → Behind m place mid
behind m place mid q true e = record {
  after = m.holds;
  tells = inl refl;
  holds = ap (λ (z : Member). z.holds) e;
  restart = ap (λ (z : Member). z.restart) e;
  id = ap (λ (z : Member). z.id) e;
}
behind m place mid q false e = record {
  after = e.after;
  tells = inr e.tells;
  holds = ap (λ (z : Member). z.holds) e.member;
  restart = ap (λ (z : Member). z.restart) e.member;
  id = ap (λ (z : Member). z.id) e.member;
}

-- ---- slots
kept_slots : (t u : TransState) (agents : ℕ) → AreSlots t agents → u.slots ≡ t.slots → u.commits ≡ t.commits → AreSlots u agents
kept_slots t u agents h slots commits = record {
  count = subst (λ (z : List TranState). length z ≡ agents + 1) (sym slots) h.count;
  own = subst (λ (z : List TranState). is_free (slice_index_or z 0 free_tran).stage ≡ true) (sym slots) h.own;
  commits = subst (λ z. has_own z ≡ false) (sym commits) h.commits;
}

begun_slots : (h : Held) (place : ℕ) → SlotsStand h.marks → SlotsStand (begun h place).marks
begun_slots h place k = kept_slots h.marks.trans (after_event h.marks.trans place) h.marks.locks.agents k refl refl

told_slots : (s : MarksState) (h : Held) → s ≡ (told_once h).marks → SlotsStand h.marks → SlotsStand s
told_slots s h e k = subst (λ (z : MarksState). SlotsStand z) (sym e) (kept_slots h.marks.trans (told_once h).marks.trans h.marks.locks.agents k refl refl)

told_none : (s : MarksState) (h : Held) → s ≡ (told_once h).marks → NoneInSlots h.marks → NoneInSlots s
told_none s h e none = subst (λ (z : MarksState). NoneInSlots z) (sym e) none

free_or_busy : (ts : List TranState) → AreFree ts ⊎ IsBusy ts
free_or_busy [] = inl (λ i. refl)
free_or_busy (t ∷ ts) = first (is_free t.stage) refl (free_or_busy ts)
  where
    all : (ts : List TranState) → is_free t.stage ≡ true → AreFree ts → (i : ℕ) → is_free (slice_index_or (t ∷ ts) i free_tran).stage ≡ true
    all ts e rest zero = e
    all ts e rest (suc i) = rest i

    first : (b : Bool) → is_free t.stage ≡ b → AreFree ts ⊎ IsBusy ts → AreFree (t ∷ ts) ⊎ IsBusy (t ∷ ts)
    first true e (inl rest) = inl (all ts e rest)
    first true e (inr busy) = inr (suc busy.0, busy.1)
    first false e rest = inr (zero, e)

-- where no slot has a transaction behind the local moves, none has one before
reached_rest : Facts → (s t : MarksState) → Reaches s t → IsBook s.locks → SlotsStand t → NoneInSlots t → SameOwn s t
reached_rest facts s t r book slots none =
    let last = all_free facts.tell t slots none in
    elim (free_or_busy s.trans.slots) [
      | inl free ↦ locals_rest facts.waits s t r book free last
      | inr busy ↦ absurd (not_both t.trans.slots last (reaches_busy s t r busy))
    ]

-- ---- the member behind it
record Left (m n : Member) : Type 0 where
  pub id : n.id ≡ m.id
  pub restart : n.restart ≡ m.restart
  pub own : SameOwn m.holds.marks n.holds.marks
  pub slots : SlotsStand n.holds.marks
  pub none : NoneInSlots n.holds.marks
  pub idle : m.holds.marks.log.pending ≡ [] → n.holds.marks.log.pending ≡ []

own_on : (s t u : MarksState) → SameOwn s t → SameOwn t u → SameOwn s u
own_on s t u a b = record {
  claims = λ o c. b.claims o c ∙ a.claims o c;
  book = b.book;
  member = b.member ∙ a.member;
  entries = b.entries ∙ a.entries;
  agents = b.agents ∙ a.agents;
}

-- the fates are entered
entered : (m mid n : Member) (h : Held) (f g : FatesState) → Enters mid f n g → mid.holds ≡ h → mid.id ≡ m.id → mid.restart ≡ m.restart → SameOwn m.holds.marks h.marks → SlotsStand h.marks → NoneInSlots h.marks
    → (m.holds.marks.log.pending ≡ [] → h.marks.log.pending ≡ []) → Left m n
entered m mid n h f g enters holds id restart own slots none idle =
    let marks : n.holds.marks ≡ (told_once h).marks = ap (λ (z : Member). z.holds.marks) enters.member ∙ ap (λ (z : Held). (told_once z).marks) holds in
    let locks : n.holds.marks.locks ≡ h.marks.locks = ap (λ (z : MarksState). z.locks) marks in
    record {
      id = ap (λ (z : Member). z.id) enters.member ∙ id;
      restart = ap (λ (z : Member). z.restart) enters.member ∙ restart;
      own = own_on m.holds.marks h.marks n.holds.marks own (own_same h.marks n.holds.marks own.book locks (ap (λ (z : MarksState). z.member) marks));
      slots = told_slots n.holds.marks h marks slots;
      none = told_none n.holds.marks h marks none;
      idle = λ e. ap (λ (z : MarksState). z.log.pending) marks ∙ idle e;
    }

both_up : (s : MemberStatus) → s ≡ Up → s ≡ Restarting → ⊥
both_up s a b = cc

live_restarting : (s : MemberStatus) → s ≡ Restarting → is_live s ≡ true
live_restarting s a = ap is_live a

numbered : (ms : List Member) (k : ℕ) (x : Member) → slice_get ms k ≡ Some x → k + 1 ≤ length ms
numbered ms k x h = let a : k < length ms = slice_get_within ms k x h in omega (arith, a)

in_hand : (k : ℕ) (m n : Member) (x : Option RestartHeld) → ((o c : ℕ) → claim_in n.holds.marks.locks o c ≡ claim_in m.holds.marks.locks o c) → (m.holds.marks.log.pending ≡ [] → n.holds.marks.log.pending ≡ [])
    → RestartInHand k m x → RestartInHand k n x
in_hand k m n None same idle h = tt
in_hand k m n (Some q) same idle h = record {
  member = h.member;
  on = h.on;
  order = h.order;
  own = λ c. same 0 c ∙ h.own c;
  left = elim h.left [
    | inl nothing ↦ inl (λ o c. same o c ∙ nothing o c)
    | inr over ↦ inr over
  ];
  idle = idle h.idle;
}

-- ---- the group
module _ (facts : Facts) (old new : CrewState) (at : ℕ) (m n : Member) (w : World) (t : LocksTied old w) (e : RestingStepsAt old new at m n) where
  stood : MemberStands old.facility (at + 1) m
  stood = subst (λ (z : Option Member). IfSome z (MemberStands old.facility (at + 1))) e.had (t.stands at)

  next : (k : ℕ) → k ≡ at → suc k ≡ m.id
  next k same = let id = stood.id in omega (arith, same, id)

  marks_member : m.holds.marks.member ≡ m.id
  marks_member = stood.member ∙ sym stood.id

  is_restarting : status_of old.facility.lists.statuses (at + 1) ≡ Restarting
  is_restarting = ap (λ z. status_of old.facility.lists.statuses z) (sym stood.id) ∙ e.restarting

  own_stands : Stands w old.facility (known old.members) m.id m.holds.marks m.restart
  own_stands = record {
    tied = t.tied;
    member = subst IsMember (sym stood.id) (within old.members at m old.facility.lists.members e.had t.count t.few);
    among = subst (λ z. z ≤ old.facility.lists.members) (sym stood.id) (subst (λ z. at + 1 ≤ z) t.count (numbered old.members at m e.had));
    live = live_restarting (status_of old.facility.lists.statuses m.id) e.restarting;
    own = marks_member;
    knows = λ o c. ap (λ z. known old.members z o c) (sym (next at refl)) ∙ ap (λ (z : Option Member). known_by z o c) e.had;
  }

  moves_by : FacilityGoes m.id w old.facility new.facility (known old.members) → Left m n → RestingMoves old new w m n
  moves_by goes left = record {
    moves = record {
      entries = goes.moved.same;
      moves = goes.moves;
      are = goes.by;
      world = goes.moved.world;
      run = goes.moved.run;
      tied = record {
        sound = still_sound facts.run w goes.moves old.facility.locks new.facility.locks new.facility.lists (known old.members) t.sound goes.moved;
        tied = subst (λ (z : World). Tied z new.facility.locks new.facility.lists (known new.members)) still.run still.tied;
        count = e.count ∙ t.count ∙ sym goes.members;
        few = subst (λ z. z ≤ 32) (sym goes.members) t.few;
        agents = subst (λ (z : Sizes). z.agents ≤ 16) (sym e.sizes) t.agents;
        entries = goes.moved.same ∙ t.entries ∙ ap (λ (z : Sizes). z.locks) (sym e.sizes);
        stands = stands_at;
      };
    };
    claims = goes.claims;
    statuses = goes.statuses;
    restart = left.restart;
  }
    where
      same_known : (o c : ℕ) → known_of n o c ≡ known_of m o c
      same_known o c = ap (λ (z : Option Mode). or_else z (restart_claim n.restart o c)) (left.own.claims o c) ∙ ap (λ (z : Option RestartHeld). or_else (claim_in m.holds.marks.locks o c) (restart_claim z o c)) left.restart

      claims : (k o c : ℕ) → known new.members k o c ≡ known old.members k o c
      claims zero o c = refl
      claims (suc k) o c = elim (cases_eq k at) [
        | inl same ↦ subst (λ z. known_by (slice_get new.members z) o c ≡ known_by (slice_get old.members z) o c) (sym same)
            (ap (λ (z : Option Member). known_by z o c) e.has ∙ same_known o c ∙ sym (ap (λ (z : Option Member). known_by z o c) e.had))
        | inr ne ↦ ap (λ (z : Option Member). known_by z o c) (e.others k ne)
      ]

      still : Moved goes.moved.world [] new.facility.locks new.facility.locks new.facility.lists (known new.members)
      still = facts.stay goes.moved.world new.facility.locks new.facility.lists new.facility.lists (known old.members) (known new.members) goes.moved.tied (record { cells = refl; statuses = refl; members = refl; claims = claims })

      status : (k : ℕ) → status_of new.facility.lists.statuses k ≡ status_of old.facility.lists.statuses k
      status k = ap (λ (z : List MemberStatus). status_of z k) goes.statuses

      now_restarting : status_of new.facility.lists.statuses (at + 1) ≡ Restarting
      now_restarting = status (at + 1) ∙ is_restarting

      here : MemberStands new.facility (at + 1) n
      here = record {
        id = left.id ∙ stood.id;
        member = left.own.member ∙ stood.member;
        size = left.own.entries ∙ stood.size ∙ sym goes.moved.same;
        book = left.own.book;
        slots = left.slots;
        free = facts.keep m n (record { facility = old.facility; drive = e.drive }) (record { facility = new.facility; drive = e.left }) old.fates new.fates e.place e.stepped e.made stood.free;
        up = λ z. absurd (both_up (status_of new.facility.lists.statuses (at + 1)) z now_restarting);
        restarts = λ _. ap (λ (z : Option RestartHeld). is_some z) left.restart ∙ stood.restarts is_restarting;
        rests = λ _. left.none;
        restart = subst (λ (z : Option RestartHeld). RestartInHand (at + 1) n z) (sym left.restart) (in_hand (at + 1) m n m.restart left.own.claims left.idle stood.restart);
        down = λ z. absurd (never (sym (live_restarting (status_of new.facility.lists.statuses (at + 1)) now_restarting) ∙ z));
      }

      on : (k : ℕ) (x : Option Member) → IfSome x (MemberStands old.facility (k + 1)) → IfSome x (MemberStands new.facility (k + 1))
      on k None h = tt
      on k (Some x) h = stands_on old.facility new.facility (k + 1) x h goes.moved.same (status (k + 1))

      stands_at : (k : ℕ) → IfSome (slice_get new.members k) (MemberStands new.facility (k + 1))
      stands_at k = elim (cases_eq k at) [
        | inl same ↦ subst (λ z. IfSome (slice_get new.members z) (MemberStands new.facility (z + 1))) (sym same) (subst (λ (z : Option Member). IfSome z (MemberStands new.facility (at + 1))) (sym e.has) here)
        | inr ne ↦ subst (λ (z : Option Member). IfSome z (MemberStands new.facility (k + 1))) (sym (e.others k ne)) (on k (slice_get old.members k) (t.stands k))
      ]

  abbrev u : Resources
  u = record { facility = old.facility; drive = e.drive }

  abbrev v : Resources
  v = record { facility = new.facility; drive = e.left }

  some_restart : is_some m.restart ≡ true
  some_restart = stood.restarts is_restarting

  has_nothing : HasNothing m.holds.marks
  has_nothing = record {
    free = λ slot. all_free facts.tell m.holds.marks stood.slots (stood.rests some_restart) slot;
    unclaimed = no_page facts.answer.numbers m.holds.marks (none_own (at + 1) m m.restart some_restart stood.restart);
  }

  -- its own event
  acts : (mid : Member) (s : Sent) (a : Answered) → Acts m u e.place s a v mid → RestsIdle mid → Enters mid old.fates n new.fates → RestingMoves old new w m n
  acts mid s a made idle enters = moves_by own.goes
      (entered m mid n made.after old.fates new.fates enters holds (ap (λ (z : Member). z.id) made.member) restart (own_on m.holds.marks made.happens.after.marks made.after.marks first rests) slots none idle_after)
    where
      own : OwnGoes m.id w old.facility new.facility (known old.members) m.holds.marks made.happens.after.marks
      own = own_goes facts.answer w u v (known old.members) m.id m.holds made.after m.restart made.intent e.place s a own_stands (made.rests some_restart) made.keeps made.happens

      holds : mid.holds ≡ made.after
      holds = ap (λ (z : Member). z.holds) made.member

      restart : mid.restart ≡ m.restart
      restart = ap (λ (z : Member). z.restart) made.member

      idle_after : m.holds.marks.log.pending ≡ [] → made.after.marks.log.pending ≡ []
      idle_after z = facts.nothing u v m.holds made.after made.intent e.place s a made.happens has_nothing z

      slots : SlotsStand made.after.marks
      slots = facts.slots u v m.holds made.after made.intent e.place s a made.happens stood.slots

      none : NoneInSlots made.after.marks
      none = subst (λ (z : Held). NoneInSlots z.marks) holds (idle (ap (λ (z : Option RestartHeld). is_some z) restart ∙ some_restart))

      first : SameOwn m.holds.marks made.happens.after.marks
      first = own_same m.holds.marks made.happens.after.marks stood.book own.locks own.member

      rests : SameOwn made.happens.after.marks made.after.marks
      rests = reached_rest facts made.happens.after.marks made.after.marks made.happens.ends.0 first.book slots none

  -- that of its rebuild
  rebuilds : (mid : Member) (s : RebuildSent) (a : Answered) → Rebuilds m u e.place s a v mid → RestsIdle mid → Enters mid old.fates n new.fates → RestingMoves old new w m n
  rebuilds mid s a made idle enters = moves_by (by_quiet facts.answer m.id w old.facility new.facility (known old.members) t.tied (quiet_rebuild facts m mid u v e.place s a made))
      (entered m mid n back.after old.fates new.fates enters back.holds back.id back.restart own slots none (idle_by back.tells))
    where
      back : Behind m e.place mid
      back = behind m e.place mid made.reached (is_failure a) made.ends

      none : NoneInSlots back.after.marks
      none = subst (λ (z : Held). NoneInSlots z.marks) back.holds (idle (ap (λ (z : Option RestartHeld). is_some z) back.restart ∙ some_restart))

      idle_by : (back.after ≡ m.holds) ⊎ Tells m.holds e.place back.after → m.holds.marks.log.pending ≡ [] → back.after.marks.log.pending ≡ []
      idle_by (inl same) z = ap (λ (x : Held). x.marks.log.pending) same ∙ z
      idle_by (inr tells) z = pending_same (begun m.holds e.place).marks back.after.marks (facts.leave (begun m.holds e.place).marks back.after.marks tells.0) ∙ z

      slots_by : (back.after ≡ m.holds) ⊎ Tells m.holds e.place back.after → SlotsStand back.after.marks
      slots_by (inl same) = subst (λ (z : Held). SlotsStand z.marks) (sym same) stood.slots
      slots_by (inr tells) = facts.reach (begun m.holds e.place).marks back.after.marks tells.0 (begun_slots m.holds e.place stood.slots)

      slots : SlotsStand back.after.marks
      slots = slots_by back.tells

      own_by : (back.after ≡ m.holds) ⊎ Tells m.holds e.place back.after → SameOwn m.holds.marks back.after.marks
      own_by (inl same) = own_same m.holds.marks back.after.marks stood.book (ap (λ (z : Held). z.marks.locks) same) (ap (λ (z : Held). z.marks.member) same)
      own_by (inr tells) =
          let rests = reached_rest facts (begun m.holds e.place).marks back.after.marks tells.0 stood.book slots none in
          record { claims = rests.claims; book = rests.book; member = rests.member; entries = rests.entries; agents = rests.agents }

      own : SameOwn m.holds.marks back.after.marks
      own = own_by back.tells

  by_step : (stepped : Stepped) → stepped ≡ e.stepped → RestingMoves old new w m n
  by_step (steps.Sent s a) is = let made = subst (λ (z : Stepped). Steps m u old.fates e.place z n v new.fates) (sym is) e.made in acts made.mid s a made.makes made.idle made.enters
  by_step (steps.Rebuild s a) is = let made = subst (λ (z : Stepped). Steps m u old.fates e.place z n v new.fates) (sym is) e.made in rebuilds made.mid s a made.makes made.idle made.enters
  by_step (steps.Restart s a) is = absurd (never (ap (λ (z : Stepped). is_restart z) is ∙ e.other))
  by_step steps.Failed is = let made = subst (λ (z : Stepped). Steps m u old.fates e.place z n v new.fates) (sym is) e.made in absurd made.makes

pub resting_steps : Facts → RestingStepsMove
resting_steps facts old new at m n w t e = by_step facts old new at m n w t e e.stepped refl
