-- An event of a member that is up, whose it is.
use Rattle.std.proofs.Common.{◌≡◌, ℕ, refl, sym, ◌∙◌, ap, subst, Bool, true, false, inl, inr, List, Option, Some, None, Result, Ok, Err}
use Rattle.std.specs.Prelude.{◌≢◌, ◌⊎◌, ◌+◌, ◌≤◌, ◌==◌, if◌then◌else◌, is_none, is_some, length, slice_get, slice_index_or}
use Rattle.ds_base.specs.Ids.{IsMember}
use Rattle.ds_base.specs.declared.names.PageId.{PageId}
use Rattle.lock_names.specs.declared.mode.Mode.{Mode}
use Rattle.lock_manager.specs.Managers.{Book}
use Rattle.list_structure.specs.Standings.{status_of}
use Rattle.log_reader.specs.declared.calls.LogCall.{LogCall}
use Rattle.log_reader.specs.declared.calls.LogCall.TheVariants as call
use Rattle.checkpoint_reader.specs.Readers.{next_call}
use Rattle.page_records.specs.declared.places.PageRecords.{PageRecords}
use Rattle.facility.specs.declared.command.Command.{Command}
use Rattle.facility.specs.declared.command.Command.TheVariants as command
use Rattle.facility.specs.States.{Held as Facility}
use Rattle.member_intents.specs.declared.outcome.Answered.{Answered}
use Rattle.member_intents.specs.declared.outcome.Sent.{Sent}
use Rattle.member_trans.specs.Trans.{TransState, after_event, free_tran, is_free}
use Rattle.member_marks.specs.Local.{stays}
use Rattle.member_marks.specs.State.{MarksState}
use Rattle.member_resources.specs.Events as event
use Rattle.member_resources.specs.Held.{Held, begun}
use Rattle.rebuild_resources.specs.Events as rebuilding
use Rattle.rebuild_resources.specs.Needs.{Need, call_sent, first_sent, hand_sent, need_of, read_log_need, read_page_need, rebuilt_need, when, write_page_need}
use Rattle.rebuild_resources.specs.State.{RebuildState}
use Rattle.rebuild_resources.specs.declared.intent.RebuildIntent.{RebuildIntent}
use Rattle.rebuild_resources.specs.declared.intent.RebuildIntent.TheVariants as intent
use Rattle.rebuild_resources.specs.declared.intent.RebuildSent.{RebuildSent}
use Rattle.rebuild_resources.specs.declared.intent.RebuildSent.TheVariants as sent
use Rattle.rebuild_resources.specs.declared.intent.RebuildTest.{RebuildTest}
use Rattle.rebuild_resources.specs.declared.told.RebuildTold.{RebuildTold}
use Rattle.restart_marks.specs.declared.intent.RestartSent.{RestartSent}
use Rattle.script_fates.specs.Fated.{FatesState}
use Rattle.group_member.specs.declared.restarting.Restarting.{Restarting}
use Rattle.group_member.specs.declared.rebuilding.Rebuilding.{Rebuilding}
use Rattle.group_member.specs.declared.stepped.Stepped.{Stepped}
use Rattle.group_member.specs.declared.stepped.Stepped.TheVariants as steps
use Rattle.group_member.specs.Entering.{Enters, told_once}
use Rattle.group_member.specs.Happening.{Acts, Makes, RebuildEnds, Rebuilds, Restarts, Steps, Tells, as_rebuilding}
use Rattle.group_member.specs.Members.{Member}
use Rattle.group_member.specs.Stepping.{is_failure}
use Rattle.lock_protocol.specs.Machine.{World}
use Rattle.lock_protocol.specs.Own.{AreOf}
use Rattle.lock_protocol.specs.Sound.{Sound}
use Rattle.lock_world.specs.Books.{IsBook}
use Rattle.lock_world.specs.Tied.{Claims, Tied}
use Rattle.lock_world.specs.Views.{claim_in, entry_in}
use Rattle.lock_events.specs.Given.{Goes, IsUp, Knows, Leads}
use Rattle.lock_events.specs.Events.{EventGoes, ToldGoes}
use Rattle.lock_events.specs.Quiet.{CommandsStay, GoesStay, Quiet, SameLists, is_quiet}
use Rattle.lock_events.specs.Standings.{SameStandings, StandingsStay}
use Rattle.lock_events.specs.Given.{AreSlots, SlotsReach, SlotsStand, SlotsStay, has_own}
use Rattle.lock_members.specs.Known.{KnowsOwn, LeadsTo, known_of, or_else, restart_claim}
use Rattle.lock_members.specs.Members.{MemberGoes, MemberIsUp, StepsGo}

-- what the crates below say
pub record Facts : Type 0 where
  pub local : SlotsReach
  pub slots : SlotsStay
  pub event : EventGoes
  pub told : ToldGoes
  pub standings : StandingsStay
  pub command : CommandsStay
  pub stay : GoesStay

-- ---- without a restart in hand a member knows what its lock manager has
or_none : (x : Option Mode) → or_else x None ≡ x
or_none None = refl
or_none (Some m) = refl

known_as : (m : Member) → m.restart ≡ None → (o c : ℕ) → known_of m o c ≡ claim_in m.holds.marks.locks o c
known_as m e o c = ap (λ (z : Option Restarting). or_else (claim_in m.holds.marks.locks o c) (restart_claim z o c)) e ∙ or_none (claim_in m.holds.marks.locks o c)

knows_marks : (f : Facility) (held : Claims) (m : Member) → MemberIsUp f m → KnowsOwn held m → Knows held m.holds.marks
knows_marks f held m up knows o c = ap (λ z. held z o c) up.id ∙ knows o c ∙ known_as m up.rests o c

-- of what is left, the claims are those of these marks
leads_marks : (f : Facility) (held left : Claims) (m n : Member) (t : MarksState) → MemberIsUp f m → n.restart ≡ None → n.holds.marks.locks ≡ t.locks → LeadsTo held left m n → Leads held left m.holds.marks t
leads_marks f held left m n t up rests same leads = record {
  others = λ k o c ne. leads.others k o c (λ e. ne (e ∙ sym up.id));
  own = λ o c. ap (λ z. left z o c) up.id ∙ leads.own o c ∙ known_as n rests o c ∙ ap (λ (z : Book). claim_in z o c) same;
}

-- ---- the fates are entered
entered_slots : (t u : TransState) (agents : ℕ) → AreSlots t agents → u.slots ≡ t.slots → u.commits ≡ t.commits → AreSlots u agents
entered_slots t u agents h slots commits = record {
  count = subst (λ z. length z ≡ agents + 1) (sym slots) h.count;
  own = subst (λ z. is_free (slice_index_or z 0 free_tran).stage ≡ true) (sym slots) h.own;
  commits = subst (λ z. has_own z ≡ false) (sym commits) h.commits;
}

same_marks : (f : Facility) (s t : MarksState) → IsUp f s → t.locks ≡ s.locks → t.member ≡ s.member → IsUp f t
same_marks f s t up locks member = record {
  member = subst IsMember (sym member) up.member;
  among = subst (λ z. z ≤ f.lists.members) (sym member) up.among;
  few = up.few;
  up = ap (λ z. status_of f.lists.statuses z) member ∙ up.up;
  size = ap (λ (z : Book). z.entries) locks ∙ up.size;
  book = subst IsBook (sym locks) up.book;
}

-- the member with what its event has left, before that
entered : (w : World) (f g : Facility) (left : Claims) (m n : Member) (k : Held) → MemberIsUp f m → n.id ≡ m.id → n.restart ≡ None → n.holds ≡ told_once k → Goes w f g left m.holds.marks k.marks → SlotsStand k.marks → SameStandings f.lists g.lists → MemberGoes w f g left m n
entered w f g left m n k up id rests holds goes slots standings =
    let marks : n.holds.marks ≡ (told_once k).marks = ap (λ (z : Held). z.marks) holds in
    let locks : n.holds.marks.locks ≡ k.marks.locks = ap (λ (z : MarksState). z.locks) marks in
    let member : n.holds.marks.member ≡ k.marks.member = ap (λ (z : MarksState). z.member) marks in record {
      moves = goes.moves;
      own = subst (λ z. AreOf z goes.moves) up.id goes.own;
      moved = goes.moved;
      same = id;
      stands = record {
        up = same_marks g k.marks n.holds.marks goes.stands locks member;
        id = member ∙ goes.same ∙ up.id ∙ sym id;
        slots = subst (λ (z : MarksState). SlotsStand z) (sym marks) (entered_slots k.marks.trans (told_once k).marks.trans k.marks.locks.agents slots refl refl);
        rests = rests;
      };
      standings = standings;
    }

-- ---- its own event
own_goes : Facts → (w : World) (u v : event.World) (held left : Claims) (m mid n : Member) (f g : FatesState) (place : ℕ) (s : Sent) (a : Answered)
    → Sound (entry_in u.facility.locks) w → Tied w u.facility.locks u.facility.lists held → MemberIsUp u.facility m → KnowsOwn held m → Acts m u place s a v mid → Enters mid f n g → LeadsTo held left m n → MemberGoes w u.facility v.facility left m n
own_goes facts w u v held left m mid n f g place s a sound tied up knows acts enters leads =
    let is : n ≡ record m { holds = told_once acts.after } = enters.member ∙ ap (λ (z : Member). record z { holds = told_once z.holds }) acts.member in
    let rests : n.restart ≡ None = ap (λ (z : Member). z.restart) is ∙ up.rests in
    let holds : n.holds ≡ told_once acts.after = ap (λ (z : Member). z.holds) is in
    entered w u.facility v.facility left m n acts.after up (ap (λ (z : Member). z.id) is) rests holds
    (facts.event w u v held left m.holds acts.after acts.intent place s a sound tied up.up up.slots (knows_marks u.facility held m up knows) acts.happens
    (leads_marks u.facility held left m n acts.after.marks up rests (ap (λ (z : Held). z.marks.locks) holds) leads))
    (facts.slots u v m.holds acts.after acts.intent place s a acts.happens up.slots) (facts.standings u v m.holds acts.after acts.intent place s a acts.happens)

-- ---- the event of its rebuild: nothing that it sends changes locks
abbrev pub QuietSent : RebuildSent → Type 0
QuietSent sent.None = Unit {0}
QuietSent (sent.Command c) = is_quiet c ≡ true
QuietSent (sent.LogLength member) = Unit {0}
QuietSent (sent.ReadLog member at count) = Unit {0}
QuietSent (sent.ReadPage page) = Unit {0}
QuietSent (sent.WritePage page) = Unit {0}

abbrev pub QuietNeed : Need → Type 0
QuietNeed (Ok s) = QuietSent s
QuietNeed (Err test) = Unit {0}

quiet_when : (b : Bool) (test : RebuildTest) (rest : Need) → QuietNeed rest → QuietNeed (when b test rest)
quiet_when true test rest q = q
quiet_when false test rest q = tt

quiet_call : (m : ℕ) (c : LogCall) → QuietSent (call_sent m c)
quiet_call m call.Length = tt
quiet_call m (call.Read at count) = tt

quiet_first : (o : Option PageRecords) → QuietNeed (first_sent o)
quiet_first None = tt
quiet_first (Some p) = tt

quiet_hand : (o : Option PageId) → QuietNeed (hand_sent o)
quiet_hand None = tt
quiet_hand (Some page) = tt

quiet_need : (h : RebuildState) (i : RebuildIntent) → QuietNeed (need_of h i)
quiet_need h intent.Step = tt
quiet_need h intent.Claim = refl
quiet_need h intent.ReadLog = quiet_when h.claimed _ _ (quiet_when (is_none h.merged) _ _ (quiet_call h.reader.member (next_call h.reader)))
quiet_need h intent.ReadPage = quiet_when h.claimed _ _ (quiet_when (is_some h.merged) _ _ (quiet_when (is_none h.hand) _ _ (quiet_first (slice_get h.pages 0))))
quiet_need h intent.WritePage = quiet_when h.claimed _ _ (quiet_hand h.hand)
quiet_need h intent.Rebuilt = quiet_when h.claimed _ _ (quiet_when (is_some h.merged) _ _ (quiet_when (length h.pages == 0) _ _ (quiet_when (is_none h.hand) _ _ refl)))
quiet_need h intent.Unclaim = refl

needed : (x : Need) (s : RebuildSent) → x ≡ Ok s → QuietNeed x → QuietSent s
needed x s e q = subst (λ z. QuietNeed z) e q

same_facility : (f g : Facility) → g ≡ f → Quiet f g
same_facility f g e = subst (λ z. Quiet f z) (sym e) (record { locks = refl; lists = record { cells = refl; statuses = refl; members = refl } })

quiet_runs : Facts → (u v : rebuilding.World) (h k : RebuildState) (i : RebuildIntent) (s : RebuildSent) (a : Answered) (said : RebuildTold) → QuietSent s → rebuilding.Runs u h i s a said v k → Quiet u.facility v.facility
quiet_runs facts u v h k i sent.None a said q r = same_facility u.facility v.facility (ap (λ (z : rebuilding.World). z.facility) r.world)
quiet_runs facts u v h k i (sent.Command c) a said q r = facts.command u.facility v.facility h.member c h.page r.0.after.page r.0.answer q r.0.gives.executes
quiet_runs facts u v h k i (sent.LogLength member) a said q r = same_facility u.facility v.facility r.1
quiet_runs facts u v h k i (sent.ReadLog member at count) a said q r = same_facility u.facility v.facility r.1
quiet_runs facts u v h k i (sent.ReadPage page) a said q r = same_facility u.facility v.facility r.1
quiet_runs facts u v h k i (sent.WritePage page) a said q r = same_facility u.facility v.facility r.1

quiet_rebuild : Facts → (m n : Member) (u v : event.World) (place : ℕ) (s : RebuildSent) (a : Answered) → Rebuilds m u place s a v n → Quiet u.facility v.facility
quiet_rebuild facts m n u v place s a r =
    let h = r.makes.happens in
    quiet_runs facts (as_rebuilding u) (as_rebuilding v) r.makes.before.resources r.reached.resources h.intent s a h.said (needed (need_of r.makes.before.resources h.intent) s h.lawful (quiet_need r.makes.before.resources h.intent)) h.runs

-- what the member holds behind it: nothing else, or what its policy has made of what it was told
pub record Behind (m : Member) (place : ℕ) (mid : Member) : Type 0 where
  pub after : Held
  pub tells : (after ≡ m.holds) ⊎ Tells m.holds place after
  pub holds : mid.holds ≡ after
  pub restart : mid.restart ≡ m.restart
  pub id : mid.id ≡ m.id

behind : (m : Member) (place : ℕ) (mid : Member) (q : Rebuilding) (b : Bool) → RebuildEnds b q m place mid → Behind m place mid
behind m place mid q true e = record {
  after = m.holds;
  tells = inl refl;
  holds = ap (λ (z : Member). z.holds) e;
  restart = ap (λ (z : Member). z.restart) e;
  id = ap (λ (z : Member). z.id) e;
}
behind m place mid q false e = record {
  after = e.after;
  tells = inr e.tells;
  holds = ap (λ (z : Member). z.holds) e.member;
  restart = ap (λ (z : Member). z.restart) e.member;
  id = ap (λ (z : Member). z.id) e.member;
}

begun_slots : (s : MarksState) (place : ℕ) → SlotsStand s → AreSlots (after_event s.trans place) s.locks.agents
begun_slots s place h = entered_slots s.trans (after_event s.trans place) s.locks.agents h refl refl

told_slots : Facts → (h : Held) (place : ℕ) (k : Held) → (k ≡ h) ⊎ Tells h place k → SlotsStand h.marks → SlotsStand k.marks
told_slots facts h place k (inl e) slots = subst (λ (z : Held). SlotsStand z.marks) (sym e) slots
told_slots facts h place k (inr ends) slots = facts.local (begun h place).marks k.marks ends.0 (begun_slots h.marks place slots)

told_goes : Facts → (w : World) (u : event.World) (held left : Claims) (m : Member) (place : ℕ) (k : Held) → Sound (entry_in u.facility.locks) w → Tied w u.facility.locks u.facility.lists held → MemberIsUp u.facility m → KnowsOwn held m
    → (k ≡ m.holds) ⊎ Tells m.holds place k → Leads held left m.holds.marks k.marks → Goes w u.facility u.facility left m.holds.marks k.marks
told_goes facts w u held left m place k sound tied up knows (inr ends) leads = facts.told w u held left m.holds k place sound tied up.up (knows_marks u.facility held m up knows) ends leads
told_goes facts w u held left m place k sound tied up knows (inl e) leads =
    let to : Held = begun m.holds place in
    let same : k.marks.locks ≡ to.marks.locks = ap (λ (z : Held). z.marks.locks) e in
    let first : Goes w u.facility u.facility left m.holds.marks to.marks = facts.told w u held left m.holds to place sound tied up.up (knows_marks u.facility held m up knows) (stays to.marks, refl)
    (record { others = leads.others; own = λ o c. leads.own o c ∙ ap (λ (z : Book). claim_in z o c) same }) in
    record {
      moves = first.moves;
      own = first.own;
      moved = first.moved;
      same = ap (λ (z : Held). z.marks.member) e;
      stands = same_marks u.facility to.marks k.marks first.stands same (ap (λ (z : Held). z.marks.member) e);
    }

rebuild_goes : Facts → (w : World) (u v : event.World) (held left : Claims) (m mid n : Member) (f g : FatesState) (place : ℕ) (s : RebuildSent) (a : Answered)
    → Sound (entry_in u.facility.locks) w → Tied w u.facility.locks u.facility.lists held → MemberIsUp u.facility m → KnowsOwn held m → Rebuilds m u place s a v mid → Enters mid f n g → LeadsTo held left m n → MemberGoes w u.facility v.facility left m n
rebuild_goes facts w u v held left m mid n f g place s a sound tied up knows makes enters leads =
    let b : Behind m place mid = behind m place mid makes.reached (is_failure a) makes.ends in
    let quiet : Quiet u.facility v.facility = quiet_rebuild facts m mid u v place s a makes in
    let rests : n.restart ≡ None = ap (λ (z : Member). z.restart) enters.member ∙ b.restart ∙ up.rests in
    let holds : n.holds ≡ told_once b.after = ap (λ (z : Member). z.holds) enters.member ∙ ap (λ (z : Held). told_once z) b.holds in
    entered w u.facility v.facility left m n b.after up (ap (λ (z : Member). z.id) enters.member ∙ b.id) rests holds
    (facts.stay w u.facility u.facility v.facility left m.holds.marks b.after.marks quiet
    (told_goes facts w u held left m place b.after sound tied up knows b.tells (leads_marks u.facility held left m n b.after.marks up rests (ap (λ (z : Held). z.marks.locks) holds) leads)))
    (told_slots facts m.holds place b.after b.tells up.slots) (record { statuses = quiet.lists.statuses; members = quiet.lists.members })

-- ---- whose event it is; no restart is in hand
no_restart : (m n : Member) (u v : event.World) (place : ℕ) (s : RestartSent) (a : Answered) → m.restart ≡ None → Restarts m u place s a v n → ⊥
no_restart m n u v place s a rests r = let never : Some r.makes.before ≡ None = sym r.makes.had ∙ rests in cc

made : Facts → (w : World) (u v : event.World) (held left : Claims) (m mid n : Member) (f g : FatesState) (place : ℕ) (stepped : Stepped)
    → Sound (entry_in u.facility.locks) w → Tied w u.facility.locks u.facility.lists held → MemberIsUp u.facility m → KnowsOwn held m → Makes m u place stepped v mid → Enters mid f n g → LeadsTo held left m n → MemberGoes w u.facility v.facility left m n
made facts w u v held left m mid n f g place (steps.Sent s a) sound tied up knows makes enters leads = own_goes facts w u v held left m mid n f g place s a sound tied up knows makes enters leads
made facts w u v held left m mid n f g place (steps.Restart s a) sound tied up knows makes enters leads = absurd (no_restart m mid u v place s a up.rests makes)
made facts w u v held left m mid n f g place (steps.Rebuild s a) sound tied up knows makes enters leads = rebuild_goes facts w u v held left m mid n f g place s a sound tied up knows makes enters leads
made facts w u v held left m mid n f g place steps.Failed sound tied up knows makes enters leads = absurd makes

pub steps_go : Facts → StepsGo
steps_go facts w u v held left m n f g place stepped sound tied up knows makes leads = made facts w u v held left m makes.mid n f g place stepped sound tied up knows makes.makes makes.enters leads
