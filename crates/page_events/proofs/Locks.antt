-- Locks that are taken and given up, and all intents that leave the pages.
use Rattle.std.proofs.Common.{◌≡◌, ◌≢◌, ℕ, refl, sym, ◌∙◌, ap, subst, Bool, true, false, inl, inr, List, Option, Some, None}
use Rattle.std.specs.Prelude.{◌⊎◌, ◌==◌, if◌then◌else◌}
use Rattle.std.proofs.lemmas.Bool.{both_ways, cases_Bool, cases_eq, cond-true, eq-eqb}
use Rattle.std.proofs.lemmas.Option.{none-some, same_Some}
use Rattle.ds_base.specs.declared.names.PageId.{PageId}
use Rattle.ds_base.specs.declared.names.TranId.{TranId}
use Rattle.ds_model.specs.declared.fate.Refusal.TheVariants as refusal
use Rattle.ds_model.specs.declared.lock.Name.{Name}
use Rattle.ds_model.specs.declared.lock.Name.TheVariants as name
use Rattle.lock_names.specs.declared.mode.Interest.{Interest}
use Rattle.lock_names.specs.declared.mode.Mode.{Mode}
use Rattle.lock_manager.specs.Buckets.{AreDistinct}
use Rattle.lock_manager.specs.Managers.{claims_of, page_told}
use Rattle.cache_structure.specs.Directory.{after_lose}
use Rattle.cache_structure.specs.Sound.{IsSound}
use Rattle.list_structure.specs.declared.query.Cell.{Cell}
use Rattle.list_structure.specs.declared.query.CellAnswer.TheVariants as cell
use Rattle.facility.specs.declared.command.Command.{Command}
use Rattle.facility.specs.declared.command.Command.TheVariants as command
use Rattle.facility.specs.declared.command.Reply.{Reply}
use Rattle.facility.specs.declared.command.Reply.TheVariants as reply
use Rattle.facility.specs.LockCommands.{GrantsLock, ObtainsLock}
use Rattle.list_structure.specs.Standings.{status_of}
use Rattle.facility.specs.States.{Held as Facility}
use Rattle.member_intents.specs.declared.intent.Intent.{Intent}
use Rattle.member_intents.specs.declared.intent.Intent.TheVariants as intent
use Rattle.member_intents.specs.declared.outcome.Answered.{Answered}
use Rattle.member_intents.specs.declared.outcome.Answered.TheVariants as answered
use Rattle.member_intents.specs.declared.outcome.Sent.{Sent}
use Rattle.member_intents.specs.Cells.{cell_slot}
use Rattle.member_trans.specs.declared.fate.Owner.{Owner}
use Rattle.member_trans.specs.declared.fate.Owner.TheVariants as owner
use Rattle.member_marks.specs.State.{MarksState}
use Rattle.member_marks.specs.Claims.{has_page, is_for_agents}
use Rattle.member_needs.specs.declared.plans.Plan.{Plan}
use Rattle.member_effects.specs.Answers.{answered_after, found_after, nothing, summed}
use Rattle.member_effects.specs.declared.answers.Said.{Said}
use Rattle.member_effects.specs.declared.answers.Said.TheVariants as said
use Rattle.member_effects.specs.Claims.{Claims as SettlesClaims, Enters}
use Rattle.member_effects.specs.Changes.{with_marks as kept_with}
use Rattle.member_effects.specs.Closing.{page_released_after}
use Rattle.member_effects.specs.Cycles.{cycle_after}
use Rattle.member_effects.specs.declared.told.Told.{Told}
use Rattle.needs_law.specs.Lawful.{MayClaim, ReleasesPage}
use Rattle.member_resources.specs.Held.{Held, with_marks}
use Rattle.member_resources.specs.Settled.{kept_of}
use Rattle.member_resources.specs.Events as event
use Rattle.member_resources.specs.Events.{Drive, RunsCommand}
use Rattle.page_protocol.specs.Page.{put}
use Rattle.page_protocol.specs.Moves.{World}
use Rattle.page_world.specs.Numbers.{page_number}
use Rattle.page_world.specs.Holdings.{Holdings, KeepsPages, with_facility}
use Rattle.page_intents.specs.Stands.{Goes}
use Rattle.page_intents.specs.Owners.{LeavesPages, owned_by}
use Rattle.page_policies.specs.Locals.{TransLeavePages}
use Rattle.page_events.specs.Beside.{Leads, SameOthers}
use Rattle.page_events.specs.Events.{page_named, page_taken}
use Rattle.page_events.specs.Quiet.{leaves_pages}
use Rattle.page_events.proofs.Facts.{Facts}
use Rattle.page_events.proofs.Made.{KeepsStandings, Now, Stays, made, others_facility, put_other, standings_of, stay_leads}
use Rattle.page_events.proofs.Frames.{directory_sound, directory_standings, drive_on}
use Rattle.page_events.proofs.Quiet.{quiet_commands}

-- ---- marks that leave the pages
pub leaves_itself : (s : MarksState) → LeavesPages s s
leaves_itself s = record { member = refl; heads = refl; log = refl; claims = λ p. refl }

pub stays_as : (h k : Held) (t : MarksState) (spare : List ℕ) → k ≡ with_marks (record h { spare = spare }) t → LeavesPages h.marks t → Stays h k
stays_as h k t spare is leaves = record {
  leaves = subst (λ (z : Held). LeavesPages h.marks z.marks) (sym is) leaves;
  pages = ap (λ (z : Held). z.pages) is;
  cast = ap (λ (z : Held). z.cast) is;
  buffer = ap (λ (z : Held). z.buffer) is;
}

pub keeps_command : (g : Holdings) (h k : Held) (v : event.World) (i : Intent) (c : Command) (p : Plan) (place : ℕ) (a : Answered) (told : Told)
    → leaves_pages c ≡ true → RunsCommand g.facility h i c p place a told v.facility k → KeepsPages g.facility v.facility
keeps_command g h k v i c p place a told quiet r = quiet_commands g.facility v.facility h.marks.member c _ _ r.answer quiet r.gives.executed.executes

pub quiet_leads : Facts → (w : World) (g : Holdings) (content : ℕ → ℕ → List ℕ) (forced : ℕ → ℕ) (h k : Held) (d : Drive) (v : event.World) (i : Intent) (c : Command) (p : Plan) (place : ℕ) (a : Answered) (told : Told)
    → Now w g content forced h d → leaves_pages c ≡ true → v.drive ≡ d → RunsCommand g.facility h i c p place a told v.facility k → Stays h k → Leads w v g content forced h k
quiet_leads facts w g content forced h k d v i c p place a told b quiet drive r stays =
    stay_leads facts w g content forced h k d v b (keeps_command g h k v i c p place a told quiet r) drive stays

-- ---- what others have answered
found_leaves : TransLeavePages → (s : MarksState) (o : Owner) (n : Name) (x : Said) → LeavesPages s (found_after s o n x)
found_leaves law s o n said.Clean = leaves_itself s
found_leaves law s o n said.Empty = leaves_itself s
found_leaves law s o n said.Open = leaves_itself s
found_leaves law s o n (said.InTheWay cell.Clean event) = leaves_itself s
found_leaves law s o n (said.InTheWay (cell.Conflict by) event) = law.offers s o (refusal.Held n by) event
found_leaves law s o n (said.InTheWay (cell.Postponed m) event) = law.offers s o (refusal.Retained n m) event

pub answered_leaves : TransLeavePages → (s : MarksState) (o : Owner) (n : Name) (m : Mode) (asked : ℕ) (cells : List Cell) → LeavesPages s (answered_after s o n m asked cells)
answered_leaves law s o n m asked cells = found_leaves law s o n (summed cells 0 asked n m nothing).found

pub cycle_leaves : TransLeavePages → (s : MarksState) (place : ℕ) (found : Option (ℕ × List TranId)) → LeavesPages s (cycle_after s place found)
cycle_leaves law s place None = leaves_itself s
cycle_leaves law s place (Some x) = law.offers s (owner.Slot x.0) (refusal.Deadlock x.1) place

-- ---- a claim: it is entered, or leaves the pages
abbrev Entered : MarksState → Owner → Name → Mode → Reply → ℕ → MarksState → Type 0
Entered s o n m answer place t = (version : ℕ) × (answer ≡ reply.Granted version) × Enters (is_for_agents n) s o n m place t

entered_or : TransLeavePages → (s t : MarksState) (o : Owner) (n : Name) (m : Mode) (place : ℕ) (answer : Reply) → SettlesClaims s o n m answer place t → Entered s o n m answer place t ⊎ LeavesPages s t
entered_or law s t o n m place (reply.Granted version) e = inl (version, refl, e)
entered_or law s t o n m place (reply.Retained by) e = inr (subst (λ z. LeavesPages s z) (sym e) (law.offers s o (refusal.Retained n by) place))
entered_or law s t o n m place (reply.RecordsFull limit) e = inr (subst (λ z. LeavesPages s z) (sym e) (law.offers s o (refusal.RecordsFull limit) place))
entered_or law s t o n m place (reply.Contention share exclusive version) e = inr (subst (λ z. LeavesPages s z) (sym e) (leaves_itself s))
entered_or law s t o n m place (reply.Moved version) e = inr (subst (λ z. LeavesPages s z) (sym e) (leaves_itself s))
entered_or law s t o n m place (reply.RetainedLock named x) e = inr (subst (λ z. LeavesPages s z) (sym e) (leaves_itself s))
entered_or law s t o n m place reply.Done e = inr (subst (λ z. LeavesPages s z) (sym e) (leaves_itself s))
entered_or law s t o n m place reply.Nothing e = inr (subst (λ z. LeavesPages s z) (sym e) (leaves_itself s))
entered_or law s t o n m place reply.Found e = inr (subst (λ z. LeavesPages s z) (sym e) (leaves_itself s))
entered_or law s t o n m place reply.NoData e = inr (subst (λ z. LeavesPages s z) (sym e) (leaves_itself s))
entered_or law s t o n m place reply.CacheFull e = inr (subst (λ z. LeavesPages s z) (sym e) (leaves_itself s))
entered_or law s t o n m place reply.Lost e = inr (subst (λ z. LeavesPages s z) (sym e) (leaves_itself s))
entered_or law s t o n m place reply.Written e = inr (subst (λ z. LeavesPages s z) (sym e) (leaves_itself s))
entered_or law s t o n m place reply.Valid e = inr (subst (λ z. LeavesPages s z) (sym e) (leaves_itself s))
entered_or law s t o n m place reply.Invalid e = inr (subst (λ z. LeavesPages s z) (sym e) (leaves_itself s))
entered_or law s t o n m place reply.Taken e = inr (subst (λ z. LeavesPages s z) (sym e) (leaves_itself s))
entered_or law s t o n m place reply.NotChanged e = inr (subst (λ z. LeavesPages s z) (sym e) (leaves_itself s))
entered_or law s t o n m place (reply.Locked by) e = inr (subst (λ z. LeavesPages s z) (sym e) (leaves_itself s))
entered_or law s t o n m place reply.NotHeld e = inr (subst (λ z. LeavesPages s z) (sym e) (leaves_itself s))
entered_or law s t o n m place (reply.ChangedPage page) e = inr (subst (λ z. LeavesPages s z) (sym e) (leaves_itself s))
entered_or law s t o n m place (reply.Query query) e = inr (subst (λ z. LeavesPages s z) (sym e) (leaves_itself s))
entered_or law s t o n m place reply.Gone e = inr (subst (λ z. LeavesPages s z) (sym e) (leaves_itself s))
entered_or law s t o n m place reply.Cells e = inr (subst (λ z. LeavesPages s z) (sym e) (leaves_itself s))
entered_or law s t o n m place reply.Waits e = inr (subst (λ z. LeavesPages s z) (sym e) (leaves_itself s))
entered_or law s t o n m place reply.Raised e = inr (subst (λ z. LeavesPages s z) (sym e) (leaves_itself s))
entered_or law s t o n m place reply.NotRaised e = inr (subst (λ z. LeavesPages s z) (sym e) (leaves_itself s))
entered_or law s t o n m place (reply.Status status) e = inr (subst (λ z. LeavesPages s z) (sym e) (leaves_itself s))
entered_or law s t o n m place reply.NotLost e = inr (subst (λ z. LeavesPages s z) (sym e) (leaves_itself s))
entered_or law s t o n m place (reply.ClaimTaken by) e = inr (subst (λ z. LeavesPages s z) (sym e) (leaves_itself s))
entered_or law s t o n m place reply.Claimed e = inr (subst (λ z. LeavesPages s z) (sym e) (leaves_itself s))
entered_or law s t o n m place (reply.Drawn lrsn) e = inr (subst (λ z. LeavesPages s z) (sym e) (leaves_itself s))
entered_or law s t o n m place (reply.Stale index) e = inr (subst (λ z. LeavesPages s z) (sym e) (leaves_itself s))
entered_or law s t o n m place (reply.LrsnEnd at) e = inr (subst (λ z. LeavesPages s z) (sym e) (leaves_itself s))

-- a name that is no page's
agent_leaves : TransLeavePages → (s t : MarksState) (o : Owner) (n : Name) (m : Mode) (place : ℕ) → Enters true s o n m place t → LeavesPages s t
agent_leaves law s t (owner.Slot slot) n m place e = subst (λ z. LeavesPages s z) (sym e) (law.enters s slot n m place)
agent_leaves law s t (owner.Rollback id) n m place e = subst (λ z. LeavesPages s z) (sym e) (leaves_itself s)

-- ---- the page's owner
others_owned : (g : Holdings) (f : Facility) (forced : ℕ → ℕ) (m n : ℕ) (now : Option ℕ) → KeepsStandings g.facility f → ((k : ℕ) → k ≢ m → g.owner n ≢ Some k) → ((k : ℕ) → k ≢ m → now ≢ Some k) → SameOthers g (owned_by g f n now) forced forced m
others_owned g f forced m n now s was is = record {
  members = s.members;
  statuses = λ k l ne. ap (λ z. status_of z k) s.statuses;
  counter = s.counter;
  log = λ k ne. refl;
  stable = λ k ne. refl;
  written = λ k ne. refl;
  copies = λ k j ne. refl;
  casts = λ k j ne. refl;
  keeps = λ k j ne e. keeps k j ne e (cases_eq j n);
  takes = λ k j ne e. takes k j ne e (cases_eq j n);
}
  where
    keeps : (k j : ℕ) → k ≢ m → g.owner j ≡ Some k → (j ≡ n) ⊎ (j ≢ n) → put g.owner n now j ≡ Some k
    keeps k j ne e (inl x) = absurd (was k ne (ap g.owner (sym x) ∙ e))
    keeps k j ne e (inr x) = put_other g.owner n j now x ∙ e

    takes : (k j : ℕ) → k ≢ m → put g.owner n now j ≡ Some k → (j ≡ n) ⊎ (j ≢ n) → g.owner j ≡ Some k
    takes k j ne e (inl x) = absurd (is k ne (sym (cond-true (j == n) now (g.owner j) (eq-eqb j n x)) ∙ e))
    takes k j ne e (inr x) = sym (put_other g.owner n j now x) ∙ e

some_other : (m k : ℕ) → k ≢ m → ◌≢◌ {A = Option ℕ} (Some m) (Some k)
some_other m k ne e = ne (sym (same_Some m k e))

none_other : (k : ℕ) → ◌≢◌ {A = Option ℕ} None (Some k)
none_other k e = none-some k e

module _ (facts : Facts) (w : World) (g : Holdings) (content : ℕ → ℕ → List ℕ) (forced : ℕ → ℕ) (h k : Held) (d : Drive) (v : event.World) (b : Now w g content forced h d) (drive : v.drive ≡ d) where
  -- the page is the member's, or nobody's
  taken_from : (page : PageId) → (has_page h.marks page ≡ false → g.owner (page_number page) ≡ None) → (j : ℕ) → j ≢ h.marks.member → g.owner (page_number page) ≢ Some j
  taken_from page free j ne e = elim (cases_Bool (has_page h.marks page)) [
    | inl has ↦ some_other h.marks.member j ne (sym (b.begins.up.owns (page_number page) (ap (has_page h.marks) (facts.numbers.named page) ∙ has)) ∙ e)
    | inr none ↦ none_other j (sym (free none) ∙ e)
  ]

  owned_leads : (page : PageId) (now : Option ℕ) (t : MarksState) (spare : List ℕ) → Goes w content forced (owned_by g v.facility (page_number page) now) h.marks (kept_with (kept_of h) t) → KeepsPages g.facility v.facility
      → (has_page h.marks page ≡ false → g.owner (page_number page) ≡ None) → ((j : ℕ) → j ≢ h.marks.member → now ≢ Some j) → k ≡ with_marks (record h { spare = spare }) t → Leads w v g content forced h k
  owned_leads page now t spare goes keeps free own is =
      let end = with_marks (record h { spare = spare }) t in
      subst (λ z. Leads w v g content forced h z) (sym is)
      (made facts.good w v g (owned_by g v.facility (page_number page) now) content content forced forced h end b.begins goes
      refl (drive_on d v.drive g.disk drive b.drive) b.cast (subst IsSound (sym keeps.directory) b.begins.sound)
      (others_owned g v.facility forced h.marks.member (page_number page) now (standings_of g.facility v.facility keeps) (taken_from page free) own) (λ n i l. refl))

  -- ---- a lock is taken
  abbrev Free : Intent → Answered → Type 0
  Free i a = (page : PageId) (version : ℕ) → page_taken i ≡ Some page → a ≡ answered.Reply (reply.Granted version) → has_page h.marks page ≡ false → g.owner (page_number page) ≡ None

  pub obtain_leads : (o : Owner) (n : Name) (m : Mode) (p : Plan) (place : ℕ) (a : Answered) (told : Told)
      → MayClaim h.marks o n m → Free (intent.Obtain o n m) a → RunsCommand g.facility h (intent.Obtain o n m) (command.Obtain n m) p place a told v.facility k → Leads w v g content forced h k
  obtain_leads o n m p place a told may free r = elim (entered_or facts.leave h.marks k.marks o n m place r.answer claims) [
    | inl it ↦ by n refl it
    | inr leaves ↦ quiet leaves
  ]
    where
      back : r.after ≡ record h { spare = r.after.spare }
      back = r.gives.executed.back

      is : k ≡ with_marks (record h { spare = r.after.spare }) k.marks
      is = r.settles.1.1 ∙ ap (λ (z : Held). with_marks z k.marks) back

      claims : SettlesClaims h.marks o n m r.answer place k.marks
      claims = subst (λ (z : Held). SettlesClaims z.marks o n m r.answer place k.marks) back r.settles.1.0

      keeps : KeepsPages g.facility v.facility
      keeps = keeps_command g h k v (intent.Obtain o n m) (command.Obtain n m) p place a told refl r

      quiet : LeavesPages h.marks k.marks → Leads w v g content forced h k
      quiet leaves = stay_leads facts w g content forced h k d v b keeps drive (stays_as h k k.marks r.after.spare is leaves)

      by : (x : Name) → n ≡ x → Entered h.marks o n m r.answer place k.marks → Leads w v g content forced h k
      by (name.Space table) e it = quiet (agent_leaves facts.leave h.marks k.marks o n m place (subst (λ z. Enters (is_for_agents z) h.marks o n m place k.marks) e it.2))
      by (name.Row table key) e it = quiet (agent_leaves facts.leave h.marks k.marks o n m place (subst (λ z. Enters (is_for_agents z) h.marks o n m place k.marks) e it.2))
      by (name.Set number) e it = quiet (subst (λ z. LeavesPages h.marks z) (sym (subst (λ z. Enters (is_for_agents z) h.marks o z m place k.marks) e it.2)) (leaves_itself h.marks))
      by (name.Page page) e it =
          let nobody = free page it.0 (ap page_named e) (r.is ∙ ap answered.Reply it.1) in
          owned_leads page (Some h.marks.member) k.marks r.after.spare
          (facts.obtain w g content forced (kept_of h) k.marks o page m it.0 place v.facility b.begins (subst (λ z. MayClaim h.marks o z m) e may) nobody
          (subst (λ z. ObtainsLock g.facility h.marks.member z m (reply.Granted it.0) v.facility) e (subst (λ z. ObtainsLock g.facility h.marks.member n m z v.facility) it.1 r.gives.executed.executes.0))
          (subst (λ z. SettlesClaims h.marks o z m (reply.Granted it.0) place k.marks) e it.2))
          keeps nobody (λ j ne. some_other h.marks.member j ne) is

  pub grant_leads : (o : Owner) (n : Name) (m : Mode) (p : Plan) (place : ℕ) (a : Answered) (told : Told)
      → MayClaim h.marks o n m → Free (intent.Grant o n m) a → RunsCommand g.facility h (intent.Grant o n m) (command.Grant (cell_slot o n) n m) p place a told v.facility k → Leads w v g content forced h k
  grant_leads o n m p place a told may free r = elim (entered_or facts.leave h.marks k.marks o n m place r.answer claims) [
    | inl it ↦ by n refl it
    | inr leaves ↦ quiet leaves
  ]
    where
      back : r.after ≡ record h { spare = r.after.spare }
      back = r.gives.executed.back

      is : k ≡ with_marks (record h { spare = r.after.spare }) k.marks
      is = r.settles.1.1 ∙ ap (λ (z : Held). with_marks z k.marks) back

      claims : SettlesClaims h.marks o n m r.answer place k.marks
      claims = subst (λ (z : Held). SettlesClaims z.marks o n m r.answer place k.marks) back r.settles.1.0

      keeps : KeepsPages g.facility v.facility
      keeps = keeps_command g h k v (intent.Grant o n m) (command.Grant (cell_slot o n) n m) p place a told refl r

      quiet : LeavesPages h.marks k.marks → Leads w v g content forced h k
      quiet leaves = stay_leads facts w g content forced h k d v b keeps drive (stays_as h k k.marks r.after.spare is leaves)

      by : (x : Name) → n ≡ x → Entered h.marks o n m r.answer place k.marks → Leads w v g content forced h k
      by (name.Space table) e it = quiet (agent_leaves facts.leave h.marks k.marks o n m place (subst (λ z. Enters (is_for_agents z) h.marks o n m place k.marks) e it.2))
      by (name.Row table key) e it = quiet (agent_leaves facts.leave h.marks k.marks o n m place (subst (λ z. Enters (is_for_agents z) h.marks o n m place k.marks) e it.2))
      by (name.Set number) e it = quiet (subst (λ z. LeavesPages h.marks z) (sym (subst (λ z. Enters (is_for_agents z) h.marks o z m place k.marks) e it.2)) (leaves_itself h.marks))
      by (name.Page page) e it =
          let nobody = free page it.0 (ap page_named e) (r.is ∙ ap answered.Reply it.1) in
          owned_leads page (Some h.marks.member) k.marks r.after.spare
          (facts.grant w g content forced (kept_of h) k.marks o page m (cell_slot o n) it.0 place v.facility b.begins (subst (λ z. MayClaim h.marks o z m) e may) nobody
          (subst (λ z. GrantsLock g.facility h.marks.member (cell_slot o n) z m (reply.Granted it.0) v.facility) e (subst (λ z. GrantsLock g.facility h.marks.member (cell_slot o n) n m z v.facility) it.1 r.gives.executed.executes.0))
          (subst (λ z. SettlesClaims h.marks o z m (reply.Granted it.0) place k.marks) e it.2))
          keeps nobody (λ j ne. some_other h.marks.member j ne) is

  -- ---- a page's lock is given up
  was_claimed : (x : Bool) (y z : Name × Interest) → (if x then Some y else None) ≡ Some z → x ≡ true
  was_claimed true y z e = refl
  was_claimed false y z e = absurd (cc e)

  pub release_leads : (page : PageId) (out : Sent) (p : Plan) (place : ℕ) (a : Answered) (told : Told)
      → AreDistinct (claims_of h.marks.locks 0) → (lawful : ReleasesPage h.marks page out) → RunsCommand g.facility h (intent.ReleasePage page) (command.Release lawful.told.0 lawful.told.1) p place a told v.facility k
      → Leads w v g content forced h k
  release_leads page out p place a told distinct lawful r =
      let it = r.gives.executed in
      let has = was_claimed (has_page h.marks page) (name.Page page, page_told h.marks.locks (name.Page page)) lawful.told lawful.next in
      owned_leads page None (page_released_after h.marks page r.answer) r.after.spare
      (facts.release w g content forced (kept_of h) page out r.answer v.facility b.begins distinct lawful it.executes.0)
      (keeps_command g h k v (intent.ReleasePage page) (command.Release lawful.told.0 lawful.told.1) p place a told refl r)
      (λ none. absurd (both_ways (has_page h.marks page) none has)) (λ j ne. none_other j)
      (r.settles.1 ∙ ap (λ (z : Held). with_marks z (page_released_after z.marks page r.answer)) it.back)

  -- ---- the cache structure is lost
  pub lose_leads : (p : Plan) (place : ℕ) (a : Answered) (told : Told) → RunsCommand g.facility h intent.LoseCache command.Lose p place a told v.facility k → Leads w v g content forced h k
  lose_leads p place a told r =
      let it = r.gives.executed in
      let end = record h { spare = r.after.spare } in
      subst (λ z. Leads w v g content forced h z) (sym (r.settles.1 ∙ it.back))
      (made facts.good w v g (with_facility g v.facility) content content forced forced h end b.begins (facts.lose w g content forced (kept_of h) r.answer v.facility b.begins it.executes.0)
      refl (drive_on d v.drive g.disk drive b.drive) b.cast
      (directory_sound g.facility v.facility (after_lose g.facility.directory) it.executes.0.1 (facts.sound.lose g.facility.directory b.begins.sound))
      (others_facility g v.facility forced h.marks.member (directory_standings g.facility v.facility (after_lose g.facility.directory) it.executes.0.1)) (λ n i l. refl))
