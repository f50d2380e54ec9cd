-- What is run and settled of each intent, before the policy's local moves.
use Rattle.std.proofs.Common.{◌≡◌, ℕ, ◌≤◌, refl, sym, ◌∙◌, ap, subst, Bool, true, false, inl, inr, List, [], ◌∷◌, Option, Some, None}
use Rattle.std.specs.Prelude.{◌⊎◌, ◌||◌, ◌&&◌, ◌==◌, nat_le, if◌then◌else◌}
use Rattle.std.proofs.lemmas.Bool.{and_parts, cases_Bool, cond_both, or_cases}
use Rattle.ds_base.specs.declared.names.PageId.{PageId}
use Rattle.ds_model.specs.declared.fate.Refusal.TheVariants as refusal
use Rattle.ds_model.specs.declared.lock.Name.{Name}
use Rattle.ds_model.specs.declared.lock.Name.TheVariants as name
use Rattle.lock_names.specs.declared.mode.Mode.{Mode}
use Rattle.lock_manager.specs.declared.claim.LockAnswer.{LockAnswer}
use Rattle.lock_manager.specs.declared.claim.LockAnswer.TheVariants as answer
use Rattle.lock_manager.specs.Managers.{answer_of}
use Rattle.list_structure.specs.declared.query.Asker.{Asker}
use Rattle.list_structure.specs.declared.query.Cell.TheVariants as cell
use Rattle.list_structure.specs.Askers.{slot_of}
use Rattle.facility.specs.declared.command.Command.{Command}
use Rattle.facility.specs.declared.command.Command.TheVariants as command
use Rattle.facility.specs.declared.command.Reply.{Reply}
use Rattle.facility.specs.declared.command.Reply.TheVariants as reply
use Rattle.facility.specs.LockCommands.{GrantsLock, ObtainsLock}
use Rattle.facility.specs.ListCommands.{AnswersQuery, answered_cell}
use Rattle.facility.specs.States.{Held as Facility}
use Rattle.member_intents.specs.Cells.{cell_slot}
use Rattle.member_intents.specs.declared.intent.Intent.{Intent}
use Rattle.member_intents.specs.declared.intent.Intent.TheVariants as intent
use Rattle.member_intents.specs.declared.outcome.Answered.{Answered}
use Rattle.member_intents.specs.declared.outcome.Sent.{Sent}
use Rattle.member_intents.specs.declared.outcome.Sent.TheVariants as sent
use Rattle.member_trans.specs.declared.fate.Owner.{Owner}
use Rattle.member_trans.specs.declared.fate.Owner.TheVariants as owner
use Rattle.member_trans.specs.declared.fate.Stage.{Stage}
use Rattle.member_trans.specs.declared.fate.Stage.TheVariants as stage
use Rattle.member_trans.specs.Trans.{is_decided, is_empty, is_forward, is_free, is_over_at, is_undoing}
use Rattle.member_marks.specs.State.{MarksState, id_of, slot_tran, tran_of}
use Rattle.member_marks.specs.Claims.{after_end_of, answer_to, cell_for, is_agent, offered}
use Rattle.member_needs.specs.Castout.{done}
use Rattle.member_needs.specs.Closing.{end_sent}
use Rattle.member_needs.specs.declared.needs.Setting.{Setting}
use Rattle.member_needs.specs.declared.plans.Plan.{Plan}
use Rattle.member_effects.specs.declared.told.Told.{Told}
use Rattle.member_effects.specs.Claims.{Claims as SettlesClaims, refused_after}
use Rattle.member_effects.specs.Closing.{ended_after, page_released_after, purged_after, released_after}
use Rattle.needs_law.specs.Lawful.{Lawful, MayClaim, SendsLawfully, SlotClaims}
use Rattle.member_resources.specs.Events as event
use Rattle.member_resources.specs.Events.{Runs}
use Rattle.member_resources.specs.Held.{Held, begun, with_spare}
use Rattle.member_resources.specs.Prepared.{Reserves, with_change_room}
use Rattle.marks_law.specs.Claims.{ClaimsStay, SameClaims, changes_claims}
use Rattle.marks_law.specs.Slots.{SlotsStand, SlotsTell}
use Rattle.lock_protocol.specs.Machine.{World}
use Rattle.lock_world.specs.Standing.{StaysTied}
use Rattle.lock_world.specs.Tied.{Claims, Tied}
use Rattle.lock_intents.specs.Intents.{IsAgent, AnswerGoes, AskGoes, EndGoes, GrantGoes, ObtainGoes, PageGoes, PurgeGoes, ReleaseGoes}
use Rattle.lock_intents.specs.Stands.{Knows, Leads, IsUp, Goes}
use Rattle.lock_events.proofs.Cells.{IsNone, member_or, none_of, none_to, strangers}
use Rattle.lock_events.specs.Quiet.{Quiet, is_quiet}
use Rattle.lock_events.proofs.Quiet.{quiet_command, quiet_same}
use Rattle.lock_events.proofs.Stands.{goes_as, goes_from, goes_to, leads_as, quiet_goes}

-- what the crates below say
pub record Facts : Type 0 where
  pub tell : SlotsTell
  pub claims : ClaimsStay
  pub stay : StaysTied
  pub obtain : ObtainGoes
  pub grant : GrantGoes
  pub ask : AskGoes
  pub answer : AnswerGoes
  pub release : ReleaseGoes
  pub page : PageGoes
  pub purge : PurgeGoes
  pub end : EndGoes

-- a member that is up, with its claims, in its world
pub record Stands (w : World) (f : Facility) (held : Claims) (s : MarksState) : Type 0 where
  pub tied : Tied w f.locks f.lists held
  pub up : IsUp f s
  pub knows : Knows held s

-- ---- intents that change neither locks nor queries
abbrev pub QuietSent : Sent → Type 0
QuietSent sent.None = Unit {0}
QuietSent (sent.Command c) = is_quiet c ≡ true
QuietSent sent.AppendLog = Unit {0}
QuietSent (sent.ReadPage page) = Unit {0}
QuietSent (sent.WritePage page) = Unit {0}

pub quiet_as : (s t : Sent) → s ≡ t → QuietSent t → QuietSent s
quiet_as s t e q = subst (λ z. QuietSent z) (sym e) q

quiet_facility : (u v : event.World) (h k : Held) (i : Intent) (s : Sent) (p : Plan) (place : ℕ) (a : Answered) (told : Told) → QuietSent s → Runs u h i s p place a told v k → Quiet u.facility v.facility
quiet_facility u v h k i sent.None p place a told q r = quiet_same u.facility v.facility (ap (λ (z : event.World). z.facility) r.world)
quiet_facility u v h k i (sent.Command c) p place a told q r = quiet_command u.facility v.facility h.marks.member c _ _ r.0.answer q r.0.gives.executed.executes
quiet_facility u v h k i sent.AppendLog p place a told q r = quiet_same u.facility v.facility r.1
quiet_facility u v h k i (sent.ReadPage page) p place a told q r = quiet_same u.facility v.facility r.1
quiet_facility u v h k i (sent.WritePage page) p place a told q r = quiet_same u.facility v.facility r.1

same_on : (s t u : MarksState) → SameClaims s t → SameClaims t u → SameClaims s u
same_on s t u a b = record { locks = b.locks ∙ a.locks; member = b.member ∙ a.member }

pub quiet_run : Facts → (w : World) (u v : event.World) (held left : Claims) (h ready k : Held) (i : Intent) (s : Sent) (p : Plan) (place : ℕ) (a : Answered) (told : Told)
    → Stands w u.facility held h.marks → SameClaims h.marks ready.marks → QuietSent s → changes_claims i ≡ false → Runs u (begun ready place) i s p place a told v k → Leads held left h.marks k.marks → Goes w u.facility v.facility left h.marks k.marks
quiet_run facts w u v held left h ready k i s p place a told st same q quiet r leads =
    quiet_goes facts.stay w u.facility v.facility held left h.marks k.marks st.tied st.up st.knows leads (quiet_facility u v (begun ready place) k i s p place a told q r)
    (same_on h.marks (begun ready place).marks k.marks (record { locks = same.locks; member = same.member }) (facts.claims u v (begun ready place) k i s p place a told quiet r))

pub same_itself : (h k : Held) → k ≡ h → SameClaims h.marks k.marks
same_itself h k e = record { locks = ap (λ (z : Held). z.marks.locks) e; member = ap (λ (z : Held). z.marks.member) e }

-- ---- a slot with a transaction is an agent's
forward_taken : (x : Stage) → is_forward x ≡ true → is_free x ≡ false
forward_taken stage.Free e = cc
forward_taken stage.Forward e = refl
forward_taken stage.Drawn e = cc
forward_taken stage.Decided e = cc
forward_taken stage.Undoing e = cc
forward_taken stage.Postponed e = cc

over_taken : (x : Stage) (b : Bool) → (is_decided x || (is_undoing x && b)) ≡ true → is_free x ≡ false
over_taken stage.Free b e = cc
over_taken stage.Forward b e = refl
over_taken stage.Drawn b e = refl
over_taken stage.Decided b e = refl
over_taken stage.Undoing b e = refl
over_taken stage.Postponed b e = refl

forward_agent : Facts → (s : MarksState) (slot : ℕ) → SlotsStand s → is_forward (slot_tran s slot).stage ≡ true → is_agent s slot ≡ true
forward_agent facts s slot slots e = facts.tell s slot slots (forward_taken (slot_tran s slot).stage e)

pub over_agent : Facts → (s : MarksState) (o : Owner) → SlotsStand s → is_over_at (tran_of s o) s.log.stable ≡ true → IsAgent s o
over_agent facts s (owner.Slot slot) slots e = facts.tell s slot slots (over_taken (slot_tran s slot).stage (is_empty (slot_tran s slot).changes && nat_le (slot_tran s slot).ended s.log.stable) e)
over_agent facts s (owner.Rollback id) slots e = tt

-- ---- a lock is asked for: the member as the reply finds it
abbrev pub asking : Held → ℕ → ℕ → MarksState
asking h spare place = (begun (with_spare h spare) place).marks

asking_stands : (w : World) (f : Facility) (held : Claims) (h : Held) (spare place : ℕ) → Stands w f held h.marks → Stands w f held (asking h spare place)
asking_stands w f held h spare place st = record {
  tied = st.tied;
  up = record {
    member = st.up.member;
    among = st.up.among;
    few = st.up.few;
    up = st.up.up;
    size = st.up.size;
    book = record { owners = st.up.book.owners; few = st.up.book.few; once = st.up.book.once; apart = st.up.book.apart };
  };
  knows = λ o c. st.knows o c;
}

asking_leads : (held left : Claims) (h : Held) (spare place : ℕ) (t : MarksState) → Leads held left h.marks t → Leads held left (asking h spare place) t
asking_leads held left h spare place t leads = record { others = leads.others; own = leads.own }

asking_slot : (h : Held) (spare place slot : ℕ) (n : Name) (m : Mode) → SlotClaims h.marks slot n m → SlotClaims (asking h spare place) slot n m
asking_slot h spare place slot n m may = record { forward = may.forward; joined = may.joined }

-- whatever is answered about a page is the member's
page_settles : (s t : MarksState) (o : Owner) (p : PageId) (m : Mode) (answer : Reply) (place : ℕ) → SettlesClaims s o (name.Page p) m answer place t
    → (x : MarksState) × SettlesClaims s (owner.Rollback 0) (name.Page p) m answer place x × SameClaims x t
page_settles s t o p m (reply.Granted version) place e = (t, e, record { locks = refl; member = refl })
page_settles s t o p m (reply.Retained by) place e = (offered s (owner.Rollback 0) (refusal.Retained (name.Page p) by) place, refl, record { locks = ap (λ (z : MarksState). z.locks) e; member = ap (λ (z : MarksState). z.member) e })
page_settles s t o p m (reply.RecordsFull limit) place e = (offered s (owner.Rollback 0) (refusal.RecordsFull limit) place, refl, record { locks = ap (λ (z : MarksState). z.locks) e; member = ap (λ (z : MarksState). z.member) e })
page_settles s t o p m (reply.Contention share exclusive version) place e = (s, refl, record { locks = ap (λ (z : MarksState). z.locks) e; member = ap (λ (z : MarksState). z.member) e })
page_settles s t o p m (reply.Moved version) place e = (s, refl, record { locks = ap (λ (z : MarksState). z.locks) e; member = ap (λ (z : MarksState). z.member) e })
page_settles s t o p m (reply.RetainedLock name mode) place e = (s, refl, record { locks = ap (λ (z : MarksState). z.locks) e; member = ap (λ (z : MarksState). z.member) e })
page_settles s t o p m reply.Done place e = (s, refl, record { locks = ap (λ (z : MarksState). z.locks) e; member = ap (λ (z : MarksState). z.member) e })
page_settles s t o p m reply.Nothing place e = (s, refl, record { locks = ap (λ (z : MarksState). z.locks) e; member = ap (λ (z : MarksState). z.member) e })
page_settles s t o p m reply.Found place e = (s, refl, record { locks = ap (λ (z : MarksState). z.locks) e; member = ap (λ (z : MarksState). z.member) e })
page_settles s t o p m reply.NoData place e = (s, refl, record { locks = ap (λ (z : MarksState). z.locks) e; member = ap (λ (z : MarksState). z.member) e })
page_settles s t o p m reply.CacheFull place e = (s, refl, record { locks = ap (λ (z : MarksState). z.locks) e; member = ap (λ (z : MarksState). z.member) e })
page_settles s t o p m reply.Lost place e = (s, refl, record { locks = ap (λ (z : MarksState). z.locks) e; member = ap (λ (z : MarksState). z.member) e })
page_settles s t o p m reply.Written place e = (s, refl, record { locks = ap (λ (z : MarksState). z.locks) e; member = ap (λ (z : MarksState). z.member) e })
page_settles s t o p m reply.Valid place e = (s, refl, record { locks = ap (λ (z : MarksState). z.locks) e; member = ap (λ (z : MarksState). z.member) e })
page_settles s t o p m reply.Invalid place e = (s, refl, record { locks = ap (λ (z : MarksState). z.locks) e; member = ap (λ (z : MarksState). z.member) e })
page_settles s t o p m reply.Taken place e = (s, refl, record { locks = ap (λ (z : MarksState). z.locks) e; member = ap (λ (z : MarksState). z.member) e })
page_settles s t o p m reply.NotChanged place e = (s, refl, record { locks = ap (λ (z : MarksState). z.locks) e; member = ap (λ (z : MarksState). z.member) e })
page_settles s t o p m (reply.Locked by) place e = (s, refl, record { locks = ap (λ (z : MarksState). z.locks) e; member = ap (λ (z : MarksState). z.member) e })
page_settles s t o p m reply.NotHeld place e = (s, refl, record { locks = ap (λ (z : MarksState). z.locks) e; member = ap (λ (z : MarksState). z.member) e })
page_settles s t o p m (reply.ChangedPage page) place e = (s, refl, record { locks = ap (λ (z : MarksState). z.locks) e; member = ap (λ (z : MarksState). z.member) e })
page_settles s t o p m (reply.Query query) place e = (s, refl, record { locks = ap (λ (z : MarksState). z.locks) e; member = ap (λ (z : MarksState). z.member) e })
page_settles s t o p m reply.Gone place e = (s, refl, record { locks = ap (λ (z : MarksState). z.locks) e; member = ap (λ (z : MarksState). z.member) e })
page_settles s t o p m reply.Cells place e = (s, refl, record { locks = ap (λ (z : MarksState). z.locks) e; member = ap (λ (z : MarksState). z.member) e })
page_settles s t o p m reply.Waits place e = (s, refl, record { locks = ap (λ (z : MarksState). z.locks) e; member = ap (λ (z : MarksState). z.member) e })
page_settles s t o p m reply.Raised place e = (s, refl, record { locks = ap (λ (z : MarksState). z.locks) e; member = ap (λ (z : MarksState). z.member) e })
page_settles s t o p m reply.NotRaised place e = (s, refl, record { locks = ap (λ (z : MarksState). z.locks) e; member = ap (λ (z : MarksState). z.member) e })
page_settles s t o p m (reply.Status status) place e = (s, refl, record { locks = ap (λ (z : MarksState). z.locks) e; member = ap (λ (z : MarksState). z.member) e })
page_settles s t o p m reply.NotLost place e = (s, refl, record { locks = ap (λ (z : MarksState). z.locks) e; member = ap (λ (z : MarksState). z.member) e })
page_settles s t o p m (reply.ClaimTaken by) place e = (s, refl, record { locks = ap (λ (z : MarksState). z.locks) e; member = ap (λ (z : MarksState). z.member) e })
page_settles s t o p m reply.Claimed place e = (s, refl, record { locks = ap (λ (z : MarksState). z.locks) e; member = ap (λ (z : MarksState). z.member) e })
page_settles s t o p m (reply.Drawn lrsn) place e = (s, refl, record { locks = ap (λ (z : MarksState). z.locks) e; member = ap (λ (z : MarksState). z.member) e })
page_settles s t o p m (reply.Stale index) place e = (s, refl, record { locks = ap (λ (z : MarksState). z.locks) e; member = ap (λ (z : MarksState). z.member) e })
page_settles s t o p m (reply.LrsnEnd at) place e = (s, refl, record { locks = ap (λ (z : MarksState). z.locks) e; member = ap (λ (z : MarksState). z.member) e })

pub obtain_goes : Facts → (w : World) (f g : Facility) (held left : Claims) (h : Held) (spare : ℕ) (t : MarksState) (o : Owner) (n : Name) (m : Mode) (answer : Reply) (place : ℕ)
    → Stands w f held h.marks → SlotsStand h.marks → MayClaim h.marks o n m → ObtainsLock f (asking h spare place).member n m answer g → SettlesClaims (asking h spare place) o n m answer place t → Leads held left h.marks t → Goes w f g left (asking h spare place) t
obtain_goes facts w f g held left h spare t (owner.Slot slot) (name.Space table) m answer place st slots may gives settles leads =
    let now = asking_stands w f held h spare place st in
    facts.obtain w f g held left (asking h spare place) t (owner.Slot slot) (name.Space table) m answer place now.tied now.up now.knows (forward_agent facts h.marks slot slots may.forward) (asking_slot h spare place slot (name.Space table) m may) gives settles (asking_leads held left h spare place t leads)
obtain_goes facts w f g held left h spare t (owner.Rollback id) (name.Space table) m answer place st slots may gives settles leads = absurd may
obtain_goes facts w f g held left h spare t (owner.Slot slot) (name.Row table k) m answer place st slots may gives settles leads =
    let now = asking_stands w f held h spare place st in
    facts.obtain w f g held left (asking h spare place) t (owner.Slot slot) (name.Row table k) m answer place now.tied now.up now.knows (forward_agent facts h.marks slot slots may.forward) (asking_slot h spare place slot (name.Row table k) m may) gives settles (asking_leads held left h spare place t leads)
obtain_goes facts w f g held left h spare t (owner.Rollback id) (name.Row table k) m answer place st slots may gives settles leads = absurd may
obtain_goes facts w f g held left h spare t (owner.Slot slot) (name.Page p) m answer place st slots may gives settles leads =
    let now = asking_stands w f held h spare place st in
    let x = page_settles (asking h spare place) t (owner.Slot slot) p m answer place settles in
    goes_as w f g left (asking h spare place) x.0 t x.2 (facts.obtain w f g held left (asking h spare place) x.0 (owner.Rollback 0) (name.Page p) m answer place now.tied now.up now.knows tt (record { in_x = may.in_x; room = may.room }) gives x.1
    (leads_as held left (asking h spare place) x.0 t x.2 (asking_leads held left h spare place t leads)))
obtain_goes facts w f g held left h spare t (owner.Rollback id) (name.Page p) m answer place st slots may gives settles leads =
    let now = asking_stands w f held h spare place st in
    let x = page_settles (asking h spare place) t (owner.Rollback id) p m answer place settles in
    goes_as w f g left (asking h spare place) x.0 t x.2 (facts.obtain w f g held left (asking h spare place) x.0 (owner.Rollback 0) (name.Page p) m answer place now.tied now.up now.knows tt (record { in_x = may.in_x; room = may.room }) gives x.1
    (leads_as held left (asking h spare place) x.0 t x.2 (asking_leads held left h spare place t leads)))
obtain_goes facts w f g held left h spare t (owner.Slot slot) (name.Set number) m answer place st slots may gives settles leads = absurd may
obtain_goes facts w f g held left h spare t (owner.Rollback id) (name.Set number) m answer place st slots may gives settles leads = absurd may

pub grant_goes : Facts → (w : World) (f g : Facility) (held left : Claims) (h : Held) (spare : ℕ) (t : MarksState) (o : Owner) (n : Name) (m : Mode) (answer : Reply) (place : ℕ)
    → Stands w f held h.marks → SlotsStand h.marks → MayClaim h.marks o n m → cell_slot o n ≤ 16 → GrantsLock f (asking h spare place).member (cell_slot o n) n m answer g → SettlesClaims (asking h spare place) o n m answer place t → Leads held left h.marks t → Goes w f g left (asking h spare place) t
grant_goes facts w f g held left h spare t (owner.Slot slot) (name.Space table) m answer place st slots may few gives settles leads =
    let now = asking_stands w f held h spare place st in
    facts.grant w f g held left (asking h spare place) t (owner.Slot slot) (name.Space table) m answer place now.tied now.up now.knows (forward_agent facts h.marks slot slots may.forward) (asking_slot h spare place slot (name.Space table) m may) few gives settles (asking_leads held left h spare place t leads)
grant_goes facts w f g held left h spare t (owner.Rollback id) (name.Space table) m answer place st slots may few gives settles leads = absurd may
grant_goes facts w f g held left h spare t (owner.Slot slot) (name.Row table k) m answer place st slots may few gives settles leads =
    let now = asking_stands w f held h spare place st in
    facts.grant w f g held left (asking h spare place) t (owner.Slot slot) (name.Row table k) m answer place now.tied now.up now.knows (forward_agent facts h.marks slot slots may.forward) (asking_slot h spare place slot (name.Row table k) m may) few gives settles (asking_leads held left h spare place t leads)
grant_goes facts w f g held left h spare t (owner.Rollback id) (name.Row table k) m answer place st slots may few gives settles leads = absurd may
grant_goes facts w f g held left h spare t (owner.Slot slot) (name.Page p) m answer place st slots may few gives settles leads =
    let now = asking_stands w f held h spare place st in
    let x = page_settles (asking h spare place) t (owner.Slot slot) p m answer place settles in
    goes_as w f g left (asking h spare place) x.0 t x.2 (facts.grant w f g held left (asking h spare place) x.0 (owner.Rollback 0) (name.Page p) m answer place now.tied now.up now.knows tt (record { in_x = may.in_x; room = may.room }) few gives x.1
    (leads_as held left (asking h spare place) x.0 t x.2 (asking_leads held left h spare place t leads)))
grant_goes facts w f g held left h spare t (owner.Rollback id) (name.Page p) m answer place st slots may few gives settles leads =
    let now = asking_stands w f held h spare place st in
    let x = page_settles (asking h spare place) t (owner.Rollback id) p m answer place settles in
    goes_as w f g left (asking h spare place) x.0 t x.2 (facts.grant w f g held left (asking h spare place) x.0 (owner.Rollback 0) (name.Page p) m answer place now.tied now.up now.knows tt (record { in_x = may.in_x; room = may.room }) few gives x.1
    (leads_as held left (asking h spare place) x.0 t x.2 (asking_leads held left h spare place t leads)))
grant_goes facts w f g held left h spare t (owner.Slot slot) (name.Set number) m answer place st slots may few gives settles leads = absurd may
grant_goes facts w f g held left h spare t (owner.Rollback id) (name.Set number) m answer place st slots may few gives settles leads = absurd may
