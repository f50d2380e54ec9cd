-- The intents that change locks or queries, as they are run and settled.
use Rattle.std.proofs.Common.{◌≡◌, ℕ, ◌≤◌, refl, sym, ◌∙◌, ap, subst, Bool, true, false, inl, inr, List, [], ◌∷◌, Option, Some, None}
use Rattle.std.specs.Prelude.{◌≢◌, ◌==◌, map, if◌then◌else◌}
use Rattle.ds_base.specs.Ids.{IsMember}
use Rattle.ds_base.specs.declared.names.PageId.{PageId}
use Rattle.ds_model.specs.declared.lock.Name.{Name}
use Rattle.lock_names.specs.declared.mode.Mode.{Mode}
use Rattle.lock_names.specs.declared.mode.Interest.{Interest}
use Rattle.lock_manager.specs.declared.claim.LockAnswer.{LockAnswer}
use Rattle.lock_manager.specs.declared.claim.LockAnswer.TheVariants as answer
use Rattle.lock_manager.specs.Managers.{answer_of}
use Rattle.list_structure.specs.declared.query.Asker.{Asker}
use Rattle.list_structure.specs.declared.query.Cell.TheVariants as cell
use Rattle.list_structure.specs.declared.query.CellAnswer.{CellAnswer}
use Rattle.list_structure.specs.Askers.{slot_of}
use Rattle.list_structure.specs.Flags.{raised_by}
use Rattle.list_structure.specs.Waits.{without_tran}
use Rattle.facility.specs.declared.command.Command.TheVariants as command
use Rattle.facility.specs.declared.command.Reply.{Reply}
use Rattle.facility.specs.declared.command.Reply.TheVariants as reply
use Rattle.facility.specs.ListCommands.{AnswersQuery, answered_cell}
use Rattle.facility.specs.States.{Held as Facility, ring}
use Rattle.member_intents.specs.Cells.{cell_slot}
use Rattle.member_intents.specs.declared.intent.Intent.TheVariants as intent
use Rattle.member_intents.specs.declared.outcome.Answered.{Answered}
use Rattle.member_intents.specs.declared.outcome.Sent.{Sent}
use Rattle.member_intents.specs.declared.outcome.Sent.TheVariants as sent
use Rattle.member_trans.specs.declared.fate.Owner.{Owner}
use Rattle.member_trans.specs.declared.fate.Owner.TheVariants as owner
use Rattle.member_marks.specs.State.{MarksState, id_of}
use Rattle.member_marks.specs.Claims.{after_end_of, answer_to, cell_for, releasing, releasing_page, is_claimed}
use Rattle.member_needs.specs.Closing.{end_sent}
use Rattle.member_needs.specs.declared.plans.Plan.{Plan}
use Rattle.member_effects.specs.declared.told.Told.{Told}
use Rattle.member_effects.specs.Claims.{Claims as SettlesClaims}
use Rattle.member_effects.specs.Closing.{ended_after, page_released_after, purged_after, released_after}
use Rattle.needs_law.specs.Lawful.{MayClaim}
use Rattle.member_resources.specs.Events as event
use Rattle.member_resources.specs.Events.{Runs}
use Rattle.member_resources.specs.Held.{Held, begun, with_marks, with_spare}
use Rattle.marks_law.specs.Claims.{SameClaims}
use Rattle.marks_law.specs.Slots.{SlotsStand}
use Rattle.lock_protocol.specs.Machine.{World}
use Rattle.lock_world.specs.Tied.{Claims}
use Rattle.lock_world.specs.Views.{claim_in}
use Rattle.lock_intents.specs.Intents.{IsAgent}
use Rattle.lock_intents.specs.Stands.{Leads, Goes}
use Rattle.lock_events.proofs.Cells.{member_or, none_of, none_to, strangers}
use Rattle.lock_events.proofs.Quiet.{quiet_same}
use Rattle.lock_events.proofs.Stands.{goes_as, goes_from, goes_to, quiet_goes}
use Rattle.lock_events.proofs.Intents.{Facts, Stands, grant_goes, obtain_goes, over_agent}

-- ---- the member as a reply finds it, where no room was taken
abbrev pub new : Held → ℕ → MarksState
new h place = (begun h place).marks

pub new_stands : (w : World) (f : Facility) (held : Claims) (h : Held) (place : ℕ) → Stands w f held h.marks → Stands w f held (new h place)
new_stands w f held h place st = record {
  tied = st.tied;
  up = record { member = st.up.member; among = st.up.among; few = st.up.few; up = st.up.up; size = st.up.size; book = st.up.book };
  knows = λ o c. st.knows o c;
}

pub new_leads : (held left : Claims) (h : Held) (place : ℕ) (t : MarksState) → Leads held left h.marks t → Leads held left (new h place) t
new_leads held left h place t leads = record { others = leads.others; own = leads.own }

-- ---- a lock is asked for
pub obtain_run : Facts → (w : World) (u v : event.World) (held left : Claims) (h k : Held) (spare : ℕ) (o : Owner) (n : Name) (m : Mode) (p : Plan) (place : ℕ) (a : Answered) (told : Told)
    → Stands w u.facility held h.marks → SlotsStand h.marks → MayClaim h.marks o n m → Runs u (begun (with_spare h spare) place) (intent.Obtain o n m) (sent.Command (command.Obtain n m)) p place a told v k → Leads held left h.marks k.marks
    → Goes w u.facility v.facility left h.marks k.marks
obtain_run facts w u v held left h k spare o n m p place a told st slots may r leads =
    let same : r.0.after.marks ≡ (begun (with_spare h spare) place).marks = ap (λ (z : Held). z.marks) r.0.gives.executed.back in
    goes_from w u.facility v.facility left h.marks (begun (with_spare h spare) place).marks k.marks refl
    (obtain_goes facts w u.facility v.facility held left h spare k.marks o n m r.0.answer place st slots may r.0.gives.executed.executes.0
    (subst (λ z. SettlesClaims z o n m r.0.answer place k.marks) same r.0.settles.1.0) leads)

pub grant_run : Facts → (w : World) (u v : event.World) (held left : Claims) (h k : Held) (spare : ℕ) (o : Owner) (n : Name) (m : Mode) (p : Plan) (place : ℕ) (a : Answered) (told : Told)
    → Stands w u.facility held h.marks → SlotsStand h.marks → MayClaim h.marks o n m → Runs u (begun (with_spare h spare) place) (intent.Grant o n m) (sent.Command (command.Grant (cell_slot o n) n m)) p place a told v k → Leads held left h.marks k.marks
    → Goes w u.facility v.facility left h.marks k.marks
grant_run facts w u v held left h k spare o n m p place a told st slots may r leads =
    let same : r.0.after.marks ≡ (begun (with_spare h spare) place).marks = ap (λ (z : Held). z.marks) r.0.gives.executed.back in
    goes_from w u.facility v.facility left h.marks (begun (with_spare h spare) place).marks k.marks refl
    (grant_goes facts w u.facility v.facility held left h spare k.marks o n m r.0.answer place st slots may r.0.gives.can.0 r.0.gives.executed.executes.0
    (subst (λ z. SettlesClaims z o n m r.0.answer place k.marks) same r.0.settles.1.0) leads)

-- ---- queries: the marks stay
same_new : (h : Held) (place : ℕ) (k after : Held) → after.marks ≡ new h place → k ≡ after → SameClaims (new h place) k.marks
same_new h place k after a e = record { locks = ap (λ (z : Held). z.marks.locks) e ∙ ap (λ (z : MarksState). z.locks) a; member = ap (λ (z : Held). z.marks.member) e ∙ ap (λ (z : MarksState). z.member) a }

-- of what is left, the claims are those of these marks
back_leads : (held left : Claims) (s t u : MarksState) → SameClaims t u → Leads held left s u → Leads held left s t
back_leads held left s t u same leads = record { others = leads.others; own = λ o c. leads.own o c ∙ ap (λ z. claim_in z o c) same.locks }

pub ask_run : Facts → (w : World) (u v : event.World) (held left : Claims) (h k : Held) (o : Owner) (to : ℕ) (n : Name) (m : Mode) (p : Plan) (place : ℕ) (a : Answered) (told : Told)
    → Stands w u.facility held h.marks → Runs u (begun h place) (intent.Ask o to n m) (sent.Command (command.Ask (cell_slot o n) to n m)) p place a told v k → Leads held left h.marks k.marks → Goes w u.facility v.facility left h.marks k.marks
ask_run facts w u v held left h k o to n m p place a told st r leads =
    let now = new_stands w u.facility held h place st in
    let same : SameClaims (new h place) k.marks = same_new h place k r.0.after (ap (λ (z : Held). z.marks) r.0.gives.executed.back) r.0.settles.1 in
    let own : Leads held left (new h place) (new h place) = back_leads held left (new h place) (new h place) k.marks same (new_leads held left h place k.marks leads) in
    goes_from w u.facility v.facility left h.marks (new h place) k.marks refl (goes_as w u.facility v.facility left (new h place) (new h place) k.marks same (elim (member_or to) [
      | inl is ↦ facts.ask w u.facility v.facility held left (new h place) (cell_slot o n) to n m r.0.answer now.tied now.up now.knows r.0.gives.can is r.0.gives.executed.executes.0 own
      | inr isnt ↦ strangers facts.stay w u.facility v.facility held left (new h place) (slot_of h.marks.member (cell_slot o n)) to (cell.Asked n m) now.tied now.up now.knows own (none_to (slot_of h.marks.member (cell_slot o n)) to isnt) r.0.gives.executed.executes.0.1.0 r.0.gives.executed.executes.0.1.1
    ]))

-- what the lock manager says is the same in the event
told_as : (h : Held) (place : ℕ) (x : LockAnswer) → cell_for h.marks x ≡ cell_for (new h place) x
told_as h place answer.Clean = refl
told_as h place (answer.Conflict by) = refl
told_as h place (answer.Postponed by) = refl

stranger_answers : Facts → (w : World) (f g : Facility) (held left : Claims) (s : MarksState) (asker : Asker) (n : Name) (m : Mode) (x : CellAnswer) (event : ℕ) (answer : Reply)
    → Stands w f held s → ((j : ℕ) → IsMember j → j ≢ asker.member) → AnswersQuery f s.member asker n m x event answer g → Leads held left s s → Goes w f g left s s
stranger_answers facts w f g held left s asker n m x event (reply.Granted version) st other e leads = absurd e
stranger_answers facts w f g held left s asker n m x event (reply.Retained by) st other e leads = absurd e
stranger_answers facts w f g held left s asker n m x event (reply.RecordsFull limit) st other e leads = absurd e
stranger_answers facts w f g held left s asker n m x event (reply.Contention share exclusive version) st other e leads = absurd e
stranger_answers facts w f g held left s asker n m x event (reply.Moved version) st other e leads = absurd e
stranger_answers facts w f g held left s asker n m x event (reply.RetainedLock name mode) st other e leads = absurd e
stranger_answers facts w f g held left s asker n m x event reply.Done st other e leads = strangers facts.stay w f g held left s asker s.member (answered_cell f n m x event) st.tied st.up st.knows leads (none_of asker s.member other) e.1.0 e.1.1
stranger_answers facts w f g held left s asker n m x event reply.Nothing st other e leads = absurd e
stranger_answers facts w f g held left s asker n m x event reply.Found st other e leads = absurd e
stranger_answers facts w f g held left s asker n m x event reply.NoData st other e leads = absurd e
stranger_answers facts w f g held left s asker n m x event reply.CacheFull st other e leads = absurd e
stranger_answers facts w f g held left s asker n m x event reply.Lost st other e leads = absurd e
stranger_answers facts w f g held left s asker n m x event reply.Written st other e leads = absurd e
stranger_answers facts w f g held left s asker n m x event reply.Valid st other e leads = absurd e
stranger_answers facts w f g held left s asker n m x event reply.Invalid st other e leads = absurd e
stranger_answers facts w f g held left s asker n m x event reply.Taken st other e leads = absurd e
stranger_answers facts w f g held left s asker n m x event reply.NotChanged st other e leads = absurd e
stranger_answers facts w f g held left s asker n m x event (reply.Locked by) st other e leads = absurd e
stranger_answers facts w f g held left s asker n m x event reply.NotHeld st other e leads = absurd e
stranger_answers facts w f g held left s asker n m x event (reply.ChangedPage page) st other e leads = absurd e
stranger_answers facts w f g held left s asker n m x event (reply.Query query) st other e leads = absurd e
stranger_answers facts w f g held left s asker n m x event reply.Gone st other e leads = quiet_goes facts.stay w f g held left s s st.tied st.up st.knows leads (quiet_same f g e.1) (record { locks = refl; member = refl })
stranger_answers facts w f g held left s asker n m x event reply.Cells st other e leads = absurd e
stranger_answers facts w f g held left s asker n m x event reply.Waits st other e leads = absurd e
stranger_answers facts w f g held left s asker n m x event reply.Raised st other e leads = absurd e
stranger_answers facts w f g held left s asker n m x event reply.NotRaised st other e leads = absurd e
stranger_answers facts w f g held left s asker n m x event (reply.Status status) st other e leads = absurd e
stranger_answers facts w f g held left s asker n m x event reply.NotLost st other e leads = absurd e
stranger_answers facts w f g held left s asker n m x event (reply.ClaimTaken by) st other e leads = absurd e
stranger_answers facts w f g held left s asker n m x event reply.Claimed st other e leads = absurd e
stranger_answers facts w f g held left s asker n m x event (reply.Drawn lrsn) st other e leads = absurd e
stranger_answers facts w f g held left s asker n m x event (reply.Stale index) st other e leads = absurd e
stranger_answers facts w f g held left s asker n m x event (reply.LrsnEnd at) st other e leads = absurd e

pub answer_run : Facts → (w : World) (u v : event.World) (held left : Claims) (h k : Held) (asker : Asker) (n : Name) (m : Mode) (at : ℕ) (p : Plan) (place : ℕ) (a : Answered) (told : Told)
    → Stands w u.facility held h.marks → Runs u (begun h place) (intent.Answer asker n m) (sent.Command (command.Answer asker n m (answer_to h.marks n m) at)) p place a told v k → Leads held left h.marks k.marks
    → Goes w u.facility v.facility left h.marks k.marks
answer_run facts w u v held left h k asker n m at p place a told st r leads =
    let now = new_stands w u.facility held h place st in
    let same : SameClaims (new h place) k.marks = same_new h place k r.0.after (ap (λ (z : Held). z.marks) r.0.gives.executed.back) r.0.settles.1 in
    let own : Leads held left (new h place) (new h place) = back_leads held left (new h place) (new h place) k.marks same (new_leads held left h place k.marks leads) in
    let said : AnswersQuery u.facility h.marks.member asker n m (answer_to (new h place) n m) at r.0.answer v.facility =
    subst (λ z. AnswersQuery u.facility h.marks.member asker n m z at r.0.answer v.facility) (told_as h place (answer_of h.marks.locks n m)) r.0.gives.executed.executes.0 in
    goes_from w u.facility v.facility left h.marks (new h place) k.marks refl (goes_as w u.facility v.facility left (new h place) (new h place) k.marks same (elim (member_or asker.member) [
      | inl is ↦ facts.answer w u.facility v.facility held left (new h place) asker n m at r.0.answer now.tied now.up now.knows (is, r.0.gives.can) said own
      | inr isnt ↦ stranger_answers facts w u.facility v.facility held left (new h place) asker n m (answer_to (new h place) n m) at r.0.answer now isnt said own
    ]))

-- ---- locks are given up
releasing_as : (h : Held) (place : ℕ) (o : Owner) (x : Option (Name × Interest)) → releasing h.marks o ≡ x → releasing (new h place) o ≡ x
releasing_as h place (owner.Slot slot) x e = e
releasing_as h place (owner.Rollback id) x e = e

agent_as : (h : Held) (place : ℕ) (o : Owner) → IsAgent h.marks o → IsAgent (new h place) o
agent_as h place (owner.Slot slot) a = a
agent_as h place (owner.Rollback id) a = a

-- what is settled is settled of the marks that the reply found
settled_of : (h : Held) (place : ℕ) (after k : Held) (f : MarksState → MarksState) → after.marks ≡ new h place → k ≡ with_marks after (f after.marks) → k.marks ≡ f (new h place)
settled_of h place after k f a e = ap (λ (z : Held). z.marks) e ∙ ap f a

pub release_run : Facts → (w : World) (u v : event.World) (held left : Claims) (h k : Held) (o : Owner) (x : Name × Interest) (p : Plan) (place : ℕ) (a : Answered) (told : Told)
    → Stands w u.facility held h.marks → IsAgent h.marks o → releasing h.marks o ≡ Some x → Runs u (begun h place) (intent.ReleaseLock o) (sent.Command (command.Release x.0 x.1)) p place a told v k → Leads held left h.marks k.marks
    → Goes w u.facility v.facility left h.marks k.marks
release_run facts w u v held left h k o x p place a told st agent next r leads =
    let now = new_stands w u.facility held h place st in
    goes_from w u.facility v.facility left h.marks (new h place) k.marks refl
    (facts.release w u.facility v.facility held left (new h place) k.marks o x.0 x.1 r.0.answer now.tied now.up now.knows (agent_as h place o agent) (releasing_as h place o (Some x) next) r.0.gives.executed.executes.0
    (settled_of h place r.0.after k (λ z. released_after z o r.0.answer) (ap (λ (z : Held). z.marks) r.0.gives.executed.back) r.0.settles.1) (new_leads held left h place k.marks leads))

pub page_run : Facts → (w : World) (u v : event.World) (held left : Claims) (h k : Held) (page : PageId) (x : Name × Interest) (p : Plan) (place : ℕ) (a : Answered) (told : Told)
    → Stands w u.facility held h.marks → releasing_page h.marks page ≡ Some x → Runs u (begun h place) (intent.ReleasePage page) (sent.Command (command.Release x.0 x.1)) p place a told v k → Leads held left h.marks k.marks
    → Goes w u.facility v.facility left h.marks k.marks
page_run facts w u v held left h k page x p place a told st next r leads =
    let now = new_stands w u.facility held h place st in
    goes_from w u.facility v.facility left h.marks (new h place) k.marks refl
    (facts.page w u.facility v.facility held left (new h place) k.marks page x.0 x.1 r.0.answer now.tied now.up now.knows next r.0.gives.executed.executes.0
    (settled_of h place r.0.after k (λ z. page_released_after z page r.0.answer) (ap (λ (z : Held). z.marks) r.0.gives.executed.back) r.0.settles.1) (new_leads held left h place k.marks leads))

purged_same : (s : MarksState) (n : Name) (answer : Reply) → SameClaims s (purged_after s n answer)
purged_same s n (reply.Granted version) = record { locks = refl; member = refl }
purged_same s n (reply.Retained by) = record { locks = refl; member = refl }
purged_same s n (reply.RecordsFull limit) = record { locks = refl; member = refl }
purged_same s n (reply.Contention share exclusive version) = record { locks = refl; member = refl }
purged_same s n (reply.Moved version) = record { locks = refl; member = refl }
purged_same s n (reply.RetainedLock name mode) = record { locks = refl; member = refl }
purged_same s n reply.Done = record { locks = refl; member = refl }
purged_same s n reply.Nothing = record { locks = refl; member = refl }
purged_same s n reply.Found = record { locks = refl; member = refl }
purged_same s n reply.NoData = record { locks = refl; member = refl }
purged_same s n reply.CacheFull = record { locks = refl; member = refl }
purged_same s n reply.Lost = record { locks = refl; member = refl }
purged_same s n reply.Written = record { locks = refl; member = refl }
purged_same s n reply.Valid = record { locks = refl; member = refl }
purged_same s n reply.Invalid = record { locks = refl; member = refl }
purged_same s n reply.Taken = record { locks = refl; member = refl }
purged_same s n reply.NotChanged = record { locks = refl; member = refl }
purged_same s n (reply.Locked by) = record { locks = refl; member = refl }
purged_same s n reply.NotHeld = record { locks = refl; member = refl }
purged_same s n (reply.ChangedPage page) = record { locks = refl; member = refl }
purged_same s n (reply.Query query) = record { locks = refl; member = refl }
purged_same s n reply.Gone = record { locks = refl; member = refl }
purged_same s n reply.Cells = record { locks = refl; member = refl }
purged_same s n reply.Waits = record { locks = refl; member = refl }
purged_same s n reply.Raised = record { locks = refl; member = refl }
purged_same s n reply.NotRaised = record { locks = refl; member = refl }
purged_same s n (reply.Status status) = record { locks = refl; member = refl }
purged_same s n reply.NotLost = record { locks = refl; member = refl }
purged_same s n (reply.ClaimTaken by) = record { locks = refl; member = refl }
purged_same s n reply.Claimed = record { locks = refl; member = refl }
purged_same s n (reply.Drawn lrsn) = record { locks = refl; member = refl }
purged_same s n (reply.Stale index) = record { locks = refl; member = refl }
purged_same s n (reply.LrsnEnd at) = record { locks = refl; member = refl }

pub purge_run : Facts → (w : World) (u v : event.World) (held left : Claims) (h k : Held) (n : Name) (p : Plan) (place : ℕ) (a : Answered) (told : Told)
    → Stands w u.facility held h.marks → is_claimed h.marks n ≡ false → Runs u (begun h place) (intent.Purge n) (sent.Command (command.Purge n)) p place a told v k → Leads held left h.marks k.marks → Goes w u.facility v.facility left h.marks k.marks
purge_run facts w u v held left h k n p place a told st none r leads =
    let now = new_stands w u.facility held h place st in
    let is : k.marks ≡ purged_after (new h place) n r.0.answer = settled_of h place r.0.after k (λ z. purged_after z n r.0.answer) (ap (λ (z : Held). z.marks) r.0.gives.executed.back) r.0.settles.1 in
    let same : SameClaims (new h place) k.marks = subst (λ z. SameClaims (new h place) z) (sym is) (purged_same (new h place) n r.0.answer) in
    goes_from w u.facility v.facility left h.marks (new h place) k.marks refl (goes_as w u.facility v.facility left (new h place) (new h place) k.marks same
    (facts.purge w u.facility v.facility held left (new h place) n r.0.answer now.tied now.up now.knows none r.0.gives.executed.executes.0 (back_leads held left (new h place) (new h place) k.marks same (new_leads held left h place k.marks leads))))

-- ---- a transaction ends
ended_done : (s t : MarksState) (o : Owner) (answer : Reply) → answer ≡ reply.Done → t ≡ ended_after s o answer → t ≡ after_end_of s o
ended_done s t o answer e is = subst (λ z. t ≡ ended_after s o z) e is

end_told : Facts → (w : World) (u v : event.World) (held left : Claims) (h k : Held) (o : Owner) (p : Plan) (place : ℕ) (a : Answered) (told : Told)
    → Stands w u.facility held h.marks → Runs u (begun h place) (intent.End o) (sent.Command (command.End (id_of h.marks o))) p place a told v k → Leads held left h.marks k.marks → Goes w u.facility v.facility left h.marks k.marks
end_told facts w u v held left h k o p place a told st r leads =
    let now = new_stands w u.facility held h place st in
    let is : k.marks ≡ ended_after (new h place) o r.0.answer = settled_of h place r.0.after k (λ z. ended_after z o r.0.answer) (ap (λ (z : Held). z.marks) r.0.gives.executed.back) r.0.settles.1 in
    goes_from w u.facility v.facility left h.marks (new h place) k.marks refl
    (facts.end w u.facility v.facility held left (new h place) k.marks o (id_of h.marks o) r.0.answer now.tied now.up now.knows (ended_done (new h place) k.marks o r.0.answer r.0.gives.executed.executes.0.0 is) r.0.gives.executed.executes.0 (new_leads held left h place k.marks leads))

-- nothing is sent: as if it were, but for the waits
end_untold : Facts → (w : World) (u v : event.World) (held left : Claims) (h k : Held) (o : Owner) (p : Plan) (place : ℕ) (a : Answered) (told : Told)
    → Stands w u.facility held h.marks → Runs u (begun h place) (intent.End o) sent.None p place a told v k → Leads held left h.marks k.marks → Goes w u.facility v.facility left h.marks k.marks
end_untold facts w u v held left h k o p place a told st r leads =
    let now = new_stands w u.facility held h place st in
    let f = u.facility in
    let ended : Facility = record f { lists = ring (record f.lists { waits = without_tran f.lists.waits (id_of h.marks o); flags = map (raised_by (id_of h.marks o)) f.lists.flags }) } in
    let first : Goes w f ended left (new h place) k.marks = facts.end w f ended held left (new h place) k.marks o (id_of h.marks o) reply.Done now.tied now.up now.knows (ap (λ (z : Held). z.marks) r.held) (refl, refl) (new_leads held left h place k.marks leads) in
    let back : Goes w f f left (new h place) k.marks = goes_to facts.stay w f ended f left (new h place) k.marks (record { locks = refl; lists = record { cells = refl; statuses = refl; members = refl } }) first in
    let is : v.facility ≡ f = ap (λ (z : event.World). z.facility) r.world in
    goes_from w f v.facility left h.marks (new h place) k.marks refl (subst (λ z. Goes w f z left (new h place) k.marks) (sym is) back)

pub end_run : Facts → (w : World) (u v : event.World) (held left : Claims) (h k : Held) (o : Owner) (p : Plan) (place : ℕ) (a : Answered) (told : Told)
    → Stands w u.facility held h.marks → Runs u (begun h place) (intent.End o) (end_sent h.marks o) p place a told v k → Leads held left h.marks k.marks → Goes w u.facility v.facility left h.marks k.marks
end_run facts w u v held left h k o p place a told st r leads = by ((id_of h.marks o).number == 0) r
  where
    by : (b : Bool) → Runs u (begun h place) (intent.End o) (if b then sent.None else sent.Command (command.End (id_of h.marks o))) p place a told v k → Goes w u.facility v.facility left h.marks k.marks
    by true x = end_untold facts w u v held left h k o p place a told st x leads
    by false x = end_told facts w u v held left h k o p place a told st x leads
