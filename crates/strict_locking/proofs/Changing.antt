-- Rows for which pages are changed.
use Rattle.std.proofs.Common.{◌≡◌, ℕ, refl, sym, ◌∙◌, subst, true, false, Option, Some, None}
use Rattle.std.specs.Prelude.{◌&&◌, nat_le, nat_lt, IfSome}
use Rattle.std.proofs.lemmas.Bool.{and_parts, cond-true}
use Rattle.ds_model.specs.Rows.{Spot}
use Rattle.ds_model.specs.declared.lock.Name.{Name}
use Rattle.ds_model.specs.declared.lock.Name.TheVariants as name
use Rattle.lock_names.specs.declared.mode.Mode.{Mode}
use Rattle.lock_names.specs.declared.mode.Mode.TheVariants.{IS, IX, S, U, SIX, X}
use Rattle.lock_names.specs.Modes.{join_of}
use Rattle.lock_manager.specs.Managers.{Book, held_by}
use Rattle.page_plans.specs.declared.action.Action.{Action}
use Rattle.page_plans.specs.declared.action.Action.TheVariants as action
use Rattle.member_trans.specs.declared.fate.Owner.TheVariants as owner
use Rattle.member_trans.specs.declared.fate.Stage.{Stage}
use Rattle.member_trans.specs.declared.fate.Stage.TheVariants as stage
use Rattle.member_trans.specs.Trans.{is_forward, is_free}
use Rattle.member_marks.specs.State.{MarksState, agents_of, slot_tran}
use Rattle.member_marks.specs.Claims.{is_agent, mode_held}
use Rattle.member_needs.specs.Needs.{need_of}
use Rattle.member_needs.specs.Plans.{intent_plan}
use Rattle.member_needs.specs.Records.{allows_row, allows_space}
use Rattle.member_needs.specs.declared.needs.Setting.{Setting}
use Rattle.member_intents.specs.declared.intent.Intent.TheVariants as intent
use Rattle.needs_law.specs.Lawful.{Lawful, MayChange, MayChangeRow}
use Rattle.marks_law.specs.Given.{holder_in}
use Rattle.marks_law.specs.Given.{setting_of}
use Rattle.marks_law.specs.Slots.{SlotsTell}
use Rattle.marks_law.specs.Transactions.{MarksStay, has_tran}
use Rattle.lock_protocol.specs.Machine.{Covers}
use Rattle.lock_world.specs.Books.{IsBook, SlotHas}
use Rattle.lock_world.specs.Numbers.{number}
use Rattle.lock_world.specs.Views.{claim_in}
use Rattle.strict_locking.specs.Keeping.{ChangesLock}
use Rattle.strict_locking.specs.Rows.{HasLocked, row_for}
use Rattle.strict_locking.proofs.Events.{Facts, needs_sent}
use Rattle.strict_locking.proofs.Taking.{agent_below}

no_way : false ≡ true → ⊥
no_way e = cc

-- ---- modes
covers_row : (held : Option Mode) → allows_row held ≡ true → Covers held X
unfolding join_of
covers_row None e = absurd (no_way e)
covers_row (Some IS) e = absurd (no_way e)
covers_row (Some IX) e = absurd (no_way e)
covers_row (Some S) e = absurd (no_way e)
covers_row (Some U) e = absurd (no_way e)
covers_row (Some SIX) e = absurd (no_way e)
covers_row (Some X) e = refl

covers_space : (held : Option Mode) → allows_space held ≡ true → Covers held IX
unfolding join_of
covers_space None e = absurd (no_way e)
covers_space (Some IS) e = absurd (no_way e)
covers_space (Some IX) e = refl
covers_space (Some S) e = absurd (no_way e)
covers_space (Some U) e = absurd (no_way e)
covers_space (Some SIX) e = refl
covers_space (Some X) e = refl

-- ---- the slot's transaction, which goes forward
forward_taken : (x : Stage) → is_forward x ≡ true → (is_free x ≡ false) × (has_tran x ≡ true)
forward_taken stage.Free e = absurd (no_way e)
forward_taken stage.Forward e = (refl, refl)
forward_taken stage.Drawn e = absurd (no_way e)
forward_taken stage.Decided e = absurd (no_way e)
forward_taken stage.Undoing e = absurd (no_way e)
forward_taken stage.Postponed e = absurd (no_way e)

claim_held : SlotHas → (s : MarksState) (slot : ℕ) (n : Name) → IsBook s.locks → is_agent s slot ≡ true → claim_in s.locks slot (number n) ≡ mode_held s (owner.Slot slot) n
claim_held has s slot n book agent =
    has s.locks slot n book (agent_below s slot agent)
    ∙ sym (cond-true (nat_le slot (agents_of s)) (held_by s.locks slot n) None (and_parts (nat_lt 0 slot) (nat_le slot (agents_of s)) agent).1)

locked : SlotHas → (s t : MarksState) (slot table key id : ℕ) → IsBook s.locks → (is_free (slot_tran s slot).stage ≡ false → is_agent s slot ≡ true) → is_forward (slot_tran s slot).stage ≡ true → MayChangeRow s (owner.Slot slot) table key
    → MarksStay s t → (slot_tran t slot).first ≡ id → HasLocked t id (table, key)
locked has s t slot table key id book agents forward may stays named =
    let stands = forward_taken (slot_tran s slot).stage forward in
    let agent = agents stands.0 in
    let goes = stays.trans.slots slot stands.1 in record {
      by = owner.Slot slot;
      taken = (subst (λ (z : Book). (nat_lt 0 slot && nat_le slot z.agents) ≡ true) (sym stays.locks) agent, goes.there);
      named = named;
      space = subst (λ (z : Book). Covers (claim_in z slot (number (name.Space table))) IX) (sym stays.locks)
          (subst (λ z. Covers z IX) (sym (claim_held has s slot (name.Space table) book agent)) (covers_space (mode_held s (owner.Slot slot) (name.Space table)) may.space));
      row = subst (λ (z : Book). Covers (claim_in z slot (number (name.Row table key))) X) (sym stays.locks)
          (subst (λ z. Covers z X) (sym (claim_held has s slot (name.Row table key) book agent)) (covers_row (mode_held s (owner.Slot slot) (name.Row table key)) may.row));
    }

row_locked : SlotHas → (s t : MarksState) (slot id : ℕ) (a : Action) → IsBook s.locks → (is_free (slot_tran s slot).stage ≡ false → is_agent s slot ≡ true) → is_forward (slot_tran s slot).stage ≡ true → MayChange s slot a
    → MarksStay s t → (slot_tran t slot).first ≡ id → IfSome (row_for a) (HasLocked t id)
row_locked has s t slot id (action.RowChange table key place value) book agents forward may stays named = locked has s t slot table key id book agents forward may stays named
row_locked has s t slot id (action.GiveSlot table key leaf) book agents forward may stays named = locked has s t slot table key id book agents forward may stays named
row_locked has s t slot id (action.FormatIndex table) book agents forward may stays named = tt
row_locked has s t slot id (action.FormatHeap table) book agents forward may stays named = tt
row_locked has s t slot id (action.Split table left) book agents forward may stays named = tt
row_locked has s t slot id (action.BranchEntry table branch low child) book agents forward may stays named = tt

stays_on : (t u : MarksState) (id : ℕ) (o : Option Spot) → ((spot : Spot) → HasLocked t id spot → HasLocked u id spot) → IfSome o (HasLocked t id) → IfSome o (HasLocked u id)
stays_on t u id None keeps l = l
stays_on t u id (Some spot) keeps l = keeps spot l

pub changes_lock : Facts → SlotsTell → ChangesLock
changes_lock facts tell w v h k slot a frames place s answered book slots happens id ne named =
    let i = intent.Change slot a frames in
    let c : Setting = setting_of h (holder_in w.facility h.cast) place in
    let may : Lawful h.marks h.pages c i s = facts.lawful h.marks h.pages c i s (needs_sent (need_of h.marks h.pages c i) (intent_plan h.marks h.pages h.limit i) s happens.plan happens.lawful) in
    let stays = facts.event w v h happens.ready happens.after i s happens.plan place answered happens.said refl happens.reserves happens.runs in
    let left = facts.moves happens.after.marks k.marks (subst (λ z. IsBook z) (sym stays.locks) book) happens.ends.0 in
    stays_on happens.after.marks k.marks id (row_for a) (λ spot l. left.rows id spot ne l)
    (row_locked facts.taking.slot h.marks happens.after.marks slot id a book (tell h.marks slot slots) may.may.forward may.row stays named)
