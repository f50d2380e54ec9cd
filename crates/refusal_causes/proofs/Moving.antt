-- What the moves of a policy refuse, and allow to be refused.
use Rattle.std.proofs.Common.{◌≡◌, ◌⊎◌, inl, inr, ℕ, Bool, true, false, List, [], ◌∷◌, get_or, set, length, Option, Some, None, is_none, refl, sym, subst}
use Rattle.std.proofs.lemmas.Bool.{and_parts, both_ways, cases_eq, cases_lt, eqb-true}
use Rattle.std.proofs.lemmas.List.{get_or-set_same, get_or-set_other, set_past}
use Rattle.ds_base.specs.declared.names.PageId.{PageId}
use Rattle.ds_model.specs.declared.lock.Name.{Name}
use Rattle.ds_model.specs.declared.fate.Refusal.{Refusal}
use Rattle.ds_model.specs.declared.fate.Refusal.TheVariants as refusal
use Rattle.lock_names.specs.declared.mode.Mode.{Mode}
use Rattle.lock_manager.specs.declared.claim.Ask.{Ask}
use Rattle.lock_manager.specs.declared.claim.Ask.TheVariants as ask
use Rattle.lock_manager.specs.Managers.{ask_of, is_postponed}
use Rattle.member_pool.specs.Frames.{find_page, is_unpinned}
use Rattle.member_pool.specs.Heads.{head_of, free_in}
use Rattle.member_trans.specs.declared.fate.Owner.{Owner}
use Rattle.member_trans.specs.declared.fate.Owner.TheVariants as owner
use Rattle.member_trans.specs.declared.fate.Offer.{Offer}
use Rattle.member_trans.specs.Trans.{TransState, TranState, free_tran, begun, undoing, is_free, tran_at, may_begin, after_begin_with, may_refuse, refused_for, refused_as, after_refuse, same_owner, may_postpone}
use Rattle.member_marks.specs.State.{MarksState, slot_id}
use Rattle.member_marks.specs.Claims.{may_claim}
use Rattle.member_marks.specs.Frames.{placed_at, may_pin, may_unpin}
use Rattle.member_marks.specs.Rollbacks.{can_postpone, postponed_for_member, waiting_for, retainer}
use Rattle.member_marks.specs.Local.{Local, Claim, Begin, Refuse, Abort, RefuseForMemory, Place, Pin, Unpin, Postpone, WaitFor, moved, all_moved, Reaches, stays, by_one, on, tried_as, after_begin}
use Rattle.refusal_causes.proofs.Either.{either, either_by}
use Rattle.refusal_causes.proofs.Known.{Claim as Knowledge, IsAllowed, IsOf, IsOfAny, IsOffered, IsMade, Known, KnownIn, HomeKnown, claims_begun}

-- ---- another transaction in a slot

-- a transaction that has begun keeps its number
abbrev KeepsBegun : List TranState → ℕ → TranState → Type 0
KeepsBegun ts slot x = is_free (get_or ts slot free_tran).stage ≡ false → (is_free x.stage ≡ false) × (x.number ≡ (get_or ts slot free_tran).number)

abbrev IsBegun : Knowledge → Refusal → ℕ → TranState → Type 0
IsBegun K r named x = (is_free x.stage ≡ false) × K x.number r named

there : (K : Knowledge) (r : Refusal) (named : ℕ) (ts : List TranState) (slot : ℕ) (x : TranState) → KeepsBegun ts slot x → IsBegun K r named (get_or ts slot free_tran) → IsBegun K r named x
there K r named ts slot x keeps begun = let k = keeps begun.0 in (k.0, subst (λ (n : ℕ). K n r named) (sym k.1) begun.1)

in_slot : (K : Knowledge) (r : Refusal) (named : ℕ) (ts : List TranState) (slot a : ℕ) (x : TranState) → KeepsBegun ts slot x → IsBegun K r named (get_or ts a free_tran) → IsBegun K r named (get_or (set ts slot x) a free_tran)
in_slot K r named ts slot a x keeps begun = elim (cases_eq a slot) [
  | inl same ↦ elim (cases_lt slot (length ts)) [
    | inl within ↦ (
        let is : get_or (set ts slot x) slot free_tran ≡ x = get_or-set_same ts slot x free_tran within in
        let here : IsBegun K r named (get_or ts slot free_tran) = subst (λ (k : ℕ). IsBegun K r named (get_or ts k free_tran)) same begun in
        let after : IsBegun K r named (get_or (set ts slot x) slot free_tran) = subst (IsBegun K r named) (sym is) (there K r named ts slot x keeps here) in
        subst (λ (k : ℕ). IsBegun K r named (get_or (set ts slot x) k free_tran)) (sym same) after
        )
    | inr past ↦ subst (λ (xs : List TranState). IsBegun K r named (get_or xs a free_tran)) (sym (set_past ts slot x past)) begun
  ]
  | inr other ↦ subst (IsBegun K r named) (sym (get_or-set_other ts slot a x free_tran other)) begun
]

its_own : (K : Knowledge) (ts : List TranState) (slot : ℕ) (x : TranState) → KeepsBegun ts slot x → (o : Owner) (r : Refusal) (named : ℕ) → IsOf K ts o r named → IsOf K (set ts slot x) o r named
its_own K ts slot x keeps (owner.Slot a) r named known = in_slot K r named ts slot a x keeps known
its_own K ts slot x keeps (owner.Rollback id) r named known = known

of_any : (K : Knowledge) (ts : List TranState) (slot : ℕ) (x : TranState) → KeepsBegun ts slot x → (o : Owner) (r : Refusal) (named : ℕ) → IsOfAny K ts o r named → IsOfAny K (set ts slot x) o r named
of_any K ts slot x keeps o r named (inl each) = inl each
of_any K ts slot x keeps o r named (inr own) = inr (its_own K ts slot x keeps o r named own)

allows : (K : Knowledge) (ts : List TranState) (slot : ℕ) (x : TranState) → KeepsBegun ts slot x → (o : Owner) (r : Refusal) (named : ℕ) → IsAllowed K ts o r named → IsAllowed K (set ts slot x) o r named
allows K ts slot x keeps o (refusal.Held n by) named known = of_any K ts slot x keeps o (refusal.Held n by) named known
allows K ts slot x keeps o (refusal.Retained n by) named known = of_any K ts slot x keeps o (refusal.Retained n by) named known
allows K ts slot x keeps o (refusal.Deadlock cycle) named known = its_own K ts slot x keeps o (refusal.Deadlock cycle) named known
allows K ts slot x keeps o (refusal.SpaceFull table pages) named known = known
allows K ts slot x keeps o (refusal.RecordsFull most) named known = known
allows K ts slot x keeps o (refusal.LrsnEnd at) named known = known
allows K ts slot x keeps o refusal.Memory named known = known
allows K ts slot x keeps o refusal.Aborted named known = known

offers : (K : Knowledge) (ts : List TranState) (slot : ℕ) (x : TranState) → KeepsBegun ts slot x → (o : Option Offer) → IsOffered K ts o → IsOffered K (set ts slot x) o
offers K ts slot x keeps None known = tt
offers K ts slot x keeps (Some it) known = allows K ts slot x keeps it.owner it.refusal it.place known

-- ---- one move

claims : (K : Knowledge) (place : ℕ) (s : MarksState) (slot : ℕ) (n : Name) (m : Mode) (event : ℕ) (has_memory : Bool) (spare : ℕ) → may_claim s slot n ≡ true → event ≡ place → HomeKnown K place s → KnownIn K place s → (a : Ask) → ask_of s.locks slot n m ≡ a → KnownIn K place (tried_as s slot n m event has_memory spare a)
claims K place s slot n m event has_memory spare may here home known ask.Have is = known
claims K place s slot n m event has_memory spare may here home known (ask.Conflict by) is =
    let holds : IsOfAny K s.trans.slots (owner.Slot slot) (refusal.Held n (slot_id s by)) place = inr (claims_begun s slot n may, home.held slot n m by may is) in
    (subst (λ (k : ℕ). IsOfAny K s.trans.slots (owner.Slot slot) (refusal.Held n (slot_id s by)) k) (sym here) holds, known.1, known.2)
claims K place s slot n m event has_memory spare may here home known (ask.Postponed by) is =
    let holds : IsOfAny K s.trans.slots (owner.Slot slot) (refusal.Retained n by) place = inr (claims_begun s slot n may, home.retained slot n m by may is) in
    (subst (λ (k : ℕ). IsOfAny K s.trans.slots (owner.Slot slot) (refusal.Retained n by) k) (sym here) holds, known.1, known.2)
claims K place s slot n m event true spare may here home known ask.Local is = known
claims K place s slot n m event false spare may here home known ask.Local is =
    (λ number. subst (λ (k : ℕ). K number refusal.Memory k) (sym here) (home.memory number), known.1, known.2)
claims K place s slot n m event has_memory spare may here home known (ask.Facility more) is = known

free_at : (t : TransState) (slot : ℕ) → may_begin t slot ≡ true → is_free (tran_at t slot).stage ≡ true
free_at t slot may = (and_parts _ _ (and_parts _ _ may).1).1

begun_known : (K : Knowledge) (place : ℕ) (t : TransState) (slot n room : ℕ) → Known K place t → Known K place (after_begin_with t slot n room)
begun_known K place t slot n room known =
    either_by (Known K place) (may_begin t slot) _ _
    (λ may. (offers K t.slots slot (begun n) (λ busy. absurd (both_ways _ busy (free_at t slot may))) t.offer known.0, known.1, known.2))
    (λ not_there. known)

begins : (K : Knowledge) (place : ℕ) (s : MarksState) (slot n : ℕ) (has_memory : Bool) (lock_room room : ℕ) → KnownIn K place s → KnownIn K place (after_begin s slot n has_memory lock_room room)
begins K place s slot n has_memory lock_room room known =
    either (KnownIn K place) (may_begin s.trans slot) _ _ (either (Known K place) has_memory _ _ (begun_known K place s.trans slot n room known) known) known

-- the transaction of the slot is to be undone
undone_known : (K : Knowledge) (t : TransState) (slot : ℕ) → IsOffered K t.slots t.offer → IsOffered K (set t.slots slot (undoing (tran_at t slot))) t.offer
undone_known K t slot known = offers K t.slots slot (undoing (tran_at t slot)) (λ busy. (refl, refl)) t.offer known

refuses_for : (K : Knowledge) (place : ℕ) (t : TransState) (slot : ℕ) (r : Refusal) (named : ℕ) → K (tran_at t slot).number r named → Known K place t → Known K place (refused_for t slot r named)
refuses_for K place t slot r named holds known = either (Known K place) (may_refuse t slot) _ _ (undone_known K t slot known.0, holds, known.2) known

of_own : (K : Knowledge) (t : TransState) (slot : ℕ) (o : Owner) (r : Refusal) (named : ℕ) → same_owner o (owner.Slot slot) ≡ true → IsOf K t.slots o r named → K (tran_at t slot).number r named
of_own K t slot (owner.Slot a) r named same known = subst (λ (k : ℕ). K (tran_at t k).number r named) (eqb-true a slot same) known.1
of_own K t slot (owner.Rollback id) r named same known = absurd known

of_each : (K : Knowledge) (t : TransState) (slot : ℕ) (o : Owner) (r : Refusal) (named : ℕ) → same_owner o (owner.Slot slot) ≡ true → IsOfAny K t.slots o r named → K (tran_at t slot).number r named
of_each K t slot o r named same (inl each) = each (tran_at t slot).number
of_each K t slot o r named same (inr own) = of_own K t slot o r named same own

-- the refusal that is allowed to the slot is known of its transaction
of_slot : (K : Knowledge) (t : TransState) (slot : ℕ) (o : Owner) (r : Refusal) (named : ℕ) → same_owner o (owner.Slot slot) ≡ true → IsAllowed K t.slots o r named → K (tran_at t slot).number r named
of_slot K t slot o (refusal.Held n by) named same known = of_each K t slot o (refusal.Held n by) named same known
of_slot K t slot o (refusal.Retained n by) named same known = of_each K t slot o (refusal.Retained n by) named same known
of_slot K t slot o (refusal.Deadlock cycle) named same known = of_own K t slot o (refusal.Deadlock cycle) named same known
of_slot K t slot o (refusal.SpaceFull table pages) named same known = known (tran_at t slot).number
of_slot K t slot o (refusal.RecordsFull most) named same known = known (tran_at t slot).number
of_slot K t slot o (refusal.LrsnEnd at) named same known = known (tran_at t slot).number
of_slot K t slot o refusal.Memory named same known = known (tran_at t slot).number
of_slot K t slot o refusal.Aborted named same known = known (tran_at t slot).number

refuses_as : (K : Knowledge) (place : ℕ) (t : TransState) (slot : ℕ) (o : Option Offer) → IsOffered K t.slots o → Known K place t → Known K place (refused_as t slot o)
refuses_as K place t slot None allowed known = known
refuses_as K place t slot (Some o) allowed known =
    either_by (Known K place) (same_owner o.owner (owner.Slot slot)) _ _
    (λ same. (let made = refuses_for K place t slot o.refusal o.place (of_slot K t slot o.owner o.refusal o.place same allowed) known in (tt, made.1, made.2)))
    (λ other. known)

refuses : (K : Knowledge) (place : ℕ) (t : TransState) (slot : ℕ) → Known K place t → Known K place (after_refuse t slot)
refuses K place t slot known = either (Known K place) (may_refuse t slot) _ _ (refuses_as K place t slot t.offer known.0 known) known

places_at : (K : Knowledge) (place : ℕ) (s : MarksState) (p : PageId) (at : Option ℕ) → KnownIn K place s → KnownIn K place (placed_at s p at)
places_at K place s p None known = known
places_at K place s p (Some at) known = either (KnownIn K place) (is_unpinned (head_of s.heads at)) _ _ known known

postpones_for : (K : Knowledge) (place : ℕ) (s : MarksState) (slot : ℕ) (by : Option ℕ) → KnownIn K place s → KnownIn K place (postponed_for_member s slot by)
postpones_for K place s slot None known = known
postpones_for K place s slot (Some by) known = (tt, either (λ (t : TransState). IsMade K t.refused) (may_postpone s.trans slot) _ _ known.1 known.1, either (λ (t : TransState). t.place ≡ place) (may_postpone s.trans slot) _ _ known.2 known.2)

waits_for : (K : Knowledge) (place : ℕ) (s : MarksState) (id : ℕ) (by : Option ℕ) → KnownIn K place s → KnownIn K place (waiting_for s id by)
waits_for K place s id None known = known
waits_for K place s id (Some by) known = (tt, known.1, known.2)

one : (K : Knowledge) (place : ℕ) (s : MarksState) → HomeKnown K place s → KnownIn K place s → (x : Local) → KnownIn K place (moved x s)
one K place s home known (Claim slot n m has_memory spare) =
    either_by (KnownIn K place) (may_claim s slot n) _ _ (λ may. claims K place s slot n m s.trans.place has_memory spare may known.2 home known (ask_of s.locks slot n m) refl) (λ other. known)
one K place s home known (Begin slot n has_memory lock_room room) = begins K place s slot n has_memory lock_room room known
one K place s home known (Refuse slot) = refuses K place s.trans slot known
one K place s home known (Abort slot) =
    refuses_for K place s.trans slot refusal.Aborted s.trans.place (subst (λ (k : ℕ). K (tran_at s.trans slot).number refusal.Aborted k) (sym known.2) (home.aborted (tran_at s.trans slot).number)) known
one K place s home known (RefuseForMemory slot) =
    refuses_for K place s.trans slot refusal.Memory s.trans.place (subst (λ (k : ℕ). K (tran_at s.trans slot).number refusal.Memory k) (sym known.2) (home.memory (tran_at s.trans slot).number)) known
one K place s home known (Place p) = either (KnownIn K place) (is_none (find_page s.heads.frames p)) _ _ (places_at K place s p (free_in s.heads) known) known
one K place s home known (Pin at) = either (KnownIn K place) (may_pin s.heads at) _ _ known known
one K place s home known (Unpin at) = either (KnownIn K place) (may_unpin s.heads at) _ _ known known
one K place s home known (Postpone slot) = either (KnownIn K place) (can_postpone s slot) _ _ (postpones_for K place s slot (retainer s (owner.Slot slot)) known) known
one K place s home known (WaitFor id) = either (KnownIn K place) (is_postponed s.locks id) _ _ (waits_for K place s id (retainer s (owner.Rollback id)) known) known

-- ---- all moves

-- what lies between two states that moves lead through
abbrev pub Between : MarksState → MarksState → MarksState → Type 0
Between s last u = Reaches s u × Reaches u last

ends_in : (xs : List Local) (s : MarksState) → Reaches s (all_moved xs s)
unfolding Reaches
ends_in xs s = (xs, refl)

all : (K : Knowledge) (place : ℕ) (xs : List Local) (s : MarksState) → ((u : MarksState) → Between s (all_moved xs s) u → HomeKnown K place u) → KnownIn K place s → KnownIn K place (all_moved xs s)
all K place [] s home known = known
all K place (x ∷ xs) s home known =
    all K place xs (moved x s) (λ u b. home u (on s (moved x s) u (by_one s (moved x s) x refl) b.0, b.1)) (one K place s (home s (stays s, ends_in (x ∷ xs) s)) known x)

-- where moves lead from one state to another, and what a trial at home comes to is known in each state between
pub reaches_known : (K : Knowledge) (place : ℕ) (s last : MarksState) → Reaches s last → ((u : MarksState) → Between s last u → HomeKnown K place u) → KnownIn K place s → KnownIn K place last
unfolding Reaches
reaches_known K place s last r home known =
    let e : all_moved r.0 s ≡ last = sym r.1 in
    subst (KnownIn K place) e (all K place r.0 s (λ u b. home u (b.0, subst (Reaches u) e b.1)) known)
