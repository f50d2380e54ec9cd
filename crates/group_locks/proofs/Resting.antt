-- Local moves of a member none of whose slots has a transaction, before them and behind them.
use Rattle.std.proofs.Common.{◌≡◌, ℕ, zero, suc, ◌<◌, arith, refl, sym, ◌∙◌, ap, subst, Bool, true, false, inl, inr, List, [], ◌∷◌, Option, Some, None}
use Rattle.std.specs.Prelude.{◌⊎◌, ◌+◌, ◌-◌, ◌&&◌, if◌then◌else◌, is_none, length, nat_lt, not, slice_index_or, slice_set}
use Rattle.std.proofs.lemmas.Bool.{and_parts, cases_Bool, ltb-true}
use Rattle.ds_base.specs.declared.names.PageId.{PageId}
use Rattle.ds_model.specs.declared.lock.Name.{Name}
use Rattle.ds_model.specs.declared.fate.Refusal.{Refusal}
use Rattle.ds_model.specs.declared.fate.Refusal.TheVariants as refusal
use Rattle.lock_names.specs.declared.mode.Mode.{Mode}
use Rattle.lock_manager.specs.declared.claim.Ask.{Ask}
use Rattle.lock_manager.specs.declared.claim.Ask.TheVariants as ask
use Rattle.lock_manager.specs.Managers.{Book, ask_of, is_postponed, waiting_at}
use Rattle.member_pool.specs.Frames.{find_page, is_unpinned}
use Rattle.member_pool.specs.Heads.{free_in, head_of, placed_in, pinned_to, with_head}
use Rattle.member_trans.specs.declared.fate.Offer.{Offer}
use Rattle.member_trans.specs.declared.fate.Owner.TheVariants as owner
use Rattle.member_trans.specs.declared.fate.Stage.{Stage}
use Rattle.member_trans.specs.declared.fate.Stage.TheVariants as stage
use Rattle.member_trans.specs.Trans.{TranState, TransState, after_refuse, begun, free_tran, has_room_for, is_empty, is_forward, is_free, is_undoing, left_behind, after_postpone as postponed_tran, may_begin as may_begin_in, may_postpone as may_postpone_tran, may_refuse, refused_as, refused_for, same_owner, tran_at, undoing, with_postponed as postponed_with, without_offer}
use Rattle.member_marks.specs.Claims.{is_agent, lock_place, is_for_agents, may_claim}
use Rattle.member_marks.specs.Frames.{may_pin, may_unpin, placed_at}
use Rattle.member_marks.specs.Local.{Abort, Begin, Claim, Local, Pin, Place, Postpone, Reaches, Refuse, RefuseForMemory, Unpin, WaitFor, after_begin, after_claim, all_moved, begun_with, entered_at_home, moved, tried_as, with_lock_room}
use Rattle.member_marks.specs.Rollbacks.{after_postpone, can_postpone, postponed_for_member, retainer, waiting_for}
use Rattle.member_marks.specs.State.{MarksState, slot_tran, with_heads, with_trans}
use Rattle.lock_world.specs.Books.{IsBook, RollbackWaits}
use Rattle.lock_world.specs.Views.{claim_in}
use Rattle.marks_law.specs.Slots.{SlotsStand, SlotsTell}
use Rattle.group_member.specs.Resting.{NoneInSlots}

-- ---- slots
abbrev pub AreFree : List TranState → Type 0
AreFree ts = (i : ℕ) → is_free (slice_index_or ts i free_tran).stage ≡ true

-- one of them isn't free
abbrev pub IsBusy : List TranState → Type 0
IsBusy ts = (i : ℕ) × (is_free (slice_index_or ts i free_tran).stage ≡ false)

never : true ≡ false → ⊥
never e = cc

pub not_both : (ts : List TranState) → AreFree ts → IsBusy ts → ⊥
not_both ts free busy = never (sym (free busy.0) ∙ busy.1)

pub all_free : SlotsTell → (s : MarksState) → SlotsStand s → NoneInSlots s → AreFree s.trans.slots
all_free law s slots none i = elim (cases_Bool (is_free (slot_tran s i).stage)) [
  | inl e ↦ e
  | inr e ↦ none i (law s i slots e)
]

-- a slot that is set, or all others
set_cases : (ts : List TranState) (j i : ℕ) (x : TranState) → (slice_index_or (slice_set ts j x) i free_tran ≡ x) ⊎ (slice_index_or (slice_set ts j x) i free_tran ≡ slice_index_or ts i free_tran)
set_cases [] j i x = inr refl
set_cases (t ∷ ts) zero zero x = inl refl
set_cases (t ∷ ts) zero (suc i) x = inr refl
set_cases (t ∷ ts) (suc j) zero x = inr refl
set_cases (t ∷ ts) (suc j) (suc i) x = set_cases ts j i x

set_busy : (ts : List TranState) (j : ℕ) (x : TranState) → is_free x.stage ≡ false → IsBusy ts → IsBusy (slice_set ts j x)
set_busy ts j x isnt busy = elim (set_cases ts j busy.0 x) [
  | inl e ↦ (busy.0, ap (λ (z : TranState). is_free z.stage) e ∙ isnt)
  | inr e ↦ (busy.0, ap (λ (z : TranState). is_free z.stage) e ∙ busy.1)
]

becomes_busy : (ts : List TranState) (j : ℕ) (x : TranState) → j < length ts → is_free x.stage ≡ false → IsBusy (slice_set ts j x)
becomes_busy [] j x lt isnt = let none : j < 0 = lt in absurd (omega (arith, none))
becomes_busy (t ∷ ts) zero x lt isnt = (zero, isnt)
becomes_busy (t ∷ ts) (suc j) x lt isnt =
    let both : suc j < suc (length ts) = lt in
    let less : j < length ts = omega (arith, both) in
    let rest = becomes_busy ts j x less isnt in (suc rest.0, rest.1)

-- ---- what is left as it was
pub record SameOwn (s t : MarksState) : Type 0 where
  pub claims : (o c : ℕ) → claim_in t.locks o c ≡ claim_in s.locks o c
  pub book : IsBook t.locks
  pub member : t.member ≡ s.member
  pub entries : t.locks.entries ≡ s.locks.entries
  pub agents : t.locks.agents ≡ s.locks.agents

abbrev Rests : MarksState → MarksState → Type 0
Rests s t = (AreFree t.trans.slots × SameOwn s t) ⊎ IsBusy t.trans.slots

pub own_same : (s t : MarksState) → IsBook s.locks → t.locks ≡ s.locks → t.member ≡ s.member → SameOwn s t
own_same s t book locks member = record {
  claims = λ o c. ap (λ (z : Book). claim_in z o c) locks;
  book = subst (λ (z : Book). IsBook z) (sym locks) book;
  member = member;
  entries = ap (λ (z : Book). z.entries) locks;
  agents = ap (λ (z : Book). z.agents) locks;
}

itself : (s : MarksState) → IsBook s.locks → AreFree s.trans.slots → Rests s s
itself s book free = inl (free, own_same s s book refl refl)

-- a test that isn't passed
unless : (b : Bool) (s t : MarksState) → IsBook s.locks → AreFree s.trans.slots → b ≡ false → Rests s (if b then t else s)
unless true s t book free e = absurd (never e)
unless false s t book free e = itself s book free

if_moved : (b : Bool) (s t u : MarksState) → Rests s t → Rests s u → Rests s (if b then t else u)
if_moved true s t u x y = x
if_moved false s t u x y = y

free_forward : (x : Stage) → is_free x ≡ true → is_forward x ≡ false
free_forward stage.Free e = refl
free_forward stage.Forward e = absurd (never (sym e))
free_forward stage.Drawn e = refl
free_forward stage.Decided e = refl
free_forward stage.Undoing e = refl
free_forward stage.Postponed e = refl

free_undoing : (x : Stage) → is_free x ≡ true → is_undoing x ≡ false
free_undoing stage.Free e = refl
free_undoing stage.Forward e = refl
free_undoing stage.Drawn e = refl
free_undoing stage.Decided e = refl
free_undoing stage.Undoing e = absurd (never (sym e))
free_undoing stage.Postponed e = refl

second_false : (a b c : Bool) → b ≡ false → (a && (b && c)) ≡ false
second_false true true c e = absurd (never e)
second_false true false c e = refl
second_false false b c e = refl

first_false : (a b : Bool) → a ≡ false → (a && b) ≡ false
first_false true b e = absurd (never e)
first_false false b e = refl

-- ---- by move
claims_rest : (s : MarksState) (slot : ℕ) (n : Name) (m : Mode) (memory : Bool) (spare : ℕ) → IsBook s.locks → AreFree s.trans.slots → Rests s (after_claim s slot n m s.trans.place memory spare)
claims_rest s slot n m memory spare book free =
    unless (may_claim s slot n) s (tried_as s slot n m s.trans.place memory spare (ask_of s.locks slot n m)) book free
    (second_false (is_agent s slot) (is_forward (slot_tran s slot).stage) (is_for_agents n) (free_forward (slot_tran s slot).stage (free slot)))

lock_room : (s : MarksState) (room : ℕ) (t : TransState) → IsBook s.locks → SameOwn s (with_trans (with_lock_room s room) t)
lock_room s room t book = record {
  claims = λ o c. refl;
  book = record { owners = book.owners; few = book.few; once = book.once; apart = book.apart };
  member = refl;
  entries = refl;
  agents = refl;
}

begun_rests : (s : MarksState) (slot n : ℕ) (memory : Bool) (room more : ℕ) → IsBook s.locks → AreFree s.trans.slots → may_begin_in s.trans slot ≡ true → Rests s (with_trans (with_lock_room s room) (begun_with s.trans slot n memory more))
begun_rests s slot n false room more book free may = inl (free, lock_room s room s.trans book)
begun_rests s slot n true room more book free may = inr (busy (may_begin_in s.trans slot) may)
  where
    within : slot < length s.trans.slots
    within = ltb-true slot (length s.trans.slots) (and_parts (nat_lt slot (length s.trans.slots)) (is_free (tran_at s.trans slot).stage) (and_parts (nat_lt 0 slot) (nat_lt slot (length s.trans.slots) && is_free (tran_at s.trans slot).stage) may).1).0

    busy : (b : Bool) → b ≡ true → IsBusy (if b then record s.trans { slots = slice_set s.trans.slots slot (begun n); room = more } else s.trans).slots
    busy true e = becomes_busy s.trans.slots slot (begun n) within refl
    busy false e = absurd (never (sym e))

begins_rest : (s : MarksState) (slot n : ℕ) (memory : Bool) (room more : ℕ) → IsBook s.locks → AreFree s.trans.slots → Rests s (after_begin s slot n memory room more)
begins_rest s slot n memory room more book free = by (may_begin_in s.trans slot) refl
  where
    by : (b : Bool) → may_begin_in s.trans slot ≡ b → Rests s (if b then with_trans (with_lock_room s room) (begun_with s.trans slot n memory more) else s)
    by true e = begun_rests s slot n memory room more book free e
    by false e = itself s book free

may_not : (s : MarksState) (slot : ℕ) → AreFree s.trans.slots → may_refuse s.trans slot ≡ false
may_not s slot free = first_false (is_forward (tran_at s.trans slot).stage) (is_none s.trans.refused) (free_forward (tran_at s.trans slot).stage (free slot))

unless_trans : (b : Bool) (s : MarksState) (t : TransState) → IsBook s.locks → AreFree s.trans.slots → b ≡ false → Rests s (with_trans s (if b then t else s.trans))
unless_trans true s t book free e = absurd (never e)
unless_trans false s t book free e = inl (free, own_same s (with_trans s s.trans) book refl refl)

refuses_rest : (s : MarksState) (slot : ℕ) → IsBook s.locks → AreFree s.trans.slots → Rests s (with_trans s (after_refuse s.trans slot))
refuses_rest s slot book free = unless_trans (may_refuse s.trans slot) s (refused_as s.trans slot s.trans.offer) book free (may_not s slot free)

refused_rests : (s : MarksState) (slot place : ℕ) (r : Refusal) → IsBook s.locks → AreFree s.trans.slots → Rests s (with_trans s (refused_for s.trans slot r place))
refused_rests s slot place r book free = unless_trans (may_refuse s.trans slot) s (record s.trans { slots = slice_set s.trans.slots slot (undoing (tran_at s.trans slot)); refused = Some (record { number = (tran_at s.trans slot).number; refusal = r; place = place }) }) book free (may_not s slot free)

heads_rest : (s t : MarksState) → IsBook s.locks → AreFree s.trans.slots → t.locks ≡ s.locks → t.trans ≡ s.trans → t.member ≡ s.member → Rests s t
heads_rest s t book free locks trans member = inl (subst (λ (z : TransState). AreFree z.slots) (sym trans) free, own_same s t book locks member)

placed_rests : (s : MarksState) (p : PageId) (at : Option ℕ) → IsBook s.locks → AreFree s.trans.slots → Rests s (placed_at s p at)
placed_rests s p None book free = itself s book free
placed_rests s p (Some at) book free =
    if_moved (is_unpinned (head_of s.heads at)) s (with_heads s (placed_in s.heads at p)) s (heads_rest s (with_heads s (placed_in s.heads at p)) book free refl refl refl) (itself s book free)

waits_rest : RollbackWaits → (s : MarksState) (id by : ℕ) (k : Option ℕ) → IsBook s.locks → AreFree s.trans.slots → lock_place s id ≡ k
    → Rests s (record s { locks = record s.locks { rollbacks = waiting_at s.locks.rollbacks k id by }; trans = without_offer s.trans })
waits_rest law s id by None book free there = inl (free, record { claims = λ o c. refl; book = record { owners = book.owners; few = book.few; once = book.once; apart = book.apart }; member = refl; entries = refl; agents = refl })
waits_rest law s id by (Some k) book free there =
    let waits = law s.locks id k by book there in
    inl (free, record { claims = waits.0; book = waits.1; member = refl; entries = refl; agents = refl })

waiting_rests : RollbackWaits → (s : MarksState) (id : ℕ) (by : Option ℕ) → IsBook s.locks → AreFree s.trans.slots → Rests s (waiting_for s id by)
waiting_rests law s id None book free = itself s book free
waiting_rests law s id (Some by) book free = waits_rest law s id by (lock_place s id) book free refl

postpones_rest : (s : MarksState) (slot : ℕ) → IsBook s.locks → AreFree s.trans.slots → Rests s (after_postpone s slot)
postpones_rest s slot book free = unless (can_postpone s slot) s (postponed_for_member s slot (retainer s (owner.Slot slot))) book free
    (second_false (is_agent s slot) (may_postpone_tran s.trans slot) (nat_lt 0 s.locks.room && not (is_postponed s.locks (slot_tran s slot).first))
    (first_false (is_undoing (slot_tran s slot).stage) (not (is_empty (slot_tran s slot).changes) && has_room_for s.trans (slot_tran s slot).first) (free_undoing (slot_tran s slot).stage (free slot))))

one_rests : RollbackWaits → (s : MarksState) (x : Local) → IsBook s.locks → AreFree s.trans.slots → Rests s (moved x s)
one_rests law s (Claim slot n m memory spare) book free = claims_rest s slot n m memory spare book free
one_rests law s (Begin slot n memory room more) book free = begins_rest s slot n memory room more book free
one_rests law s (Refuse slot) book free = refuses_rest s slot book free
one_rests law s (Abort slot) book free = refused_rests s slot s.trans.place refusal.Aborted book free
one_rests law s (RefuseForMemory slot) book free = refused_rests s slot s.trans.place refusal.Memory book free
one_rests law s (Place p) book free = if_moved (is_none (find_page s.heads.frames p)) s (placed_at s p (free_in s.heads)) s (placed_rests s p (free_in s.heads) book free) (itself s book free)
one_rests law s (Pin at) book free =
    if_moved (may_pin s.heads at) s (with_heads s (pinned_to s.heads at ((head_of s.heads at).pins + 1))) s
    (heads_rest s (with_heads s (pinned_to s.heads at ((head_of s.heads at).pins + 1))) book free refl refl refl) (itself s book free)
one_rests law s (Unpin at) book free =
    if_moved (may_unpin s.heads at) s (with_heads s (with_head s.heads at (record (head_of s.heads at) { pins = (head_of s.heads at).pins - 1 }))) s
    (heads_rest s (with_heads s (with_head s.heads at (record (head_of s.heads at) { pins = (head_of s.heads at).pins - 1 }))) book free refl refl refl) (itself s book free)
one_rests law s (Postpone slot) book free = postpones_rest s slot book free
one_rests law s (WaitFor id) book free =
    if_moved (is_postponed s.locks id) s (waiting_for s id (retainer s (owner.Rollback id))) s (waiting_rests law s id (retainer s (owner.Rollback id)) book free) (itself s book free)

-- ---- no move frees a slot
if_busy : (b : Bool) (s t : MarksState) → IsBusy s.trans.slots → IsBusy t.trans.slots → IsBusy (if b then t else s).trans.slots
if_busy true s t x y = y
if_busy false s t x y = x

if_busy_trans : (b : Bool) (s t : TransState) → IsBusy s.slots → IsBusy t.slots → IsBusy (if b then t else s).slots
if_busy_trans true s t x y = y
if_busy_trans false s t x y = x

home_busy : (s : MarksState) (slot : ℕ) (n : Name) (m : Mode) (event : ℕ) (memory : Bool) (spare : ℕ) → IsBusy s.trans.slots → IsBusy (entered_at_home s slot n m event memory spare).trans.slots
home_busy s slot n m event true spare busy = busy
home_busy s slot n m event false spare busy = busy

tried_busy : (s : MarksState) (slot : ℕ) (n : Name) (m : Mode) (event : ℕ) (memory : Bool) (spare : ℕ) (a : Ask) → IsBusy s.trans.slots → IsBusy (tried_as s slot n m event memory spare a).trans.slots
tried_busy s slot n m event memory spare ask.Have busy = busy
tried_busy s slot n m event memory spare (ask.Conflict by) busy = busy
tried_busy s slot n m event memory spare (ask.Postponed by) busy = busy
tried_busy s slot n m event memory spare ask.Local busy = home_busy s slot n m event memory spare busy
tried_busy s slot n m event memory spare (ask.Facility more) busy = busy

begun_busy : (t : TransState) (slot n : ℕ) (memory : Bool) (room : ℕ) → IsBusy t.slots → IsBusy (begun_with t slot n memory room).slots
begun_busy t slot n true room busy = if_busy_trans (may_begin_in t slot) t (record t { slots = slice_set t.slots slot (begun n); room = room }) busy (set_busy t.slots slot (begun n) refl busy)
begun_busy t slot n false room busy = busy

refused_busy : (t : TransState) (slot : ℕ) (r : Refusal) (place : ℕ) → IsBusy t.slots → IsBusy (refused_for t slot r place).slots
refused_busy t slot r place busy =
    if_busy_trans (may_refuse t slot) t (record t { slots = slice_set t.slots slot (undoing (tran_at t slot)); refused = Some (record { number = (tran_at t slot).number; refusal = r; place = place }) }) busy
    (set_busy t.slots slot (undoing (tran_at t slot)) refl busy)

refused_as_busy : (t : TransState) (slot : ℕ) (o : Option Offer) → IsBusy t.slots → IsBusy (refused_as t slot o).slots
refused_as_busy t slot None busy = busy
refused_as_busy t slot (Some o) busy = if_busy_trans (same_owner o.owner (owner.Slot slot)) t (record (refused_for t slot o.refusal o.place) { offer = None }) busy (refused_busy t slot o.refusal o.place busy)

placed_busy : (s : MarksState) (p : PageId) (at : Option ℕ) → IsBusy s.trans.slots → IsBusy (placed_at s p at).trans.slots
placed_busy s p None busy = busy
placed_busy s p (Some at) busy = if_busy (is_unpinned (head_of s.heads at)) s (with_heads s (placed_in s.heads at p)) busy busy

waiting_busy : (s : MarksState) (id : ℕ) (by : Option ℕ) → IsBusy s.trans.slots → IsBusy (waiting_for s id by).trans.slots
waiting_busy s id None busy = busy
waiting_busy s id (Some by) busy = busy

tran_postponed_busy : (t : TransState) (slot : ℕ) → IsBusy t.slots → IsBusy (without_offer (postponed_tran t slot)).slots
tran_postponed_busy t slot busy = if_busy_trans (may_postpone_tran t slot) t (postponed_with t slot (tran_at t slot)) busy (set_busy t.slots slot (left_behind (tran_at t slot)) refl busy)

postponed_busy : (s : MarksState) (slot : ℕ) (by : Option ℕ) → IsBusy s.trans.slots → IsBusy (postponed_for_member s slot by).trans.slots
postponed_busy s slot None busy = busy
postponed_busy s slot (Some by) busy = tran_postponed_busy s.trans slot busy

one_busy : (s : MarksState) (x : Local) → IsBusy s.trans.slots → IsBusy (moved x s).trans.slots
one_busy s (Claim slot n m memory spare) busy = if_busy (may_claim s slot n) s (tried_as s slot n m s.trans.place memory spare (ask_of s.locks slot n m)) busy (tried_busy s slot n m s.trans.place memory spare (ask_of s.locks slot n m) busy)
one_busy s (Begin slot n memory room more) busy = if_busy (may_begin_in s.trans slot) s (with_trans (with_lock_room s room) (begun_with s.trans slot n memory more)) busy (begun_busy s.trans slot n memory more busy)
one_busy s (Refuse slot) busy = if_busy_trans (may_refuse s.trans slot) s.trans (refused_as s.trans slot s.trans.offer) busy (refused_as_busy s.trans slot s.trans.offer busy)
one_busy s (Abort slot) busy = refused_busy s.trans slot refusal.Aborted s.trans.place busy
one_busy s (RefuseForMemory slot) busy = refused_busy s.trans slot refusal.Memory s.trans.place busy
one_busy s (Place p) busy = if_busy (is_none (find_page s.heads.frames p)) s (placed_at s p (free_in s.heads)) busy (placed_busy s p (free_in s.heads) busy)
one_busy s (Pin at) busy = if_busy (may_pin s.heads at) s (with_heads s (pinned_to s.heads at ((head_of s.heads at).pins + 1))) busy busy
one_busy s (Unpin at) busy = if_busy (may_unpin s.heads at) s (with_heads s (with_head s.heads at (record (head_of s.heads at) { pins = (head_of s.heads at).pins - 1 }))) busy busy
one_busy s (Postpone slot) busy = if_busy (can_postpone s slot) s (postponed_for_member s slot (retainer s (owner.Slot slot))) busy (postponed_busy s slot (retainer s (owner.Slot slot)) busy)
one_busy s (WaitFor id) busy = if_busy (is_postponed s.locks id) s (waiting_for s id (retainer s (owner.Rollback id))) busy (waiting_busy s id (retainer s (owner.Rollback id)) busy)

stays_busy : (xs : List Local) (s : MarksState) → IsBusy s.trans.slots → IsBusy (all_moved xs s).trans.slots
stays_busy [] s busy = busy
stays_busy (x ∷ xs) s busy = stays_busy xs (moved x s) (one_busy s x busy)

-- ---- all moves
own_on : (s t u : MarksState) → SameOwn s t → SameOwn t u → SameOwn s u
own_on s t u a b = record {
  claims = λ o c. b.claims o c ∙ a.claims o c;
  book = b.book;
  member = b.member ∙ a.member;
  entries = b.entries ∙ a.entries;
  agents = b.agents ∙ a.agents;
}

all_rest : RollbackWaits → (xs : List Local) (s : MarksState) → IsBook s.locks → AreFree s.trans.slots → AreFree (all_moved xs s).trans.slots → SameOwn s (all_moved xs s)
all_rest law [] s book free last = own_same s s book refl refl
all_rest law (x ∷ xs) s book free last = elim (one_rests law s x book free) [
  | inl on ↦ own_on s (moved x s) (all_moved xs (moved x s)) on.1 (all_rest law xs (moved x s) on.1.book on.0 last)
  | inr busy ↦ absurd (not_both (all_moved xs (moved x s)).trans.slots last (stays_busy xs (moved x s) busy))
]

pub reaches_busy : (s t : MarksState) → Reaches s t → IsBusy s.trans.slots → IsBusy t.trans.slots
unfolding Reaches
reaches_busy s t r busy = subst (λ (z : MarksState). IsBusy z.trans.slots) (sym r.1) (stays_busy r.0 s busy)

pub locals_rest : RollbackWaits → (s t : MarksState) → Reaches s t → IsBook s.locks → AreFree s.trans.slots → AreFree t.trans.slots → SameOwn s t
unfolding Reaches
locals_rest law s t r book free last = subst (λ (z : MarksState). SameOwn s z) (sym r.1) (all_rest law r.0 s book free (subst (λ (z : MarksState). AreFree z.trans.slots) r.1 last))
