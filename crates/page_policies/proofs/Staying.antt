-- Locks and ends of transactions leave the member's page claims, and so do all local moves.
use Rattle.std.proofs.Common.{◌≡◌, ◌≢◌, ℕ, zero, suc, ◌+◌, refl, sym, ap, subst, ◌∙◌, Bool, true, false, inl, inr, List, [], ◌∷◌, ◌++◌, Option, Some, None, arith, slice_set}
use Rattle.std.specs.Prelude.{◌==◌, ◌&&◌, not, nat_lt, nat_le, remove, if◌then◌else◌, is_none, is_some, slice_index_or}
use Rattle.std.proofs.lemmas.Bool.{and_parts, cases_eq, cond-true, cond-false, eq-eqb, ne_eqb}
use Rattle.std.proofs.lemmas.List.{get_or-set_other}
use Rattle.ds_base.specs.declared.names.PageId.{PageId}
use Rattle.ds_model.specs.declared.lock.Name.{Name}
use Rattle.ds_model.specs.declared.lock.Name.TheVariants as name
use Rattle.lock_names.specs.declared.mode.Mode.{Mode}
use Rattle.lock_manager.specs.declared.claim.Ask.{Ask}
use Rattle.lock_manager.specs.declared.claim.Ask.TheVariants as ask
use Rattle.lock_manager.specs.declared.claim.Claim.{Claim}
use Rattle.lock_manager.specs.Claims.{mode_in}
use Rattle.lock_manager.specs.Managers.{Book, slots, claims_of, ask_of, given, with_claims, after_release, release_told, ended, after_postponed_release, dropped, is_postponed}
use Rattle.facility.specs.States.{Held}
use Rattle.member_log.specs.Buffers.{LogBuffer}
use Rattle.member_pool.specs.Frames.{find_page, is_unpinned}
use Rattle.member_pool.specs.Heads.{HeadState, free_in, head_of, placed_in}
use Rattle.member_trans.specs.declared.fate.Owner.{Owner}
use Rattle.member_trans.specs.declared.fate.Owner.TheVariants as owner
use Rattle.member_trans.specs.Trans.{may_begin, is_forward, may_postpone as may_postpone_tran}
use Rattle.member_marks.specs.State.{MarksState, agents_of, slot_tran, with_heads, with_trans, with_locks}
use Rattle.member_marks.specs.Claims.{is_agent, is_for_agents, may_claim, has_spare, entered_as, entered, after_enter, slot_released, rollback_releasing, after_release_of, slot_over, after_end_of, lock_place, noted_released, offered_memory}
use Rattle.member_marks.specs.Frames.{placed_at, after_place, may_pin, after_pin, may_unpin, after_unpin}
use Rattle.member_marks.specs.Local.{Local, Claim as TryClaim, Begin, Refuse, Abort, RefuseForMemory, Place, Pin, Unpin, Postpone, WaitFor, moved, all_moved, Reaches, tried_as, entered_at_home, after_claim, after_begin, with_lock_room, begun_with}
use Rattle.member_marks.specs.Rollbacks.{can_postpone, postponed_for_member, after_postpone, waiting_for, after_wait, retainer}
use Rattle.member_effects.specs.Kept.{Kept}
use Rattle.member_effects.specs.Changes.{with_marks}
use Rattle.page_protocol.specs.Moves.{World, Move, Run}
use Rattle.page_protocol.specs.Always.{AlwaysGood}
use Rattle.page_world.specs.Numbers.{set_of}
use Rattle.page_world.specs.Holdings.{Copy, Holdings, with_facility}
use Rattle.page_intents.specs.Stands.{copy_of, behind, Goes}
use Rattle.page_intents.specs.Frames.{Begins}
use Rattle.page_intents.specs.Owners.{LeavesPages, StayGoes}
use Rattle.page_intents.specs.Plain.{ArePlain, none_waits}
use Rattle.page_intents.specs.Locals.{PinGoes, PlaceGoes, UnpinGoes}
use Rattle.page_policies.specs.Locals.{LocalsLeaveLog, OwnClaimsStay, TransLeavePages, LocalGoes, ReachesGoes}

-- ---- the claims of the member itself
record Own (s t : MarksState) : Type 0 where
  pub member : t.member ≡ s.member
  pub heads : t.heads ≡ s.heads
  pub log : t.log ≡ s.log
  pub claims : claims_of t.locks 0 ≡ claims_of s.locks 0

leaves : (s t : MarksState) → Own s t → LeavesPages s t
leaves s t o = record { member = o.member; heads = o.heads; log = o.log; claims = λ p. ap (λ (cs : List Claim). is_some (mode_in cs (name.Page p))) o.claims }

same : (s : MarksState) → Own s s
same s = record { member = refl; heads = refl; log = refl; claims = refl }

if_so : (s t : MarksState) (b : Bool) → (b ≡ true → Own s t) → Own s (if b then t else s)
if_so s t true h = h refl
if_so s t false h = same s

-- a slot from 1 on
not_own : (n : ℕ) (b : Bool) → (nat_lt 0 n && b) ≡ true → n ≢ 0
not_own n b e z = off (nat_lt 0 n) b (ap (nat_lt 0) z) e
  where
    off : (a b : Bool) → a ≡ false → (a && b) ≡ true → ⊥
    off true b f e = absurd (cc f)
    off false b f e = absurd (cc e)

first_stays : (xs : List (List Claim)) (slot : ℕ) (cs : List Claim) → slot ≢ 0 → slice_index_or (slice_set xs slot cs) 0 [] ≡ slice_index_or xs 0 []
first_stays xs slot cs ne = get_or-set_other xs slot 0 cs [] (λ z. ne (sym z))

first_kept : (xs : List (List Claim)) (slot : ℕ) → slot ≢ 0 → slice_index_or (slice_set xs slot [] ++ slice_index_or xs slot [] ∷ []) 0 [] ≡ slice_index_or xs 0 []
first_kept [] slot ne = refl
first_kept (x ∷ xs) zero ne = absurd (ne refl)
first_kept (x ∷ xs) (suc j) ne = refl

first_left : (xs : List (List Claim)) (i : ℕ) → i ≢ 0 → slice_index_or (remove xs i) 0 [] ≡ slice_index_or xs 0 []
first_left [] zero ne = absurd (ne refl)
first_left [] (suc j) ne = refl
first_left (x ∷ xs) zero ne = absurd (ne refl)
first_left (x ∷ xs) (suc j) ne = refl

-- ---- locks that are entered
enters_own : (s : MarksState) (slot : ℕ) (n : Name) (m : Mode) (event : ℕ) → slot ≢ 0 → Own s (entered s slot n m event)
enters_own s slot n m event ne = by (has_spare s)
  where
    by : (b : Bool) → Own s (if b then with_locks s (given s.locks slot n m) else offered_memory s slot event)
    by true = record { member = refl; heads = refl; log = refl; claims = first_stays s.locks.holders slot _ ne }
    by false = record { member = refl; heads = refl; log = refl; claims = refl }

entered_own : (s : MarksState) (slot : ℕ) (n : Name) (m : Mode) (event : ℕ) (a : Ask) → slot ≢ 0 → Own s (entered_as s slot n m event a)
entered_own s slot n m event ask.Have ne = enters_own s slot n m event ne
entered_own s slot n m event (ask.Conflict by) ne = record { member = refl; heads = refl; log = refl; claims = refl }
entered_own s slot n m event (ask.Postponed by) ne = record { member = refl; heads = refl; log = refl; claims = refl }
entered_own s slot n m event ask.Local ne = enters_own s slot n m event ne
entered_own s slot n m event (ask.Facility more) ne = enters_own s slot n m event ne

agent_slot : (s : MarksState) (slot : ℕ) (b : Bool) → (is_agent s slot && b) ≡ true → slot ≢ 0
agent_slot s slot b e = not_own slot (nat_le slot (agents_of s)) (and_parts (is_agent s slot) b e).0

enter_own : (s : MarksState) (slot : ℕ) (n : Name) (m : Mode) (event : ℕ) → Own s (after_enter s slot n m event)
enter_own s slot n m event =
    if_so s (entered_as s slot n m event (ask_of s.locks slot n m)) (may_claim s slot n) (λ e. entered_own s slot n m event (ask_of s.locks slot n m) (agent_slot s slot (is_forward (slot_tran s slot).stage && is_for_agents n) e))

home_own : (s : MarksState) (slot : ℕ) (n : Name) (m : Mode) (event : ℕ) (has_memory : Bool) (spare : ℕ) → slot ≢ 0 → Own s (entered_at_home s slot n m event has_memory spare)
home_own s slot n m event true spare ne = record { member = refl; heads = refl; log = refl; claims = first_stays s.locks.holders slot _ ne }
home_own s slot n m event false spare ne = record { member = refl; heads = refl; log = refl; claims = refl }

tried_own : (s : MarksState) (slot : ℕ) (n : Name) (m : Mode) (event : ℕ) (has_memory : Bool) (spare : ℕ) (a : Ask) → slot ≢ 0 → Own s (tried_as s slot n m event has_memory spare a)
tried_own s slot n m event has_memory spare ask.Have ne = same s
tried_own s slot n m event has_memory spare (ask.Conflict by) ne = record { member = refl; heads = refl; log = refl; claims = refl }
tried_own s slot n m event has_memory spare (ask.Postponed by) ne = record { member = refl; heads = refl; log = refl; claims = refl }
tried_own s slot n m event has_memory spare ask.Local ne = home_own s slot n m event has_memory spare ne
tried_own s slot n m event has_memory spare (ask.Facility more) ne = same s

-- ---- locks that are given up
slot_own : (s : MarksState) (slot : ℕ) → Own s (slot_released s slot)
slot_own s slot =
    if_so s (with_locks (noted_released s (owner.Slot slot)) (after_release s.locks slot)) (is_agent s slot)
    (λ e. record { member = refl; heads = refl; log = refl; claims = first_stays s.locks.holders slot _ (not_own slot (nat_le slot (agents_of s)) e) })

above : (a k : ℕ) → a + 1 + k ≢ 0
above a k e = omega (arith, e)

book_released : (b : Book) (o : Option ℕ) → claims_of (after_postponed_release b o) 0 ≡ claims_of b 0
book_released b None = refl
book_released b (Some k) = by (is_some (release_told b (slots b + k)))
  where
    now : claims_of (after_release b (slots b + k)) 0 ≡ claims_of b 0
    now = first_stays b.holders (slots b + k) _ (above b.agents k)

    by : (x : Bool) → claims_of (if x then after_release b (slots b + k) else ended (after_release b (slots b + k)) k) 0 ≡ claims_of b 0
    by true = now
    by false = first_left (after_release b (slots b + k)).holders (slots b + k) (above b.agents k) ∙ now

book_dropped : (b : Book) (o : Option ℕ) → claims_of (dropped b o) 0 ≡ claims_of b 0
book_dropped b None = refl
book_dropped b (Some k) = first_left (with_claims b (slots b + k) []).holders (slots b + k) (above b.agents k) ∙ first_stays b.holders (slots b + k) [] (above b.agents k)

released_own : (s : MarksState) (o : Owner) → Own s (after_release_of s o)
released_own s (owner.Slot slot) = slot_own s slot
released_own s (owner.Rollback id) =
    if_so s (with_locks (noted_released s (owner.Rollback id)) (after_postponed_release s.locks (lock_place s id))) (is_some (rollback_releasing s id))
    (λ e. record { member = refl; heads = refl; log = refl; claims = book_released s.locks (lock_place s id) })

over_own : (s : MarksState) (slot : ℕ) → Own s (slot_over s slot)
over_own s slot = if_so s _ (is_agent s slot) (λ e. record { member = refl; heads = refl; log = refl; claims = first_stays s.locks.holders slot [] (not_own slot (nat_le slot (agents_of s)) e) })

ended_own : (s : MarksState) (o : Owner) → Own s (after_end_of s o)
ended_own s (owner.Slot slot) = over_own s slot
ended_own s (owner.Rollback id) = record { member = refl; heads = refl; log = refl; claims = book_dropped s.locks (lock_place s id) }

pub trans_leave : TransLeavePages
trans_leave = record {
  enters = λ s slot n m event. leaves s (after_enter s slot n m event) (enter_own s slot n m event);
  releases = λ s o. leaves s (after_release_of s o) (released_own s o);
  ends = λ s o. leaves s (after_end_of s o) (ended_own s o);
  offers = λ s o r place. record { member = refl; heads = refl; log = refl; claims = λ p. refl };
}

-- ---- local moves that leave the frames
postponed_own : (s : MarksState) (slot : ℕ) (o : Option ℕ) → slot ≢ 0 → Own s (postponed_for_member s slot o)
postponed_own s slot None ne = same s
postponed_own s slot (Some by) ne = record { member = refl; heads = refl; log = refl; claims = first_kept s.locks.holders slot ne }

waiting_own : (s : MarksState) (id : ℕ) (o : Option ℕ) → Own s (waiting_for s id o)
waiting_own s id None = same s
waiting_own s id (Some by) = record { member = refl; heads = refl; log = refl; claims = refl }

still : StayGoes → (w : World) (g : Holdings) (content : ℕ → ℕ → List ℕ) (forced : ℕ → ℕ) (k : Kept) (t : MarksState) → Begins w g content forced k → Own k.marks t
    → Goes w content forced (behind g g.facility k.marks.member (with_marks k t)) k.marks (with_marks k t)
still law w g content forced k t b o =
    subst (λ z. Goes w content forced z k.marks (with_marks k t)) whole
    (law w g content forced k t g.facility b (leaves k.marks t o) (record { directory = refl; counter = refl; members = refl; statuses = refl }))
  where
    each : (p n : ℕ) → g.copies p n ≡ (if p == k.marks.member then copy_of t.heads k.pages n else g.copies p n)
    each p n = elim (cases_eq p k.marks.member) [
      | inl e ↦ ap (λ z. g.copies z n) e ∙ b.up.copies n ∙ sym (ap (λ (z : HeadState). copy_of z k.pages n) o.heads) ∙ sym (cond-true (p == k.marks.member) (copy_of t.heads k.pages n) (g.copies p n) (eq-eqb p k.marks.member e))
      | inr ne ↦ sym (cond-false (p == k.marks.member) (copy_of t.heads k.pages n) (g.copies p n) (ne_eqb p k.marks.member ne))
    ]

    whole : with_facility g g.facility ≡ behind g g.facility k.marks.member (with_marks k t)
    whole = λ i. record g { facility = g.facility; copies = λ p n. each p n i }

claim_own : (s : MarksState) (slot : ℕ) (n : Name) (m : Mode) (has_memory : Bool) (spare : ℕ) → Own s (after_claim s slot n m s.trans.place has_memory spare)
claim_own s slot n m has_memory spare =
    if_so s (tried_as s slot n m s.trans.place has_memory spare (ask_of s.locks slot n m)) (may_claim s slot n)
    (λ e. tried_own s slot n m s.trans.place has_memory spare (ask_of s.locks slot n m) (agent_slot s slot (is_forward (slot_tran s slot).stage && is_for_agents n) e))

begin_own : (s : MarksState) (slot n : ℕ) (has_memory : Bool) (lock_room room : ℕ) → Own s (after_begin s slot n has_memory lock_room room)
begin_own s slot n has_memory lock_room room =
    if_so s (with_trans (with_lock_room s lock_room) (begun_with s.trans slot n has_memory room)) (may_begin s.trans slot) (λ e. record { member = refl; heads = refl; log = refl; claims = refl })

postpone_own : (s : MarksState) (slot : ℕ) → Own s (after_postpone s slot)
postpone_own s slot =
    if_so s (postponed_for_member s slot (retainer s (owner.Slot slot))) (can_postpone s slot)
    (λ e. postponed_own s slot (retainer s (owner.Slot slot)) (agent_slot s slot (may_postpone_tran s.trans slot && (nat_lt 0 s.locks.room && not (is_postponed s.locks (slot_tran s slot).first))) e))

wait_own : (s : MarksState) (id : ℕ) → Own s (after_wait s id)
wait_own s id = if_so s (waiting_for s id (retainer s (owner.Rollback id))) (is_postponed s.locks id) (λ e. waiting_own s id (retainer s (owner.Rollback id)))

pub local_goes : PlaceGoes → PinGoes → UnpinGoes → StayGoes → LocalGoes
local_goes place pin unpin law w g content forced k (TryClaim slot n m has_memory spare) b =
    still law w g content forced k (after_claim k.marks slot n m k.marks.trans.place has_memory spare) b (claim_own k.marks slot n m has_memory spare)
local_goes place pin unpin law w g content forced k (Begin slot n has_memory lock_room room) b =
    still law w g content forced k (after_begin k.marks slot n has_memory lock_room room) b (begin_own k.marks slot n has_memory lock_room room)
local_goes place pin unpin law w g content forced k (Refuse slot) b = still law w g content forced k (moved (Refuse slot) k.marks) b (record { member = refl; heads = refl; log = refl; claims = refl })
local_goes place pin unpin law w g content forced k (Abort slot) b = still law w g content forced k (moved (Abort slot) k.marks) b (record { member = refl; heads = refl; log = refl; claims = refl })
local_goes place pin unpin law w g content forced k (RefuseForMemory slot) b = still law w g content forced k (moved (RefuseForMemory slot) k.marks) b (record { member = refl; heads = refl; log = refl; claims = refl })
local_goes place pin unpin law w g content forced k (Place p) b = place w g content forced k p b
local_goes place pin unpin law w g content forced k (Pin at) b = pin w g content forced k at b
local_goes place pin unpin law w g content forced k (Unpin at) b = unpin w g content forced k at b
local_goes place pin unpin law w g content forced k (Postpone slot) b = still law w g content forced k (after_postpone k.marks slot) b (postpone_own k.marks slot)
local_goes place pin unpin law w g content forced k (WaitFor id) b = still law w g content forced k (after_wait k.marks id) b (wait_own k.marks id)

-- ---- the claims of the member itself behind local moves
locks_if : (s t : MarksState) (b : Bool) → t.locks ≡ s.locks → (if b then t else s).locks ≡ s.locks
locks_if s t true e = e
locks_if s t false e = refl

placed_locks : (s : MarksState) (p : PageId) (o : Option ℕ) → (placed_at s p o).locks ≡ s.locks
placed_locks s p None = refl
placed_locks s p (Some at) = locks_if s (with_heads s (placed_in s.heads at p)) (is_unpinned (head_of s.heads at)) refl

own_of : (s t : MarksState) → t.locks ≡ s.locks → claims_of t.locks 0 ≡ claims_of s.locks 0
own_of s t e = ap (λ (z : Book). claims_of z 0) e

local_own : (x : Local) (s : MarksState) → claims_of (moved x s).locks 0 ≡ claims_of s.locks 0
local_own (TryClaim slot n m has_memory spare) s = (claim_own s slot n m has_memory spare).claims
local_own (Begin slot n has_memory lock_room room) s = (begin_own s slot n has_memory lock_room room).claims
local_own (Refuse slot) s = refl
local_own (Abort slot) s = refl
local_own (RefuseForMemory slot) s = refl
local_own (Place p) s = own_of s (after_place s p) (locks_if s (placed_at s p (free_in s.heads)) (is_none (find_page s.heads.frames p)) (placed_locks s p (free_in s.heads)))
local_own (Pin at) s = own_of s (after_pin s at) (locks_if s _ (may_pin s.heads at) refl)
local_own (Unpin at) s = own_of s (after_unpin s at) (locks_if s _ (may_unpin s.heads at) refl)
local_own (Postpone slot) s = (postpone_own s slot).claims
local_own (WaitFor id) s = (wait_own s id).claims

all_own : (xs : List Local) (s : MarksState) → claims_of (all_moved xs s).locks 0 ≡ claims_of s.locks 0
all_own [] s = refl
all_own (x ∷ xs) s = all_own xs (moved x s) ∙ local_own x s

reach_own : (s t : MarksState) → Reaches s t → claims_of t.locks 0 ≡ claims_of s.locks 0
unfolding Reaches
reach_own s t r = ap (λ (z : MarksState). claims_of z.locks 0) r.1 ∙ all_own r.0 s

pub own_stay : OwnClaimsStay
own_stay = record {
  enters = λ s slot n m event. (enter_own s slot n m event).claims;
  releases = λ s o. (released_own s o).claims;
  ends = λ s o. (ended_own s o).claims;
  reaches = reach_own;
}

-- ---- the log buffer behind them
log_if : (s t : MarksState) (b : Bool) → t.log ≡ s.log → (if b then t else s).log ≡ s.log
log_if s t true e = e
log_if s t false e = refl

placed_log : (s : MarksState) (p : PageId) (o : Option ℕ) → (placed_at s p o).log ≡ s.log
placed_log s p None = refl
placed_log s p (Some at) = log_if s (with_heads s (placed_in s.heads at p)) (is_unpinned (head_of s.heads at)) refl

local_log : (x : Local) (s : MarksState) → (moved x s).log ≡ s.log
local_log (TryClaim slot n m has_memory spare) s = (claim_own s slot n m has_memory spare).log
local_log (Begin slot n has_memory lock_room room) s = (begin_own s slot n has_memory lock_room room).log
local_log (Refuse slot) s = refl
local_log (Abort slot) s = refl
local_log (RefuseForMemory slot) s = refl
local_log (Place p) s = log_if s (placed_at s p (free_in s.heads)) (is_none (find_page s.heads.frames p)) (placed_log s p (free_in s.heads))
local_log (Pin at) s = log_if s _ (may_pin s.heads at) refl
local_log (Unpin at) s = log_if s _ (may_unpin s.heads at) refl
local_log (Postpone slot) s = (postpone_own s slot).log
local_log (WaitFor id) s = (wait_own s id).log

all_log : (xs : List Local) (s : MarksState) → (all_moved xs s).log ≡ s.log
all_log [] s = refl
all_log (x ∷ xs) s = all_log xs (moved x s) ∙ local_log x s

pub reach_log : LocalsLeaveLog
unfolding Reaches
reach_log s t r = ap (λ (z : MarksState). z.log) r.1 ∙ all_log r.0 s

-- ---- several
plain_on : (appends : Bool) (xs ys : List Move) → ArePlain appends xs → ArePlain appends ys → ArePlain appends (xs ++ ys)
plain_on appends [] ys a b = b
plain_on appends (x ∷ xs) ys a b = (a.0, plain_on appends xs ys a.1 b)

run_on : (w mid v : World) (xs ys : List Move) → Run set_of w xs mid → Run set_of mid ys v → Run set_of w (xs ++ ys) v
run_on w mid v [] ys r q = subst (λ x. Run set_of x ys v) r q
run_on w mid v (e ∷ es) ys r q = (r.0, r.1, run_on r.0 mid v es ys r.2 q)

twice : (x : Bool) (a b c : Copy) → (if x then a else (if x then b else c)) ≡ (if x then a else c)
twice true a b c = refl
twice false a b c = refl

behind_again : (g : Holdings) (v : Held) (m : ℕ) (t u : Kept) → behind (behind g v m t) v m u ≡ behind g v m u
behind_again g v m t u = λ i. record g { facility = v; copies = λ p n. twice (p == m) (copy_of u.marks.heads u.pages n) (copy_of t.marks.heads t.pages n) (g.copies p n) i }

abbrev Stays : Type 0
Stays = (w : World) (g : Holdings) (content : ℕ → ℕ → List ℕ) (forced : ℕ → ℕ) (k : Kept) → Begins w g content forced k → Goes w content forced (behind g g.facility k.marks.member k) k.marks k

all_reached : Stays → LocalGoes → AlwaysGood → (xs : List Local) (w : World) (g : Holdings) (content : ℕ → ℕ → List ℕ) (forced : ℕ → ℕ) (k : Kept) → Begins w g content forced k
    → Goes w content forced (behind g g.facility k.marks.member (with_marks k (all_moved xs k.marks))) k.marks (with_marks k (all_moved xs k.marks))
all_reached none one good [] w g content forced k b = none w g content forced k b
all_reached none one good (x ∷ xs) w g content forced k b =
    let m = k.marks.member in
    let first = one w g content forced k x b in
    let mid = with_marks k (moved x k.marks) in
    let between = behind g g.facility m mid in
    let next = all_reached none one good xs first.moved.world between content forced mid (record { good = good set_of first.moves w first.moved.world b.good first.moved.run; tied = first.moved.tied; numbered = first.numbered; sound = b.sound; up = first.stands }) in
    let last = with_marks k (all_moved (x ∷ xs) k.marks) in
    let left : behind between g.facility mid.marks.member last ≡ behind g g.facility m last = ap (λ z. behind between g.facility z last) first.same ∙ behind_again g g.facility m mid last in
    subst (λ z. Goes w content forced z k.marks last) left
    (record {
      moves = first.moves ++ next.moves;
      moved = record { world = next.moved.world; run = run_on w first.moved.world next.moved.world first.moves next.moves first.moved.run next.moved.run; tied = next.moved.tied };
      plain = plain_on (none_waits last.marks.log.pending) first.moves next.moves (subst (λ (z : LogBuffer). ArePlain (none_waits z.pending) first.moves) (sym (all_log xs mid.marks)) first.plain) next.plain;
      numbered = next.numbered;
      same = next.same ∙ first.same;
      stands = next.stands;
    })

pub reaches_goes : StayGoes → LocalGoes → AlwaysGood → ReachesGoes
unfolding Reaches
reaches_goes law one good w g content forced k t b r =
    subst (λ (z : MarksState). Goes w content forced (behind g g.facility k.marks.member (with_marks k z)) k.marks (with_marks k z)) (sym r.1) (all_reached (λ w g content forced k b. still law w g content forced k k.marks b (same k.marks)) one good r.0 w g content forced k b)
