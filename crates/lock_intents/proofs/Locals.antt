-- Local moves, one by one and several.
use Rattle.std.proofs.Common.{◌≡◌, ℕ, ◌+◌, ◌≤◌, ◌<◌, refl, sym, ◌∙◌, ap, subst, arith, Bool, true, false, inl, inr, List, [], ◌∷◌, ◌++◌, Option, Some, None}
use Rattle.std.specs.Prelude.{◌≢◌, ◌-◌, ◌==◌, ◌&&◌, not, nat_le, nat_lt, is_some, is_none, if◌then◌else◌}
use Rattle.std.proofs.lemmas.Bool.{cond-true, cond-false, and_parts, eq-eqb, ne_eqb, ltb-true, leb-true}
use Rattle.ds_base.specs.declared.names.PageId.{PageId}
use Rattle.ds_model.specs.declared.lock.Name.{Name}
use Rattle.ds_model.specs.declared.fate.Refusal.TheVariants as refusal
use Rattle.lock_names.specs.declared.mode.Mode.{Mode}
use Rattle.lock_structure.specs.Locks.{Locks}
use Rattle.lock_manager.specs.Managers.{Book, slots, is_postponed, place_in, waiting_at, after_postpone as claims_postponed}
use Rattle.member_pool.specs.Frames.{find_page, is_unpinned}
use Rattle.member_pool.specs.Heads.{head_of, with_head, placed_in, pinned_to, free_in}
use Rattle.facility.specs.States.{Held}
use Rattle.member_trans.specs.declared.fate.Owner.TheVariants as owner
use Rattle.member_trans.specs.Trans.{TransState, may_begin, after_refuse, refused_for, without_offer, may_postpone as may_postpone_tran, after_postpone as tran_postponed}
use Rattle.member_marks.specs.State.{MarksState, agents_of, slot_tran, with_heads, with_trans}
use Rattle.member_marks.specs.Claims.{is_agent, lock_place}
use Rattle.member_marks.specs.Frames.{may_pin, may_unpin, placed_at, after_place, after_pin, after_unpin}
use Rattle.member_marks.specs.Rollbacks.{retainer, can_postpone, with_postponed, postponed_for_member, after_postpone, waiting_for, after_wait}
use Rattle.member_marks.specs.Local.{Local, Claim, Begin, Refuse, Abort, RefuseForMemory, Place, Pin, Unpin, Postpone, WaitFor, begun_with, with_lock_room, after_begin, moved, all_moved, Reaches}
use Rattle.lock_protocol.specs.Machine.{World}
use Rattle.lock_protocol.specs.Moves.{Move, Run}
use Rattle.lock_protocol.specs.Moves as move
use Rattle.lock_protocol.specs.Own.{AreOf}
use Rattle.lock_protocol.specs.Sound.{Sound, RunKeepsSound}
use Rattle.lock_protocol.proofs.Own.{both_are_of}
use Rattle.lock_world.specs.Books.{IsBook, RollbackWaits, HasHandedOn, PostponedHandsOn}
use Rattle.lock_world.specs.Rollbacks.{HandsOn, PostponesMoves}
use Rattle.lock_world.specs.Standing.{StaysTied}
use Rattle.lock_world.specs.Tied.{Claims, Tied, Moved}
use Rattle.lock_world.specs.Views.{rollback_owner, entry_in, claim_in}
use Rattle.lock_intents.specs.Stands.{Knows, Leads, IsUp, Goes}
use Rattle.lock_intents.specs.Homes.{ClaimGoes, LocalGoes, ReachesGoes}
use Rattle.lock_intents.proofs.Stands.{Keeps, keeps_itself, keeps_as, still_up, quiet_same, quiet_goes}
use Rattle.lock_intents.proofs.Claiming.{SameLocks, as_trans, as_same, same_claims, same_keeps, agent_below}

-- what the crates below say, and the trial at home
pub record Facts : Type 0 where
  pub claim : ClaimGoes
  pub stay : StaysTied
  pub postpone : PostponesMoves
  pub hands_on : PostponedHandsOn
  pub waits : RollbackWaits
  pub sound : RunKeepsSound

quiet : Facts → (w : World) (f : Held) (held left : Claims) (s t : MarksState) → Tied w f.locks f.lists held → IsUp f s → Knows held s → Leads held left s t → SameLocks s t → Goes w f f left s t
quiet facts w f held left s t tied up knows leads e = quiet_goes facts.stay w f f held left s t tied up knows leads (quiet_same f f refl) (same_claims s t e) (same_keeps s t up.book e)

-- ---- moves that leave the lock manager as it is
same_if : (s : MarksState) (b : Bool) (x y : MarksState) → SameLocks s x → SameLocks s y → SameLocks s (if b then x else y)
same_if s true x y a c = a
same_if s false x y a c = c

same_itself : (s : MarksState) → SameLocks s s
same_itself s = record { locks = refl; member = refl }

same_by : (s t u : MarksState) → t ≡ u → SameLocks s u → SameLocks s t
same_by s t u e h = subst (λ z. SameLocks s z) (sym e) h

same_placed : (s : MarksState) (p : PageId) (o : Option ℕ) → SameLocks s (placed_at s p o)
same_placed s p None = same_itself s
same_placed s p (Some at) = same_if s (is_unpinned (head_of s.heads at)) (with_heads s (placed_in s.heads at p)) s (record { locks = refl; member = refl }) (same_itself s)

-- there is other room for rollbacks
room_book : (b : Book) (room : ℕ) → IsBook b → IsBook (record b { room = room })
room_book b room h = record { owners = h.owners; few = h.few; once = h.once; apart = h.apart }

begin_goes : Facts → (w : World) (f : Held) (held left : Claims) (s t : MarksState) (slot n : ℕ) (has_memory : Bool) (lock_room room : ℕ) → Tied w f.locks f.lists held → IsUp f s → Knows held s → Leads held left s t → t ≡ after_begin s slot n has_memory lock_room room → Goes w f f left s t
begin_goes facts w f held left s t slot n has_memory lock_room room tied up knows leads e = by (may_begin s.trans slot) e
  where
    by : (b : Bool) → t ≡ (if b then with_trans (with_lock_room s lock_room) (begun_with s.trans slot n has_memory room) else s) → Goes w f f left s t
    by true h = quiet_goes facts.stay w f f held left s t tied up knows leads (quiet_same f f refl) (λ o c. ap (λ (z : MarksState). claim_in z.locks o c) h)
        (keeps_as s t (with_trans (with_lock_room s lock_room) (begun_with s.trans slot n has_memory room)) h (record { member = refl; entries = refl; book = room_book s.locks lock_room up.book }))
    by false h = quiet facts w f held left s t tied up knows leads (as_same s t h)

-- ---- a rollback is postponed
not_true : (b : Bool) → not b ≡ true → b ≡ false
not_true false e = refl
not_true true e = cc

hands_on : Facts → (w : World) (f : Held) (held left : Claims) (s t : MarksState) (slot by : ℕ) → Tied w f.locks f.lists held → IsUp f s → Knows held s → Leads held left s t → is_agent s slot ≡ true → is_postponed s.locks (slot_tran s slot).first ≡ false
    → t ≡ with_postponed s slot by → Goes w f f left s t
hands_on facts w f held left s t slot by tied up knows leads agent new e =
    let id = (slot_tran s slot).first in
    let lt = agent_below s slot agent in
    let h = facts.hands_on s.locks slot id by up.book lt new in
    let own : (o c : ℕ) → left s.member o c ≡ claim_in (claims_postponed s.locks slot id by) o c = λ o c. leads.own o c ∙ ap (λ (z : MarksState). claim_in z.locks o c) e in
    let kept : Keeps s t = keeps_as s t (with_postponed s slot by) e (record { member = refl; entries = refl; book = h.stands }) in
    record {
      moves = move.Postpone s.member slot (rollback_owner id) ∷ [];
      own = (refl, tt);
      moved = facts.postpone w f.locks f.lists held left s.member slot (rollback_owner id) tied up.member up.up (not_zero (ltb-true 0 slot (and_parts (nat_lt 0 slot) (nat_le slot (agents_of s)) agent).0)) (apart lt)
          (λ c. knows (rollback_owner id) c ∙ h.new c)
          (record {
            others = leads.others;
            given = λ c. own (rollback_owner id) c ∙ h.given c ∙ sym (knows slot c);
            gone = λ c. own slot c ∙ h.gone c;
            rest = λ o c ne other. own o c ∙ h.rest o c ne other ∙ sym (knows o c);
          });
      same = kept.member;
      stands = still_up f f s t up kept refl refl refl;
    }
  where
    not_zero : 0 < slot → slot ≢ 0
    not_zero lt z = omega (arith, lt, z)

    apart : slot < slots s.locks → slot ≢ rollback_owner (slot_tran s slot).first
    apart lt z = omega (arith, lt, z, up.book.few)

postpone_goes : Facts → (w : World) (f : Held) (held left : Claims) (s t : MarksState) (slot : ℕ) → Tied w f.locks f.lists held → IsUp f s → Knows held s → Leads held left s t → t ≡ after_postpone s slot → Goes w f f left s t
postpone_goes facts w f held left s t slot tied up knows leads e = by (can_postpone s slot) refl e
  where
    kept_by : is_agent s slot ≡ true → is_postponed s.locks (slot_tran s slot).first ≡ false → (o : Option ℕ) → t ≡ postponed_for_member s slot o → Goes w f f left s t
    kept_by agent new None h = quiet facts w f held left s t tied up knows leads (as_same s t h)
    kept_by agent new (Some by) h = hands_on facts w f held left s t slot by tied up knows leads agent new h

    by : (b : Bool) → can_postpone s slot ≡ b → t ≡ (if b then postponed_for_member s slot (retainer s (owner.Slot slot)) else s) → Goes w f f left s t
    by true can h =
        let p = and_parts (is_agent s slot) (may_postpone_tran s.trans slot && (nat_lt 0 s.locks.room && not (is_postponed s.locks (slot_tran s slot).first))) can in
        let q = and_parts (may_postpone_tran s.trans slot) (nat_lt 0 s.locks.room && not (is_postponed s.locks (slot_tran s slot).first)) p.1 in
        let r = and_parts (nat_lt 0 s.locks.room) (not (is_postponed s.locks (slot_tran s slot).first)) q.1 in
        kept_by p.0 (not_true (is_postponed s.locks (slot_tran s slot).first) r.1) (retainer s (owner.Slot slot)) h
    by false other h = quiet facts w f held left s t tied up knows leads (as_same s t h)

-- ---- a rollback waits
waits_goes : Facts → (w : World) (f : Held) (held left : Claims) (s t : MarksState) (id by : ℕ) (p : Option ℕ) → Tied w f.locks f.lists held → IsUp f s → Knows held s → Leads held left s t → lock_place s id ≡ p
    → t ≡ record s { locks = record s.locks { rollbacks = waiting_at s.locks.rollbacks p id by }; trans = without_offer s.trans } → Goes w f f left s t
waits_goes facts w f held left s t id by None tied up knows leads place e = quiet facts w f held left s t tied up knows leads (record { locks = ap (λ (z : MarksState). z.locks) e; member = ap (λ (z : MarksState). z.member) e })
waits_goes facts w f held left s t id by (Some k) tied up knows leads place e =
    let h = facts.waits s.locks id k by up.book place in
    quiet_goes facts.stay w f f held left s t tied up knows leads (quiet_same f f refl) (λ o c. ap (λ (z : MarksState). claim_in z.locks o c) e ∙ h.0 o c)
    (keeps_as s t (record s { locks = record s.locks { rollbacks = waiting_at s.locks.rollbacks (Some k) id by }; trans = without_offer s.trans }) e (record { member = refl; entries = refl; book = h.1 }))

wait_goes : Facts → (w : World) (f : Held) (held left : Claims) (s t : MarksState) (id : ℕ) → Tied w f.locks f.lists held → IsUp f s → Knows held s → Leads held left s t → t ≡ after_wait s id → Goes w f f left s t
wait_goes facts w f held left s t id tied up knows leads e = by (is_postponed s.locks id) e
  where
    kept_by : (o : Option ℕ) → t ≡ waiting_for s id o → Goes w f f left s t
    kept_by None h = quiet facts w f held left s t tied up knows leads (as_same s t h)
    kept_by (Some j) h = waits_goes facts w f held left s t id j (lock_place s id) tied up knows leads refl h

    by : (b : Bool) → t ≡ (if b then waiting_for s id (retainer s (owner.Rollback id)) else s) → Goes w f f left s t
    by true h = kept_by (retainer s (owner.Rollback id)) h
    by false h = quiet facts w f held left s t tied up knows leads (as_same s t h)

-- ---- any of them
pub local_goes : Facts → LocalGoes
local_goes facts w f held left s t (Claim slot n m has_memory spare) sound tied up knows e leads = facts.claim w f held left s t slot n m s.trans.place has_memory spare sound tied up knows e leads
local_goes facts w f held left s t (Begin slot n has_memory lock_room room) sound tied up knows e leads = begin_goes facts w f held left s t slot n has_memory lock_room room tied up knows leads e
local_goes facts w f held left s t (Refuse slot) sound tied up knows e leads = quiet facts w f held left s t tied up knows leads (as_trans s t (after_refuse s.trans slot) e)
local_goes facts w f held left s t (Abort slot) sound tied up knows e leads = quiet facts w f held left s t tied up knows leads (as_trans s t (refused_for s.trans slot refusal.Aborted s.trans.place) e)
local_goes facts w f held left s t (RefuseForMemory slot) sound tied up knows e leads = quiet facts w f held left s t tied up knows leads (as_trans s t (refused_for s.trans slot refusal.Memory s.trans.place) e)
local_goes facts w f held left s t (Place p) sound tied up knows e leads = quiet facts w f held left s t tied up knows leads (same_by s t (after_place s p) e (same_if s (is_none (find_page s.heads.frames p)) (placed_at s p (free_in s.heads)) s (same_placed s p (free_in s.heads)) (same_itself s)))
local_goes facts w f held left s t (Pin at) sound tied up knows e leads = quiet facts w f held left s t tied up knows leads (same_by s t (after_pin s at) e (same_if s (may_pin s.heads at) (with_heads s (pinned_to s.heads at ((head_of s.heads at).pins + 1))) s (record { locks = refl; member = refl }) (same_itself s)))
local_goes facts w f held left s t (Unpin at) sound tied up knows e leads = quiet facts w f held left s t tied up knows leads (same_by s t (after_unpin s at) e (same_if s (may_unpin s.heads at) (with_heads s (with_head s.heads at (record (head_of s.heads at) { pins = (head_of s.heads at).pins - 1 }))) s (record { locks = refl; member = refl }) (same_itself s)))
local_goes facts w f held left s t (Postpone slot) sound tied up knows e leads = postpone_goes facts w f held left s t slot tied up knows leads e
local_goes facts w f held left s t (WaitFor id) sound tied up knows e leads = wait_goes facts w f held left s t id tied up knows leads e

-- ---- several
pub run_on : (entry : ℕ → ℕ) (w mid v : World) (xs ys : List Move) → Run entry w xs mid → Run entry mid ys v → Run entry w (xs ++ ys) v
run_on entry w mid v [] ys a b = subst (λ z. Run entry z ys v) a b
run_on entry w mid v (x ∷ xs) ys a b = (a.0, a.1, run_on entry a.0 mid v xs ys a.2 b)

-- the claims once the member's are those of these marks
abbrev with_marks_of : Claims → MarksState → MarksState → Claims
with_marks_of held s t k o c = if k == s.member then claim_in t.locks o c else held k o c

pub reached : Facts → (xs : List Local) (w : World) (f : Held) (held left : Claims) (s t : MarksState) → Sound (entry_in f.locks) w → Tied w f.locks f.lists held → IsUp f s → Knows held s → t ≡ all_moved xs s → Leads held left s t → Goes w f f left s t
reached facts [] w f held left s t sound tied up knows e leads = quiet facts w f held left s t tied up knows leads (as_same s t e)
reached facts (x ∷ xs) w f held left s t sound tied up knows e leads =
    let mid = moved x s in
    let between = with_marks_of held s mid in
    let first = local_goes facts w f held between s mid x sound tied up knows refl (record {
      others = λ k o c ne. cond-false (k == s.member) (claim_in mid.locks o c) (held k o c) (ne_eqb k s.member ne);
      own = λ o c. cond-true (s.member == s.member) (claim_in mid.locks o c) (held s.member o c) (eq-eqb s.member s.member refl);
    }) in
    let next = reached facts xs first.moved.world f between left mid t (facts.sound (entry_in f.locks) first.moves w first.moved.world sound first.moved.run) first.moved.tied first.stands
    (λ o c. cond-true (mid.member == s.member) (claim_in mid.locks o c) (held mid.member o c) (eq-eqb mid.member s.member first.same)) e (record {
      others = λ k o c ne. leads.others k o c (λ z. ne (z ∙ sym first.same)) ∙ sym (cond-false (k == s.member) (claim_in mid.locks o c) (held k o c) (ne_eqb k s.member (λ z. ne (z ∙ sym first.same))));
      own = λ o c. ap (λ z. left z o c) first.same ∙ leads.own o c;
    }) in
    record {
      moves = first.moves ++ next.moves;
      own = both_are_of s.member first.moves next.moves first.own (subst (λ z. AreOf z next.moves) first.same next.own);
      moved = record {
        same = refl;
        world = next.moved.world;
        run = run_on (entry_in f.locks) w first.moved.world next.moved.world first.moves next.moves first.moved.run next.moved.run;
        tied = next.moved.tied;
      };
      same = next.same ∙ first.same;
      stands = next.stands;
    }

pub reaches_goes : Facts → ReachesGoes
unfolding Reaches
reaches_goes facts w f held left s t sound tied up knows r leads = reached facts r.0 w f held left s t sound tied up knows r.1 leads
