-- Whose claims are in the way.
use Rattle.std.proofs.Common.{◌≡◌, ℕ, suc, ◌+◌, ◌-◌, ◌<◌, ◌≤◌, Bool, true, false, not, ◌&&◌, ltb, List, [], ◌∷◌, get_or, Option, Some, None, refl, sym, subst, arith}
use Rattle.std.specs.Prelude.{if◌then◌else◌}
use Rattle.std.proofs.lemmas.Bool.{and_parts, ltb-true, ltb-false}
use Rattle.ds_model.specs.declared.lock.Name.{Name}
use Rattle.lock_names.specs.declared.mode.Mode.{Mode}
use Rattle.lock_manager.specs.declared.claim.Claim.{Claim}
use Rattle.lock_manager.specs.declared.claim.Ask.TheVariants as ask
use Rattle.lock_manager.specs.Claims.{mode_in, joined, is_covered, is_in_way}
use Rattle.lock_manager.specs.Holders.{first_in_way, is_owner}
use Rattle.lock_manager.specs.Managers.{Book, slots, held_by, held_by_member, waited_for, ask_among, ask_of}
use Rattle.member_marks.specs.State.{MarksState, slot_id, slot_tran}
use Rattle.member_marks.specs.Claims.{may_claim}
use Rattle.refusal_causes.specs.Causes.{HasClaim, HasPostponed, IsBlocked}
use Rattle.refusal_causes.proofs.Known.{claims_forward}

-- ---- the first in the way

-- the one that is in the way stands at this place of the owners, who are counted from k on
record Stands (holders : List (List Claim)) (k : ℕ) (n : Name) (m : Mode) (at : ℕ) : Type 0 where
  behind : k ≤ at
  in_way : is_in_way (mode_in (get_or holders (at - k) []) n) m ≡ true

abbrev IsWay : List (List Claim) → ℕ → Name → Mode → Type 0
IsWay holders i n m = is_in_way (mode_in (get_or holders i []) n) m ≡ true

here : (cs : List Claim) (rest : List (List Claim)) (k at : ℕ) (n : Name) (m : Mode) → k ≡ at → is_in_way (mode_in cs n) m ≡ true → Stands (cs ∷ rest) k n m at
here cs rest k at n m e h =
    let z : 0 ≡ at - k = omega arith in
    record { behind = omega arith; in_way = subst (λ (i : ℕ). IsWay (cs ∷ rest) i n m) z h }

behind : (cs : List Claim) (rest : List (List Claim)) (k at : ℕ) (n : Name) (m : Mode) → Stands rest (k + 1) n m at → Stands (cs ∷ rest) k n m at
behind cs rest k at n m h =
    let b : k + 1 ≤ at = h.behind in
    let z : suc (at - (k + 1)) ≡ at - k = omega arith in
    record { behind = omega arith; in_way = subst (λ (i : ℕ). IsWay (cs ∷ rest) i n m) z h.in_way }

found_by : (b : Bool) (cs : List Claim) (rest : List (List Claim)) (k : ℕ) (asker : Option ℕ) (n : Name) (m : Mode) (at : ℕ) → (not (is_owner asker k) && is_in_way (mode_in cs n) m) ≡ b → (first_in_way rest (k + 1) asker n m ≡ Some at → Stands rest (k + 1) n m at) → (if b then Some k else first_in_way rest (k + 1) asker n m) ≡ Some at → Stands (cs ∷ rest) k n m at
found_by true cs rest k asker n m at h ih e = here cs rest k at n m (cc) (and_parts _ _ h).1
found_by false cs rest k asker n m at h ih e = behind cs rest k at n m (ih e)

found : (holders : List (List Claim)) (k : ℕ) (asker : Option ℕ) (n : Name) (m : Mode) (at : ℕ) → first_in_way holders k asker n m ≡ Some at → Stands holders k n m at
found [] k asker n m at e = cc
found (cs ∷ rest) k asker n m at e =
    found_by (not (is_owner asker k) && is_in_way (mode_in cs n) m) cs rest k asker n m at refl (found rest (k + 1) asker n m at) e

-- the owner at this place has a claim on the name that is in the way
pub in_way : (b : Book) (asker : Option ℕ) (n : Name) (m : Mode) (at : ℕ) → first_in_way b.holders 0 asker n m ≡ Some at → is_in_way (held_by b at n) m ≡ true
in_way b asker n m at e =
    let h = found b.holders 0 asker n m at e in
    let z : at - 0 ≡ at = omega arith in
    subst (λ (i : ℕ). IsWay b.holders i n m) z h.in_way

-- ---- who asks at home

local_is_none : (c : Bool) (m : Mode) (by : ℕ) → (if c then ask.Local else ask.Facility m) ≡ ask.Conflict by → ⊥
local_is_none true m by e = cc
local_is_none false m by e = cc

local_is_no_rollback : (c : Bool) (m : Mode) (by : ℕ) → (if c then ask.Local else ask.Facility m) ≡ ask.Postponed by → ⊥
local_is_no_rollback true m by e = cc
local_is_no_rollback false m by e = cc

conflict_at : (c : Bool) (k by waited : ℕ) → (if c then ask.Conflict k else ask.Postponed waited) ≡ ask.Conflict by → (c ≡ true) × (k ≡ by)
conflict_at true k by waited e = (refl, cc)
conflict_at false k by waited e = cc

postponed_at : (c : Bool) (k by waited : ℕ) → (if c then ask.Conflict k else ask.Postponed waited) ≡ ask.Postponed by → (c ≡ false) × (waited ≡ by)
postponed_at true k by waited e = cc
postponed_at false k by waited e = (refl, cc)

-- whether the claims of the owner at this place are in the way
abbrev Blocks : Book → Name → Mode → ℕ → Type 0
Blocks b n m at = is_in_way (held_by b at n) m ≡ true

record Rollback (b : Book) (n : Name) (m : Mode) (by : ℕ) : Type 0 where
  at : ℕ
  is : slots b ≤ at
  waits : waited_for b at ≡ by
  blocks : Blocks b n m at

among_conflict : (b : Book) (asker : Option ℕ) (n : Name) (m : Mode) (by : ℕ) (o : Option ℕ) → first_in_way b.holders 0 asker n m ≡ o → ask_among b n m o ≡ ask.Conflict by → (by < slots b) × Blocks b n m by
among_conflict b asker n m by None is e = absurd (local_is_none (is_covered (held_by_member b n) m) m by e)
among_conflict b asker n m by (Some k) is e =
    let h = conflict_at (ltb k (slots b)) k by (waited_for b k) e in
    let there : k < slots b = ltb-true k (slots b) h.0 in
    (subst (λ (i : ℕ). i < slots b) h.1 there, subst (λ (i : ℕ). Blocks b n m i) h.1 (in_way b asker n m k is))

among_postponed : (b : Book) (asker : Option ℕ) (n : Name) (m : Mode) (by : ℕ) (o : Option ℕ) → first_in_way b.holders 0 asker n m ≡ o → ask_among b n m o ≡ ask.Postponed by → Rollback b n m by
among_postponed b asker n m by None is e = absurd (local_is_no_rollback (is_covered (held_by_member b n) m) m by e)
among_postponed b asker n m by (Some k) is e =
    let h = postponed_at (ltb k (slots b)) k by (waited_for b k) e in
    record { at = k; is = ltb-false k (slots b) h.0; waits = h.1; blocks = in_way b asker n m k is }

asked_conflict : (c : Bool) (b : Book) (slot : ℕ) (n : Name) (m : Mode) (by : ℕ) → (if c then ask.Have else ask_among b n m (first_in_way b.holders 0 (Some slot) n m)) ≡ ask.Conflict by → (c ≡ false) × (by < slots b) × Blocks b n m by
asked_conflict true b slot n m by e = cc
asked_conflict false b slot n m by e = let h = among_conflict b (Some slot) n m by (first_in_way b.holders 0 (Some slot) n m) refl e in (refl, h.0, h.1)

asked_postponed : (c : Bool) (b : Book) (slot : ℕ) (n : Name) (m : Mode) (by : ℕ) → (if c then ask.Have else ask_among b n m (first_in_way b.holders 0 (Some slot) n m)) ≡ ask.Postponed by → (c ≡ false) × Rollback b n m by
asked_postponed true b slot n m by e = cc
asked_postponed false b slot n m by e = (refl, among_postponed b (Some slot) n m by (first_in_way b.holders 0 (Some slot) n m) refl e)

-- where a trial at home comes to a conflict, a slot's transaction has a claim in the way
pub conflict_claims : (s : MarksState) (slot : ℕ) (n : Name) (m : Mode) (by : ℕ) → may_claim s slot n ≡ true → ask_of s.locks slot n m ≡ ask.Conflict by
    → IsBlocked s (slot_tran s slot).number n (λ mode. HasClaim s n mode (slot_id s by))
conflict_claims s slot n m by may e =
    let h = asked_conflict (is_covered (held_by s.locks slot n) m) s.locks slot n (joined (held_by s.locks slot n) m) by e in
    record { slot = slot; mode = m; its = refl; goes = claims_forward s slot n may; uncovered = h.0; blocks = record { slot = by; is_slot = h.1; its = refl; in_way = h.2 } }

-- where it comes to a postponed rollback, that has one
pub postponed_claims : (s : MarksState) (slot : ℕ) (n : Name) (m : Mode) (by : ℕ) → may_claim s slot n ≡ true → ask_of s.locks slot n m ≡ ask.Postponed by
    → IsBlocked s (slot_tran s slot).number n (λ mode. HasPostponed s n mode by)
postponed_claims s slot n m by may e =
    let h = asked_postponed (is_covered (held_by s.locks slot n) m) s.locks slot n (joined (held_by s.locks slot n) m) by e in
    record { slot = slot; mode = m; its = refl; goes = claims_forward s slot n may; uncovered = h.0; blocks = record { place = h.1.at; is_rollback = h.1.is; waits = sym h.1.waits; in_way = h.1.blocks } }
