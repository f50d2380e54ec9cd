-- Agents without transactions, as a change of a slot or of claims leaves them.
use Rattle.std.proofs.Common.{◌≡◌, ℕ, zero, suc, ◌+◌, ◌≤◌, ◌<◌, refl, sym, ◌∙◌, ap, subst, arith, true, List, [], ◌∷◌, ◌++◌, length, Option, Some, None, inl, inr}
use Rattle.std.specs.Prelude.{◌≢◌, ◌&&◌, nat_le, nat_lt, is_some, remove, replicate, slice_index_or, slice_set}
use Rattle.std.proofs.lemmas.Bool.{and_parts, cases_eq, cond_both, leb-true, ltb-true}
use Rattle.std.proofs.lemmas.List.{get_or-set_other, length-append, length-set}
use Rattle.ds_model.specs.Rows.{Spot}
use Rattle.lock_manager.specs.declared.claim.Claim.{Claim}
use Rattle.lock_manager.specs.Holders.{left_after}
use Rattle.lock_manager.specs.Managers.{Book, slots, claims_of, with_claims, after_release, after_postponed_release, release_told, ended, dropped, after_postpone as claims_postponed}
use Rattle.member_trans.specs.declared.fate.Owner.{Owner}
use Rattle.member_trans.specs.declared.fate.Owner.TheVariants as owner
use Rattle.member_trans.specs.declared.fate.Stage.{Stage}
use Rattle.member_trans.specs.Trans.{TransState, TranState, all_decided, decided_tran, free_tran, is_forward, is_free, place_of, slot_ended, tran_at, with_rollback, with_tran, with_tran_of}
use Rattle.member_marks.specs.State.{MarksState, agents_of, slot_tran}
use Rattle.member_marks.specs.Claims.{is_agent}
use Rattle.member_marks.specs.Rollbacks.{claimed, spot_claimed}
use Rattle.marks_law.specs.Free.{FreeHoldNothing}
use Rattle.marks_law.proofs.Slots.{SameStage, not_free}

-- ---- a slot is changed

-- none becomes free
abbrev pub FreesNone : TransState → TransState → Type 0
FreesNone t u = (slot : ℕ) → is_free (tran_at u slot).stage ≡ true → is_free (tran_at t slot).stage ≡ true

set_frees : (ts : List TranState) (slot : ℕ) (x : TranState) → (is_free x.stage ≡ true → is_free (slice_index_or ts slot free_tran).stage ≡ true)
    → (k : ℕ) → is_free (slice_index_or (slice_set ts slot x) k free_tran).stage ≡ true → is_free (slice_index_or ts k free_tran).stage ≡ true
set_frees [] slot x h k f = f
set_frees (t ∷ ts) zero x h zero f = h f
set_frees (t ∷ ts) zero x h (suc k) f = f
set_frees (t ∷ ts) (suc slot) x h zero f = f
set_frees (t ∷ ts) (suc slot) x h (suc k) f = set_frees ts slot x h k f

pub frees_set : (t : TransState) (slot : ℕ) (x : TranState) → (is_free x.stage ≡ true → is_free (tran_at t slot).stage ≡ true) → FreesNone t (with_tran t slot x)
frees_set t slot x h = set_frees t.slots slot x h

pub frees_kept : (t : TransState) (slot : ℕ) (x : TranState) → x.stage ≡ (tran_at t slot).stage → FreesNone t (with_tran t slot x)
frees_kept t slot x same = frees_set t slot x (λ f. subst (λ (z : Stage). is_free z ≡ true) same f)

frees_rollback : (t : TransState) (k : Option ℕ) (x : TranState) → FreesNone t (with_rollback t k x)
frees_rollback t None x = λ slot f. f
frees_rollback t (Some k) x = λ slot f. f

pub frees_of : (t : TransState) (o : Owner) (x : TranState) → SameStage t o x → FreesNone t (with_tran_of t o x)
frees_of t (owner.Slot slot) x same = frees_kept t slot x same
frees_of t (owner.Rollback id) x same = frees_rollback t (place_of t id) x

pub frees_on : (t u v : TransState) → FreesNone t u → FreesNone u v → FreesNone t v
frees_on t u v a b = λ slot f. a slot (b slot f)

pub frees_decided : (ts : List TranState) (slots : List ℕ) (k : ℕ) → is_free (slice_index_or (all_decided ts slots) k free_tran).stage ≡ true → is_free (slice_index_or ts k free_tran).stage ≡ true
frees_decided ts [] k f = f
frees_decided ts (x ∷ slots) k f =
    set_frees ts x (decided_tran (slice_index_or ts x free_tran)) (λ e. absurd cc) k (frees_decided (slice_set ts x (decided_tran (slice_index_or ts x free_tran))) slots k f)

-- ---- claims are changed

-- those of no agent without a transaction grow
pub record LeavesNone (s : MarksState) (b : Book) : Type 0 where
  pub agents : b.agents ≡ s.locks.agents
  pub lists : s.locks.agents + 1 ≤ length s.locks.holders → s.locks.agents + 1 ≤ length b.holders
  pub none : (slot : ℕ) → is_agent s slot ≡ true → is_free (slot_tran s slot).stage ≡ true → s.locks.agents + 1 ≤ length s.locks.holders → claims_of s.locks slot ≡ [] → claims_of b slot ≡ []

pub free_left : (s t : MarksState) → LeavesNone s t.locks → FreesNone s.trans t.trans → FreeHoldNothing s → FreeHoldNothing t
free_left s t left frees h = record {
  lists = subst (λ (z : ℕ). z + 1 ≤ length t.locks.holders) (sym left.agents) (left.lists h.lists);
  none = λ slot a f.
      let agent : is_agent s slot ≡ true = subst (λ (z : ℕ). (nat_lt 0 slot && nat_le slot z) ≡ true) left.agents a in
      left.none slot agent (frees slot f) h.lists (h.none slot agent (frees slot f));
}

pub left_same : (s : MarksState) (b : Book) → b ≡ s.locks → LeavesNone s b
left_same s b e = record {
  agents = ap (λ (z : Book). z.agents) e;
  lists = λ h. subst (λ (z : Book). s.locks.agents + 1 ≤ length z.holders) (sym e) h;
  none = λ slot a f h c. subst (λ (z : Book). claims_of z slot ≡ []) (sym e) c;
}

-- the claims of one owner
set_none : (hs : List (List Claim)) (owner : ℕ) (cs : List Claim) (k : ℕ) → (k ≡ owner → slice_index_or hs k [] ≡ [] → cs ≡ []) → slice_index_or hs k [] ≡ [] → slice_index_or (slice_set hs owner cs) k [] ≡ []
set_none [] owner cs k h e = e
set_none (x ∷ xs) zero cs zero h e = h refl e
set_none (x ∷ xs) zero cs (suc k) h e = e
set_none (x ∷ xs) (suc owner) cs zero h e = e
set_none (x ∷ xs) (suc owner) cs (suc k) h e = set_none xs owner cs k (λ same old. h (ap suc same) old) e

left_set : (s : MarksState) (b : Book) (owner : ℕ) (cs : List Claim) → b.agents ≡ s.locks.agents → b.holders ≡ slice_set s.locks.holders owner cs
    → ((slot : ℕ) → slot ≡ owner → is_agent s slot ≡ true → is_free (slot_tran s slot).stage ≡ true → claims_of s.locks slot ≡ [] → cs ≡ []) → LeavesNone s b
left_set s b owner cs agents are own = record {
  agents = agents;
  lists = λ h. subst (λ (z : ℕ). s.locks.agents + 1 ≤ z) (sym (ap length are ∙ length-set s.locks.holders owner cs)) h;
  none = λ slot a f h e. subst (λ (z : List (List Claim)). slice_index_or z slot [] ≡ []) (sym are) (set_none s.locks.holders owner cs slot (λ same old. own slot same a f old) e);
}

-- of a slot whose transaction goes forward
pub left_forward : (s : MarksState) (b : Book) (owner : ℕ) (cs : List Claim) → b.agents ≡ s.locks.agents → b.holders ≡ slice_set s.locks.holders owner cs → is_forward (slot_tran s owner).stage ≡ true → LeavesNone s b
left_forward s b owner cs agents are forward = left_set s b owner cs agents are
    (λ slot same a f old. absurd (not_free (slot_tran s slot).stage f (subst (λ (z : ℕ). is_forward (slot_tran s z).stage ≡ true) (sym same) forward)))

-- of the member itself
pub agent_above : (s : MarksState) (slot : ℕ) → is_agent s slot ≡ true → slot ≢ 0
agent_above s slot a none = omega (arith, ltb-true 0 slot (and_parts (nat_lt 0 slot) (nat_le slot (agents_of s)) a).0, none)

pub agent_within : (s : MarksState) (slot : ℕ) → is_agent s slot ≡ true → slot ≤ s.locks.agents
agent_within s slot a = leb-true slot s.locks.agents (and_parts (nat_lt 0 slot) (nat_le slot s.locks.agents) a).1

pub left_own : (s : MarksState) (b : Book) (cs : List Claim) → b.agents ≡ s.locks.agents → b.holders ≡ slice_set s.locks.holders 0 cs → LeavesNone s b
left_own s b cs agents are = left_set s b 0 cs agents are (λ slot same a f old. absurd (agent_above s slot a same))

-- ---- claims are given up
pub left_released : (s : MarksState) (owner : ℕ) → LeavesNone s (after_release s.locks owner)
left_released s owner = left_set s (after_release s.locks owner) owner (left_after s.locks.holders owner (claims_of s.locks owner)) refl refl
    (λ slot same a f old. subst (λ (z : List Claim). left_after s.locks.holders owner z ≡ []) (sym (subst (λ (z : ℕ). claims_of s.locks z ≡ []) same old)) refl)

remove_none : {A : Type 0} → (at : ℕ) → ◌≡◌ {A = List A} (remove [] at) []
remove_none zero = refl
remove_none (suc at) = refl

remove_before : {A : Type 0} → (xs : List A) (at o : ℕ) (d : A) → o < at → slice_index_or (remove xs at) o d ≡ slice_index_or xs o d
remove_before [] at o d lt = ap (λ z. slice_index_or z o d) (remove_none at)
remove_before (x ∷ xs) zero o d lt = absurd (omega (arith, lt))
remove_before (x ∷ xs) (suc at) zero d lt = refl
remove_before (x ∷ xs) (suc at) (suc o) d lt = remove_before xs at o d (omega (arith, lt))

remove_long : {A : Type 0} → (xs : List A) (at n : ℕ) → n ≤ at → n ≤ length xs → n ≤ length (remove xs at)
remove_long [] at n le h = subst (λ z. n ≤ length z) (sym (remove_none at)) h
remove_long (x ∷ xs) zero n le h = omega (arith, le)
remove_long (x ∷ xs) (suc at) zero le h = omega arith
remove_long (x ∷ xs) (suc at) (suc n) le h = let ih = remove_long xs at n (omega (arith, le)) (omega (arith, h)) in omega (arith, ih)

-- a rollback is over, whose list is behind those of the slots
left_ended : (s : MarksState) (b : Book) (k : ℕ) → LeavesNone s b → LeavesNone s (ended b k)
left_ended s b k left = record {
  agents = left.agents;
  lists = λ h. remove_long b.holders (slots b + k) (s.locks.agents + 1) (let same = left.agents in omega (arith, same)) (left.lists h);
  none = λ slot a f h e.
      let within = agent_within s slot a in let same = left.agents in
      remove_before b.holders (slots b + k) slot [] (omega (arith, within, same)) ∙ left.none slot a f h e;
}

pub left_postponed_release : (s : MarksState) (k : Option ℕ) → LeavesNone s (after_postponed_release s.locks k)
left_postponed_release s None = left_same s s.locks refl
left_postponed_release s (Some k) = cond_both (is_some (release_told s.locks (slots s.locks + k))) (after_release s.locks (slots s.locks + k)) (ended (after_release s.locks (slots s.locks + k)) k) (λ (z : Book). LeavesNone s z)
    (λ e. left_released s (slots s.locks + k)) (λ e. left_ended s (after_release s.locks (slots s.locks + k)) k (left_released s (slots s.locks + k)))

pub left_dropped : (s : MarksState) (k : Option ℕ) → LeavesNone s (dropped s.locks k)
left_dropped s None = left_same s s.locks refl
left_dropped s (Some k) = left_ended s (with_claims s.locks (slots s.locks + k) []) k
    (left_set s (with_claims s.locks (slots s.locks + k) []) (slots s.locks + k) [] refl refl (λ slot same a f old. refl))

-- a slot's transaction is over, with all its claims
set_gone : (hs : List (List Claim)) (owner : ℕ) → slice_index_or (slice_set hs owner []) owner [] ≡ []
set_gone [] owner = refl
set_gone (x ∷ xs) zero = refl
set_gone (x ∷ xs) (suc owner) = set_gone xs owner

pub free_over : (s : MarksState) (slot : ℕ) → FreeHoldNothing s → FreeHoldNothing (record s { locks = with_claims s.locks slot []; trans = slot_ended s.trans slot })
free_over s slot h = record {
  lists = subst (λ (z : ℕ). s.locks.agents + 1 ≤ z) (sym (length-set s.locks.holders slot [])) h.lists;
  none = λ k a f. elim (cases_eq k slot) [
    | inl same ↦ subst (λ (z : ℕ). slice_index_or (slice_set s.locks.holders slot []) z [] ≡ []) (sym same) (set_gone s.locks.holders slot)
    | inr other ↦
        set_none s.locks.holders slot [] k (λ same old. refl)
        (h.none k a (subst (λ (z : TranState). is_free z.stage ≡ true) (get_or-set_other s.trans.slots slot k free_tran free_tran other) f))
  ];
}

-- ---- claims are those of a rollback
append_before : (xs ys : List (List Claim)) (k : ℕ) → k < length xs → slice_index_or (xs ++ ys) k [] ≡ slice_index_or xs k []
append_before [] ys k lt = absurd (omega (arith, lt))
append_before (x ∷ xs) ys zero lt = refl
append_before (x ∷ xs) ys (suc k) lt = append_before xs ys k (omega (arith, lt))

append_long : (xs ys : List (List Claim)) (n : ℕ) → n ≤ length xs → n ≤ length (xs ++ ys)
append_long xs ys n h = let long = length-append xs ys in omega (arith, h, long)

pub left_postponed : (s : MarksState) (slot id by : ℕ) → LeavesNone s (claims_postponed s.locks slot id by)
left_postponed s slot id by = record {
  agents = refl;
  lists = λ h. append_long (slice_set s.locks.holders slot []) (claims_of s.locks slot ∷ []) (s.locks.agents + 1) (subst (λ (z : ℕ). s.locks.agents + 1 ≤ z) (sym (length-set s.locks.holders slot [])) h);
  none = λ k a f h e.
      let within = agent_within s k a in let long = length-set s.locks.holders slot [] in
      append_before (slice_set s.locks.holders slot []) (claims_of s.locks slot ∷ []) k (omega (arith, within, h, long)) ∙ set_none s.locks.holders slot [] k (λ same old. refl) e;
}

-- ---- a rollback is adopted, for which slot 1 lends its place
claimed_length : (b : Book) (ss : List Spot) → length (claimed b ss).holders ≡ length b.holders
claimed_length b [] = refl
claimed_length b (s ∷ ss) = claimed_length (spot_claimed b s) ss ∙ (length-set _ 1 _ ∙ length-set b.holders 1 _)

claimed_other : (b : Book) (ss : List Spot) (k : ℕ) → k ≢ 1 → claims_of (claimed b ss) k ≡ claims_of b k
claimed_other b [] k other = refl
claimed_other b (s ∷ ss) k other = claimed_other (spot_claimed b s) ss k other ∙ (get_or-set_other _ 1 k _ [] other ∙ get_or-set_other b.holders 1 k _ [] other)

-- behind which it has no claims, and all others have theirs
pub left_adopted : (s : MarksState) (id by : ℕ) (ss : List Spot) → (claimed (with_claims s.locks 1 []) ss).agents ≡ s.locks.agents → LeavesNone s (claims_postponed (claimed (with_claims s.locks 1 []) ss) 1 id by)
left_adopted s id by ss agents =
    let b : Book = claimed (with_claims s.locks 1 []) ss in
    let long : length b.holders ≡ length s.locks.holders = claimed_length (with_claims s.locks 1 []) ss ∙ length-set s.locks.holders 1 [] in
    let lent : length (slice_set b.holders 1 []) ≡ length b.holders = length-set b.holders 1 [] in record {
      agents = agents;
      lists = λ h. append_long (slice_set b.holders 1 []) (claims_of b 1 ∷ []) (s.locks.agents + 1) (omega (arith, h, long, lent));
      none = λ k a f h e.
          let within = agent_within s k a in
          append_before (slice_set b.holders 1 []) (claims_of b 1 ∷ []) k (omega (arith, within, h, long, lent))
          ∙ elim (cases_eq k 1) [
            | inl same ↦ subst (λ (z : ℕ). slice_index_or (slice_set b.holders 1 []) z [] ≡ []) (sym same) (set_gone b.holders 1)
            | inr other ↦ get_or-set_other b.holders 1 k [] [] other ∙ (claimed_other (with_claims s.locks 1 []) ss k other ∙ (get_or-set_other s.locks.holders 1 k [] [] other ∙ e))
          ];
    }

-- ---- at the start
pub none_in : (n k : ℕ) → ◌≡◌ {A = List Claim} (slice_index_or (replicate n []) k []) []
none_in zero k = refl
none_in (suc n) zero = refl
none_in (suc n) (suc k) = none_in n k
