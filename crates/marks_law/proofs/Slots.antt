-- Slots, as each change of a transaction leaves them.
use Rattle.std.proofs.Common.{◌≡◌, ℕ, zero, suc, ◌+◌, ◌≤◌, refl, sym, ◌∙◌, subst, arith, true, false, List, [], ◌∷◌, ◌++◌, length, Option, Some, None}
use Rattle.std.specs.Prelude.{◌≢◌, ◌==◌, nat_lt, replicate, slice_index_or, slice_set}
use Rattle.std.proofs.lemmas.Bool.{cond_both, both_ways, eq-eqb, ne_eqb, or_from, or_parts}
use Rattle.std.proofs.lemmas.List.{length-set, length-replicate}
use Rattle.member_trans.specs.declared.fate.Owner.{Owner}
use Rattle.member_trans.specs.declared.fate.Owner.TheVariants as owner
use Rattle.member_trans.specs.declared.fate.Stage.{Stage}
use Rattle.member_trans.specs.declared.fate.Stage.TheVariants as stage
use Rattle.member_trans.specs.Lists.{pushed}
use Rattle.member_trans.specs.Trans.{TransState, TranState, free_tran, is_free, is_forward, tran_at, with_tran, with_rollback, with_tran_of, place_of, all_decided, decided_tran, no_trans}
use Rattle.marks_law.specs.Slots.{AreSlots, has_own}

-- ---- a slot is changed
first_set : (ts : List TranState) (slot : ℕ) (x : TranState) → is_free (slice_index_or ts 0 free_tran).stage ≡ true → (slot ≡ 0 → is_free x.stage ≡ true) → is_free (slice_index_or (slice_set ts slot x) 0 free_tran).stage ≡ true
first_set [] slot x own new = refl
first_set (t ∷ ts) zero x own new = new refl
first_set (t ∷ ts) (suc slot) x own new = own

-- where slot 0 is free then, too
pub set_slots : (t : TransState) (agents slot : ℕ) (x : TranState) → AreSlots t agents → (slot ≡ 0 → is_free x.stage ≡ true) → AreSlots (with_tran t slot x) agents
set_slots t agents slot x h new = record {
  count = length-set t.slots slot x ∙ h.count;
  own = first_set t.slots slot x h.own new;
  commits = h.commits;
}

-- as it is where the stage stays
pub stage_kept : (t : TransState) (agents slot : ℕ) (x : TranState) → AreSlots t agents → x.stage ≡ (tran_at t slot).stage → slot ≡ 0 → is_free x.stage ≡ true
stage_kept t agents slot x h same e = subst (λ (z : Stage). is_free z ≡ true) (sym same) (subst (λ (z : ℕ). is_free (tran_at t z).stage ≡ true) (sym e) h.own)

pub set_kept : (t : TransState) (agents slot : ℕ) (x : TranState) → AreSlots t agents → x.stage ≡ (tran_at t slot).stage → AreSlots (with_tran t slot x) agents
set_kept t agents slot x h same = set_slots t agents slot x h (stage_kept t agents slot x h same)

-- or where the slot isn't that one
pub set_other : (t : TransState) (agents slot : ℕ) (x : TranState) → AreSlots t agents → slot ≢ 0 → AreSlots (with_tran t slot x) agents
set_other t agents slot x h ne = set_slots t agents slot x h (λ z. absurd (ne z))

-- what isn't free isn't slot 0
pub not_free : (x : Stage) → is_free x ≡ true → is_forward x ≡ true → ⊥
not_free stage.Free a b = cc
not_free stage.Forward a b = cc
not_free stage.Drawn a b = cc
not_free stage.Decided a b = cc
not_free stage.Undoing a b = cc
not_free stage.Postponed a b = cc

pub forward_other : (t : TransState) (agents slot : ℕ) → AreSlots t agents → is_forward (tran_at t slot).stage ≡ true → slot ≢ 0
forward_other t agents slot h forward e = not_free (tran_at t 0).stage h.own (subst (λ (z : ℕ). is_forward (tran_at t z).stage ≡ true) e forward)

-- ---- the transaction of an owner is changed
set_rollback : (t : TransState) (agents : ℕ) (k : Option ℕ) (x : TranState) → AreSlots t agents → AreSlots (with_rollback t k x) agents
set_rollback t agents None x h = h
set_rollback t agents (Some k) x h = record { count = h.count; own = h.own; commits = h.commits }

abbrev pub SameStage : TransState → Owner → TranState → Type 0
SameStage t (owner.Slot slot) x = x.stage ≡ (tran_at t slot).stage
SameStage t (owner.Rollback id) x = Unit {0}

pub set_of : (t : TransState) (agents : ℕ) (o : Owner) (x : TranState) → AreSlots t agents → SameStage t o x → AreSlots (with_tran_of t o x) agents
set_of t agents (owner.Slot slot) x h same = set_kept t agents slot x h same
set_of t agents (owner.Rollback id) x h same = set_rollback t agents (place_of t id) x h

-- ---- slots that wait for their decision
own_pushed : (slots : List ℕ) (slot : ℕ) → has_own slots ≡ false → slot ≢ 0 → has_own (slots ++ slot ∷ []) ≡ false
own_pushed [] slot h ne = or_from (slot == 0) false (ne_eqb slot 0 ne) refl
own_pushed (x ∷ xs) slot h ne =
    let p = or_parts (x == 0) (has_own xs) h in
    or_from (x == 0) (has_own (xs ++ slot ∷ [])) p.0 (own_pushed xs slot p.1 ne)

pub pushed_own : (slots : List ℕ) (slot : ℕ) → has_own slots ≡ false → slot ≢ 0 → has_own (pushed slots slot) ≡ false
pushed_own slots slot h ne = cond_both (nat_lt (length slots) 16) (slots ++ slot ∷ []) slots (λ z. has_own z ≡ false) (λ e. own_pushed slots slot h ne) (λ e. h)

decided_length : (ts : List TranState) (slots : List ℕ) → length (all_decided ts slots) ≡ length ts
decided_length ts [] = refl
decided_length ts (slot ∷ slots) = decided_length (slice_set ts slot (decided_tran (slice_index_or ts slot free_tran))) slots ∙ length-set ts slot (decided_tran (slice_index_or ts slot free_tran))

decided_first : (ts : List TranState) (slots : List ℕ) → has_own slots ≡ false → is_free (slice_index_or ts 0 free_tran).stage ≡ true → is_free (slice_index_or (all_decided ts slots) 0 free_tran).stage ≡ true
decided_first ts [] none own = own
decided_first ts (x ∷ slots) none own =
    let p = or_parts (x == 0) (has_own slots) none in
    decided_first (slice_set ts x (decided_tran (slice_index_or ts x free_tran))) slots p.1
    (first_set ts x (decided_tran (slice_index_or ts x free_tran)) own (λ e. absurd (both_ways (x == 0) p.0 (eq-eqb x 0 e))))

pub all_slots : (t : TransState) (agents : ℕ) → AreSlots t agents → AreSlots (record t { slots = all_decided t.slots t.commits; commits = []; decided = t.commits }) agents
all_slots t agents h = record {
  count = decided_length t.slots t.commits ∙ h.count;
  own = decided_first t.slots t.commits h.commits h.own;
  commits = refl;
}

-- ---- at the start
first_free : (n : ℕ) → is_free (slice_index_or (replicate n free_tran) 0 free_tran).stage ≡ true
first_free zero = refl
first_free (suc n) = refl

pub no_slots : (agents : ℕ) → AreSlots (no_trans agents) agents
no_slots agents = record { count = length-replicate (agents + 1) free_tran; own = first_free (agents + 1); commits = refl }

-- ---- a slot with a transaction
pub past : (ts : List TranState) (slot : ℕ) → length ts ≤ slot → is_free (slice_index_or ts slot free_tran).stage ≡ true
past [] slot le = refl
past (t ∷ ts) zero le = absurd (omega (arith, le))
past (t ∷ ts) (suc slot) le = past ts slot (omega (arith, le))
