-- Transactions that stay, as a change of a slot or of a rollback leaves them.
use Rattle.std.proofs.Common.{◌≡◌, ℕ, zero, suc, refl, sym, ◌∙◌, subst, inl, inr, true, List, [], ◌∷◌, Option, Some, None}
use Rattle.std.specs.Prelude.{◌⊎◌, slice_index_or, slice_set}
use Rattle.member_trans.specs.declared.fate.Owner.{Owner}
use Rattle.member_trans.specs.declared.fate.Owner.TheVariants as owner
use Rattle.member_trans.specs.declared.fate.Stage.{Stage}
use Rattle.member_trans.specs.Trans.{TransState, TranState, all_decided, decided_tran, free_tran, place_of, rollback_at, tran_at, tran_of, with_rollback, with_tran, with_tran_of}
use Rattle.marks_law.specs.Transactions.{GoesOn, TransStay, has_tran}
use Rattle.marks_law.proofs.Found.{Undoes, from_list, to_list, undoes_set}

pub goes_itself : (t : TranState) → has_tran t.stage ≡ true → GoesOn t t
goes_itself t h = record { there = h; named = inl refl }

-- ---- all of them
pub stay_itself : (t : TransState) → TransStay t t
stay_itself t = record { slots = λ slot h. goes_itself (tran_at t slot) h; rollbacks = λ id h. h }

named_on : (a b c : ℕ) → (b ≡ a) ⊎ (a ≡ 0) → (c ≡ b) ⊎ (b ≡ 0) → (c ≡ a) ⊎ (a ≡ 0)
named_on a b c first next = elim first [
  | inl same ↦ elim next [
    | inl e ↦ inl (e ∙ same)
    | inr none ↦ inr (sym same ∙ none)
  ]
  | inr none ↦ inr none
]

pub stay_on : (t u v : TransState) → TransStay t u → TransStay u v → TransStay t v
stay_on t u v a b = record {
  slots = λ slot h.
      let first = a.slots slot h in
      let next = b.slots slot first.there in
      record { there = next.there; named = named_on (tran_at t slot).first (tran_at u slot).first (tran_at v slot).first first.named next.named };
  rollbacks = λ id h. b.rollbacks id (a.rollbacks id h);
}

pub stay_same : (t u : TransState) → u.slots ≡ t.slots → u.rollbacks ≡ t.rollbacks → TransStay t u
stay_same t u slots rollbacks = record {
  slots = λ slot h. subst (λ (z : List TranState). GoesOn (tran_at t slot) (slice_index_or z slot free_tran)) (sym slots) (goes_itself (tran_at t slot) h);
  rollbacks = λ id h. from_list u id (subst (λ (z : List TranState). Undoes z id) (sym rollbacks) (to_list t id h));
}

-- ---- a slot is changed
set_goes : (ts : List TranState) (slot : ℕ) (x : TranState) → (has_tran (slice_index_or ts slot free_tran).stage ≡ true → GoesOn (slice_index_or ts slot free_tran) x)
    → (k : ℕ) → has_tran (slice_index_or ts k free_tran).stage ≡ true → GoesOn (slice_index_or ts k free_tran) (slice_index_or (slice_set ts slot x) k free_tran)
set_goes [] slot x on k h = goes_itself free_tran h
set_goes (t ∷ ts) zero x on zero h = on h
set_goes (t ∷ ts) zero x on (suc k) h = goes_itself (slice_index_or ts k free_tran) h
set_goes (t ∷ ts) (suc slot) x on zero h = goes_itself t h
set_goes (t ∷ ts) (suc slot) x on (suc k) h = set_goes ts slot x on k h

pub stay_set : (t : TransState) (slot : ℕ) (x : TranState) → (has_tran (tran_at t slot).stage ≡ true → GoesOn (tran_at t slot) x) → TransStay t (with_tran t slot x)
stay_set t slot x on = record { slots = set_goes t.slots slot x on; rollbacks = λ id h. from_list (with_tran t slot x) id (to_list t id h) }

-- where stage and first record stay
pub goes_kept : (t x : TranState) → x.stage ≡ t.stage → x.first ≡ t.first → has_tran t.stage ≡ true → GoesOn t x
goes_kept t x same first h = record { there = subst (λ (z : Stage). has_tran z ≡ true) (sym same) h; named = inl first }

pub stay_kept : (t : TransState) (slot : ℕ) (x : TranState) → x.stage ≡ (tran_at t slot).stage → x.first ≡ (tran_at t slot).first → TransStay t (with_tran t slot x)
stay_kept t slot x same first = stay_set t slot x (goes_kept (tran_at t slot) x same first)

-- ---- a rollback is changed
stay_rollback : (t : TransState) (o : Option ℕ) (x : TranState) → x.stage ≡ (rollback_at t o).stage → x.first ≡ (rollback_at t o).first → TransStay t (with_rollback t o x)
stay_rollback t None x same first = stay_itself t
stay_rollback t (Some k) x same first = record {
  slots = λ slot h. goes_itself (tran_at t slot) h;
  rollbacks = λ id h. from_list (with_rollback t (Some k) x) id (undoes_set t.rollbacks k id x first same (to_list t id h));
}

-- ---- the transaction of an owner is changed
pub stay_of : (t : TransState) (o : Owner) (x : TranState) → x.stage ≡ (tran_of t o).stage → x.first ≡ (tran_of t o).first → TransStay t (with_tran_of t o x)
stay_of t (owner.Slot slot) x same first = stay_kept t slot x same first
stay_of t (owner.Rollback id) x same first = stay_rollback t (place_of t id) x same first

-- ---- several are decided
decided_goes : (ts : List TranState) (slots : List ℕ) (k : ℕ) → has_tran (slice_index_or ts k free_tran).stage ≡ true → GoesOn (slice_index_or ts k free_tran) (slice_index_or (all_decided ts slots) k free_tran)
decided_goes ts [] k h = goes_itself (slice_index_or ts k free_tran) h
decided_goes ts (slot ∷ slots) k h =
    let x = decided_tran (slice_index_or ts slot free_tran) in
    let next = slice_set ts slot x in
    let first = set_goes ts slot x (λ e. record { there = refl; named = inl refl }) k h in
    let last = decided_goes next slots k first.there in
    record { there = last.there; named = named_on (slice_index_or ts k free_tran).first (slice_index_or next k free_tran).first (slice_index_or (all_decided next slots) k free_tran).first first.named last.named }

pub stay_decided : (t : TransState) → TransStay t (record t { slots = all_decided t.slots t.commits; commits = []; decided = t.commits })
stay_decided t = record { slots = decided_goes t.slots t.commits; rollbacks = λ id h. from_list (record t { slots = all_decided t.slots t.commits; commits = []; decided = t.commits }) id (to_list t id h) }
