-- A member that adopts a rollback.
use Rattle.std.proofs.Common.{◌≡◌, ℕ, zero, suc, ◌+◌, ◌-◌, ◌≤◌, ◌<◌, refl, sym, ◌∙◌, ap, subst, arith, Bool, true, false, List, [], ◌∷◌, ◌++◌, length, Option, Some, None}
use Rattle.std.specs.Prelude.{◌≢◌, ◌==◌, ◌&&◌, if◌then◌else◌, is_some, nat_le, nat_lt, not, slice_index_or}
use Rattle.std.specs.List.{AllByRecursion}
use Rattle.std.proofs.lemmas.Bool.{and_parts, cond-true, eq-eqb, eqb-true, leb-true}
use Rattle.ds_model.specs.Rows.{Spot}
use Rattle.ds_model.specs.declared.log.RowChange.{RowChange}
use Rattle.lock_names.specs.declared.mode.Mode.{Mode}
use Rattle.lock_names.specs.declared.mode.Mode.TheVariants.{IX, X}
use Rattle.lock_manager.specs.Managers.{is_postponed}
use Rattle.member_trans.specs.declared.fate.Change.{Change}
use Rattle.member_trans.specs.declared.fate.Owner.{Owner}
use Rattle.member_trans.specs.declared.fate.Owner.TheVariants as owner
use Rattle.member_trans.specs.Trans.{TransState, TranState, free_tran, is_empty, is_free, is_new, is_undoing, left_open, place_in, place_of, rollback_at}
use Rattle.member_marks.specs.Claims.{is_agent}
use Rattle.member_marks.specs.Rollbacks.{after_adopt, claims_adopted, may_adopt, spots_of, with_rollback}
use Rattle.member_marks.specs.State.{MarksState, agents_of, slot_tran, tran_of}
use Rattle.lock_protocol.specs.Machine.{Covers}
use Rattle.lock_world.specs.Books.{IsBook}
use Rattle.lock_world.specs.Rollbacks.{row_of, space_of}
use Rattle.lock_world.specs.Views.{claim_in, rollback_owner}
use Rattle.strict_locking.specs.Rows.{HasLocked, IsTaken, name_of, number_of}
use Rattle.adopted_locks.specs.Locks.{AdoptedLocked, AdoptionsLock}
use Rattle.adopted_locks.proofs.Claims.{Adopted, Facts, book_adopts, no_slot, spotted}

-- ---- a rollback behind the others
some_none : {A : Type 0} → (a : A) → Some a ≡ None → ⊥
some_none a e = cc

some_is : (a b : ℕ) → Some a ≡ Some b → a ≡ b
some_is a b e = cc

new_place : (rs : List TranState) (n id : ℕ) (x : TranState) → place_in rs n id ≡ None → x.first ≡ id → place_in (rs ++ x ∷ []) n id ≡ Some (n + length rs)
new_place [] n id x none is = ap (λ (b : Bool). if b then Some n else None) (eq-eqb x.first id is) ∙ ap (λ (k : ℕ). Some k) (same n)
  where
    same : (k : ℕ) → k ≡ k + 0
    same k = omega arith
new_place (r ∷ rs) n id x none is = by (r.first == id) (new_place rs (n + 1) id x) none
  where
    same : (n + 1) + length rs ≡ n + length (r ∷ rs)
    same = omega arith

    by : (b : Bool) → (place_in rs (n + 1) id ≡ None → x.first ≡ id → place_in (rs ++ x ∷ []) (n + 1) id ≡ Some ((n + 1) + length rs)) → (if b then Some n else place_in rs (n + 1) id) ≡ None
        → (if b then Some n else place_in (rs ++ x ∷ []) (n + 1) id) ≡ Some (n + length (r ∷ rs))
    by true rest e = absurd (some_none n e)
    by false rest e = rest e is ∙ ap (λ (k : ℕ). Some k) same

at_end : (rs : List TranState) (x : TranState) → slice_index_or (rs ++ x ∷ []) (length rs) free_tran ≡ x
at_end [] x = refl
at_end (r ∷ rs) x = at_end rs x

-- those that were there are found where they were
old_place : (rs ys : List TranState) (n id k : ℕ) → place_in rs n id ≡ Some k → place_in (rs ++ ys) n id ≡ Some k
old_place [] ys n id k e = absurd (some_none k (sym e))
old_place (r ∷ rs) ys n id k e = by (r.first == id) (old_place rs ys (n + 1) id k) e
  where
    by : (b : Bool) → (place_in rs (n + 1) id ≡ Some k → place_in (rs ++ ys) (n + 1) id ≡ Some k) → (if b then Some n else place_in rs (n + 1) id) ≡ Some k → (if b then Some n else place_in (rs ++ ys) (n + 1) id) ≡ Some k
    by true rest h = h
    by false rest h = rest h

place_from : (rs : List TranState) (n id k : ℕ) → place_in rs n id ≡ Some k → n ≤ k
place_from [] n id k e = absurd (some_none k (sym e))
place_from (r ∷ rs) n id k e = by (r.first == id) (place_from rs (n + 1) id k) e
  where
    by : (b : Bool) → (place_in rs (n + 1) id ≡ Some k → n + 1 ≤ k) → (if b then Some n else place_in rs (n + 1) id) ≡ Some k → n ≤ k
    by true rest h = (let same = some_is n k h in omega (arith, same))
    by false rest h = (let le = rest h in omega (arith, le))

old_at : (rs ys : List TranState) (n id k : ℕ) → place_in rs n id ≡ Some k → slice_index_or (rs ++ ys) (k - n) free_tran ≡ slice_index_or rs (k - n) free_tran
old_at [] ys n id k e = absurd (some_none k (sym e))
old_at (r ∷ rs) ys n id k e = by (r.first == id) (old_at rs ys (n + 1) id k) e
  where
    here : n ≡ k → k - n ≡ 0
    here same = omega (arith, same)

    behind : n + 1 ≤ k → k - n ≡ suc (k - (n + 1))
    behind le = omega (arith, le)

    by : (b : Bool) → (place_in rs (n + 1) id ≡ Some k → slice_index_or (rs ++ ys) (k - (n + 1)) free_tran ≡ slice_index_or rs (k - (n + 1)) free_tran) → (if b then Some n else place_in rs (n + 1) id) ≡ Some k
        → slice_index_or (r ∷ (rs ++ ys)) (k - n) free_tran ≡ slice_index_or (r ∷ rs) (k - n) free_tran
    by true rest h = ap (λ z. slice_index_or (r ∷ (rs ++ ys)) z free_tran) (here (some_is n k h)) ∙ sym (ap (λ z. slice_index_or (r ∷ rs) z free_tran) (here (some_is n k h)))
    by false rest h =
        let at : k - n ≡ suc (k - (n + 1)) = behind (place_from rs (n + 1) id k h) in
        ap (λ z. slice_index_or (r ∷ (rs ++ ys)) z free_tran) at ∙ (rest h ∙ sym (ap (λ z. slice_index_or (r ∷ rs) z free_tran) at))

none_there : (o : Option ℕ) → is_some o ≡ false → o ≡ None
none_there None e = refl
none_there (Some k) e = absurd cc

not_true : (b : Bool) → not b ≡ true → b ≡ false
not_true true e = absurd cc
not_true false e = refl

-- ---- what its tests say
record May (s : MarksState) (id : ℕ) : Type 0 where
  there : 1 < s.locks.agents + 1
  free : is_postponed s.locks id ≡ false
  new : place_of s.trans id ≡ None

may_then : (s : MarksState) (id : ℕ) (changes : List Change) → may_adopt s id changes ≡ true → May s id
may_then s id changes may =
    let new : Bool = not (id == 0) && not (is_some (place_of s.trans id)) in
    let p = and_parts (is_agent s 1) (is_free (slot_tran s 1).stage && (not (is_postponed s.locks id) && (not (is_empty changes) && new))) may in
    let q = and_parts (is_free (slot_tran s 1).stage) (not (is_postponed s.locks id) && (not (is_empty changes) && new)) p.1 in
    let r = and_parts (not (is_postponed s.locks id)) (not (is_empty changes) && new) q.1 in
    let t = and_parts (not (is_empty changes)) new r.1 in
    let u = and_parts (not (id == 0)) (not (is_some (place_of s.trans id))) t.1 in
    let le = leb-true 1 (agents_of s) (and_parts (nat_lt 0 1) (nat_le 1 (agents_of s)) p.0).1 in
    record { there = omega (arith, le); free = not_true (is_postponed s.locks id) r.0; new = none_there (place_of s.trans id) (not_true (is_some (place_of s.trans id)) u.1) }

-- ---- the member behind it
module _ (facts : Facts) (s : MarksState) (id by : ℕ) (changes : List Change) (undone : List RowChange) (book : IsBook s.locks) (may : May s id) (lends : (c : ℕ) → claim_in s.locks 1 c ≡ None) where
  adopted : Adopted s.locks (claims_adopted s.locks id by (spots_of changes undone)) id (spots_of changes undone)
  adopted = book_adopts facts s.locks id by (spots_of changes undone) book may.there lends may.free

  found : place_in (s.trans.rollbacks ++ left_open id changes (nat_lt 0 (length undone)) ∷ []) 0 id ≡ Some (length s.trans.rollbacks)
  found = new_place s.trans.rollbacks 0 id (left_open id changes (nat_lt 0 (length undone))) may.new refl ∙ ap (λ (k : ℕ). Some k) (same (length s.trans.rollbacks))
    where
      same : (k : ℕ) → 0 + k ≡ k
      same k = omega arith

  taken : is_undoing (tran_of (with_rollback s id by changes undone) (owner.Rollback id)).stage ≡ true
  taken = ap (λ (o : Option ℕ). is_undoing (rollback_at (with_rollback s id by changes undone).trans o).stage) found
      ∙ ap (λ (x : TranState). is_undoing x.stage) (at_end s.trans.rollbacks (left_open id changes (nat_lt 0 (length undone))))

  own_rows : (ts : List Spot) → AllByRecursion (λ (t : Spot). Covers (claim_in (claims_adopted s.locks id by (spots_of changes undone)) (rollback_owner id) (space_of t)) IX × Covers (claim_in (claims_adopted s.locks id by (spots_of changes undone)) (rollback_owner id) (row_of t)) X) ts
      → AllByRecursion (HasLocked (with_rollback s id by changes undone) id) ts
  own_rows [] h = tt
  own_rows (t ∷ ts) h = (record { by = owner.Rollback id; taken = taken; named = refl; space = h.0.0; row = h.0.1 }, own_rows ts h.1)

  -- who was there before
  far : (o : Owner) → IsTaken s o → number_of o ≢ rollback_owner id
  far (owner.Slot slot) held e =
      let le = leb-true slot (agents_of s) (and_parts (nat_lt 0 slot) (nat_le slot (agents_of s)) held.0).1 in
      let few = book.few in
      let q : slot ≡ id + 17 = e in
      omega (arith, le, few, q)
  far (owner.Rollback k) held e =
      let q : k + 17 ≡ id + 17 = e in
      let same : k ≡ id = omega (arith, q) in
      none_undoes (ap (λ (z : ℕ). rollback_at s.trans (place_of s.trans z)) same ∙ ap (λ (o : Option ℕ). rollback_at s.trans o) may.new) held
    where
      none_undoes : {x : TranState} → x ≡ free_tran → is_undoing x.stage ≡ true → ⊥
      none_undoes e undoing = never (sym undoing ∙ ap (λ (z : TranState). is_undoing z.stage) e)
        where
          never : true ≡ false → ⊥
          never z = cc

  still_taken : (o : Owner) → IsTaken s o → IsTaken (with_rollback s id by changes undone) o
  still_taken (owner.Slot slot) held = (ap (λ (n : ℕ). nat_lt 0 slot && nat_le slot n) adopted.agents ∙ held.0, held.1)
  still_taken (owner.Rollback k) held = where_it_was (place_of s.trans k) refl held
    where
      ys : List TranState
      ys = left_open id changes (nat_lt 0 (length undone)) ∷ []

      where_it_was : (o : Option ℕ) → place_of s.trans k ≡ o → is_undoing (rollback_at s.trans o).stage ≡ true → is_undoing (tran_of (with_rollback s id by changes undone) (owner.Rollback k)).stage ≡ true
      where_it_was None is undoing = absurd cc
      where_it_was (Some at) is undoing = ap (λ (o : Option ℕ). is_undoing (rollback_at (with_rollback s id by changes undone).trans o).stage) (old_place s.trans.rollbacks ys 0 k at is)
          ∙ (ap (λ (x : TranState). is_undoing x.stage) (same_at at (old_at s.trans.rollbacks ys 0 k at is)) ∙ undoing)
        where
          same_at : (n : ℕ) → slice_index_or (s.trans.rollbacks ++ ys) (n - 0) free_tran ≡ slice_index_or s.trans.rollbacks (n - 0) free_tran → slice_index_or (s.trans.rollbacks ++ ys) n free_tran ≡ slice_index_or s.trans.rollbacks n free_tran
          same_at n e = subst (λ (z : ℕ). slice_index_or (s.trans.rollbacks ++ ys) z free_tran ≡ slice_index_or s.trans.rollbacks z free_tran) (none_less n) e
            where
              none_less : (z : ℕ) → z - 0 ≡ z
              none_less z = omega arith

  same_name : (o : Owner) → name_of (with_rollback s id by changes undone) o ≡ name_of s o
  same_name (owner.Slot slot) = refl
  same_name (owner.Rollback k) = refl

  others : (k : ℕ) (spot : Spot) → HasLocked s k spot → HasLocked (with_rollback s id by changes undone) k spot
  others k spot l = record {
    by = l.by;
    taken = still_taken l.by l.taken;
    named = same_name l.by ∙ l.named;
    space = subst (λ (z : Option Mode). Covers z IX) (sym (adopted.rest (number_of l.by) (space_of spot) (far l.by l.taken))) l.space;
    row = subst (λ (z : Option Mode). Covers z X) (sym (adopted.rest (number_of l.by) (row_of spot) (far l.by l.taken))) l.row;
  }

  behind : AdoptedLocked s (with_rollback s id by changes undone) id (spots_of changes undone)
  behind = record {
    book = adopted.book;
    lends = λ c. adopted.rest 1 c (no_slot id) ∙ lends c;
    rows = own_rows (spots_of changes undone) (spotted facts.numbers s.locks (claims_adopted s.locks id by (spots_of changes undone)) id (spots_of changes undone) adopted);
    others = others;
  }

pub adoptions_lock : Facts → AdoptionsLock
adoptions_lock facts s id by changes undone book may lends =
    subst (λ (b : Bool). AdoptedLocked s (if b then with_rollback s id by changes undone else s) id (spots_of changes undone)) (sym may) (behind facts s id by changes undone book (may_then s id changes may) lends)
