-- The numbers behind a change of transactions, and behind a log record.
use Rattle.std.proofs.Common.{◌≡◌, ℕ, ◌+◌, ◌≤◌, refl, sym, ◌∙◌, ap, arith, Bool, true, false, List, [], ◌∷◌, ◌++◌, length, take, Option, Some, None}
use Rattle.std.specs.Prelude.{◌≢◌, ◌-◌, ◌==◌, ◌&&◌, if◌then◌else◌, slice_index_or, slice_set}
use Rattle.std.proofs.lemmas.Bool.{cond_both, ne_eqb}
use Rattle.ds_base.specs.Pages.{heap_set}
use Rattle.ds_model.specs.declared.log.LogRecord.{LogRecord}
use Rattle.ds_model.specs.declared.log.RowChange.{RowChange}
use Rattle.page_format.specs.declared.patch.Patch.{Patch}
use Rattle.member_trans.specs.declared.fate.Change.{Change}
use Rattle.member_trans.specs.declared.fate.Owner.{Owner}
use Rattle.member_trans.specs.declared.fate.Owner.TheVariants as owner
use Rattle.member_trans.specs.Trans.{TransState, TranState, after_draw, all_decided, changed, decided_tran, drawn, first_with, free_tran, is_empty, is_forward, is_free, newest_of, place_of, rollback_at, tran_at, tran_of as tran_in, with_rollback, with_set, with_set_of, with_tran, with_tran_of, with_undone}
use Rattle.member_marks.specs.State.{MarksState, slot_tran, tran_of}
use Rattle.member_marks.specs.Records.{after_append, after_back, after_change, after_commit, after_system, after_undo, back_noted, back_record, both_fit, both_logged, ended_record, fits_in, may_back, may_change, may_commit, row_noted, set_noted, sets_noted, undone_as}
use Rattle.member_effects.specs.Changes.{system_record}
use Rattle.log_numbers.specs.Numbers.{forward_among, named_among, one_if}
use Rattle.log_numbers.proofs.Lists.{decided_none, forward_stands, like_forward, none_forward, none_named, set_forward, set_named, set_none}
use Rattle.log_numbers.proofs.Stays.{Draws, Fewer, OneMore, Stays, draws_if, draws_put, draws_stays, above_some, fewer_if, fewer_itself, fewer_on, fewer_one, none_more, one_more, stays_itself}

-- ---- a transaction that keeps its name, and goes forward, or isn't there, only where it did, or wasn't
pub slot_like : (t : TransState) (slot : ℕ) (x : TranState) → x.first ≡ (tran_at t slot).first → (is_forward x.stage ≡ true → is_forward (tran_at t slot).stage ≡ true) → (is_free x.stage ≡ true → is_free (tran_at t slot).stage ≡ true)
    → Fewer t (with_tran t slot x)
slot_like t slot x same on off = record {
  named = λ id some.
      let set = set_named t.slots slot x id some in
      let e = ap (λ (z : ℕ). one_if (z == id)) same in
      omega (arith, set, e);
  forward = λ id some.
      let set = set_forward t.slots slot x id in
      let e = like_forward x (tran_at t slot) id same on in
      omega (arith, set, e);
  free = λ all. set_none t.slots slot x (λ gone. same ∙ all slot (off gone)) all;
}

rollback_like : (t : TransState) (k : ℕ) (x : TranState) → x.first ≡ (slice_index_or t.rollbacks k free_tran).first → Fewer t (with_rollback t (Some k) x)
rollback_like t k x same = record {
  named = λ id some.
      let set = set_named t.rollbacks k x id some in
      let e = ap (λ (z : ℕ). one_if (z == id)) same in
      omega (arith, set, e);
  forward = λ id some. omega arith;
  free = λ all. all;
}

pub owner_like : (t : TransState) (o : Owner) (x : TranState) → x.first ≡ (tran_in t o).first → (is_forward x.stage ≡ true → is_forward (tran_in t o).stage ≡ true) → (is_free x.stage ≡ true → is_free (tran_in t o).stage ≡ true)
    → Fewer t (with_tran_of t o x)
owner_like t (owner.Slot slot) x same on off = slot_like t slot x same on off
owner_like t (owner.Rollback id) x same on off = by (place_of t id) same
  where
    by : (k : Option ℕ) → x.first ≡ (rollback_at t k).first → Fewer t (with_rollback t k x)
    by None e = fewer_itself t
    by (Some k) e = rollback_like t k x e

-- one that has none, or is gone
pub slot_none : (t : TransState) (slot : ℕ) (x : TranState) → x.first ≡ 0 → Fewer t (with_tran t slot x)
slot_none t slot x none = record {
  named = λ id some.
      let set = set_named t.slots slot x id some in
      let e = ap (λ (z : ℕ). one_if (z == id)) none in
      let zero = none_named id some in
      omega (arith, set, e, zero);
  forward = λ id some.
      let set = set_forward t.slots slot x id in
      let e = none_forward x id none some in
      omega (arith, set, e);
  free = λ all. set_none t.slots slot x (λ gone. none) all;
}

-- page sets
pub set_fewer : (t : TransState) (o : Owner) (set : ℕ) → Fewer t (with_set_of t o set)
set_fewer t o set = owner_like t o (with_set (tran_in t o) set) refl (λ e. e) (λ e. e)

sets_fewer : (t : TransState) (slot : ℕ) (ps : List Patch) → Fewer t (sets_noted t slot ps)
sets_fewer t slot [] = fewer_itself t
sets_fewer t slot (p ∷ ps) = fewer_on t (set_noted t slot p.page.set) (sets_noted (set_noted t slot p.page.set) slot ps) (set_fewer t (owner.Slot slot) p.page.set) (sets_fewer (set_noted t slot p.page.set) slot ps)

-- ---- a change of pages alone
pub draws_system : (s : MarksState) (slot n : ℕ) (ps : List Patch) → Draws n s (after_system s slot (system_record ps n))
draws_system s slot n ps = draws_if n s _ _ (fits_in s.log (system_record ps n))
    (λ e. draws_put n s _ refl refl (fewer_one n s.trans (sets_noted s.trans slot ps) (sets_fewer s.trans slot ps)))
    (draws_stays n s s (stays_itself s))

-- ---- a row change
named_by : (a n id : ℕ) → one_if (first_with a n == id) ≤ one_if (a == id) + one_if (n == id)
named_by a n id = cond_both (a == 0) n a (λ (z : ℕ). one_if (z == id) ≤ one_if (a == id) + one_if (n == id)) (λ e. omega arith) (λ e. omega arith)

changed_first : (t : TranState) (n id : ℕ) (c : RowChange) → one_if ((changed t n c).first == id) ≤ one_if (t.first == id) + one_if (n == id)
changed_first t n id c = cond_both t.has_room (record t { first = first_with t.first n; changes = t.changes ++ record { lrsn = n; change = c } ∷ []; has_room = false }) t (λ (z : TranState). one_if (z.first == id) ≤ one_if (t.first == id) + one_if (n == id))
    (λ e. named_by t.first n id) (λ e. omega arith)

other_forward : (b : Bool) (a n id : ℕ) → id ≢ n → one_if (b && (first_with a n == id)) ≤ one_if (b && (a == id))
other_forward false a n id other = omega arith
other_forward true a n id other = cond_both (a == 0) n a (λ (z : ℕ). one_if (z == id) ≤ one_if (a == id))
    (λ e. let none : one_if (n == id) ≡ 0 = ap one_if (ne_eqb n id (λ q. other (sym q))) in omega (arith, none)) (λ e. omega arith)

-- what goes forward has its name still, where that isn't this number
changed_forward : (t : TranState) (n id : ℕ) (c : RowChange) → id ≢ n → one_if (is_forward (changed t n c).stage && ((changed t n c).first == id)) ≤ one_if (is_forward t.stage && (t.first == id))
changed_forward t n id c other = cond_both t.has_room (record t { first = first_with t.first n; changes = t.changes ++ record { lrsn = n; change = c } ∷ []; has_room = false }) t
    (λ (z : TranState). one_if (is_forward z.stage && (z.first == id)) ≤ one_if (is_forward t.stage && (t.first == id)))
    (λ e. other_forward (is_forward t.stage) t.first n id other) (λ e. omega arith)

-- and is there as it was
changed_stage : (t : TranState) (n : ℕ) (c : RowChange) → (changed t n c).stage ≡ t.stage
changed_stage t n c = cond_both t.has_room (record t { first = first_with t.first n; changes = t.changes ++ record { lrsn = n; change = c } ∷ []; has_room = false }) t (λ (z : TranState). z.stage ≡ t.stage) (λ e. refl) (λ e. refl)

row_one : (t : TransState) (slot n : ℕ) (c : RowChange) → is_forward (tran_at t slot).stage ≡ true → OneMore n t (row_noted t slot n c)
row_one t slot n c goes = record {
  named = λ id some.
      let x : TranState = changed (tran_at t slot) n c in
      let set = set_named t.slots slot x id some in
      let first = changed_first (tran_at t slot) n id c in
      let rest = (set_fewer (with_tran t slot x) (owner.Slot slot) (heap_set c.table)).named id some in
      omega (arith, set, first, rest);
  forward = λ id some other.
      let x : TranState = changed (tran_at t slot) n c in
      let set = set_forward t.slots slot x id in
      let first = changed_forward (tran_at t slot) n id c other in
      let rest = (set_fewer (with_tran t slot x) (owner.Slot slot) (heap_set c.table)).forward id some in
      omega (arith, set, first, rest);
  free = λ all.
      let x : TranState = changed (tran_at t slot) n c in
      (set_fewer (with_tran t slot x) (owner.Slot slot) (heap_set c.table)).free
      (set_none t.slots slot x (λ gone. absurd (forward_stands (tran_at t slot).stage goes (sym (ap is_free (changed_stage (tran_at t slot) n c)) ∙ gone))) all);
}

-- where the transaction goes forward
pub draws_change : (s : MarksState) (slot n : ℕ) (c : RowChange) → is_forward (slot_tran s slot).stage ≡ true → Draws n s (after_change s slot n c)
draws_change s slot n c goes = draws_if n s _ _ (may_change s slot n c) (λ e. draws_put n s _ refl refl (row_one s.trans slot n c goes)) (draws_stays n s s (stays_itself s))

-- ---- a change is taken back
undone_first : (t : TranState) (n : ℕ) → (with_undone t n).first ≡ t.first
undone_first t n = cond_both (is_empty t.changes) t (record t { changes = take (length t.changes - 1) t.changes; undone = true; ended = if length t.changes == 1 then n else t.ended }) (λ (z : TranState). z.first ≡ t.first) (λ e. refl) (λ e. refl)

undone_stage : (t : TranState) (n : ℕ) → (with_undone t n).stage ≡ t.stage
undone_stage t n = cond_both (is_empty t.changes) t (record t { changes = take (length t.changes - 1) t.changes; undone = true; ended = if length t.changes == 1 then n else t.ended }) (λ (z : TranState). z.stage ≡ t.stage) (λ e. refl) (λ e. refl)

back_fewer : (t : TransState) (o : Owner) (n set : ℕ) → Fewer t (back_noted t o (tran_in t o) n set)
back_fewer t o n set = fewer_on t (with_tran_of t o (with_undone (tran_in t o) n)) (back_noted t o (tran_in t o) n set)
    (owner_like t o (with_undone (tran_in t o) n) (undone_first (tran_in t o) n) (λ e. sym (ap is_forward (undone_stage (tran_in t o) n)) ∙ e) (λ e. sym (ap is_free (undone_stage (tran_in t o) n)) ∙ e)) (set_fewer (with_tran_of t o (with_undone (tran_in t o) n)) o set)

draws_back : (s : MarksState) (o : Owner) (n set : ℕ) (r q : LogRecord) → r.lrsn ≡ n → q.lrsn ≡ n → Draws n s (after_back s o n set r q)
draws_back s o n set r q first last = draws_if n s _ _ (both_fit s.log r q) (λ e. draws_put n s _ (lasts (length (tran_of s o).changes == 1)) (stays (length (tran_of s o).changes == 1)) (fewer_one n s.trans (back_noted s.trans o (tran_of s o) n set) (back_fewer s.trans o n set)))
    (draws_stays n s s (stays_itself s))
  where
    lasts : (b : Bool) → (both_logged s.log r q b).last ≡ n
    lasts true = last
    lasts false = first

    stays : (b : Bool) → (both_logged s.log r q b).stable ≡ s.log.stable
    stays true = refl
    stays false = refl

draws_undone : (s : MarksState) (o : Owner) (n : ℕ) (it : Option Change) → Draws n s (undone_as s o n it)
draws_undone s o n None = draws_stays n s s (stays_itself s)
draws_undone s o n (Some it) = draws_if n s _ _ (may_back (tran_of s o) it)
    (λ e. draws_back s o n (heap_set it.change.table) (back_record (tran_of s o) n it) (ended_record (tran_of s o) n) refl refl) (draws_stays n s s (stays_itself s))

pub draws_undo : (s : MarksState) (o : Owner) (n : ℕ) → Draws n s (after_undo s o n)
draws_undo s o n = draws_undone s o n (newest_of (tran_of s o))

-- ---- a commit
pub draw_fewer : (t : TransState) (slot : ℕ) → Fewer t (after_draw t slot)
draw_fewer t slot = fewer_if t _ _ (is_forward (tran_at t slot).stage) (record { named = like.named; forward = like.forward; free = like.free }) (fewer_itself t)
  where
    like : Fewer t (with_tran t slot (drawn (tran_at t slot)))
    like = slot_like t slot (drawn (tran_at t slot)) refl (λ e. absurd cc) (λ e. absurd cc)

pub draws_commit : (s : MarksState) (slot n : ℕ) → Draws n s (after_commit s slot n)
draws_commit s slot n = draws_if n s _ _ (may_commit s slot n) (λ e. draws_put n s _ refl refl (fewer_one n s.trans (after_draw s.trans slot) (draw_fewer s.trans slot))) (draws_stays n s s (stays_itself s))

-- ---- the append
decided_named : (ts : List TranState) (slots : List ℕ) (id : ℕ) → id ≢ 0 → named_among (all_decided ts slots) id ≤ named_among ts id
decided_named ts [] id some = omega arith
decided_named ts (slot ∷ slots) id some =
    let x : TranState = decided_tran (slice_index_or ts slot free_tran) in
    let set = set_named ts slot x id some in
    let rest = decided_named (slice_set ts slot x) slots id some in
    omega (arith, set, rest)

decided_forward : (ts : List TranState) (slots : List ℕ) (id : ℕ) → forward_among (all_decided ts slots) id ≤ forward_among ts id
decided_forward ts [] id = omega arith
decided_forward ts (slot ∷ slots) id =
    let x : TranState = decided_tran (slice_index_or ts slot free_tran) in
    let set = set_forward ts slot x id in
    let rest = decided_forward (slice_set ts slot x) slots id in
    omega (arith, set, rest)

pub stays_append : (s : MarksState) → Stays s (after_append s)
stays_append s = record {
  counted = λ c k. record {
    last = k.last;
    stable = k.last;
    below = λ id above. none_more s.trans (after_append s).trans id few (above_some c id above) (k.below id above);
    once = λ id some. one_more s.trans (after_append s).trans id few some (k.once id some);
    free = few.free k.free;
  };
  forward = few.forward;
}
  where
    few : Fewer s.trans (after_append s).trans
    few = record {
      named = λ id some. (let d = decided_named s.trans.slots s.trans.commits id some in omega (arith, d));
      forward = λ id some. decided_forward s.trans.slots s.trans.commits id;
      free = decided_none s.trans.slots s.trans.commits;
    }
