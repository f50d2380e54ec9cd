-- All transactions of a member, as one of them changes.
use Rattle.std.proofs.Common.{◌≡◌, ℕ, zero, suc, ◌<◌, refl, sym, ◌∙◌, ap, subst, arith, Bool, true, false, inl, inr, List, [], ◌∷◌, ◌++◌, Option, Some, None}
use Rattle.std.specs.Prelude.{◌≢◌, ◌⊎◌, ◌||◌, replicate, remove, slice_index_or, slice_set}
use Rattle.std.specs.List.{AllByRecursion}
use Rattle.std.proofs.lemmas.Bool.{or_left, or_right}
use Rattle.ds_model.specs.declared.log.LogRecord.{LogRecord}
use Rattle.log_rows.specs.Rows.{BothTell, is_closed}
use Rattle.member_trans.specs.declared.fate.Change.{Change}
use Rattle.member_trans.specs.declared.fate.Owner.{Owner}
use Rattle.member_trans.specs.declared.fate.Owner.TheVariants as owner
use Rattle.member_trans.specs.declared.fate.Stage.{Stage}
use Rattle.member_trans.specs.declared.fate.Stage.TheVariants as stage
use Rattle.member_trans.specs.Trans.{TransState, TranState, free_tran, is_decided, is_drawn, is_empty, is_forward, is_undoing, place_of, rollback_at, tran_at, tran_of, with_rollback, with_set, with_tran, with_tran_of}
use Rattle.closing_law.specs.Closing.{AllStand, HasEnd, TranStands, Waits}
use Rattle.closing_law.proofs.Lists.{all_as, all_at, all_set}

-- ---- stages are one of their kinds
pub forward_only : (x : Stage) → is_forward x ≡ true → (is_decided x ≡ true → ⊥) × (is_undoing x ≡ true → ⊥) × (is_drawn x ≡ true → ⊥)
forward_only stage.Free e = absurd cc
forward_only stage.Forward e = (λ z. absurd cc, λ z. absurd cc, λ z. absurd cc)
forward_only stage.Drawn e = absurd cc
forward_only stage.Decided e = absurd cc
forward_only stage.Undoing e = absurd cc
forward_only stage.Postponed e = absurd cc

pub undoing_only : (x : Stage) → is_undoing x ≡ true → (is_forward x ≡ true → ⊥) × (is_decided x ≡ true → ⊥) × (is_drawn x ≡ true → ⊥)
undoing_only stage.Free e = absurd cc
undoing_only stage.Forward e = absurd cc
undoing_only stage.Drawn e = absurd cc
undoing_only stage.Decided e = absurd cc
undoing_only stage.Undoing e = (λ z. absurd cc, λ z. absurd cc, λ z. absurd cc)
undoing_only stage.Postponed e = absurd cc

-- ---- one that has nothing to show
pub free_stands : (disk pend : List LogRecord) (stable : ℕ) → TranStands disk pend stable free_tran
free_stands disk pend stable = record { changed = λ e. absurd cc; decided = λ e. absurd cc; undone = λ e. absurd cc }

-- the same stage, name, changes and end
pub like : (disk pend : List LogRecord) (stable : ℕ) (t x : TranState) → x.stage ≡ t.stage → x.first ≡ t.first → x.changes ≡ t.changes → x.ended ≡ t.ended → TranStands disk pend stable t → TranStands disk pend stable x
like disk pend stable t x same first changes ended h = record {
  changed = λ e n. subst (λ (z : List Change). is_empty z ≡ false) (sym changes) (h.changed (ap (λ (z : Stage). is_forward z) (sym same) ∙ e) (λ z. n (first ∙ z)));
  decided = λ e n. ap (λ (z : ℕ). is_closed disk z) first ∙ h.decided (ap (λ (z : Stage). is_decided z) (sym same) ∙ e) (λ z. n (first ∙ z));
  undone = λ e n empty. ends (h.undone (ap (λ (z : Stage). is_undoing z) (sym same) ∙ e) (λ z. n (first ∙ z)) (ap (λ (z : List Change). is_empty z) (sym changes) ∙ empty));
}
  where
    ends : HasEnd disk pend stable t → HasEnd disk pend stable x
    ends (inl c) = inl (ap (λ (z : ℕ). is_closed disk z) first ∙ c)
    ends (inr c) = inr (ap (λ (z : ℕ). is_closed pend z) first ∙ c.0, subst (λ (z : ℕ). stable < z) (sym ended) c.1)

-- ---- more records wait
closed_more : BothTell → (p q : List LogRecord) (id : ℕ) → is_closed p id ≡ true → is_closed (p ++ q) id ≡ true
closed_more law p q id h = law.closed p q id ∙ or_left (is_closed p id) (is_closed q id) h

pub closed_last : BothTell → (p q : List LogRecord) (id : ℕ) → is_closed q id ≡ true → is_closed (p ++ q) id ≡ true
closed_last law p q id h = law.closed p q id ∙ or_right (is_closed p id) (is_closed q id) h

pub stands_more : BothTell → (disk pend q : List LogRecord) (stable : ℕ) (t : TranState) → TranStands disk pend stable t → TranStands disk (pend ++ q) stable t
stands_more law disk pend q stable t h = record { changed = h.changed; decided = h.decided; undone = λ e n empty. ends (h.undone e n empty) }
  where
    ends : HasEnd disk pend stable t → HasEnd disk (pend ++ q) stable t
    ends (inl c) = inl c
    ends (inr c) = inr (closed_more law pend q t.first c.0, c.1)

waits_more : BothTell → (pend q : List LogRecord) (t : TranState) → Waits pend t → Waits (pend ++ q) t
waits_more law pend q t h = record { drawn = h.drawn; closed = λ n. closed_more law pend q t.first (h.closed n) }

pub all_more : BothTell → (disk pend q : List LogRecord) (stable : ℕ) (t : TransState) → AllStand disk pend stable t → AllStand disk (pend ++ q) stable t
all_more law disk pend q stable t h = record {
  slots = all_as (TranStands disk pend stable) (TranStands disk (pend ++ q) stable) t.slots (stands_more law disk pend q stable) h.slots;
  rollbacks = all_as (TranStands disk pend stable) (TranStands disk (pend ++ q) stable) t.rollbacks (stands_more law disk pend q stable) h.rollbacks;
  commits = all_as (λ (slot : ℕ). Waits pend (tran_at t slot)) (λ (slot : ℕ). Waits (pend ++ q) (tran_at t slot)) t.commits (λ slot w. waits_more law pend q (tran_at t slot) w) h.commits;
}

-- ---- all records that wait come to be on disk
pub stands_stored : BothTell → (disk pend : List LogRecord) (stable now : ℕ) (t : TranState) → TranStands disk pend stable t → TranStands (disk ++ pend) [] now t
stands_stored law disk pend stable now t h = record { changed = h.changed; decided = λ e n. closed_more law disk pend t.first (h.decided e n); undone = λ e n empty. ends (h.undone e n empty) }
  where
    ends : HasEnd disk pend stable t → HasEnd (disk ++ pend) [] now t
    ends (inl c) = inl (closed_more law disk pend t.first c)
    ends (inr c) = inl (closed_last law disk pend t.first c.0)

-- ---- the transaction of a slot is another
waits_set : (pend : List LogRecord) (ts : List TranState) (slot : ℕ) (x : TranState) → (Waits pend (slice_index_or ts slot free_tran) → Waits pend x)
    → (k : ℕ) → Waits pend (slice_index_or ts k free_tran) → Waits pend (slice_index_or (slice_set ts slot x) k free_tran)
waits_set pend [] slot x on k h = h
waits_set pend (t ∷ ts) zero x on zero h = on h
waits_set pend (t ∷ ts) zero x on (suc k) h = h
waits_set pend (t ∷ ts) (suc slot) x on zero h = h
waits_set pend (t ∷ ts) (suc slot) x on (suc k) h = waits_set pend ts slot x on k h

pub set_slot : (disk pend : List LogRecord) (stable : ℕ) (t : TransState) (slot : ℕ) (x : TranState) → AllStand disk pend stable t → TranStands disk pend stable x → (Waits pend (tran_at t slot) → Waits pend x) → AllStand disk pend stable (with_tran t slot x)
set_slot disk pend stable t slot x h new on = record {
  slots = all_set (TranStands disk pend stable) t.slots slot x h.slots new;
  rollbacks = h.rollbacks;
  commits = all_as (λ (k : ℕ). Waits pend (tran_at t k)) (λ (k : ℕ). Waits pend (tran_at (with_tran t slot x) k)) t.commits (waits_set pend t.slots slot x on) h.commits;
}

-- or that of a rollback
pub set_rollback : (disk pend : List LogRecord) (stable : ℕ) (t : TransState) (o : Option ℕ) (x : TranState) → AllStand disk pend stable t → TranStands disk pend stable x → AllStand disk pend stable (with_rollback t o x)
set_rollback disk pend stable t None x h new = h
set_rollback disk pend stable t (Some k) x h new = record { slots = h.slots; rollbacks = all_set (TranStands disk pend stable) t.rollbacks k x h.rollbacks new; commits = h.commits }

-- what stands of the owner's transaction
rollback_stands : (disk pend : List LogRecord) (stable : ℕ) (t : TransState) (o : Option ℕ) → AllStand disk pend stable t → TranStands disk pend stable (rollback_at t o)
rollback_stands disk pend stable t None h = free_stands disk pend stable
rollback_stands disk pend stable t (Some k) h = all_at (TranStands disk pend stable) t.rollbacks k free_tran h.rollbacks (free_stands disk pend stable)

pub owner_stands : (disk pend : List LogRecord) (stable : ℕ) (t : TransState) (o : Owner) → AllStand disk pend stable t → TranStands disk pend stable (tran_of t o)
owner_stands disk pend stable t (owner.Slot slot) h = all_at (TranStands disk pend stable) t.slots slot free_tran h.slots (free_stands disk pend stable)
owner_stands disk pend stable t (owner.Rollback id) h = rollback_stands disk pend stable t (place_of t id) h

pub set_owner : (disk pend : List LogRecord) (stable : ℕ) (t : TransState) (o : Owner) (x : TranState) → AllStand disk pend stable t → TranStands disk pend stable x → (Waits pend (tran_of t o) → Waits pend x) → AllStand disk pend stable (with_tran_of t o x)
set_owner disk pend stable t (owner.Slot slot) x h new on = set_slot disk pend stable t slot x h new on
set_owner disk pend stable t (owner.Rollback id) x h new on = set_rollback disk pend stable t (place_of t id) x h new

-- with the same stage, name, changes and end
pub set_like : (disk pend : List LogRecord) (stable : ℕ) (t : TransState) (o : Owner) (x : TranState) → x.stage ≡ (tran_of t o).stage → x.first ≡ (tran_of t o).first → x.changes ≡ (tran_of t o).changes → x.ended ≡ (tran_of t o).ended
    → AllStand disk pend stable t → AllStand disk pend stable (with_tran_of t o x)
set_like disk pend stable t o x same first changes ended h =
    set_owner disk pend stable t o x h (like disk pend stable (tran_of t o) x same first changes ended (owner_stands disk pend stable t o h))
    (λ w. record { drawn = ap (λ (z : Stage). is_drawn z) same ∙ w.drawn; closed = λ n. ap (λ (z : ℕ). is_closed pend z) first ∙ w.closed (λ z. n (first ∙ z)) })

pub set_sets : (disk pend : List LogRecord) (stable : ℕ) (t : TransState) (o : Owner) (set : ℕ) → AllStand disk pend stable t → AllStand disk pend stable (with_tran_of t o (with_set (tran_of t o) set))
set_sets disk pend stable t o set h = set_like disk pend stable t o (with_set (tran_of t o) set) refl refl refl refl h

-- the lists stay
pub same_lists : (disk pend : List LogRecord) (stable : ℕ) (t u : TransState) → u.slots ≡ t.slots → u.rollbacks ≡ t.rollbacks → u.commits ≡ t.commits → AllStand disk pend stable t → AllStand disk pend stable u
same_lists disk pend stable t u slots rollbacks commits h = record {
  slots = subst (λ (z : List TranState). AllByRecursion (TranStands disk pend stable) z) (sym slots) h.slots;
  rollbacks = subst (λ (z : List TranState). AllByRecursion (TranStands disk pend stable) z) (sym rollbacks) h.rollbacks;
  commits = subst (λ (z : List ℕ). AllByRecursion (λ (slot : ℕ). Waits pend (tran_at u slot)) z) (sym commits)
      (subst (λ (z : List TranState). AllByRecursion (λ (slot : ℕ). Waits pend (slice_index_or z slot free_tran)) t.commits) (sym slots) h.commits);
}
