-- What a log record leaves of the slots.
use Rattle.std.proofs.Common.{◌≡◌, ℕ, refl, true, false, inl, inr, Bool, List, [], ◌∷◌, Option, Some, None}
use Rattle.std.specs.Prelude.{◌≢◌, ◌⊎◌, ◌-◌, ◌==◌, ◌++◌, if◌then◌else◌, length, slice_set, take}
use Rattle.std.proofs.lemmas.Bool.{cond_both, eqb-true}
use Rattle.ds_base.specs.Pages.{heap_set}
use Rattle.ds_model.specs.declared.log.LogRecord.{LogRecord}
use Rattle.ds_model.specs.declared.log.RowChange.{RowChange}
use Rattle.page_format.specs.declared.patch.Patch.{Patch}
use Rattle.member_log.specs.Buffers.{after_put, after_force}
use Rattle.member_trans.specs.declared.fate.Change.{Change}
use Rattle.member_trans.specs.declared.fate.Owner.{Owner}
use Rattle.member_trans.specs.declared.fate.Owner.TheVariants as owner
use Rattle.member_trans.specs.Lists.{pushed}
use Rattle.member_trans.specs.Trans.{TransState, TranState, tran_of as tran_in, tran_at, with_tran, with_tran_of, with_set, changed, drawn, first_with, with_undone, newest_of, is_empty, is_forward, after_draw, after_decide}
use Rattle.member_marks.specs.State.{MarksState, tran_of, slot_tran}
use Rattle.member_marks.specs.Records.{fits_in, row_record, may_change, set_noted, sets_noted, row_noted, after_change, after_system, back_noted, back_record, ended_record, both_fit, after_back, may_back, undone_as, after_undo, commit_record, may_commit, after_commit, after_append}
use Rattle.member_effects.specs.Changes.{system_record}
use Rattle.marks_law.specs.Slots.{AreSlots}
use Rattle.marks_law.specs.Transactions.{GoesOn, TransStay, has_tran}
use Rattle.marks_law.proofs.Free.{FreesNone, frees_set, frees_kept, frees_of, frees_on, frees_decided}
use Rattle.marks_law.proofs.Kept.{Kept, kept_itself, kept_if, kept_logged}
use Rattle.marks_law.proofs.Staying.{stay_itself, stay_on, stay_same, stay_set, stay_kept, stay_of, stay_decided}
use Rattle.marks_law.proofs.Slots.{SameStage, set_kept, set_of, set_other, pushed_own, forward_other, all_slots}

-- ---- page sets are noted
noted_set : (t : TransState) (agents slot set : ℕ) → AreSlots t agents → AreSlots (set_noted t slot set) agents
noted_set t agents slot set h = set_kept t agents slot (with_set (tran_at t slot) set) h refl

noted_sets : (t : TransState) (agents slot : ℕ) (ps : List Patch) → AreSlots t agents → AreSlots (sets_noted t slot ps) agents
noted_sets t agents slot [] h = h
noted_sets t agents slot (p ∷ ps) h = noted_sets (set_noted t slot p.page.set) agents slot ps (noted_set t agents slot p.page.set h)

set_frees : (t : TransState) (slot set : ℕ) → FreesNone t (set_noted t slot set)
set_frees t slot set = frees_kept t slot (with_set (tran_at t slot) set) refl

sets_free : (t : TransState) (slot : ℕ) (ps : List Patch) → FreesNone t (sets_noted t slot ps)
sets_free t slot [] = λ k f. f
sets_free t slot (p ∷ ps) = frees_on t (set_noted t slot p.page.set) (sets_noted t slot (p ∷ ps)) (set_frees t slot p.page.set) (sets_free (set_noted t slot p.page.set) slot ps)

set_stays : (t : TransState) (slot set : ℕ) → TransStay t (set_noted t slot set)
set_stays t slot set = stay_kept t slot (with_set (tran_at t slot) set) refl refl

sets_stay : (t : TransState) (slot : ℕ) (ps : List Patch) → TransStay t (sets_noted t slot ps)
sets_stay t slot [] = stay_itself t
sets_stay t slot (p ∷ ps) = stay_on t (set_noted t slot p.page.set) (sets_noted t slot (p ∷ ps)) (set_stays t slot p.page.set) (sets_stay (set_noted t slot p.page.set) slot ps)

-- ---- a row change
first_kept : (first lrsn : ℕ) → (first_with first lrsn ≡ first) ⊎ (first ≡ 0)
first_kept first lrsn = by (first == 0) refl
  where
    by : (b : Bool) → (first == 0) ≡ b → ((if b then lrsn else first) ≡ first) ⊎ (first ≡ 0)
    by true e = inr (eqb-true first 0 e)
    by false e = inl refl

change_goes : (t : TranState) (lrsn : ℕ) (c : RowChange) → has_tran t.stage ≡ true → GoesOn t (changed t lrsn c)
change_goes t lrsn c h = cond_both t.has_room (record t { first = first_with t.first lrsn; changes = t.changes ++ record { lrsn = lrsn; change = c } ∷ []; has_room = false }) t (λ (z : TranState). GoesOn t z)
    (λ e. record { there = h; named = first_kept t.first lrsn }) (λ e. record { there = h; named = inl refl })

change_stage : (t : TranState) (lrsn : ℕ) (c : RowChange) → (changed t lrsn c).stage ≡ t.stage
change_stage t lrsn c = cond_both t.has_room (record t { first = first_with t.first lrsn; changes = t.changes ++ record { lrsn = lrsn; change = c } ∷ []; has_room = false }) t (λ (z : TranState). z.stage ≡ t.stage) (λ e. refl) (λ e. refl)

pub kept_change : (s : MarksState) (slot lrsn : ℕ) (c : RowChange) → Kept s (after_change s slot lrsn c)
kept_change s slot lrsn c = kept_if s _ _ (may_change s slot lrsn c)
    (λ e. kept_logged s (after_put s.log (row_record (slot_tran s slot) lrsn c)) (row_noted s.trans slot lrsn c)
    (λ h. noted_set (with_tran s.trans slot (changed (tran_at s.trans slot) lrsn c)) s.locks.agents slot (heap_set c.table) (set_kept s.trans s.locks.agents slot (changed (tran_at s.trans slot) lrsn c) h (change_stage (tran_at s.trans slot) lrsn c)))
    (frees_on s.trans (with_tran s.trans slot (changed (tran_at s.trans slot) lrsn c)) (row_noted s.trans slot lrsn c)
    (frees_kept s.trans slot (changed (tran_at s.trans slot) lrsn c) (change_stage (tran_at s.trans slot) lrsn c))
    (set_frees (with_tran s.trans slot (changed (tran_at s.trans slot) lrsn c)) slot (heap_set c.table)))
    (stay_on s.trans (with_tran s.trans slot (changed (tran_at s.trans slot) lrsn c)) (row_noted s.trans slot lrsn c)
    (stay_set s.trans slot (changed (tran_at s.trans slot) lrsn c) (change_goes (tran_at s.trans slot) lrsn c))
    (set_stays (with_tran s.trans slot (changed (tran_at s.trans slot) lrsn c)) slot (heap_set c.table))))
    (λ e. kept_itself s)

pub kept_system : (s : MarksState) (slot : ℕ) (ps : List Patch) (lrsn : ℕ) → Kept s (after_system s slot (system_record ps lrsn))
kept_system s slot ps lrsn = kept_if s _ _ (fits_in s.log (system_record ps lrsn))
    (λ e. kept_logged s (after_put s.log (system_record ps lrsn)) (sets_noted s.trans slot ps) (λ h. noted_sets s.trans s.locks.agents slot ps h) (sets_free s.trans slot ps) (sets_stay s.trans slot ps)) (λ e. kept_itself s)

-- ---- a change is taken back
undone_stage : (t : TranState) (lrsn : ℕ) → (with_undone t lrsn).stage ≡ t.stage
undone_stage t lrsn = cond_both (is_empty t.changes) t (record t { changes = take (length t.changes - 1) t.changes; undone = true; ended = if length t.changes == 1 then lrsn else t.ended }) (λ (z : TranState). z.stage ≡ t.stage) (λ e. refl) (λ e. refl)

undone_first : (t : TranState) (lrsn : ℕ) → (with_undone t lrsn).first ≡ t.first
undone_first t lrsn = cond_both (is_empty t.changes) t (record t { changes = take (length t.changes - 1) t.changes; undone = true; ended = if length t.changes == 1 then lrsn else t.ended }) (λ (z : TranState). z.first ≡ t.first) (λ e. refl) (λ e. refl)

back_stage : (s : MarksState) (o : Owner) (lrsn : ℕ) → SameStage s.trans o (with_undone (tran_of s o) lrsn)
back_stage s (owner.Slot slot) lrsn = undone_stage (slot_tran s slot) lrsn
back_stage s (owner.Rollback id) lrsn = tt

set_stage : (t : TransState) (o : Owner) (set : ℕ) → SameStage t o (with_set (tran_in t o) set)
set_stage t (owner.Slot slot) set = refl
set_stage t (owner.Rollback id) set = tt

noted_back : (s : MarksState) (o : Owner) (lrsn set : ℕ) → AreSlots s.trans s.locks.agents → AreSlots (back_noted s.trans o (tran_of s o) lrsn set) s.locks.agents
noted_back s o lrsn set h =
    let mid = with_tran_of s.trans o (with_undone (tran_of s o) lrsn) in
    set_of mid s.locks.agents o (with_set (tran_in mid o) set) (set_of s.trans s.locks.agents o (with_undone (tran_of s o) lrsn) h (back_stage s o lrsn)) (set_stage mid o set)

back_frees : (s : MarksState) (o : Owner) (lrsn set : ℕ) → FreesNone s.trans (back_noted s.trans o (tran_of s o) lrsn set)
back_frees s o lrsn set =
    let mid = with_tran_of s.trans o (with_undone (tran_of s o) lrsn) in
    frees_on s.trans mid (back_noted s.trans o (tran_of s o) lrsn set) (frees_of s.trans o (with_undone (tran_of s o) lrsn) (back_stage s o lrsn)) (frees_of mid o (with_set (tran_in mid o) set) (set_stage mid o set))

back_stays : (s : MarksState) (o : Owner) (lrsn set : ℕ) → TransStay s.trans (back_noted s.trans o (tran_of s o) lrsn set)
back_stays s o lrsn set =
    let mid = with_tran_of s.trans o (with_undone (tran_of s o) lrsn) in
    stay_on s.trans mid (back_noted s.trans o (tran_of s o) lrsn set) (stay_of s.trans o (with_undone (tran_of s o) lrsn) (undone_stage (tran_of s o) lrsn) (undone_first (tran_of s o) lrsn)) (stay_of mid o (with_set (tran_in mid o) set) refl refl)

kept_back : (s : MarksState) (o : Owner) (lrsn set : ℕ) (r q : LogRecord) → Kept s (after_back s o lrsn set r q)
kept_back s o lrsn set r q = kept_if s _ _ (both_fit s.log r q)
    (λ e. kept_logged s _ (back_noted s.trans o (tran_of s o) lrsn set) (noted_back s o lrsn set) (back_frees s o lrsn set) (back_stays s o lrsn set)) (λ e. kept_itself s)

kept_undone : (s : MarksState) (o : Owner) (lrsn : ℕ) (x : Option Change) → Kept s (undone_as s o lrsn x)
kept_undone s o lrsn None = kept_itself s
kept_undone s o lrsn (Some it) = kept_if s _ _ (may_back (tran_of s o) it)
    (λ e. kept_back s o lrsn (heap_set it.change.table) (back_record (tran_of s o) lrsn it) (ended_record (tran_of s o) lrsn)) (λ e. kept_itself s)

pub kept_undo : (s : MarksState) (o : Owner) (lrsn : ℕ) → Kept s (after_undo s o lrsn)
kept_undo s o lrsn = kept_undone s o lrsn (newest_of (tran_of s o))

-- ---- a commit
abbrev drawn_now : TransState → ℕ → TransState
drawn_now t slot = record t { slots = slice_set t.slots slot (drawn (tran_at t slot)); commits = pushed t.commits slot }

drawn_set : (t : TransState) (agents slot : ℕ) → AreSlots t agents → slot ≢ 0 → AreSlots (drawn_now t slot) agents
drawn_set t agents slot h ne =
    let set : AreSlots (with_tran t slot (drawn (tran_at t slot))) agents = set_other t agents slot (drawn (tran_at t slot)) h ne in
    record { count = set.count; own = set.own; commits = pushed_own t.commits slot h.commits ne }

drawn_slots : (t : TransState) (agents slot : ℕ) → AreSlots t agents → AreSlots (after_draw t slot) agents
drawn_slots t agents slot h = cond_both (is_forward (tran_at t slot).stage) (drawn_now t slot) t (λ (z : TransState). AreSlots z agents) (λ e. drawn_set t agents slot h (forward_other t agents slot h e)) (λ e. h)

drawn_frees : (t : TransState) (slot : ℕ) → FreesNone t (after_draw t slot)
drawn_frees t slot = cond_both (is_forward (tran_at t slot).stage) (drawn_now t slot) t (λ (z : TransState). FreesNone t z) (λ e. frees_set t slot (drawn (tran_at t slot)) (λ f. absurd cc)) (λ e k f. f)

drawn_stays : (t : TransState) (slot : ℕ) → TransStay t (after_draw t slot)
drawn_stays t slot = cond_both (is_forward (tran_at t slot).stage) (drawn_now t slot) t (λ (z : TransState). TransStay t z)
    (λ e. stay_on t (with_tran t slot (drawn (tran_at t slot))) (drawn_now t slot) (stay_set t slot (drawn (tran_at t slot)) (λ h. record { there = refl; named = inl refl })) (stay_same (with_tran t slot (drawn (tran_at t slot))) (drawn_now t slot) refl refl))
    (λ e. stay_itself t)

pub kept_commit : (s : MarksState) (slot lrsn : ℕ) → Kept s (after_commit s slot lrsn)
kept_commit s slot lrsn = kept_if s _ _ (may_commit s slot lrsn)
    (λ e. kept_logged s (after_put s.log (commit_record (slot_tran s slot) lrsn)) (after_draw s.trans slot) (drawn_slots s.trans s.locks.agents slot) (drawn_frees s.trans slot) (drawn_stays s.trans slot)) (λ e. kept_itself s)

pub kept_append : (s : MarksState) → Kept s (after_append s)
kept_append s = kept_logged s (after_force s.log) (after_decide s.trans) (all_slots s.trans s.locks.agents) (frees_decided s.trans.slots s.trans.commits) (stay_decided s.trans)
