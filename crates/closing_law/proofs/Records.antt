-- What a log record leaves closed.
use Rattle.std.proofs.Common.{◌≡◌, ℕ, zero, suc, ◌<◌, refl, sym, ◌∙◌, ap, subst, arith, true, false, inl, inr, Bool, List, [], ◌∷◌, ◌++◌, length, take, Option, Some, None}
use Rattle.std.specs.Prelude.{◌≢◌, ◌⊎◌, ◌+◌, ◌-◌, ◌==◌, ◌&&◌, ◌||◌, nat_lt, if◌then◌else◌, slice_index_or, slice_set, not}
use Rattle.std.specs.List.{AllByRecursion}
use Rattle.std.proofs.lemmas.Bool.{and_parts, cond_both, eq-eqb, eqb-true, ne_eqb, or_cases}
use Rattle.ds_base.specs.Pages.{heap_set}
use Rattle.ds_model.specs.declared.log.LogRecord.{LogRecord}
use Rattle.ds_model.specs.declared.log.RowChange.{RowChange}
use Rattle.page_format.specs.declared.patch.Patch.{Patch}
use Rattle.log_rows.specs.Rows.{BothTell, has_changed, is_change_of, is_closed, is_end}
use Rattle.ds_model.specs.Rows.{Spot}
use Rattle.member_log.specs.Buffers.{after_put}
use Rattle.member_trans.specs.declared.fate.Change.{Change}
use Rattle.member_trans.specs.declared.fate.Owner.{Owner}
use Rattle.member_trans.specs.declared.fate.Owner.TheVariants as owner
use Rattle.member_trans.specs.declared.fate.Stage.{Stage}
use Rattle.member_trans.specs.declared.fate.Stage.TheVariants as stage
use Rattle.member_trans.specs.Lists.{pushed}
use Rattle.member_trans.specs.Trans.{TransState, TranState, free_tran, tran_of as tran_in, tran_at, with_tran, with_tran_of, with_set, changed, drawn, first_with, with_undone, newest_of, is_decided, is_drawn, is_empty, is_forward, is_undoing, after_draw}
use Rattle.member_marks.specs.State.{MarksState, tran_of, slot_tran}
use Rattle.member_marks.specs.Records.{fits_in, is_at_row, row_record, may_change, set_noted, sets_noted, row_noted, after_change, after_system, back_noted, back_record, ended_record, both_fit, after_back, may_back, undone_as, after_undo, commit_record, may_commit, after_commit}
use Rattle.member_effects.specs.Changes.{system_record}
use Rattle.member_effects.specs.Puts.{back_records, both_if, commit_records, one_if}
use Rattle.closing_law.specs.Closing.{AllStand, HasEnd, TranStands, Waits, is_checkpoint}
use Rattle.closing_law.proofs.Kept.{Adds, PutsRows, adds_both, adds_may, adds_one, adds_put, adds_put_both, kept_itself, puts_one, puts_row}
use Rattle.closing_law.proofs.Lists.{all_push}
use Rattle.closing_law.proofs.Trans.{all_more, closed_last, forward_only, owner_stands, same_lists, set_like, set_owner, set_sets, set_slot, stands_more, undoing_only}

-- ---- page sets are noted
sets_stand : (disk pend : List LogRecord) (stable : ℕ) (t : TransState) (slot : ℕ) (ps : List Patch) → AllStand disk pend stable t → AllStand disk pend stable (sets_noted t slot ps)
sets_stand disk pend stable t slot [] h = h
sets_stand disk pend stable t slot (p ∷ ps) h = sets_stand disk pend stable (set_noted t slot p.page.set) slot ps (set_sets disk pend stable t (owner.Slot slot) p.page.set h)

pub adds_system : BothTell → (s : MarksState) (slot : ℕ) (ps : List Patch) (lrsn : ℕ) → Adds s (after_system s slot (system_record ps lrsn)) (one_if (fits_in s.log (system_record ps lrsn)) (system_record ps lrsn))
adds_system law s slot ps lrsn = adds_one s _ (fits_in s.log (system_record ps lrsn)) (system_record ps lrsn)
    (λ e. adds_put s (system_record ps lrsn) (sets_noted s.trans slot ps) refl (λ x. refl) (λ disk pend h. sets_stand disk (pend ++ system_record ps lrsn ∷ []) s.log.stable s.trans slot ps (all_more law disk pend (system_record ps lrsn ∷ []) s.log.stable s.trans h)))

-- the slot's transaction is the one that was put there
pub put_there : (ts : List TranState) (slot : ℕ) (x : TranState) → is_forward (slice_index_or ts slot free_tran).stage ≡ true → slice_index_or (slice_set ts slot x) slot free_tran ≡ x
put_there [] slot x forward = absurd cc
put_there (t ∷ ts) zero x forward = refl
put_there (t ∷ ts) (suc slot) x forward = put_there ts slot x forward

-- ---- a row change of a transaction that goes forward
some_left : (c : Change) (cs : List Change) → is_empty (c ∷ cs) ≡ false
some_left c cs = ne_eqb (length (c ∷ cs)) 0 (λ e. omega arith)

pushed_some : (cs : List Change) (c : Change) → is_empty (cs ++ c ∷ []) ≡ false
pushed_some [] c = some_left c []
pushed_some (x ∷ xs) c = some_left x (xs ++ c ∷ [])

change_stands : (disk pend : List LogRecord) (stable : ℕ) (t : TranState) (lrsn : ℕ) (c : RowChange) → is_forward t.stage ≡ true → TranStands disk pend stable t → TranStands disk pend stable (changed t lrsn c)
change_stands disk pend stable t lrsn c forward h = cond_both t.has_room (record t { first = first_with t.first lrsn; changes = t.changes ++ record { lrsn = lrsn; change = c } ∷ []; has_room = false }) t (λ (z : TranState). TranStands disk pend stable z)
    (λ e. record {
      changed = λ _ _. pushed_some t.changes (record { lrsn = lrsn; change = c });
      decided = λ d. absurd ((forward_only t.stage forward).0 d);
      undone = λ u. absurd ((forward_only t.stage forward).1 u);
    }) (λ e. h)

pub change_waits : (pend : List LogRecord) (t x : TranState) → is_forward t.stage ≡ true → Waits pend t → Waits pend x
change_waits pend t x forward w = absurd ((forward_only t.stage forward).2 w.drawn)

-- the row of the record, and its transaction
record_row : (G : ℕ → Spot → Type 0) (t : TranState) (lrsn : ℕ) (c : RowChange) → G (first_with t.first lrsn) (c.table, c.key) → (id : ℕ) (x : Spot) → has_changed (row_record t lrsn c ∷ []) id x ≡ true → G id x
record_row G t lrsn c given id x h =
    let one = or_cases ((first_with t.first lrsn == id) && ((c.table == x.0) && (c.key == x.1))) false h in
    by one
  where
    never : false ≡ true → ⊥
    never e = cc

    by : (((first_with t.first lrsn == id) && ((c.table == x.0) && (c.key == x.1))) ≡ true) ⊎ (false ≡ true) → G id x
    by (inl e) =
        let p = and_parts (first_with t.first lrsn == id) ((c.table == x.0) && (c.key == x.1)) e in
        let q = and_parts (c.table == x.0) (c.key == x.1) p.1 in
        let row : (c.table, c.key) ≡ x = ap (λ (z : ℕ). (z, c.key)) (eqb-true c.table x.0 q.0) ∙ ap (λ (z : ℕ). (x.0, z)) (eqb-true c.key x.1 q.1) in
        subst (λ (z : Spot). G id z) row (subst (λ (z : ℕ). G z (c.table, c.key)) (eqb-true (first_with t.first lrsn) id p.0) given)
    by (inr e) = absurd (never e)

pub puts_change : BothTell → (G : ℕ → Spot → Type 0) (s : MarksState) (slot lrsn : ℕ) (c : RowChange) → is_forward (slot_tran s slot).stage ≡ true → (may_change s slot lrsn c ≡ true → G (first_with (slot_tran s slot).first lrsn) (c.table, c.key))
    → PutsRows G s (after_change s slot lrsn c) (one_if (may_change s slot lrsn c) (row_record (slot_tran s slot) lrsn c))
puts_change law G s slot lrsn c forward give = puts_one G s (record s { log = after_put s.log (row_record (slot_tran s slot) lrsn c); trans = row_noted s.trans slot lrsn c }) (may_change s slot lrsn c) (row_record (slot_tran s slot) lrsn c)
    (λ e. puts_row G s (row_record (slot_tran s slot) lrsn c) (row_noted s.trans slot lrsn c) refl (record_row G (slot_tran s slot) lrsn c (give e)) (λ disk pend h.
    let all = all_more law disk pend (row_record (slot_tran s slot) lrsn c ∷ []) s.log.stable s.trans h in
    let next : List LogRecord = pend ++ row_record (slot_tran s slot) lrsn c ∷ [] in
    set_sets disk next s.log.stable (with_tran s.trans slot (changed (tran_at s.trans slot) lrsn c)) (owner.Slot slot) (heap_set c.table)
    (set_slot disk next s.log.stable s.trans slot (changed (tran_at s.trans slot) lrsn c) all
    (change_stands disk next s.log.stable (tran_at s.trans slot) lrsn c forward (owner_stands disk next s.log.stable s.trans (owner.Slot slot) all))
    (change_waits next (tran_at s.trans slot) (changed (tran_at s.trans slot) lrsn c) forward))))

-- the slot's transaction has the name that the record says
room_first : (t : TranState) (lrsn : ℕ) (c : RowChange) → t.has_room ≡ true → (changed t lrsn c).first ≡ first_with t.first lrsn
room_first t lrsn c room = ap (λ (b : Bool). (if b then record t { first = first_with t.first lrsn; changes = t.changes ++ record { lrsn = lrsn; change = c } ∷ []; has_room = false } else t).first) room

changed_stage : (t : TranState) (lrsn : ℕ) (c : RowChange) → (changed t lrsn c).stage ≡ t.stage
changed_stage t lrsn c = cond_both t.has_room (record t { first = first_with t.first lrsn; changes = t.changes ++ record { lrsn = lrsn; change = c } ∷ []; has_room = false }) t (λ (z : TranState). z.stage ≡ t.stage) (λ e. refl) (λ e. refl)

noted_first : (t : TransState) (slot lrsn : ℕ) (c : RowChange) → is_forward (tran_at t slot).stage ≡ true → (tran_at t slot).has_room ≡ true → (tran_at (row_noted t slot lrsn c) slot).first ≡ first_with (tran_at t slot).first lrsn
noted_first t slot lrsn c forward room =
    let x : TranState = changed (tran_at t slot) lrsn c in
    let mid : TransState = with_tran t slot x in
    let there : tran_at mid slot ≡ x = put_there t.slots slot x forward in
    let going : is_forward (tran_at mid slot).stage ≡ true = ap (λ (z : TranState). is_forward z.stage) there ∙ (ap (λ (z : Stage). is_forward z) (changed_stage (tran_at t slot) lrsn c) ∙ forward) in
    ap (λ (z : TranState). z.first) (put_there mid.slots slot (with_set (tran_at mid slot) (heap_set c.table)) going) ∙ (ap (λ (z : TranState). z.first) there ∙ room_first (tran_at t slot) lrsn c room)

has_room_then : (s : MarksState) (slot lrsn : ℕ) (c : RowChange) → may_change s slot lrsn c ≡ true → (slot_tran s slot).has_room ≡ true
has_room_then s slot lrsn c e =
    let p = and_parts (not (lrsn == 0)) (is_at_row c && ((slot_tran s slot).has_room && fits_in s.log (row_record (slot_tran s slot) lrsn c))) e in
    let q = and_parts (is_at_row c) ((slot_tran s slot).has_room && fits_in s.log (row_record (slot_tran s slot) lrsn c)) p.1 in
    (and_parts (slot_tran s slot).has_room (fits_in s.log (row_record (slot_tran s slot) lrsn c)) q.1).0

pub changed_name : (s : MarksState) (slot lrsn : ℕ) (c : RowChange) → is_forward (slot_tran s slot).stage ≡ true → may_change s slot lrsn c ≡ true → (slot_tran (after_change s slot lrsn c) slot).first ≡ first_with (slot_tran s slot).first lrsn
changed_name s slot lrsn c forward may =
    ap (λ (b : Bool). (slot_tran (if b then record s { log = after_put s.log (row_record (slot_tran s slot) lrsn c); trans = row_noted s.trans slot lrsn c } else s) slot).first) may
    ∙ noted_first s.trans slot lrsn c forward (has_room_then s slot lrsn c may)

-- ---- a change is taken back, of a transaction that is undoing
own_end : (p : List LogRecord) (r q : LogRecord) (id : ℕ) → q.tran ≡ id → is_end q.body ≡ true → is_closed (r ∷ q ∷ []) id ≡ true
own_end p r q id is closes = by ((r.tran == id) && is_end r.body) ((q.tran == id) && is_end q.body) (both (q.tran == id) (is_end q.body) (eq-eqb q.tran id is) closes)
  where
    both : (a b : Bool) → a ≡ true → b ≡ true → (a && b) ≡ true
    both true b e f = f
    both false b e f = e

    by : (a b : Bool) → b ≡ true → (a || (b || false)) ≡ true
    by true b e = refl
    by false true e = refl
    by false false e = e

front_some : (cs : List Change) → (length cs == 1) ≡ false → is_empty cs ≡ false → is_empty (take (length cs - 1) cs) ≡ false
front_some [] one none = none
front_some (x ∷ []) one none = one
front_some (x ∷ y ∷ cs) one none =
    let e : length (x ∷ y ∷ cs) - 1 ≡ suc (length cs) = omega arith in
    subst (λ (n : ℕ). is_empty (take n (x ∷ y ∷ cs)) ≡ false) (sym e) (some_left x (take (length cs) (y ∷ cs)))

added : LogRecord → LogRecord → Bool → List LogRecord
added r q b = if b then r ∷ q ∷ [] else r ∷ []

-- both records, or the first one alone
back_last : BothTell → (disk pend : List LogRecord) (stable : ℕ) (t : TranState) (lrsn : ℕ) (r q : LogRecord) → (length t.changes == 1) ≡ true → q.tran ≡ t.first → is_end q.body ≡ true → stable < lrsn → is_undoing t.stage ≡ true
    → TranStands disk pend stable t → TranStands disk (pend ++ r ∷ q ∷ []) stable (with_undone t lrsn)
back_last law disk pend stable t lrsn r q one is closes above undoing h =
    cond_both (is_empty t.changes) t (record t { changes = take (length t.changes - 1) t.changes; undone = true; ended = if length t.changes == 1 then lrsn else t.ended }) (λ (z : TranState). TranStands disk (pend ++ r ∷ q ∷ []) stable z)
    (λ e. stands_more law disk pend (r ∷ q ∷ []) stable t h)
    (λ e. record {
      changed = λ f. absurd ((undoing_only t.stage undoing).0 f);
      decided = λ d. absurd ((undoing_only t.stage undoing).1 d);
      undone = λ u n empty. inr (closed_last law pend (r ∷ q ∷ []) t.first (own_end pend r q t.first is closes), subst (λ (b : Bool). stable < (if b then lrsn else t.ended)) (sym one) above);
    })

back_first : BothTell → (disk pend : List LogRecord) (stable : ℕ) (t : TranState) (lrsn : ℕ) (r : LogRecord) → (length t.changes == 1) ≡ false → is_undoing t.stage ≡ true
    → TranStands disk pend stable t → TranStands disk (pend ++ r ∷ []) stable (with_undone t lrsn)
back_first law disk pend stable t lrsn r more undoing h =
    cond_both (is_empty t.changes) t (record t { changes = take (length t.changes - 1) t.changes; undone = true; ended = if length t.changes == 1 then lrsn else t.ended }) (λ (z : TranState). TranStands disk (pend ++ r ∷ []) stable z)
    (λ e. stands_more law disk pend (r ∷ []) stable t h)
    (λ e. record {
      changed = λ f. absurd ((undoing_only t.stage undoing).0 f);
      decided = λ d. absurd ((undoing_only t.stage undoing).1 d);
      undone = λ u n empty. absurd (never (is_empty (take (length t.changes - 1) t.changes)) (front_some t.changes more e) empty);
    })
  where
    never : (b : Bool) → b ≡ false → b ≡ true → ⊥
    never b p q = cc

back_waits : (pend : List LogRecord) (t x : TranState) → is_undoing t.stage ≡ true → Waits pend t → Waits pend x
back_waits pend t x undoing w = absurd ((undoing_only t.stage undoing).2 w.drawn)

noted_back : BothTell → (s : MarksState) (o : Owner) (lrsn set : ℕ) (q : List LogRecord) → is_undoing (tran_of s o).stage ≡ true
    → ((disk pend : List LogRecord) → TranStands disk pend s.log.stable (tran_of s o) → TranStands disk (pend ++ q) s.log.stable (with_undone (tran_of s o) lrsn))
    → (disk pend : List LogRecord) → AllStand disk pend s.log.stable s.trans → AllStand disk (pend ++ q) s.log.stable (back_noted s.trans o (tran_of s o) lrsn set)
noted_back law s o lrsn set q undoing new disk pend h =
    let all = all_more law disk pend q s.log.stable s.trans h in
    let mid : TransState = with_tran_of s.trans o (with_undone (tran_of s o) lrsn) in
    set_sets disk (pend ++ q) s.log.stable mid o set
    (set_owner disk (pend ++ q) s.log.stable s.trans o (with_undone (tran_of s o) lrsn) all (new disk pend (owner_stands disk pend s.log.stable s.trans o h)) (back_waits (pend ++ q) (tran_of s o) (with_undone (tran_of s o) lrsn) undoing))

adds_back : BothTell → (s : MarksState) (o : Owner) (lrsn set : ℕ) (r q : LogRecord) → is_checkpoint r.body ≡ false → is_checkpoint q.body ≡ false → ((x : Spot) → is_change_of x r.body ≡ false) → ((x : Spot) → is_change_of x q.body ≡ false) → q.tran ≡ (tran_of s o).first → is_end q.body ≡ true → s.log.stable < lrsn → is_undoing (tran_of s o).stage ≡ true → Adds s (after_back s o lrsn set r q) (both_if (both_fit s.log r q) (length (tran_of s o).changes == 1) r q)
adds_back law s o lrsn set r q plain ends none last is closes above undoing = adds_both s _ (both_fit s.log r q) (length (tran_of s o).changes == 1) r q (λ e. by (length (tran_of s o).changes == 1) refl)
  where
    by : (b : Bool) → (length (tran_of s o).changes == 1) ≡ b → Adds s (record s { log = if b then after_put (after_put s.log r) q else after_put s.log r; trans = back_noted s.trans o (tran_of s o) lrsn set }) (both_if true b r q)
    by true one = adds_put_both s r q (back_noted s.trans o (tran_of s o) lrsn set) plain ends none last (noted_back law s o lrsn set (r ∷ q ∷ []) undoing (λ disk pend h. back_last law disk pend s.log.stable (tran_of s o) lrsn r q one is closes above undoing h))
    by false more = adds_put s r (back_noted s.trans o (tran_of s o) lrsn set) plain none (noted_back law s o lrsn set (r ∷ []) undoing (λ disk pend h. back_first law disk pend s.log.stable (tran_of s o) lrsn r more undoing h))

adds_undone : BothTell → (s : MarksState) (o : Owner) (lrsn : ℕ) (x : Option Change) → s.log.stable < lrsn → is_undoing (tran_of s o).stage ≡ true → Adds s (undone_as s o lrsn x) (back_records s.log (tran_of s o) lrsn x)
adds_undone law s o lrsn None above undoing = kept_itself s
adds_undone law s o lrsn (Some it) above undoing = adds_may s _ (may_back (tran_of s o) it) (both_fit s.log (back_record (tran_of s o) lrsn it) (ended_record (tran_of s o) lrsn)) (length (tran_of s o).changes == 1) (back_record (tran_of s o) lrsn it) (ended_record (tran_of s o) lrsn)
    (λ e. adds_back law s o lrsn (heap_set it.change.table) (back_record (tran_of s o) lrsn it) (ended_record (tran_of s o) lrsn) refl refl (λ x. refl) (λ x. refl) refl refl above undoing)

pub adds_undo : BothTell → (s : MarksState) (o : Owner) (lrsn : ℕ) → s.log.stable < lrsn → is_undoing (tran_of s o).stage ≡ true → Adds s (after_undo s o lrsn) (back_records s.log (tran_of s o) lrsn (newest_of (tran_of s o)))
adds_undo law s o lrsn above undoing = adds_undone law s o lrsn (newest_of (tran_of s o)) above undoing

-- ---- a commit
abbrev drawn_now : TransState → ℕ → TransState
drawn_now t slot = record t { slots = slice_set t.slots slot (drawn (tran_at t slot)); commits = pushed t.commits slot }

drawn_stands : (disk pend : List LogRecord) (stable : ℕ) (t : TranState) → TranStands disk pend stable (drawn t)
drawn_stands disk pend stable t = record { changed = λ e. absurd cc; decided = λ e. absurd cc; undone = λ e. absurd cc }

committed_first : (first lrsn : ℕ) → first ≢ 0 → first_with first lrsn ≡ first
committed_first first lrsn n = ap (λ (b : Bool). if b then lrsn else first) (ne_eqb first 0 n)

commit_closes : (t : TranState) (lrsn : ℕ) → t.first ≢ 0 → is_closed (commit_record t lrsn ∷ []) t.first ≡ true
commit_closes t lrsn n = ap (λ (b : Bool). (b && true) || false) (eq-eqb (first_with t.first lrsn) t.first (committed_first t.first lrsn n))

commits_pushed : (disk pend : List LogRecord) (stable : ℕ) (t : TransState) (slot : ℕ) → AllStand disk pend stable (with_tran t slot (drawn (tran_at t slot))) → Waits pend (tran_at (with_tran t slot (drawn (tran_at t slot))) slot) → AllStand disk pend stable (drawn_now t slot)
commits_pushed disk pend stable t slot h new = record {
  slots = h.slots;
  rollbacks = h.rollbacks;
  commits = cond_both (nat_lt (length t.commits) 16) (t.commits ++ slot ∷ []) t.commits (λ (z : List ℕ). AllByRecursion (λ (k : ℕ). Waits pend (tran_at (drawn_now t slot) k)) z)
      (λ e. all_push (λ (k : ℕ). Waits pend (tran_at (drawn_now t slot) k)) t.commits slot h.commits new) (λ e. h.commits);
}

draw_stands : BothTell → (s : MarksState) (slot lrsn : ℕ) (disk pend : List LogRecord) → is_forward (tran_at s.trans slot).stage ≡ true → AllStand disk pend s.log.stable s.trans
    → AllStand disk (pend ++ commit_record (slot_tran s slot) lrsn ∷ []) s.log.stable (drawn_now s.trans slot)
draw_stands law s slot lrsn disk pend forward h =
    let t : TranState = tran_at s.trans slot in
    let r : List LogRecord = commit_record (slot_tran s slot) lrsn ∷ [] in
    commits_pushed disk (pend ++ r) s.log.stable s.trans slot
    (set_slot disk (pend ++ r) s.log.stable s.trans slot (drawn t) (all_more law disk pend r s.log.stable s.trans h) (drawn_stands disk (pend ++ r) s.log.stable t) (change_waits (pend ++ r) t (drawn t) forward))
    (subst (λ (z : TranState). Waits (pend ++ r) z) (sym (put_there s.trans.slots slot (drawn t) forward)) (record { drawn = refl; closed = λ n. closed_last law pend r t.first (commit_closes t lrsn n) }))

pub adds_commit : BothTell → (s : MarksState) (slot lrsn : ℕ) → is_forward (slot_tran s slot).stage ≡ true → Adds s (after_commit s slot lrsn) (commit_records s.log (slot_tran s slot) lrsn)
adds_commit law s slot lrsn forward = adds_one s _ (may_commit s slot lrsn) (commit_record (slot_tran s slot) lrsn)
    (λ e. adds_put s (commit_record (slot_tran s slot) lrsn) (after_draw s.trans slot) refl (λ x. refl) (λ disk pend h.
    subst (λ (b : Bool). AllStand disk (pend ++ commit_record (slot_tran s slot) lrsn ∷ []) s.log.stable (if b then drawn_now s.trans slot else s.trans)) (sym forward) (draw_stands law s slot lrsn disk pend forward h)))
