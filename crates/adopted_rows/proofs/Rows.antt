-- How the rows of one transaction after the other are locked.
use Rattle.std.proofs.Common.{◌≡◌, ℕ, refl, sym, ◌∙◌, ap, subst, Bool, true, false, inl, inr, List, [], ◌∷◌, ◌++◌}
use Rattle.std.specs.Prelude.{◌≢◌, ◌⊎◌, ◌==◌, ◌&&◌, ◌||◌, if◌then◌else◌, map, nat_lt, not, length, reverse}
use Rattle.std.specs.List.{AllByRecursion, flat_map}
use Rattle.std.proofs.lemmas.Bool.{and_parts, eqb-true, or_cases}
use Rattle.std.proofs.lemmas.List.{append-nil, reverse-append}
use Rattle.ds_model.specs.Rows.{Spot}
use Rattle.ds_model.specs.declared.log.Body.{Body}
use Rattle.ds_model.specs.declared.log.Body.TheVariants as body
use Rattle.ds_model.specs.declared.log.LogRecord.{LogRecord}
use Rattle.ds_model.specs.declared.log.RowChange.{RowChange}
use Rattle.log_rows.specs.Rows.{has_changed, has_row, is_change_of, is_closed, touches}
use Rattle.log_opens.specs.Opens.{has_opened}
use Rattle.log_trans.specs.declared.opened.OpenTran.{OpenTran}
use Rattle.member_trans.specs.declared.fate.Change.{Change}
use Rattle.member_trans.specs.Trans.{TranState, is_empty, is_free, is_new, left_open}
use Rattle.member_marks.specs.Claims.{is_agent}
use Rattle.member_marks.specs.Rollbacks.{after_adopt, may_adopt, row_changed, row_of, spots_of, with_rollback, with_room_of}
use Rattle.member_marks.specs.State.{MarksState, slot_tran}
use Rattle.member_resources.specs.Held.{Held}
use Rattle.lock_manager.specs.Managers.{is_postponed}
use Rattle.lock_world.specs.Books.{IsBook}
use Rattle.marks_law.specs.Slots.{SlotsAdopt, SlotsStand}
use Rattle.row_claims.specs.Given.{HasLocked, IsTaken}
use Rattle.row_claims.specs.Given.{AllStand, Closes, TranStands}
use Rattle.row_claims.specs.Rows.{RowsLocked}
use Rattle.group_member.specs.Adopting.{Adopts, AdoptsAll, change_in, changes_in, changes_left, row_in, rows_in, rows_left}
use Rattle.group_member.specs.Adopting.{row_of as row_in_body}
use Rattle.adopted_locks.specs.Locks.{AdoptedLocked, AdoptionsLock}
use Rattle.adopted_rows.specs.Rows.{RowsBut, RowsTakenOver}

-- ---- what holds of each of the rows that are taken over holds of each that the transaction has changed
never : false ≡ true → ⊥
never e = cc

all_front : {X : Type 0} (P : X → Type 0) (xs ys : List X) → AllByRecursion P (xs ++ ys) → AllByRecursion P xs
all_front P [] ys h = tt
all_front P (x ∷ xs) ys h = (h.0, all_front P xs ys h.1)

all_rest : {X : Type 0} (P : X → Type 0) (xs ys : List X) → AllByRecursion P (xs ++ ys) → AllByRecursion P ys
all_rest P [] ys h = h
all_rest P (x ∷ xs) ys h = all_rest P xs ys h.1

all_both : {X : Type 0} (P : X → Type 0) (xs ys : List X) → AllByRecursion P xs → AllByRecursion P ys → AllByRecursion P (xs ++ ys)
all_both P [] ys h k = k
all_both P (x ∷ xs) ys h k = (h.0, all_both P xs ys h.1 k)

all_forth : {X : Type 0} (P : X → Type 0) (xs : List X) → AllByRecursion P (reverse xs) → AllByRecursion P xs
all_forth P [] h = tt
all_forth {X} P (x ∷ xs) h =
    let both : AllByRecursion P (reverse xs ++ x ∷ []) = subst (λ (z : List X). AllByRecursion P z) (reverse-append (x ∷ []) xs) h in
    ((all_rest P (reverse xs) (x ∷ []) both).0, all_forth P xs (all_front P (reverse xs) (x ∷ []) both))

module _ (P : Spot → Type 0) where
  same_row : (c : RowChange) (s : Spot) → ((c.table == s.0) && (c.key == s.1)) ≡ true → P (c.table, c.key) → P s
  same_row c s e p =
      let both = and_parts (c.table == s.0) (c.key == s.1) e in
      subst P (ap (λ (z : ℕ). (z, c.key)) (eqb-true c.table s.0 both.0) ∙ ap (λ (z : ℕ). (s.0, z)) (eqb-true c.key s.1 both.1)) p

  changes_have : (rs : List LogRecord) → AllByRecursion P (map row_of (flat_map change_in rs)) → (s : Spot) → has_row rs s ≡ true → P s
  changes_have [] h s e = absurd (never e)
  changes_have (r ∷ rs) h s e = by r.body (changes_have rs) h (or_cases (is_change_of s r.body) (has_row rs s) e)
    where
      by : (b : Body) → (AllByRecursion P (map row_of (flat_map change_in rs)) → (s : Spot) → has_row rs s ≡ true → P s) → AllByRecursion P (map row_of (changes_in r (row_in_body b) ++ flat_map change_in rs))
          → (is_change_of s b ≡ true) ⊎ (has_row rs s ≡ true) → P s
      by (body.RowChange c) go_on all (inl e) = same_row c s e all.0
      by (body.RowChange c) go_on all (inr e) = go_on all.1 s e
      by (body.Compensation c undone) go_on all (inl e) = absurd (never e)
      by (body.Compensation c undone) go_on all (inr e) = go_on all s e
      by (body.System patches) go_on all (inl e) = absurd (never e)
      by (body.System patches) go_on all (inr e) = go_on all s e
      by body.Commit go_on all (inl e) = absurd (never e)
      by body.Commit go_on all (inr e) = go_on all s e
      by body.Ended go_on all (inl e) = absurd (never e)
      by body.Ended go_on all (inr e) = go_on all s e
      by (body.Checkpoint offset) go_on all (inl e) = absurd (never e)
      by (body.Checkpoint offset) go_on all (inr e) = go_on all s e
      by body.RestartEnd go_on all (inl e) = absurd (never e)
      by body.RestartEnd go_on all (inr e) = go_on all s e

  undone_have : (rs : List LogRecord) → AllByRecursion P (map row_changed (flat_map row_in rs)) → (s : Spot) → has_row rs s ≡ true → P s
  undone_have [] h s e = absurd (never e)
  undone_have (r ∷ rs) h s e = by r.body (undone_have rs) h (or_cases (is_change_of s r.body) (has_row rs s) e)
    where
      by : (b : Body) → (AllByRecursion P (map row_changed (flat_map row_in rs)) → (s : Spot) → has_row rs s ≡ true → P s) → AllByRecursion P (map row_changed (rows_in (row_in_body b) ++ flat_map row_in rs))
          → (is_change_of s b ≡ true) ⊎ (has_row rs s ≡ true) → P s
      by (body.RowChange c) go_on all (inl e) = same_row c s e all.0
      by (body.RowChange c) go_on all (inr e) = go_on all.1 s e
      by (body.Compensation c undone) go_on all (inl e) = absurd (never e)
      by (body.Compensation c undone) go_on all (inr e) = go_on all s e
      by (body.System patches) go_on all (inl e) = absurd (never e)
      by (body.System patches) go_on all (inr e) = go_on all s e
      by body.Commit go_on all (inl e) = absurd (never e)
      by body.Commit go_on all (inr e) = go_on all s e
      by body.Ended go_on all (inl e) = absurd (never e)
      by body.Ended go_on all (inr e) = go_on all s e
      by (body.Checkpoint offset) go_on all (inl e) = absurd (never e)
      by (body.Checkpoint offset) go_on all (inr e) = go_on all s e
      by body.RestartEnd go_on all (inl e) = absurd (never e)
      by body.RestartEnd go_on all (inr e) = go_on all s e

  all_touched : (t : OpenTran) → AllByRecursion P (spots_of (changes_left t) (rows_left t)) → (s : Spot) → touches t s ≡ true → P s
  all_touched t h s e = by (or_cases (has_row t.undo s) (has_row t.undone s) e)
    where
      by : (has_row t.undo s ≡ true) ⊎ (has_row t.undone s ≡ true) → P s
      by (inl e) = changes_have t.undo (all_forth P (map row_of (changes_left t)) (all_front P (reverse (map row_of (changes_left t))) (map row_changed (rows_left t)) h)) s e
      by (inr e) = undone_have t.undone (all_rest P (reverse (map row_of (changes_left t))) (map row_changed (rows_left t)) h) s e

-- ---- a rollback that is adopted closes nothing
not_true : (b : Bool) → not b ≡ true → b ≡ false
not_true true e = absurd cc
not_true false e = refl

changes_stand : (s : MarksState) (id : ℕ) (changes : List Change) → may_adopt s id changes ≡ true → is_empty changes ≡ false
changes_stand s id changes may =
    let p = and_parts (is_agent s 1) (is_free (slot_tran s 1).stage && (not (is_postponed s.locks id) && (not (is_empty changes) && is_new s.trans id))) may in
    let q = and_parts (is_free (slot_tran s 1).stage) (not (is_postponed s.locks id) && (not (is_empty changes) && is_new s.trans id)) p.1 in
    let r = and_parts (not (is_postponed s.locks id)) (not (is_empty changes) && is_new s.trans id) q.1 in
    not_true (is_empty changes) (and_parts (not (is_empty changes)) (is_new s.trans id) r.1).0

both_ways : (b : Bool) → b ≡ false → b ≡ true → ⊥
both_ways b p q = cc

left_stands : (disk : List LogRecord) (stable id : ℕ) (changes : List Change) (undone : Bool) → is_empty changes ≡ false → TranStands disk [] stable (left_open id changes undone)
left_stands disk stable id changes undone some = record { changed = λ e. absurd cc; decided = λ e. absurd cc; undone = λ u n empty. absurd (both_ways (is_empty changes) some empty) }

adopted_closes : (disk : List LogRecord) (s : MarksState) (id by : ℕ) (changes : List Change) (undone : List RowChange) → may_adopt s id changes ≡ true → Closes disk [] s → Closes disk [] (after_adopt s id by changes undone)
adopted_closes disk s id by changes undone may c = subst (λ (b : Bool). Closes disk [] (if b then with_rollback s id by changes undone else s)) (sym may) (record {
  spelled = c.spelled;
  all = record {
    slots = c.all.slots;
    rollbacks = all_both (TranStands disk [] s.log.stable) s.trans.rollbacks (left_open id changes (nat_lt 0 (length undone)) ∷ []) c.all.rollbacks (left_stands disk s.log.stable id changes (nat_lt 0 (length undone)) (changes_stand s id changes may), tt);
    commits = c.all.commits;
  };
})

-- ---- with the room that another has
roomy : (t u : MarksState) (id : ℕ) (spot : Spot) → HasLocked t id spot → HasLocked (with_room_of t u) id spot
roomy t u id spot l = record { by = l.by; taken = l.taken; named = l.named; space = l.space; row = l.row }

roomy_closes : (disk : List LogRecord) (t u : MarksState) → Closes disk [] t → Closes disk [] (with_room_of t u)
roomy_closes disk t u c = record { spelled = c.spelled; all = record { slots = c.all.slots; rollbacks = c.all.rollbacks; commits = c.all.commits } }

roomy_book : (t u : MarksState) → IsBook t.locks → IsBook (with_room_of t u).locks
roomy_book t u b = record { owners = b.owners; few = b.few; once = b.once; apart = b.apart }

roomy_slots : (t u : MarksState) → SlotsStand t → SlotsStand (with_room_of t u)
roomy_slots t u s = record { count = s.count; own = s.own; commits = s.commits }

-- ---- one transaction
module _ (lock : AdoptionsLock) (adopt : SlotsAdopt) where
  abbrev Match : OpenTran → ℕ → Spot → Type 0
  Match t id spot = ((t.id == id) && touches t spot) ≡ true

  one_over : (disk : List LogRecord) (h k : Held) (by : ℕ) (t : OpenTran) (Q : ℕ → Spot → Type 0) → Adopts h by t k → RowsBut disk h.marks (λ id spot. Match t id spot ⊎ Q id spot) → RowsBut disk k.marks Q
  one_over disk h k by t Q a but = subst (λ (z : MarksState). RowsBut disk z Q) (sym (ap (λ (z : Held). z.marks) a.holds)) (record {
    closes = roomy_closes disk after k.marks (adopted_closes disk h.marks t.id by (changes_left t) (rows_left t) a.may but.closes);
    book = roomy_book after k.marks locked.book;
    slots = roomy_slots after k.marks (adopt h.marks t.id by (changes_left t) (rows_left t) but.slots);
    lends = locked.lends;
    rows = λ id spot some changed. rows id spot (but.rows id spot some changed);
  })
    where
      after : MarksState
      after = after_adopt h.marks t.id by (changes_left t) (rows_left t)

      locked : AdoptedLocked h.marks (after_adopt h.marks t.id by (changes_left t) (rows_left t)) t.id (spots_of (changes_left t) (rows_left t))
      locked = lock h.marks t.id by (changes_left t) (rows_left t) but.book a.may but.lends

      own : (id : ℕ) (spot : Spot) → Match t id spot → HasLocked (with_room_of (after_adopt h.marks t.id by (changes_left t) (rows_left t)) k.marks) id spot
      own id spot e =
          let p = and_parts (t.id == id) (touches t spot) e in
          subst (λ (z : ℕ). HasLocked (with_room_of (after_adopt h.marks t.id by (changes_left t) (rows_left t)) k.marks) z spot) (eqb-true t.id id p.0)
          (roomy (after_adopt h.marks t.id by (changes_left t) (rows_left t)) k.marks t.id spot (all_touched (HasLocked (after_adopt h.marks t.id by (changes_left t) (rows_left t)) t.id) t locked.rows spot p.1))

      rows : (id : ℕ) (spot : Spot) → ((is_closed disk id ≡ true) ⊎ HasLocked h.marks id spot) ⊎ (Match t id spot ⊎ Q id spot)
          → ((is_closed disk id ≡ true) ⊎ HasLocked (with_room_of (after_adopt h.marks t.id by (changes_left t) (rows_left t)) k.marks) id spot) ⊎ Q id spot
      rows id spot (inl (inl closed)) = inl (inl closed)
      rows id spot (inl (inr l)) = inl (inr (roomy (after_adopt h.marks t.id by (changes_left t) (rows_left t)) k.marks id spot (locked.others id spot l)))
      rows id spot (inr (inl e)) = inl (inr (own id spot e))
      rows id spot (inr (inr q)) = inr q

  -- ---- all of them
  rows_as : (disk : List LogRecord) (s : MarksState) (P Q : ℕ → Spot → Type 0) → ((id : ℕ) (spot : Spot) → P id spot → Q id spot) → RowsBut disk s P → RowsBut disk s Q
  rows_as disk s P Q f but = record { closes = but.closes; book = but.book; slots = but.slots; lends = but.lends; rows = λ id spot some changed. by id spot (but.rows id spot some changed) }
    where
      by : (id : ℕ) (spot : Spot) → ((is_closed disk id ≡ true) ⊎ HasLocked s id spot) ⊎ P id spot → ((is_closed disk id ≡ true) ⊎ HasLocked s id spot) ⊎ Q id spot
      by id spot (inl x) = inl x
      by id spot (inr p) = inr (f id spot p)

  none_left : (Q : ℕ → Spot → Type 0) (id : ℕ) (spot : Spot) → (false ≡ true) ⊎ Q id spot → Q id spot
  none_left Q id spot (inl e) = absurd (never e)
  none_left Q id spot (inr q) = q

  split_first : (t : OpenTran) (ts : List OpenTran) (Q : ℕ → Spot → Type 0) (id : ℕ) (spot : Spot) → (has_opened (t ∷ ts) id spot ≡ true) ⊎ Q id spot → (has_opened ts id spot ≡ true) ⊎ (Match t id spot ⊎ Q id spot)
  split_first t ts Q id spot (inr q) = inr (inr q)
  split_first t ts Q id spot (inl e) = by (or_cases ((t.id == id) && touches t spot) (has_opened ts id spot) e)
    where
      by : (((t.id == id) && touches t spot) ≡ true) ⊎ (has_opened ts id spot ≡ true) → (has_opened ts id spot ≡ true) ⊎ (Match t id spot ⊎ Q id spot)
      by (inl m) = inr (inl m)
      by (inr rest) = inl rest

  all_over : (disk : List LogRecord) (h k : Held) (by : ℕ) (ts : List OpenTran) (Q : ℕ → Spot → Type 0) → AdoptsAll h by ts k → RowsBut disk h.marks (λ id spot. (has_opened ts id spot ≡ true) ⊎ Q id spot) → RowsBut disk k.marks Q
  all_over disk h k by [] Q e but = subst (λ (z : Held). RowsBut disk z.marks Q) (sym e) (rows_as disk h.marks (λ id spot. (false ≡ true) ⊎ Q id spot) Q (none_left Q) but)
  all_over disk h k by (t ∷ ts) Q (mid, rest, last) but =
      one_over disk mid k by t Q last
      (all_over disk h mid by ts (λ id spot. Match t id spot ⊎ Q id spot) rest
      (rows_as disk h.marks (λ id spot. (has_opened (t ∷ ts) id spot ≡ true) ⊎ Q id spot) (λ id spot. (has_opened ts id spot ≡ true) ⊎ (Match t id spot ⊎ Q id spot)) (split_first t ts Q) but))

  nothing_else : (disk : List LogRecord) (s : MarksState) → RowsBut disk s (λ id spot. ⊥) → RowsLocked disk [] s
  nothing_else disk s but = record { closes = but.closes; book = but.book; slots = but.slots; rows = λ id spot some changed. by id spot (but.rows id spot some (sym (ap (λ (z : List LogRecord). has_changed z id spot) (append-nil disk)) ∙ changed)) }
    where
      by : (id : ℕ) (spot : Spot) → ((is_closed disk id ≡ true) ⊎ HasLocked s id spot) ⊎ ⊥ → (is_closed disk id ≡ true) ⊎ HasLocked s id spot
      by id spot (inl x) = x
      by id spot (inr x) = absurd x

  pub rows_taken_over : RowsTakenOver
  rows_taken_over disk h k by ts all but =
      nothing_else disk k.marks
      (all_over disk h k by ts (λ id spot. ⊥) all (rows_as disk h.marks (λ id spot. has_opened ts id spot ≡ true) (λ id spot. (has_opened ts id spot ≡ true) ⊎ ⊥) (λ id spot e. inl e) but))
