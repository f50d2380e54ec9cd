-- What the records of a transaction come to, as far as the next one must fit it.
use Rattle.std.proofs.Common.{◌≡◌, ℕ, ◌-◌, ◌<◌, Bool, true, false, cond, List, [], ◌∷◌, ◌++◌, length, take, drop, Option, Some, None, refl, sym, ap, subst, ◌∙◌, arith, length-append, length-drop}
use Rattle.std.specs.Prelude.{◌==◌, not, ◌||◌, ◌&&◌, slice_get}
use Rattle.std.proofs.lemmas.Bool.Decides.{nat_tests}
use Rattle.std.proofs.lemmas.Slice.Eq.{bytes_eq-Decides}
use Rattle.ds_model.specs.declared.log.LogRecord.{LogRecord}
use Rattle.ds_model.specs.declared.log.RowChange.{RowChange}
use Rattle.ds_model.specs.declared.log.Body.{Body}
use Rattle.ds_model.specs.declared.log.Body.TheVariants as body
use Rattle.log_record.specs.Changes.{inverse}
use Rattle.log_trans.specs.declared.course.Course.{Course}
use Rattle.log_trans.specs.Courses as courses
use Rattle.log_trans.specs.Courses.{is_next, undone_one, row_record}
use Rattle.log_trans.specs.Damage.{tran_at, undone_at, unless, nothing_undone, body_fault}
use Rattle.sound_disk.specs.Transactions.{InvertsBody, Inverts, TakesBack}
use Rattle.fitting_records.specs.declared.standing.Standing.{Standing}
use Rattle.fitting_records.specs.Standings.{same_row, inverts, inverts_body, takes_back, takes_last, may_take, after_body, undo_left, standing}

-- ---- tests

pub and_left : (a b : Bool) → (a && b) ≡ true → a ≡ true
and_left true b h = refl
and_left false b h = h

pub and_right : (a b : Bool) → (a && b) ≡ true → b ≡ true
and_right true b h = h
and_right false b h = absurd cc

pub and_both : (a b : Bool) → a ≡ true → b ≡ true → (a && b) ≡ true
and_both true b h k = k
and_both false b h k = h

not_true : (b : Bool) → not b ≡ true → b ≡ false
not_true true h = absurd cc
not_true false h = refl

not_false : (b : Bool) → b ≡ false → not b ≡ true
not_false true h = absurd cc
not_false false h = refl

equal : (m n : ℕ) → (m == n) ≡ true → m ≡ n
equal m n e = grind (arith, nat_tests)

itself : (n : ℕ) → (n == n) ≡ true
itself n = grind (arith, nat_tests)

-- ---- inverses

row_same : (a b : Option (List ℕ)) → same_row a b ≡ true → a ≡ b
row_same None None h = refl
row_same None (Some b) h = absurd cc
row_same (Some a) None h = absurd cc
row_same (Some a) (Some b) h = ap (λ (v : List ℕ). Some v) ((bytes_eq-Decides a b).0 h)

row_itself : (a : Option (List ℕ)) → same_row a a ≡ true
row_itself None = refl
row_itself (Some a) = (bytes_eq-Decides a a).1 refl

abbrev change_of : ℕ → ℕ → ℕ → ℕ → Option (List ℕ) → Option (List ℕ) → RowChange
change_of table key page slot before after = record { table = table; key = key; place = record { page = page; slot = slot }; before = before; after = after }

change_same : (t u k l p q s z : ℕ) (b c a d : Option (List ℕ)) → t ≡ u → k ≡ l → p ≡ q → s ≡ z → b ≡ c → a ≡ d → change_of t k p s b a ≡ change_of u l q z c d
change_same t u k l p q s z b c a d h1 h2 h3 h4 h5 h6 = cc

inverts_is : (a b : RowChange) → inverts a b ≡ true → a ≡ inverse b
inverts_is a b h =
    let h5 = and_left _ (same_row a.after b.before) h in
    let h4 = and_left _ (same_row a.before b.after) h5 in
    let h3 = and_left _ (a.place.slot == b.place.slot) h4 in
    let h2 = and_left _ (a.place.page == b.place.page) h3 in
    change_same a.table b.table a.key b.key a.place.page b.place.page a.place.slot b.place.slot a.before b.after a.after b.before
    (equal a.table b.table (and_left (a.table == b.table) (a.key == b.key) h2)) (equal a.key b.key (and_right (a.table == b.table) (a.key == b.key) h2))
    (equal a.place.page b.place.page (and_right _ (a.place.page == b.place.page) h3)) (equal a.place.slot b.place.slot (and_right _ (a.place.slot == b.place.slot) h4))
    (row_same a.before b.after (and_right _ (same_row a.before b.after) h5)) (row_same a.after b.before (and_right _ (same_row a.after b.before) h))

inverse_inverts : (b : RowChange) → inverts (inverse b) b ≡ true
inverse_inverts b =
    and_both _ (same_row b.before b.before) (and_both _ (same_row b.after b.after)
    (and_both _ (b.place.slot == b.place.slot) (and_both _ (b.place.page == b.place.page) (and_both (b.table == b.table) (b.key == b.key) (itself b.table) (itself b.key)) (itself b.place.page))
    (itself b.place.slot)) (row_itself b.after)) (row_itself b.before)

body_inverts : (change : RowChange) (b : Body) → inverts_body change b ≡ true → InvertsBody change b
body_inverts change (body.RowChange c) h = inverts_is change c h
body_inverts change (body.Compensation c undone) h = absurd cc
body_inverts change (body.System patches) h = absurd cc
body_inverts change body.Commit h = absurd cc
body_inverts change body.Ended h = absurd cc
body_inverts change (body.Checkpoint offset) h = absurd cc
body_inverts change body.RestartEnd h = absurd cc

inverted_body : (change : RowChange) (b : Body) → InvertsBody change b → inverts_body change b ≡ true
inverted_body change (body.RowChange c) h = ap (λ (x : RowChange). inverts x c) h ∙ inverse_inverts c
inverted_body change (body.Compensation c undone) h = absurd h
inverted_body change (body.System patches) h = absurd h
inverted_body change body.Commit h = absurd h
inverted_body change body.Ended h = absurd h
inverted_body change (body.Checkpoint offset) h = absurd h
inverted_body change body.RestartEnd h = absurd h

back_inverts : (change : RowChange) (o : Option LogRecord) → takes_back change o ≡ true → Inverts change o
back_inverts change None h = absurd cc
back_inverts change (Some r) h = body_inverts change r.body h

inverted_back : (change : RowChange) (o : Option LogRecord) → Inverts change o → takes_back change o ≡ true
inverted_back change None h = absurd h
inverted_back change (Some r) h = inverted_body change r.body h

-- ---- the next record

all_left : (b : Bool) (undo : List LogRecord) → b ≡ false → undo_left b undo ≡ undo
all_left true undo h = absurd cc
all_left false undo h = refl

ends_alike : (b f : Bool) (undo : List LogRecord) → (b || ((length (undo_left b undo) == 0) && f)) ≡ (b || ((length undo == 0) && f))
ends_alike true f undo = refl
ends_alike false f undo = refl

-- of a transaction that a compensation may follow all that isn't undone is left
is_open : (c : Course) (change : RowChange) (undone : ℕ) → may_take (standing c) (body.Compensation change undone) ≡ true → c.is_committed ≡ false
is_open c change undone h =
    let u : List LogRecord = undo_left c.is_committed c.undo in
    not_true c.is_committed (and_left (not c.is_committed) (is_next undone u) (and_left (not c.is_committed && is_next undone u) (takes_last change u) h))

unless_none : (b : Bool) (at : ℕ) → unless b at ≡ None → b ≡ true
unless_none true at h = refl
unless_none false at h = absurd cc

unless_true : (b : Bool) (at : ℕ) → b ≡ true → unless b at ≡ None
unless_true true at h = refl
unless_true false at h = absurd cc

-- a compensation has no fault where the transaction isn't committed, and the number is that of the last change
free : (z n : Bool) (a b : ℕ) → z ≡ false → n ≡ true → cond z (Some a) (unless n b) ≡ None
free true n a b h k = absurd cc
free false n a b h k = unless_true n b k

freed : (z n : Bool) (a b : ℕ) → cond z (Some a) (unless n b) ≡ None → (z ≡ false) × (n ≡ true)
freed true n a b h = absurd cc
freed false n a b h = (refl, unless_none n b h)

pub record MayTake (c : Course) (r : LogRecord) (b : Body) : Type 0 where
  pub fits : body_fault c r b ≡ None
  pub takes_back : TakesBack c b

pub may_take_is : (c : Course) (r : LogRecord) (b : Body) → may_take (standing c) b ≡ true → MayTake c r b
may_take_is c r (body.RowChange change) h = record { fits = unless_true (nothing_undone c) (tran_at r) h; takes_back = tt }
may_take_is c r (body.Compensation change undone) h =
    let u : List LogRecord = undo_left c.is_committed c.undo in
    let open_is : c.is_committed ≡ false = is_open c change undone h in
    let same : u ≡ c.undo = all_left c.is_committed c.undo open_is in
    let both = and_left (not c.is_committed && is_next undone u) (takes_last change u) h in
    record {
      fits = free c.is_committed (is_next undone c.undo) (tran_at r) (undone_at r) open_is
          (subst (λ (l : List LogRecord). is_next undone l ≡ true) same (and_right (not c.is_committed) (is_next undone u) both));
      takes_back = back_inverts change (slice_get c.undo (length c.undo - 1))
          (subst (λ (l : List LogRecord). takes_last change l ≡ true) same (and_right (not c.is_committed && is_next undone u) (takes_last change u) h));
    }
may_take_is c r (body.System patches) h = record { fits = refl; takes_back = tt }
may_take_is c r body.Commit h = record { fits = unless_true (not c.is_committed && nothing_undone c) (tran_at r) h; takes_back = tt }
may_take_is c r body.Ended h = record {
  fits = unless_true (c.is_committed || ((length c.undo == 0) && not (nothing_undone c))) (tran_at r) (sym (ends_alike c.is_committed (not (nothing_undone c)) c.undo) ∙ h);
  takes_back = tt;
}
may_take_is c r (body.Checkpoint offset) h = record { fits = refl; takes_back = tt }
may_take_is c r body.RestartEnd h = record { fits = refl; takes_back = tt }

pub is_taken : (c : Course) (r : LogRecord) (b : Body) → MayTake c r b → may_take (standing c) b ≡ true
is_taken c r (body.RowChange change) h = unless_none (nothing_undone c) (tran_at r) h.fits
is_taken c r (body.Compensation change undone) h =
    let u : List LogRecord = undo_left c.is_committed c.undo in
    let both = freed c.is_committed (is_next undone c.undo) (tran_at r) (undone_at r) h.fits in
    let same : c.undo ≡ u = sym (all_left c.is_committed c.undo both.0) in
    and_both (not c.is_committed && is_next undone u) (takes_last change u)
    (and_both (not c.is_committed) (is_next undone u) (not_false c.is_committed both.0) (subst (λ (l : List LogRecord). is_next undone l ≡ true) same both.1))
    (subst (λ (l : List LogRecord). takes_last change l ≡ true) same (inverted_back change (slice_get c.undo (length c.undo - 1)) h.takes_back))
is_taken c r (body.System patches) h = refl
is_taken c r body.Commit h = unless_none (not c.is_committed && nothing_undone c) (tran_at r) h.fits
is_taken c r body.Ended h = ends_alike c.is_committed (not (nothing_undone c)) c.undo ∙ unless_none (c.is_committed || ((length c.undo == 0) && not (nothing_undone c))) (tran_at r) h.fits
is_taken c r (body.Checkpoint offset) h = refl
is_taken c r body.RestartEnd h = refl

-- ---- behind it

some_next : (undone : ℕ) (undo : List LogRecord) → is_next undone undo ≡ true → 0 < length undo
some_next undone [] h = absurd cc
some_next undone (r ∷ rs) h = omega arith

not_zero : (n : ℕ) → 0 < n → (n == 0) ≡ false
not_zero n h = grind (arith, nat_tests)

some_undone : (undo undone : List LogRecord) → 0 < length undo → (length (undone ++ drop (length undo - 1) undo) == 0) ≡ false
some_undone undo undone h =
    not_zero (length (undone ++ drop (length undo - 1) undo))
    (omega (arith, length-append undone (drop (length undo - 1) undo), length-drop (length undo - 1) undo))

change_if : (b : Bool) (undo : List LogRecord) (r : LogRecord) → cond b (undo_left b undo) (undo_left b undo ++ r ∷ []) ≡ undo_left b (undo ++ r ∷ [])
change_if true undo r = refl
change_if false undo r = refl

abbrev standing_with : List LogRecord → Bool → Bool → Standing
standing_with undo forward committed = record { undo = undo; is_forward = forward; is_committed = committed }

same_standing : (us vs : List LogRecord) (f g : Bool) (b : Bool) → us ≡ vs → f ≡ g → standing_with us f b ≡ standing_with vs g b
same_standing us vs f g b e k = ap (λ (l : List LogRecord). standing_with l f b) e ∙ ap (λ (h : Bool). standing_with vs h b) k

abbrev one_less : List LogRecord → Bool → Standing
one_less undo committed = standing_with (take (length undo - 1) undo) false committed

back_if : (b : Bool) (c : Course) (undone : ℕ) → c.is_committed ≡ false → is_next undone c.undo ≡ b → cond b (one_less c.undo c.is_committed) (standing c) ≡ standing (cond b (undone_one c) c)
back_if true c undone open_is h =
    same_standing (undone_one c).undo (undo_left c.is_committed (undone_one c).undo) false (nothing_undone (undone_one c)) c.is_committed (sym (all_left c.is_committed (undone_one c).undo open_is))
    (sym (some_undone c.undo c.undone (some_next undone c.undo h)))
back_if false c undone open_is h = refl

abbrev back : List LogRecord → Course → ℕ → Standing
back undo c undone = cond (is_next undone undo) (one_less undo c.is_committed) (standing c)

-- a record that may follow leaves what the course leaves
pub stands_after : (c : Course) (r : LogRecord) (b : Body) → may_take (standing c) b ≡ true → after_body (standing c) r b ≡ standing (courses.after_body c r b)
stands_after c r (body.RowChange change) h =
    same_standing (cond c.is_committed (undo_left c.is_committed c.undo) (undo_left c.is_committed c.undo ++ row_record r change ∷ [])) (undo_left c.is_committed (c.undo ++ row_record r change ∷ [])) (nothing_undone c) (nothing_undone c)
    c.is_committed (change_if c.is_committed c.undo (row_record r change)) refl
stands_after c r (body.Compensation change undone) h =
    let open_is : c.is_committed ≡ false = is_open c change undone h in
    ap (λ (l : List LogRecord). back l c undone) (all_left c.is_committed c.undo open_is) ∙ back_if (is_next undone c.undo) c undone open_is refl
stands_after c r (body.System patches) h = refl
stands_after c r body.Commit h = refl
stands_after c r body.Ended h = refl
stands_after c r (body.Checkpoint offset) h = refl
stands_after c r body.RestartEnd h = refl
