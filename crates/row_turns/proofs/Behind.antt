-- What records say of transactions and rows with one record more.
use Rattle.std.proofs.Common.{◌≡◌, ℕ, ◌+◌, Bool, true, false, cond, List, [], ◌∷◌, ◌++◌, length, Option, Some, None, is_some, refl, sym, ap, subst, ◌∙◌, arith}
use Rattle.std.specs.Prelude.{◌==◌, not, ◌&&◌, ◌||◌, filter}
use Rattle.std.specs.List.{list_any, list_all, AllByRecursion}
use Rattle.std.proofs.lemmas.Bool.Decides.{nat_tests}
use Rattle.ds_model.specs.declared.log.LogRecord.{LogRecord}
use Rattle.ds_model.specs.declared.log.RowChange.{RowChange}
use Rattle.ds_model.specs.declared.log.Body.{Body}
use Rattle.ds_model.specs.declared.log.Body.TheVariants as body
use Rattle.ds_model.specs.Logs.{is_commit, has_commit}
use Rattle.sound_disk.specs.Settled.{is_row_change, takes_back, is_settled, is_open}
use Rattle.sound_disk.specs.Turns.{changes_row}
use Rattle.row_turns.specs.Orders.{is_compensation, has_undone, is_taken_back, TakesBackOne}
use Rattle.row_turns.specs.Scans.{is_of, changes_at, row_left_with, row_left_from, row_left}
use Rattle.row_turns.proofs.Tallies.{and_left, and_right, and_both, or_false, or_left, or_right, clash, by_bool, any_push, count_end, count_both, count_cons, count_same, count_split, count_none, none_all, all_less}

-- ---- numbers

pub same : (m n : ℕ) → (m == n) ≡ true → m ≡ n
same m n h = grind (arith, nat_tests)

pub itself : (n : ℕ) → (n == n) ≡ true
itself n = grind (arith, nat_tests)

pub turned_round : (m n : ℕ) → (m == n) ≡ (n == m)
turned_round m n = grind (arith, nat_tests)

-- ---- commits, compensations

pub commit_more : (rs : List LogRecord) (r : LogRecord) (tran : ℕ) → has_commit (rs ++ r ∷ []) tran ≡ (has_commit rs tran || (is_commit r.body && (r.tran == tran)))
commit_more rs r tran = any_push (λ (s : LogRecord). is_commit s.body && (s.tran == tran)) rs r

pub taken_more : (rs : List LogRecord) (r : LogRecord) (lrsn : ℕ) → is_taken_back (rs ++ r ∷ []) lrsn ≡ (is_taken_back rs lrsn || takes_back lrsn r.body)
taken_more rs r lrsn = any_push (λ (s : LogRecord). takes_back lrsn s.body) rs r

pub undone_more : (rs : List LogRecord) (r : LogRecord) (tran : ℕ) → has_undone (rs ++ r ∷ []) tran ≡ (has_undone rs tran || (is_compensation r.body && (r.tran == tran)))
undone_more rs r tran = any_push (λ (s : LogRecord). is_compensation s.body && (s.tran == tran)) rs r

-- a record that doesn't commit
pub commit_kept : (rs : List LogRecord) (r : LogRecord) (tran : ℕ) → is_commit r.body ≡ false → has_commit (rs ++ r ∷ []) tran ≡ has_commit rs tran
commit_kept rs r tran h = commit_more rs r tran ∙ ap (λ (b : Bool). has_commit rs tran || (b && (r.tran == tran))) h ∙ or_false (has_commit rs tran)

pub taken_kept : (rs : List LogRecord) (r : LogRecord) (lrsn : ℕ) → takes_back lrsn r.body ≡ false → is_taken_back (rs ++ r ∷ []) lrsn ≡ is_taken_back rs lrsn
taken_kept rs r lrsn h = taken_more rs r lrsn ∙ ap (λ (b : Bool). is_taken_back rs lrsn || b) h ∙ or_false (is_taken_back rs lrsn)

pub undone_kept : (rs : List LogRecord) (r : LogRecord) (tran : ℕ) → is_compensation r.body ≡ false → has_undone (rs ++ r ∷ []) tran ≡ has_undone rs tran
undone_kept rs r tran h = undone_more rs r tran ∙ ap (λ (b : Bool). has_undone rs tran || (b && (r.tran == tran))) h ∙ or_false (has_undone rs tran)

-- it neither commits nor takes anything back
pub record IsPlain (b : Body) : Type 0 where
  pub commit : is_commit b ≡ false
  pub takes : (lrsn : ℕ) → takes_back lrsn b ≡ false
  pub comp : is_compensation b ≡ false

pub settled_kept : (rs : List LogRecord) (r s : LogRecord) → IsPlain r.body → is_settled (rs ++ r ∷ []) s ≡ is_settled rs s
settled_kept rs r s h =
    ap (λ (b : Bool). b || is_taken_back (rs ++ r ∷ []) s.lrsn) (commit_kept rs r s.tran h.commit)
    ∙ ap (λ (b : Bool). has_commit rs s.tran || b) (taken_kept rs r s.lrsn (h.takes s.lrsn))

pub open_kept : (rs : List LogRecord) (r s : LogRecord) → IsPlain r.body → is_open (rs ++ r ∷ []) s ≡ is_open rs s
open_kept rs r s h = ap (λ (b : Bool). is_row_change s.body && not b) (settled_kept rs r s h)

either_more : (a b c d : Bool) → (a || c) ≡ true → ((a || b) || (c || d)) ≡ true
either_more true b c d h = refl
either_more false true c d h = refl
either_more false false true d h = refl
either_more false false false d h = absurd (clash false h refl)

pub settled_more : (rs : List LogRecord) (r s : LogRecord) → is_settled rs s ≡ true → is_settled (rs ++ r ∷ []) s ≡ true
settled_more rs r s h =
    ap (λ (b : Bool). b || is_taken_back (rs ++ r ∷ []) s.lrsn) (commit_more rs r s.tran)
    ∙ ap (λ (b : Bool). (has_commit rs s.tran || (is_commit r.body && (r.tran == s.tran))) || b) (taken_more rs r s.lrsn)
    ∙ either_more (has_commit rs s.tran) (is_commit r.body && (r.tran == s.tran)) (is_taken_back rs s.lrsn) (takes_back s.lrsn r.body) h

-- ---- tallies

-- of a test that the record doesn't change
pub count_next : (G : List LogRecord → LogRecord → Bool) (rs : List LogRecord) (r : LogRecord) → ((s : LogRecord) → G (rs ++ r ∷ []) s ≡ G rs s)
    → length (filter (G (rs ++ r ∷ [])) (rs ++ r ∷ [])) ≡ length (filter (G rs) rs) + cond (G (rs ++ r ∷ []) r) 1 0
count_next G rs r h = count_end (G (rs ++ r ∷ [])) rs r ∙ ap (λ (n : ℕ). n + cond (G (rs ++ r ∷ []) r) 1 0) (count_same (G (rs ++ r ∷ [])) (G rs) h rs)

none_with : (f row e : Bool) → (f ≡ true → row ≡ true) → (row && e) ≡ false → (f && e) ≡ false
none_with true row e h k = sym (ap (λ (b : Bool). b && e) (h refl)) ∙ k
none_with false row e h k = refl

passes_with : (f e : Bool) → e ≡ true → (f && e) ≡ f
passes_with true e h = h
passes_with false e h = refl

zero_sum : (a b c d : ℕ) → a ≡ 0 → d ≡ 0 → b ≡ a + (c + d) → b ≡ c
zero_sum a b c d p q h = omega (arith, p, q, h)

-- the row change that is taken back is the only one of its number
one_of_number : (rs : List LogRecord) (tran : ℕ) (c : RowChange) (undone : ℕ) → (t : TakesBackOne rs tran c undone) → (f : LogRecord → Bool) → ((s : LogRecord) → f s ≡ true → is_row_change s.body ≡ true)
    → length (filter (λ (s : LogRecord). f s && (undone == s.lrsn)) rs) ≡ cond (f t.it) 1 0
one_of_number rs tran c undone t f row =
    let g : LogRecord → Bool = λ s. f s && (undone == s.lrsn) in
    let whole : length (filter g rs) ≡ length (filter g t.front) + (cond (g t.it) 1 0 + length (filter g t.rest)) =
    ap (λ (l : List LogRecord). length (filter g l)) t.split ∙ count_both g t.front (t.it ∷ t.rest) ∙ ap (λ (n : ℕ). length (filter g t.front) + n) (count_cons g t.it t.rest) in
    let here : cond (g t.it) 1 0 ≡ cond (f t.it) 1 0 =
    ap (λ (b : Bool). cond b 1 0) (passes_with (f t.it) (undone == t.it.lrsn) (ap (λ (n : ℕ). undone == n) t.number_is ∙ itself undone)) in
    zero_sum (length (filter g t.front)) (length (filter g rs)) (cond (g t.it) 1 0) (length (filter g t.rest))
    (count_none (λ (s : LogRecord). is_row_change s.body && (undone == s.lrsn)) g t.front t.before (λ s h. none_with (f s) (is_row_change s.body) (undone == s.lrsn) (row s) h))
    (count_none (λ (s : LogRecord). is_row_change s.body && (undone == s.lrsn)) g t.rest t.behind (λ s h. none_with (f s) (is_row_change s.body) (undone == s.lrsn) (row s) h))
    whole
    ∙ here

pub one_less : (rs : List LogRecord) (tran : ℕ) (c : RowChange) (undone : ℕ) → (t : TakesBackOne rs tran c undone) → (f : LogRecord → Bool) → ((s : LogRecord) → f s ≡ true → is_row_change s.body ≡ true)
    → length (filter f rs) ≡ cond (f t.it) 1 0 + length (filter (λ (s : LogRecord). f s && not (undone == s.lrsn)) rs)
one_less rs tran c undone t f row =
    count_split f (λ (s : LogRecord). undone == s.lrsn) rs
    ∙ ap (λ (n : ℕ). n + length (filter (λ (s : LogRecord). f s && not (undone == s.lrsn)) rs)) (one_of_number rs tran c undone t f row)

all_joined : (f : LogRecord → Bool) (xs ys : List LogRecord) → list_all f xs ≡ true → list_all f ys ≡ true → list_all f (xs ++ ys) ≡ true
all_joined f [] ys h k = k
all_joined f (x ∷ xs) ys h k = and_both (f x) (list_all f (xs ++ ys)) (and_left (f x) (list_all f xs) h) (all_joined f xs ys (and_right (f x) (list_all f xs) h) k)

-- each row change of that number is the transaction's
abbrev pub is_its : ℕ → ℕ → LogRecord → Bool
is_its undone tran s = not (is_row_change s.body && (undone == s.lrsn)) || (tran == s.tran)

not_passed : (a b : Bool) → a ≡ false → (not a || b) ≡ true
not_passed true b h = absurd (clash true refl h)
not_passed false b h = refl

pub all_its : (rs : List LogRecord) (tran : ℕ) (c : RowChange) (undone : ℕ) → TakesBackOne rs tran c undone → list_all (is_its undone tran) rs ≡ true
all_its rs tran c undone t =
    ap (list_all (is_its undone tran)) t.split
    ∙ all_joined (is_its undone tran) t.front (t.it ∷ t.rest)
    (none_all (λ (s : LogRecord). is_row_change s.body && (undone == s.lrsn)) (is_its undone tran) t.front t.before (λ s h. not_passed (is_row_change s.body && (undone == s.lrsn)) (tran == s.tran) h))
    (and_both (is_its undone tran t.it) (list_all (is_its undone tran) t.rest)
    (or_right (not (is_row_change t.it.body && (undone == t.it.lrsn))) (tran == t.it.tran) (ap (λ (n : ℕ). tran == n) t.tran_is ∙ itself tran))
    (none_all (λ (s : LogRecord). is_row_change s.body && (undone == s.lrsn)) (is_its undone tran) t.rest t.behind (λ s h. not_passed (is_row_change s.body && (undone == s.lrsn)) (tran == s.tran) h)))

-- ---- the record of a row change

pub row_of : (has : ℕ → Bool) (b : Body) → is_of has b ≡ true → is_row_change b ≡ true
row_of has (body.RowChange c) h = refl
row_of has (body.Compensation c undone) h = absurd cc
row_of has (body.System patches) h = absurd cc
row_of has body.Commit h = absurd cc
row_of has body.Ended h = absurd cc
row_of has (body.Checkpoint offset) h = absurd cc
row_of has body.RestartEnd h = absurd cc

pub row_at : (table key : ℕ) (b : Body) → changes_at table key b ≡ true → is_row_change b ≡ true
row_at table key (body.RowChange c) h = refl
row_at table key (body.Compensation c undone) h = absurd cc
row_at table key (body.System patches) h = absurd cc
row_at table key body.Commit h = absurd cc
row_at table key body.Ended h = absurd cc
row_at table key (body.Checkpoint offset) h = absurd cc
row_at table key body.RestartEnd h = absurd cc

pub of_at : (has : ℕ → Bool) (table key : ℕ) (b : Body) → has table ≡ true → changes_at table key b ≡ true → is_of has b ≡ true
of_at has table key (body.RowChange c) h k = ap has (sym (same table c.table (and_left (table == c.table) (key == c.key) k))) ∙ h
of_at has table key (body.Compensation c undone) h k = absurd cc
of_at has table key (body.System patches) h k = absurd cc
of_at has table key body.Commit h k = absurd cc
of_at has table key body.Ended h k = absurd cc
of_at has table key (body.Checkpoint offset) h k = absurd cc
of_at has table key body.RestartEnd h k = absurd cc

pub row_is_at : (c : RowChange) (b : Body) → changes_row c b ≡ changes_at c.table c.key b
row_is_at c (body.RowChange d) = refl
row_is_at c (body.Compensation d undone) = refl
row_is_at c (body.System patches) = refl
row_is_at c body.Commit = refl
row_is_at c body.Ended = refl
row_is_at c (body.Checkpoint offset) = refl
row_is_at c body.RestartEnd = refl

pub of_row : (has : ℕ → Bool) (c : RowChange) (b : Body) → changes_row c b ≡ true → is_of has b ≡ has c.table
of_row has c (body.RowChange d) h = ap has (sym (same c.table d.table (and_left (c.table == d.table) (c.key == d.key) h)))
of_row has c (body.Compensation d undone) h = absurd cc
of_row has c (body.System patches) h = absurd cc
of_row has c body.Commit h = absurd cc
of_row has c body.Ended h = absurd cc
of_row has c (body.Checkpoint offset) h = absurd cc
of_row has c body.RestartEnd h = absurd cc

-- two rows that one record changes are one
two_spots : (table key u j t k : ℕ) → ((u == t) && (j == k)) ≡ true → ((table == t) && (key == k)) ≡ ((table == u) && (key == j))
two_spots table key u j t k h = grind (arith, nat_tests)

pub at_other : (table key : ℕ) (c : RowChange) (b : Body) → changes_row c b ≡ true → changes_at table key b ≡ ((table == c.table) && (key == c.key))
at_other table key c (body.RowChange d) h = two_spots table key c.table c.key d.table d.key h
at_other table key c (body.Compensation d undone) h = absurd cc
at_other table key c (body.System patches) h = absurd cc
at_other table key c body.Commit h = absurd cc
at_other table key c body.Ended h = absurd cc
at_other table key c (body.Checkpoint offset) h = absurd cc
at_other table key c body.RestartEnd h = absurd cc

-- ---- a row that is left

pub left_push : (table key : ℕ) (keeps : ℕ → Bool) (b : Bool) (rs : List LogRecord) (r : LogRecord) → row_left_from table key keeps b (rs ++ r ∷ []) ≡ row_left_with table key keeps (row_left_from table key keeps b rs) r.tran r.body
left_push table key keeps b [] r = refl
left_push table key keeps b (s ∷ rs) r = left_push table key keeps (row_left_with table key keeps b s.tran s.body) rs r

chosen : (k l m : Bool) (x b : Bool) → (m ≡ true → k ≡ l) → cond (k && m) x b ≡ cond (l && m) x b
chosen true true m x b h = refl
chosen false false m x b h = refl
chosen true false true x b h = absurd (let e : true ≡ false = h refl in cc)
chosen true false false x b h = refl
chosen false true true x b h = absurd (let e : false ≡ true = h refl in cc)
chosen false true false x b h = refl

left_same : (table key : ℕ) (k l : ℕ → Bool) (b : Bool) (tran : ℕ) (d : Body) → (changes_at table key d ≡ true → k tran ≡ l tran) → row_left_with table key k b tran d ≡ row_left_with table key l b tran d
left_same table key k l b tran (body.RowChange c) h = chosen (k tran) (l tran) ((table == c.table) && (key == c.key)) (is_some c.after) b h
left_same table key k l b tran (body.Compensation c undone) h = refl
left_same table key k l b tran (body.System patches) h = refl
left_same table key k l b tran body.Commit h = refl
left_same table key k l b tran body.Ended h = refl
left_same table key k l b tran (body.Checkpoint offset) h = refl
left_same table key k l b tran body.RestartEnd h = refl

-- tests that agree on the transactions that change the row
pub left_agree : (g : LogRecord → Bool) (table key : ℕ) (k l : ℕ → Bool) (b : Bool) (rs : List LogRecord) → list_all g rs ≡ true → ((s : LogRecord) → g s ≡ true → changes_at table key s.body ≡ true → k s.tran ≡ l s.tran)
    → row_left_from table key k b rs ≡ row_left_from table key l b rs
left_agree g table key k l b [] a h = refl
left_agree g table key k l b (s ∷ rs) a h =
    ap (λ (x : Bool). row_left_from table key k x rs) (left_same table key k l b s.tran s.body (h s (and_left (g s) (list_all g rs) a)))
    ∙ left_agree g table key k l (row_left_with table key l b s.tran s.body) rs (and_right (g s) (list_all g rs) a) h

-- nothing changes it
passed_by : (k m x b : Bool) → m ≡ false → cond (k && m) x b ≡ b
passed_by true true x b h = absurd (clash true refl h)
passed_by true false x b h = refl
passed_by false m x b h = refl

none_first : (a b : Bool) → (a || b) ≡ false → a ≡ false
none_first true b h = absurd (clash true refl h)
none_first false b h = refl

none_second : (a b : Bool) → (a || b) ≡ false → b ≡ false
none_second true b h = absurd (clash true refl h)
none_second false b h = h

unchanged : (table key : ℕ) (keeps : ℕ → Bool) (b : Bool) (tran : ℕ) (d : Body) → changes_at table key d ≡ false → row_left_with table key keeps b tran d ≡ b
unchanged table key keeps b tran (body.RowChange c) h = passed_by (keeps tran) ((table == c.table) && (key == c.key)) (is_some c.after) b h
unchanged table key keeps b tran (body.Compensation c undone) h = refl
unchanged table key keeps b tran (body.System patches) h = refl
unchanged table key keeps b tran body.Commit h = refl
unchanged table key keeps b tran body.Ended h = refl
unchanged table key keeps b tran (body.Checkpoint offset) h = refl
unchanged table key keeps b tran body.RestartEnd h = refl

pub left_kept : (table key : ℕ) (keeps : ℕ → Bool) (rs : List LogRecord) (r : LogRecord) → changes_at table key r.body ≡ false → row_left table key keeps (rs ++ r ∷ []) ≡ row_left table key keeps rs
left_kept table key keeps rs r h = left_push table key keeps false rs r ∙ unchanged table key keeps (row_left table key keeps rs) r.tran r.body h

pub left_none : (table key : ℕ) (keeps : ℕ → Bool) (b : Bool) (rs : List LogRecord) → list_any (λ (s : LogRecord). changes_at table key s.body) rs ≡ false → row_left_from table key keeps b rs ≡ b
left_none table key keeps b [] h = refl
left_none table key keeps b (s ∷ rs) h =
    ap (λ (x : Bool). row_left_from table key keeps x rs) (unchanged table key keeps b s.tran s.body (none_first (changes_at table key s.body) _ h))
    ∙ left_none table key keeps b rs (none_second (changes_at table key s.body) _ h)
