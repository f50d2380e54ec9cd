-- The logs of a disk on which a group restart was done close all transactions, wherever they may be read from.
use Rattle.std.proofs.Common.{◌≡◌, ◌≢◌, ℕ, zero, suc, ◌+◌, ◌-◌, ◌<◌, Bool, true, false, cond, List, [], ◌∷◌, ◌++◌, length, drop, get_or, None, inl, inr, refl, sym, ap, subst, ◌∙◌, arith, append_assoc}
use Rattle.std.specs.Prelude.{◌⊎◌, ◌==◌, ◌&&◌, ◌||◌, not}
use Rattle.std.specs.List.{AllByRecursion}
use Rattle.std.proofs.lemmas.Bool.{cond_both, cases_Bool, both_ways, and_parts, or_cases, or_left, or_right, or_from, or_parts, eqb-true, eq-eqb, ne_eqb}
use Rattle.std.proofs.lemmas.Grind.{flat_map-append}
use Rattle.std.proofs.lemmas.List.{append-nil}
use Rattle.std.proofs.lemmas.List.Folds.{list_any-append}
use Rattle.ds_disk.specs.Contents.{Contents, log_of}
use Rattle.ds_model.specs.Logs.{IsLog, is_commit, has_commit}
use Rattle.ds_model.specs.RecordBytes.{IsAllowed, record_bytes, log_bytes}
use Rattle.ds_model.specs.Rows.{Spot}
use Rattle.ds_model.specs.declared.log.LogRecord.{LogRecord}
use Rattle.ds_model.specs.declared.log.Body.{Body}
use Rattle.ds_model.specs.declared.log.Body.TheVariants as body
use Rattle.log_record.specs.declared.log.Log.{Log}
use Rattle.log_rows.specs.Rows.{is_change_of, has_changed, is_closed, BothTell}
use Rattle.log_reader.specs.Keeping.{AreWhole}
use Rattle.log_appends.specs.Appends.{AreLastFrom, LastSpell}
use Rattle.log_appends.specs.Rests.{LastAreAllowed}
use Rattle.log_trans.specs.declared.course.Course.{Course}
use Rattle.log_trans.specs.Courses.{new_course, is_next, undone_one, after_body}
use Rattle.log_trans.specs.Damage.{body_fault, nothing_undone, unless, tran_at}
use Rattle.disk_restart.specs.Keeping.{KeepsRecords}
use Rattle.disk_restart.proofs.Whole.{ReadsSound}
use Rattle.sound_appends.specs.Laws.{HaveNoTails}
use Rattle.sound_appends.proofs.Left.{commits, course_last}
use Rattle.sound_disk.specs.Settled.{is_row_change}
use Rattle.sound_disk.specs.Transactions.{EachFollows}
use Rattle.sound_disk.specs.Whole_logs.{AreWholeLogs}
use Rattle.sound_plans.specs.Opens.{course_of}
use Rattle.sound_plans.specs.Queues.{records_for}
use Rattle.sound_plans.proofs.Settled.{all_over}
use Rattle.read_plans.specs.Ends.{IsLeftOut}
use Rattle.restart_soundness.specs.Closing.{ClosesAll, RestsClose}
use Rattle.restart_soundness.specs.Left_out.{changes_for, commits_last, LeavesOutClosed}
use Rattle.restart_soundness.specs.Runs.{IsUnread, IsAtRest}
use Rattle.sound_steps.proofs.Grown.{all_join, no_tail, same_read}
use Rattle.restart_soundness.proofs.Closed.{closed_is, changes_told, told_of}
use Rattle.restart_soundness.proofs.Rows.{tells_body, telling, no_commit}

-- what is proved of logs
pub record LogLaws : Type 0 where
  pub reads : ReadsSound
  pub spell : LastSpell
  pub allowed : LastAreAllowed
  pub both : BothTell

-- ---- a row change of a transaction

change_is_one : (b : Body) (s : Spot) → is_change_of s b ≡ true → is_row_change b ≡ true
change_is_one (body.RowChange change) s h = refl
change_is_one (body.Compensation change undone) s h = absurd cc
change_is_one (body.System patches) s h = absurd cc
change_is_one body.Commit s h = absurd cc
change_is_one body.Ended s h = absurd cc
change_is_one (body.Checkpoint offset) s h = absurd cc
change_is_one body.RestartEnd s h = absurd cc

and_both : (a b : Bool) → a ≡ true → b ≡ true → (a && b) ≡ true
and_both true b h k = k
and_both false b h k = absurd cc

changes_any : (rs : List LogRecord) (t : ℕ) (s : Spot) → has_changed rs t s ≡ true → changes_for t rs ≡ true
changes_any [] t s h = absurd cc
changes_any (r ∷ rs) t s h = elim (or_cases ((r.tran == t) && is_change_of s r.body) (has_changed rs t s) h) [
  | inl e ↦ (
      let p = and_parts (r.tran == t) (is_change_of s r.body) e in
      or_left ((r.tran == t) && is_row_change r.body) (changes_for t rs) (and_both (r.tran == t) (is_row_change r.body) p.0 (change_is_one r.body s p.1)))
  | inr e ↦ or_right ((r.tran == t) && is_row_change r.body) (changes_for t rs) (changes_any rs t s e)
]

-- ---- behind a Commit

not_true : (a : Bool) → not a ≡ true → a ≡ false
not_true true h = absurd cc
not_true false h = refl

none_with : (a b : Bool) → (a && b) ≡ false → a ≡ true → b ≡ false
none_with true b h k = h
none_with false b h k = absurd cc

none_behind : (front back : List LogRecord) (t : ℕ) → commits_last (front ++ back) ≡ true → has_commit front t ≡ true → changes_for t back ≡ false
none_behind [] back t h e = absurd cc
none_behind (r ∷ rs) back t h e =
    let p = and_parts (not (is_commit r.body && changes_for r.tran (rs ++ back))) (commits_last (rs ++ back)) h in
    elim (or_cases (is_commit r.body && (r.tran == t)) (has_commit rs t) e) [
      | inl f ↦ (
          let q = and_parts (is_commit r.body) (r.tran == t) f in
          let all : changes_for r.tran (rs ++ back) ≡ false = none_with (is_commit r.body) (changes_for r.tran (rs ++ back)) (not_true (is_commit r.body && changes_for r.tran (rs ++ back)) p.0) q.0 in
          let its : changes_for t (rs ++ back) ≡ false = ap (λ (n : ℕ). changes_for n (rs ++ back)) (sym (eqb-true r.tran t q.1)) ∙ all in
          (or_parts (changes_for t rs) (changes_for t back) (sym (list_any-append (λ (x : LogRecord). (x.tran == t) && is_row_change x.body) rs back) ∙ its)).1)
      | inr f ↦ none_behind rs back t p.1 f
    ]

-- the records that tell of rows say so as all do
no_row_change : (b : Body) → tells_body b ≡ false → is_row_change b ≡ false
no_row_change (body.RowChange change) e = absurd cc
no_row_change (body.Compensation change undone) e = refl
no_row_change (body.System patches) e = refl
no_row_change body.Commit e = refl
no_row_change body.Ended e = refl
no_row_change (body.Checkpoint offset) e = refl
no_row_change body.RestartEnd e = refl

and_false : (a : Bool) → (a && false) ≡ false
and_false true = refl
and_false false = refl

for_if : (b : Bool) (r : LogRecord) (us : List LogRecord) (t : ℕ) → tells_body r.body ≡ b → changes_for t (cond b (r ∷ us) us) ≡ changes_for t (r ∷ us)
for_if true r us t e = refl
for_if false r us t e = ap (λ (b : Bool). b || changes_for t us) (sym (and_false (r.tran == t))) ∙ ap (λ (b : Bool). ((r.tran == t) && b) || changes_for t us) (sym (no_row_change r.body e))

for_told : (rs : List LogRecord) (t : ℕ) → changes_for t (telling rs) ≡ changes_for t rs
for_told [] t = refl
for_told (r ∷ rs) t = for_if (tells_body r.body) r (telling rs) t refl ∙ ap (λ (b : Bool). ((r.tran == t) && is_row_change r.body) || b) (for_told rs t)

last_if : (b : Bool) (r : LogRecord) (us : List LogRecord) → tells_body r.body ≡ b → commits_last (cond b (r ∷ us) us) ≡ commits_last (r ∷ us)
last_if true r us e = refl
last_if false r us e = ap (λ (b : Bool). not (b && changes_for r.tran us) && commits_last us) (sym (no_commit r.body e))

pub last_told : (rs : List LogRecord) → commits_last (telling rs) ≡ commits_last rs
last_told [] = refl
last_told (r ∷ rs) =
    last_if (tells_body r.body) r (telling rs) refl
    ∙ ap (λ (b : Bool). not (is_commit r.body && b) && commits_last (telling rs)) (for_told rs r.tran)
    ∙ ap (λ (b : Bool). not (is_commit r.body && changes_for r.tran rs) && b) (last_told rs)

-- ---- behind the last compensation

unless_none : (b : Bool) (at : ℕ) → unless b at ≡ None → b ≡ true
unless_none true at h = refl
unless_none false at h = absurd cc

-- a transaction that is rolled back changes no row more
row_refused : (c : Course) (r : LogRecord) (b : Body) (s : Spot) → body_fault c r b ≡ None → (length c.undone == 0) ≡ false → is_change_of s b ≡ false
row_refused c r (body.RowChange change) s fits some = absurd (both_ways (length c.undone == 0) some (unless_none (nothing_undone c) (tran_at r) fits))
row_refused c r (body.Compensation change undone) s fits some = refl
row_refused c r (body.System patches) s fits some = refl
row_refused c r body.Commit s fits some = refl
row_refused c r body.Ended s fits some = refl
row_refused c r (body.Checkpoint offset) s fits some = refl
row_refused c r body.RestartEnd s fits some = refl

more_undone : (xs ys : List LogRecord) → (length xs == 0) ≡ false → (length (xs ++ ys) == 0) ≡ false
more_undone [] ys h = absurd cc
more_undone (x ∷ xs) ys h = ne_eqb (suc (length (xs ++ ys))) 0 (λ z. omega (arith, z))

body_undone : (c : Course) (r : LogRecord) (b : Body) → (length c.undone == 0) ≡ false → (length (after_body c r b).undone == 0) ≡ false
body_undone c r (body.RowChange change) h = h
body_undone c r (body.Compensation change n) h =
    cond_both (is_next n c.undo) (undone_one c) c (λ (d : Course). (length d.undone == 0) ≡ false) (λ is. more_undone c.undone (drop (length c.undo - 1) c.undo) h) (λ is. h)
body_undone c r (body.System patches) h = h
body_undone c r body.Commit h = h
body_undone c r body.Ended h = h
body_undone c r (body.Checkpoint offset) h = h
body_undone c r body.RestartEnd h = h

none_changes : (t : ℕ) (s : Spot) (earlier back : List LogRecord) → EachFollows earlier back → (length (course_of earlier t).undone == 0) ≡ false → has_changed back t s ≡ false
none_changes t s earlier [] f h = refl
none_changes t s earlier (r ∷ rs) f h =
    let more : (length (course_of (earlier ++ r ∷ []) t).undone == 0) ≡ false =
    subst (λ (c : Course). (length c.undone == 0) ≡ false) (sym (course_last new_course t earlier r))
    (cond_both (r.tran == t) (after_body (course_of earlier t) r r.body) (course_of earlier t) (λ (c : Course). (length c.undone == 0) ≡ false) (λ own. body_undone (course_of earlier t) r r.body h) (λ other. h)) in
    let rest = none_changes t s (earlier ++ r ∷ []) rs f.1 more in
    let first : ((r.tran == t) && is_change_of s r.body) ≡ false =
    elim (cases_Bool (r.tran == t)) as (λ _. ((r.tran == t) && is_change_of s r.body) ≡ false) [
      | inl e ↦
          let fits : body_fault (course_of earlier t) r r.body ≡ None = subst (λ (n : ℕ). body_fault (course_of earlier n) r r.body ≡ None) (eqb-true r.tran t e) f.0.fits in
          ap (λ (b : Bool). (r.tran == t) && b) (row_refused (course_of earlier t) r r.body s fits h) ∙ and_false (r.tran == t)
      | inr e ↦ ap (λ (b : Bool). b && is_change_of s r.body) e
    ] in
    or_from ((r.tran == t) && is_change_of s r.body) (has_changed rs t s) first rest

-- ---- the front of records that follow one another, and what stands behind it

front_follows : (earlier xs ys : List LogRecord) → EachFollows earlier (xs ++ ys) → EachFollows earlier xs
front_follows earlier [] ys f = tt
front_follows earlier (x ∷ xs) ys f = (f.0, front_follows (earlier ++ x ∷ []) xs ys f.1)

back_follows : (earlier xs ys : List LogRecord) → EachFollows earlier (xs ++ ys) → EachFollows (earlier ++ xs) ys
back_follows earlier [] ys f = subst (λ (l : List LogRecord). EachFollows l ys) (sym (append-nil earlier)) f
back_follows earlier (x ∷ xs) ys f = subst (λ (l : List LogRecord). EachFollows l ys) (append_assoc earlier (x ∷ []) xs) (back_follows (earlier ++ x ∷ []) xs ys f.1)

-- a transaction that is closed in the front changes no row behind it
closed_stays : (front back : List LogRecord) (t : ℕ) (s : Spot) → EachFollows [] (front ++ back) → commits_last (front ++ back) ≡ true → is_closed front t ≡ true → has_changed back t s ≡ false
closed_stays front back t s f last closed =
    let c = course_of front t in
    let committed : c.is_committed ≡ true → has_changed back t s ≡ false =
    λ e. elim (cases_Bool (has_changed back t s)) as (λ _. has_changed back t s ≡ false) [
      | inl k ↦ absurd (both_ways (changes_for t back) (none_behind front back t last (sym (commits t front) ∙ e)) (changes_any back t s k))
      | inr k ↦ k
    ] in
    elim (or_cases c.is_committed c.is_ended (sym (closed_is t front) ∙ closed)) [
      | inl e ↦ committed e
      | inr e ↦ elim (all_over front (front_follows [] front back f) t e) [
        | inl k ↦ committed k
        | inr k ↦ none_changes t s front back (back_follows [] front back f) k.1
      ]
    ]

-- ---- one log

is_log : (bytes : List ℕ) (rs : List LogRecord) → bytes ≡ log_bytes rs → AllByRecursion IsAllowed rs → IsLog bytes rs
is_log bytes rs e a = record { tail = []; whole = e ∙ sym (append-nil (log_bytes rs)); allowed = a; torn = inl refl }

-- behind a front of them none changes a row behind its Commit, as it is of all
back_last : (front back : List LogRecord) → commits_last (front ++ back) ≡ true → commits_last back ≡ true
back_last [] back h = h
back_last (r ∷ rs) back h = back_last rs back (and_parts (not (is_commit r.body && changes_for r.tran (rs ++ back))) (commits_last (rs ++ back)) h).1

-- what is closed among all its records
closes_all : LogLaws → (bytes : List ℕ) (rs : List LogRecord) → bytes ≡ log_bytes rs → AllByRecursion IsAllowed rs → EachFollows [] rs → commits_last rs ≡ true → ((t : ℕ) (s : Spot) → t ≢ 0 → has_changed rs t s ≡ true → is_closed rs t ≡ true) → ClosesAll bytes
closes_all l bytes rs spelled allowed follow last closed = record {
  whole = whole;
  closed = λ start back from t s numbered changed.
      let front = from.whole.records in
      let are : rs ≡ front ++ back = are_parts start back from in
      let there : has_changed (front ++ back) t s ≡ true = l.both.changed front back t s ∙ or_right (has_changed front t s) (has_changed back t s) changed in
      let done : (is_closed front t || is_closed back t) ≡ true = sym (l.both.closed front back t) ∙ subst (λ (xs : List LogRecord). is_closed xs t ≡ true) are (closed t s numbered (subst (λ (xs : List LogRecord). has_changed xs t s ≡ true) (sym are) there)) in
      elim (or_cases (is_closed front t) (is_closed back t) done) as (λ _. is_closed back t ≡ true) [
        | inl e ↦ absurd (both_ways (has_changed back t s) (closed_stays front back t s (subst (EachFollows []) are follow) (subst (λ (xs : List LogRecord). commits_last xs ≡ true) are last) e) changed)
        | inr e ↦ e
      ];
  commits = λ start back from. back_last from.whole.records back (subst (λ (xs : List LogRecord). commits_last xs ≡ true) (are_parts start back from) last);
}
  where
    whole : AreWhole bytes
    whole = record { records = rs; spelled = spelled; allowed = allowed }

    are_parts : (start : ℕ) (back : List LogRecord) → (from : AreLastFrom bytes start back) → rs ≡ from.whole.records ++ back
    are_parts start back from =
        let front = from.whole.records in
        let split : bytes ≡ log_bytes (front ++ back) = l.spell bytes start back whole from ∙ ap (λ (b : List ℕ). b ++ log_bytes back) from.whole.spelled ∙ sym (flat_map-append record_bytes front back) in
        same_read l.reads bytes rs (front ++ back) (is_log bytes rs spelled allowed) (is_log bytes (front ++ back) split (all_join IsAllowed front back from.whole.allowed (l.allowed bytes start back whole from)))

-- ---- the log of a member

record LogAt (bytes : List ℕ) (logs : List Log) (member : ℕ) : Type 0 where
  spelled : bytes ≡ log_bytes (records_for logs member)
  allowed : AllByRecursion IsAllowed (records_for logs member)

log_at : (k m : ℕ) (ds : List (List ℕ)) (logs : List Log) → AreWholeLogs k ds logs → HaveNoTails logs → (i : ℕ) → m ≡ k + i → i < length ds → LogAt (get_or ds i []) logs m
log_at k m [] logs w none i e low = absurd (omega arith)
log_at k m (d ∷ ds) [] w none i e low = absurd w
log_at k m (d ∷ ds) (l ∷ ls) w none zero e low =
    let is = w.0.member_is in
    let own : records_for (l ∷ ls) m ≡ l.records = ap (λ (b : Bool). cond b l.records (records_for ls m)) (eq-eqb l.member m (omega (arith, is, e))) in
    record {
      spelled = no_tail k d l w.0 none.0 ∙ ap log_bytes (sym own);
      allowed = subst (AllByRecursion IsAllowed) (sym own) w.0.records_are.allowed;
    }
log_at k m (d ∷ ds) (l ∷ ls) w none (suc i) e low =
    let is = w.0.member_is in
    let rest : records_for (l ∷ ls) m ≡ records_for ls m = ap (λ (b : Bool). cond b l.records (records_for ls m)) (ne_eqb l.member m (λ same. omega (arith, is, e, same))) in
    let there = log_at (k + 1) m ds ls w.1 none.1 i (omega (arith, e)) (omega (arith, low)) in
    record { spelled = there.spelled ∙ ap log_bytes (sym rest); allowed = subst (AllByRecursion IsAllowed) (sym rest) there.allowed }

follows_if : (b : Bool) (xs ys : List LogRecord) → EachFollows [] xs → EachFollows [] ys → EachFollows [] (cond b xs ys)
follows_if true xs ys f g = f
follows_if false xs ys f g = g

follows_for : (logs : List Log) (m : ℕ) → AllByRecursion (λ (l : Log). EachFollows [] l.records) logs → EachFollows [] (records_for logs m)
follows_for [] m f = tt
follows_for (l ∷ ls) m f = follows_if (l.member == m) l.records (records_for ls m) f.0 (follows_for ls m f.1)

-- its records are the only ones
same_if : (b : Bool) (xs ys us vs : List LogRecord) → xs ≡ ys → us ≡ vs → cond b xs us ≡ cond b ys vs
same_if true xs ys us vs h k = h
same_if false xs ys us vs h k = k

pub same_members : ReadsSound → (k : ℕ) (bs : List (List ℕ)) (logs others : List Log) → AreWholeLogs k bs logs → AreWholeLogs k bs others → (m : ℕ) → records_for logs m ≡ records_for others m
same_members sound k [] [] [] w v m = refl
same_members sound k [] [] (x ∷ xs) w v m = absurd v
same_members sound k [] (l ∷ ls) others w v m = absurd w
same_members sound k (b ∷ bs) [] others w v m = absurd w
same_members sound k (b ∷ bs) (l ∷ ls) [] w v m = absurd v
same_members sound k (b ∷ bs) (l ∷ ls) (x ∷ xs) w v m =
    let same : l.member ≡ x.member = w.0.member_is ∙ sym v.0.member_is in
    subst (λ (n : ℕ). cond (n == m) l.records (records_for ls m) ≡ cond (x.member == m) x.records (records_for xs m)) (sym same)
    (same_if (x.member == m) l.records x.records (records_for ls m) (records_for xs m) (same_read sound b l.records x.records w.0.records_are v.0.records_are) (same_members sound (k + 1) bs ls xs w.1 v.1 m))

-- ---- the disk

module _ (l : LogLaws) (c d : Contents) (as_many : length c.logs ≡ length d.logs) (keeps : KeepsRecords c d) (before : LeavesOutClosed c) (logs : List Log) (whole : AreWholeLogs 1 d.logs logs) where
  told_again : (m : ℕ) → telling (records_for logs m) ≡ telling (records_for before.logs m)
  told_again m = told_of l.reads c d before.logs logs before.whole whole as_many keeps m

  pub last_again : (m : ℕ) → commits_last (records_for logs m) ≡ true
  last_again m = sym (last_told (records_for logs m)) ∙ ap commits_last (told_again m) ∙ last_told (records_for before.logs m) ∙ before.commits m

  pub changed_before : (m t : ℕ) (s : Spot) → has_changed (records_for logs m) t s ≡ true → has_changed (records_for before.logs m) t s ≡ true
  changed_before m t s changed =
      sym (changes_told (records_for before.logs m) t s) ∙ ap (λ (rs : List LogRecord). has_changed rs t s) (sym (told_again m)) ∙ changes_told (records_for logs m) t s ∙ changed

  -- none is unread
  pub closed_again : (m t : ℕ) (s : Spot) → t ≢ 0 → has_changed (records_for logs m) t s ≡ true → (is_closed (records_for logs m) t ≡ true) ⊎ IsUnread c m t → is_closed (records_for logs m) t ≡ true
  closed_again m t s numbered changed (inl e) = e
  closed_again m t s numbered changed (inr u) =
      let same : records_for u.logs m ≡ records_for before.logs m = same_members l.reads 1 c.logs u.logs before.logs u.whole before.whole m in
      let shut = before.closed m t s numbered (changed_before m t s changed) (subst (λ (rs : List LogRecord). IsLeftOut rs t) same u.out) in
      absurd (both_ways (is_closed (records_for before.logs m) t) (ap (λ (rs : List LogRecord). is_closed rs t) (sym same) ∙ u.unclosed) shut)

pub rests_close : LogLaws → RestsClose
rests_close l c d counter as_many before left =
    let rest : IsAtRest c counter d = left.ends in
    let whole = rest.sound.whole_logs in
    let closed : (m t : ℕ) (s : Spot) → t ≢ 0 → has_changed (records_for rest.logs m) t s ≡ true → is_closed (records_for rest.logs m) t ≡ true =
    λ m t s numbered changed. closed_again l c d as_many left.keeps before rest.logs whole m t s numbered changed (rest.closed m t s numbered changed) in
    record {
      before = left.closed before;
      logs = λ i low.
          let at : LogAt (get_or d.logs i []) rest.logs (i + 1) = log_at 1 (i + 1) d.logs rest.logs whole rest.no_tails i (omega arith) low in
          let here : log_of d.logs (i + 1) ≡ get_or d.logs i [] = ap (λ (k : ℕ). get_or d.logs k []) (let one : i + 1 - 1 ≡ i = omega arith in one) in
          subst ClosesAll (sym here)
          (closes_all l (get_or d.logs i []) (records_for rest.logs (i + 1)) at.spelled at.allowed (follows_for rest.logs (i + 1) rest.sound.transactions.follow)
          (last_again l c d as_many left.keeps before rest.logs whole (i + 1)) (closed (i + 1)));
    }
