-- The queue of a plan fits the logs.
use Rattle.std.proofs.Common.{◌≡◌, ◌≢◌, ℕ, ◌+◌, ◌-◌, ◌<◌, Bool, true, false, cond, List, [], ◌∷◌, ◌++◌, length, map, reverse, Option, Some, None, inl, inr, refl, sym, ap, subst, ◌∙◌, arith}
use Rattle.std.specs.Prelude.{◌⊎◌, ◌==◌, ◌||◌, ◌&&◌, T, filter, slice_get}
use Rattle.std.specs.List.{AllByRecursion}
use Rattle.std.specs.Ordering.{nat_cmp, is_lt}
use Rattle.std.specs.FinMap.{entries, entries_sorted}
use Rattle.std.specs.FinMap.Entries.{below_all, is_sorted}
use Rattle.std.proofs.lemmas.Bool.{cond_both, cases_Bool, or_cases, or_from, or_left, or_right, both_ways, eqb-true, eq-eqb, ne_eqb, false_from_ne_true}
use Rattle.std.proofs.lemmas.Bool.Decides.{nat_tests}
use Rattle.std.proofs.lemmas.List.{append-nil, map-append}
use Rattle.std.proofs.lemmas.List.Elements.{filter-append}
use Rattle.ds_model.specs.declared.log.LogRecord.{LogRecord}
use Rattle.ds_model.specs.declared.log.Body.{Body}
use Rattle.ds_model.specs.declared.log.Body.TheVariants as body
use Rattle.log_record.specs.declared.log.Log.{Log}
use Rattle.log_trans.specs.declared.course.Course.{Course}
use Rattle.log_trans.specs.declared.opened.OpenTran.{OpenTran}
use Rattle.log_trans.specs.Courses.{courses_of, is_open, open_among, open_tran, open_trans}
use Rattle.log_merge.specs.Merging.{all_records}
use Rattle.restart_plan.specs.declared.opened.Opened.{Opened}
use Rattle.restart_plan.specs.declared.opened.Undo.{Undo}
use Rattle.restart_plan.specs.Opened.{Changes, closing, closed, with_undo, with_change, with_changes, with_tran, with_trans, with_ending, needs_end, with_last, with_log, with_logs}
use Rattle.sound_disk.specs.Transactions.{drawn_numbers, is_among, all_differ}
use Rattle.sound_disk.specs.Whole_logs.{AreWholeLogs}
use Rattle.sound_appends.proofs.Left.{has_change, numbers, among_more, drawn_more, differ_tail, differ_from, differ_back, differ_parts, change_drawn, one_tran, AreLeft, undo_of}
use Rattle.sound_plans.specs.Opens.{course_of, IsOpenTran, OpensTell}
use Rattle.sound_plans.specs.Queues.{has_log, records_for, undo_before, undos, IsQueueOf, is_of}
use Rattle.sound_plans.proofs.Inserted.{numbers_of, put_all, AreRising}
use Rattle.sound_plans.proofs.Members.{IsSoundLog, IsHome}
use Rattle.sound_plans.proofs.Neat.{AreStrict, IsNeat}

-- ---- what is put into the map

abbrev pub put_tran : ℕ → OpenTran → List Undo
put_tran m t = cond (t.id == 0) [] (cond (length t.undo == 0) [] (undos m t.id true t.undo))

abbrev pub put_trans : ℕ → List OpenTran → List Undo
put_trans m [] = []
put_trans m (t ∷ ts) = put_tran m t ++ put_trans m ts

abbrev pub put_last : ℕ → List OpenTran → Option LogRecord → List Undo
put_last m ts None = []
put_last m ts (Some last) = put_trans m ts

abbrev pub put_log : Log → List Undo
put_log log = put_last log.member (open_trans log.records) (slice_get log.records (length log.records - 1))

abbrev pub put_logs : List Log → List Undo
put_logs [] = []
put_logs (log ∷ logs) = put_log log ++ put_logs logs

put_more : (m : Changes) (xs ys : List Undo) → put_all m (xs ++ ys) ≡ put_all (put_all m xs) ys
put_more m [] ys = refl
put_more m (x ∷ xs) ys = put_more (put_all m (x ∷ [])) xs ys

change_put : (m t : ℕ) (b : Bool) (lrsn : ℕ) (d : Body) (c : Changes) (us : List Undo) → put_all (with_change m t b c lrsn d) us ≡ put_all c (undo_before m t b lrsn d us)
change_put m t b lrsn (body.RowChange change) c us = refl
change_put m t b lrsn (body.Compensation change undone) c us = refl
change_put m t b lrsn (body.System patches) c us = refl
change_put m t b lrsn body.Commit c us = refl
change_put m t b lrsn body.Ended c us = refl
change_put m t b lrsn (body.Checkpoint offset) c us = refl
change_put m t b lrsn body.RestartEnd c us = refl

changes_put : (m t : ℕ) (b : Bool) (c : Changes) (rs : List LogRecord) → with_changes m t b c rs ≡ put_all c (undos m t b rs)
changes_put m t b c [] = refl
changes_put m t b c (r ∷ rs) = changes_put m t false (with_change m t b c r.lrsn r.body) rs ∙ change_put m t b r.lrsn r.body c (undos m t false rs)

tran_if : (m lrsn : ℕ) (o : Opened) (t : OpenTran) (z e : Bool) → (cond z o (cond e (closed o (closing m t.id lrsn)) (with_undo o (with_changes m t.id true o.undo t.undo)))).undo ≡ put_all o.undo (cond z [] (cond e [] (undos m t.id true t.undo)))
tran_if m lrsn o t true e = refl
tran_if m lrsn o t false true = refl
tran_if m lrsn o t false false = changes_put m t.id true o.undo t.undo

trans_put : (m lrsn : ℕ) (o : Opened) (ts : List OpenTran) → (with_trans m lrsn o ts).undo ≡ put_all o.undo (put_trans m ts)
trans_put m lrsn o [] = refl
trans_put m lrsn o (t ∷ ts) =
    trans_put m lrsn (with_tran m lrsn o t) ts
    ∙ ap (λ (c : Changes). put_all c (put_trans m ts)) (tran_if m lrsn o t (t.id == 0) (length t.undo == 0))
    ∙ sym (put_more o.undo (put_tran m t) (put_trans m ts))

ending_if : (b : Bool) (o : Opened) (m : ℕ) → (cond b (with_ending o m) o).undo ≡ o.undo
ending_if true o m = refl
ending_if false o m = refl

last_put : (o : Opened) (m : ℕ) (ts : List OpenTran) (found : Option LogRecord) → (with_last o m ts found).undo ≡ put_all o.undo (put_last m ts found)
last_put o m ts None = refl
last_put o m ts (Some last) =
    trans_put m last.lrsn (cond (needs_end last ts) (with_ending o m) o) ts ∙ ap (λ (c : Changes). put_all c (put_trans m ts)) (ending_if (needs_end last ts) o m)

pub logs_put : (o : Opened) (logs : List Log) → (with_logs o logs).undo ≡ put_all o.undo (put_logs logs)
logs_put o [] = refl
logs_put o (log ∷ logs) =
    logs_put (with_log o log) logs
    ∙ ap (λ (c : Changes). put_all c (put_logs logs)) (last_put o log.member (open_trans log.records) (slice_get log.records (length log.records - 1)))
    ∙ sym (put_more o.undo (put_log log) (put_logs logs))

-- ---- the numbers of open transactions differ

abbrev pub ids : List OpenTran → List ℕ
ids ts = map (λ (t : OpenTran). t.id) ts

less_other : (x k : ℕ) → T (is_lt (nat_cmp x k)) → (k == x) ≡ false
less_other x k h = grind (arith, nat_tests)

and_first : (a b : Bool) → T (a && b) → T a
and_first true b h = tt
and_first false b h = h

and_second : (a b : Bool) → T (a && b) → T b
and_second true b h = h
and_second false b h = absurd h

not_listed : (x : ℕ) (es : List (ℕ × Course)) → T (below_all nat_cmp x es) → is_among x (ids (open_among es)) ≡ false
not_listed x [] h = refl
not_listed x (e ∷ es) h =
    let rest = not_listed x es (and_second (is_lt (nat_cmp x e.0)) (below_all nat_cmp x es) h) in
    cond_both (is_open e.1) (e ∷ filter (λ (f : ℕ × Course). is_open f.1) es) (filter (λ (f : ℕ × Course). is_open f.1) es) (λ (l : List (ℕ × Course)). is_among x (ids (map open_tran l)) ≡ false)
    (λ is. or_from (e.0 == x) (is_among x (ids (open_among es))) (less_other x e.0 (and_first (is_lt (nat_cmp x e.0)) (below_all nat_cmp x es) h)) rest) (λ is. rest)

ids_differ : (es : List (ℕ × Course)) → T (is_sorted nat_cmp es) → all_differ (ids (open_among es)) ≡ true
ids_differ [] h = refl
ids_differ (e ∷ es) h =
    let rest = ids_differ es (and_second (below_all nat_cmp e.0 es) (is_sorted nat_cmp es) h) in
    cond_both (is_open e.1) (e ∷ filter (λ (f : ℕ × Course). is_open f.1) es) (filter (λ (f : ℕ × Course). is_open f.1) es) (λ (l : List (ℕ × Course)). all_differ (ids (map open_tran l)) ≡ true)
    (λ is. differ_from e.0 (ids (open_among es)) (not_listed e.0 es (and_first (below_all nat_cmp e.0 es) (is_sorted nat_cmp es) h)) rest) (λ is. rest)

open_ids_differ : (rs : List LogRecord) → all_differ (ids (open_trans rs)) ≡ true
open_ids_differ rs = ids_differ (entries (courses_of rs)) (entries_sorted (courses_of rs))

-- ---- the numbers of undos

before_among : (m t : ℕ) (b : Bool) (lrsn : ℕ) (d : Body) (us : List Undo) (k : ℕ) → is_among k (numbers_of (undo_before m t b lrsn d us)) ≡ true → ((lrsn == k) || is_among k (numbers_of us)) ≡ true
before_among m t b lrsn (body.RowChange change) us k h = h
before_among m t b lrsn (body.Compensation change undone) us k h = or_right (lrsn == k) (is_among k (numbers_of us)) h
before_among m t b lrsn (body.System patches) us k h = or_right (lrsn == k) (is_among k (numbers_of us)) h
before_among m t b lrsn body.Commit us k h = or_right (lrsn == k) (is_among k (numbers_of us)) h
before_among m t b lrsn body.Ended us k h = or_right (lrsn == k) (is_among k (numbers_of us)) h
before_among m t b lrsn (body.Checkpoint offset) us k h = or_right (lrsn == k) (is_among k (numbers_of us)) h
before_among m t b lrsn body.RestartEnd us k h = or_right (lrsn == k) (is_among k (numbers_of us)) h

undos_among : (m t : ℕ) (b : Bool) (rs : List LogRecord) (k : ℕ) → is_among k (numbers_of (undos m t b rs)) ≡ true → is_among k (numbers rs) ≡ true
undos_among m t b [] k h = absurd cc
undos_among m t b (r ∷ rs) k h = elim (or_cases (r.lrsn == k) (is_among k (numbers_of (undos m t false rs))) (before_among m t b r.lrsn r.body (undos m t false rs) k h)) [
  | inl e ↦ or_left (r.lrsn == k) (is_among k (numbers rs)) e
  | inr e ↦ or_right (r.lrsn == k) (is_among k (numbers rs)) (undos_among m t false rs k e)
]

before_differ : (m t : ℕ) (b : Bool) (lrsn : ℕ) (d : Body) (us : List Undo) → is_among lrsn (numbers_of us) ≡ false → all_differ (numbers_of us) ≡ true → all_differ (numbers_of (undo_before m t b lrsn d us)) ≡ true
before_differ m t b lrsn (body.RowChange change) us none h = differ_from lrsn (numbers_of us) none h
before_differ m t b lrsn (body.Compensation change undone) us none h = h
before_differ m t b lrsn (body.System patches) us none h = h
before_differ m t b lrsn body.Commit us none h = h
before_differ m t b lrsn body.Ended us none h = h
before_differ m t b lrsn (body.Checkpoint offset) us none h = h
before_differ m t b lrsn body.RestartEnd us none h = h

undos_differ : (m t : ℕ) (b : Bool) (rs : List LogRecord) → all_differ (numbers rs) ≡ true → all_differ (numbers_of (undos m t b rs)) ≡ true
undos_differ m t b [] h = refl
undos_differ m t b (r ∷ rs) h =
    let d = differ_tail r.lrsn (numbers rs) h in
    before_differ m t b r.lrsn r.body (undos m t false rs) (false_from_ne_true (is_among r.lrsn (numbers_of (undos m t false rs))) (λ is. both_ways (is_among r.lrsn (numbers rs)) d.0 (undos_among m t false rs r.lrsn is)))
    (undos_differ m t false rs d.1)

none_among : (k : ℕ) → is_among k (numbers_of []) ≡ true → ⊥
none_among k h = cc

tran_among_if : (m : ℕ) (t : OpenTran) (k : ℕ) (z e : Bool) → is_among k (numbers_of (cond z [] (cond e [] (undos m t.id true t.undo)))) ≡ true → is_among k (numbers t.undo) ≡ true
tran_among_if m t k true e h = absurd (none_among k h)
tran_among_if m t k false true h = absurd (none_among k h)
tran_among_if m t k false false h = undos_among m t.id true t.undo k h

tran_among : (m : ℕ) (t : OpenTran) (k : ℕ) → is_among k (numbers_of (put_tran m t)) ≡ true → is_among k (numbers t.undo) ≡ true
tran_among m t k h = tran_among_if m t k (t.id == 0) (length t.undo == 0) h

tran_differs : (m : ℕ) (t : OpenTran) → all_differ (numbers t.undo) ≡ true → all_differ (numbers_of (put_tran m t)) ≡ true
tran_differs m t h =
    cond_both (t.id == 0) [] (cond (length t.undo == 0) [] (undos m t.id true t.undo)) (λ (us : List Undo). all_differ (numbers_of us) ≡ true) (λ z. refl)
    (λ z. cond_both (length t.undo == 0) [] (undos m t.id true t.undo) (λ (us : List Undo). all_differ (numbers_of us) ≡ true) (λ e. refl) (λ e. undos_differ m t.id true t.undo h))

-- a number among those that are put is that of a row change of one of the transactions
record Owner (rs : List LogRecord) (ts : List OpenTran) (k : ℕ) : Type 0 where
  id : ℕ
  some : id ≢ 0
  listed : is_among id (ids ts) ≡ true
  among : is_among k (numbers (undo_of rs id)) ≡ true
  uncommitted : (course_of rs id).is_committed ≡ false
  made : has_change id k rs ≡ true

tran_left : (m : ℕ) (t : OpenTran) (rs : List LogRecord) (k : ℕ) → IsOpenTran rs t → is_among k (numbers_of (put_tran m t)) ≡ true → is_among k (numbers (undo_of rs t.id)) ≡ true
tran_left m t rs k o h = subst (λ (us : List LogRecord). is_among k (numbers us) ≡ true) o.undo_is (tran_among m t k h)

tran_made : (m : ℕ) (t : OpenTran) (rs : List LogRecord) (k : ℕ) → AreLeft rs → IsOpenTran rs t → is_among k (numbers_of (put_tran m t)) ≡ true → has_change t.id k rs ≡ true
tran_made m t rs k left o h = (left.left t.id).made k (tran_left m t rs k o h)

owner_of : (m : ℕ) (ts : List OpenTran) (rs : List LogRecord) (k : ℕ) → AreLeft rs → AllByRecursion (IsOpenTran rs) ts → is_among k (numbers_of (put_trans m ts)) ≡ true → Owner rs ts k
owner_of m [] rs k left o h = absurd (none_among k h)
owner_of m (t ∷ ts) rs k left o h =
    let parts : (is_among k (numbers_of (put_tran m t)) || is_among k (numbers_of (put_trans m ts))) ≡ true =
    sym (among_more k (numbers_of (put_tran m t)) (numbers_of (put_trans m ts))) ∙ sym (ap (is_among k) (map-append (λ (u : Undo). u.lrsn) (put_tran m t) (put_trans m ts))) ∙ h in
    elim (or_cases (is_among k (numbers_of (put_tran m t))) (is_among k (numbers_of (put_trans m ts))) parts) [
      | inl e ↦ record {
        id = t.id;
        some = o.0.numbered;
        listed = or_left (t.id == t.id) (is_among t.id (ids ts)) (eq-eqb t.id t.id refl);
        among = tran_left m t rs k o.0 e;
        uncommitted = o.0.uncommitted;
        made = tran_made m t rs k left o.0 e;
      }
      | inr e ↦ (
          let w = owner_of m ts rs k left o.1 e in
          record { id = w.id; some = w.some; listed = or_right (t.id == w.id) (is_among w.id (ids ts)) w.listed; among = w.among; uncommitted = w.uncommitted; made = w.made })
    ]

differ_join : (xs ys : List ℕ) → all_differ xs ≡ true → all_differ ys ≡ true → ((k : ℕ) → is_among k xs ≡ true → is_among k ys ≡ true → ⊥) → all_differ (xs ++ ys) ≡ true
differ_join [] ys h k apart = k
differ_join (x ∷ xs) ys h k apart =
    let d = differ_tail x xs h in
    let other : is_among x ys ≡ false = false_from_ne_true (is_among x ys) (λ is. apart x (or_left (x == x) (is_among x xs) (eq-eqb x x refl)) is) in
    differ_from x (xs ++ ys) (among_more x xs ys ∙ or_from (is_among x xs) (is_among x ys) d.0 other) (differ_join xs ys d.1 k (λ n p q. apart n (or_right (x == n) (is_among n xs) p) q))

trans_differ : (m : ℕ) (ts : List OpenTran) (rs : List LogRecord) → AreLeft rs → all_differ (drawn_numbers rs) ≡ true → AllByRecursion (IsOpenTran rs) ts → all_differ (ids ts) ≡ true → all_differ (numbers_of (put_trans m ts)) ≡ true
trans_differ m [] rs left differ o h = refl
trans_differ m (t ∷ ts) rs left differ o h =
    let d = differ_tail t.id (ids ts) h in
    let own : all_differ (numbers t.undo) ≡ true = subst (λ (us : List LogRecord). all_differ (numbers us) ≡ true) (sym o.0.undo_is) (left.left t.id).differ in
    subst (λ (ns : List ℕ). all_differ ns ≡ true) (sym (map-append (λ (u : Undo). u.lrsn) (put_tran m t) (put_trans m ts)))
    (differ_join (numbers_of (put_tran m t)) (numbers_of (put_trans m ts)) (tran_differs m t own) (trans_differ m ts rs left differ o.1 d.1) (λ k p q.
    let w = owner_of m ts rs k left o.1 q in
    let same : t.id ≡ w.id = one_tran t.id w.id k rs differ (tran_made m t rs k left o.0 p) w.made in
    both_ways (is_among t.id (ids ts)) d.0 (subst (λ (n : ℕ). is_among n (ids ts) ≡ true) (sym same) w.listed)))

last_among : (m : ℕ) (ts : List OpenTran) (found : Option LogRecord) (rs : List LogRecord) (k : ℕ) → AreLeft rs → AllByRecursion (IsOpenTran rs) ts → is_among k (numbers_of (put_last m ts found)) ≡ true → is_among k (drawn_numbers rs) ≡ true
last_among m ts None rs k left o h = absurd (none_among k h)
last_among m ts (Some last) rs k left o h = let w = owner_of m ts rs k left o h in change_drawn w.id k rs w.made

last_differs : (m : ℕ) (ts : List OpenTran) (found : Option LogRecord) (rs : List LogRecord) → AreLeft rs → all_differ (drawn_numbers rs) ≡ true → AllByRecursion (IsOpenTran rs) ts → all_differ (ids ts) ≡ true → all_differ (numbers_of (put_last m ts found)) ≡ true
last_differs m ts None rs left differ o h = refl
last_differs m ts (Some last) rs left differ o h = trans_differ m ts rs left differ o h

-- one of these logs' open transactions has a row change of this number
pub record LogOwner (log : Log) (k : ℕ) : Type 0 where
  pub id : ℕ
  pub some : id ≢ 0
  pub among : is_among k (numbers (undo_of log.records id)) ≡ true
  pub uncommitted : (course_of log.records id).is_committed ≡ false

last_owner : (log : Log) (m : ℕ) (ts : List OpenTran) (found : Option LogRecord) (k : ℕ) → AreLeft log.records → AllByRecursion (IsOpenTran log.records) ts → is_among k (numbers_of (put_last m ts found)) ≡ true → LogOwner log k
last_owner log m ts None k left o h = absurd (none_among k h)
last_owner log m ts (Some last) k left o h = let w = owner_of m ts log.records k left o h in record { id = w.id; some = w.some; among = w.among; uncommitted = w.uncommitted }

pub log_owner : OpensTell → (log : Log) (k : ℕ) → IsSoundLog log → is_among k (numbers_of (put_log log)) ≡ true → LogOwner log k
log_owner tell log k s h = last_owner log log.member (open_trans log.records) (slice_get log.records (length log.records - 1)) k s.left (tell log.records) h

log_among : OpensTell → (log : Log) (k : ℕ) → IsSoundLog log → is_among k (numbers_of (put_log log)) ≡ true → is_among k (drawn_numbers log.records) ≡ true
log_among tell log k s h = last_among log.member (open_trans log.records) (slice_get log.records (length log.records - 1)) log.records k s.left (tell log.records) h

logs_among : OpensTell → (logs : List Log) (k : ℕ) → AllByRecursion IsSoundLog logs → is_among k (numbers_of (put_logs logs)) ≡ true → is_among k (drawn_numbers (all_records logs)) ≡ true
logs_among tell [] k s h = absurd (none_among k h)
logs_among tell (log ∷ logs) k s h =
    let parts : (is_among k (numbers_of (put_log log)) || is_among k (numbers_of (put_logs logs))) ≡ true =
    sym (among_more k (numbers_of (put_log log)) (numbers_of (put_logs logs))) ∙ sym (ap (is_among k) (map-append (λ (u : Undo). u.lrsn) (put_log log) (put_logs logs))) ∙ h in
    let either : (is_among k (drawn_numbers log.records) || is_among k (drawn_numbers (all_records logs))) ≡ true =
    elim (or_cases (is_among k (numbers_of (put_log log))) (is_among k (numbers_of (put_logs logs))) parts) [
      | inl e ↦ or_left (is_among k (drawn_numbers log.records)) (is_among k (drawn_numbers (all_records logs))) (log_among tell log k s.0 e)
      | inr e ↦ or_right (is_among k (drawn_numbers log.records)) (is_among k (drawn_numbers (all_records logs))) (logs_among tell logs k s.1 e)
    ] in
    ap (is_among k) (drawn_more log.records (all_records logs)) ∙ among_more k (drawn_numbers log.records) (drawn_numbers (all_records logs)) ∙ either

pub logs_differ : OpensTell → (logs : List Log) → AllByRecursion IsSoundLog logs → all_differ (drawn_numbers (all_records logs)) ≡ true → all_differ (numbers_of (put_logs logs)) ≡ true
logs_differ tell [] s differ = refl
logs_differ tell (log ∷ logs) s differ =
    let parts : all_differ (drawn_numbers log.records ++ drawn_numbers (all_records logs)) ≡ true = subst (λ (ns : List ℕ). all_differ ns ≡ true) (drawn_more log.records (all_records logs)) differ in
    subst (λ (ns : List ℕ). all_differ ns ≡ true) (sym (map-append (λ (u : Undo). u.lrsn) (put_log log) (put_logs logs)))
    (differ_join (numbers_of (put_log log)) (numbers_of (put_logs logs))
    (last_differs log.member (open_trans log.records) (slice_get log.records (length log.records - 1)) log.records s.0.left s.0.differ (tell log.records) (open_ids_differ log.records))
    (logs_differ tell logs s.1 (differ_back (drawn_numbers log.records) (drawn_numbers (all_records logs)) parts))
    (λ k p q. differ_parts (drawn_numbers log.records) (drawn_numbers (all_records logs)) k parts (log_among tell log k s.0 p) (logs_among tell logs k s.1 q)))

-- ---- those of one transaction

before_each : (P : Undo → Type 0) (m t : ℕ) (b : Bool) (lrsn : ℕ) (d : Body) (us : List Undo) → ((u : Undo) → u.member ≡ m → u.tran ≡ t → u.lrsn ≡ lrsn → P u) → AllByRecursion P us → AllByRecursion P (undo_before m t b lrsn d us)
before_each P m t b lrsn (body.RowChange change) us one h = (one (record { member = m; tran = t; lrsn = lrsn; change = change; is_last = b }) refl refl refl, h)
before_each P m t b lrsn (body.Compensation change undone) us one h = h
before_each P m t b lrsn (body.System patches) us one h = h
before_each P m t b lrsn body.Commit us one h = h
before_each P m t b lrsn body.Ended us one h = h
before_each P m t b lrsn (body.Checkpoint offset) us one h = h
before_each P m t b lrsn body.RestartEnd us one h = h

-- whose they are
abbrev AreOf : ℕ → ℕ → List Undo → Type 0
AreOf m t us = AllByRecursion (λ (u : Undo). (u.member ≡ m) × (u.tran ≡ t)) us

undos_of : (m t : ℕ) (b : Bool) (rs : List LogRecord) → AreOf m t (undos m t b rs)
undos_of m t b [] = tt
undos_of m t b (r ∷ rs) = before_each (λ (u : Undo). (u.member ≡ m) × (u.tran ≡ t)) m t b r.lrsn r.body (undos m t false rs) (λ u p q e. (p, q)) (undos_of m t false rs)

pub tran_of : (m : ℕ) (t : OpenTran) → AreOf m t.id (put_tran m t)
tran_of m t =
    cond_both (t.id == 0) [] (cond (length t.undo == 0) [] (undos m t.id true t.undo)) (AreOf m t.id) (λ z. tt)
    (λ z. cond_both (length t.undo == 0) [] (undos m t.id true t.undo) (AreOf m t.id) (λ e. tt) (λ e. undos_of m t.id true t.undo))

pub all_pass : (m t : ℕ) (us : List Undo) → AreOf m t us → filter (is_of m t) us ≡ us
all_pass m t [] h = refl
all_pass m t (u ∷ us) h =
    let is : is_of m t u ≡ true = ap (λ (b : Bool). b && (u.tran == t)) (eq-eqb u.member m h.0.0) ∙ eq-eqb u.tran t h.0.1 in
    ap (λ (b : Bool). cond b (u ∷ filter (is_of m t) us) (filter (is_of m t) us)) is ∙ ap (λ (l : List Undo). u ∷ l) (all_pass m t us h.1)

and_none : (a b : Bool) → b ≡ false → (a && b) ≡ false
and_none true b h = h
and_none false b h = refl

no_tran_passes : (m t n k : ℕ) (us : List Undo) → (k == t) ≡ false → AreOf n k us → filter (is_of m t) us ≡ []
no_tran_passes m t n k [] other h = refl
no_tran_passes m t n k (u ∷ us) other h =
    let is : is_of m t u ≡ false = and_none (u.member == m) (u.tran == t) (ap (λ (x : ℕ). x == t) h.0.1 ∙ other) in
    ap (λ (b : Bool). cond b (u ∷ filter (is_of m t) us) (filter (is_of m t) us)) is ∙ no_tran_passes m t n k us other h.1

no_member_passes : (m t n k : ℕ) (us : List Undo) → (n == m) ≡ false → AreOf n k us → filter (is_of m t) us ≡ []
no_member_passes m t n k [] other h = refl
no_member_passes m t n k (u ∷ us) other h =
    let is : is_of m t u ≡ false = ap (λ (b : Bool). b && (u.tran == t)) (ap (λ (x : ℕ). x == m) h.0.0 ∙ other) in
    ap (λ (b : Bool). cond b (u ∷ filter (is_of m t) us) (filter (is_of m t) us)) is ∙ no_member_passes m t n k us other h.1

nothing_behind : (p : Undo → Bool) (xs ys : List Undo) → filter p xs ≡ [] → filter p (xs ++ ys) ≡ filter p ys
nothing_behind p xs ys h = filter-append p xs ys ∙ ap (λ (l : List Undo). l ++ filter p ys) h

nothing_more : (p : Undo → Bool) (xs ys : List Undo) → filter p ys ≡ [] → filter p (xs ++ ys) ≡ filter p xs
nothing_more p xs ys h = filter-append p xs ys ∙ ap (λ (l : List Undo). filter p xs ++ l) h ∙ append-nil (filter p xs)

not_left : (a b : Bool) → (a || b) ≡ false → a ≡ false
not_left true b h = h
not_left false b h = refl

not_right : (a b : Bool) → (a || b) ≡ false → b ≡ false
not_right true b h = absurd cc
not_right false b h = h

not_put : (m t : ℕ) (ts : List OpenTran) → is_among t (ids ts) ≡ false → filter (is_of m t) (put_trans m ts) ≡ []
not_put m t [] h = refl
not_put m t (x ∷ ts) h =
    let first : (x.id == t) ≡ false = not_left (x.id == t) (is_among t (ids ts)) h in
    let rest : is_among t (ids ts) ≡ false = not_right (x.id == t) (is_among t (ids ts)) h in
    nothing_behind (is_of m t) (put_tran m x) (put_trans m ts) (no_tran_passes m t m x.id (put_tran m x) first (tran_of m x)) ∙ not_put m t ts rest

other_member : (m t n : ℕ) (ts : List OpenTran) → (n == m) ≡ false → filter (is_of m t) (put_trans n ts) ≡ []
other_member m t n [] other = refl
other_member m t n (x ∷ ts) other =
    nothing_behind (is_of m t) (put_tran n x) (put_trans n ts) (no_member_passes m t n x.id (put_tran n x) other (tran_of n x)) ∙ other_member m t n ts other

other_log : (m t n : ℕ) (ts : List OpenTran) (found : Option LogRecord) → (n == m) ≡ false → filter (is_of m t) (put_last n ts found) ≡ []
other_log m t n ts None other = refl
other_log m t n ts (Some last) other = other_member m t n ts other

-- what is put for an open transaction of the log
pub record Found (rs : List LogRecord) (m t : ℕ) (us : List Undo) : Type 0 where
  pub tran : OpenTran
  pub is_open_tran : IsOpenTran rs tran
  pub id_is : tran.id ≡ t
  pub is : us ≡ put_tran m tran

-- nothing, or all of it
Passes : List LogRecord → ℕ → ℕ → List Undo → Type 0
Passes rs m t us = (us ≡ []) ⊎ Found rs m t us

same_passes : (rs : List LogRecord) (m t : ℕ) (xs ys : List Undo) → ys ≡ xs → Passes rs m t xs → Passes rs m t ys
same_passes rs m t xs ys e h = subst (Passes rs m t) (sym e) h

trans_pass : (m t : ℕ) (ts : List OpenTran) (rs : List LogRecord) → AllByRecursion (IsOpenTran rs) ts → all_differ (ids ts) ≡ true → Passes rs m t (filter (is_of m t) (put_trans m ts))
unfolding Passes
trans_pass m t [] rs o h = inl refl
trans_pass m t (x ∷ ts) rs o h =
    let d = differ_tail x.id (ids ts) h in
    elim (cases_Bool (x.id == t)) [
      | inl e ↦ (
          let id : x.id ≡ t = eqb-true x.id t e in
          let none : is_among t (ids ts) ≡ false = subst (λ (n : ℕ). is_among n (ids ts) ≡ false) id d.0 in
          let own : filter (is_of m t) (put_tran m x) ≡ put_tran m x = all_pass m t (put_tran m x) (subst (λ (n : ℕ). AreOf m n (put_tran m x)) id (tran_of m x)) in
          inr (record { tran = x; is_open_tran = o.0; id_is = id; is = nothing_more (is_of m t) (put_tran m x) (put_trans m ts) (not_put m t ts none) ∙ own }))
      | inr e ↦ same_passes rs m t (filter (is_of m t) (put_trans m ts)) (filter (is_of m t) (put_trans m (x ∷ ts)))
          (nothing_behind (is_of m t) (put_tran m x) (put_trans m ts) (no_tran_passes m t m x.id (put_tran m x) e (tran_of m x))) (trans_pass m t ts rs o.1 d.1)
    ]

last_passes : (m t : ℕ) (ts : List OpenTran) (found : Option LogRecord) (rs : List LogRecord) → AllByRecursion (IsOpenTran rs) ts → all_differ (ids ts) ≡ true → Passes rs m t (filter (is_of m t) (put_last m ts found))
unfolding Passes
last_passes m t ts None rs o h = inl refl
last_passes m t ts (Some last) rs o h = trans_pass m t ts rs o h

-- of the log of the member among all
pub record FoundIn (all : List Log) (m t : ℕ) (us : List Undo) : Type 0 where
  pub log : Log
  pub sound : IsSoundLog log
  pub home : IsHome all log
  pub member_is : log.member ≡ m
  pub found : Found log.records m t us

abbrev pub PassesIn : List Log → ℕ → ℕ → List Undo → Type 0
PassesIn all m t us = (us ≡ []) ⊎ FoundIn all m t us

no_later_log : (m t k : ℕ) (bytes : List (List ℕ)) (logs : List Log) → AreWholeLogs k bytes logs → m < k → filter (is_of m t) (put_logs logs) ≡ []
no_later_log m t k [] [] w low = refl
no_later_log m t k [] (log ∷ logs) w low = absurd w
no_later_log m t k (b ∷ bytes) [] w low = absurd w
no_later_log m t k (b ∷ bytes) (log ∷ logs) w low =
    let is = w.0.member_is in
    nothing_behind (is_of m t) (put_log log) (put_logs logs) (other_log m t log.member (open_trans log.records) (slice_get log.records (length log.records - 1)) (ne_eqb log.member m (λ e. omega (arith, is, low, e))))
    ∙ no_later_log m t (k + 1) bytes logs w.1 (omega (arith, low))

passes_in : (all : List Log) (log : Log) (m t : ℕ) (us : List Undo) → IsSoundLog log → IsHome all log → log.member ≡ m → Passes log.records m t us → PassesIn all m t us
unfolding Passes
passes_in all log m t us s home is (inl e) = inl e
passes_in all log m t us s home is (inr f) = inr (record { log = log; sound = s; home = home; member_is = is; found = f })

pub logs_pass : OpensTell → (all : List Log) (m t k : ℕ) (bytes : List (List ℕ)) (logs : List Log) → AreWholeLogs k bytes logs → AllByRecursion IsSoundLog logs → AllByRecursion (λ (l : Log). IsHome all l) logs → PassesIn all m t (filter (is_of m t) (put_logs logs))
logs_pass tell all m t k [] [] w s home = inl refl
logs_pass tell all m t k [] (log ∷ logs) w s home = absurd w
logs_pass tell all m t k (b ∷ bytes) [] w s home = absurd w
logs_pass tell all m t k (b ∷ bytes) (log ∷ logs) w s home = elim (cases_Bool (log.member == m)) [
  | inl e ↦ (
      let is : log.member ≡ m = eqb-true log.member m e in
      let place = w.0.member_is in
      let rest : filter (is_of m t) (put_logs logs) ≡ [] = no_later_log m t (k + 1) bytes logs w.1 (omega (arith, is, place)) in
      let own : Passes log.records m t (filter (is_of m t) (put_log log)) =
      subst (λ (n : ℕ). Passes log.records m t (filter (is_of m t) (put_last n (open_trans log.records) (slice_get log.records (length log.records - 1))))) (sym is)
      (last_passes m t (open_trans log.records) (slice_get log.records (length log.records - 1)) log.records (tell log.records) (open_ids_differ log.records)) in
      subst (PassesIn all m t) (sym (nothing_more (is_of m t) (put_log log) (put_logs logs) rest)) (passes_in all log m t (filter (is_of m t) (put_log log)) s.0 home.0 is own))
  | inr e ↦ subst (PassesIn all m t) (sym (nothing_behind (is_of m t) (put_log log) (put_logs logs) (other_log m t log.member (open_trans log.records) (slice_get log.records (length log.records - 1)) e)))
      (logs_pass tell all m t (k + 1) bytes logs w.1 s.1 home.1)
]

-- ---- their numbers rise

undos_above : (m t n : ℕ) (b : Bool) (rs : List LogRecord) → AllByRecursion (λ (s : LogRecord). n < s.lrsn) rs → AllByRecursion (λ (u : Undo). n < u.lrsn) (undos m t b rs)
undos_above m t n b [] h = tt
undos_above m t n b (r ∷ rs) h = before_each (λ (u : Undo). n < u.lrsn) m t b r.lrsn r.body (undos m t false rs) (λ u p q e. let low = h.0 in omega (arith, low, e)) (undos_above m t n false rs h.1)

before_rising : (m t : ℕ) (b : Bool) (lrsn : ℕ) (d : Body) (us : List Undo) → AllByRecursion (λ (u : Undo). lrsn < u.lrsn) us → AreRising us → AreRising (undo_before m t b lrsn d us)
before_rising m t b lrsn (body.RowChange change) us low h = (low, h)
before_rising m t b lrsn (body.Compensation change undone) us low h = h
before_rising m t b lrsn (body.System patches) us low h = h
before_rising m t b lrsn body.Commit us low h = h
before_rising m t b lrsn body.Ended us low h = h
before_rising m t b lrsn (body.Checkpoint offset) us low h = h
before_rising m t b lrsn body.RestartEnd us low h = h

undos_rise : (m t : ℕ) (b : Bool) (rs : List LogRecord) → AreStrict rs → AreRising (undos m t b rs)
undos_rise m t b [] h = tt
undos_rise m t b (r ∷ rs) h = before_rising m t b r.lrsn r.body (undos m t false rs) (undos_above m t r.lrsn false rs h.0) (undos_rise m t false rs h.1)

tran_rises : (m : ℕ) (t : OpenTran) → AreStrict t.undo → AreRising (put_tran m t)
tran_rises m t h =
    cond_both (t.id == 0) [] (cond (length t.undo == 0) [] (undos m t.id true t.undo)) AreRising (λ z. tt)
    (λ z. cond_both (length t.undo == 0) [] (undos m t.id true t.undo) AreRising (λ e. tt) (λ e. undos_rise m t.id true t.undo h))

found_rises : (all : List Log) (m t : ℕ) (us : List Undo) → FoundIn all m t us → AreRising us
found_rises all m t us f =
    let o = f.found.tran in
    subst AreRising (sym f.found.is) (tran_rises m o (subst AreStrict (sym f.found.is_open_tran.undo_is) (f.sound.neat o.id).strict))

pub passes_rise : (all : List Log) (m t : ℕ) (us : List Undo) → PassesIn all m t us → AreRising us
passes_rise all m t us (inl e) = subst AreRising (sym e) tt
passes_rise all m t us (inr f) = found_rises all m t us f

-- ---- the queue

pub put_tran_is : (m : ℕ) (t : OpenTran) → t.id ≢ 0 → (put_tran m t ≡ []) ⊎ (put_tran m t ≡ undos m t.id true t.undo)
put_tran_is m t some =
    let first : put_tran m t ≡ cond (length t.undo == 0) [] (undos m t.id true t.undo) = ap (λ (b : Bool). cond b [] (cond (length t.undo == 0) [] (undos m t.id true t.undo))) (ne_eqb t.id 0 some) in
    elim (cases_Bool (length t.undo == 0)) [
      | inl e ↦ inl (first ∙ ap (λ (b : Bool). cond b [] (undos m t.id true t.undo)) e)
      | inr e ↦ inr (first ∙ ap (λ (b : Bool). cond b [] (undos m t.id true t.undo)) e)
    ]

pub queue_of : (all : List Log) (m t : ℕ) (us : List Undo) (f : FoundIn all m t us) → us ≡ undos m f.found.tran.id true f.found.tran.undo → IsQueueOf all m t (reverse us)
queue_of all m t us f is =
    let o = f.found.is_open_tran in
    let id = f.found.id_is in
    let records : records_for all m ≡ f.log.records = subst (λ (n : ℕ). records_for all n ≡ f.log.records) f.member_is f.home.records_are in
    let course : course_of (records_for all m) t ≡ course_of f.log.records f.found.tran.id = ap (λ (rs : List LogRecord). course_of rs t) records ∙ ap (course_of f.log.records) (sym id) in
    let undo : f.found.tran.undo ≡ (course_of (records_for all m) t).undo = o.undo_is ∙ ap (λ (c : Course). c.undo) (sym course) in
    let neat : IsNeat t (course_of (records_for all m) t).undo = subst (λ (rs : List LogRecord). IsNeat t (course_of rs t).undo) (sym records) (f.sound.neat t) in
    record {
      has = subst (λ (n : ℕ). has_log all n ≡ true) f.member_is f.home.has;
      uncommitted = ap (λ (c : Course). c.is_committed) course ∙ o.uncommitted;
      own = neat.own;
      is = ap reverse (is ∙ ap (λ (n : ℕ). undos m n true f.found.tran.undo) id ∙ ap (undos m t true) undo);
    }
