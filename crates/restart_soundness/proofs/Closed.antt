-- Behind a restart that is done each transaction that has changed a row is closed, or it was left out when the logs were read.
use Rattle.std.proofs.Common.{◌≡◌, ◌≢◌, ℕ, suc, ◌+◌, ◌-◌, ◌≤◌, Bool, true, false, cond, List, [], ◌∷◌, length, drop, inl, inr, refl, sym, ap, subst, ◌∙◌, arith, length-append}
use Rattle.std.specs.Prelude.{◌⊎◌, ◌==◌, ◌&&◌, ◌||◌}
use Rattle.std.proofs.lemmas.Bool.{cond_both, cases_Bool, both_ways, and_parts, or_cases, or_parts}
use Rattle.std.proofs.lemmas.List.{length-drop, length-take-le}
use Rattle.ds_disk.specs.Contents.{Contents}
use Rattle.ds_model.specs.Logs.{has_commit}
use Rattle.ds_model.specs.Rows.{Spot}
use Rattle.ds_model.specs.declared.log.LogRecord.{LogRecord}
use Rattle.ds_model.specs.declared.log.Body.{Body}
use Rattle.ds_model.specs.declared.log.Body.TheVariants as body
use Rattle.log_record.specs.declared.log.Log.{Log}
use Rattle.log_rows.specs.Rows.{is_change_of, is_end, has_changed, is_closed}
use Rattle.log_trans.specs.declared.course.Course.{Course}
use Rattle.log_trans.specs.Courses.{new_course, is_next, undone_one, after_body}
use Rattle.group_restart.specs.Course.{plan_read}
use Rattle.disk_restart.specs.Keeping.{KeepsRecords}
use Rattle.disk_restart.proofs.Whole.{ReadsSound}
use Rattle.sound_disk.specs.Sound.{IsSoundWith}
use Rattle.sound_disk.specs.Transactions.{course_in}
use Rattle.sound_disk.specs.Whole_logs.{AreWholeLogs}
use Rattle.sound_appends.proofs.Left.{commits}
use Rattle.sound_plans.specs.Ends.{takes, has_end, IsLeftOpen}
use Rattle.sound_plans.specs.Opens.{course_of}
use Rattle.sound_plans.specs.Queues.{records_for}
use Rattle.sound_reads.specs.Reads.{AreReadOf}
use Rattle.sound_steps.specs.Grown.{HaveEnded}
use Rattle.read_plans.specs.Ends.{OpensAreTaken}
use Rattle.restart_soundness.specs.Soundness.{asks_end, to_end}
use Rattle.restart_soundness.specs.Runs.{IsUnread}
use Rattle.restart_soundness.proofs.Rows.{tells_body, telling, commits_told, told_first, Keep, by_place}

-- ---- what closes a transaction

or_none : (a : Bool) → a ≡ (a || false)
or_none true = refl
or_none false = refl

or_all : (a : Bool) → true ≡ (a || true)
or_all true = refl
or_all false = refl

or_moved : (a b c : Bool) → ((a || b) || c) ≡ (a || (b || c))
or_moved true b c = refl
or_moved false b c = refl

and_false : (a : Bool) → (a && false) ≡ false
and_false true = refl
and_false false = refl

abbrev pub is_over : Course → Bool
is_over c = c.is_committed || c.is_ended

over_one : (own : Bool) (c : Course) (r : LogRecord) (b : Body) → is_over (cond own (after_body c r b) c) ≡ (is_over c || (own && is_end b))
over_one false c r b = or_none (is_over c)
over_one true c r (body.RowChange change) = or_none (is_over c)
over_one true c r (body.Compensation change n) = cond_both (is_next n c.undo) (undone_one c) c (λ (d : Course). is_over d ≡ (is_over c || false)) (λ is. or_none (is_over c)) (λ is. or_none (is_over c))
over_one true c r (body.System patches) = or_none (is_over c)
over_one true c r body.Commit = or_all (is_over c)
over_one true c r body.Ended = sym (or_all c.is_committed) ∙ or_all (is_over c)
over_one true c r (body.Checkpoint offset) = or_none (is_over c)
over_one true c r body.RestartEnd = or_none (is_over c)

over_from : (c : Course) (t : ℕ) (rs : List LogRecord) → is_over (course_in c t rs) ≡ (is_over c || is_closed rs t)
over_from c t [] = or_none (is_over c)
over_from c t (r ∷ rs) =
    over_from (cond (r.tran == t) (after_body c r r.body) c) t rs
    ∙ ap (λ (b : Bool). b || is_closed rs t) (over_one (r.tran == t) c r r.body)
    ∙ or_moved (is_over c) ((r.tran == t) && is_end r.body) (is_closed rs t)

-- it has a Commit or an Ended
pub closed_is : (t : ℕ) (rs : List LogRecord) → is_closed rs t ≡ is_over (course_of rs t)
closed_is t rs = sym (over_from new_course t rs)

-- ---- a transaction that has changed a row has changes

abbrev changes : Course → ℕ
changes c = length c.undo + length c.undone

moved_counts : (c : Course) → changes (undone_one c) ≡ changes c
moved_counts c =
    let n = length c.undo - 1 in
    let one = length-append c.undone (drop n c.undo) in
    let front = length-take-le n c.undo (omega arith) in
    let back = length-drop n c.undo in
    omega (arith, one, front, back)

body_counts : (c : Course) (r : LogRecord) (b : Body) → 1 ≤ changes c → 1 ≤ changes (after_body c r b)
body_counts c r (body.RowChange change) h = let more = length-append c.undo (record { version = r.version; lrsn = r.lrsn; tran = r.tran; body = body.RowChange change } ∷ []) in omega (arith, more)
body_counts c r (body.Compensation change n) h =
    cond_both (is_next n c.undo) (undone_one c) c (λ (d : Course). 1 ≤ changes d) (λ is. let same = moved_counts c in omega (arith, same, h)) (λ is. h)
body_counts c r (body.System patches) h = h
body_counts c r body.Commit h = h
body_counts c r body.Ended h = h
body_counts c r (body.Checkpoint offset) h = h
body_counts c r body.RestartEnd h = h

change_counts : (c : Course) (r : LogRecord) (b : Body) (s : Spot) → is_change_of s b ≡ true → 1 ≤ changes (after_body c r b)
change_counts c r (body.RowChange change) s h = let more = length-append c.undo (record { version = r.version; lrsn = r.lrsn; tran = r.tran; body = body.RowChange change } ∷ []) in omega (arith, more)
change_counts c r (body.Compensation change n) s h = absurd cc
change_counts c r (body.System patches) s h = absurd cc
change_counts c r body.Commit s h = absurd cc
change_counts c r body.Ended s h = absurd cc
change_counts c r (body.Checkpoint offset) s h = absurd cc
change_counts c r body.RestartEnd s h = absurd cc

counts_stay : (c : Course) (t : ℕ) (rs : List LogRecord) → 1 ≤ changes c → 1 ≤ changes (course_in c t rs)
counts_stay c t [] h = h
counts_stay c t (r ∷ rs) h = counts_stay (cond (r.tran == t) (after_body c r r.body) c) t rs (cond_both (r.tran == t) (after_body c r r.body) c (λ (d : Course). 1 ≤ changes d) (λ own. body_counts c r r.body h) (λ other. h))

changed_counts : (c : Course) (t : ℕ) (s : Spot) (rs : List LogRecord) → has_changed rs t s ≡ true → 1 ≤ changes (course_in c t rs)
changed_counts c t s [] h = absurd cc
changed_counts c t s (r ∷ rs) h = elim (or_cases ((r.tran == t) && is_change_of s r.body) (has_changed rs t s) h) [
  | inl e ↦ (
      let p = and_parts (r.tran == t) (is_change_of s r.body) e in
      counts_stay (cond (r.tran == t) (after_body c r r.body) c) t rs (subst (λ (b : Bool). 1 ≤ changes (cond b (after_body c r r.body) c)) (sym p.0) (change_counts c r r.body s p.1)))
  | inr e ↦ changed_counts (cond (r.tran == t) (after_body c r r.body) c) t s rs e
]

changed_some : (t : ℕ) (s : Spot) (rs : List LogRecord) → has_changed rs t s ≡ true → course_of rs t ≢ new_course
changed_some t s rs h e =
    let some = changed_counts new_course t s rs h in
    let none : changes (course_of rs t) ≡ 0 = ap changes e in
    omega (arith, some, none)

-- ---- the same row changes and commits

no_change : (b : Body) (s : Spot) → tells_body b ≡ false → is_change_of s b ≡ false
no_change (body.RowChange change) s e = absurd cc
no_change (body.Compensation change undone) s e = refl
no_change (body.System patches) s e = refl
no_change body.Commit s e = refl
no_change body.Ended s e = refl
no_change (body.Checkpoint offset) s e = refl
no_change body.RestartEnd s e = refl

change_if : (b : Bool) (r : LogRecord) (us : List LogRecord) (t : ℕ) (s : Spot) → tells_body r.body ≡ b → has_changed (cond b (r ∷ us) us) t s ≡ has_changed (r ∷ us) t s
change_if true r us t s e = refl
change_if false r us t s e =
    ap (λ (b : Bool). b || has_changed us t s) (sym (and_false (r.tran == t))) ∙ ap (λ (b : Bool). ((r.tran == t) && b) || has_changed us t s) (sym (no_change r.body s e))

pub changes_told : (rs : List LogRecord) (t : ℕ) (s : Spot) → has_changed (telling rs) t s ≡ has_changed rs t s
changes_told [] t s = refl
changes_told (r ∷ rs) t s = change_if (tells_body r.body) r (telling rs) t s refl ∙ ap (λ (b : Bool). ((r.tran == t) && is_change_of s r.body) || b) (changes_told rs t s)

told_if : (b : Bool) (xs ys us vs : List LogRecord) → telling xs ≡ telling ys → telling us ≡ telling vs → telling (cond b xs us) ≡ telling (cond b ys vs)
told_if true xs ys us vs h k = h
told_if false xs ys us vs h k = k

told_members : ReadsSound → (k : ℕ) (bs ds : List (List ℕ)) (first logs : List Log) → AreWholeLogs k bs first → AreWholeLogs k ds logs → length bs ≡ length ds → Keep bs ds → (m : ℕ) → telling (records_for logs m) ≡ telling (records_for first m)
told_members sound k [] [] [] [] are now as_many keep m = refl
told_members sound k [] [] [] (x ∷ xs) are now as_many keep m = absurd now
told_members sound k [] [] (l ∷ ls) logs are now as_many keep m = absurd are
told_members sound k [] (d ∷ ds) first logs are now as_many keep m = absurd (omega arith)
told_members sound k (b ∷ bs) [] first logs are now as_many keep m = absurd (omega arith)
told_members sound k (b ∷ bs) (d ∷ ds) [] logs are now as_many keep m = absurd are
told_members sound k (b ∷ bs) (d ∷ ds) (l ∷ ls) [] are now as_many keep m = absurd now
told_members sound k (b ∷ bs) (d ∷ ds) (l ∷ ls) (x ∷ xs) are now as_many keep m =
    let less : length bs ≡ length ds = omega arith in
    let same : x.member ≡ l.member = now.0.member_is ∙ sym are.0.member_is in
    subst (λ (n : ℕ). telling (cond (n == m) x.records (records_for xs m)) ≡ telling (cond (l.member == m) l.records (records_for ls m))) (sym same)
    (told_if (l.member == m) x.records l.records (records_for xs m) (records_for ls m) (told_first sound b d l.records x.records are.0.records_are now.0.records_are (keep 0)) (told_members sound (k + 1) bs ds ls xs are.1 now.1 less (λ i. keep (suc i)) m))

-- so it is of each member's log
pub told_of : ReadsSound → (c d : Contents) (first logs : List Log) → AreWholeLogs 1 c.logs first → AreWholeLogs 1 d.logs logs → length c.logs ≡ length d.logs → KeepsRecords c d → (m : ℕ) → telling (records_for logs m) ≡ telling (records_for first m)
told_of sound c d first logs are now as_many keeps m = told_members sound 1 c.logs d.logs first logs are now as_many (by_place c d keeps) m

-- ---- a transaction that isn't closed

-- it isn't one of those that have an Ended then
not_to_end : (first logs reads : List Log) (m t : ℕ) → HaveEnded (to_end first reads) logs → has_end logs m t ≡ false → asks_end first reads m t ≡ false
not_to_end first logs reads m t ends none = elim (cases_Bool (asks_end first reads m t)) as (λ _. asks_end first reads m t ≡ false) [
  | inl e ↦ absurd (both_ways (has_end logs m t) none (ends m t e))
  | inr e ↦ e
]

unread : ReadsSound → OpensAreTaken → (c d : Contents) (first logs reads : List Log) → IsSoundWith c first → AreWholeLogs 1 d.logs logs → AreReadOf first reads → length c.logs ≡ length d.logs → KeepsRecords c d → HaveEnded (to_end first reads) logs
    → (m t : ℕ) (spot : Spot) → t ≢ 0 → has_changed (records_for logs m) t spot ≡ true → is_closed (records_for logs m) t ≡ false → IsUnread c m t
unread sound opens c d first logs reads s now are as_many keeps ends m t spot numbered changed unclosed =
    let old = records_for first m in
    let new = records_for logs m in
    let same : telling new ≡ telling old = told_of sound c d first logs s.whole_logs now as_many keeps m in
    let parts = or_parts (course_of new t).is_committed (course_of new t).is_ended (sym (closed_is t new) ∙ unclosed) in
    let commit : has_commit old t ≡ has_commit new t = sym (commits_told old t) ∙ ap (λ (rs : List LogRecord). has_commit rs t) (sym same) ∙ commits_told new t in
    let uncommitted : (course_of old t).is_committed ≡ false = commits t old ∙ commit ∙ sym (commits t new) ∙ parts.0 in
    let there : has_changed old t spot ≡ true = sym (changes_told old t spot) ∙ ap (λ (rs : List LogRecord). has_changed rs t spot) (sym same) ∙ changes_told new t spot ∙ changed in
    let asked = or_parts (has_end first m t) (takes (plan_read reads).closings (plan_read reads).undo m t) (not_to_end first logs reads m t ends parts.1) in
    let left : IsLeftOpen first m t = record { numbered = numbered; some = changed_some t spot old there; uncommitted = uncommitted; unended = asked.0 } in
    elim (opens c first reads m t s are left) as (λ _. IsUnread c m t) [
      | inl taken ↦ absurd (both_ways (takes (plan_read reads).closings (plan_read reads).undo m t) asked.1 taken)
      | inr out ↦ record { logs = first; whole = s.whole_logs; unclosed = closed_is t old ∙ ap (λ (b : Bool). b || (course_of old t).is_ended) uncommitted ∙ asked.0; out = out }
    ]

pub closed_behind : ReadsSound → OpensAreTaken → (c d : Contents) (first logs reads : List Log) → IsSoundWith c first → AreWholeLogs 1 d.logs logs → AreReadOf first reads → length c.logs ≡ length d.logs → KeepsRecords c d → HaveEnded (to_end first reads) logs
    → (m t : ℕ) (spot : Spot) → t ≢ 0 → has_changed (records_for logs m) t spot ≡ true → (is_closed (records_for logs m) t ≡ true) ⊎ IsUnread c m t
closed_behind sound opens c d first logs reads s now are as_many keeps ends m t spot numbered changed = elim (cases_Bool (is_closed (records_for logs m) t)) as (λ _. (is_closed (records_for logs m) t ≡ true) ⊎ IsUnread c m t) [
  | inl e ↦ inl e
  | inr e ↦ inr (unread sound opens c d first logs reads s now are as_many keeps ends m t spot numbered changed e)
]
