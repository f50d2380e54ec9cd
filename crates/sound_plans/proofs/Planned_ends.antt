-- A plan closes each transaction that a log leaves open, or undoes a change of it.
use Rattle.std.proofs.Common.{◌≡◌, ◌≢◌, ℕ, ◌-◌, Bool, true, false, cond, List, [], ◌∷◌, ◌++◌, length, reverse, Option, Some, None, inl, inr, refl, sym, ap, subst, ◌∙◌}
use Rattle.std.specs.Prelude.{◌==◌, ◌&&◌, slice_get}
use Rattle.std.specs.List.{list_any, AllByRecursion}
use Rattle.std.specs.FinMap.{entries, get, get-entries}
use Rattle.std.proofs.lemmas.Bool.{cond_both, cases_Bool, both_ways, or_cases, or_left, or_right, eqb-true, eq-eqb, ne_eqb}
use Rattle.std.proofs.lemmas.List.{nil_from_length, reverse-reverse}
use Rattle.std.proofs.lemmas.List.Folds.{list_any-append}
use Rattle.ds_model.specs.declared.log.LogRecord.{LogRecord}
use Rattle.log_record.specs.declared.log.Log.{Log}
use Rattle.log_trans.specs.declared.opened.OpenTran.{OpenTran}
use Rattle.log_trans.specs.Courses.{new_course, courses_of, open_trans}
use Rattle.restart_plan.specs.declared.opened.Closing.{Closing}
use Rattle.restart_plan.specs.declared.opened.Opened.{Opened}
use Rattle.restart_plan.specs.declared.opened.Undo.{Undo}
use Rattle.restart_plan.specs.Opened.{nothing_open, closing, closed, with_undo, with_changes, with_tran, with_trans, with_ending, needs_end, with_last, with_log, with_logs}
use Rattle.restart_plan.specs.Plans.{opened_of, plan_of}
use Rattle.sound_disk.specs.Transactions.{is_among}
use Rattle.sound_plans.specs.Ends.{is_closing, PlanTakesOpens}
use Rattle.sound_plans.specs.Opens.{course_of, IsOpenTran, OpensTell}
use Rattle.sound_plans.specs.Plans.{QueueOfPlanFits}
use Rattle.sound_plans.specs.Queues.{records_for, undos, is_of, QueueFits}
use Rattle.sound_plans.proofs.Ends_put.{none_any}
use Rattle.sound_plans.proofs.Opens.{tells_all}
use Rattle.sound_plans.proofs.Planned_queue.{ids}
use Rattle.sound_plans.proofs.Queues.{head_none}
use Rattle.sound_plans.proofs.Settled.{listed, some_course, open_is, no_records}

-- ---- closings

abbrev closes : List Closing → ℕ → ℕ → Bool
closes cs m t = list_any (is_closing m t) cs

closes_more : (cs ds : List Closing) (m t : ℕ) → closes cs m t ≡ true → closes (cs ++ ds) m t ≡ true
closes_more cs ds m t h = list_any-append (is_closing m t) cs ds ∙ or_left (closes cs m t) (closes ds m t) h

closes_last : (cs : List Closing) (m t lrsn : ℕ) → closes (cs ++ closing m t lrsn ∷ []) m t ≡ true
closes_last cs m t lrsn =
    let own : is_closing m t (closing m t lrsn) ≡ true = ap (λ (b : Bool). b && (t == t)) (eq-eqb m m refl) ∙ eq-eqb t t refl in
    list_any-append (is_closing m t) cs (closing m t lrsn ∷ []) ∙ or_right (closes cs m t) (closes (closing m t lrsn ∷ []) m t) (or_left (is_closing m t (closing m t lrsn)) false own)

-- what is closed stays so
tran_keeps : (k lrsn : ℕ) (o : Opened) (x : OpenTran) (m t : ℕ) → closes o.closings m t ≡ true → closes (with_tran k lrsn o x).closings m t ≡ true
tran_keeps k lrsn o x m t h =
    let close = closed o (closing k x.id lrsn) in
    let keep = with_undo o (with_changes k x.id true o.undo x.undo) in
    cond_both (x.id == 0) o (cond (length x.undo == 0) close keep) (λ (p : Opened). closes p.closings m t ≡ true) (λ z. h)
    (λ z. cond_both (length x.undo == 0) close keep (λ (p : Opened). closes p.closings m t ≡ true) (λ none. closes_more o.closings (closing k x.id lrsn ∷ []) m t h) (λ some. h))

trans_keep : (k lrsn : ℕ) (o : Opened) (xs : List OpenTran) (m t : ℕ) → closes o.closings m t ≡ true → closes (with_trans k lrsn o xs).closings m t ≡ true
trans_keep k lrsn o [] m t h = h
trans_keep k lrsn o (x ∷ xs) m t h = trans_keep k lrsn (with_tran k lrsn o x) xs m t (tran_keeps k lrsn o x m t h)

last_keeps : (k : ℕ) (o : Opened) (xs : List OpenTran) (found : Option LogRecord) (m t : ℕ) → closes o.closings m t ≡ true → closes (with_last o k xs found).closings m t ≡ true
last_keeps k o xs None m t h = h
last_keeps k o xs (Some last) m t h =
    trans_keep k last.lrsn (cond (needs_end last xs) (with_ending o k) o) xs m t (cond_both (needs_end last xs) (with_ending o k) o (λ (p : Opened). closes p.closings m t ≡ true) (λ e. h) (λ e. h))

logs_keep : (logs : List Log) (o : Opened) (m t : ℕ) → closes o.closings m t ≡ true → closes (with_logs o logs).closings m t ≡ true
logs_keep [] o m t h = h
logs_keep (log ∷ logs) o m t h = logs_keep logs (with_log o log) m t (last_keeps log.member o (open_trans log.records) (slice_get log.records (length log.records - 1)) m t h)

-- ---- one of which nothing is to be undone is closed

abbrev IsClosedBy : List Closing → ℕ → OpenTran → Type 0
IsClosedBy cs m x = (length x.undo == 0) ≡ true → closes cs m x.id ≡ true

tran_closes : (m lrsn : ℕ) (o : Opened) (x : OpenTran) → x.id ≢ 0 → IsClosedBy (with_tran m lrsn o x).closings m x
tran_closes m lrsn o x some none =
    let close = closed o (closing m x.id lrsn) in
    let keep = with_undo o (with_changes m x.id true o.undo x.undo) in
    let first : with_tran m lrsn o x ≡ close = ap (λ (b : Bool). cond b o (cond (length x.undo == 0) close keep)) (ne_eqb x.id 0 some) ∙ ap (λ (b : Bool). cond b close keep) none in
    subst (λ (p : Opened). closes p.closings m x.id ≡ true) (sym first) (closes_last o.closings m x.id lrsn)

trans_close : (rs : List LogRecord) (m lrsn : ℕ) (o : Opened) (xs : List OpenTran) → AllByRecursion (IsOpenTran rs) xs → AllByRecursion (IsClosedBy (with_trans m lrsn o xs).closings m) xs
trans_close rs m lrsn o [] h = tt
trans_close rs m lrsn o (x ∷ xs) h = (
  λ none. trans_keep m lrsn (with_tran m lrsn o x) xs m x.id (tran_closes m lrsn o x h.0.numbered none),
  trans_close rs m lrsn (with_tran m lrsn o x) xs h.1,
)

-- of those of the log one is listed
closed_if : (cs : List Closing) (m t : ℕ) (xs : List OpenTran) → AllByRecursion (IsClosedBy cs m) xs → AllByRecursion (λ (x : OpenTran). x.id ≡ t → (length x.undo == 0) ≡ true) xs → is_among t (ids xs) ≡ true → closes cs m t ≡ true
closed_if cs m t [] all none h = absurd cc
closed_if cs m t (x ∷ xs) all none h = elim (or_cases (x.id == t) (is_among t (ids xs)) h) [
  | inl e ↦ (let is : x.id ≡ t = eqb-true x.id t e in subst (λ (n : ℕ). closes cs m n ≡ true) is (all.0 (none.0 is)))
  | inr e ↦ closed_if cs m t xs all.1 none.1 e
]

none_undone : (rs : List LogRecord) (t : ℕ) (xs : List OpenTran) → AllByRecursion (IsOpenTran rs) xs → (course_of rs t).undo ≡ [] → AllByRecursion (λ (x : OpenTran). x.id ≡ t → (length x.undo == 0) ≡ true) xs
none_undone rs t [] h e = tt
none_undone rs t (x ∷ xs) h e = (
  λ is. ap (λ (us : List LogRecord). length us == 0) (h.0.undo_is ∙ ap (λ (n : ℕ). (course_of rs n).undo) is ∙ e),
  none_undone rs t xs h.1 e,
)

nobody : (t : ℕ) (xs : List OpenTran) → AllByRecursion (IsOpenTran []) xs → is_among t (ids xs) ≡ true → ⊥
nobody t [] h is = cc
nobody t (x ∷ xs) h is = let spoken = h.0.spoken in cc

last_closes : OpensTell → (rs : List LogRecord) (m t : ℕ) (o : Opened) (found : Option LogRecord) → slice_get rs (length rs - 1) ≡ found → (course_of rs t).undo ≡ [] → is_among t (ids (open_trans rs)) ≡ true
    → closes (with_last o m (open_trans rs) found).closings m t ≡ true
last_closes tell rs m t o None e none is =
    let empty : rs ≡ [] = no_records rs e in
    absurd (nobody t (open_trans []) (tell []) (subst (λ (l : List LogRecord). is_among t (ids (open_trans l)) ≡ true) empty is))
last_closes tell rs m t o (Some last) e none is =
    let begun = cond (needs_end last (open_trans rs)) (with_ending o m) o in
    closed_if (with_trans m last.lrsn begun (open_trans rs)).closings m t (open_trans rs) (trans_close rs m last.lrsn begun (open_trans rs) (tell rs)) (none_undone rs t (open_trans rs) (tell rs) none) is

logs_close : OpensTell → (logs : List Log) (o : Opened) (m t : ℕ) → (course_of (records_for logs m) t).undo ≡ [] → is_among t (ids (open_trans (records_for logs m))) ≡ true → closes (with_logs o logs).closings m t ≡ true
logs_close tell [] o m t none is = absurd (nobody t (open_trans []) (tell []) is)
logs_close tell (log ∷ logs) o m t none is = elim (cases_Bool (log.member == m)) [
  | inl e ↦ (
      let own : records_for (log ∷ logs) m ≡ log.records = ap (λ (b : Bool). cond b log.records (records_for logs m)) e in
      let here : closes (with_log o log).closings log.member t ≡ true =
      last_closes tell log.records log.member t o (slice_get log.records (length log.records - 1)) refl (subst (λ (rs : List LogRecord). (course_of rs t).undo ≡ []) own none) (subst (λ (rs : List LogRecord). is_among t (ids (open_trans rs)) ≡ true) own is) in
      logs_keep logs (with_log o log) m t (subst (λ (n : ℕ). closes (with_log o log).closings n t ≡ true) (eqb-true log.member m e) here))
  | inr e ↦ (
      let rest : records_for (log ∷ logs) m ≡ records_for logs m = ap (λ (b : Bool). cond b log.records (records_for logs m)) e in
      logs_close tell logs (with_log o log) m t (subst (λ (rs : List LogRecord). (course_of rs t).undo ≡ []) rest none) (subst (λ (rs : List LogRecord). is_among t (ids (open_trans rs)) ≡ true) rest is))
]

-- ---- the queue has the others

queue_takes : (logs : List Log) (us : List Undo) (m t : ℕ) → QueueFits logs us → (course_of (records_for logs m) t).is_committed ≡ false → ((course_of (records_for logs m) t).undo ≡ [] → ⊥) → list_any (is_of m t) us ≡ true
queue_takes logs us m t fits active some = elim (cases_Bool (list_any (is_of m t) us)) as (λ _. list_any (is_of m t) us ≡ true) [
  | inl e ↦ e
  | inr e ↦ absurd (elim (fits m t) as (λ _. ⊥) [
    | inl settled ↦ elim settled.1 as (λ _. ⊥) [
      | inl k ↦ both_ways (course_of (records_for logs m) t).is_committed active k
      | inr k ↦ some k
    ]
    | inr q ↦
        let left = undos m t true (course_of (records_for logs m) t).undo in
        let nothing : reverse left ≡ [] = sym q.is ∙ none_any (is_of m t) us e in
        let none : left ≡ [] = sym (reverse-reverse left) ∙ ap reverse nothing in
        some (head_none m t true (course_of (records_for logs m) t).undo q.own none)
  ])
]

-- ---- both

is_listed : (rs : List LogRecord) (t : ℕ) → t ≢ 0 → course_of rs t ≢ new_course → (course_of rs t).is_committed ≡ false → (course_of rs t).is_ended ≡ false → is_among t (ids (open_trans rs)) ≡ true
is_listed rs t numbered some active unended = elim (some_course rs (courses_of rs) t (get (courses_of rs) t) (tells_all rs) (ne_eqb t 0 numbered) refl) [
  | inl n ↦ absurd (some n)
  | inr s ↦ listed (entries (courses_of rs)) t (course_of rs t) (sym (get-entries (courses_of rs) t) ∙ s) (open_is (course_of rs t) active unended)
]

pub plan_takes_opens : OpensTell → QueueOfPlanFits → PlanTakesOpens
unfolding plan_of
plan_takes_opens tell queue bytes logs m t w f o =
    let rs = records_for logs m in
    let cs = (opened_of logs).closings in
    let us = (plan_of logs).undo in
    elim (cases_Bool (length (course_of rs t).undo == 0)) [
      | inl e ↦ (
          let none : (course_of rs t).undo ≡ [] = nil_from_length (course_of rs t).undo (eqb-true (length (course_of rs t).undo) 0 e) in
          or_left (closes cs m t) (list_any (is_of m t) us) (logs_close tell logs nothing_open m t none (is_listed rs t o.numbered o.some o.uncommitted o.unended)))
      | inr e ↦ or_right (closes cs m t) (list_any (is_of m t) us)
          (queue_takes logs us m t (queue bytes logs w f) o.uncommitted (λ none. both_ways (length (course_of rs t).undo == 0) e (ap (λ (xs : List LogRecord). length xs == 0) none)))
    ]
