-- A member's log gets one record more.
use Rattle.std.proofs.Common.{◌≡◌, ℕ, max, Bool, true, false, cond, List, [], ◌∷◌, ◌++◌, inl, inr, refl, sym, ap, subst, ◌∙◌, arith}
use Rattle.std.specs.Prelude.{◌==◌, ◌||◌}
use Rattle.std.proofs.lemmas.Bool.{cond_both, cases_Bool, or_cases, eqb-true, eq-eqb, both_ways}
use Rattle.std.proofs.lemmas.Bool.Decides.{nat_tests}
use Rattle.ds_model.specs.declared.log.LogRecord.{LogRecord}
use Rattle.ds_model.specs.RecordBytes.{IsAllowed}
use Rattle.log_record.specs.declared.log.Log.{Log}
use Rattle.log_trans.specs.declared.course.Course.{Course}
use Rattle.log_trans.specs.Courses.{new_course, after_body}
use Rattle.log_trans.specs.Numbers.{greatest}
use Rattle.log_merge.specs.Merging.{all_records}
use Rattle.sound_disk.specs.Laws.{with_record}
use Rattle.sound_appends.specs.Appends.{IsNext, Appends}
use Rattle.sound_appends.proofs.Numbers.{until, all_split, all_with, greatest_more}
use Rattle.sound_appends.proofs.Left.{course_last}
use Rattle.sound_plans.specs.Opens.{course_of}
use Rattle.sound_plans.specs.Queues.{has_log, records_for, length_for}

abbrev pub put_record : List Log → ℕ → LogRecord → List Log
put_record [] member r = []
put_record (log ∷ logs) member r = cond (log.member == member) (with_record log r ∷ logs) (log ∷ put_record logs member r)

-- ---- the log of a member among all

pub record AtMember (logs : List Log) (member : ℕ) (r : LogRecord) : Type 0 where
  pub front : List Log
  pub log : Log
  pub back : List Log
  pub logs_are : logs ≡ front ++ log ∷ back
  pub put_are : put_record logs member r ≡ front ++ with_record log r ∷ back
  pub member_is : log.member ≡ member
  pub records_are : log.records ≡ records_for logs member
  pub length_is : log.length ≡ length_for logs member

at_first : (log : Log) (logs : List Log) (member : ℕ) (r : LogRecord) → (log.member == member) ≡ true → AtMember (log ∷ logs) member r
at_first log logs member r is = record {
  front = [];
  log = log;
  back = logs;
  logs_are = refl;
  put_are = ap (λ (b : Bool). cond b (with_record log r ∷ logs) (log ∷ put_record logs member r)) is;
  member_is = eqb-true log.member member is;
  records_are = sym (ap (λ (b : Bool). cond b log.records (records_for logs member)) is);
  length_is = sym (ap (λ (b : Bool). cond b log.length (length_for logs member)) is);
}

at_later : (log : Log) (logs : List Log) (member : ℕ) (r : LogRecord) → (log.member == member) ≡ false → AtMember logs member r → AtMember (log ∷ logs) member r
at_later log logs member r other a = record {
  front = log ∷ a.front;
  log = a.log;
  back = a.back;
  logs_are = ap (λ (ls : List Log). log ∷ ls) a.logs_are;
  put_are = ap (λ (b : Bool). cond b (with_record log r ∷ logs) (log ∷ put_record logs member r)) other ∙ ap (λ (ls : List Log). log ∷ ls) a.put_are;
  member_is = a.member_is;
  records_are = a.records_are ∙ sym (ap (λ (b : Bool). cond b log.records (records_for logs member)) other);
  length_is = a.length_is ∙ sym (ap (λ (b : Bool). cond b log.length (length_for logs member)) other);
}

pub at_member : (logs : List Log) (member : ℕ) (r : LogRecord) → has_log logs member ≡ true → AtMember logs member r
at_member [] member r h = absurd cc
at_member (log ∷ logs) member r h = elim (cases_Bool (log.member == member)) [
  | inl e ↦ at_first log logs member r e
  | inr e ↦ elim (or_cases (log.member == member) (has_log logs member) h) [
    | inl f ↦ absurd (both_ways (log.member == member) e f)
    | inr f ↦ at_later log logs member r e (at_member logs member r f)
  ]
]

-- ---- what the logs are then

pub has_still : (logs : List Log) (member : ℕ) (r : LogRecord) (m : ℕ) → has_log (put_record logs member r) m ≡ has_log logs m
has_still [] member r m = refl
has_still (log ∷ logs) member r m =
    cond_both (log.member == member) (with_record log r ∷ logs) (log ∷ put_record logs member r) (λ (ls : List Log). has_log ls m ≡ has_log (log ∷ logs) m)
    (λ is. refl) (λ is. ap (λ (b : Bool). (log.member == m) || b) (has_still logs member r m))

pub records_own : (logs : List Log) (member : ℕ) (r : LogRecord) → has_log logs member ≡ true → records_for (put_record logs member r) member ≡ records_for logs member ++ r ∷ []
records_own [] member r h = absurd cc
records_own (log ∷ logs) member r h = elim (cases_Bool (log.member == member)) [
  | inl e ↦ (
      ap (λ (b : Bool). records_for (cond b (with_record log r ∷ logs) (log ∷ put_record logs member r)) member) e
      ∙ ap (λ (b : Bool). cond b (log.records ++ r ∷ []) (records_for logs member)) e
      ∙ ap (λ (b : Bool). cond b log.records (records_for logs member) ++ r ∷ []) (sym e))
  | inr e ↦ elim (or_cases (log.member == member) (has_log logs member) h) [
    | inl f ↦ absurd (both_ways (log.member == member) e f)
    | inr f ↦ (
        ap (λ (b : Bool). records_for (cond b (with_record log r ∷ logs) (log ∷ put_record logs member r)) member) e
        ∙ ap (λ (b : Bool). cond b log.records (records_for (put_record logs member r) member)) e
        ∙ records_own logs member r f
        ∙ ap (λ (b : Bool). cond b log.records (records_for logs member) ++ r ∷ []) (sym e))
  ]
]

not_both : (a m n : ℕ) → (a == m) ≡ true → (m == n) ≡ false → (a == n) ≡ false
not_both a m n e f = grind (arith, nat_tests)

pub records_other : (logs : List Log) (member : ℕ) (r : LogRecord) (m : ℕ) → (member == m) ≡ false → records_for (put_record logs member r) m ≡ records_for logs m
records_other [] member r m other = refl
records_other (log ∷ logs) member r m other = elim (cases_Bool (log.member == member)) [
  | inl e ↦ (
      let apart : (log.member == m) ≡ false = not_both log.member member m e other in
      ap (λ (b : Bool). records_for (cond b (with_record log r ∷ logs) (log ∷ put_record logs member r)) m) e
      ∙ ap (λ (b : Bool). cond b (log.records ++ r ∷ []) (records_for logs m)) apart
      ∙ ap (λ (b : Bool). cond b log.records (records_for logs m)) (sym apart))
  | inr e ↦ (
      ap (λ (b : Bool). records_for (cond b (with_record log r ∷ logs) (log ∷ put_record logs member r)) m) e
      ∙ ap (λ (rs : List LogRecord). cond (log.member == m) log.records rs) (records_other logs member r m other))
]

pub greatest_put : (logs : List Log) (member : ℕ) (r : LogRecord) → has_log logs member ≡ true → greatest (all_records (put_record logs member r)) ≡ max (greatest (all_records logs)) r.lrsn
greatest_put logs member r h =
    let a = at_member logs member r h in
    let behind : greatest (all_records (put_record logs member r)) ≡ greatest (until a.front a.log ++ r ∷ all_records a.back) =
    ap (λ (ls : List Log). greatest (all_records ls)) a.put_are ∙ ap greatest (all_with a.front a.log a.back r) in
    let before : greatest (all_records logs) ≡ greatest (until a.front a.log ++ all_records a.back) = ap (λ (ls : List Log). greatest (all_records ls)) a.logs_are ∙ ap greatest (all_split a.front a.log a.back) in
    let more = greatest_more (until a.front a.log) (r ∷ all_records a.back) in
    let split = greatest_more (until a.front a.log) (all_records a.back) in
    omega (arith, behind, before, more, split)

-- ---- courses

course_if : (c : Course) (r : LogRecord) (b : Bool) (own : Bool) (P : Course → Type 0) → own ≡ b → P (cond b (after_body c r r.body) c) → P (cond own (after_body c r r.body) c)
course_if c r b own P e h = subst (λ (x : Bool). P (cond x (after_body c r r.body) c)) (sym e) h

-- of the transaction of the record
pub course_own : (logs : List Log) (member : ℕ) (r : LogRecord) → has_log logs member ≡ true → course_of (records_for (put_record logs member r) member) r.tran ≡ after_body (course_of (records_for logs member) r.tran) r r.body
course_own logs member r h =
    ap (λ (rs : List LogRecord). course_of rs r.tran) (records_own logs member r h)
    ∙ course_last new_course r.tran (records_for logs member) r
    ∙ ap (λ (b : Bool). cond b (after_body (course_of (records_for logs member) r.tran) r r.body) (course_of (records_for logs member) r.tran)) (eq-eqb r.tran r.tran refl)

-- of another one of the log
pub course_beside : (logs : List Log) (member : ℕ) (r : LogRecord) (t : ℕ) → has_log logs member ≡ true → (r.tran == t) ≡ false → course_of (records_for (put_record logs member r) member) t ≡ course_of (records_for logs member) t
course_beside logs member r t h other =
    ap (λ (rs : List LogRecord). course_of rs t) (records_own logs member r h)
    ∙ course_last new_course t (records_for logs member) r
    ∙ ap (λ (b : Bool). cond b (after_body (course_of (records_for logs member) t) r r.body) (course_of (records_for logs member) t)) other

-- ---- appends

-- the record is one that a restart appends to a log with these records
pub record PutIs (logs : List Log) (member : ℕ) (r : LogRecord) : Type 0 where
  pub appends : Appends logs r (put_record logs member r)
  pub member_is : appends.log.member ≡ member

pub put_is_at : (logs : List Log) (member : ℕ) (r : LogRecord) → has_log logs member ≡ true → IsAllowed r → ((log : Log) → log.records ≡ records_for logs member → log.length ≡ length_for logs member → IsNext logs log r r.body) → PutIs logs member r
put_is_at logs member r h allowed next =
    let a = at_member logs member r h in
    record {
      appends = record { front = a.front; log = a.log; back = a.back; logs_are = a.logs_are; after_are = a.put_are; allowed = allowed; next = next a.log a.records_are a.length_is };
      member_is = a.member_is;
    }

pub put_is : (logs : List Log) (member : ℕ) (r : LogRecord) → has_log logs member ≡ true → IsAllowed r → ((log : Log) → log.records ≡ records_for logs member → IsNext logs log r r.body) → PutIs logs member r
put_is logs member r h allowed next = put_is_at logs member r h allowed (λ log records size. next log records)
