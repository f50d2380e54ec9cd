-- Closings that fit the logs are appended one after the other.
use Rattle.std.proofs.Common.{◌≡◌, ℕ, ◌≤◌, max, Bool, true, false, cond, List, [], ◌∷◌, ◌++◌, length, inl, inr, refl, sym, ap, subst, ◌∙◌, arith}
use Rattle.std.specs.Prelude.{◌==◌}
use Rattle.std.proofs.lemmas.Bool.{cases_Bool, eqb-true}
use Rattle.ds_model.specs.declared.log.LogRecord.{LogRecord}
use Rattle.log_record.specs.declared.log.Log.{Log}
use Rattle.log_trans.specs.declared.course.Course.{Course}
use Rattle.log_trans.specs.Courses.{new_course, after_body}
use Rattle.log_trans.specs.Numbers.{greatest}
use Rattle.log_merge.specs.Merging.{all_records}
use Rattle.restart_plan.specs.declared.opened.Closing.{Closing}
use Rattle.group_restart.specs.Records.{ended}
use Rattle.sound_disk.specs.Laws.{last_number}
use Rattle.sound_appends.proofs.Numbers.{until, all_split, greatest_more}
use Rattle.sound_appends.proofs.Left.{course_last}
use Rattle.sound_plans.specs.Opens.{course_of}
use Rattle.sound_plans.specs.Queues.{has_log, records_for, CanClose, ClosingsFit, ClosingsAppend}
use Rattle.sound_plans.proofs.Logs.{put_record, at_member, has_still, records_own, records_other, PutIs, put_is}

-- ---- numbers

last_below : (low : ℕ) (rs : List LogRecord) → last_number low rs ≤ max low (greatest rs)
last_below low [] = omega arith
last_below low (r ∷ rs) = let ih = last_below r.lrsn rs in omega (arith, ih)

pub last_of_member : (logs : List Log) (member : ℕ) (r : LogRecord) → has_log logs member ≡ true → last_number 0 (records_for logs member) ≤ greatest (all_records logs)
last_of_member logs member r h =
    let a = at_member logs member r h in
    let low = last_below 0 a.log.records in
    let all : greatest (all_records logs) ≡ greatest (until a.front a.log ++ all_records a.back) = ap (λ (ls : List Log). greatest (all_records ls)) a.logs_are ∙ ap greatest (all_split a.front a.log a.back) in
    let more = greatest_more (until a.front a.log) (all_records a.back) in
    let own = greatest_more (all_records a.front) a.log.records in
    let le : last_number 0 a.log.records ≤ greatest (all_records logs) = omega (arith, low, all, more, own) in
    subst (λ (rs : List LogRecord). last_number 0 rs ≤ greatest (all_records logs)) a.records_are le

pub last_with : (low : ℕ) (rs : List LogRecord) (r : LogRecord) → last_number low (rs ++ r ∷ []) ≡ r.lrsn
last_with low [] r = refl
last_with low (x ∷ rs) r = last_with x.lrsn rs r

-- ---- an Ended leaves what is undone as it was

-- what an Ended changes of no course
pub record SameUndo (c d : Course) : Type 0 where
  pub undo : c.undo ≡ d.undo
  pub undone : c.undone ≡ d.undone
  pub committed : c.is_committed ≡ d.is_committed

pub same_undo : (c : Course) → SameUndo c c
same_undo c = record { undo = refl; undone = refl; committed = refl }

same_if : (b : Bool) (c : Course) (r : LogRecord) → SameUndo (after_body c r r.body) c → SameUndo (cond b (after_body c r r.body) c) c
same_if true c r h = h
same_if false c r h = same_undo c

pub put_leaves : (logs : List Log) (member : ℕ) (r : LogRecord) (m t : ℕ) → has_log logs member ≡ true → ((c : Course) → SameUndo (after_body c r r.body) c) → SameUndo (course_of (records_for (put_record logs member r) m) t) (course_of (records_for logs m) t)
put_leaves logs member r m t h same = elim (cases_Bool (member == m)) [
  | inl e ↦ (
      let is : member ≡ m = eqb-true member m e in
      subst (λ (k : ℕ). SameUndo (course_of (records_for (put_record logs member r) k) t) (course_of (records_for logs k) t)) is
      (subst (λ (rs : List LogRecord). SameUndo (course_of rs t) (course_of (records_for logs member) t)) (sym (records_own logs member r h))
      (subst (λ (c : Course). SameUndo c (course_of (records_for logs member) t)) (sym (course_last new_course t (records_for logs member) r))
      (same_if (r.tran == t) (course_of (records_for logs member) t) r (same (course_of (records_for logs member) t))))))
  | inr e ↦ subst (λ (rs : List LogRecord). SameUndo (course_of rs t) (course_of (records_for logs m) t)) (sym (records_other logs member r m e)) (same_undo (course_of (records_for logs m) t))
]

pub ended_leaves : (logs : List Log) (member lrsn tran m t : ℕ) → has_log logs member ≡ true → SameUndo (course_of (records_for (put_record logs member (ended lrsn tran)) m) t) (course_of (records_for logs m) t)
ended_leaves logs member lrsn tran m t h = put_leaves logs member (ended lrsn tran) m t h (λ c. record { undo = refl; undone = refl; committed = refl })

-- ---- one closing

pub closes : (logs : List Log) (c : Closing) → CanClose logs c → PutIs logs c.member (ended c.lrsn c.tran)
closes logs c h =
    let last = last_of_member logs c.member (ended c.lrsn c.tran) h.has in
    put_is logs c.member (ended c.lrsn c.tran) h.has h.allowed (λ log is. record {
      number = record {
        low = let e : last_number 0 log.records ≡ c.lrsn = ap (last_number 0) is ∙ sym h.number in omega (arith, e);
        high = let e = h.number in omega (arith, e, last);
      };
      undone = ap (λ (rs : List LogRecord). length (course_of rs c.tran).undo) is ∙ h.undone;
      some = ap (λ (rs : List LogRecord). length (course_of rs c.tran).undone == 0) is ∙ h.some;
    })

-- the numbers of the other closings are still the last of their logs
number_still : (logs : List Log) (c d : Closing) → CanClose logs c → CanClose logs d → d.lrsn ≡ last_number 0 (records_for (put_record logs c.member (ended c.lrsn c.tran)) d.member)
number_still logs c d h k = elim (cases_Bool (c.member == d.member)) [
  | inl e ↦ (
      let same : c.member ≡ d.member = eqb-true c.member d.member e in
      let last : last_number 0 (records_for (put_record logs c.member (ended c.lrsn c.tran)) c.member) ≡ c.lrsn =
      ap (last_number 0) (records_own logs c.member (ended c.lrsn c.tran) h.has) ∙ last_with 0 (records_for logs c.member) (ended c.lrsn c.tran) in
      k.number ∙ ap (λ (m : ℕ). last_number 0 (records_for logs m)) (sym same) ∙ sym h.number ∙ sym last
      ∙ ap (λ (m : ℕ). last_number 0 (records_for (put_record logs c.member (ended c.lrsn c.tran)) m)) same)
  | inr e ↦ k.number ∙ ap (last_number 0) (sym (records_other logs c.member (ended c.lrsn c.tran) d.member e))
]

closes_still : (logs : List Log) (c d : Closing) → CanClose logs c → CanClose logs d → CanClose (put_record logs c.member (ended c.lrsn c.tran)) d
closes_still logs c d h k =
    let same = ended_leaves logs c.member c.lrsn c.tran d.member d.tran h.has in
    record {
      has = has_still logs c.member (ended c.lrsn c.tran) d.member ∙ k.has;
      number = number_still logs c d h k;
      undone = ap (λ (us : List LogRecord). length us) same.undo ∙ k.undone;
      some = ap (λ (us : List LogRecord). length us == 0) same.undone ∙ k.some;
      allowed = k.allowed;
    }

pub all_close_still : (logs : List Log) (c : Closing) (cs : List Closing) → CanClose logs c → ClosingsFit logs cs → ClosingsFit (put_record logs c.member (ended c.lrsn c.tran)) cs
all_close_still logs c [] h k = tt
all_close_still logs c (d ∷ cs) h k = (closes_still logs c d h k.0, all_close_still logs c cs h k.1)

-- ---- all

pub closings_append : ClosingsAppend
closings_append logs [] h = (logs, refl)
closings_append logs (c ∷ cs) h =
    let mid = put_record logs c.member (ended c.lrsn c.tran) in
    let p = closes logs c h.0 in
    let rest = closings_append mid cs (all_close_still logs c cs h.0 h.1) in
    (rest.0, (mid, p.appends, p.member_is, rest.1))
