-- Each transaction of which something is closed or undone has an Ended record then, and keeps it.
use Rattle.std.proofs.Common.{◌≡◌, ℕ, Bool, true, false, cond, List, [], ◌∷◌, ◌++◌, reverse, inl, inr, refl, sym, ap, subst, ◌∙◌, append_assoc}
use Rattle.std.specs.Prelude.{◌⊎◌, ◌==◌, ◌||◌, filter}
use Rattle.std.specs.List.{list_any}
use Rattle.std.proofs.lemmas.Bool.{cond_both, cases_Bool, and_parts, or_cases, or_left, or_right, or_from, or_parts, eqb-true}
use Rattle.std.proofs.lemmas.List.{reverse-reverse}
use Rattle.std.proofs.lemmas.List.Folds.{list_any-append}
use Rattle.ds_model.specs.declared.log.LogRecord.{LogRecord}
use Rattle.ds_model.specs.declared.log.Body.{Body}
use Rattle.ds_model.specs.declared.log.Body.TheVariants as body
use Rattle.log_record.specs.declared.log.Log.{Log}
use Rattle.log_trans.specs.declared.course.Course.{Course}
use Rattle.log_trans.specs.Courses.{new_course, is_next, undone_one, after_body}
use Rattle.restart_plan.specs.declared.opened.Closing.{Closing}
use Rattle.restart_plan.specs.declared.opened.Undo.{Undo}
use Rattle.group_restart.specs.Records.{ended, compensation}
use Rattle.sound_appends.proofs.Left.{course_last}
use Rattle.sound_plans.specs.Ends.{is_closing, has_end, ToEnd, is_checkpoint, has_checkpoint, IsNothing, HasGrown, EndAll}
use Rattle.sound_plans.specs.Opens.{course_of}
use Rattle.sound_plans.specs.Queues.{has_log, records_for, undos, is_of, QueueFits}
use Rattle.sound_plans.proofs.Logs.{put_record, has_still, records_own, records_other, course_own}
use Rattle.sound_plans.proofs.Queues.{flag_some, head_of, head_none, first_queue}

-- ---- an Ended record stays

pub body_ends : (c : Course) (r : LogRecord) (b : Body) → c.is_ended ≡ true → (after_body c r b).is_ended ≡ true
body_ends c r (body.RowChange change) h = h
body_ends c r (body.Compensation change undone) h = cond_both (is_next undone c.undo) (undone_one c) c (λ (d : Course). d.is_ended ≡ true) (λ is. h) (λ is. h)
body_ends c r (body.System patches) h = h
body_ends c r body.Commit h = h
body_ends c r body.Ended h = refl
body_ends c r (body.Checkpoint offset) h = h
body_ends c r body.RestartEnd h = h

own_stays : (logs : List Log) (m : ℕ) (r : LogRecord) (t : ℕ) → has_log logs m ≡ true → has_end logs m t ≡ true → has_end (put_record logs m r) m t ≡ true
own_stays logs m r t has h =
    let c = course_of (records_for logs m) t in
    let more : course_of (records_for (put_record logs m r) m) t ≡ cond (r.tran == t) (after_body c r r.body) c = ap (λ (rs : List LogRecord). course_of rs t) (records_own logs m r has) ∙ course_last new_course t (records_for logs m) r in
    subst (λ (d : Course). d.is_ended ≡ true) (sym more) (cond_both (r.tran == t) (after_body c r r.body) c (λ (d : Course). d.is_ended ≡ true) (λ own. body_ends c r r.body h) (λ other. h))

pub end_stays : (logs : List Log) (m : ℕ) (r : LogRecord) (k t : ℕ) → has_log logs m ≡ true → has_end logs k t ≡ true → has_end (put_record logs m r) k t ≡ true
end_stays logs m r k t has h = elim (cases_Bool (m == k)) [
  | inl e ↦ (let same : m ≡ k = eqb-true m k e in subst (λ (n : ℕ). has_end (put_record logs m r) n t ≡ true) same (own_stays logs m r t has (subst (λ (n : ℕ). has_end logs n t ≡ true) (sym same) h)))
  | inr e ↦ ap (λ (rs : List LogRecord). (course_of rs t).is_ended) (records_other logs m r k e) ∙ h
]

-- ---- the logs grow

until_put : (cs ds : List Closing) (us vs : List Undo) (more : List LogRecord) (r : LogRecord) → (is_checkpoint r.body ≡ false) ⊎ IsNothing ds vs → (IsNothing cs us → IsNothing ds vs) → (has_checkpoint more ≡ false) ⊎ IsNothing cs us
    → (has_checkpoint (more ++ r ∷ []) ≡ false) ⊎ IsNothing ds vs
until_put cs ds us vs more r plain on (inr n) = inr (on n)
until_put cs ds us vs more r (inr n) on (inl e) = inr n
until_put cs ds us vs more r (inl p) on (inl e) =
    inl (list_any-append (λ (x : LogRecord). is_checkpoint x.body) more (r ∷ []) ∙ or_from (has_checkpoint more) (is_checkpoint r.body || false) e (or_from (is_checkpoint r.body) false p refl))

until_on : (cs ds : List Closing) (us vs : List Undo) (more : List LogRecord) → (IsNothing cs us → IsNothing ds vs) → (has_checkpoint more ≡ false) ⊎ IsNothing cs us → (has_checkpoint more ≡ false) ⊎ IsNothing ds vs
until_on cs ds us vs more on (inl e) = inl e
until_on cs ds us vs more on (inr n) = inr (on n)

grown_put : (cs ds : List Closing) (us vs : List Undo) (old : List LogRecord) (logs : List Log) (m : ℕ) (r : LogRecord) (k : ℕ) → has_log logs m ≡ true → (is_checkpoint r.body ≡ false) ⊎ IsNothing ds vs → (IsNothing cs us → IsNothing ds vs)
    → HasGrown cs us old (records_for logs k) → HasGrown ds vs old (records_for (put_record logs m r) k)
grown_put cs ds us vs old logs m r k has plain on g = elim (cases_Bool (m == k)) [
  | inl e ↦ (
      let same : m ≡ k = eqb-true m k e in
      let own : records_for (put_record logs m r) k ≡ records_for logs k ++ r ∷ [] = subst (λ (n : ℕ). records_for (put_record logs m r) n ≡ records_for logs n ++ r ∷ []) same (records_own logs m r has) in
      record {
        more = g.more ++ r ∷ [];
        are = own ∙ ap (λ (rs : List LogRecord). rs ++ r ∷ []) g.are ∙ append_assoc old g.more (r ∷ []);
        until = until_put cs ds us vs g.more r plain on g.until;
      })
  | inr e ↦ record { more = g.more; are = records_other logs m r k e ∙ g.are; until = until_on cs ds us vs g.more on g.until }
]

-- so it is of all
pub all_stay : (ts : ToEnd) (cs : List Closing) (us : List Undo) (logs : List Log) (m : ℕ) (r : LogRecord) → has_log logs m ≡ true → (is_checkpoint r.body ≡ false) ⊎ IsNothing cs us → EndAll ts cs us logs → EndAll ts cs us (put_record logs m r)
all_stay ts cs us logs m r has plain h = record {
  each = λ k t is. elim (h.each k t is) [
    | inl e ↦ inl (end_stays logs m r k t has e)
    | inr e ↦ inr e
  ];
  grown = λ k. grown_put cs cs us us (records_for ts.logs k) logs m r k has plain (λ n. n) (h.grown k);
}

-- ---- an Ended record is put

end_put : (logs : List Log) (m lrsn t : ℕ) → has_log logs m ≡ true → has_end (put_record logs m (ended lrsn t)) m t ≡ true
end_put logs m lrsn t has = ap (λ (c : Course). c.is_ended) (course_own logs m (ended lrsn t) has)

end_put_as : (logs : List Log) (m lrsn t k n : ℕ) → has_log logs m ≡ true → m ≡ k → t ≡ n → has_end (put_record logs m (ended lrsn t)) k n ≡ true
end_put_as logs m lrsn t k n has member tran =
    subst (λ (x : ℕ). has_end (put_record logs m (ended lrsn t)) x n ≡ true) member
    (subst (λ (x : ℕ). has_end (put_record logs m (ended lrsn t)) m x ≡ true) tran (end_put logs m lrsn t has))

some_closings : (c : Closing) (cs : List Closing) (us : List Undo) (ds : List Closing) (vs : List Undo) → IsNothing (c ∷ cs) us → IsNothing ds vs
some_closings c cs us ds vs n = absurd (let e = n.0 in cc)

some_undos : (u : Undo) (cs : List Closing) (us : List Undo) (ds : List Closing) (vs : List Undo) → IsNothing cs (u ∷ us) → IsNothing ds vs
some_undos u cs us ds vs n = absurd (let e = n.1 in cc)

-- of the first transaction that is to be closed
pub closed_put : (ts : ToEnd) (c : Closing) (cs : List Closing) (us : List Undo) (logs : List Log) → has_log logs c.member ≡ true → EndAll ts (c ∷ cs) us logs → EndAll ts cs us (put_record logs c.member (ended c.lrsn c.tran))
closed_put ts c cs us logs has h = record {
  each = λ m t is. elim (h.each m t is) [
    | inl e ↦ inl (end_stays logs c.member (ended c.lrsn c.tran) m t has e)
    | inr e ↦ elim (or_cases (is_closing m t c || list_any (is_closing m t) cs) (list_any (is_of m t) us) e) [
      | inl f ↦ elim (or_cases (is_closing m t c) (list_any (is_closing m t) cs) f) [
        | inl own ↦ (
            let p = and_parts (c.member == m) (c.tran == t) own in
            inl (end_put_as logs c.member c.lrsn c.tran m t has (eqb-true c.member m p.0) (eqb-true c.tran t p.1)))
        | inr rest ↦ inr (or_left (list_any (is_closing m t) cs) (list_any (is_of m t) us) rest)
      ]
      | inr f ↦ inr (or_right (list_any (is_closing m t) cs) (list_any (is_of m t) us) f)
    ]
  ];
  grown = λ k. grown_put (c ∷ cs) cs us us (records_for ts.logs k) logs c.member (ended c.lrsn c.tran) k has (inl refl) (some_closings c cs us cs us) (h.grown k);
}

-- ---- a change is undone

pub none_any : (p : Undo → Bool) (us : List Undo) → list_any p us ≡ false → filter p us ≡ []
none_any p [] h = refl
none_any p (u ∷ us) h =
    let k = or_parts (p u) (list_any p us) h in
    ap (λ (b : Bool). cond b (u ∷ filter p us) (filter p us)) k.0 ∙ none_any p us k.1

-- behind one that isn't the last of its transaction there is another
more_left : (logs : List Log) (u : Undo) (us : List Undo) → QueueFits logs (u ∷ us) → u.is_last ≡ false → list_any (is_of u.member u.tran) us ≡ true
more_left logs u us fits more =
    let q = first_queue logs u us fits in
    let rest = filter (is_of u.member u.tran) us in
    let h = head_of u.member u.tran u rest (course_of (records_for logs u.member) u.tran) q.own q.is in
    elim (cases_Bool (list_any (is_of u.member u.tran) us)) as (λ _. list_any (is_of u.member u.tran) us ≡ true) [
      | inl e ↦ e
      | inr e ↦ (
          let left = undos u.member u.tran true h.init in
          let nothing : reverse left ≡ [] = sym h.rest ∙ none_any (is_of u.member u.tran) us e in
          let none : left ≡ [] = sym (reverse-reverse left) ∙ ap reverse nothing in
          absurd (flag_some h.init (sym (ap (λ (v : Undo). v.is_last) h.is) ∙ more) (head_none u.member u.tran true h.init h.rest_own none)))
    ]

-- the compensation is put, and there is more to be undone of the transaction
pub undone_put : (ts : ToEnd) (u : Undo) (us : List Undo) (n : ℕ) (logs : List Log) → has_log logs u.member ≡ true → QueueFits logs (u ∷ us) → u.is_last ≡ false → EndAll ts [] (u ∷ us) logs → EndAll ts [] us (put_record logs u.member (compensation u n))
undone_put ts u us n logs has fits more h = record {
  each = λ m t is. elim (h.each m t is) [
    | inl e ↦ inl (end_stays logs u.member (compensation u n) m t has e)
    | inr e ↦ elim (or_cases (is_of m t u) (list_any (is_of m t) us) e) [
      | inl own ↦ (
          let p = and_parts (u.member == m) (u.tran == t) own in
          let member : u.member ≡ m = eqb-true u.member m p.0 in
          let tran : u.tran ≡ t = eqb-true u.tran t p.1 in
          inr (subst (λ (x : ℕ). list_any (is_of x t) us ≡ true) member (subst (λ (x : ℕ). list_any (is_of u.member x) us ≡ true) tran (more_left logs u us fits more))))
      | inr rest ↦ inr rest
    ]
  ];
  grown = λ k. grown_put [] [] (u ∷ us) us (records_for ts.logs k) logs u.member (compensation u n) k has (inl refl) (some_undos u [] us [] us) (h.grown k);
}

-- or it was the last one, and its Ended is put behind it
pub last_put : (ts : ToEnd) (u : Undo) (us : List Undo) (n : ℕ) (logs : List Log) → has_log logs u.member ≡ true → EndAll ts [] (u ∷ us) logs → EndAll ts [] us (put_record (put_record logs u.member (compensation u n)) u.member (ended n u.tran))
last_put ts u us n logs has h =
    let mid = put_record logs u.member (compensation u n) in
    let has_mid : has_log mid u.member ≡ true = has_still logs u.member (compensation u n) u.member ∙ has in
    record {
      each = λ m t is. elim (h.each m t is) [
        | inl e ↦ inl (end_stays mid u.member (ended n u.tran) m t has_mid (end_stays logs u.member (compensation u n) m t has e))
        | inr e ↦ elim (or_cases (is_of m t u) (list_any (is_of m t) us) e) [
          | inl own ↦ (
              let p = and_parts (u.member == m) (u.tran == t) own in
              inl (end_put_as mid u.member n u.tran m t has_mid (eqb-true u.member m p.0) (eqb-true u.tran t p.1)))
          | inr rest ↦ inr rest
        ]
      ];
      grown = λ k.
          grown_put [] [] us us (records_for ts.logs k) mid u.member (ended n u.tran) k has_mid (inl refl) (λ x. x)
          (grown_put [] [] (u ∷ us) us (records_for ts.logs k) logs u.member (compensation u n) k has (inl refl) (some_undos u [] us [] us) (h.grown k));
    }
