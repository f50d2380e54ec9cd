-- Logs of which one is cut to its whole records are as they were, but for its tail.
use Rattle.std.proofs.Common.{◌≡◌, ℕ, Bool, true, false, cond, List, [], ◌∷◌, ◌++◌, length, inl, inr, refl, sym, ap, subst, ◌∙◌, arith}
use Rattle.std.specs.Prelude.{◌⊎◌, ◌==◌, ◌||◌, nat_lt, filter, map, reverse}
use Rattle.std.specs.List.{AllByRecursion}
use Rattle.std.proofs.lemmas.Bool.{cases_Bool, ltb-false}
use Rattle.ds_model.specs.declared.log.LogRecord.{LogRecord}
use Rattle.log_record.specs.declared.log.Log.{Log}
use Rattle.log_merge.specs.Merging.{all_records}
use Rattle.restart_plan.specs.declared.opened.Closing.{Closing}
use Rattle.restart_plan.specs.declared.opened.Undo.{Undo}
use Rattle.restart_plan.specs.declared.tails.Tail.{Tail}
use Rattle.restart_plan.specs.Ends.{ends_of}
use Rattle.restart_plan.specs.Renewal.{asks_renewal, must_renew}
use Rattle.restart_plan.specs.Tails.{tail_of, tails_of}
use Rattle.sound_appends.specs.Laws.{HaveNoTails}
use Rattle.sound_disk.specs.Laws.{last_number, with_tail}
use Rattle.sound_plans.specs.Ends.{ToEnd, EndAll}
use Rattle.sound_plans.specs.Opens.{course_of}
use Rattle.sound_plans.specs.Queues.{has_log, records_for, CanClose, ClosingsFit, IsOwnChange, IsQueueOf, is_of, undos, IsSettled, QueueFits}

-- ---- the first tail

-- it is that of a log, and the others are those of the logs where that one is cut
pub record FirstTail (tail : Tail) (rest : List Tail) (logs : List Log) : Type 0 where
  pub front : List Log
  pub log : Log
  pub back : List Log
  pub logs_are : logs ≡ front ++ log ∷ back
  pub tail_is : tail ≡ tail_of log
  pub rest_is : rest ≡ tails_of (front ++ with_tail log 0 ∷ back)

abbrev left_of : Bool → Log → List Log → List Tail
left_of b log logs = map tail_of (cond b (log ∷ filter (λ (l : Log). nat_lt 0 l.tail) logs) (filter (λ (l : Log). nat_lt 0 l.tail) logs))

pub first_tail : (tail : Tail) (rest : List Tail) (logs : List Log) → tail ∷ rest ≡ tails_of logs → FirstTail tail rest logs
first_tail tail rest [] e = absurd cc
first_tail tail rest (l ∷ ls) e = elim (cases_Bool (nat_lt 0 l.tail)) [
  | inl some ↦ (
      let is : tail ∷ rest ≡ tail_of l ∷ tails_of ls = e ∙ ap (λ (b : Bool). left_of b l ls) some in
      let left : rest ≡ tails_of ls = cc in
      record { front = []; log = l; back = ls; logs_are = refl; tail_is = cc; rest_is = left })
  | inr none ↦ (
      let f = first_tail tail rest ls (e ∙ ap (λ (b : Bool). left_of b l ls) none) in
      record {
        front = l ∷ f.front;
        log = f.log;
        back = f.back;
        logs_are = ap (λ (xs : List Log). l ∷ xs) f.logs_are;
        tail_is = f.tail_is;
        rest_is = f.rest_is ∙ sym (ap (λ (b : Bool). left_of b l (f.front ++ with_tail f.log 0 ∷ f.back)) none);
      })
]

pub none_left : (logs : List Log) → tails_of logs ≡ [] → HaveNoTails logs
none_left [] e = tt
none_left (l ∷ ls) e = elim (cases_Bool (nat_lt 0 l.tail)) [
  | inl some ↦ (let is : tail_of l ∷ tails_of ls ≡ [] = sym (ap (λ (b : Bool). left_of b l ls) some) ∙ e in absurd cc)
  | inr none ↦ (
      let low = ltb-false 0 l.tail none in
      (omega (arith, low), none_left ls (sym (ap (λ (b : Bool). left_of b l ls) none) ∙ e)))
]

-- ---- what doesn't speak of tails

-- the others have the same logs, but for their tails
pub record AreAlike (logs others : List Log) : Type 0 where
  pub records : all_records logs ≡ all_records others
  pub has : (m : ℕ) → has_log logs m ≡ has_log others m
  pub own : (m : ℕ) → records_for logs m ≡ records_for others m
  pub ends : ends_of logs ≡ ends_of others
  pub renewal : must_renew logs ≡ must_renew others

same_all : (front : List Log) (log : Log) (back : List Log) → all_records (front ++ log ∷ back) ≡ all_records (front ++ with_tail log 0 ∷ back)
same_all [] log back = refl
same_all (x ∷ xs) log back = ap (λ (rs : List LogRecord). x.records ++ rs) (same_all xs log back)

same_has : (front : List Log) (log : Log) (back : List Log) (m : ℕ) → has_log (front ++ log ∷ back) m ≡ has_log (front ++ with_tail log 0 ∷ back) m
same_has [] log back m = refl
same_has (x ∷ xs) log back m = ap (λ (b : Bool). (x.member == m) || b) (same_has xs log back m)

same_own : (front : List Log) (log : Log) (back : List Log) (m : ℕ) → records_for (front ++ log ∷ back) m ≡ records_for (front ++ with_tail log 0 ∷ back) m
same_own [] log back m = refl
same_own (x ∷ xs) log back m = ap (λ (rs : List LogRecord). cond (x.member == m) x.records rs) (same_own xs log back m)

same_ends : (front : List Log) (log : Log) (back : List Log) → ends_of (front ++ log ∷ back) ≡ ends_of (front ++ with_tail log 0 ∷ back)
same_ends [] log back = refl
same_ends (x ∷ xs) log back = ap (λ (es : List ℕ). x.length ∷ es) (same_ends xs log back)

same_renewal : (front : List Log) (log : Log) (back : List Log) → must_renew (front ++ log ∷ back) ≡ must_renew (front ++ with_tail log 0 ∷ back)
same_renewal [] log back = refl
same_renewal (x ∷ xs) log back = ap (λ (b : Bool). asks_renewal x || b) (same_renewal xs log back)

pub cut_alike : (front : List Log) (log : Log) (back : List Log) → AreAlike (front ++ log ∷ back) (front ++ with_tail log 0 ∷ back)
cut_alike front log back = record { records = same_all front log back; has = same_has front log back; own = same_own front log back; ends = same_ends front log back; renewal = same_renewal front log back }

-- ---- what a plan asks of them

still_closes : (logs others : List Log) (cl : Closing) → AreAlike logs others → CanClose logs cl → CanClose others cl
still_closes logs others cl a h = record {
  has = sym (a.has cl.member) ∙ h.has;
  number = h.number ∙ ap (last_number 0) (a.own cl.member);
  undone = subst (λ (rs : List LogRecord). length (course_of rs cl.tran).undo ≡ 0) (a.own cl.member) h.undone;
  some = subst (λ (rs : List LogRecord). (length (course_of rs cl.tran).undone == 0) ≡ false) (a.own cl.member) h.some;
  allowed = h.allowed;
}

pub closings_still : (logs others : List Log) (cs : List Closing) → AreAlike logs others → ClosingsFit logs cs → ClosingsFit others cs
closings_still logs others [] a h = tt
closings_still logs others (c ∷ cs) a h = (still_closes logs others c a h.0, closings_still logs others cs a h.1)

settled_still : (logs others : List Log) (m t : ℕ) → AreAlike logs others → IsSettled logs m t → IsSettled others m t
settled_still logs others m t a h = subst (λ (rs : List LogRecord). ((course_of rs t).is_committed ≡ true) ⊎ ((course_of rs t).undo ≡ [])) (a.own m) h

queue_of_still : (logs others : List Log) (m t : ℕ) (us : List Undo) → AreAlike logs others → IsQueueOf logs m t us → IsQueueOf others m t us
queue_of_still logs others m t us a h = record {
  has = sym (a.has m) ∙ h.has;
  uncommitted = subst (λ (rs : List LogRecord). (course_of rs t).is_committed ≡ false) (a.own m) h.uncommitted;
  own = subst (λ (rs : List LogRecord). AllByRecursion (IsOwnChange t) (course_of rs t).undo) (a.own m) h.own;
  is = subst (λ (rs : List LogRecord). us ≡ reverse (undos m t true (course_of rs t).undo)) (a.own m) h.is;
}

pub queue_still : (logs others : List Log) (us : List Undo) → AreAlike logs others → QueueFits logs us → QueueFits others us
queue_still logs others us a fits = λ m t. elim (fits m t) [
  | inl e ↦ inl (e.0, settled_still logs others m t a e.1)
  | inr q ↦ inr (queue_of_still logs others m t (filter (is_of m t) us) a q)
]

pub takes_still : (ts : ToEnd) (logs others : List Log) (cs : List Closing) (us : List Undo) → AreAlike logs others → EndAll ts cs us logs → EndAll ts cs us others
takes_still ts logs others cs us a h = record {
  each = λ m t is. elim (h.each m t is) [
    | inl e ↦ inl (ap (λ (rs : List LogRecord). (course_of rs t).is_ended) (sym (a.own m)) ∙ e)
    | inr e ↦ inr e
  ];
  grown = λ m. record { more = (h.grown m).more; are = sym (a.own m) ∙ (h.grown m).are; until = (h.grown m).until };
}
