-- A queue that fits the logs is appended one compensation after the other.
use Rattle.std.proofs.Common.{◌≡◌, ◌≢◌, ℕ, ◌+◌, ◌-◌, ◌<◌, ◌^◌, Bool, true, false, cond, List, [], ◌∷◌, ◌++◌, length, take, drop, reverse, Some, inl, inr, refl, sym, ap, subst, ◌∙◌, arith, length-append, length-drop}
use Rattle.std.specs.Prelude.{◌⊎◌, ◌==◌, ◌&&◌, filter, slice_get}
use Rattle.std.specs.List.{AllByRecursion}
use Rattle.std.proofs.lemmas.Bool.{cond_both, cases_Bool, and_parts, eqb-true, eq-eqb, ne_eqb}
use Rattle.std.proofs.lemmas.List.{reverse-append, reverse-reverse, take_at, length_push}
use Rattle.ds_model.specs.declared.log.LogRecord.{LogRecord}
use Rattle.ds_model.specs.declared.log.RowChange.{RowChange}
use Rattle.ds_model.specs.declared.log.Body.{Body}
use Rattle.ds_model.specs.declared.log.Body.TheVariants as body
use Rattle.ds_model.specs.declared.log.Version.{Version}
use Rattle.ds_model.specs.declared.log.Version.TheVariants as version
use Rattle.ds_model.specs.RecordBytes.{IsNumber, IsAllowed, ChangeIsAllowed, BodyIsAllowed, TranFits, is_of_tran}
use Rattle.log_record.specs.Changes.{inverse}
use Rattle.log_record.specs.declared.log.Log.{Log}
use Rattle.log_trans.specs.declared.course.Course.{Course}
use Rattle.log_trans.specs.Courses.{undone_one, after_body}
use Rattle.log_trans.specs.Numbers.{greatest}
use Rattle.log_merge.specs.Merging.{all_records}
use Rattle.restart_plan.specs.declared.opened.Undo.{Undo}
use Rattle.restart_plan.specs.Opened.{undo}
use Rattle.group_restart.specs.Records.{ended, compensation}
use Rattle.sound_disk.specs.Laws.{last_number}
use Rattle.sound_disk.specs.Transactions.{InvertsBody}
use Rattle.sound_appends.specs.Appends.{IsNext, AppendsAll}
use Rattle.sound_appends.proofs.Open.{is_next_by}
use Rattle.sound_plans.specs.Opens.{course_of}
use Rattle.sound_plans.specs.Queues.{Writes, undo_writes, has_log, records_for, undo_before, undos, IsOwnChange, IsQueueOf, IsSettled, is_of, QueueFits, QueueAppends, EmptyQueueSettles}
use Rattle.sound_plans.proofs.Logs.{put_record, has_still, records_own, records_other, greatest_put, course_own, course_beside, PutIs, put_is}
use Rattle.sound_plans.proofs.Closings.{SameUndo, put_leaves, last_with}

-- ---- the last of a list

pub record Snoc (xs : List LogRecord) : Type 0 where
  pub init : List LogRecord
  pub last : LogRecord
  pub split : xs ≡ init ++ last ∷ []

pub snoc_view : (xs : List LogRecord) → (xs ≡ []) ⊎ Snoc xs
snoc_view [] = inl refl
snoc_view (x ∷ xs) = elim (snoc_view xs) [
  | inl e ↦ inr (record { init = []; last = x; split = ap (λ (l : List LogRecord). x ∷ l) e })
  | inr s ↦ inr (record { init = x ∷ s.init; last = s.last; split = ap (λ (l : List LogRecord). x ∷ l) s.split })
]

got_at : (init : List LogRecord) (r : LogRecord) → slice_get (init ++ r ∷ []) (length init) ≡ Some r
got_at [] r = refl
got_at (x ∷ init) r = got_at init r

before_last : (init : List LogRecord) (r : LogRecord) → length init ≡ length (init ++ r ∷ []) - 1
before_last init r = let size = length_push init r in omega (arith, size)

pub got_last : (us init : List LogRecord) (r : LogRecord) → us ≡ init ++ r ∷ [] → slice_get us (length us - 1) ≡ Some r
got_last us init r e =
    subst (λ (l : List LogRecord). slice_get l (length l - 1) ≡ Some r) (sym e) (subst (λ (n : ℕ). slice_get (init ++ r ∷ []) n ≡ Some r) (before_last init r) (got_at init r))

pub all_but_last : (us init : List LogRecord) (r : LogRecord) → us ≡ init ++ r ∷ [] → take (length us - 1) us ≡ init
all_but_last us init r e = subst (λ (l : List LogRecord). take (length l - 1) l ≡ init) (sym e) (take_at init (r ∷ []) (length (init ++ r ∷ []) - 1) (before_last init r))

all_front : (P : LogRecord → Type 0) (xs ys : List LogRecord) → AllByRecursion P (xs ++ ys) → AllByRecursion P xs
all_front P [] ys h = tt
all_front P (x ∷ xs) ys h = (h.0, all_front P xs ys h.1)

pub all_last : (P : LogRecord → Type 0) (xs : List LogRecord) (r : LogRecord) → AllByRecursion P (xs ++ r ∷ []) → P r
all_last P [] r h = h.0
all_last P (x ∷ xs) r h = all_last P xs r h.1

-- ---- what is undone of a transaction

pub last_flag : Bool → List LogRecord → Bool
last_flag b [] = b
last_flag b (x ∷ xs) = false

flag_false : (xs : List LogRecord) → last_flag false xs ≡ false
unfolding last_flag
flag_false [] = refl
flag_false (x ∷ xs) = refl

flag_none : (xs : List LogRecord) → last_flag true xs ≡ true → xs ≡ []
unfolding last_flag
flag_none [] h = refl
flag_none (x ∷ xs) h = absurd cc

pub flag_some : (xs : List LogRecord) → last_flag true xs ≡ false → xs ≡ [] → ⊥
unfolding last_flag
flag_some [] h e = cc
flag_some (x ∷ xs) h e = cc

before_more : (m t : ℕ) (b : Bool) (lrsn : ℕ) (d : Body) (us : List Undo) (v : Undo) → undo_before m t b lrsn d (us ++ v ∷ []) ≡ undo_before m t b lrsn d us ++ v ∷ []
before_more m t b lrsn (body.RowChange change) us v = refl
before_more m t b lrsn (body.Compensation change undone) us v = refl
before_more m t b lrsn (body.System patches) us v = refl
before_more m t b lrsn body.Commit us v = refl
before_more m t b lrsn body.Ended us v = refl
before_more m t b lrsn (body.Checkpoint offset) us v = refl
before_more m t b lrsn body.RestartEnd us v = refl

undos_with : (m t : ℕ) (b : Bool) (init : List LogRecord) (r : LogRecord) (c : RowChange) → r.body ≡ body.RowChange c → undos m t b (init ++ r ∷ []) ≡ undos m t b init ++ undo m t r.lrsn (last_flag b init) c ∷ []
unfolding last_flag
undos_with m t b [] r c is = ap (λ (d : Body). undo_before m t b r.lrsn d []) is
undos_with m t b (x ∷ init) r c is =
    ap (undo_before m t b x.lrsn x.body) (undos_with m t false init r c is)
    ∙ before_more m t b x.lrsn x.body (undos m t false init) (undo m t r.lrsn (last_flag false init) c)
    ∙ ap (λ (f : Bool). undo_before m t b x.lrsn x.body (undos m t false init) ++ undo m t r.lrsn f c ∷ []) (flag_false init)

-- ---- the head of the queue

-- the last row change that isn't undone, and what is left behind it
pub record Head (m t : ℕ) (u : Undo) (us : List Undo) (c : Course) : Type 0 where
  pub init : List LogRecord
  pub made : LogRecord
  pub split : c.undo ≡ init ++ made ∷ []
  pub own : IsOwnChange t made
  pub rest_own : AllByRecursion (IsOwnChange t) init
  pub is : u ≡ undo m t made.lrsn (last_flag true init) own.change
  pub rest : us ≡ reverse (undos m t true init)

pub head_of : (m t : ℕ) (u : Undo) (us : List Undo) (c : Course) → AllByRecursion (IsOwnChange t) c.undo → u ∷ us ≡ reverse (undos m t true c.undo) → Head m t u us c
head_of m t u us c own is = elim (snoc_view c.undo) [
  | inl e ↦ (let none : u ∷ us ≡ [] = is ∙ ap (λ (l : List LogRecord). reverse (undos m t true l)) e in absurd cc)
  | inr s ↦ (
      let all : AllByRecursion (IsOwnChange t) (s.init ++ s.last ∷ []) = subst (AllByRecursion (IsOwnChange t)) s.split own in
      let last : IsOwnChange t s.last = all_last (IsOwnChange t) s.init s.last all in
      let first : Undo = undo m t s.last.lrsn (last_flag true s.init) last.change in
      let turned : u ∷ us ≡ first ∷ reverse (undos m t true s.init) =
      is ∙ ap (λ (l : List LogRecord). reverse (undos m t true l)) s.split ∙ ap reverse (undos_with m t true s.init s.last last.change last.body_is) ∙ reverse-append (undos m t true s.init) (first ∷ []) in
      record {
        init = s.init;
        made = s.last;
        split = s.split;
        own = last;
        rest_own = all_front (IsOwnChange t) s.init (s.last ∷ []) all;
        is = cc;
        rest = cc;
      })
]

-- ---- the compensation may stand in a log

pub wide : (v : Version) (n : ℕ) → IsNumber v n → IsNumber version.Two n
wide version.One n h = omega arith
wide version.Two n h = h

inverse_allowed : (c : RowChange) → ChangeIsAllowed c → ChangeIsAllowed (inverse c)
inverse_allowed c h = record {
  table_in = h.table_in;
  key_in = h.key_in;
  page_some = h.page_some;
  page_in = h.page_in;
  slot_in = h.slot_in;
  before_is = h.after_is;
  after_is = h.before_is;
}

pub own_some : (t : ℕ) (r : LogRecord) → IsOwnChange t r → t ≢ 0
own_some t r h = subst (λ (n : ℕ). n ≢ 0) h.tran_is (subst (λ (b : Body). TranFits (is_of_tran b) r.tran) h.body_is h.allowed.tran_fits)

own_change : (t : ℕ) (r : LogRecord) (h : IsOwnChange t r) → ChangeIsAllowed h.change
own_change t r h = subst (BodyIsAllowed r.version) h.body_is h.allowed.body_is

own_tran : (t : ℕ) (r : LogRecord) → IsOwnChange t r → IsNumber version.Two t
own_tran t r h = subst (IsNumber version.Two) h.tran_is (wide r.version r.tran h.allowed.tran_in)

head_allowed : (m t : ℕ) (u : Undo) (us : List Undo) (c : Course) (n : ℕ) → Head m t u us c → n < 2 ^ 80 → IsAllowed (compensation u n)
head_allowed m t u us c n h small =
    let tran : t ≡ u.tran = sym (ap (λ (v : Undo). v.tran) h.is) in
    let lrsn : h.made.lrsn ≡ u.lrsn = sym (ap (λ (v : Undo). v.lrsn) h.is) in
    let change : h.own.change ≡ u.change = sym (ap (λ (v : Undo). v.change) h.is) in
    record {
      lrsn_in = small;
      tran_fits = subst (λ (k : ℕ). k ≢ 0) tran (own_some t h.made h.own);
      tran_in = subst (IsNumber version.Two) tran (own_tran t h.made h.own);
      body_is = (inverse_allowed u.change (subst ChangeIsAllowed change (own_change t h.made h.own)), subst (IsNumber version.Two) lrsn (wide h.made.version h.made.lrsn h.own.allowed.lrsn_in));
    }

ended_allowed : (m t : ℕ) (u : Undo) (us : List Undo) (c : Course) (n : ℕ) → Head m t u us c → n < 2 ^ 80 → IsAllowed (ended n u.tran)
ended_allowed m t u us c n h small =
    let tran : t ≡ u.tran = sym (ap (λ (v : Undo). v.tran) h.is) in
    record {
      lrsn_in = small;
      tran_fits = subst (λ (k : ℕ). k ≢ 0) tran (own_some t h.made h.own);
      tran_in = subst (IsNumber version.Two) tran (own_tran t h.made h.own);
      body_is = tt;
    }

-- ---- one compensation

head_inverts : (m t : ℕ) (u : Undo) (us : List Undo) (c : Course) (h : Head m t u us c) → InvertsBody (inverse u.change) h.made.body
head_inverts m t u us c h =
    let change : u.change ≡ h.own.change = ap (λ (v : Undo). v.change) h.is in
    subst (InvertsBody (inverse u.change)) (sym h.own.body_is) (ap inverse change)

pub undoes : (logs : List Log) (u : Undo) (us : List Undo) (q : IsQueueOf logs u.member u.tran (u ∷ us)) → Head u.member u.tran u us (course_of (records_for logs u.member) u.tran) → greatest (all_records logs) + 1 < 2 ^ 80
    → PutIs logs u.member (compensation u (greatest (all_records logs) + 1))
undoes logs u us q h small =
    let c = course_of (records_for logs u.member) u.tran in
    let n = greatest (all_records logs) + 1 in
    put_is logs u.member (compensation u n) q.has (head_allowed u.member u.tran u us c n h small) (λ log is.
    subst (λ (rs : List LogRecord). slice_get (course_of rs u.tran).undo (length (course_of rs u.tran).undo - 1) ≡ Some h.made → (course_of rs u.tran).is_committed ≡ false → IsNext logs log (compensation u n) (compensation u n).body) is
    (λ last none. record {
      made = h.made;
      last = last;
      number_is = sym (ap (λ (v : Undo). v.lrsn) h.is);
      inverts = head_inverts u.member u.tran u us c h;
      uncommitted = none;
      next = refl;
    })
    (got_last c.undo h.init h.made h.split) q.uncommitted)

-- the course of the transaction behind it
course_behind : (logs : List Log) (u : Undo) (us : List Undo) (n : ℕ) (q : IsQueueOf logs u.member u.tran (u ∷ us)) → Head u.member u.tran u us (course_of (records_for logs u.member) u.tran)
    → course_of (records_for (put_record logs u.member (compensation u n)) u.member) u.tran ≡ undone_one (course_of (records_for logs u.member) u.tran)
course_behind logs u us n q h =
    let c = course_of (records_for logs u.member) u.tran in
    course_own logs u.member (compensation u n) q.has
    ∙ ap (λ (b : Bool). cond b (undone_one c) c) (is_next_by c h.made u.lrsn (got_last c.undo h.init h.made h.split) (sym (ap (λ (v : Undo). v.lrsn) h.is)))

-- ---- the queue behind it

settled_moves : (logs others : List Log) (m t : ℕ) → SameUndo (course_of (records_for others m) t) (course_of (records_for logs m) t) → IsSettled logs m t → IsSettled others m t
settled_moves logs others m t same (inl e) = inl (same.committed ∙ e)
settled_moves logs others m t same (inr e) = inr (same.undo ∙ e)

queue_moves : (logs others : List Log) (m t : ℕ) (us : List Undo) → has_log others m ≡ has_log logs m → SameUndo (course_of (records_for others m) t) (course_of (records_for logs m) t) → IsQueueOf logs m t us → IsQueueOf others m t us
queue_moves logs others m t us has same q = record {
  has = has ∙ q.has;
  uncommitted = same.committed ∙ q.uncommitted;
  own = subst (AllByRecursion (IsOwnChange t)) (sym same.undo) q.own;
  is = q.is ∙ ap (λ (l : List LogRecord). reverse (undos m t true l)) (sym same.undo);
}

queue_rest : (logs : List Log) (u : Undo) (us : List Undo) (n : ℕ) (q : IsQueueOf logs u.member u.tran (u ∷ us)) → Head u.member u.tran u us (course_of (records_for logs u.member) u.tran)
    → IsQueueOf (put_record logs u.member (compensation u n)) u.member u.tran us
queue_rest logs u us n q h =
    let c = course_of (records_for logs u.member) u.tran in
    let now = course_behind logs u us n q h in
    let left : (course_of (records_for (put_record logs u.member (compensation u n)) u.member) u.tran).undo ≡ h.init = ap (λ (d : Course). d.undo) now ∙ all_but_last c.undo h.init h.made h.split in
    record {
      has = has_still logs u.member (compensation u n) u.member ∙ q.has;
      uncommitted = ap (λ (d : Course). d.is_committed) now ∙ q.uncommitted;
      own = subst (AllByRecursion (IsOwnChange u.tran)) (sym left) h.rest_own;
      is = h.rest ∙ ap (λ (l : List LogRecord). reverse (undos u.member u.tran true l)) (sym left);
    }

-- another transaction, or another log
course_apart : (logs : List Log) (u : Undo) (n m t : ℕ) → has_log logs u.member ≡ true → is_of m t u ≡ false → course_of (records_for (put_record logs u.member (compensation u n)) m) t ≡ course_of (records_for logs m) t
course_apart logs u n m t has other = elim (cases_Bool (u.member == m)) [
  | inl e ↦ (
      let same : u.member ≡ m = eqb-true u.member m e in
      let apart : (u.tran == t) ≡ false = ap (λ (b : Bool). b && (u.tran == t)) (sym e) ∙ other in
      subst (λ (k : ℕ). course_of (records_for (put_record logs u.member (compensation u n)) k) t ≡ course_of (records_for logs k) t) same (course_beside logs u.member (compensation u n) t has apart))
  | inr e ↦ ap (λ (rs : List LogRecord). course_of rs t) (records_other logs u.member (compensation u n) m e)
]

same_by : (c d : Course) → c ≡ d → SameUndo c d
same_by c d e = record { undo = ap (λ (x : Course). x.undo) e; undone = ap (λ (x : Course). x.undone) e; committed = ap (λ (x : Course). x.is_committed) e }

filter_own : (m t : ℕ) (u : Undo) (us : List Undo) → is_of m t u ≡ true → filter (is_of m t) (u ∷ us) ≡ u ∷ filter (is_of m t) us
filter_own m t u us is = ap (λ (b : Bool). cond b (u ∷ filter (is_of m t) us) (filter (is_of m t) us)) is

filter_other : (m t : ℕ) (u : Undo) (us : List Undo) → is_of m t u ≡ false → filter (is_of m t) (u ∷ us) ≡ filter (is_of m t) us
filter_other m t u us is = ap (λ (b : Bool). cond b (u ∷ filter (is_of m t) us) (filter (is_of m t) us)) is

is_own : (u : Undo) → is_of u.member u.tran u ≡ true
is_own u = ap (λ (b : Bool). b && (u.tran == u.tran)) (eq-eqb u.member u.member refl) ∙ eq-eqb u.tran u.tran refl

-- of the transaction of the first change there is a queue
pub first_queue : (logs : List Log) (u : Undo) (us : List Undo) → QueueFits logs (u ∷ us) → IsQueueOf logs u.member u.tran (u ∷ filter (is_of u.member u.tran) us)
first_queue logs u us fits =
    let own : filter (is_of u.member u.tran) (u ∷ us) ≡ u ∷ filter (is_of u.member u.tran) us = filter_own u.member u.tran u us (is_own u) in
    elim (fits u.member u.tran) [
      | inl e ↦ (let none : u ∷ filter (is_of u.member u.tran) us ≡ [] = sym own ∙ e.0 in absurd cc)
      | inr q ↦ subst (IsQueueOf logs u.member u.tran) own q
    ]

pub fits_behind : (logs : List Log) (u : Undo) (us : List Undo) (n : ℕ) → QueueFits logs (u ∷ us) → QueueFits (put_record logs u.member (compensation u n)) us
fits_behind logs u us n fits =
    let q = first_queue logs u us fits in
    let h = head_of u.member u.tran u (filter (is_of u.member u.tran) us) (course_of (records_for logs u.member) u.tran) q.own q.is in
    λ m t. elim (cases_Bool (is_of m t u)) [
      | inl e ↦ (
          let p = and_parts (u.member == m) (u.tran == t) e in
          let member : u.member ≡ m = eqb-true u.member m p.0 in
          let tran : u.tran ≡ t = eqb-true u.tran t p.1 in
          let rest = queue_rest logs u (filter (is_of u.member u.tran) us) n q h in
          inr (subst (λ (k : ℕ). IsQueueOf (put_record logs u.member (compensation u n)) m k (filter (is_of m k) us)) tran
          (subst (λ (k : ℕ). IsQueueOf (put_record logs u.member (compensation u n)) k u.tran (filter (is_of k u.tran) us)) member rest)))
      | inr e ↦ elim (fits m t) [
        | inl none ↦ inl (
          sym (filter_other m t u us e) ∙ none.0,
          settled_moves logs (put_record logs u.member (compensation u n)) m t
              (same_by (course_of (records_for (put_record logs u.member (compensation u n)) m) t) (course_of (records_for logs m) t) (course_apart logs u n m t q.has e)) none.1,
        )
        | inr k ↦ inr (queue_moves logs (put_record logs u.member (compensation u n)) m t (filter (is_of m t) us) (has_still logs u.member (compensation u n) m)
            (same_by (course_of (records_for (put_record logs u.member (compensation u n)) m) t) (course_of (records_for logs m) t) (course_apart logs u n m t q.has e))
            (subst (IsQueueOf logs m t) (filter_other m t u us e) k))
      ]
    ]

-- a record that leaves each course what is to be undone
pub fits_put : (logs : List Log) (m : ℕ) (r : LogRecord) (us : List Undo) → has_log logs m ≡ true → ((c : Course) → SameUndo (after_body c r r.body) c) → QueueFits logs us → QueueFits (put_record logs m r) us
fits_put logs m r us has same fits = λ k s. elim (fits k s) [
  | inl e ↦ inl (e.0, settled_moves logs (put_record logs m r) k s (put_leaves logs m r k s has same) e.1)
  | inr q ↦ inr (queue_moves logs (put_record logs m r) k s (filter (is_of k s) us) (has_still logs m r k) (put_leaves logs m r k s has same) q)
]

pub fits_ended : (logs : List Log) (m lrsn t : ℕ) (us : List Undo) → has_log logs m ≡ true → QueueFits logs us → QueueFits (put_record logs m (ended lrsn t)) us
fits_ended logs m lrsn t us has fits = fits_put logs m (ended lrsn t) us has (λ c. record { undo = refl; undone = refl; committed = refl }) fits

-- ---- the end of a transaction

popped : (c : Course) (init : List LogRecord) (r : LogRecord) → c.undo ≡ init ++ r ∷ [] → (length (undone_one c).undone == 0) ≡ false
popped c init r e =
    let some : length c.undo ≡ length init + 1 = ap (λ (l : List LogRecord). length l) e ∙ length_push init r in
    let size : length (c.undone ++ drop (length c.undo - 1) c.undo) ≡ length c.undone + length (drop (length c.undo - 1) c.undo) = length-append c.undone (drop (length c.undo - 1) c.undo) in
    let last : length (drop (length c.undo - 1) c.undo) ≡ length c.undo - (length c.undo - 1) = length-drop (length c.undo - 1) c.undo in
    ne_eqb (length (undone_one c).undone) 0 (λ z. omega (arith, some, size, last, z))

pub ends : (logs : List Log) (u : Undo) (us : List Undo) (n : ℕ) (q : IsQueueOf logs u.member u.tran (u ∷ us)) → Head u.member u.tran u us (course_of (records_for logs u.member) u.tran) → u.is_last ≡ true → n ≡ greatest (all_records logs) + 1 → n < 2 ^ 80
    → PutIs (put_record logs u.member (compensation u n)) u.member (ended n u.tran)
ends logs u us n q h last e small =
    let c = course_of (records_for logs u.member) u.tran in
    let mid = put_record logs u.member (compensation u n) in
    let now = course_behind logs u us n q h in
    let none : h.init ≡ [] = flag_none h.init (sym (ap (λ (v : Undo). v.is_last) h.is) ∙ last) in
    let left : (course_of (records_for mid u.member) u.tran).undo ≡ [] = ap (λ (d : Course). d.undo) now ∙ all_but_last c.undo h.init h.made h.split ∙ none in
    let some : (length (course_of (records_for mid u.member) u.tran).undone == 0) ≡ false = ap (λ (d : Course). length d.undone == 0) now ∙ popped c h.init h.made h.split in
    let low : last_number 0 (records_for mid u.member) ≡ n = ap (last_number 0) (records_own logs u.member (compensation u n) q.has) ∙ last_with 0 (records_for logs u.member) (compensation u n) in
    let top = greatest_put logs u.member (compensation u n) q.has in
    put_is mid u.member (ended n u.tran) (has_still logs u.member (compensation u n) u.member ∙ q.has) (ended_allowed u.member u.tran u us c n h small) (λ log is. record {
      number = record {
        low = let k : last_number 0 log.records ≡ n = ap (last_number 0) is ∙ low in omega (arith, k);
        high = omega (arith, top, e);
      };
      undone = ap (λ (rs : List LogRecord). length (course_of rs u.tran).undo) is ∙ ap (λ (l : List LogRecord). length l) left;
      some = ap (λ (rs : List LogRecord). length (course_of rs u.tran).undone == 0) is ∙ some;
    })

-- ---- the whole queue

Done : List Log → Writes → Type 0
Done logs ws = (after : List Log) × AppendsAll logs ws after

one_more : (logs : List Log) (m : ℕ) (r : LogRecord) (ws : Writes) → PutIs logs m r → Done (put_record logs m r) ws → Done logs ((m, r) ∷ ws)
unfolding Done
one_more logs m r ws p d = (d.0, (put_record logs m r, p.appends, p.member_is, d.1))

queue_done : (us : List Undo) (logs : List Log) (n : ℕ) → QueueFits logs us → n ≡ greatest (all_records logs) → n + length us < 2 ^ 80 → Done logs (undo_writes n us)
unfolding Done
queue_done [] logs n fits e small = (logs, refl)
queue_done (u ∷ us) logs n fits e small =
    let q = first_queue logs u us fits in
    let rest = filter (is_of u.member u.tran) us in
    let c = course_of (records_for logs u.member) u.tran in
    let h = head_of u.member u.tran u rest c q.own q.is in
    let next : n + 1 ≡ greatest (all_records logs) + 1 = omega (arith, e) in
    let below : n + 1 < 2 ^ 80 = omega (arith, small) in
    let p : PutIs logs u.member (compensation u (n + 1)) = subst (λ (k : ℕ). PutIs logs u.member (compensation u k)) (sym next) (undoes logs u rest q h (subst (λ (k : ℕ). k < 2 ^ 80) next below)) in
    let mid = put_record logs u.member (compensation u (n + 1)) in
    let top = greatest_put logs u.member (compensation u (n + 1)) q.has in
    let fits_mid = fits_behind logs u us (n + 1) fits in
    let has_mid : has_log mid u.member ≡ true = has_still logs u.member (compensation u (n + 1)) u.member ∙ q.has in
    let few : (n + 1) + length us < 2 ^ 80 = omega (arith, small) in
    one_more logs u.member (compensation u (n + 1)) (cond u.is_last ((u.member, ended (n + 1) u.tran) ∷ undo_writes (n + 1) us) (undo_writes (n + 1) us)) p
    (cond_both u.is_last ((u.member, ended (n + 1) u.tran) ∷ undo_writes (n + 1) us) (undo_writes (n + 1) us) (Done mid)
    (λ last.
    let behind = put_record mid u.member (ended (n + 1) u.tran) in
    let top_behind = greatest_put mid u.member (ended (n + 1) u.tran) has_mid in
    one_more mid u.member (ended (n + 1) u.tran) (undo_writes (n + 1) us) (ends logs u rest (n + 1) q h last next below)
    (queue_done us behind (n + 1) (fits_ended mid u.member (n + 1) u.tran us has_mid fits_mid) (omega (arith, top, top_behind, e)) few))
    (λ more. queue_done us mid (n + 1) fits_mid (omega (arith, top, e)) few))

pub queue_appends : QueueAppends
unfolding Done
queue_appends logs us fits small = queue_done us logs (greatest (all_records logs)) fits refl small

-- ---- an empty queue

pub head_none : (m t : ℕ) (b : Bool) (us : List LogRecord) → AllByRecursion (IsOwnChange t) us → undos m t b us ≡ [] → us ≡ []
head_none m t b [] own h = refl
head_none m t b (u ∷ us) own h =
    let first : undo_before m t b u.lrsn u.body (undos m t false us) ≡ undo m t u.lrsn b own.0.change ∷ undos m t false us = ap (λ (d : Body). undo_before m t b u.lrsn d (undos m t false us)) own.0.body_is in
    let none : undo m t u.lrsn b own.0.change ∷ undos m t false us ≡ [] = sym first ∙ h in
    absurd cc

none_reversed : (us : List Undo) → [] ≡ reverse us → us ≡ []
none_reversed us h = sym (reverse-reverse us) ∙ ap reverse (sym h)

pub empty_queue_settles : EmptyQueueSettles
empty_queue_settles logs fits m t = elim (fits m t) [
  | inl e ↦ e.1
  | inr q ↦ inr (head_none m t true (course_of (records_for logs m) t).undo q.own (none_reversed (undos m t true (course_of (records_for logs m) t).undo) q.is))
]
