-- What a step of a restart leaves closed that calls no disk.
use Rattle.std.proofs.Common.{◌≡◌, ℕ, zero, suc, ◌≤◌, ◌<◌, refl, sym, ◌∙◌, ap, subst, arith, Bool, true, false, List, [], ◌∷◌, ◌++◌, append_assoc, length, Option, Some, None}
use Rattle.std.specs.Prelude.{◌≢◌, ◌==◌, ◌&&◌, ◌||◌, ◌-◌, not, if◌then◌else◌, IfSome, is_some, slice_get}
use Rattle.std.specs.List.{AllByRecursion}
use Rattle.std.proofs.lemmas.Bool.{and_parts, both_ways, eq-eqb}
use Rattle.std.proofs.lemmas.List.{append-nil}
use Rattle.std.proofs.lemmas.List.Concat.{flat_map-append}
use Rattle.ds_model.specs.RecordBytes.{ChangeIsAllowed, IsAllowed, IsNumber, log_bytes, record_bytes}
use Rattle.ds_model.specs.declared.log.Body.{Body}
use Rattle.ds_model.specs.declared.log.Body.TheVariants as body
use Rattle.ds_model.specs.declared.log.LogRecord.{LogRecord}
use Rattle.ds_model.specs.declared.log.RowChange.{RowChange}
use Rattle.ds_model.specs.declared.log.Version.{Version}
use Rattle.ds_model.specs.declared.log.Version.TheVariants as version
use Rattle.log_record.specs.Changes.{inverse}
use Rattle.log_rows.specs.Rows.{BothTell, is_closed}
use Rattle.member_log.specs.Buffers.{LogBuffer, after_put}
use Rattle.restart_records.specs.declared.trans.Newest.{Newest}
use Rattle.log_trans.specs.declared.opened.OpenTran.{OpenTran}
use Rattle.restart_records.specs.declared.trans.RestartTran.{RestartTran}
use Rattle.restart_records.specs.Maps.{place_at}
use Rattle.restart_records.specs.Own.{OwnState}
use Rattle.restart_records.specs.Trans.{TransState, after_back, after_end, is_at_row, is_last, is_open, is_undone, is_undone_by, newest, newest_at, newest_by, newest_change, newest_in, newest_of, no_trans, tran_at, tran_in}
use Rattle.restart_records.specs.Written.{back_record, both_logged, ended_record}
use Rattle.restart_marks.specs.Moves.{closing_record, fits_in, may_close}
use Rattle.restart_marks.specs.State.{RestartState}
use Rattle.restart_marks.specs.Undoing.{may_undo, may_undo_as, undone_after, undone_as, undone_by}
use Rattle.restart_closing.specs.Closing.{IsOf, IsRead, IsUnread, LeavesOpen, ListedBelow, RestartCloses, TranCloses, TransClose, Waits, trans_of}
use Rattle.restart_closing.proofs.Logs.{AreBack, IsBack, both_all, closed_last}
use Rattle.restart_closing.proofs.Trans.{IsOpenAt, at_place, back_open, back_same, end_same, none_some, same_some, trans_back, trans_ended, trans_more}

-- ---- records are put behind those that wait
abbrev pub Puts : List ℕ → List ℕ → List LogRecord → RestartState → Type 0
Puts log rest pend t = (new : List LogRecord) × RestartCloses log rest (pend ++ new) t

pub record Step (s t : RestartState) : Type 0 where
  pub member : t.member ≡ s.member
  pub own : t.own ≡ s.own
  pub closes : (log rest : List ℕ) (pend : List LogRecord) → RestartCloses log rest pend s → Puts log rest pend t
  pub idle : s.trans ≡ no_trans → (t.trans ≡ no_trans) × (t.log.pending ≡ s.log.pending)

pub step_on : (s t u : RestartState) → Step s t → Step t u → Step s u
step_on s t u a b = record {
  member = b.member ∙ a.member;
  own = b.own ∙ a.own;
  closes = λ log rest pend c.
      let p = a.closes log rest pend c in
      let q = b.closes log rest (pend ++ p.0) p.1 in
      (p.0 ++ q.0, subst (λ (z : List LogRecord). RestartCloses log rest z u) (append_assoc pend p.0 q.0) q.1);
  idle = λ none. let p = a.idle none in let q = b.idle p.0 in (q.0, q.1 ∙ p.1);
}

pub step_as : (s t u : RestartState) → t ≡ u → Step s u → Step s t
step_as s t u e k = subst (λ (z : RestartState). Step s z) (sym e) k

-- ---- nothing of it changes

-- own log, log buffer and transactions are the same
pub record Same (s t : RestartState) : Type 0 where
  pub member : t.member ≡ s.member
  pub own : t.own ≡ s.own
  pub log : t.log ≡ s.log
  pub trans : t.trans ≡ s.trans

pub same : (s : RestartState) → Same s s
same s = record { member = refl; own = refl; log = refl; trans = refl }

pub same_on : (s t u : RestartState) → Same s t → Same t u → Same s u
same_on s t u a b = record { member = b.member ∙ a.member; own = b.own ∙ a.own; log = b.log ∙ a.log; trans = b.trans ∙ a.trans }

pub same_closes : (s t : RestartState) → Same s t → (log rest : List ℕ) (pend : List LogRecord) → RestartCloses log rest pend s → RestartCloses log rest pend t
same_closes s t e log rest pend c = record {
  whole = c.whole;
  is_rest = c.is_rest;
  waits = subst (Waits pend) (sym e.log) c.waits;
  trans = subst (TransClose log pend) (sym e.trans) c.trans;
  unread = λ r. unread (c.unread (ap (λ (o : OwnState). o.is_read) (sym e.own) ∙ r));
  read = λ r. read (c.read (ap (λ (o : OwnState). o.is_read) (sym e.own) ∙ r));
  named = λ n low. c.named n (subst (λ (z : TransState). ListedBelow n z.list) e.trans low);
}
  where
    unread : IsUnread log pend s → IsUnread log pend t
    unread u = record { idle = u.idle; none = e.trans ∙ u.none; alike = u.alike }

    read : IsRead log rest s → IsRead log rest t
    read r = record {
      opens = subst (λ (z : TransState). LeavesOpen log (trans_of z.list)) (sym e.trans) r.opens;
      tail = ap (λ (o : OwnState). o.tail) e.own ∙ r.tail;
      long = λ some. ap (λ (o : OwnState). o.long) e.own ∙ r.long (λ none. some (ap (λ (o : OwnState). o.tail) e.own ∙ none));
    }

pub step_same : (s t : RestartState) → Same s t → Step s t
step_same s t e = record {
  member = e.member;
  own = e.own;
  closes = λ log rest pend c. ([], subst (λ (z : List LogRecord). RestartCloses log rest z t) (sym (append-nil pend)) (same_closes s t e log rest pend c));
  idle = λ none. (e.trans ∙ none, ap (λ (b : LogBuffer). b.pending) e.log);
}

pub step_itself : (s : RestartState) → Step s s
step_itself s = step_same s s (same s)

pub step_if : (b : Bool) (s t u : RestartState) → (b ≡ true → Step s t) → (b ≡ false → Step s u) → Step s (if b then t else u)
step_if true s t u x y = x refl
step_if false s t u x y = y refl

-- ---- records are put
one_more : (bytes : List ℕ) (pend : List LogRecord) (r : LogRecord) → bytes ≡ log_bytes pend → bytes ++ record_bytes r ≡ log_bytes (pend ++ r ∷ [])
one_more bytes pend r e = ap (λ (z : List ℕ). z ++ record_bytes r) e ∙ (ap (λ (z : List ℕ). log_bytes pend ++ z) (sym (append-nil (record_bytes r))) ∙ sym (flat_map-append record_bytes pend (r ∷ [])))

waits_more : (pend : List LogRecord) (b : LogBuffer) (r : LogRecord) → IsAllowed r → AreBack (r ∷ []) → IsNumber version.Two r.lrsn → Waits pend b → Waits (pend ++ r ∷ []) (after_put b r)
waits_more pend b r allowed back number w = record {
  spelled = one_more b.pending pend r w.spelled;
  allowed = both_all IsAllowed pend (r ∷ []) w.allowed (allowed, tt);
  back = both_all IsBack pend (r ∷ []) w.back back;
  number = number;
}

two_apart : (p : List LogRecord) (r q : LogRecord) → (p ++ r ∷ []) ++ q ∷ [] ≡ p ++ r ∷ q ∷ []
two_apart [] r q = refl
two_apart (x ∷ xs) r q = ap (λ (z : List LogRecord). x ∷ z) (two_apart xs r q)

-- the transactions of a restart of which one is known are read
not_unread : (log rest : List ℕ) (pend : List LogRecord) (s : RestartState) → RestartCloses log rest pend s → (s.trans ≡ no_trans → ⊥) → s.own.is_read ≡ true
not_unread log rest pend s c some = by s.own.is_read refl
  where
    by : (b : Bool) → s.own.is_read ≡ b → s.own.is_read ≡ true
    by true e = e
    by false e = absurd (some (c.unread e).none)

put_closes : (log rest : List ℕ) (pend new : List LogRecord) (s t : RestartState) → s.own.is_read ≡ true → t.own ≡ s.own → trans_of t.trans.list ≡ trans_of s.trans.list → ((c : ℕ) → ListedBelow c s.trans.list → AllByRecursion (λ (r : LogRecord). r.tran ≤ c) new)
    → Waits (pend ++ new) t.log → TransClose log (pend ++ new) t.trans → RestartCloses log rest pend s → RestartCloses log rest (pend ++ new) t
put_closes log rest pend new s t read own trans names waits closes c = record {
  whole = c.whole;
  is_rest = c.is_rest;
  waits = waits;
  trans = closes;
  unread = λ e. absurd (both_ways s.own.is_read (ap (λ (o : OwnState). o.is_read) (sym own) ∙ e) read);
  read = λ e. still (c.read read);
  named = λ n low.
      let before : ListedBelow n s.trans.list = subst (λ (z : List OpenTran). AllByRecursion (λ (x : OpenTran). x.id ≤ n) z) trans low in
      both_all (λ (r : LogRecord). r.tran ≤ n) pend new (c.named n before) (names n before);
}
  where
    still : IsRead log rest s → IsRead log rest t
    still r = record {
      opens = subst (LeavesOpen log) (sym trans) r.opens;
      tail = ap (λ (o : OwnState). o.tail) own ∙ r.tail;
      long = λ some. ap (λ (o : OwnState). o.long) own ∙ r.long (λ none. some (ap (λ (o : OwnState). o.tail) own ∙ none));
    }

-- ---- the transaction of a number
pub record Named (log : List ℕ) (pend : List LogRecord) (t : TransState) (id : ℕ) (x : RestartTran) : Type 0 where
  pub at : ℕ
  pub there : slice_get t.list at ≡ Some x
  pub closes : TranCloses log pend x
  pub is : x.tran.id ≡ id

named : (log : List ℕ) (pend : List LogRecord) (t : TransState) (id : ℕ) (x : RestartTran) → TransClose log pend t → tran_in t id ≡ Some x → Named log pend t id x
named log pend t id x h e = by (place_at t.places id) refl e
  where
    own : (at : ℕ) → slice_get t.list at ≡ Some x → IsOf id (slice_get t.list at) → x.tran.id ≡ id
    own at there is = subst (IsOf id) there is

    by : (o : Option ℕ) → place_at t.places id ≡ o → tran_at t o ≡ Some x → Named log pend t id x
    by None placed there = absurd (none_some x there)
    by (Some at) placed there = record { at = at; there = there; closes = at_place (TranCloses log pend) t.list at x there h.list; is = own at there (h.places id at placed) }

-- its number is among theirs
listed_at : (c : ℕ) (list : List RestartTran) (at : ℕ) (x : RestartTran) → slice_get list at ≡ Some x → ListedBelow c list → x.tran.id ≤ c
listed_at c [] at x is low = absurd (none_some x is)
listed_at c (z ∷ zs) zero x is low = subst (λ (w : RestartTran). w.tran.id ≤ c) (same_some z x is) low.0
listed_at c (z ∷ zs) (suc at) x is low = listed_at c zs at x is low.1

-- ---- a change is taken back
pub as_written : (v : Version) (n : ℕ) → IsNumber v n → IsNumber version.Two n
as_written version.One n h = omega arith
as_written version.Two n h = h

-- the change is one of an allowed record
pub record IsChange (it : Newest) : Type 0 where
  pub allowed : ChangeIsAllowed it.change
  pub number : IsNumber version.Two it.lrsn

change_in : (r : LogRecord) (c : RowChange) (it : Newest) → r.body ≡ body.RowChange c → IsAllowed r → newest_change r.lrsn c ≡ Some it → IsChange it
change_in r c it is ok e = by (is_at_row c) e
  where
    allowed : ChangeIsAllowed c
    allowed = (subst (λ (b : Body). IsAllowed (record r { body = b })) is ok).body_is

    from : record { lrsn = r.lrsn; change = c } ≡ it → IsChange it
    from e = subst IsChange e (record { allowed = allowed; number = as_written r.version r.lrsn ok.lrsn_in })

    by : (b : Bool) → (if b then Some (record { lrsn = r.lrsn; change = c }) else None) ≡ Some it → IsChange it
    by true e = from (same_some (record { lrsn = r.lrsn; change = c }) it e)
    by false e = absurd (none_some it e)

body_in : (r : LogRecord) (b : Body) (it : Newest) → r.body ≡ b → IsAllowed r → newest_in r.lrsn b ≡ Some it → IsChange it
body_in r (body.RowChange c) it is ok e = change_in r c it is ok e
body_in r (body.Compensation c undone) it is ok e = absurd (none_some it e)
body_in r (body.System patches) it is ok e = absurd (none_some it e)
body_in r body.Commit it is ok e = absurd (none_some it e)
body_in r body.Ended it is ok e = absurd (none_some it e)
body_in r (body.Checkpoint offset) it is ok e = absurd (none_some it e)
body_in r body.RestartEnd it is ok e = absurd (none_some it e)

pub record_at : (P : LogRecord → Type 0) (list : List LogRecord) (at : ℕ) (r : LogRecord) → slice_get list at ≡ Some r → AllByRecursion P list → P r
record_at P [] at r is h = absurd (none_some r is)
record_at P (z ∷ zs) zero r is h = subst P (same_some z r is) h.0
record_at P (z ∷ zs) (suc at) r is h = record_at P zs at r is h.1

newest_is : (x : RestartTran) (it : Newest) → AllByRecursion IsAllowed x.tran.undo → newest_of x ≡ Some it → IsChange it
newest_is x it ok e = by (is_open x && not (x.stands == 0)) e
  where
    from : (o : Option LogRecord) → slice_get x.tran.undo (x.stands - 1) ≡ o → newest_at o ≡ Some it → IsChange it
    from None is f = absurd (none_some it f)
    from (Some r) is f = body_in r r.body it refl (record_at IsAllowed x.tran.undo (x.stands - 1) r is ok) f

    by : (b : Bool) → (if b then newest_at (slice_get x.tran.undo (x.stands - 1)) else None) ≡ Some it → IsChange it
    by true f = from (slice_get x.tran.undo (x.stands - 1)) refl f
    by false f = absurd (none_some it f)

inverse_allowed : (c : RowChange) → ChangeIsAllowed c → ChangeIsAllowed (inverse c)
inverse_allowed c ok = record {
  table_in = ok.table_in;
  key_in = ok.key_in;
  page_some = ok.page_some;
  page_in = ok.page_in;
  slot_in = ok.slot_in;
  before_is = ok.after_is;
  after_is = ok.before_is;
}

back_allowed : (id lrsn : ℕ) (it : Newest) → id ≢ 0 → IsNumber version.Two id → IsNumber version.Two lrsn → IsChange it → IsAllowed (back_record id lrsn it)
back_allowed id lrsn it some number drawn is = record { lrsn_in = drawn; tran_fits = some; tran_in = number; body_is = (inverse_allowed it.change is.allowed, is.number) }

ended_allowed : (id lrsn : ℕ) → id ≢ 0 → IsNumber version.Two id → IsNumber version.Two lrsn → IsAllowed (ended_record id lrsn)
ended_allowed id lrsn some number drawn = record { lrsn_in = drawn; tran_fits = some; tran_in = number; body_is = tt }

own_closed : (id : ℕ) (a : Bool) → ((id == id) ≡ true) → (a || (((id == id) && true) || false)) ≡ true
own_closed id true e = refl
own_closed id false e = ap (λ (b : Bool). (b && true) || false) e

ends_own : (id lrsn : ℕ) → is_closed (ended_record id lrsn ∷ []) id ≡ true
ends_own id lrsn = own_closed id false (eq-eqb id id refl)

tran_of_newest : (o : Option RestartTran) (it : Newest) → newest_by o ≡ Some it → (x : RestartTran) × (o ≡ Some x) × (newest_of x ≡ Some it)
tran_of_newest None it e = absurd (none_some it e)
tran_of_newest (Some x) it e = (x, refl, e)

-- it is open still
newest_open : (x : RestartTran) (it : Newest) → newest_of x ≡ Some it → is_open x ≡ true
newest_open x it e = by (is_open x) e
  where
    by : (b : Bool) → (if b && not (x.stands == 0) then newest_at (slice_get x.tran.undo (x.stands - 1)) else None) ≡ Some it → b ≡ true
    by true q = refl
    by false q = absurd (none_some it q)

none_newest : (t : TransState) (id : ℕ) (it : Newest) → newest t id ≡ Some it → t ≡ no_trans → ⊥
none_newest t id it e none = none_some it (sym (ap (λ (z : TransState). newest z id) none) ∙ e)

module _ (law : BothTell) where
  -- by the one record, and by the other where it is the last
  undone_with : (log rest : List ℕ) (pend : List LogRecord) (s : RestartState) (id lrsn : ℕ) (it : Newest) (last : Bool)
      → IsNumber version.Two lrsn → newest s.trans id ≡ Some it → RestartCloses log rest pend s
      → (t : RestartState) → t.own ≡ s.own → t.log ≡ both_logged s.log (back_record id lrsn it) (ended_record id lrsn) last → t.trans ≡ (if last then after_end (after_back s.trans id) id else after_back s.trans id)
      → Puts log rest pend t
  undone_with log rest pend s id lrsn it last drawn new c t own logged trans = by last logged trans
    where
      r : LogRecord
      r = back_record id lrsn it

      q : LogRecord
      q = ended_record id lrsn

      found : (x : RestartTran) × (tran_in s.trans id ≡ Some x) × (newest_of x ≡ Some it)
      found = tran_of_newest (tran_in s.trans id) it new

      n : Named log pend s.trans id found.0
      n = named log pend s.trans id found.0 c.trans found.1

      id_below : (k : ℕ) → ListedBelow k s.trans.list → id ≤ k
      id_below k low = subst (λ (z : ℕ). z ≤ k) n.is (listed_at k s.trans.list n.at found.0 n.there low)

      some : id ≢ 0
      some e = n.closes.named (n.is ∙ e)

      number : IsNumber version.Two id
      number = subst (IsNumber version.Two) n.is n.closes.has.number

      r_ok : IsAllowed r
      r_ok = back_allowed id lrsn it some number drawn (newest_is found.0 it n.closes.has.undo found.2)

      q_ok : IsAllowed q
      q_ok = ended_allowed id lrsn some number drawn

      goes : IsOpenAt s.trans id
      goes = subst (λ (z : Option RestartTran). IfSome z (λ (x : RestartTran). is_open x ≡ true)) (sym found.1) (newest_open found.0 it found.2)

      read : s.own.is_read ≡ true
      read = not_unread log rest pend s c (none_newest s.trans id it new)

      first : Waits (pend ++ r ∷ []) (after_put s.log r)
      first = waits_more pend s.log r r_ok (refl, tt) drawn c.waits

      both : Waits (pend ++ r ∷ q ∷ []) (after_put (after_put s.log r) q)
      both = subst (λ (z : List LogRecord). Waits z (after_put (after_put s.log r) q)) (two_apart pend r q) (waits_more (pend ++ r ∷ []) (after_put s.log r) q q_ok (refl, tt) drawn first)

      back : (more : List LogRecord) → TransClose log (pend ++ more) (after_back s.trans id)
      back more = trans_back log (pend ++ more) s.trans id (trans_more law log pend more s.trans c.trans)

      by : (b : Bool) → t.log ≡ both_logged s.log r q b → t.trans ≡ (if b then after_end (after_back s.trans id) id else after_back s.trans id) → Puts log rest pend t
      by true logs ends = (
        r ∷ q ∷ [],
        put_closes log rest pend (r ∷ q ∷ []) s t read own
            (ap (λ (z : TransState). trans_of z.list) ends ∙ (end_same (after_back s.trans id) id ∙ back_same s.trans id))
            (λ n low. (id_below n low, (id_below n low, tt)))
            (subst (Waits (pend ++ r ∷ q ∷ [])) (sym logs) both)
            (subst (TransClose log (pend ++ r ∷ q ∷ [])) (sym ends)
            (trans_ended log (pend ++ r ∷ q ∷ []) (after_back s.trans id) id (back_open s.trans id goes) (closed_last law pend (r ∷ q ∷ []) id (own_closed id ((id == id) && false) (eq-eqb id id refl))) (back (r ∷ q ∷ [])))) c,
      )
      by false logs ends = (
        r ∷ [],
        put_closes log rest pend (r ∷ []) s t read own
            (ap (λ (z : TransState). trans_of z.list) ends ∙ back_same s.trans id)
            (λ n low. (id_below n low, tt))
            (subst (Waits (pend ++ r ∷ [])) (sym logs) first)
            (subst (TransClose log (pend ++ r ∷ [])) (sym ends) (back (r ∷ []))) c,
      )

  step_undone : (s : RestartState) (id lrsn : ℕ) (o : Option Newest) → IsNumber version.Two lrsn → newest s.trans id ≡ o → Step s (undone_as s id lrsn o)
  step_undone s id lrsn None drawn is = step_itself s
  step_undone s id lrsn (Some it) drawn is = record {
    member = refl;
    own = refl;
    closes = λ log rest pend c. undone_with log rest pend s id lrsn it (is_last s.trans id) drawn is c (undone_by s id lrsn it) refl refl refl;
    idle = λ none. absurd (none_newest s.trans id it is none);
  }

  pub step_undo : (s : RestartState) (id lrsn : ℕ) → IsNumber version.Two lrsn → Step s (undone_after s id lrsn)
  step_undo s id lrsn drawn = step_if (may_undo s id lrsn) s (undone_as s id lrsn (newest s.trans id)) s (λ e. step_undone s id lrsn (newest s.trans id) drawn refl) (λ e. step_itself s)

  -- ---- a transaction is closed
  undone_tran : (o : Option RestartTran) → is_undone_by o ≡ true → (x : RestartTran) × (o ≡ Some x) × (is_open x ≡ true)
  undone_tran None e = absurd cc
  undone_tran (Some x) e = (x, refl, (and_parts (is_open x) (x.stands == 0) e).0)

  none_undone : (t : TransState) (id : ℕ) → is_undone t id ≡ true → t ≡ no_trans → ⊥
  none_undone t id e none = never (sym (ap (λ (z : TransState). is_undone z id) none) ∙ e)
    where
      never : false ≡ true → ⊥
      never f = cc

  close_with : (log rest : List ℕ) (pend : List LogRecord) (s : RestartState) (id : ℕ) → is_undone s.trans id ≡ true → RestartCloses log rest pend s
      → Puts log rest pend (record s { log = after_put s.log (closing_record s id); trans = after_end s.trans id })
  close_with log rest pend s id undone c = (
    q ∷ [],
    put_closes log rest pend (q ∷ []) s (record s { log = after_put s.log q; trans = after_end s.trans id }) read refl (end_same s.trans id) (λ n low. (id_below n low, tt))
        (waits_more pend s.log q (ended_allowed id s.log.last some number c.waits.number) (refl, tt) c.waits.number c.waits)
        (trans_ended log (pend ++ q ∷ []) s.trans id goes (closed_last law pend (q ∷ []) id (ends_own id s.log.last)) (trans_more law log pend (q ∷ []) s.trans c.trans)) c,
  )
    where
      q : LogRecord
      q = closing_record s id

      found : (x : RestartTran) × (tran_in s.trans id ≡ Some x) × (is_open x ≡ true)
      found = undone_tran (tran_in s.trans id) undone

      n : Named log pend s.trans id found.0
      n = named log pend s.trans id found.0 c.trans found.1

      id_below : (k : ℕ) → ListedBelow k s.trans.list → id ≤ k
      id_below k low = subst (λ (z : ℕ). z ≤ k) n.is (listed_at k s.trans.list n.at found.0 n.there low)

      some : id ≢ 0
      some e = n.closes.named (n.is ∙ e)

      number : IsNumber version.Two id
      number = subst (IsNumber version.Two) n.is n.closes.has.number

      goes : IsOpenAt s.trans id
      goes = subst (λ (z : Option RestartTran). IfSome z (λ (x : RestartTran). is_open x ≡ true)) (sym found.1) found.2

      read : s.own.is_read ≡ true
      read = not_unread log rest pend s c (none_undone s.trans id undone)

  may_close_undone : (s : RestartState) (id : ℕ) → may_close s id ≡ true → is_undone s.trans id ≡ true
  may_close_undone s id e =
      let p = and_parts (not (id == 0)) (not (is_some s.trans.ending) && (is_undone s.trans id && fits_in s.log (closing_record s id))) e in
      let q = and_parts (not (is_some s.trans.ending)) (is_undone s.trans id && fits_in s.log (closing_record s id)) p.1 in
      (and_parts (is_undone s.trans id) (fits_in s.log (closing_record s id)) q.1).0

  pub step_close : (s : RestartState) (id : ℕ) → Step s (if may_close s id then record s { log = after_put s.log (closing_record s id); trans = after_end s.trans id } else s)
  step_close s id = step_if (may_close s id) s (record s { log = after_put s.log (closing_record s id); trans = after_end s.trans id }) s
      (λ may. record {
        member = refl;
        own = refl;
        closes = λ log rest pend c. close_with log rest pend s id (may_close_undone s id may) c;
        idle = λ none. absurd (none_undone s.trans id (may_close_undone s id may) none);
      })
      (λ may. step_itself s)
