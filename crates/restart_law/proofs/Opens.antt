-- What each change of a restart leaves of what it has left open.
use Rattle.std.proofs.Common.{◌≡◌, ℕ, zero, suc, ◌+◌, ◌-◌, ◌≤◌, refl, sym, ◌∙◌, ap, subst, arith, Bool, true, false, List, [], ◌∷◌, length, Option, Some, None}
use Rattle.std.specs.Prelude.{◌^◌, replicate, slice_get, slice_index_or, IfSome, if◌then◌else◌}
use Rattle.std.proofs.lemmas.Bool.{both_ways}
use Rattle.ds_model.specs.declared.lock.Name.{Name}
use Rattle.ds_model.specs.declared.lock.Name.TheVariants as name
use Rattle.ds_model.specs.declared.log.LogRecord.{LogRecord}
use Rattle.checkpoint_reader.specs.Readers.{ReaderState}
use Rattle.log_record.specs.declared.log.Log.{Log}
use Rattle.log_rows.specs.Rows.{OpenTell}
use Rattle.log_trans.specs.Courses.{open_trans}
use Rattle.restart_records.specs.declared.names.NameMark.{NameMark}
use Rattle.restart_records.specs.declared.trans.RestartTran.{RestartTran}
use Rattle.restart_records.specs.Names.{NameState, mark_of, marked, no_mark, no_names, purged_now, retained_now, trans_needed}
use Rattle.restart_records.specs.Own.{OwnState, own_with}
use Rattle.restart_records.specs.Trans.{TransState, all_added, after_finish, ending_in, no_trans}
use Rattle.restart_marks.specs.Adopt.{adopted_after, adopted_as, may_adopt}
use Rattle.restart_marks.specs.declared.marks.KeptBy.{KeptBy}
use Rattle.restart_marks.specs.Reading.{entered}
use Rattle.restart_marks.specs.State.{IsFresh, RestartState, with_own, with_trans}
use Rattle.restart_marks.specs.Undoing.{forced_after, names_freed}
use Rattle.restart_law.specs.Opens.{AreNeeded, FewNeeds, IsEnding, IsMarked, OpensStand, is_over, needs_left}
use Rattle.restart_law.proofs.Names.{marked_on, more_spaces, put_needed, same_is, same_name, tran_freed_spaces, tran_lowered, trans_raised, trans_spaces}
use Rattle.restart_law.proofs.Trans.{AreFrom, Less, added_ending, added_from, added_needs, finish, freed_by, less, less_on}

abbrev pub Keeps : RestartState → RestartState → Type 0
Keeps s t = OpensStand s → OpensStand t

-- ---- where nothing is freed, and nothing read
pub record Near (s t : RestartState) : Type 0 where
  pub member : t.member ≡ s.member
  pub idle : s.trans ≡ no_trans → t.log.pending ≡ s.log.pending
  pub own : t.own ≡ s.own
  pub read : t.own.is_read ≡ s.own.is_read
  pub reader : t.own.reader ≡ s.own.reader
  pub records : t.own.records ≡ s.own.records
  pub unread_names : s.own.is_read ≡ false → s.names ≡ no_names → t.names ≡ no_names
  pub none : s.trans ≡ no_trans → t.trans ≡ no_trans
  pub spaces : length t.names.spaces ≡ length s.names.spaces
  pub needed : (n : Name) → IsMarked s.names n → (mark_of s.names n).needed ≤ (mark_of t.names n).needed
  pub less : Less s.own.records s.trans t.trans

pub near : (s : RestartState) → Near s s
near s = record {
  member = refl;
  idle = λ _. refl;
  own = refl;
  read = refl;
  reader = refl;
  records = refl;
  unread_names = λ _ e. e;
  none = λ e. e;
  spaces = refl;
  needed = λ n known. omega arith;
  less = less s.own.records s.trans;
}

pub near_on : (s t u : RestartState) → Near s t → Near t u → Near s u
near_on s t u a b = record {
  member = b.member ∙ a.member;
  idle = λ e. b.idle (a.none e) ∙ a.idle e;
  none = λ e. b.none (a.none e);
  own = b.own ∙ a.own;
  read = b.read ∙ a.read;
  reader = b.reader ∙ a.reader;
  records = b.records ∙ a.records;
  unread_names = λ r e. b.unread_names (a.read ∙ r) (a.unread_names r e);
  spaces = b.spaces ∙ a.spaces;
  needed = λ n known. let p = a.needed n known in let q = b.needed n (marked_on s.names t.names n a.spaces known) in omega arith;
  less = less_on s.own.records s.trans t.trans u.trans a.less (subst (λ (z : List LogRecord). Less z t.trans u.trans) a.records b.less);
}

pub near_keeps : (s t : RestartState) → Near s t → Keeps s t
near_keeps s t n o = record {
  none_needed = λ r. let q = sym n.read ∙ r in n.unread_names q (o.none_needed q);
  none_open = λ r. n.none (o.none_open (sym n.read ∙ r));
  reader = λ r. n.reader ∙ o.reader (sym n.read ∙ r);
  from_log = subst (λ (z : List LogRecord). AreFrom z t.trans.list) (sym n.records) (n.less.from_log o.from_log);
  needed = λ few m known. all (subst (λ (z : List LogRecord). FewNeeds z) n.records few) m (marked_on t.names s.names m (sym n.spaces) known);
  ending = n.less.ending o.ending;
}
  where
    all : FewNeeds s.own.records → (m : Name) → IsMarked s.names m → needs_left m t.trans.list ≤ (mark_of t.names m).needed
    all few m known =
        let p = o.needed few m known in
        let q = n.needed m known in
        let l = n.less.needs m in
        omega arith

pub keeps : (s : RestartState) → Keeps s s
keeps s o = o

-- ---- names
same_needed : (s : NameState) (n q : Name) (b c : Bool) → same_name n q ≡ c → (if c then (mark_of s n).needed else (mark_of s q).needed) ≡ (mark_of s q).needed
same_needed s n q b true e = ap (λ (z : Name). (mark_of s z).needed) (same_is n q e)
same_needed s n q b false e = refl

-- a name is retained or not, and as often needed
pub as_needed : (s : NameState) (n q : Name) (b : Bool) → IsMarked s q → (mark_of (marked s n (record { retained = b; needed = (mark_of s n).needed })) q).needed ≡ (mark_of s q).needed
as_needed s n q b known = put_needed s n q (record { retained = b; needed = (mark_of s n).needed }) known ∙ same_needed s n q b (same_name n q) refl

mark_names : (s : RestartState) (n : Name) (b : Bool) → s.own.is_read ≡ true → Near s (record s { names = marked s.names n (record { retained = b; needed = (mark_of s.names n).needed }) })
mark_names s n b read = record {
  member = refl;
  idle = λ _. refl;
  own = refl;
  read = refl;
  reader = refl;
  records = refl;
  unread_names = λ r _. absurd (both_ways s.own.is_read r read);
  none = λ e. e;
  spaces = more_spaces s.names n (record { retained = b; needed = (mark_of s.names n).needed });
  needed = λ q known. let e = as_needed s.names n q b known in omega arith;
  less = less s.own.records s.trans;
}

pub retains : (s : RestartState) (n : Name) → s.own.is_read ≡ true → Near s (record s { names = retained_now s.names n })
retains s n read = mark_names s n true read

nothing_at : (k i : ℕ) → slice_index_or (replicate k no_mark) i no_mark ≡ no_mark
nothing_at zero i = refl
nothing_at (suc k) zero = refl
nothing_at (suc k) (suc i) = nothing_at k i

pub none_marked : (n : Name) → mark_of no_names n ≡ no_mark
none_marked (name.Space t) = nothing_at 65 t
none_marked (name.Row t k) = refl
none_marked (name.Page p) = refl
none_marked (name.Set k) = refl

none_purged : (n : Name) → purged_now no_names n ≡ no_names
none_purged n = ap (λ (b : Bool). if b then marked no_names n (record { retained = false; needed = (mark_of no_names n).needed }) else no_names) (ap (λ (m : NameMark). m.retained) (none_marked n))

pub purges : (s : RestartState) (n : Name) → Near s (record s { names = purged_now s.names n })
purges s n = record {
  member = refl;
  idle = λ _. refl;
  own = refl;
  read = refl;
  reader = refl;
  records = refl;
  unread_names = λ _ e. ap (λ (z : NameState). purged_now z n) e ∙ none_purged n;
  none = λ e. e;
  spaces = spaces_by (mark_of s.names n).retained;
  needed = λ q known. needed_by q known (mark_of s.names n).retained;
  less = less s.own.records s.trans;
}
  where
    spaces_by : (b : Bool) → length (if b then marked s.names n (record { retained = false; needed = (mark_of s.names n).needed }) else s.names).spaces ≡ length s.names.spaces
    spaces_by true = more_spaces s.names n (record { retained = false; needed = (mark_of s.names n).needed })
    spaces_by false = refl

    needed_by : (q : Name) → IsMarked s.names q → (b : Bool) → (mark_of s.names q).needed ≤ (mark_of (if b then marked s.names n (record { retained = false; needed = (mark_of s.names n).needed }) else s.names) q).needed
    needed_by q known true = let e = as_needed s.names n q false known in omega arith
    needed_by q known false = omega arith

-- ---- transactions
pub trans_near : (s t : RestartState) → t.member ≡ s.member → (s.trans ≡ no_trans → t.log.pending ≡ s.log.pending) → t.own ≡ s.own → t.names ≡ s.names → (s.trans ≡ no_trans → t.trans ≡ no_trans) → Less s.own.records s.trans t.trans → Near s t
trans_near s t member idle own names none l = record {
  member = member;
  idle = idle;
  own = own;
  read = ap (λ (z : OwnState). z.is_read) own;
  reader = ap (λ (z : OwnState). z.reader) own;
  records = ap (λ (z : OwnState). z.records) own;
  unread_names = λ _ e. names ∙ e;
  none = none;
  spaces = ap (λ (z : NameState). length z.spaces) names;
  needed = λ n known. subst (λ (z : NameState). (mark_of s.names n).needed ≤ (mark_of z n).needed) (sym names) (omega arith);
  less = l;
}

-- ---- the log buffer stands in the log
freed_spaces : (s : NameState) (o : Option RestartTran) → length (names_freed s o).spaces ≡ length s.spaces
freed_spaces s None = refl
freed_spaces s (Some x) = tran_freed_spaces s x.tran

freed_needs : (s : NameState) (o : Option RestartTran) (q : Name) (k : ℕ) → IsMarked s q → k + freed_by q o ≤ (mark_of s q).needed → k ≤ (mark_of (names_freed s o) q).needed
freed_needs s None q k known le = omega arith
freed_needs s (Some x) q k known le = tran_lowered s x.tran q k known le

pub forces : (s : RestartState) → Keeps s (forced_after s)
forces s o = record {
  none_needed = λ r. ap (λ (z : TransState). names_freed s.names (ending_in z)) (o.none_open r) ∙ o.none_needed r;
  none_open = λ r. ap (λ (z : TransState). after_finish z) (o.none_open r);
  reader = o.reader;
  from_log = (finish s.own.records s.trans o.ending).from_log o.from_log;
  needed = λ few n known. all few n (marked_on (names_freed s.names (ending_in s.trans)) s.names n (sym (freed_spaces s.names (ending_in s.trans))) known);
  ending = (finish s.own.records s.trans o.ending).ending;
}
  where
    all : FewNeeds s.own.records → (n : Name) → IsMarked s.names n → needs_left n (after_finish s.trans).list ≤ (mark_of (names_freed s.names (ending_in s.trans)) n).needed
    all few n known =
        let p = o.needed few n known in
        let q = (finish s.own.records s.trans o.ending).needs n in
        freed_needs s.names (ending_in s.trans) n (needs_left n (after_finish s.trans).list) known (omega arith)

-- ---- the log is read
some_none : {A : Type 0} → (x : Option A) (a : A) → x ≡ Some a → x ≡ None → ⊥
some_none x a p q = cc

-- a reader is there, so the log isn't read whole
pub unread : (s : RestartState) (r : ReaderState) → s.own.reader ≡ Some r → OpensStand s → s.own.is_read ≡ false
unread s r there o = by s.own.is_read refl
  where
    by : (b : Bool) → s.own.is_read ≡ b → s.own.is_read ≡ false
    by true e = absurd (some_none s.own.reader r there (o.reader e))
    by false e = e

-- another reader, or none, is there
pub reader_in : (s t : RestartState) (r : ReaderState) (x : Option ReaderState) → s.own.reader ≡ Some r → t ≡ with_own s (own_with s.own x) → Keeps s t
reader_in s t r x there e o = subst (λ (z : RestartState). OpensStand z) (sym e) (record {
  none_needed = o.none_needed;
  none_open = o.none_open;
  reader = λ read. absurd (both_ways s.own.is_read (unread s r there o) read);
  from_log = o.from_log;
  needed = o.needed;
  ending = o.ending;
})

pub enters : OpenTell → (s : RestartState) (log : Log) → s.names ≡ no_names → s.trans ≡ no_trans → OpensStand (entered s log)
enters law s log names trans = record {
  none_needed = λ r. absurd cc;
  none_open = λ r. absurd cc;
  reader = λ _. refl;
  from_log = subst (λ (z : TransState). AreFrom log.records (all_added z (open_trans log.records)).list) (sym trans) (added_from log.records no_trans (open_trans log.records) tt (law log.records));
  needed = λ few. subst (λ (z : TransState). AreNeeded (trans_needed s.names (open_trans log.records)) (all_added z (open_trans log.records)).list) (sym trans) (all few);
  ending = subst (λ (z : TransState). IsEnding (all_added z (open_trans log.records))) (sym trans) (
      subst (λ (o : Option ℕ). IfSome o (λ (at : ℕ). IfSome (slice_get (all_added no_trans (open_trans log.records)).list at) (λ (x : RestartTran). is_over x.stage ≡ false))) (sym (added_ending no_trans (open_trans log.records))) tt);
}
  where
    all : FewNeeds log.records → AreNeeded (trans_needed s.names (open_trans log.records)) (all_added no_trans (open_trans log.records)).list
    all few n known =
        let p = added_needs n no_trans (open_trans log.records) in
        let f = few n in
        let q = trans_raised s.names (open_trans log.records) n 0 (marked_on (trans_needed s.names (open_trans log.records)) s.names n (sym (trans_spaces s.names (open_trans log.records))) known) (omega arith) (omega arith) in
        omega arith

-- ---- the begin, and what is handed over
pub begins : (member : ℕ) (s : RestartState) → IsFresh member s → OpensStand s
begins member s f = subst (λ (z : RestartState). OpensStand z) (sym f.rest) (record {
  none_needed = λ _. refl;
  none_open = λ _. refl;
  reader = λ r. absurd (both_ways s.own.is_read (ap (λ (z : OwnState). z.is_read) f.own.rest) r);
  from_log = tt;
  needed = λ few n known. omega arith;
  ending = tt;
})

none_left : (s : RestartState) → OpensStand s → OpensStand (with_trans s no_trans)
none_left s o = record {
  none_needed = o.none_needed;
  none_open = λ _. refl;
  reader = o.reader;
  from_log = tt;
  needed = λ few n known. omega arith;
  ending = tt;
}

pub hands : (s : RestartState) → OpensStand s → OpensStand (adopted_after s)
hands s o = by_kept s.kept
  where
    by : (b : Bool) → OpensStand (if b then with_trans s no_trans else s)
    by true = none_left s o
    by false = o

    by_kept : (k : Option KeptBy) → OpensStand (adopted_as s k)
    by_kept None = o
    by_kept (Some kept) = by (may_adopt s)
