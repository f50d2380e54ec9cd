-- What any event of a restart leaves closed.
use Rattle.std.proofs.Common.{◌≡◌, ℕ, ◌≤◌, refl, sym, ◌∙◌, ap, subst, arith, Bool, true, false, inl, inr, List, [], ◌∷◌, ◌++◌, append_assoc, length, take, drop, Option, Some, None, Result, Ok, Err}
use Rattle.std.specs.Prelude.{◌≢◌, ◌⊎◌, ◌-◌, ◌==◌, nat_lt, not, if◌then◌else◌, IfOk, slice_get}
use Rattle.std.specs.List.{AllByRecursion}
use Rattle.std.proofs.lemmas.Bool.{both_ways, eqb-false, eqb-true, ltb-true}
use Rattle.std.proofs.lemmas.List.{append-nil, get_or-set_same, length-set, take_at}
use Rattle.ds_base.specs.declared.names.PageId.{PageId}
use Rattle.ds_disk.specs.Contents.{Becomes, Contents, log_of, with_log}
use Rattle.ds_disk.specs.declared.disk.DiskError.{DiskError}
use Rattle.ds_disk.specs.declared.disk.DiskError.TheVariants as error
use Rattle.ds_model.specs.RecordBytes.{IsAllowed, IsNumber, log_bytes}
use Rattle.ds_model.specs.declared.log.LogRecord.{LogRecord}
use Rattle.ds_model.specs.declared.log.Version.{Version}
use Rattle.ds_model.specs.declared.log.Version.TheVariants as version
use Rattle.facility.specs.declared.command.Command.{Command}
use Rattle.facility.specs.declared.command.Command.TheVariants as command
use Rattle.facility.specs.declared.command.Indexes.{Indexes}
use Rattle.facility.specs.declared.command.Reply.{Reply}
use Rattle.facility.specs.declared.command.Reply.TheVariants as reply
use Rattle.facility.specs.Commands.{CanExecute, Executes}
use Rattle.facility.specs.Counting.{drawn, first_stale, given}
use Rattle.facility.specs.States as facility
use Rattle.checkpoint_reader.specs.Lending.{with_block}
use Rattle.checkpoint_reader.specs.Readers.{ReaderState, after_reply, is_whole, parts_read}
use Rattle.log_appends.specs.Appends.{AreLastFrom}
use Rattle.log_appends.specs.Rests.{IsRest}
use Rattle.log_opens.specs.Puts.{HasAllowed}
use Rattle.log_reader.specs.declared.calls.LogReply.{LogReply}
use Rattle.log_reader.specs.declared.calls.LogReply.TheVariants as logged
use Rattle.log_record.specs.declared.log.Log.{Log}
use Rattle.log_record.specs.Logs.{Parts}
use Rattle.log_rows.specs.Rows.{IsOpenIn}
use Rattle.log_trans.specs.declared.damage.Damaged.{Damaged}
use Rattle.log_trans.specs.declared.opened.OpenTran.{OpenTran}
use Rattle.log_trans.specs.Courses.{open_trans}
use Rattle.log_trans.specs.Damage.{log_damage}
use Rattle.member_intents.specs.declared.outcome.Answered.{Answered}
use Rattle.member_intents.specs.declared.outcome.Answered.TheVariants as answered
use Rattle.restart_records.specs.Own.{OwnState, last_number, number_in, own_with}
use Rattle.restart_records.specs.Trans.{TransState, all_added, after_finish, no_trans}
use Rattle.restart_marks.specs.declared.intent.RestartIntent.{RestartIntent}
use Rattle.restart_marks.specs.declared.intent.RestartIntent.TheVariants as intent
use Rattle.restart_marks.specs.declared.intent.RestartSent.{RestartSent}
use Rattle.restart_marks.specs.declared.intent.RestartSent.TheVariants as sent
use Rattle.restart_marks.specs.declared.told.RestartTold.{RestartTold}
use Rattle.restart_marks.specs.Hands.{filled_after}
use Rattle.restart_marks.specs.Needs.{need_of}
use Rattle.restart_marks.specs.Reading.{entered, judged_after, log_from, read_after, read_on_after, reader_after, whole_after}
use Rattle.restart_marks.specs.State.{IsFresh, RestartState, with_hand, with_own}
use Rattle.restart_marks.specs.Undoing.{forced_after}
use Rattle.restart_resources.specs.declared.calls.Got.{Got}
use Rattle.restart_resources.specs.declared.calls.Got.TheVariants as got
use Rattle.restart_resources.specs.Calls.{Drive, ReadsBy, RunsCall, Stores, done_after, got_after, tail_cut, with_reader}
use Rattle.restart_resources.specs.Events.{Happens, Runs, World}
use Rattle.restart_resources.specs.Held.{Held}
use Rattle.restart_resources.specs.Lending.{Gives, is_hand, lent_bytes, with_bytes}
use Rattle.restart_resources.specs.Settled.{settled}
use Rattle.restart_closing.specs.Closing.{ClosesBegin, ClosesStay, HasLog, IsRead, IsUnread, LeavesOpen, ListedBelow, ReadsAll, RestartCloses, StillCloses, TransClose, Waits, trans_of}
use Rattle.restart_closing.proofs.Logs.{Facts, closed_on, each, opens_on}
use Rattle.restart_closing.proofs.Needs.{FitsSent, draws_undo, fits_sent}
use Rattle.restart_closing.proofs.Replies.{IsWritten, IsWrittenFor, locals, settles}
use Rattle.restart_closing.proofs.Steps.{Puts, Same, Step, as_written, record_at, same, same_closes, step_as, step_same}
use Rattle.restart_closing.proofs.Trans.{MayEnter, entered_trans, finish_same, none_close, trans_entered, trans_forced}

-- ---- what is left on disk
none_more : (log rest : List ℕ) → (log ++ log_bytes []) ++ rest ≡ log ++ rest
none_more log rest = ap (λ (z : List ℕ). z ++ rest) (append-nil log)

-- nothing of the log changes
quietly : (log rest : List ℕ) (pend new : List LogRecord) (drive : Drive) (s : RestartState) → HasLog drive s.member (log ++ rest) → RestartCloses log rest (pend ++ new) s → StillCloses log rest pend drive s
quietly log rest pend new drive s has c = record {
  more = [];
  new = new;
  left = pend ++ new;
  behind = rest;
  goes = inl (refl, refl);
  cut = inl refl;
  tells = subst (HasLog drive s.member) (sym (none_more log rest)) has;
  closes = subst (λ (z : List ℕ). RestartCloses z rest (pend ++ new) s) (sym (append-nil log)) c;
}

at_member : (drive : Drive) (s t : RestartState) (bytes : List ℕ) → t.member ≡ s.member → HasLog drive s.member bytes → HasLog drive t.member bytes
at_member drive s t bytes e has = subst (λ (z : ℕ). HasLog drive z bytes) (sym e) has

-- a step behind it
stepped : (log rest : List ℕ) (pend : List LogRecord) (drive : Drive) (s t : RestartState) → Step s t → StillCloses log rest pend drive s → StillCloses log rest pend drive t
stepped log rest pend drive s t step k = record {
  more = k.more;
  new = k.new ++ p.0;
  left = k.left ++ p.0;
  behind = k.behind;
  goes = by k.goes;
  cut = k.cut;
  tells = at_member drive s t ((log ++ log_bytes k.more) ++ k.behind) step.member k.tells;
  closes = p.1;
}
  where
    p : Puts (log ++ log_bytes k.more) k.behind k.left t
    p = step.closes (log ++ log_bytes k.more) k.behind k.left k.closes

    by : ((k.more ≡ []) × (k.left ≡ pend ++ k.new)) ⊎ ((k.more ≡ pend) × (k.left ≡ k.new)) → ((k.more ≡ []) × (k.left ++ p.0 ≡ pend ++ (k.new ++ p.0))) ⊎ ((k.more ≡ pend) × (k.left ++ p.0 ≡ k.new ++ p.0))
    by (inl e) = inl (e.0, ap (λ (z : List LogRecord). z ++ p.0) e.1 ∙ append_assoc pend k.new p.0)
    by (inr e) = inr (e.0, ap (λ (z : List LogRecord). z ++ p.0) e.1)

-- ---- the disk
pub told_after : (before after : Option Contents) (c : Contents) (P : Contents → Contents → Type 0) → before ≡ Some c → Becomes before after P → (d : Contents) × (after ≡ Some d) × P c d
told_after before after c P is b = by after (subst (λ (z : Option Contents). Becomes z after P) is b)
  where
    by : (o : Option Contents) → Becomes (Some c) o P → (d : Contents) × (o ≡ Some d) × P c d
    by None e = absurd e
    by (Some d) e = (d, refl, e)

pub same_log : (w v : Drive) (member : ℕ) (bytes : List ℕ) (l : HasLog w member bytes) → ((d : Contents) × (v.contents ≡ Some d) × (d ≡ l.contents)) → HasLog v member bytes
same_log w v member bytes l d = record {
  contents = d.0;
  told = d.1;
  there = subst (λ (z : Contents). nat_lt (member - 1) (length z.logs) ≡ true) (sym d.2) l.there;
  log = ap (λ (z : Contents). log_of z.logs member) d.2 ∙ l.log;
}

-- the log has other bytes
pub new_log : (w v : Drive) (member : ℕ) (bytes now : List ℕ) (l : HasLog w member bytes) → ((d : Contents) × (v.contents ≡ Some d) × (d ≡ with_log l.contents member now)) → HasLog v member now
new_log w v member bytes now l d = record {
  contents = d.0;
  told = d.1;
  there = subst (λ (z : ℕ). nat_lt (member - 1) z ≡ true) (sym (ap (λ (z : Contents). length z.logs) d.2 ∙ length-set l.contents.logs (member - 1) now)) l.there;
  log = ap (λ (z : Contents). log_of z.logs member) d.2 ∙ get_or-set_same l.contents.logs (member - 1) now [] (ltb-true (member - 1) (length l.contents.logs) l.there);
}

pub record WasGot (h k : Held) (x : RestartSent) (done : Result Got DiskError) : Type 0 where
  pub got : Got
  pub ok : done ≡ Ok got
  pub is : k ≡ got_after h x got

pub was_got : (h k : Held) (x : RestartSent) (done : Result Got DiskError) (a : Answered) (said : RestartTold) → a ≢ answered.Failed → Stores h x done a said k → WasGot h k x done
was_got h k x (Ok g) a said well e = record { got = g; ok = refl; is = e.2 }
was_got h k x (Err error.Failed) a said well e = absurd (well e.0)
was_got h k x (Err error.NoMemory) a said well e = absurd e

pub ok_at : (P : Got → Type 0) (done : Result Got DiskError) (g : Got) → done ≡ Ok g → IfOk done P → P g
ok_at P done g is h = subst (λ (z : Result Got DiskError). IfOk z P) is h

-- ---- the log is read on
unread_closes : (log rest : List ℕ) (pend : List LogRecord) (s t : RestartState) → s.own.is_read ≡ false → t.own.is_read ≡ false → t.log ≡ s.log → t.trans ≡ s.trans → RestartCloses log rest pend s → RestartCloses log rest pend t
unread_closes log rest pend s t unread still logs trans c = record {
  whole = c.whole;
  is_rest = c.is_rest;
  waits = subst (Waits pend) (sym logs) c.waits;
  trans = subst (TransClose log pend) (sym trans) c.trans;
  unread = λ e. record { idle = (c.unread unread).idle; none = trans ∙ (c.unread unread).none; alike = (c.unread unread).alike };
  read = λ e. absurd (both_ways t.own.is_read still e);
  named = λ n low. c.named n (subst (λ (z : TransState). ListedBelow n z.list) trans low);
}

-- the number of the last record is one of a record
last_written : (records : List LogRecord) → AllByRecursion IsAllowed records → IsNumber version.Two (last_number records)
last_written records ok = by (slice_get records (length records - 1)) refl
  where
    by : (o : Option LogRecord) → slice_get records (length records - 1) ≡ o → IsNumber version.Two (number_in o)
    by None e = omega arith
    by (Some r) e = let one = record_at IsAllowed records (length records - 1) r e ok in as_written r.version r.lrsn one.lrsn_in

may_enter : (records : List LogRecord) (os : List OpenTran) → AllByRecursion (IsOpenIn records) os → AllByRecursion HasAllowed os → AllByRecursion MayEnter os
may_enter records [] opened has = tt
may_enter records (o ∷ os) opened has = ((opened.0.numbered, has.0), may_enter records os opened.1 has.1)

module _ (facts : Facts) where
  enters : (log rest : List ℕ) (pend : List LogRecord) (s : RestartState) (l : Log) → s.own.is_read ≡ false → ReadsAll log rest (entered s l).own → RestartCloses log rest pend s → RestartCloses log rest pend (entered s l)
  enters log rest pend s l unread all c = subst (λ (z : List LogRecord). RestartCloses log rest z (entered s l)) (sym (c.unread unread).idle) (record {
    whole = c.whole;
    is_rest = c.is_rest;
    waits = record { spelled = refl; allowed = tt; back = tt; number = last_written l.records ok };
    trans = subst (TransClose log []) (sym trans) (trans_entered log [] (open_trans l.records) (may_enter l.records (open_trans l.records) (facts.opens l.records) (facts.opened l.records ok)));
    unread = λ e. absurd (never e);
    read = λ _. record {
      opens = subst (LeavesOpen log) (sym (ap (λ (z : TransState). trans_of z.list) trans ∙ entered_trans (open_trans l.records))) ((c.unread unread).alike all.start l.records last);
      tail = all.tail;
      long = λ some. all.long;
    };
    named = λ n low. tt;
  })
    where
      never : true ≡ false → ⊥
      never e = cc

      last : AreLastFrom log all.start l.records
      last = facts.without log rest all.start l.records c.whole c.is_rest all.last

      ok : AllByRecursion IsAllowed l.records
      ok = facts.allowed log all.start l.records c.whole last

      trans : (entered s l).trans ≡ all_added no_trans (open_trans l.records)
      trans = ap (λ (z : TransState). all_added z (open_trans l.records)) (c.unread unread).none

  -- where what follows is known of the log that was read
  abbrev Reads : List ℕ → List ℕ → List LogRecord → RestartState → Type 0
  Reads log rest pend t = (t.own.is_read ≡ true → ReadsAll log rest t.own) → RestartCloses log rest pend t

  -- the reader is another, or is gone
  other_reader : (log rest : List ℕ) (pend : List LogRecord) (s : RestartState) (x : Option ReaderState) → s.own.is_read ≡ false → RestartCloses log rest pend s → RestartCloses log rest pend (with_own s (own_with s.own x))
  other_reader log rest pend s x unread c = unread_closes log rest pend s (with_own s (own_with s.own x)) unread unread refl refl c

  judged : (log rest : List ℕ) (pend : List LogRecord) (s : RestartState) (l : Log) (o : Option Damaged) → s.own.is_read ≡ false → RestartCloses log rest pend s → Reads log rest pend (judged_after s l o)
  judged log rest pend s l None unread c all = enters log rest pend s l unread (all refl) c
  judged log rest pend s l (Some d) unread c all = c

  whole_read : (log rest : List ℕ) (pend : List LogRecord) (s : RestartState) (m : ℕ) (p : Result Parts ℕ) → s.own.is_read ≡ false → RestartCloses log rest pend s → Reads log rest pend (whole_after s m p)
  whole_read log rest pend s m (Err at) unread c all = c
  whole_read log rest pend s m (Ok p) unread c all = judged log rest pend s (log_from m p) (log_damage (log_from m p ∷ [])) unread c all

  read_by : (log rest : List ℕ) (pend : List LogRecord) (s : RestartState) (q : ReaderState) → s.own.is_read ≡ false → RestartCloses log rest pend s → Reads log rest pend (read_after s q)
  read_by log rest pend s q unread c = by (is_whole q)
    where
      by : (b : Bool) → Reads log rest pend (if b then whole_after s q.member (parts_read q) else with_own s (own_with s.own (Some q)))
      by true = whole_read log rest pend s q.member (parts_read q) unread c
      by false = λ all. other_reader log rest pend s (Some q) unread c

  reads_as : (log rest : List ℕ) (pend : List LogRecord) (s : RestartState) (o : Option ReaderState) (answer : LogReply) → s.own.is_read ≡ false → RestartCloses log rest pend s → Reads log rest pend (reader_after s o answer)
  reads_as log rest pend s None answer unread c all = c
  reads_as log rest pend s (Some r) answer unread c all = read_by log rest pend (with_own s (own_with s.own None)) (after_reply r answer) unread (other_reader log rest pend s None unread c) all

  reads_on : (log rest : List ℕ) (pend : List LogRecord) (s : RestartState) (answer : LogReply) → s.own.is_read ≡ false → RestartCloses log rest pend s → Reads log rest pend (read_on_after s answer)
  reads_on log rest pend s answer unread c all = reads_as log rest pend s s.own.reader answer unread c all

-- its member stays
judged_member : (s : RestartState) (log : Log) (o : Option Damaged) → (judged_after s log o).member ≡ s.member
judged_member s log None = refl
judged_member s log (Some d) = refl

whole_member : (s : RestartState) (m : ℕ) (x : Result Parts ℕ) → (whole_after s m x).member ≡ s.member
whole_member s m (Err at) = refl
whole_member s m (Ok p) = judged_member s (log_from m p) (log_damage (log_from m p ∷ []))

read_member : (s : RestartState) (q : ReaderState) → (read_after s q).member ≡ s.member
read_member s q = by (is_whole q)
  where
    by : (b : Bool) → (if b then whole_after s q.member (parts_read q) else with_own s (own_with s.own (Some q))).member ≡ s.member
    by true = whole_member s q.member (parts_read q)
    by false = refl

replied_member : (s : RestartState) (o : Option ReaderState) (answer : LogReply) → (reader_after s o answer).member ≡ s.member
replied_member s None answer = refl
replied_member s (Some r) answer = read_member (with_own s (own_with s.own None)) (after_reply r answer)

on_member : (s : RestartState) (answer : LogReply) → (read_on_after s answer).member ≡ s.member
on_member s answer = replied_member s s.own.reader answer

-- ---- the rest is cut off
cut_closes : (log rest : List ℕ) (pend : List LogRecord) (s : RestartState) → IsRest [] → s.own.is_read ≡ true → RestartCloses log rest pend s → RestartCloses log [] pend (tail_cut s)
cut_closes log rest pend s none read c = record {
  whole = c.whole;
  is_rest = none;
  waits = c.waits;
  trans = c.trans;
  unread = λ e. absurd (both_ways s.own.is_read e read);
  read = λ _. record { opens = (c.read read).opens; tail = refl; long = λ some. absurd (some refl) };
  named = c.named;
}

-- ---- the log buffer is on disk
pub no_rest : (rest : List ℕ) → length rest ≡ 0 → rest ≡ []
no_rest [] e = refl
no_rest (x ∷ xs) e = absurd (omega (arith, e))

pub none_waits : (log rest : List ℕ) (pend : List LogRecord) (s : RestartState) → RestartCloses log rest pend s → (length s.log.pending == 0) ≡ false → s.own.is_read ≡ true
none_waits log rest pend s c some = by s.own.is_read refl
  where
    by : (b : Bool) → s.own.is_read ≡ b → s.own.is_read ≡ true
    by true e = e
    by false e = absurd (both_ways (length s.log.pending == 0) some (ap (λ (z : List ℕ). length z == 0) (c.waits.spelled ∙ ap log_bytes (c.unread e).idle)))

forced_closes : Facts → (log rest : List ℕ) (pend : List LogRecord) (s : RestartState) → rest ≡ [] → s.own.tail ≡ 0 → s.own.is_read ≡ true → RestartCloses log rest pend s → RestartCloses (log ++ log_bytes pend) [] [] (forced_after s)
forced_closes facts log rest pend s none tail read c = record {
  whole = facts.whole log pend c.whole c.waits.allowed;
  is_rest = subst IsRest none c.is_rest;
  waits = record { spelled = refl; allowed = tt; back = tt; number = c.waits.number };
  trans = trans_forced log (log ++ log_bytes pend) pend s.trans (λ id ended. closed_on facts log pend id c.whole c.waits.allowed c.waits.back ended) c.trans;
  unread = λ e. absurd (both_ways s.own.is_read e read);
  read = λ _. record {
    opens = subst (LeavesOpen (log ++ log_bytes pend)) (sym (finish_same s.trans)) (opens_on facts log pend (trans_of s.trans.list) c.whole c.waits.allowed c.waits.back (c.read read).opens);
    tail = tail;
    long = λ some. absurd (some tail);
  };
  named = λ n low. tt;
}

-- ---- calls
pub same_marks : (h k : Held) (b : Bool) (page : List ℕ) → k ≡ with_bytes h b page → k.marks ≡ h.marks
same_marks h k true page e = ap (λ (z : Held). z.marks) e
same_marks h k false page e = ap (λ (z : Held). z.marks) e

module _ (facts : Facts) (none : IsRest []) (log rest : List ℕ) (pend : List LogRecord) where
  -- nothing of the log, nor of what is known of it, is other
  abbrev Goes : Drive → RestartState → RestartState → Type 0
  Goes drive s t = (s.own.is_read ≡ false → t.own.is_read ≡ true → ReadsAll log rest t.own) → StillCloses log rest pend drive t

  as_it_was : (drive : Drive) (s : RestartState) → HasLog drive s.member (log ++ rest) → RestartCloses log rest pend s → StillCloses log rest pend drive s
  as_it_was drive s has c = quietly log rest pend [] drive s has (subst (λ (z : List LogRecord). RestartCloses log rest z s) (sym (append-nil pend)) c)

  -- an answer of the log
  replied : (drive : Drive) (s : RestartState) (answer : LogReply) → s.own.is_read ≡ false → HasLog drive s.member (log ++ rest) → RestartCloses log rest pend s → Goes drive s (read_on_after s answer)
  replied drive s answer unread has c all =
      as_it_was drive (read_on_after s answer) (at_member drive s (read_on_after s answer) (log ++ rest) (on_member s answer) has) (reads_on facts log rest pend s answer unread c (all unread))

  got_reads : (drive : Drive) (h : Held) (x : RestartSent) (g : Got) → (done_after h x).marks ≡ h.marks → h.marks.own.is_read ≡ false → HasLog drive h.marks.member (log ++ rest) → RestartCloses log rest pend h.marks → Goes drive h.marks (got_after h x g).marks
  got_reads drive h x got.Done done unread has c all = subst (λ (z : RestartState). StillCloses log rest pend drive z) (sym done) (as_it_was drive h.marks has c)
  got_reads drive h x (got.Length n) done unread has c all = replied drive h.marks (logged.Length n) unread has c all
  got_reads drive h x (got.Count n) done unread has c all = replied drive h.marks (logged.Count n) unread has c all

  goes_as : (drive : Drive) (s : RestartState) (k m : Held) → k ≡ m → Goes drive s m.marks → Goes drive s k.marks
  goes_as drive s k m e g = subst (λ (z : Held). Goes drive s z.marks) (sym e) g

  length_goes : (w v : Drive) (h k : Held) (a : Answered) (said : RestartTold) → a ≢ answered.Failed → h.marks.own.is_read ≡ false → HasLog w h.marks.member (log ++ rest) → RestartCloses log rest pend h.marks
      → RunsCall w h sent.LogLength a said v k → Goes v h.marks k.marks
  length_goes w v h k a said well unread has c r =
      let g = was_got r.after k sent.LogLength r.done a said well r.stores in
      let ok = ok_at _ r.done g.got g.ok r.calls.0.ok in
      let t = told_after w.contents v.contents has.contents _ has.told ok.2 in
      let now : HasLog v h.marks.member (log ++ rest) = same_log w v h.marks.member (log ++ rest) has (t.0, t.1, t.2.0) in
      let is : k ≡ got_after h sent.LogLength g.got = g.is ∙ ap (λ (z : Held). got_after z sent.LogLength g.got) r.calls.1 in
      goes_as v h.marks k (got_after h sent.LogLength g.got) is (got_reads v h sent.LogLength g.got refl unread now c)

  block_goes : (w v : Drive) (h after k : Held) (at count : ℕ) (done : Result Got DiskError) (o : Option ReaderState) → h.marks.own.is_read ≡ false → HasLog w h.marks.member (log ++ rest) → RestartCloses log rest pend h.marks
      → ReadsBy o w h at count done v after → WasGot after k (sent.ReadLog at count) done → Goes v h.marks k.marks
  block_goes w v h after k at count done None unread has c r g =
      let now : HasLog v h.marks.member (log ++ rest) = subst (λ (z : Drive). HasLog z h.marks.member (log ++ rest)) (sym r.1) has in
      let is : k ≡ got_after h (sent.ReadLog at count) g.got = g.is ∙ ap (λ (z : Held). got_after z (sent.ReadLog at count) g.got) r.2 in
      goes_as v h.marks k (got_after h (sent.ReadLog at count) g.got) is (got_reads v h (sent.ReadLog at count) g.got refl unread now c)
  block_goes w v h after k at count done (Some reader) unread has c r g =
      let mid : Held = with_reader h (with_block reader r.block) in
      let good = ok_at _ done g.got g.ok r.reads.ok in
      let t = told_after w.contents v.contents has.contents _ has.told good.2 in
      let now : HasLog v h.marks.member (log ++ rest) = same_log w v h.marks.member (log ++ rest) has (t.0, t.1, t.2.0) in
      let is : k ≡ got_after mid (sent.ReadLog at count) g.got = g.is ∙ ap (λ (z : Held). got_after z (sent.ReadLog at count) g.got) r.held in
      goes_as v h.marks k (got_after mid (sent.ReadLog at count) g.got) is
      (got_reads v mid (sent.ReadLog at count) g.got refl unread now (other_reader facts log rest pend h.marks (Some (with_block reader r.block)) unread c))

  -- once it is read, answers of the log change nothing
  cut_goes : (w v : Drive) (h k : Held) (long : ℕ) (a : Answered) (said : RestartTold) → a ≢ answered.Failed → FitsSent h.marks (sent.CutLog long) → HasLog w h.marks.member (log ++ rest) → RestartCloses log rest pend h.marks
      → RunsCall w h (sent.CutLog long) a said v k → StillCloses log rest pend v k.marks
  cut_goes w v h k long a said well fits has c r =
      let g = was_got r.after k (sent.CutLog long) r.done a said well r.stores in
      let ok = ok_at _ r.done g.got g.ok r.calls.0.ok in
      let t = told_after w.contents v.contents has.contents _ has.told ok.2 in
      let read : IsRead log rest h.marks = c.read fits.0 in
      let is_long : length log ≡ long = sym (fits.2 ∙ read.long fits.1) in
      let bytes : take long (log_of has.contents.logs h.marks.member) ≡ log = ap (λ (z : List ℕ). take long z) has.log ∙ take_at log rest long is_long in
      let now : HasLog v h.marks.member log = new_log w v h.marks.member (log ++ rest) log has (t.0, t.1, t.2.1 ∙ ap (λ (z : List ℕ). with_log has.contents h.marks.member z) bytes) in
      let is : k.marks ≡ tail_cut h.marks =
      ap (λ (z : Held). z.marks) g.is ∙ (ap (λ (z : Got). (got_after r.after (sent.CutLog long) z).marks) t.2.0 ∙ ap (λ (z : Held). tail_cut z.marks) r.calls.1) in
      subst (λ (z : RestartState). StillCloses log rest pend v z) (sym is) (cut_off now (cut_closes log rest pend h.marks none fits.0 c))
    where
      cut_off : HasLog v h.marks.member log → RestartCloses log [] pend (tail_cut h.marks) → StillCloses log rest pend v (tail_cut h.marks)
      cut_off now closes = record {
        more = [];
        new = [];
        left = pend;
        behind = [];
        goes = inl (refl, sym (append-nil pend));
        cut = inr refl;
        tells = subst (HasLog v h.marks.member) (sym (append-nil (log ++ []) ∙ append-nil log)) now;
        closes = subst (λ (z : List ℕ). RestartCloses z [] pend (tail_cut h.marks)) (sym (append-nil log)) closes;
      }

  append_goes : (w v : Drive) (h k : Held) (a : Answered) (said : RestartTold) → a ≢ answered.Failed → FitsSent h.marks sent.AppendLog → HasLog w h.marks.member (log ++ rest) → RestartCloses log rest pend h.marks
      → RunsCall w h sent.AppendLog a said v k → StillCloses log rest pend v k.marks
  append_goes w v h k a said well fits has c r =
      let g = was_got r.after k sent.AppendLog r.done a said well r.stores in
      let ok = ok_at _ r.done g.got g.ok r.calls.0.ok in
      let t = told_after w.contents v.contents has.contents _ has.told ok.2 in
      let bytes : log_of has.contents.logs h.marks.member ++ h.marks.log.pending ≡ log ++ log_bytes pend =
      ap (λ (z : List ℕ). z ++ h.marks.log.pending) (has.log ∙ ap (λ (z : List ℕ). log ++ z) no_bytes ∙ append-nil log) ∙ ap (λ (z : List ℕ). log ++ z) c.waits.spelled in
      let now : HasLog v h.marks.member (log ++ log_bytes pend) = new_log w v h.marks.member (log ++ rest) (log ++ log_bytes pend) has (t.0, t.1, t.2.1 ∙ ap (λ (z : List ℕ). with_log has.contents h.marks.member z) bytes) in
      let is : k.marks ≡ forced_after h.marks =
      ap (λ (z : Held). z.marks) g.is ∙ (ap (λ (z : Got). (got_after r.after sent.AppendLog z).marks) t.2.0 ∙ ap (λ (z : Held). forced_after z.marks) r.calls.1) in
      subst (λ (z : RestartState). StillCloses log rest pend v z) (sym is) (record {
        more = pend;
        new = [];
        left = [];
        behind = [];
        goes = inr (refl, refl);
        cut = inr refl;
        tells = subst (HasLog v h.marks.member) (sym (append-nil (log ++ log_bytes pend))) now;
        closes = forced_closes facts log rest pend h.marks no_bytes fits.1 read c;
      })
    where
      read : h.marks.own.is_read ≡ true
      read = none_waits log rest pend h.marks c fits.0

      no_bytes : rest ≡ []
      no_bytes = no_rest rest (sym (c.read read).tail ∙ fits.1)

  filled_same : (s : RestartState) → Same s (with_hand s (filled_after s.hand))
  filled_same s = record { member = refl; own = refl; log = refl; trans = refl }

  page_goes : (w v : Drive) (h k : Held) (page : PageId) (a : Answered) (said : RestartTold) → a ≢ answered.Failed → HasLog w h.marks.member (log ++ rest) → RestartCloses log rest pend h.marks
      → RunsCall w h (sent.ReadPage page) a said v k → StillCloses log rest pend v k.marks
  page_goes w v h k page a said well has c r =
      let g = was_got r.after k (sent.ReadPage page) r.done a said well r.stores in
      let ok = ok_at _ r.done g.got g.ok r.calls.0.ok in
      let t = told_after w.contents v.contents has.contents _ has.told ok.2 in
      let now : HasLog v h.marks.member (log ++ rest) = same_log w v h.marks.member (log ++ rest) has (t.0, t.1, t.2.1) in
      let marks : r.after.marks ≡ h.marks = ap (λ (z : Held). z.marks) r.calls.1 in
      let is : k.marks ≡ with_hand h.marks (filled_after h.marks.hand) =
      ap (λ (z : Held). z.marks) g.is ∙ (ap (λ (z : Got). (got_after r.after (sent.ReadPage page) z).marks) t.2.0 ∙ ap (λ (z : RestartState). with_hand z (filled_after z.hand)) marks) in
      subst (λ (z : RestartState). StillCloses log rest pend v z) (sym is)
      (as_it_was v (with_hand h.marks (filled_after h.marks.hand)) now (same_closes h.marks (with_hand h.marks (filled_after h.marks.hand)) (filled_same h.marks) log rest pend c))

  -- ---- any event
  command_goes : (u v : World) (h after : Held) (i : RestartIntent) (c : Command) (answer : Reply) → need_of h.marks i ≡ Ok (sent.Command c) → Gives h u.facility c answer after v.facility → HasLog v.drive h.marks.member (log ++ rest) → RestartCloses log rest pend h.marks
      → StillCloses log rest pend v.drive (settled after i answer).marks
  command_goes u v h after i c answer lawful gives has closes =
      let marks : after.marks ≡ h.marks = same_marks h after (is_hand h c) (lent_bytes after (is_hand h c)) gives.executed.back in
      let written : IsWrittenFor i answer = draws_undo u.facility v.facility h after i c answer lawful gives in
      stepped log rest pend v.drive h.marks (settled after i answer).marks
      (subst (λ (z : RestartState). Step z (settled after i answer).marks) marks (settles facts.both after i answer written))
      (as_it_was v.drive h.marks has closes)

  runs_go : (u v : World) (h k : Held) (i : RestartIntent) (x : RestartSent) (a : Answered) (said : RestartTold) → need_of h.marks i ≡ Ok x → a ≢ answered.Failed → FitsSent h.marks x → HasLog u.drive h.marks.member (log ++ rest) → RestartCloses log rest pend h.marks
      → Runs u h i x a said v k → Goes v.drive h.marks k.marks
  runs_go u v h k i sent.None a said lawful well fits has c r all =
      subst (λ (z : Held). StillCloses log rest pend v.drive z.marks) (sym r.held) (as_it_was v.drive h.marks (subst (λ (z : World). HasLog z.drive h.marks.member (log ++ rest)) (sym r.world) has) c)
  runs_go u v h k i (sent.Command x) a said lawful well fits has c r all =
      subst (λ (z : Held). StillCloses log rest pend v.drive z.marks) (sym r.0.settles)
      (command_goes u v h r.0.after i x r.0.answer lawful r.0.gives (subst (λ (z : Drive). HasLog z h.marks.member (log ++ rest)) (sym r.1) has) c)
  runs_go u v h k i sent.LogLength a said lawful well fits has c r all = length_goes u.drive v.drive h k a said well fits has c r.0 all
  runs_go u v h k i (sent.ReadLog at count) a said lawful well fits has c r all =
      block_goes u.drive v.drive h r.0.after k at count r.0.done h.marks.own.reader fits has c r.0.calls (was_got r.0.after k (sent.ReadLog at count) r.0.done a said well r.0.stores) all
  runs_go u v h k i (sent.CutLog long) a said lawful well fits has c r all = cut_goes u.drive v.drive h k long a said well fits has c r.0
  runs_go u v h k i sent.AppendLog a said lawful well fits has c r all = append_goes u.drive v.drive h k a said well fits has c r.0
  runs_go u v h k i (sent.ReadPage page) a said lawful well fits has c r all = page_goes u.drive v.drive h k page a said well has c r.0

pub closes_stay : Facts → IsRest [] → ClosesStay
closes_stay facts none log rest pend u v h k x a e well all has c =
    let step : Step e.after.marks k.marks = locals facts.both e.after.marks k.marks e.ends.0 in
    stepped log rest pend v.drive e.after.marks k.marks step
    (runs_go facts none log rest pend u v h e.after e.intent x a e.said e.lawful well (fits_sent h.marks e.intent x e.lawful) has c e.runs
    (λ unread read. subst (ReadsAll log rest) step.own (all unread (ap (λ (o : OwnState). o.is_read) step.own ∙ read))))

-- ---- the begin
pub closes_begin : ClosesBegin
closes_begin log rest member s whole is_rest alike f = subst (λ (z : RestartState). RestartCloses log rest [] z) (sym f.rest) (record {
  whole = whole;
  is_rest = is_rest;
  waits = record { spelled = refl; allowed = tt; back = tt; number = omega arith };
  trans = none_close log [];
  unread = λ _. record { idle = refl; none = refl; alike = alike };
  read = λ e. absurd (both_ways s.own.is_read (ap (λ (z : OwnState). z.is_read) f.own.rest) e);
  named = λ n low. tt;
})
