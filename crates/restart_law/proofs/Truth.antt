-- What is read of the own log is what the disk tells of it.
use Rattle.std.proofs.Common.{◌≡◌, ℕ, ◌+◌, ◌-◌, ◌≤◌, refl, sym, ◌∙◌, ap, subst, arith, Bool, true, false, inl, List, [], ◌∷◌, length, take, drop, Option, Some, None, Result, Ok, Err}
use Rattle.std.specs.Prelude.{◌≢◌, ◌==◌, is_none, is_some, min, nat_le, not, if◌then◌else◌, IfOk, IfSome}
use Rattle.std.proofs.lemmas.Bool.{both_ways, leb-true}
use Rattle.std.proofs.lemmas.List.{length-drop, take_all}
use Rattle.ds_disk.specs.Answers.{Answers}
use Rattle.ds_disk.specs.Contents.{Becomes, Contents, log_of}
use Rattle.ds_disk.specs.declared.disk.DiskError.{DiskError}
use Rattle.ds_disk.specs.declared.disk.DiskError.TheVariants as error
use Rattle.facility.specs.declared.command.Command.TheVariants as command
use Rattle.log_reader.specs.declared.calls.LogReply.{LogReply}
use Rattle.log_reader.specs.declared.calls.LogReply.TheVariants as logged
use Rattle.log_reader.specs.Held.{HeldState}
use Rattle.log_reader.specs.Keeping.{AreBytes, AreWhole, IsOf}
use Rattle.log_reader.specs.Readers.{block_size, is_long, parts_behind}
use Rattle.checkpoint_reader.specs.declared.reader.Looking.{Looking}
use Rattle.checkpoint_reader.specs.Keeping.{NothingStands}
use Rattle.checkpoint_reader.specs.Lending.{with_block}
use Rattle.checkpoint_reader.specs.Readers.{ReaderState, after_reply, is_whole, is_whole_by, next_call, parts_read}
use Rattle.log_starts.specs.Starts.{BeginsIn, MayBegin}
use Rattle.log_record.specs.declared.log.Log.{Log}
use Rattle.log_record.specs.Logs.{Parts, parts_in}
use Rattle.log_trans.specs.declared.damage.Damaged.{Damaged}
use Rattle.log_trans.specs.Damage.{log_damage}
use Rattle.member_intents.specs.declared.outcome.Answered.{Answered}
use Rattle.restart_marks.specs.declared.intent.RestartIntent.{RestartIntent}
use Rattle.restart_marks.specs.declared.intent.RestartSent.{RestartSent}
use Rattle.restart_marks.specs.declared.intent.RestartSent.TheVariants as sent
use Rattle.restart_marks.specs.declared.told.RestartTold.{RestartTold}
use Rattle.restart_marks.specs.Needs.{need_of}
use Rattle.restart_marks.specs.Reading.{judged_after, log_from, read_after, read_on_after, reader_after, whole_after}
use Rattle.restart_marks.specs.State.{RestartState, with_hand, with_own}
use Rattle.restart_records.specs.Own.{HasNewReader, OwnState, own_with}
use Rattle.restart_law.specs.Opens.{OpensStand}
use Rattle.restart_law.specs.Reads.{AreLast, IsKnown, ReadsBegin, ReadsFront, ReadsStay, ReadsTrue, ReadsWhole, StillReads, TellsLog, WholeIsRead}
use Rattle.ds_base.specs.declared.names.PageId.{PageId}
use Rattle.ds_model.specs.declared.lock.Name.TheVariants as name
use Rattle.facility.specs.declared.command.Command.{Command}
use Rattle.list_structure.specs.declared.standing.MemberStatus.TheVariants.{Up}
use Rattle.lock_names.specs.declared.mode.Mode.TheVariants.{X}
use Rattle.log_reader.specs.declared.calls.LogCall.{LogCall}
use Rattle.log_reader.specs.declared.calls.LogCall.TheVariants as call
use Rattle.member_intents.specs.declared.outcome.Answered.TheVariants as answered
use Rattle.restart_records.specs.declared.trans.Newest.{Newest}
use Rattle.restart_records.specs.Names.{mark_of}
use Rattle.restart_records.specs.Own.{next_in}
use Rattle.restart_records.specs.Trans.{newest}
use Rattle.restart_marks.specs.declared.intent.RestartIntent.TheVariants as intent
use Rattle.restart_marks.specs.declared.intent.RestartTest.{RestartTest}
use Rattle.restart_marks.specs.declared.intent.RestartTest.TheVariants as test
use Rattle.restart_marks.specs.HandNeeds.{owner_test, purges_page, reads, reads_page, writes}
use Rattle.restart_marks.specs.LockNeeds.{commands, lock_test, page_asked, releases, undo_command, undo_test, undo_with, unchanged_test}
use Rattle.restart_marks.specs.Moves.{is_claimed}
use Rattle.restart_marks.specs.OwnNeeds.{call_sent, is_end_listed, listed_test, over_test, recovered_test, rest_test}
use Rattle.restart_marks.specs.Tested.{Tested, after, passed, sends, when}
use Rattle.restart_resources.specs.declared.calls.Got.{Got}
use Rattle.restart_resources.specs.declared.calls.Got.TheVariants as got
use Rattle.restart_resources.specs.Calls.{Drive, IsCount, ReadsBy, RunsCall, Stores, done_after, got_after, tail_cut, with_reader}
use Rattle.restart_resources.specs.Events.{Runs, World}
use Rattle.restart_resources.specs.Held.{Held}
use Rattle.ds_model.specs.declared.log.LogRecord.{LogRecord}
use Rattle.log_rows.specs.Rows.{OpenTell}
use Rattle.restart_marks.specs.Hands.{filled_after}
use Rattle.restart_marks.specs.Undoing.{forced_after}
use Rattle.restart_resources.specs.Lending.{is_hand, lent_bytes}
use Rattle.restart_resources.specs.Settled.{settled}
use Rattle.restart_law.proofs.Events.{after_first, err_ok, from_marks, runs_keep, same_marks, when_first}
use Rattle.restart_law.proofs.Near.{locals, still}
use Rattle.restart_law.proofs.Opens.{Near}
use Rattle.restart_law.proofs.Readers.{Laws, front_count, front_length, lent_stands}

-- ---- a reader
-- all of it is read
read_to_end : (member : ℕ) (bytes : List ℕ) (r : ReaderState) → ReadsFront member bytes r → is_whole r ≡ true → length bytes ≤ r.held.end
read_to_end member bytes r f whole = by r.length_told f.told (none_looked r.looking (is_long r.held.end r.length_told) whole)
  where
    none_looked : (o : Option Looking) (b : Bool) → is_whole_by o b ≡ true → b ≡ true
    none_looked None b e = e
    none_looked (Some l) b e = absurd cc

    by : (o : Option ℕ) → IfSome o (λ long. long ≡ length bytes) → is_long r.held.end o ≡ true → length bytes ≤ r.held.end
    by None told long = absurd cc
    by (Some long) told is = subst (λ (z : ℕ). z ≤ r.held.end) told (leb-true long r.held.end is)

all_held : (bytes : List ℕ) (h : HeldState) → IsOf bytes h → length bytes ≤ h.end → h.bytes ≡ drop h.start bytes
all_held bytes h is le = is.told ∙ take_all (length h.bytes) (drop h.start bytes) (omega (arith, length-drop h.start bytes, is.ends, le))

-- ---- what a reply leaves
-- another reader is there, or none, and nothing else of it is other
rest_true : (bytes : List ℕ) (s : RestartState) (x : Option ReaderState) → s.own.is_read ≡ false → ReadsTrue bytes s → IfSome x (ReadsFront s.member bytes) → ReadsTrue bytes (with_own s (own_with s.own x))
rest_true bytes s x unread t new = record { reading = λ _. new; idle = t.idle; records = λ r. absurd (both_ways s.own.is_read unread r) }

judged_true : (bytes : List ℕ) (s : RestartState) (log : Log) (o : Option Damaged) → s.own.is_read ≡ false → ReadsTrue bytes s → AreLast bytes log.records → ReadsTrue bytes (judged_after (with_own s (own_with s.own None)) log o)
judged_true bytes s log None unread t last = record { reading = λ r. absurd cc; idle = λ r. absurd cc; records = λ _. last }
judged_true bytes s log (Some d) unread t last = rest_true bytes s None unread t tt

whole_true : (bytes : List ℕ) (s : RestartState) (m start : ℕ) (x : Result Parts ℕ) → s.own.is_read ≡ false → ReadsTrue bytes s → AreWhole (take start bytes) → MayBegin start (drop start bytes) → parts_in (drop start bytes) ≡ x → ReadsTrue bytes (whole_after (with_own s (own_with s.own None)) m (parts_behind start x))
whole_true bytes s m start (Err at) unread t whole begins is = rest_true bytes s None unread t tt
whole_true bytes s m start (Ok p) unread t whole begins is =
    let log : Log = log_from m (record { records = p.records; size = start + p.size; tail = p.tail }) in
    judged_true bytes s log (log_damage (log ∷ [])) unread t (record { start = start; whole = whole; begins = begins; parts = p; told = is; are = refl })

read_true : (bytes : List ℕ) (s : RestartState) (q : ReaderState) → s.own.is_read ≡ false → ReadsTrue bytes s → ReadsFront s.member bytes q → ReadsTrue bytes (read_after (with_own s (own_with s.own None)) q)
read_true bytes s q unread t f = by (is_whole q) refl
  where
    by : (b : Bool) → is_whole q ≡ b → ReadsTrue bytes (if b then whole_after (with_own s (own_with s.own None)) q.member (parts_read q) else with_own (with_own s (own_with s.own None)) (own_with (with_own s (own_with s.own None)).own (Some q)))
    by true whole =
        let all : q.held.bytes ≡ drop q.held.start bytes = all_held bytes q.held f.stands.kept (read_to_end s.member bytes q f whole) in
        whole_true bytes s q.member q.held.start (parts_in q.held.bytes) unread t f.stands.kept.before f.begins (ap (λ (z : List ℕ). parts_in z) (sym all))
    by false more = rest_true bytes s (Some q) unread t f

replied : (bytes : List ℕ) (s : RestartState) (o : Option ReaderState) (answer : LogReply) → s.own.is_read ≡ false → ReadsTrue bytes s → IfSome o (λ r. ReadsFront s.member bytes (after_reply r answer)) → ReadsTrue bytes (reader_after s o answer)
replied bytes s None answer unread t f = t
replied bytes s (Some r) answer unread t f = read_true bytes s (after_reply r answer) unread t f

length_true : Laws → (bytes : List ℕ) (s : RestartState) → s.own.is_read ≡ false → ReadsTrue bytes s → ReadsTrue bytes (read_on_after s (logged.Length (length bytes)))
length_true laws bytes s unread t = replied bytes s s.own.reader (logged.Length (length bytes)) unread t (by s.own.reader (t.reading unread))
  where
    by : (o : Option ReaderState) → IfSome o (ReadsFront s.member bytes) → IfSome o (λ r. ReadsFront s.member bytes (after_reply r (logged.Length (length bytes))))
    by None f = f
    by (Some r) f = front_length laws s.member bytes r f

-- ---- what is sent
abbrev pub FitsRead : RestartState → RestartSent → Type 0
FitsRead s sent.None = Unit {0}
FitsRead s (sent.Command c) = Unit {0}
FitsRead s sent.LogLength = s.own.is_read ≡ false
FitsRead s (sent.ReadLog at count) = (s.own.is_read ≡ false) × (next_in s.own.reader ≡ Some (call.Read at count))
FitsRead s (sent.CutLog long) = s.own.is_read ≡ true
FitsRead s sent.AppendLog = (length s.log.pending == 0) ≡ false
FitsRead s (sent.ReadPage page) = Unit {0}

same_ok : {T : Type 0} → (x y : T) (a b : Result T RestartTest) → a ≡ Ok x → b ≡ Ok y → a ≡ b → x ≡ y
same_ok x y a b p q e = cc

after_rest : {T : Type 0} → (t : Tested) (r : Result T RestartTest) (y : T) → after t r ≡ Ok y → r ≡ Ok y
after_rest (Ok x) r y e = e
after_rest {T} (Err t) r y e = absurd (err_ok t y (Err t) refl e)

abbrev just : RestartSent → Result RestartSent RestartTest
just x = Ok x

fits_ok : (s : RestartState) (x y : RestartSent) → FitsRead s x → just x ≡ just y → FitsRead s y
fits_ok s x y fits e = subst (λ z. FitsRead s z) (same_ok x y (just x) (just y) refl refl e) fits

fits_as : (s : RestartState) (t : Tested) (x y : RestartSent) → FitsRead s x → sends t x ≡ Ok y → FitsRead s y
fits_as s t x y fits e = fits_ok s x y fits (after_rest t (Ok x) y e)

fits_commanded : (s : RestartState) (f : PageId → Command) (r : Result PageId RestartTest) (x : RestartSent) → commands f r ≡ Ok x → FitsRead s x
fits_commanded s f (Ok page) x e = fits_ok s (sent.Command (f page)) x tt e
fits_commanded s f (Err t) x e = absurd (err_ok t x (Err t) refl e)

not_true : (b : Bool) → not b ≡ true → b ≡ false
not_true true e = absurd cc
not_true false e = refl

fits_log : (s : RestartState) (x : RestartSent) (p : Option LogCall) → s.own.is_read ≡ false → next_in s.own.reader ≡ p → call_sent p ≡ Ok x → FitsRead s x
fits_log s x None unread is e = absurd (err_ok test.AlreadyRead x (Err test.AlreadyRead) refl e)
fits_log s x (Some call.Length) unread is e = fits_ok s sent.LogLength x unread e
fits_log s x (Some (call.Read at count)) unread is e = fits_ok s (sent.ReadLog at count) x (unread, is) e

fits_hand : (s : RestartState) (x : RestartSent) (p : Option PageId) → reads p ≡ Ok x → FitsRead s x
fits_hand s x None e = absurd (err_ok test.NotPlaced x (Err test.NotPlaced) refl e)
fits_hand s x (Some page) e = fits_ok s (sent.Command (command.Read page 0)) x tt e

fits_filled : (s : RestartState) (x : RestartSent) (p : Option PageId) → reads_page s p ≡ Ok x → FitsRead s x
fits_filled s x None e = absurd (err_ok test.NotPlaced x (Err test.NotPlaced) refl e)
fits_filled s x (Some page) e = fits_as s (when s.hand.registered test.NotRegistered (when (not s.hand.filled) test.StillFilled passed)) (sent.ReadPage page) x tt e

fits_written : (s : RestartState) (x : RestartSent) (p : Option PageId) → writes s p ≡ Ok x → FitsRead s x
fits_written s x None e = absurd (err_ok test.NotPlaced x (Err test.NotPlaced) refl e)
fits_written s x (Some page) e = fits_as s (when s.hand.changed test.NotChanged (when s.hand.filled test.NotFilled (when (nat_le s.hand.last s.log.stable) test.NotStable (owner_test s page)))) (sent.Command (command.Write page 0)) x tt e

fits_purged : (s : RestartState) (x : RestartSent) (p : Option PageId) → purges_page s p ≡ Ok x → FitsRead s x
fits_purged s x None e = absurd (err_ok test.NotPlaced x (Err test.NotPlaced) refl e)
fits_purged s x (Some page) e =
    fits_as s (after (listed_test s) (when (is_some s.hand.key) test.NotRetained (when s.hand.brought test.NotBrought (when (not s.hand.changed) test.StillChanged (when (not (is_claimed s page)) test.StillClaimed passed))))) (sent.Command (command.Purge (name.Page page))) x tt e

fits_undone : (s : RestartState) (x : RestartSent) (p : Option Newest) → undo_with s p ≡ Ok x → FitsRead s x
fits_undone s x None e = absurd (err_ok test.NoneStands x (Err test.NoneStands) refl e)
fits_undone s x (Some it) e = fits_as s (undo_test s it.change) (sent.Command undo_command) x tt e

fits_released : (s : RestartState) (x : RestartSent) (p : Option PageId) → releases s p ≡ Ok x → FitsRead s x
fits_released s x None e = absurd (err_ok test.NotClaimed x (Err test.NotClaimed) refl e)
fits_released s x (Some page) e = fits_as s (unchanged_test s page) (sent.Command (command.Release (name.Page page) (record { share = false; exclusive = false }))) x tt e

pub fits_read : (s : RestartState) (i : RestartIntent) (x : RestartSent) → need_of s i ≡ Ok x → FitsRead s x
fits_read s intent.Step x e = fits_ok s sent.None x tt e
fits_read s intent.ReadLog x e =
    let first : Tested = when (not s.own.is_read) test.AlreadyRead passed in
    fits_log s x (next_in s.own.reader) (not_true s.own.is_read (when_first (not s.own.is_read) test.AlreadyRead passed (after_first first (call_sent (next_in s.own.reader)) x e))) refl (after_rest first (call_sent (next_in s.own.reader)) x e)
fits_read s intent.CutTail x e =
    let rest : Tested = when (not (s.own.tail == 0)) test.NoTail passed in
    fits_as s (when s.own.is_read test.NotRead rest) (sent.CutLog s.own.long) x (when_first s.own.is_read test.NotRead rest (after_first (when s.own.is_read test.NotRead rest) (Ok (sent.CutLog s.own.long)) x e)) e
fits_read s intent.RetainedAt x e = fits_as s (when s.own.is_read test.NotRead (when (not (is_end_listed s)) test.AlreadyListed passed)) (sent.Command (command.RetainedAt s.listed)) x tt e
fits_read s intent.Read x e = fits_hand s x s.hand.page e
fits_read s intent.ReadPage x e = fits_filled s x s.hand.page e
fits_read s intent.Test x e = fits_as s (when (is_some s.hand.page) test.NotPlaced (when s.hand.filled test.NotFilled passed)) (sent.Command (command.Test 0)) x tt e
fits_read s intent.WritePage x e = fits_written s x s.hand.page e
fits_read s intent.PurgePage x e = fits_purged s x s.hand.page e
fits_read s (intent.Purge n) x e =
    fits_as s (after (when (mark_of s.names n).retained test.NotRetained (when ((mark_of s.names n).needed == 0) test.StillNeeded passed)) (after (recovered_test s) (when (not s.hand.changed) test.StillChanged (when (length s.log.pending == 0) test.StillPending passed)))) (sent.Command (command.Purge n)) x tt e
fits_read s intent.Append x e =
    let rest : Tested = when (s.own.tail == 0) test.HasTail passed in
    fits_as s (when (not (length s.log.pending == 0)) test.NonePending rest) sent.AppendLog x (not_true (length s.log.pending == 0) (when_first (not (length s.log.pending == 0)) test.NonePending rest (after_first (when (not (length s.log.pending == 0)) test.NonePending rest) (Ok sent.AppendLog) x e))) e
fits_read s (intent.Obtain id) x e = fits_commanded s (λ page. command.Obtain (name.Page page) X) (lock_test s id) x e
fits_read s (intent.Ask id to) x e = fits_commanded s (λ page. command.Ask 0 to (name.Page page) X) (page_asked s id) x e
fits_read s (intent.Answers id asked) x e = fits_commanded s (λ page. command.Answers 0) (page_asked s id) x e
fits_read s (intent.Grant id) x e = fits_commanded s (λ page. command.Grant 0 (name.Page page) X) (lock_test s id) x e
fits_read s (intent.Status m) x e = fits_ok s (sent.Command (command.Status m)) x tt e
fits_read s (intent.Undo id) x e = fits_undone s x (newest s.trans id) e
fits_read s intent.ReleasePage x e = fits_released s x s.claim e
fits_read s intent.Unregister x e = fits_as s (when (is_none s.hand.page) test.StillPlaced passed) (sent.Command (command.Unregister 0)) x tt e
fits_read s intent.Up x e = fits_as s (after (recovered_test s) (after (over_test s) (rest_test s))) (sent.Command (command.SetStatus Up)) x tt e

-- ---- where the own log isn't touched
same_last : (bytes : List ℕ) (records others : List LogRecord) → others ≡ records → AreLast bytes records → AreLast bytes others
same_last bytes records others e l = subst (λ (z : List LogRecord). AreLast bytes z) (sym e) l

near_true : (bytes : List ℕ) (s t : RestartState) → Near s t → OpensStand s → ReadsTrue bytes s → ReadsTrue bytes t
near_true bytes s t n o r = record {
  reading = λ u. subst (λ (z : ℕ). IfSome t.own.reader (ReadsFront z bytes)) (sym n.member) (subst (λ (z : Option ReaderState). IfSome z (ReadsFront s.member bytes)) (sym n.reader) (r.reading (sym n.read ∙ u)));
  idle = λ u. let q = sym n.read ∙ u in n.idle (o.none_open q) ∙ r.idle q;
  records = λ u. same_last bytes s.own.records t.own.records n.records (r.records (sym n.read ∙ u));
}

still_as : (bytes : List ℕ) (w v : Drive) (s t : RestartState) → v ≡ w → Near s t → OpensStand s → StillReads bytes w s → StillReads bytes v t
still_as bytes w v s t drive n o r = record {
  are = r.are;
  reads = near_true bytes s t n o r.reads;
  tells = λ u. subst (λ (z : Drive). TellsLog z t.member bytes) (sym drive) (subst (λ (z : ℕ). TellsLog w z bytes) (sym n.member) (r.tells (sym n.read ∙ u)));
}

-- ---- calls of the disk
told_after : (before after : Option Contents) (c : Contents) (P : Contents → Contents → Type 0) → before ≡ Some c → Becomes before after P → (d : Contents) × (after ≡ Some d) × P c d
told_after before after c P is b = by after (subst (λ (z : Option Contents). Becomes z after P) is b)
  where
    by : (o : Option Contents) → Becomes (Some c) o P → (d : Contents) × (o ≡ Some d) × P c d
    by None e = absurd e
    by (Some d) e = (d, refl, e)

-- a call that was answered
record WasGot (h k : Held) (x : RestartSent) (done : Result Got DiskError) : Type 0 where
  pub got : Got
  pub ok : done ≡ Ok got
  pub is : k ≡ got_after h x got

was_got : (h k : Held) (x : RestartSent) (done : Result Got DiskError) (a : Answered) (said : RestartTold) → a ≢ answered.Failed → Stores h x done a said k → WasGot h k x done
was_got h k x (Ok g) a said well e = record { got = g; ok = refl; is = e.2 }
was_got h k x (Err error.Failed) a said well e = absurd (well e.0)
was_got h k x (Err error.NoMemory) a said well e = absurd e

same_tells : (w v : Drive) (member : ℕ) (bytes : List ℕ) (t : TellsLog w member bytes) → ((d : Contents) × (v.contents ≡ Some d) × (d ≡ t.contents)) → TellsLog v member bytes
same_tells w v member bytes t d = record { contents = d.0; told = d.1; log = ap (λ (z : Contents). log_of z.logs member) d.2 ∙ t.log }

-- its member stays
judged_member : (s : RestartState) (log : Log) (o : Option Damaged) → (judged_after s log o).member ≡ s.member
judged_member s log None = refl
judged_member s log (Some d) = refl

whole_member : (s : RestartState) (m : ℕ) (x : Result Parts ℕ) → (whole_after s m x).member ≡ s.member
whole_member s m (Err at) = refl
whole_member s m (Ok p) = judged_member s (log_from m p) (log_damage (log_from m p ∷ []))

read_member : (s : RestartState) (q : ReaderState) → (read_after s q).member ≡ s.member
read_member s q = by (is_whole q)
  where
    by : (b : Bool) → (if b then whole_after s q.member (parts_read q) else with_own s (own_with s.own (Some q))).member ≡ s.member
    by true = whole_member s q.member (parts_read q)
    by false = refl

replied_member : (s : RestartState) (o : Option ReaderState) (answer : LogReply) → (reader_after s o answer).member ≡ s.member
replied_member s None answer = refl
replied_member s (Some r) answer = read_member (with_own s (own_with s.own None)) (after_reply r answer)

-- what is left is this, of the same member, over the same logs
left_as : (bytes : List ℕ) → AreBytes bytes → (w v : Drive) (s t u : RestartState) (l : TellsLog w s.member bytes) → ((d : Contents) × (v.contents ≡ Some d) × (d ≡ l.contents)) → t ≡ u → u.member ≡ s.member → ReadsTrue bytes u → StillReads bytes v t
left_as bytes are w v s t u l d is member r = subst (λ (z : RestartState). StillReads bytes v z) (sym is) (record {
  are = are;
  reads = r;
  tells = λ _. subst (λ (z : ℕ). TellsLog v z bytes) (sym member) (same_tells w v s.member bytes l d);
})

-- once the log is read whole
done_reading : (bytes : List ℕ) → AreBytes bytes → (v : Drive) (s t : RestartState) → s.own.is_read ≡ true → t.own.is_read ≡ s.own.is_read → t.own.records ≡ s.own.records → ReadsTrue bytes s → StillReads bytes v t
done_reading bytes are v s t read same records r = record {
  are = are;
  reads = record {
    reading = λ u. absurd (both_ways t.own.is_read u (same ∙ read));
    idle = λ u. absurd (both_ways t.own.is_read u (same ∙ read));
    records = λ _. same_last bytes s.own.records t.own.records records (r.records read);
  };
  tells = λ u. absurd (both_ways t.own.is_read u (same ∙ read));
}

ok_at : (P : Got → Type 0) (done : Result Got DiskError) (g : Got) → done ≡ Ok g → IfOk done P → P g
ok_at P done g is h = subst (λ (z : Result Got DiskError). IfOk z P) is h

length_goes : Laws → (bytes : List ℕ) (w v : Drive) (h k : Held) (a : Answered) (said : RestartTold) → a ≢ answered.Failed → h.marks.own.is_read ≡ false → StillReads bytes w h.marks → RunsCall w h sent.LogLength a said v k → StillReads bytes v k.marks
length_goes laws bytes w v h k a said well unread st r =
    let g = was_got r.after k sent.LogLength r.done a said well r.stores in
    let l = st.tells unread in
    let ok = ok_at _ r.done g.got g.ok r.calls.0.ok in
    let t = told_after w.contents v.contents l.contents _ l.told ok.2 in
    let told : g.got ≡ got.Length (length bytes) = t.2.1 ∙ ap (λ (z : List ℕ). got.Length (length z)) l.log in
    let marks : k.marks ≡ read_on_after h.marks (logged.Length (length bytes)) =
    ap (λ (z : Held). z.marks) g.is ∙ (ap (λ (z : Got). (got_after r.after sent.LogLength z).marks) told ∙ ap (λ (z : Held). read_on_after z.marks (logged.Length (length bytes))) r.calls.1) in
    left_as bytes st.are w v h.marks k.marks (read_on_after h.marks (logged.Length (length bytes))) l (t.0, t.1, t.2.0) marks (replied_member h.marks h.marks.own.reader (logged.Length (length bytes))) (length_true laws bytes h.marks unread st.reads)

-- the block that was asked for
same_call : (a b : LogCall) → Some a ≡ Some b → a ≡ b
same_call a b e = cc

read_goes : Laws → (bytes : List ℕ) (w v : Drive) (h after k : Held) (at count : ℕ) (done : Result Got DiskError) (o : Option ReaderState) → h.marks.own.reader ≡ o → h.marks.own.is_read ≡ false → next_in o ≡ Some (call.Read at count) → StillReads bytes w h.marks
    → ReadsBy o w h at count done v after → WasGot after k (sent.ReadLog at count) done → StillReads bytes v k.marks
read_goes laws bytes w v h after k at count done None there unread next st r g = absurd cc
read_goes laws bytes w v h after k at count done (Some reader) there unread next st r g = by g.got g.ok g.is
  where
    front : ReadsFront h.marks.member bytes reader
    front = subst (λ (z : Option ReaderState). IfSome z (ReadsFront h.marks.member bytes)) there (st.reads.reading unread)

    l : TellsLog w h.marks.member bytes
    l = st.tells unread

    mid : RestartState
    mid = (with_reader h (with_block reader r.block)).marks

    lent : ReadsTrue bytes mid
    lent = rest_true bytes h.marks (Some (with_block reader r.block)) unread st.reads (record { own = front.own; whole = front.whole; stands = lent_stands bytes reader r.block front.stands; begins = front.begins; told = front.told })

    counted : (n : ℕ) → done ≡ Ok (got.Count n) → k ≡ got_after after (sent.ReadLog at count) (got.Count n) → StillReads bytes v k.marks
    counted n ok is =
        let good = ok_at _ done (got.Count n) ok r.reads.ok in
        let t = told_after w.contents v.contents l.contents _ l.told good.2 in
        let few : n ≡ min (min count block_size) (length bytes - at) = t.2.1.0 ∙ ap (λ (z : List ℕ). min (min count block_size) (length z - at)) l.log in
        let same : take n r.block ≡ take n (drop at bytes) = t.2.1.1 ∙ ap (λ (z : List ℕ). take n (drop at z)) l.log in
        let marks : k.marks ≡ read_on_after mid (logged.Count n) = ap (λ (z : Held). z.marks) is ∙ ap (λ (z : Held). read_on_after z.marks (logged.Count n)) r.held in
        left_as bytes st.are w v h.marks k.marks (read_on_after mid (logged.Count n)) l (t.0, t.1, t.2.0) marks (replied_member mid (Some (with_block reader r.block)) (logged.Count n))
        (replied bytes mid (Some (with_block reader r.block)) (logged.Count n) unread lent (front_count laws h.marks.member bytes reader r.block n at count st.are front (same_call (next_call reader) (call.Read at count) next) few same))

    other : (x : Got) → done ≡ Ok x → (IsCount x (λ n. (n ≡ min (min count block_size) (length (log_of l.contents.logs h.marks.member) - at)) × (take n r.block ≡ take n (drop at (log_of l.contents.logs h.marks.member)))) → ⊥) → StillReads bytes v k.marks
    other x ok never =
        let good = ok_at _ done x ok r.reads.ok in
        let t = told_after w.contents v.contents l.contents _ l.told good.2 in
        absurd (never t.2.1)

    by : (x : Got) → done ≡ Ok x → k ≡ got_after after (sent.ReadLog at count) x → StillReads bytes v k.marks
    by got.Done ok is = other got.Done ok (λ e. e)
    by (got.Length n) ok is = other (got.Length n) ok (λ e. e)
    by (got.Count n) ok is = counted n ok is

-- once it is read, the disk may be cut and grow
after_read : (bytes : List ℕ) → AreBytes bytes → (v : Drive) (s : RestartState) (after k : Held) (x : RestartSent) (done : Result Got DiskError) (f : RestartState → RestartState) → s.own.is_read ≡ true → OpensStand s → after.marks ≡ s → ReadsTrue bytes s → WasGot after k x done
    → (done_after after x).marks ≡ f after.marks → (f s).own.is_read ≡ s.own.is_read → (f s).own.records ≡ s.own.records → StillReads bytes v k.marks
after_read bytes are v s after k x done f read o same r g does keeps records = by g.got g.is
  where
    none : s.own.reader ≡ None
    none = o.reader read

    unchanged : (answer : LogReply) → read_on_after after.marks answer ≡ s
    unchanged answer = ap (λ (z : RestartState). read_on_after z answer) same ∙ ap (λ (z : Option ReaderState). reader_after s z answer) none

    by : (y : Got) → k ≡ got_after after x y → StillReads bytes v k.marks
    by got.Done is = subst (λ (z : RestartState). StillReads bytes v z) (sym (ap (λ (z : Held). z.marks) is ∙ (does ∙ ap f same))) (done_reading bytes are v s (f s) read keeps records r)
    by (got.Length n) is = subst (λ (z : RestartState). StillReads bytes v z) (sym (ap (λ (z : Held). z.marks) is ∙ unchanged (logged.Length n))) (done_reading bytes are v s s read refl refl r)
    by (got.Count n) is = subst (λ (z : RestartState). StillReads bytes v z) (sym (ap (λ (z : Held). z.marks) is ∙ unchanged (logged.Count n))) (done_reading bytes are v s s read refl refl r)

-- a record waits, so the log is read
read_then : (s : RestartState) (bytes : List ℕ) → ReadsTrue bytes s → (length s.log.pending == 0) ≡ false → s.own.is_read ≡ true
read_then s bytes r waits = by s.own.is_read refl
  where
    by : (b : Bool) → s.own.is_read ≡ b → s.own.is_read ≡ true
    by true e = e
    by false e = absurd (both_ways (length s.log.pending == 0) waits (ap (λ (z : List ℕ). length z == 0) (r.idle e)))

page_goes : (bytes : List ℕ) (w v : Drive) (h k : Held) (page : PageId) (a : Answered) (said : RestartTold) → a ≢ answered.Failed → OpensStand h.marks → StillReads bytes w h.marks → RunsCall w h (sent.ReadPage page) a said v k → StillReads bytes v k.marks
page_goes bytes w v h k page a said well o st r = by h.marks.own.is_read refl
  where
    g : WasGot r.after k (sent.ReadPage page) r.done
    g = was_got r.after k (sent.ReadPage page) r.done a said well r.stores

    same : r.after.marks ≡ h.marks
    same = ap (λ (z : Held). z.marks) r.calls.1

    filled : RestartState → RestartState
    filled z = with_hand z (filled_after z.hand)

    by : (b : Bool) → h.marks.own.is_read ≡ b → StillReads bytes v k.marks
    by true read = after_read bytes st.are v h.marks r.after k (sent.ReadPage page) r.done (λ (z : RestartState). with_hand z (filled_after z.hand)) read o same st.reads g refl refl refl
    by false unread =
        let l = st.tells unread in
        let ok = ok_at _ r.done g.got g.ok r.calls.0.ok in
        let t = told_after w.contents v.contents l.contents _ l.told ok.2 in
        let next : RestartState = with_hand h.marks (filled_after h.marks.hand) in
        let marks : k.marks ≡ next = ap (λ (z : Held). z.marks) g.is ∙ (ap (λ (z : Got). (got_after r.after (sent.ReadPage page) z).marks) t.2.0 ∙ ap (λ (z : RestartState). with_hand z (filled_after z.hand)) same) in
        let near : Near h.marks next = still h.marks next refl refl refl refl refl in
        left_as bytes st.are w v h.marks k.marks next l (t.0, t.1, t.2.1) marks refl (near_true bytes h.marks next near o st.reads)

-- ---- any event
same_stays : (bytes : List ℕ) (w v : Drive) (s t : RestartState) → v ≡ w → t ≡ s → StillReads bytes w s → StillReads bytes v t
same_stays bytes w v s t drive same st = subst (λ (z : RestartState). StillReads bytes v z) (sym same) (subst (λ (z : Drive). StillReads bytes z s) (sym drive) st)

-- the facility's and the disk's parts of a world
runs_true : Laws → (bytes : List ℕ) (u v : World) (h k : Held) (i : RestartIntent) (x : RestartSent) (a : Answered) (said : RestartTold) → need_of h.marks i ≡ Ok x → a ≢ answered.Failed → FitsRead h.marks x → OpensStand h.marks → StillReads bytes u.drive h.marks → Runs u h i x a said v k → StillReads bytes v.drive k.marks
runs_true laws bytes u v h k i sent.None a said lawful well fits o st r = same_stays bytes u.drive v.drive h.marks k.marks (ap (λ (z : World). z.drive) r.world) (ap (λ (z : Held). z.marks) r.held) st
runs_true laws bytes u v h k i (sent.Command c) a said lawful well fits o st r =
    subst (λ (z : Held). StillReads bytes v.drive z.marks) (sym r.0.settles)
    (still_as bytes u.drive v.drive h.marks (settled r.0.after i r.0.answer).marks r.1
    (from_marks h r.0.after i (sent.Command c) r.0.answer (same_marks h r.0.after (is_hand h c) (lent_bytes r.0.after (is_hand h c)) r.0.gives.executed.back) lawful) o st)
runs_true laws bytes u v h k i sent.LogLength a said lawful well fits o st r = length_goes laws bytes u.drive v.drive h k a said well fits st r.0
runs_true laws bytes u v h k i (sent.ReadLog at count) a said lawful well fits o st r =
    read_goes laws bytes u.drive v.drive h r.0.after k at count r.0.done h.marks.own.reader refl fits.0 fits.1 st r.0.calls (was_got r.0.after k (sent.ReadLog at count) r.0.done a said well r.0.stores)
runs_true laws bytes u v h k i (sent.CutLog long) a said lawful well fits o st r =
    after_read bytes st.are v.drive h.marks r.0.after k (sent.CutLog long) r.0.done (λ (z : RestartState). tail_cut z) fits o (ap (λ (z : Held). z.marks) r.0.calls.1) st.reads (was_got r.0.after k (sent.CutLog long) r.0.done a said well r.0.stores) refl refl refl
runs_true laws bytes u v h k i sent.AppendLog a said lawful well fits o st r =
    after_read bytes st.are v.drive h.marks r.0.after k sent.AppendLog r.0.done (λ (z : RestartState). forced_after z) (read_then h.marks bytes st.reads fits) o (ap (λ (z : Held). z.marks) r.0.calls.1) st.reads (was_got r.0.after k sent.AppendLog r.0.done a said well r.0.stores) refl refl refl
runs_true laws bytes u v h k i (sent.ReadPage page) a said lawful well fits o st r = page_goes bytes u.drive v.drive h k page a said well o st r.0

pub reads_stay : OpenTell → Laws → ReadsStay
reads_stay law laws bytes u v h k x a e well o st =
    let mid : StillReads bytes v.drive e.after.marks = runs_true laws bytes u v h e.after e.intent x a e.said e.lawful well (fits_read h.marks e.intent x e.lawful) o st e.runs in
    still_as bytes v.drive v.drive e.after.marks k.marks refl (locals e.after.marks k.marks e.ends.0) (runs_keep law u v h e.after e.intent x a e.said e.lawful e.runs o) mid

-- ---- the event in which it is read

-- so it is where the log is read
abbrev ReadsThen : List ℕ → RestartState → Type 0
ReadsThen bytes t = t.own.is_read ≡ true → ReadsWhole bytes t.own

still_unread : (bytes : List ℕ) (t : RestartState) → t.own.is_read ≡ false → ReadsThen bytes t
still_unread bytes t unread read = absurd (both_ways t.own.is_read unread read)

judged_whole : (bytes : List ℕ) (s : RestartState) (m start : ℕ) (p : Parts) (o : Option Damaged) → s.own.is_read ≡ false → AreWhole (take start bytes) → MayBegin start (drop start bytes) → parts_in (drop start bytes) ≡ Ok p
    → ReadsThen bytes (judged_after s (log_from m (record { records = p.records; size = start + p.size; tail = p.tail })) o)
judged_whole bytes s m start p None unread whole begins is read = record { last = record { start = start; whole = whole; begins = begins; parts = p; told = is; are = refl }; long = refl; tail = refl }
judged_whole bytes s m start p (Some d) unread whole begins is read = still_unread bytes s unread read

parts_whole : (bytes : List ℕ) (s : RestartState) (m start : ℕ) (x : Result Parts ℕ) → s.own.is_read ≡ false → AreWhole (take start bytes) → MayBegin start (drop start bytes) → parts_in (drop start bytes) ≡ x → ReadsThen bytes (whole_after s m (parts_behind start x))
parts_whole bytes s m start (Err at) unread whole begins is = still_unread bytes s unread
parts_whole bytes s m start (Ok p) unread whole begins is =
    let log : Log = log_from m (record { records = p.records; size = start + p.size; tail = p.tail }) in
    judged_whole bytes s m start p (log_damage (log ∷ [])) unread whole begins is

reader_whole : (bytes : List ℕ) (s : RestartState) (member : ℕ) (q : ReaderState) → s.own.is_read ≡ false → ReadsFront member bytes q → ReadsThen bytes (read_after s q)
reader_whole bytes s member q unread f = by (is_whole q) refl
  where
    by : (b : Bool) → is_whole q ≡ b → ReadsThen bytes (if b then whole_after s q.member (parts_read q) else with_own s (own_with s.own (Some q)))
    by true whole =
        let all : q.held.bytes ≡ drop q.held.start bytes = all_held bytes q.held f.stands.kept (read_to_end member bytes q f whole) in
        parts_whole bytes s q.member q.held.start (parts_in q.held.bytes) unread f.stands.kept.before f.begins (ap (λ (z : List ℕ). parts_in z) (sym all))
    by false more = still_unread bytes (with_own s (own_with s.own (Some q))) unread

replied_whole : (bytes : List ℕ) (s : RestartState) (o : Option ReaderState) (answer : LogReply) → s.own.is_read ≡ false → IfSome o (λ r. ReadsFront s.member bytes (after_reply r answer)) → ReadsThen bytes (reader_after s o answer)
replied_whole bytes s None answer unread f = still_unread bytes s unread
replied_whole bytes s (Some r) answer unread f = reader_whole bytes (with_own s (own_with s.own None)) s.member (after_reply r answer) unread f

length_whole : Laws → (bytes : List ℕ) (w v : Drive) (h k : Held) (a : Answered) (said : RestartTold) → a ≢ answered.Failed → h.marks.own.is_read ≡ false → StillReads bytes w h.marks → RunsCall w h sent.LogLength a said v k → ReadsThen bytes k.marks
length_whole laws bytes w v h k a said well unread st r =
    let g = was_got r.after k sent.LogLength r.done a said well r.stores in
    let l = st.tells unread in
    let ok = ok_at _ r.done g.got g.ok r.calls.0.ok in
    let t = told_after w.contents v.contents l.contents _ l.told ok.2 in
    let told : g.got ≡ got.Length (length bytes) = t.2.1 ∙ ap (λ (z : List ℕ). got.Length (length z)) l.log in
    let marks : k.marks ≡ read_on_after h.marks (logged.Length (length bytes)) =
    ap (λ (z : Held). z.marks) g.is ∙ (ap (λ (z : Got). (got_after r.after sent.LogLength z).marks) told ∙ ap (λ (z : Held). read_on_after z.marks (logged.Length (length bytes))) r.calls.1) in
    subst (ReadsThen bytes) (sym marks) (replied_whole bytes h.marks h.marks.own.reader (logged.Length (length bytes)) unread (by h.marks.own.reader (st.reads.reading unread)))
  where
    by : (o : Option ReaderState) → IfSome o (ReadsFront h.marks.member bytes) → IfSome o (λ r. ReadsFront h.marks.member bytes (after_reply r (logged.Length (length bytes))))
    by None f = f
    by (Some reader) f = front_length laws h.marks.member bytes reader f

block_whole : Laws → (bytes : List ℕ) (w v : Drive) (h after k : Held) (at count : ℕ) (done : Result Got DiskError) (o : Option ReaderState) → h.marks.own.reader ≡ o → h.marks.own.is_read ≡ false → next_in o ≡ Some (call.Read at count) → StillReads bytes w h.marks
    → ReadsBy o w h at count done v after → WasGot after k (sent.ReadLog at count) done → ReadsThen bytes k.marks
block_whole laws bytes w v h after k at count done None there unread next st r g = absurd cc
block_whole laws bytes w v h after k at count done (Some reader) there unread next st r g = by g.got g.ok g.is
  where
    front : ReadsFront h.marks.member bytes reader
    front = subst (λ (z : Option ReaderState). IfSome z (ReadsFront h.marks.member bytes)) there (st.reads.reading unread)

    l : TellsLog w h.marks.member bytes
    l = st.tells unread

    mid : RestartState
    mid = (with_reader h (with_block reader r.block)).marks

    counted : (n : ℕ) → done ≡ Ok (got.Count n) → k ≡ got_after after (sent.ReadLog at count) (got.Count n) → ReadsThen bytes k.marks
    counted n ok is =
        let good = ok_at _ done (got.Count n) ok r.reads.ok in
        let t = told_after w.contents v.contents l.contents _ l.told good.2 in
        let few : n ≡ min (min count block_size) (length bytes - at) = t.2.1.0 ∙ ap (λ (z : List ℕ). min (min count block_size) (length z - at)) l.log in
        let same : take n r.block ≡ take n (drop at bytes) = t.2.1.1 ∙ ap (λ (z : List ℕ). take n (drop at z)) l.log in
        let marks : k.marks ≡ read_on_after mid (logged.Count n) = ap (λ (z : Held). z.marks) is ∙ ap (λ (z : Held). read_on_after z.marks (logged.Count n)) r.held in
        subst (ReadsThen bytes) (sym marks)
        (replied_whole bytes mid (Some (with_block reader r.block)) (logged.Count n) unread (front_count laws h.marks.member bytes reader r.block n at count st.are front (same_call (next_call reader) (call.Read at count) next) few same))

    other : (x : Got) → done ≡ Ok x → (IsCount x (λ n. (n ≡ min (min count block_size) (length (log_of l.contents.logs h.marks.member) - at)) × (take n r.block ≡ take n (drop at (log_of l.contents.logs h.marks.member)))) → ⊥) → ReadsThen bytes k.marks
    other x ok never =
        let good = ok_at _ done x ok r.reads.ok in
        let t = told_after w.contents v.contents l.contents _ l.told good.2 in
        absurd (never t.2.1)

    by : (x : Got) → done ≡ Ok x → k ≡ got_after after (sent.ReadLog at count) x → ReadsThen bytes k.marks
    by got.Done ok is = other got.Done ok (λ e. e)
    by (got.Length n) ok is = other (got.Length n) ok (λ e. e)
    by (got.Count n) ok is = counted n ok is

-- what doesn't read it leaves it unread
same_unread : (bytes : List ℕ) (s t : RestartState) → t.own.is_read ≡ s.own.is_read → s.own.is_read ≡ false → ReadsThen bytes t
same_unread bytes s t same unread = still_unread bytes t (same ∙ unread)

page_unread : (bytes : List ℕ) (w v : Drive) (h k : Held) (page : PageId) (a : Answered) (said : RestartTold) → a ≢ answered.Failed → OpensStand h.marks → StillReads bytes w h.marks → h.marks.own.is_read ≡ false → RunsCall w h (sent.ReadPage page) a said v k → ReadsThen bytes k.marks
page_unread bytes w v h k page a said well o st unread r =
    let g = was_got r.after k (sent.ReadPage page) r.done a said well r.stores in
    let l = st.tells unread in
    let ok = ok_at _ r.done g.got g.ok r.calls.0.ok in
    let t = told_after w.contents v.contents l.contents _ l.told ok.2 in
    let marks : k.marks ≡ with_hand r.after.marks (filled_after r.after.marks.hand) = ap (λ (z : Held). z.marks) g.is ∙ ap (λ (z : Got). (got_after r.after (sent.ReadPage page) z).marks) t.2.0 in
    same_unread bytes h.marks k.marks (ap (λ (z : RestartState). z.own.is_read) marks ∙ ap (λ (z : Held). z.marks.own.is_read) r.calls.1) unread

runs_whole : Laws → (bytes : List ℕ) (u v : World) (h k : Held) (i : RestartIntent) (x : RestartSent) (a : Answered) (said : RestartTold) → need_of h.marks i ≡ Ok x → a ≢ answered.Failed → FitsRead h.marks x → OpensStand h.marks → StillReads bytes u.drive h.marks → h.marks.own.is_read ≡ false → Runs u h i x a said v k
    → ReadsThen bytes k.marks
runs_whole laws bytes u v h k i sent.None a said lawful well fits o st unread r = same_unread bytes h.marks k.marks (ap (λ (z : Held). z.marks.own.is_read) r.held) unread
runs_whole laws bytes u v h k i (sent.Command c) a said lawful well fits o st unread r =
    let near : Near h.marks (settled r.0.after i r.0.answer).marks = from_marks h r.0.after i (sent.Command c) r.0.answer (same_marks h r.0.after (is_hand h c) (lent_bytes r.0.after (is_hand h c)) r.0.gives.executed.back) lawful in
    same_unread bytes h.marks k.marks (ap (λ (z : Held). z.marks.own.is_read) r.0.settles ∙ near.read) unread
runs_whole laws bytes u v h k i sent.LogLength a said lawful well fits o st unread r = length_whole laws bytes u.drive v.drive h k a said well fits st r.0
runs_whole laws bytes u v h k i (sent.ReadLog at count) a said lawful well fits o st unread r =
    block_whole laws bytes u.drive v.drive h r.0.after k at count r.0.done h.marks.own.reader refl fits.0 fits.1 st r.0.calls (was_got r.0.after k (sent.ReadLog at count) r.0.done a said well r.0.stores)
runs_whole laws bytes u v h k i (sent.CutLog long) a said lawful well fits o st unread r = absurd (both_ways h.marks.own.is_read unread fits)
runs_whole laws bytes u v h k i sent.AppendLog a said lawful well fits o st unread r = absurd (both_ways h.marks.own.is_read unread (read_then h.marks bytes st.reads fits))
runs_whole laws bytes u v h k i (sent.ReadPage page) a said lawful well fits o st unread r = page_unread bytes u.drive v.drive h k page a said well o st unread r.0

pub whole_is_read : Laws → WholeIsRead
whole_is_read laws bytes u v h k x a e well o st unread read =
    let near : Near e.after.marks k.marks = locals e.after.marks k.marks e.ends.0 in
    subst (ReadsWhole bytes) (sym near.own) (runs_whole laws bytes u v h e.after e.intent x a e.said e.lawful well (fits_read h.marks e.intent x e.lawful) o st unread e.runs (sym near.read ∙ read))

-- ---- the begin
pub reads_begin : NothingStands → ReadsBegin
reads_begin law member bytes s f knows = record {
  reading = λ _. subst (λ (z : ℕ). IfSome s.own.reader (ReadsFront z bytes)) (sym (ap (λ (z : RestartState). z.member) f.rest)) (by s.own.reader f.own.reader knows);
  idle = λ _. ap (λ (z : RestartState). z.log.pending) f.rest;
  records = λ r. absurd (both_ways s.own.is_read (ap (λ (z : OwnState). z.is_read) f.own.rest) r);
}
  where
    by : (o : Option ReaderState) → HasNewReader member o → IfSome o (IsKnown bytes) → IfSome o (ReadsFront member bytes)
    by None new knows = absurd new
    by (Some r) new knows = record {
      own = new.member_is;
      whole = knows;
      stands = law bytes member r new;
      begins = subst (λ (z : HeldState). BeginsIn bytes z) (sym new.nothing) (inl refl);
      told = subst (λ (z : Option ℕ). IfSome z (λ long. long ≡ length bytes)) (sym new.length_unknown) tt;
    }
