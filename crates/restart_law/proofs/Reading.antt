-- The own log as it is read, and other calls of the disk.
use Rattle.std.proofs.Common.{◌≡◌, ℕ, refl, sym, ◌∙◌, ap, subst, Bool, true, false, [], ◌∷◌, Option, Some, None, Result, Ok, Err}
use Rattle.std.specs.Prelude.{if◌then◌else◌}
use Rattle.ds_disk.specs.declared.disk.DiskError.{DiskError}
use Rattle.ds_disk.specs.declared.disk.DiskError.TheVariants as error
use Rattle.log_reader.specs.declared.calls.LogReply.{LogReply}
use Rattle.log_reader.specs.declared.calls.LogReply.TheVariants as logged
use Rattle.checkpoint_reader.specs.Lending.{with_block}
use Rattle.checkpoint_reader.specs.Readers.{ReaderState, after_reply, is_whole, parts_read}
use Rattle.log_record.specs.declared.log.Log.{Log}
use Rattle.log_record.specs.Logs.{Parts}
use Rattle.log_rows.specs.Rows.{OpenTell}
use Rattle.log_trans.specs.declared.damage.Damaged.{Damaged}
use Rattle.log_trans.specs.Damage.{log_damage}
use Rattle.member_intents.specs.declared.outcome.Answered.{Answered}
use Rattle.restart_marks.specs.declared.intent.RestartSent.{RestartSent}
use Rattle.restart_marks.specs.declared.intent.RestartSent.TheVariants as sent
use Rattle.restart_marks.specs.declared.told.RestartTold.{RestartTold}
use Rattle.restart_marks.specs.Hands.{filled_after}
use Rattle.restart_marks.specs.Reading.{judged_after, log_from, read_after, read_on_after, reader_after, whole_after}
use Rattle.restart_marks.specs.State.{RestartState, with_hand, with_own}
use Rattle.restart_records.specs.Own.{own_with}
use Rattle.restart_resources.specs.declared.calls.Got.{Got}
use Rattle.restart_resources.specs.declared.calls.Got.TheVariants as got
use Rattle.restart_resources.specs.Calls.{Calls, Drive, ReadsBy, RunsCall, Stores, done_after, got_after, with_reader}
use Rattle.restart_resources.specs.Held.{Held}
use Rattle.restart_law.specs.Opens.{OpensStand}
use Rattle.restart_law.proofs.Opens.{Keeps, enters, forces, keeps, near_keeps, reader_in, trans_near, near, unread}

-- ---- what was read
judged : OpenTell → (s t : RestartState) (r : ReaderState) (log : Log) (o : Option Damaged) → s.own.reader ≡ Some r → t ≡ with_own s (own_with s.own None) → Keeps s (judged_after t log o)
judged law s t r log None there e o =
    let read = unread s r there o in
    enters law t log (ap (λ (z : RestartState). z.names) e ∙ o.none_needed read) (ap (λ (z : RestartState). z.trans) e ∙ o.none_open read)
judged law s t r log (Some d) there e o = reader_in s t r None there e o

whole : OpenTell → (s t : RestartState) (r : ReaderState) (m : ℕ) (p : Result Parts ℕ) → s.own.reader ≡ Some r → t ≡ with_own s (own_with s.own None) → Keeps s (whole_after t m p)
whole law s t r m (Err at) there e = reader_in s t r None there e
whole law s t r m (Ok p) there e = judged law s t r (log_from m p) (log_damage (log_from m p ∷ [])) there e

read_by : OpenTell → (s t : RestartState) (r q : ReaderState) → s.own.reader ≡ Some r → t ≡ with_own s (own_with s.own None) → Keeps s (read_after t q)
read_by law s t r q there e = by (is_whole q)
  where
    by : (b : Bool) → Keeps s (if b then whole_after t q.member (parts_read q) else with_own t (own_with t.own (Some q)))
    by true = whole law s t r q.member (parts_read q) there e
    by false = reader_in s (with_own t (own_with t.own (Some q))) r (Some q) there (ap (λ (z : RestartState). with_own z (own_with z.own (Some q))) e)

reads_as : OpenTell → (s : RestartState) (o : Option ReaderState) (answer : LogReply) → s.own.reader ≡ o → Keeps s (reader_after s o answer)
reads_as law s None answer there = keeps s
reads_as law s (Some r) answer there = read_by law s (with_own s (own_with s.own None)) r (after_reply r answer) there refl

reads_on : OpenTell → (s : RestartState) (answer : LogReply) → Keeps s (read_on_after s answer)
reads_on law s answer = reads_as law s s.own.reader answer refl

-- ---- a call
tail_goes : (s : RestartState) → Keeps s (with_own s (record s.own { tail = 0 }))
tail_goes s o = record { none_needed = o.none_needed; none_open = o.none_open; reader = o.reader; from_log = o.from_log; needed = o.needed; ending = o.ending }

filled : (s : RestartState) → Keeps s (with_hand s (filled_after s.hand))
filled s o = record { none_needed = o.none_needed; none_open = o.none_open; reader = o.reader; from_log = o.from_log; needed = o.needed; ending = o.ending }

done_goes : (h : Held) (x : RestartSent) → Keeps h.marks (done_after h x).marks
done_goes h (sent.CutLog long) = tail_goes h.marks
done_goes h sent.AppendLog = forces h.marks
done_goes h (sent.ReadPage page) = filled h.marks
done_goes h sent.None = keeps h.marks
done_goes h (sent.Command c) = keeps h.marks
done_goes h sent.LogLength = keeps h.marks
done_goes h (sent.ReadLog at count) = keeps h.marks

got_goes : OpenTell → (h : Held) (x : RestartSent) (g : Got) → Keeps h.marks (got_after h x g).marks
got_goes law h x got.Done = done_goes h x
got_goes law h x (got.Length n) = reads_on law h.marks (logged.Length n)
got_goes law h x (got.Count n) = reads_on law h.marks (logged.Count n)

at_marks : (s : RestartState) (k m : Held) → k ≡ m → Keeps s m.marks → Keeps s k.marks
at_marks s k m e g = subst (λ (z : Held). Keeps s z.marks) (sym e) g

stores : OpenTell → (h k : Held) (x : RestartSent) (done : Result Got DiskError) (a : Answered) (said : RestartTold) → Stores h x done a said k → Keeps h.marks k.marks
stores law h k x (Ok g) a said e = at_marks h.marks k (got_after h x g) e.2 (got_goes law h x g)
stores law h k x (Err error.Failed) a said e = at_marks h.marks k h e.2 (keeps h.marks)
stores law h k x (Err error.NoMemory) a said e = absurd e

block_goes : (w v : Drive) (h k : Held) (at count : ℕ) (done : Result Got DiskError) (o : Option ReaderState) → h.marks.own.reader ≡ o → ReadsBy o w h at count done v k → Keeps h.marks k.marks
block_goes w v h k at count done None there e = at_marks h.marks k h e.2 (keeps h.marks)
block_goes w v h k at count done (Some r) there e =
    at_marks h.marks k (with_reader h (with_block r e.block)) e.held (reader_in h.marks (with_own h.marks (own_with h.marks.own (Some (with_block r e.block)))) r (Some (with_block r e.block)) there refl)

pub called : (w v : Drive) (h k : Held) (x : RestartSent) (done : Result Got DiskError) → Calls w h x done v k → Keeps h.marks k.marks
called w v h k sent.LogLength done e = at_marks h.marks k h e.1 (keeps h.marks)
called w v h k (sent.ReadLog at count) done e = block_goes w v h k at count done h.marks.own.reader refl e
called w v h k (sent.CutLog long) done e = at_marks h.marks k h e.1 (keeps h.marks)
called w v h k sent.AppendLog done e = at_marks h.marks k h e.1 (keeps h.marks)
called w v h k (sent.ReadPage page) done e = subst (λ (z : RestartState). Keeps h.marks z) (sym (ap (λ (z : Held). z.marks) e.1)) (keeps h.marks)
called w v h k sent.None done e = at_marks h.marks k h e.2 (keeps h.marks)
called w v h k (sent.Command c) done e = at_marks h.marks k h e.2 (keeps h.marks)

pub calls : OpenTell → (w v : Drive) (h k : Held) (x : RestartSent) (a : Answered) (said : RestartTold) → RunsCall w h x a said v k → Keeps h.marks k.marks
calls law w v h k x a said r o = stores law r.after k x r.done a said r.stores (called w v h r.after x r.done r.calls o)
