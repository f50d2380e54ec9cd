-- The own log as it is read, and other calls of the disk.
use Rattle.std.proofs.Common.{◌≡◌, ℕ, refl, sym, ◌∙◌, ap, subst, Bool, true, false, inl, [], ◌∷◌, Option, Some, None, Result, Ok, Err}
use Rattle.std.specs.Prelude.{if◌then◌else◌}
use Rattle.log_reader.specs.declared.calls.LogReply.{LogReply}
use Rattle.log_reader.specs.declared.calls.LogReply.TheVariants as logged
use Rattle.checkpoint_reader.specs.Lending.{with_block}
use Rattle.checkpoint_reader.specs.Readers.{ReaderState, after_reply, is_whole, parts_read}
use Rattle.log_record.specs.declared.log.Log.{Log}
use Rattle.log_record.specs.Logs.{Parts}
use Rattle.log_trans.specs.declared.damage.Damaged.{Damaged}
use Rattle.log_trans.specs.Damage.{log_damage}
use Rattle.ds_disk.specs.declared.disk.DiskError.{DiskError}
use Rattle.ds_disk.specs.declared.disk.DiskError.TheVariants as error
use Rattle.member_intents.specs.declared.outcome.Answered.{Answered}
use Rattle.restart_marks.specs.declared.intent.RestartSent.{RestartSent}
use Rattle.restart_marks.specs.declared.intent.RestartSent.TheVariants as sent
use Rattle.restart_marks.specs.declared.told.RestartTold.{RestartTold}
use Rattle.restart_marks.specs.Reading.{judged_after, log_from, read_after, read_on_after, reader_after, whole_after}
use Rattle.restart_marks.specs.State.{RestartState, with_own}
use Rattle.restart_records.specs.Own.{own_with}
use Rattle.restart_resources.specs.declared.calls.Got.{Got}
use Rattle.restart_resources.specs.declared.calls.Got.TheVariants as got
use Rattle.restart_resources.specs.Calls.{Calls, Drive, ReadsBy, RunsCall, Stores, done_after, got_after, with_reader}
use Rattle.restart_resources.specs.Held.{Held}
use Rattle.lock_restarts.specs.Courses.{Follows, IsInOrder}
use Rattle.lock_restarts.specs.Stands.{SameClaim}
use Rattle.lock_restarts.proofs.Near.{Near, forces, near, near_follows, near_same}

pub record Reads (s t : RestartState) : Type 0 where
  pub same : SameClaim s t
  pub follows : Follows s t

pub from_near : (s t : RestartState) → Near s t → Reads s t
from_near s t n = record { same = near_same s t n; follows = near_follows s t n }

pub goes : (s : RestartState) → Reads s s
goes s = from_near s s (near s)

pub goes_on : (s t u : RestartState) → Reads s t → Reads t u → Reads s u
goes_on s t u a b = record {
  same = record { claim = b.same.claim ∙ a.same.claim; member = b.same.member ∙ a.same.member; up = b.same.up ∙ a.same.up };
  follows = record {
    member = b.follows.member ∙ a.follows.member;
    order = λ o. b.follows.order (a.follows.order o);
    handed = λ o h. b.follows.handed (a.follows.order o) (a.follows.handed o h);
  };
}

some_none : {A : Type 0} → (x : Option A) (a : A) → x ≡ Some a → x ≡ None → ⊥
some_none x a p q = cc

-- a reader is there, so the log isn't read whole
unread : (s : RestartState) (r : ReaderState) → s.own.reader ≡ Some r → IsInOrder s → s.own.is_read ≡ true → ⊥
unread s r there o read = some_none s.own.reader r there (o.reader read)

-- ---- what was read
reader_in : (s t : RestartState) (r : ReaderState) (x : Option ReaderState) → s.own.reader ≡ Some r → t ≡ with_own s (own_with s.own x) → Reads s t
reader_in s t r x there e = subst (λ (z : RestartState). Reads s z) (sym e) (record {
  same = record { claim = refl; member = refl; up = refl };
  follows = record {
    member = refl;
    order = λ o. record { reader = λ read. absurd (unread s r there o read); listed = o.listed; kept = o.kept };
    handed = λ o h. absurd (unread s r there o h.read);
  };
})

judged : (s t : RestartState) (r : ReaderState) (log : Log) (o : Option Damaged) → s.own.reader ≡ Some r → t ≡ with_own s (own_with s.own None) → Reads s (judged_after t log o)
judged s t r log None there e = record {
  same = record { claim = ap (λ (z : RestartState). z.claim) e; member = ap (λ (z : RestartState). z.member) e; up = ap (λ (z : RestartState). z.is_up) e };
  follows = record {
    member = ap (λ (z : RestartState). z.member) e;
    order = λ o. record { reader = λ _. refl; listed = λ _. refl; kept = λ _. refl };
    handed = λ o h. absurd (unread s r there o h.read);
  };
}
judged s t r log (Some d) there e = reader_in s t r None there e

whole : (s t : RestartState) (r : ReaderState) (m : ℕ) (p : Result Parts ℕ) → s.own.reader ≡ Some r → t ≡ with_own s (own_with s.own None) → Reads s (whole_after t m p)
whole s t r m (Err at) there e = reader_in s t r None there e
whole s t r m (Ok p) there e = judged s t r (log_from m p) (log_damage (log_from m p ∷ [])) there e

read_by : (s t : RestartState) (r q : ReaderState) → s.own.reader ≡ Some r → t ≡ with_own s (own_with s.own None) → Reads s (read_after t q)
read_by s t r q there e = by (is_whole q)
  where
    by : (b : Bool) → Reads s (if b then whole_after t q.member (parts_read q) else with_own t (own_with t.own (Some q)))
    by true = whole s t r q.member (parts_read q) there e
    by false = reader_in s (with_own t (own_with t.own (Some q))) r (Some q) there (ap (λ (z : RestartState). with_own z (own_with z.own (Some q))) e)

reads_as : (s : RestartState) (o : Option ReaderState) (answer : LogReply) → s.own.reader ≡ o → Reads s (reader_after s o answer)
reads_as s None answer there = goes s
reads_as s (Some r) answer there = read_by s (with_own s (own_with s.own None)) r (after_reply r answer) there refl

reads_on : (s : RestartState) (answer : LogReply) → Reads s (read_on_after s answer)
reads_on s answer = reads_as s s.own.reader answer refl

-- ---- a call
tail_goes : (s : RestartState) → Reads s (with_own s (record s.own { tail = 0 }))
tail_goes s = from_near s (with_own s (record s.own { tail = 0 })) (record { claim = refl; member = refl; up = refl; read = refl; reader = refl; kept = refl; listed = λ e. inl e; trans = λ e. e })

done_goes : (h : Held) (x : RestartSent) → Reads h.marks (done_after h x).marks
done_goes h (sent.CutLog long) = tail_goes h.marks
done_goes h sent.AppendLog = from_near h.marks (done_after h sent.AppendLog).marks (forces h.marks)
done_goes h (sent.ReadPage page) = from_near h.marks (done_after h (sent.ReadPage page)).marks (near h.marks)
done_goes h sent.None = goes h.marks
done_goes h (sent.Command c) = goes h.marks
done_goes h sent.LogLength = goes h.marks
done_goes h (sent.ReadLog at count) = goes h.marks

got_goes : (h : Held) (x : RestartSent) (g : Got) → Reads h.marks (got_after h x g).marks
got_goes h x got.Done = done_goes h x
got_goes h x (got.Length n) = reads_on h.marks (logged.Length n)
got_goes h x (got.Count n) = reads_on h.marks (logged.Count n)

at_marks : (s : RestartState) (k m : Held) → k ≡ m → Reads s m.marks → Reads s k.marks
at_marks s k m e g = subst (λ (z : Held). Reads s z.marks) (sym e) g

stores : (h k : Held) (x : RestartSent) (done : Result Got DiskError) (a : Answered) (said : RestartTold) → Stores h x done a said k → Reads h.marks k.marks
stores h k x (Ok g) a said e = at_marks h.marks k (got_after h x g) e.2 (got_goes h x g)
stores h k x (Err error.Failed) a said e = at_marks h.marks k h e.2 (goes h.marks)
stores h k x (Err error.NoMemory) a said e = absurd e

block_goes : (w v : Drive) (h k : Held) (at count : ℕ) (done : Result Got DiskError) (o : Option ReaderState) → h.marks.own.reader ≡ o → ReadsBy o w h at count done v k → Reads h.marks k.marks
block_goes w v h k at count done None there e = at_marks h.marks k h e.2 (goes h.marks)
block_goes w v h k at count done (Some r) there e =
    at_marks h.marks k (with_reader h (with_block r e.block)) e.held (reader_in h.marks (with_own h.marks (own_with h.marks.own (Some (with_block r e.block)))) r (Some (with_block r e.block)) there refl)

called : (w v : Drive) (h k : Held) (x : RestartSent) (done : Result Got DiskError) → Calls w h x done v k → Reads h.marks k.marks
called w v h k sent.LogLength done e = at_marks h.marks k h e.1 (goes h.marks)
called w v h k (sent.ReadLog at count) done e = block_goes w v h k at count done h.marks.own.reader refl e
called w v h k (sent.CutLog long) done e = at_marks h.marks k h e.1 (goes h.marks)
called w v h k sent.AppendLog done e = at_marks h.marks k h e.1 (goes h.marks)
called w v h k (sent.ReadPage page) done e = subst (λ (z : RestartState). Reads h.marks z) (sym (ap (λ (z : Held). z.marks) e.1)) (goes h.marks)
called w v h k sent.None done e = at_marks h.marks k h e.2 (goes h.marks)
called w v h k (sent.Command c) done e = at_marks h.marks k h e.2 (goes h.marks)

pub calls : (w v : Drive) (h k : Held) (x : RestartSent) (a : Answered) (said : RestartTold) → RunsCall w h x a said v k → Reads h.marks k.marks
calls w v h k x a said r = goes_on h.marks r.after.marks k.marks (called w v h r.after x r.done r.calls) (stores r.after k x r.done a said r.stores)
