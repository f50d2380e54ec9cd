-- How the list of transactions goes on.
use Rattle.std.proofs.Common.{◌≡◌, ℕ, refl, sym, ◌∙◌, ap, subst, Bool, true, false, List, [], ◌∷◌, Option, Some, None, Result, Ok, Err}
use Rattle.std.specs.Prelude.{if◌then◌else◌, map}
use Rattle.std.proofs.lemmas.Bool.{both_ways}
use Rattle.ds_disk.specs.declared.disk.DiskError.{DiskError}
use Rattle.ds_disk.specs.declared.disk.DiskError.TheVariants as error
use Rattle.log_reader.specs.declared.calls.LogReply.{LogReply}
use Rattle.log_reader.specs.declared.calls.LogReply.TheVariants as logged
use Rattle.checkpoint_reader.specs.Readers.{ReaderState, after_reply, is_whole, parts_read}
use Rattle.log_record.specs.declared.log.Log.{Log}
use Rattle.log_record.specs.Logs.{Parts}
use Rattle.log_rows.specs.Rows.{OpenTell}
use Rattle.log_trans.specs.declared.damage.Damaged.{Damaged}
use Rattle.log_trans.specs.declared.opened.OpenTran.{OpenTran}
use Rattle.log_trans.specs.Courses.{open_trans}
use Rattle.log_trans.specs.Damage.{log_damage}
use Rattle.member_intents.specs.declared.outcome.Answered.{Answered}
use Rattle.restart_marks.specs.declared.intent.RestartIntent.{RestartIntent}
use Rattle.restart_marks.specs.declared.intent.RestartSent.{RestartSent}
use Rattle.restart_marks.specs.declared.intent.RestartSent.TheVariants as sent
use Rattle.restart_marks.specs.declared.told.RestartTold.{RestartTold}
use Rattle.restart_marks.specs.Needs.{need_of}
use Rattle.restart_marks.specs.Reading.{judged_after, log_from, read_after, read_on_after, reader_after, whole_after}
use Rattle.restart_marks.specs.State.{RestartState, with_own}
use Rattle.restart_records.specs.Own.{own_with}
use Rattle.restart_records.specs.Trans.{TransState, all_added, no_trans}
use Rattle.restart_records.specs.declared.trans.RestartTran.{RestartTran}
use Rattle.restart_resources.specs.declared.calls.Got.{Got}
use Rattle.restart_resources.specs.declared.calls.Got.TheVariants as got
use Rattle.restart_resources.specs.Calls.{Drive, ReadsBy, Stores, done_after, got_after}
use Rattle.restart_resources.specs.Events.{Runs, World}
use Rattle.restart_resources.specs.Held.{Held}
use Rattle.restart_resources.specs.Lending.{is_hand, lent_bytes}
use Rattle.restart_resources.specs.Settled.{settled}
use Rattle.restart_law.specs.Opens.{GoOn, ListGoes, ListsGo, OpensStand}
use Rattle.restart_law.proofs.Events.{from_marks, runs_keep, same_marks}
use Rattle.restart_law.proofs.Near.{locals}
use Rattle.restart_law.proofs.Opens.{Near, unread}
use Rattle.restart_law.proofs.Reading.{called}
use Rattle.restart_law.proofs.Trans.{added_are, finish, go_on, go_on_on}

abbrev pub Goes : RestartState → RestartState → Type 0
Goes s t = OpensStand s → ListGoes s t

goes_itself : (s : RestartState) → Goes s s
goes_itself s o = record { read = λ _. go_on s.trans.list; records = λ _. refl; still_read = λ r. r; reads = λ u r. absurd (both_ways s.own.is_read u r) }

near_goes : (s t : RestartState) → Near s t → Goes s t
near_goes s t n o = record {
  read = λ _. n.less.goes;
  records = λ _. n.records;
  still_read = λ r. n.read ∙ r;
  reads = λ u r. absurd (both_ways s.own.is_read u (sym n.read ∙ r));
}

-- one behind the other, where the second doesn't read the log
goes_on : (s t u : RestartState) → OpensStand s → OpensStand t → ListGoes s t → Near t u → ListGoes s u
goes_on s t u o p a n = record {
  read = λ r. go_on_on s.trans.list t.trans.list u.trans.list (a.read r) n.less.goes;
  records = λ r. n.records ∙ a.records r;
  still_read = λ r. n.read ∙ a.still_read r;
  reads = λ c r. same_trans (t.trans.list) (u.trans.list) n.less.goes ∙ (a.reads c (sym n.read ∙ r) ∙ ap (λ z. open_trans z) (sym n.records));
}
  where
    same_trans : (xs ys : List RestartTran) → GoOn xs ys → map (λ (y : RestartTran). y.tran) ys ≡ map (λ (y : RestartTran). y.tran) xs
    same_trans [] [] g = refl
    same_trans [] (y ∷ ys) g = absurd g
    same_trans (x ∷ xs) [] g = absurd g
    same_trans (x ∷ xs) (y ∷ ys) g = ap (λ (z : OpenTran). z ∷ map (λ (y : RestartTran). y.tran) ys) g.0.0 ∙ ap (λ (z : List OpenTran). x.tran ∷ z) (same_trans xs ys g.1)

-- ---- what was read
-- another reader, or none, is there
reader_goes : (s t : RestartState) (x : Option ReaderState) → s.own.is_read ≡ false → t ≡ with_own s (own_with s.own x) → ListGoes s t
reader_goes s t x unread e = subst (λ (z : RestartState). ListGoes s z) (sym e) (record {
  read = λ r. absurd (both_ways s.own.is_read unread r);
  records = λ r. absurd (both_ways s.own.is_read unread r);
  still_read = λ r. absurd (both_ways s.own.is_read unread r);
  reads = λ _ r. absurd (both_ways s.own.is_read unread r);
})

judged_goes : (s : RestartState) (log : Log) (o : Option Damaged) → OpensStand s → s.own.is_read ≡ false → ListGoes s (judged_after (with_own s (own_with s.own None)) log o)
judged_goes s log None o unread = record {
  read = λ r. absurd (both_ways s.own.is_read unread r);
  records = λ r. absurd (both_ways s.own.is_read unread r);
  still_read = λ r. absurd (both_ways s.own.is_read unread r);
  reads = λ _ _. ap (λ (z : TransState). map (λ (y : RestartTran). y.tran) (all_added z (open_trans log.records)).list) (o.none_open unread) ∙ added_are no_trans (open_trans log.records);
}
judged_goes s log (Some d) o unread = reader_goes s (with_own s (own_with s.own None)) None unread refl

whole_goes : (s : RestartState) (m : ℕ) (p : Result Parts ℕ) → OpensStand s → s.own.is_read ≡ false → ListGoes s (whole_after (with_own s (own_with s.own None)) m p)
whole_goes s m (Err at) o unread = reader_goes s (with_own s (own_with s.own None)) None unread refl
whole_goes s m (Ok p) o unread = judged_goes s (log_from m p) (log_damage (log_from m p ∷ [])) o unread

read_goes : (s : RestartState) (q : ReaderState) → OpensStand s → s.own.is_read ≡ false → ListGoes s (read_after (with_own s (own_with s.own None)) q)
read_goes s q o unread = by (is_whole q)
  where
    by : (b : Bool) → ListGoes s (if b then whole_after (with_own s (own_with s.own None)) q.member (parts_read q) else with_own (with_own s (own_with s.own None)) (own_with (with_own s (own_with s.own None)).own (Some q)))
    by true = whole_goes s q.member (parts_read q) o unread
    by false = reader_goes s (with_own s (own_with s.own (Some q))) (Some q) unread refl

reads_as : (s : RestartState) (x : Option ReaderState) (answer : LogReply) → s.own.reader ≡ x → Goes s (reader_after s x answer)
reads_as s None answer there o = goes_itself s o
reads_as s (Some r) answer there o = read_goes s (after_reply r answer) o (unread s r there o)

reads_on : (s : RestartState) (answer : LogReply) → Goes s (read_on_after s answer)
reads_on s answer o = reads_as s s.own.reader answer refl o

-- ---- a call
same_own : (s t : RestartState) → t.own.is_read ≡ s.own.is_read → t.own.records ≡ s.own.records → GoOn s.trans.list t.trans.list → ListGoes s t
same_own s t read records goes = record {
  read = λ _. goes;
  records = λ _. records;
  still_read = λ r. read ∙ r;
  reads = λ u r. absurd (both_ways s.own.is_read u (sym read ∙ r));
}

done_goes : (h : Held) (x : RestartSent) → Goes h.marks (done_after h x).marks
done_goes h (sent.CutLog long) o = same_own h.marks (done_after h (sent.CutLog long)).marks refl refl (go_on h.marks.trans.list)
done_goes h sent.AppendLog o = same_own h.marks (done_after h sent.AppendLog).marks refl refl (finish h.marks.own.records h.marks.trans o.ending).goes
done_goes h (sent.ReadPage page) o = same_own h.marks (done_after h (sent.ReadPage page)).marks refl refl (go_on h.marks.trans.list)
done_goes h sent.None o = goes_itself h.marks o
done_goes h (sent.Command c) o = goes_itself h.marks o
done_goes h sent.LogLength o = goes_itself h.marks o
done_goes h (sent.ReadLog at count) o = goes_itself h.marks o

got_goes : (h : Held) (x : RestartSent) (g : Got) → Goes h.marks (got_after h x g).marks
got_goes h x got.Done o = done_goes h x o
got_goes h x (got.Length n) o = reads_on h.marks (logged.Length n) o
got_goes h x (got.Count n) o = reads_on h.marks (logged.Count n) o

stores_go : (h k : Held) (x : RestartSent) (done : Result Got DiskError) (a : Answered) (said : RestartTold) → Stores h x done a said k → Goes h.marks k.marks
stores_go h k x (Ok g) a said e o = subst (λ (z : Held). ListGoes h.marks z.marks) (sym e.2) (got_goes h x g o)
stores_go h k x (Err error.Failed) a said e o = subst (λ (z : Held). ListGoes h.marks z.marks) (sym e.2) (goes_itself h.marks o)
stores_go h k x (Err error.NoMemory) a said e o = absurd e

-- the marks behind the call, before it is settled
from_same : (s : RestartState) (after k : Held) → after.marks ≡ s → (OpensStand after.marks → ListGoes after.marks k.marks) → Goes s k.marks
from_same s after k e g o = subst (λ (z : RestartState). ListGoes z k.marks) e (g (subst (λ (z : RestartState). OpensStand z) (sym e) o))

block_goes : (w v : Drive) (h after k : Held) (at count : ℕ) (done : Result Got DiskError) (x : Option ReaderState) → h.marks.own.reader ≡ x → ReadsBy x w h at count done v after → (OpensStand after.marks → ListGoes after.marks k.marks) → OpensStand after.marks → Goes h.marks k.marks
block_goes w v h after k at count done None there e g p o = from_same h.marks after k (ap (λ (z : Held). z.marks) e.2) g o
block_goes w v h after k at count done (Some r) there e g p o =
    let none : h.marks.own.is_read ≡ false = unread h.marks r there o in
    let goes = g p in
    let mid : (after.marks.own.is_read ≡ h.marks.own.is_read) = ap (λ (z : Held). z.marks.own.is_read) e.held in
    record {
      read = λ read. absurd (both_ways h.marks.own.is_read none read);
      records = λ read. absurd (both_ways h.marks.own.is_read none read);
      still_read = λ read. absurd (both_ways h.marks.own.is_read none read);
      reads = λ _ read. goes.reads (mid ∙ none) read;
    }

-- ---- any event
runs_go : OpenTell → (u v : World) (h k : Held) (i : RestartIntent) (x : RestartSent) (a : Answered) (said : RestartTold) → need_of h.marks i ≡ Ok x → Runs u h i x a said v k → Goes h.marks k.marks
runs_go law u v h k i sent.None a said lawful r o = subst (λ (z : Held). ListGoes h.marks z.marks) (sym r.held) (goes_itself h.marks o)
runs_go law u v h k i (sent.Command c) a said lawful r o =
    subst (λ (z : Held). ListGoes h.marks z.marks) (sym r.0.settles)
    (near_goes h.marks (settled r.0.after i r.0.answer).marks (from_marks h r.0.after i (sent.Command c) r.0.answer (same_marks h r.0.after (is_hand h c) (lent_bytes r.0.after (is_hand h c)) r.0.gives.executed.back) lawful) o)
runs_go law u v h k i sent.LogLength a said lawful r o = from_same h.marks r.0.after k (ap (λ (z : Held). z.marks) r.0.calls.1) (stores_go r.0.after k sent.LogLength r.0.done a said r.0.stores) o
runs_go law u v h k i (sent.ReadLog at count) a said lawful r o =
    block_goes u.drive v.drive h r.0.after k at count r.0.done h.marks.own.reader refl r.0.calls (stores_go r.0.after k (sent.ReadLog at count) r.0.done a said r.0.stores)
    (called u.drive v.drive h r.0.after (sent.ReadLog at count) r.0.done r.0.calls o) o
runs_go law u v h k i (sent.CutLog long) a said lawful r o = from_same h.marks r.0.after k (ap (λ (z : Held). z.marks) r.0.calls.1) (stores_go r.0.after k (sent.CutLog long) r.0.done a said r.0.stores) o
runs_go law u v h k i sent.AppendLog a said lawful r o = from_same h.marks r.0.after k (ap (λ (z : Held). z.marks) r.0.calls.1) (stores_go r.0.after k sent.AppendLog r.0.done a said r.0.stores) o
runs_go law u v h k i (sent.ReadPage page) a said lawful r o = from_same h.marks r.0.after k (ap (λ (z : Held). z.marks) r.0.calls.1) (stores_go r.0.after k (sent.ReadPage page) r.0.done a said r.0.stores) o

pub lists_go : OpenTell → ListsGo
lists_go law u v h k x a e o =
    goes_on h.marks e.after.marks k.marks o (runs_keep law u v h e.after e.intent x a e.said e.lawful e.runs o) (runs_go law u v h e.after e.intent x a e.said e.lawful e.runs o) (locals e.after.marks k.marks e.ends.0)
