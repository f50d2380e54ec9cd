-- What is on disk behind a call that has failed.
use Rattle.std.proofs.Common.{◌≡◌, ℕ, refl, sym, ◌∙◌, ap, subst, Bool, true, false, inl, inr, List, [], ◌∷◌, ◌++◌, length, take, Option, Some, None, Result, Ok, Err}
use Rattle.std.specs.Prelude.{◌⊎◌, ◌≢◌, IsErrOf}
use Rattle.std.proofs.lemmas.List.{append-nil, take_at}
use Rattle.ds_disk.specs.Answers.{Answers, Appended}
use Rattle.ds_disk.specs.Contents.{Becomes, Contents, Same, log_of, with_log}
use Rattle.ds_disk.specs.declared.disk.DiskError.{DiskError}
use Rattle.ds_disk.specs.declared.disk.DiskError.TheVariants as error
use Rattle.ds_model.specs.declared.log.LogRecord.{LogRecord}
use Rattle.checkpoint_reader.specs.Readers.{ReaderState}
use Rattle.facility.specs.declared.command.Reply.{Reply}
use Rattle.member_intents.specs.declared.outcome.Answered.{Answered}
use Rattle.member_intents.specs.declared.outcome.Answered.TheVariants as answered
use Rattle.restart_marks.specs.declared.intent.RestartIntent.{RestartIntent}
use Rattle.restart_marks.specs.declared.intent.RestartSent.{RestartSent}
use Rattle.restart_marks.specs.declared.intent.RestartSent.TheVariants as sent
use Rattle.restart_marks.specs.declared.told.RestartTold.{RestartTold}
use Rattle.restart_marks.specs.Needs.{need_of}
use Rattle.restart_resources.specs.declared.calls.Got.{Got}
use Rattle.restart_resources.specs.Calls.{Calls, CallsNothing, Drive, ReadsBy, RunsCall, Stores}
use Rattle.restart_resources.specs.Events.{Runs, World}
use Rattle.restart_resources.specs.Held.{Held}
use Rattle.restart_closing.specs.Closing.{HasLog, IsRead, RestartCloses}
use Rattle.restart_closing.specs.Leaving.{FailuresLeave}
use Rattle.restart_closing.proofs.Events.{new_log, no_rest, none_waits, same_log, told_after}
use Rattle.restart_closing.proofs.Needs.{FitsSent, fits_sent}

-- the call has failed
has_failed : (h k : Held) (x : RestartSent) (done : Result Got DiskError) (said : RestartTold) → Stores h x done answered.Failed said k → done ≡ Err error.Failed
has_failed h k x (Ok g) said e = absurd (never e.0)
  where
    never : answered.Failed ≡ answered.Done → ⊥
    never f = cc
has_failed h k x (Err error.Failed) said e = refl
has_failed h k x (Err error.NoMemory) said e = absurd e

err_of : (done : Result Got DiskError) → done ≡ Err error.Failed → IsErrOf done error.Failed
err_of done e = subst (λ (z : Result Got DiskError). IsErrOf z error.Failed) (sym e) refl

never_ok : (done : Result Got DiskError) (g : Got) → done ≡ Err error.Failed → done ≡ Ok g → ⊥
never_ok done g e f = cc

-- the disk holds what it held, or this
failed_as : (w v : Drive) (c : Contents) (done : Result Got DiskError) (Done : Got → Contents → Contents → Type 0) (Torn : Contents → Contents → Type 0)
    → w.contents ≡ Some c → done ≡ Err error.Failed → Answers w.alive v.alive w.contents v.contents done Done Torn
    → ((d : Contents) × (v.contents ≡ Some d) × (d ≡ c)) ⊎ ((d : Contents) × (v.contents ≡ Some d) × Torn c d)
failed_as w v c done Done Torn told failed a = by (a.failed (err_of done failed))
  where
    by : ((v.alive ≡ w.alive) × Becomes w.contents v.contents Same) ⊎ ((v.alive ≡ false) × Becomes w.contents v.contents Torn) → ((d : Contents) × (v.contents ≡ Some d) × (d ≡ c)) ⊎ ((d : Contents) × (v.contents ≡ Some d) × Torn c d)
    by (inl e) = inl (told_after w.contents v.contents c Same told e.1)
    by (inr e) = inr (told_after w.contents v.contents c Torn told e.1)

module _ (log rest : List ℕ) (pend : List LogRecord) where
  abbrev Leaves : Drive → ℕ → List ℕ → Type 0
  Leaves drive member pending = HasLog drive member (log ++ rest) ⊎ ((n : ℕ) × HasLog drive member (log ++ take n pending))

  -- where the disk holds what it held
  kept : (w v : Drive) (member : ℕ) (pending : List ℕ) (has : HasLog w member (log ++ rest)) (done : Result Got DiskError) (Done : Got → Contents → Contents → Type 0)
      → done ≡ Err error.Failed → Answers w.alive v.alive w.contents v.contents done Done Same → Leaves v member pending
  kept w v member pending has done Done failed a = inl (by (failed_as w v has.contents done Done Same has.told failed a))
    where
      by : ((d : Contents) × (v.contents ≡ Some d) × (d ≡ has.contents)) ⊎ ((d : Contents) × (v.contents ≡ Some d) × Same has.contents d) → HasLog v member (log ++ rest)
      by (inl d) = same_log w v member (log ++ rest) has d
      by (inr d) = same_log w v member (log ++ rest) has d

  blocks : (w v : Drive) (h k : Held) (at count : ℕ) (done : Result Got DiskError) (o : Option ReaderState) → HasLog w h.marks.member (log ++ rest) → done ≡ Err error.Failed → ReadsBy o w h at count done v k → Leaves v h.marks.member h.marks.log.pending
  blocks w v h k at count done None has failed r = absurd (never_ok done _ failed r.0)
  blocks w v h k at count done (Some reader) has failed r = kept w v h.marks.member h.marks.log.pending has done _ failed r.reads

  cuts : (w v : Drive) (h k : Held) (long : ℕ) (done : Result Got DiskError) → FitsSent h.marks (sent.CutLog long) → HasLog w h.marks.member (log ++ rest) → RestartCloses log rest pend h.marks → done ≡ Err error.Failed
      → Calls w h (sent.CutLog long) done v k → Leaves v h.marks.member h.marks.log.pending
  cuts w v h k long done fits has c failed r = by (failed_as w v has.contents done _ _ has.told failed r.0)
    where
      read : IsRead log rest h.marks
      read = c.read fits.0

      bytes : take long (log_of has.contents.logs h.marks.member) ≡ log ++ take 0 h.marks.log.pending
      bytes = ap (λ (z : List ℕ). take long z) has.log ∙ take_at log rest long (sym (fits.2 ∙ read.long fits.1)) ∙ sym (append-nil log)

      now : (d : Contents) → v.contents ≡ Some d → (d ≡ has.contents) ⊎ (d ≡ with_log has.contents h.marks.member (take long (log_of has.contents.logs h.marks.member))) → Leaves v h.marks.member h.marks.log.pending
      now d told (inl is) = inl (same_log w v h.marks.member (log ++ rest) has (d, told, is))
      now d told (inr is) = inr (0, new_log w v h.marks.member (log ++ rest) (log ++ take 0 h.marks.log.pending) has (d, told, is ∙ ap (λ (z : List ℕ). with_log has.contents h.marks.member z) bytes))

      by : ((d : Contents) × (v.contents ≡ Some d) × (d ≡ has.contents))
          ⊎ ((d : Contents) × (v.contents ≡ Some d) × ((d ≡ has.contents) ⊎ (d ≡ with_log has.contents h.marks.member (take long (log_of has.contents.logs h.marks.member))))) → Leaves v h.marks.member h.marks.log.pending
      by (inl d) = inl (same_log w v h.marks.member (log ++ rest) has d)
      by (inr d) = now d.0 d.1 d.2

  appends : (w v : Drive) (h k : Held) (done : Result Got DiskError) → FitsSent h.marks sent.AppendLog → HasLog w h.marks.member (log ++ rest) → RestartCloses log rest pend h.marks → done ≡ Err error.Failed
      → Calls w h sent.AppendLog done v k → Leaves v h.marks.member h.marks.log.pending
  appends w v h k done fits has c failed r = by (failed_as w v has.contents done _ (Appended h.marks.member h.marks.log.pending) has.told failed r.0)
    where
      none : rest ≡ []
      none = no_rest rest (sym (c.read (none_waits log rest pend h.marks c fits.0)).tail ∙ fits.1)

      bytes : (n : ℕ) → log_of has.contents.logs h.marks.member ++ take n h.marks.log.pending ≡ log ++ take n h.marks.log.pending
      bytes n = ap (λ (z : List ℕ). z ++ take n h.marks.log.pending) (has.log ∙ ap (λ (z : List ℕ). log ++ z) none ∙ append-nil log)

      by : ((d : Contents) × (v.contents ≡ Some d) × (d ≡ has.contents)) ⊎ ((d : Contents) × (v.contents ≡ Some d) × Appended h.marks.member h.marks.log.pending has.contents d) → Leaves v h.marks.member h.marks.log.pending
      by (inl d) = inl (same_log w v h.marks.member (log ++ rest) has d)
      by (inr d) = inr (
        d.2.0,
        new_log w v h.marks.member (log ++ rest) (log ++ take d.2.0 h.marks.log.pending) has
            (d.0, d.1, d.2.2 ∙ ap (λ (z : List ℕ). with_log has.contents h.marks.member z) (bytes d.2.0)),
      )

  called : (w v : Drive) (h after k : Held) (x : RestartSent) (done : Result Got DiskError) → FitsSent h.marks x → HasLog w h.marks.member (log ++ rest) → RestartCloses log rest pend h.marks → done ≡ Err error.Failed → Calls w h x done v after
      → Leaves v h.marks.member h.marks.log.pending
  called w v h after k sent.LogLength done fits has c failed r = kept w v h.marks.member h.marks.log.pending has done _ failed r.0
  called w v h after k (sent.ReadLog at count) done fits has c failed r = blocks w v h after at count done h.marks.own.reader has failed r
  called w v h after k (sent.CutLog long) done fits has c failed r = cuts w v h after long done fits has c failed r
  called w v h after k sent.AppendLog done fits has c failed r = appends w v h after done fits has c failed r
  called w v h after k (sent.ReadPage page) done fits has c failed r = kept w v h.marks.member h.marks.log.pending has done _ failed r.0
  called w v h after k sent.None done fits has c failed r = absurd (never_ok done _ failed r.0)
  called w v h after k (sent.Command x) done fits has c failed r = absurd (never_ok done _ failed r.0)

  calls : (w v : Drive) (h k : Held) (x : RestartSent) (said : RestartTold) → FitsSent h.marks x → HasLog w h.marks.member (log ++ rest) → RestartCloses log rest pend h.marks → RunsCall w h x answered.Failed said v k → Leaves v h.marks.member h.marks.log.pending
  calls w v h k x said fits has c r = called w v h r.after k x r.done fits has c (has_failed r.after k x r.done said r.stores) r.calls

  runs : (u v : World) (h k : Held) (i : RestartIntent) (x : RestartSent) (said : RestartTold) → FitsSent h.marks x → HasLog u.drive h.marks.member (log ++ rest) → RestartCloses log rest pend h.marks → Runs u h i x answered.Failed said v k
      → Leaves v.drive h.marks.member h.marks.log.pending
  runs u v h k i sent.None said fits has c r = absurd (never r.is)
    where
      never : answered.Failed ≡ answered.None → ⊥
      never e = cc
  runs u v h k i (sent.Command x) said fits has c r = absurd (never r.0.answer r.0.is)
    where
      never : (a : Reply) → answered.Failed ≡ answered.Reply a → ⊥
      never a e = cc
  runs u v h k i sent.LogLength said fits has c r = calls u.drive v.drive h k sent.LogLength said fits has c r.0
  runs u v h k i (sent.ReadLog at count) said fits has c r = calls u.drive v.drive h k (sent.ReadLog at count) said fits has c r.0
  runs u v h k i (sent.CutLog long) said fits has c r = calls u.drive v.drive h k (sent.CutLog long) said fits has c r.0
  runs u v h k i sent.AppendLog said fits has c r = calls u.drive v.drive h k sent.AppendLog said fits has c r.0
  runs u v h k i (sent.ReadPage page) said fits has c r = calls u.drive v.drive h k (sent.ReadPage page) said fits has c r.0

pub failures_leave : FailuresLeave
failures_leave log rest pend u v h k x e has c = runs log rest pend u v h e.after e.intent x e.said (fits_sent h.marks e.intent x e.lawful) has c e.runs
