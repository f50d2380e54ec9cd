-- Disk calls, and what is made of what they give.
use Rattle.std.specs.Prelude.{ℕ, ◌≡◌, ◌⊎◌, ◌-◌, ◌++◌, min, Bool, List, length, take, drop, Option, Some, None, Result, Ok, Err}
use Rattle.ds_base.specs.declared.names.PageId.{PageId}
use Rattle.ds_disk.specs.Answers.{Answers, Appended}
use Rattle.ds_disk.specs.Contents.{Contents, Same, log_of, with_log}
use Rattle.ds_disk.specs.Pages as disk
use Rattle.ds_disk.specs.declared.disk.DiskError.{DiskError}
use Rattle.ds_disk.specs.declared.disk.DiskError.TheVariants.{Failed}
use Rattle.log_reader.specs.declared.calls.LogReply.TheVariants as logged
use Rattle.checkpoint_reader.specs.Lending.{with_block}
use Rattle.log_reader.specs.Readers.{block_size}
use Rattle.checkpoint_reader.specs.Readers.{ReaderState}
use Rattle.member_intents.specs.declared.outcome.Answered.{Answered}
use Rattle.member_intents.specs.declared.outcome.Answered.TheVariants as answered
use Rattle.restart_marks.specs.declared.intent.RestartSent.{RestartSent}
use Rattle.restart_marks.specs.declared.intent.RestartSent.TheVariants as sent
use Rattle.restart_marks.specs.declared.told.RestartTold.{RestartTold}
use Rattle.restart_marks.specs.declared.told.RestartTold.TheVariants as told
use Rattle.restart_marks.specs.Hands.{filled_after}
use Rattle.restart_marks.specs.Given.{own_with}
use Rattle.restart_marks.specs.Reading.{read_on_told, read_on_after}
use Rattle.restart_marks.specs.State.{RestartState, with_hand, with_own}
use Rattle.restart_marks.specs.Undoing.{forced_after}
use Rattle.restart_resources.specs.declared.calls.Got.{Got}
use Rattle.restart_resources.specs.declared.calls.Got.TheVariants as got
use Rattle.restart_resources.specs.Held.{Held, with_marks, with_page}

-- whether the disk answers, and what it holds where it tells
pub record Drive : Type 0 where
  pub alive : Bool
  pub contents : Option Contents

-- ---- the own log

-- so many bytes of the log stand in front of the block
abbrev pub ReadsFront : Drive → ℕ → ℕ → ℕ → Result ℕ DiskError → Drive → List ℕ → Type 0
ReadsFront w m at count done v block =
    Answers w.alive v.alive w.contents v.contents done
    (λ n c d. (d ≡ c) × (n ≡ min count (length (log_of c.logs m) - at)) × (take n block ≡ take n (drop at (log_of c.logs m))))
    Same

abbrev pub IsCount : Got → (ℕ → Type 0) → Type 0
IsCount (got.Count n) Is = Is n
IsCount _ Is = ⊥

abbrev pub CountsFront : Drive → ℕ → ℕ → ℕ → Result Got DiskError → Drive → List ℕ → Type 0
CountsFront w m at count done v block =
    Answers w.alive v.alive w.contents v.contents done
    (λ g c d. (d ≡ c) × IsCount g (λ n. (n ≡ min count (length (log_of c.logs m) - at)) × (take n block ≡ take n (drop at (log_of c.logs m)))))
    Same

abbrev pub with_reader : Held → ReaderState → Held
with_reader h r = with_marks h (with_own h.marks (own_with h.marks.own (Some r)))

-- the reader has so many bytes of the log in front of its block
pub record ReadsTo (w : Drive) (h : Held) (r : ReaderState) (at count : ℕ) (done : Result Got DiskError) (v : Drive) (k : Held) : Type 0 where
  pub block : List ℕ
  pub reads : CountsFront w h.marks.member at count done v block
  pub held : k ≡ with_reader h (with_block r block)

abbrev pub CallsNothing : Drive → Held → Result Got DiskError → Got → Drive → Held → Type 0
CallsNothing w h done g v k = (done ≡ Ok g) × (v ≡ w) × (k ≡ h)

abbrev pub ReadsBy : Option ReaderState → Drive → Held → ℕ → ℕ → Result Got DiskError → Drive → Held → Type 0
ReadsBy None w h at count done v k = CallsNothing w h done (got.Count 0) v k
ReadsBy (Some r) w h at count done v k = ReadsTo w h r at (min count block_size) done v k

abbrev pub ReadsBlock : Drive → Held → ℕ → ℕ → Result Got DiskError → Drive → Held → Type 0
ReadsBlock w h at count done v k = ReadsBy h.marks.own.reader w h at count done v k

abbrev pub TellsLength : Drive → Held → Result Got DiskError → Drive → Held → Type 0
TellsLength w h done v k =
    Answers w.alive v.alive w.contents v.contents done (λ g c d. (d ≡ c) × (g ≡ got.Length (length (log_of c.logs h.marks.member)))) Same
    × (k ≡ h)

-- the log has its whole records alone
abbrev pub Cuts : Drive → Held → ℕ → Result Got DiskError → Drive → Held → Type 0
Cuts w h long done v k =
    Answers w.alive v.alive w.contents v.contents done
    (λ g c d. (g ≡ got.Done) × (d ≡ with_log c h.marks.member (take long (log_of c.logs h.marks.member))))
    (λ c d. (d ≡ c) ⊎ (d ≡ with_log c h.marks.member (take long (log_of c.logs h.marks.member))))
    × (k ≡ h)

-- the log ends with the pending records
abbrev pub Appends : Drive → Held → Result Got DiskError → Drive → Held → Type 0
Appends w h done v k =
    Answers w.alive v.alive w.contents v.contents done
    (λ g c d. (g ≡ got.Done) × (d ≡ with_log c h.marks.member (log_of c.logs h.marks.member ++ h.marks.log.pending)))
    (Appended h.marks.member h.marks.log.pending)
    × (k ≡ h)

-- ---- the page in hand

-- it has the disk's bytes of this page
abbrev pub ReadsInto : Drive → Held → PageId → Result Got DiskError → Drive → Held → Type 0
ReadsInto w h page done v k =
    Answers w.alive v.alive w.contents v.contents done (λ g c d. (g ≡ got.Done) × (d ≡ c) × (k.page ≡ disk.page_at c.pages page)) Same
    × (k ≡ with_page h k.page)

abbrev pub Calls : Drive → Held → RestartSent → Result Got DiskError → Drive → Held → Type 0
Calls w h sent.LogLength done v k = TellsLength w h done v k
Calls w h (sent.ReadLog at count) done v k = ReadsBlock w h at count done v k
Calls w h (sent.CutLog long) done v k = Cuts w h long done v k
Calls w h sent.AppendLog done v k = Appends w h done v k
Calls w h (sent.ReadPage page) done v k = ReadsInto w h page done v k
Calls w h sent.None done v k = CallsNothing w h done got.Done v k
Calls w h (sent.Command c) done v k = CallsNothing w h done got.Done v k

-- ---- what is made of it

abbrev pub tail_cut : RestartState → RestartState
tail_cut s = with_own s (record s.own { tail = 0 })

abbrev pub done_told : RestartSent → RestartTold
done_told (sent.CutLog long) = told.TailCut
done_told sent.AppendLog = told.Forced
done_told (sent.ReadPage page) = told.Filled
done_told _ = told.Stepped

abbrev pub done_after : Held → RestartSent → Held
done_after h (sent.CutLog long) = with_marks h (tail_cut h.marks)
done_after h sent.AppendLog = with_marks h (forced_after h.marks)
done_after h (sent.ReadPage page) = with_marks h (with_hand h.marks (filled_after h.marks.hand))
done_after h _ = h

abbrev pub got_told : Held → RestartSent → Got → RestartTold
got_told h s got.Done = done_told s
got_told h s (got.Length n) = read_on_told h.marks (logged.Length n)
got_told h s (got.Count n) = read_on_told h.marks (logged.Count n)

abbrev pub got_after : Held → RestartSent → Got → Held
got_after h s got.Done = done_after h s
got_after h s (got.Length n) = with_marks h (read_on_after h.marks (logged.Length n))
got_after h s (got.Count n) = with_marks h (read_on_after h.marks (logged.Count n))

-- what was done is settled; a call that failed changes nothing here
abbrev pub Stores : Held → RestartSent → Result Got DiskError → Answered → RestartTold → Held → Type 0
Stores h s (Ok g) a said k = (a ≡ answered.Done) × (said ≡ got_told h s g) × (k ≡ got_after h s g)
Stores h s (Err Failed) a said k = (a ≡ answered.Failed) × (said ≡ told.Failed) × (k ≡ h)
Stores h s (Err _) a said k = ⊥

pub record RunsCall (w : Drive) (h : Held) (s : RestartSent) (a : Answered) (said : RestartTold) (v : Drive) (k : Held) : Type 0 where
  pub done : Result Got DiskError
  pub after : Held
  pub calls : Calls w h s done v after
  pub stores : Stores after s done a said k
