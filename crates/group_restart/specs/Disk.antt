-- What each call of a group restart does to the disk.
use Rattle.std.specs.Prelude.{◌≡◌, ◌⊎◌, ℕ, ◌++◌, min, Bool, List, length, take, drop, Option, Result}
use Rattle.std.specs.List.{AllByRecursion}
use Rattle.std.specs.FinMap as map
use Rattle.ds_base.specs.declared.names.PageId.{PageId}
use Rattle.ds_model.specs.RecordBytes.{IsAllowed, log_bytes}
use Rattle.ds_disk.specs.Answers.{Answers, Appended}
use Rattle.ds_disk.specs.Contents.{Contents, Same, log_of, with_log}
use Rattle.ds_disk.specs.Pages.{page_at}
use Rattle.ds_disk.specs.declared.disk.DiskError.{DiskError}
use Rattle.log_reader.specs.declared.calls.LogReply.TheVariants as told
use Rattle.log_reader.specs.Lending.{with_block}
use Rattle.group_restart.specs.declared.calls.Call.{Call}
use Rattle.group_restart.specs.declared.calls.Call.TheVariants as call
use Rattle.group_restart.specs.declared.reply.Reply.{Reply}
use Rattle.group_restart.specs.declared.reply.Reply.TheVariants as reply
use Rattle.group_restart.specs.Records.{IsOfRestart}
use Rattle.group_restart.specs.Machine.{Restart}

-- whether the disk answers, and what it holds where it tells
pub record Drive : Type 0 where
  pub alive : Bool
  pub contents : Option Contents

-- ---- the calls

abbrev pub TellsLength : ℕ → Drive → Result Reply DiskError → Drive → Type 0
TellsLength member w done v =
    Answers w.alive v.alive w.contents v.contents done
    (λ r c d. (d ≡ c) × (r ≡ reply.Log (told.Length (length (log_of c.logs member)))))
    Same

-- the block begins with so many bytes of the log, or all that are left
abbrev pub HasBytes : ℕ → List ℕ → List ℕ → Reply → Type 0
HasBytes n log block r = (r ≡ reply.Log (told.Count (min n (length log)))) × (take (min n (length log)) block ≡ take (min n (length log)) log)

abbrev pub TellsBlock : ℕ → ℕ → ℕ → List ℕ → Drive → Result Reply DiskError → Drive → Type 0
TellsBlock member at count block w done v =
    Answers w.alive v.alive w.contents v.contents done
    (λ r c d. (d ≡ c) × HasBytes count (drop at (log_of c.logs member)) block r)
    Same

abbrev pub Cuts : ℕ → ℕ → Drive → Result Reply DiskError → Drive → Type 0
Cuts member n w done v =
    Answers w.alive v.alive w.contents v.contents done
    (λ r c d. (r ≡ reply.Done) × (d ≡ with_log c member (take n (log_of c.logs member))))
    (λ c d. (d ≡ c) ⊎ (d ≡ with_log c member (take n (log_of c.logs member))))

abbrev pub Appends : ℕ → List ℕ → Drive → Result Reply DiskError → Drive → Type 0
Appends member bytes w done v =
    Answers w.alive v.alive w.contents v.contents done
    (λ r c d. (r ≡ reply.Done) × (d ≡ with_log c member (log_of c.logs member ++ bytes)))
    (Appended member bytes)

abbrev pub ReadsPage : PageId → List ℕ → Drive → Result Reply DiskError → Drive → Type 0
ReadsPage id page w done v =
    Answers w.alive v.alive w.contents v.contents done
    (λ r c d. (r ≡ reply.Done) × (d ≡ c) × (page ≡ page_at c.pages id))
    Same

abbrev pub WritesPage : PageId → List ℕ → Drive → Result Reply DiskError → Drive → Type 0
WritesPage id page w done v =
    Answers w.alive v.alive w.contents v.contents done
    (λ r c d. (r ≡ reply.Done) × (d ≡ record c { pages = map.insert c.pages id page }))
    (λ c d. (d ≡ c) ⊎ (d ≡ record c { pages = map.insert c.pages id page }))

-- ---- of a restart

abbrev pub with_page : Restart → List ℕ → Restart
with_page h page = record h { page = page }

abbrev pub with_reader_block : Restart → List ℕ → Restart
with_reader_block h block = record h { reader = with_block h.reader block }

-- a log is read into the reader's block, and a page into the page at hand; what is appended are records of a restart, which can be read back
abbrev pub Calls : Restart → Call → Drive → Result Reply DiskError → Drive → Restart → Type 0
Calls h (call.LogLength member) w done v k = TellsLength member w done v × (k ≡ h)
Calls h (call.ReadLog member at count) w done v k = TellsBlock member at count k.reader.block w done v × (k ≡ with_reader_block h k.reader.block)
Calls h (call.CutLog member n) w done v k = Cuts member n w done v × (k ≡ h)
Calls h (call.AppendLog member) w done v k = Appends member (log_bytes h.added) w done v × AllByRecursion IsOfRestart h.added × AllByRecursion IsAllowed h.added × (k ≡ h)
Calls h (call.ReadPage id) w done v k = ReadsPage id k.page w done v × (k ≡ with_page h k.page)
Calls h (call.WritePage id) w done v k = WritesPage id h.page w done v × (k ≡ h)
