-- Disk calls, and what is made of what they give.
use Rattle.std.specs.Prelude.{◌≡◌, ◌⊎◌, ℕ, min, Bool, List, length, take, drop, Option, Result, Ok, Err}
use Rattle.std.specs.FinMap as map
use Rattle.ds_base.specs.declared.names.PageId.{PageId}
use Rattle.ds_disk.specs.Answers.{Answers}
use Rattle.ds_disk.specs.Contents.{Contents, Same, log_of}
use Rattle.ds_disk.specs.Pages.{page_at}
use Rattle.ds_disk.specs.declared.disk.DiskError.{DiskError}
use Rattle.ds_disk.specs.declared.disk.DiskError.TheVariants.{Failed}
use Rattle.log_reader.specs.declared.calls.LogReply.TheVariants as logged
use Rattle.checkpoint_reader.specs.Lending.{with_block}
use Rattle.log_reader.specs.Readers.{block_size}
use Rattle.member_intents.specs.declared.outcome.Answered.{Answered}
use Rattle.member_intents.specs.declared.outcome.Answered.TheVariants as answered
use Rattle.rebuild_resources.specs.declared.calls.Got.{Got}
use Rattle.rebuild_resources.specs.declared.calls.Got.TheVariants as got
use Rattle.rebuild_resources.specs.declared.intent.RebuildSent.{RebuildSent}
use Rattle.rebuild_resources.specs.declared.intent.RebuildSent.TheVariants as sent
use Rattle.rebuild_resources.specs.declared.told.RebuildTold.{RebuildTold}
use Rattle.rebuild_resources.specs.declared.told.RebuildTold.TheVariants as told
use Rattle.rebuild_resources.specs.Logs.{TakesLog}
use Rattle.rebuild_resources.specs.Pages.{bring_told, bring_after, written_after}
use Rattle.rebuild_resources.specs.Settled.{Says}
use Rattle.rebuild_resources.specs.State.{RebuildState, with_reader, with_page}

-- whether the disk answers, and what it holds where it tells
pub record Drive : Type 0 where
  pub alive : Bool
  pub contents : Option Contents

-- ---- the calls

abbrev pub TellsLength : ℕ → Drive → Result Got DiskError → Drive → Type 0
TellsLength member w done v =
    Answers w.alive v.alive w.contents v.contents done
    (λ g c d. (d ≡ c) × (g ≡ got.Log (logged.Length (length (log_of c.logs member)))))
    Same

-- the block begins with so many bytes of the log, or all that are left
abbrev pub HasBytes : ℕ → List ℕ → List ℕ → Got → Type 0
HasBytes n log block g = (g ≡ got.Log (logged.Count (min n (length log)))) × (take (min n (length log)) block ≡ take (min n (length log)) log)

abbrev pub TellsBlock : ℕ → ℕ → ℕ → List ℕ → Drive → Result Got DiskError → Drive → Type 0
TellsBlock member at count block w done v =
    Answers w.alive v.alive w.contents v.contents done
    (λ g c d. (d ≡ c) × HasBytes count (drop at (log_of c.logs member)) block g)
    Same

abbrev pub ReadsPage : PageId → List ℕ → Drive → Result Got DiskError → Drive → Type 0
ReadsPage id page w done v =
    Answers w.alive v.alive w.contents v.contents done
    (λ g c d. (g ≡ got.Done) × (d ≡ c) × (page ≡ page_at c.pages id))
    Same

abbrev pub WritesPage : PageId → List ℕ → Drive → Result Got DiskError → Drive → Type 0
WritesPage id page w done v =
    Answers w.alive v.alive w.contents v.contents done
    (λ g c d. (g ≡ got.Done) × (d ≡ record c { pages = map.insert c.pages id page }))
    (λ c d. (d ≡ c) ⊎ (d ≡ record c { pages = map.insert c.pages id page }))

abbrev pub CallsNothing : Drive → RebuildState → Result Got DiskError → Drive → RebuildState → Type 0
CallsNothing w h done v k = (done ≡ Ok got.Done) × (v ≡ w) × (k ≡ h)

-- a log is read into the reader's block, and a page into the page at hand
abbrev pub Calls : Drive → RebuildState → RebuildSent → Result Got DiskError → Drive → RebuildState → Type 0
Calls w h (sent.LogLength member) done v k = TellsLength member w done v × (k ≡ h)
Calls w h (sent.ReadLog member at count) done v k =
    TellsBlock member at (min count block_size) k.reader.block w done v × (k ≡ with_reader h (with_block h.reader k.reader.block))
Calls w h (sent.ReadPage page) done v k = ReadsPage page k.page w done v × (k ≡ with_page h k.page)
Calls w h (sent.WritePage page) done v k = WritesPage page h.page w done v × (k ≡ h)
Calls w h sent.None done v k = CallsNothing w h done v k
Calls w h (sent.Command c) done v k = CallsNothing w h done v k

-- ---- what is made of what they give

abbrev pub StoresDone : RebuildState → RebuildSent → RebuildTold → RebuildState → Type 0
StoresDone h (sent.ReadPage page) said k = (said ≡ bring_told h h.merged) × (k ≡ bring_after h h.merged)
StoresDone h (sent.WritePage page) said k = Says told.Written (written_after h) said k
StoresDone h _ said k = Says told.Stepped h said k

abbrev pub StoresGot : RebuildState → RebuildSent → Got → RebuildTold → RebuildState → Type 0
StoresGot h s got.Done said k = StoresDone h s said k
StoresGot h s (got.Log reply) said k = TakesLog h reply said k

-- what was done is settled; a call that failed changes nothing here
abbrev pub Stores : RebuildState → RebuildSent → Result Got DiskError → Answered → RebuildTold → RebuildState → Type 0
Stores h s (Ok g) a said k = (a ≡ answered.Done) × StoresGot h s g said k
Stores h s (Err Failed) a said k = (a ≡ answered.Failed) × (said ≡ told.Failed) × (k ≡ h)
Stores h s (Err _) a said k = ⊥

pub record RunsCall (w : Drive) (h : RebuildState) (s : RebuildSent) (a : Answered) (said : RebuildTold) (v : Drive) (k : RebuildState) : Type 0 where
  pub done : Result Got DiskError
  pub after : RebuildState
  pub calls : Calls w h s done v after
  pub stores : Stores after s done a said k
