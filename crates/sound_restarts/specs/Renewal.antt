-- Where the renewal of a group restart leads on a sound disk: behind it no page of version 1 is left.
use Rattle.std.specs.Prelude.{◌≡◌, ◌⊎◌, ℕ, ◌<◌, ◌≤◌, true, false, List, Ok}
use Rattle.ds_base.specs.declared.names.PageId.{PageId}
use Rattle.ds_disk.specs.Contents.{Contents}
use Rattle.ds_disk.specs.Pages.{page_at}
use Rattle.page_format.specs.Fields.{is_old, renewed}
use Rattle.log_record.specs.declared.log.Log.{Log}
use Rattle.group_restart.specs.declared.calls.State.TheVariants as state
use Rattle.group_restart.specs.declared.stage.Stage.{Stage}
use Rattle.group_restart.specs.declared.stage.Stage.TheVariants as stage
use Rattle.group_restart.specs.Machine.{Restart}
use Rattle.group_restart.specs.Disk.{with_page as with_hand}
use Rattle.group_restart.specs.Renewal.{page_sets, page_of, last_behind}
use Rattle.group_restart.specs.Course.{Next, begin_renewal, next_ending, take_done}
use Rattle.sound_disk.specs.Versions.{last_images}
use Rattle.sound_restarts.specs.Redo.{IsSoundNow, with_page, IsLast}
use Rattle.sound_restarts.specs.Undo.{AreLast}

-- ---- what header pages count

-- the last page of the set, by its header page as all records leave it
abbrev pub Counts : List Log → ℕ → ℕ → Type 0
Counts logs set last = last_behind 0 (page_of set 0) (last_images logs (page_of set 0)) ≡ Ok last

-- the page belongs to a table, and the header page of its set counts it
pub record IsCounted (logs : List Log) (id : PageId) : Type 0 where
  pub set_from : 1 ≤ id.set
  pub set_to : id.set ≤ page_sets
  pub last : ℕ
  pub counts : Counts logs id.set last
  pub within : id.number ≤ last

-- so it is with each page of version 1
abbrev pub OldIsCounted : Type 0
OldIsCounted = (c : Contents) (logs : List Log) (id : PageId) → IsSoundNow c logs → IsLast c logs id → is_old (page_at c.pages id) ≡ true → IsCounted logs id

-- ---- page after page

-- the order in which pages are read
abbrev pub ComesBefore : PageId → PageId → Type 0
ComesBefore a b = (a.set < b.set) ⊎ ((a.set ≡ b.set) × (a.number < b.number))

-- all pages are as all records leave them, and no page before this one is of version 1
pub record IsRenewedTo (id : PageId) (c : Contents) (logs : List Log) : Type 0 where
  pub now : IsSoundNow c logs
  pub last : AreLast c logs
  pub set_from : 1 ≤ id.set
  pub set_to : id.set ≤ page_sets
  pub new : (q : PageId) → ComesBefore q id → is_old (page_at c.pages q) ≡ false

-- the restart knows the last page of the set, and the page isn't behind it
pub record IsWithin (id : PageId) (h : Restart) (logs : List Log) : Type 0 where
  pub counts : Counts logs id.set h.last
  pub within : id.number ≤ h.last

-- a header page is read next, or one that is counted
pub record Looks (id : PageId) (h : Restart) (c : Contents) (logs : List Log) : Type 0 where
  pub to : IsRenewedTo id c logs
  pub known : (id.number ≡ 0) ⊎ IsWithin id h logs

-- a page of version 1 is written next, in the version that is written
pub record Renews (id : PageId) (h : Restart) (c : Contents) (logs : List Log) : Type 0 where
  pub to : IsRenewedTo id c logs
  pub known : IsWithin id h logs
  pub old : is_old (page_at c.pages id) ≡ true
  pub hand_is : h.page ≡ renewed (page_at c.pages id)

-- before the call of this stage
abbrev pub RenewIn : Stage → Restart → Contents → List Log → Type 0
RenewIn stage.ReadLog h c logs = ⊥
RenewIn (stage.CutTail tail) h c logs = ⊥
RenewIn (stage.RedoRead page) h c logs = ⊥
RenewIn (stage.RedoWrite page) h c logs = ⊥
RenewIn (stage.CloseAppend member) h c logs = ⊥
RenewIn (stage.UndoRead page) h c logs = ⊥
RenewIn (stage.UndoAppend member page) h c logs = ⊥
RenewIn (stage.UndoWrite page) h c logs = ⊥
RenewIn (stage.RenewRead page) h c logs = Looks page h c logs
RenewIn (stage.RenewWrite page) h c logs = Renews page h c logs
RenewIn (stage.EndAppend member) h c logs = ⊥
RenewIn stage.End h c logs = ⊥

-- no page of version 1 is left, and the logs get their last records next
pub record HasRenewed (n : Next) (c : Contents) (logs : List Log) : Type 0 where
  pub behind : Restart
  pub goes : n ≡ next_ending behind
  pub now : IsSoundNow c logs
  pub last : AreLast c logs
  pub new : (id : PageId) → is_old (page_at c.pages id) ≡ false

-- the renewal goes on with the next page, or has come to its end
abbrev pub RenewLeads : Next → Contents → List Log → Type 0
RenewLeads n c logs = ((n.1 ≡ state.Going) × RenewIn n.0.stage n.0 c logs) ⊎ HasRenewed n c logs

-- ---- its calls

-- behind all undo, by a restart that looks for pages of version 1 where there is one
abbrev pub RenewalBegins : Type 0
RenewalBegins = (h : Restart) (c : Contents) (logs : List Log) → IsSoundNow c logs → AreLast c logs → ((id : PageId) → is_old (page_at c.pages id) ≡ true → h.renews ≡ true) → RenewLeads (begin_renewal h) c logs

-- the page is read
abbrev pub RenewalReads : Type 0
RenewalReads = (h : Restart) (page : PageId) (c : Contents) (logs : List Log) → RenewIn (stage.RenewRead page) h c logs → RenewLeads (take_done (with_hand h (page_at c.pages page)) (stage.RenewRead page)) c logs

-- the page is written: the disk is sound behind it, and the renewal goes on there
abbrev pub RenewalWrites : Type 0
RenewalWrites = (h : Restart) (page : PageId) (c : Contents) (logs : List Log) → RenewIn (stage.RenewWrite page) h c logs
    → IsSoundNow (with_page c page h.page) logs × RenewLeads (take_done h (stage.RenewWrite page)) (with_page c page h.page) logs
