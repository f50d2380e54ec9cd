-- Where the redo of a group restart leads on a sound disk.
use Rattle.std.specs.Prelude.{◌≡◌, ◌⊎◌, ℕ, ◌≤◌, Bool, true, false, if◌then◌else◌, List, [], ◌∷◌, map, Ok}
use Rattle.std.specs.FinMap as finite
use Rattle.std.specs.List.{list_any, AllByRecursion}
use Rattle.ds_base.specs.Ids.{IsLrsn}
use Rattle.ds_base.specs.declared.names.PageId.{PageId}
use Rattle.ds_disk.specs.Contents.{Contents}
use Rattle.ds_disk.specs.Pages.{page_at}
use Rattle.page_format.specs.Fields.{lrsn_of, is_old, renewed}
use Rattle.log_record.specs.declared.log.Log.{Log}
use Rattle.log_trans.specs.Numbers.{greatest}
use Rattle.log_merge.specs.Merging.{all_records}
use Rattle.page_redo.specs.Forward.{Forward, brought_forward}
use Rattle.page_redo.specs.Pages.{has_page}
use Rattle.page_records.specs.declared.places.PageRecords.{PageRecords}
use Rattle.page_records.specs.Places.{by_page}
use Rattle.page_versions.specs.Own.{places_at, Rise}
use Rattle.restart_plan.specs.declared.plan.Plan.{Plan}
use Rattle.restart_plan.specs.Plans.{plan_of}
use Rattle.restart_plan.specs.Renewal.{must_renew}
use Rattle.page_chain.specs.Chains.{touches}
use Rattle.group_restart.specs.declared.calls.State.TheVariants as state
use Rattle.group_restart.specs.declared.stage.Stage.{Stage}
use Rattle.group_restart.specs.declared.stage.Stage.TheVariants as stage
use Rattle.group_restart.specs.Machine.{Restart}
use Rattle.group_restart.specs.Disk.{with_page as with_hand}
use Rattle.group_restart.specs.Course.{Next, begin_undo, next_redo, take_done}
use Rattle.sound_disk.specs.Versions.{merged, current, last_images, MayStand}
use Rattle.sound_disk.specs.Sound.{IsSoundWith}

-- ---- the disk

-- the number of each page of version 1 is one: it has the bytes of a page
abbrev pub OldAreNumbered : Contents → Type 0
OldAreNumbered c = (id : PageId) → is_old (page_at c.pages id) ≡ true → IsLrsn (lrsn_of (page_at c.pages id))

pub record IsSoundNow (c : Contents) (logs : List Log) : Type 0 where
  pub sound : IsSoundWith c logs
  pub numbered : OldAreNumbered c

abbrev pub with_page : Contents → PageId → List ℕ → Contents
with_page c id page = record c { pages = finite.insert c.pages id page }

-- the page of the disk, in the version that is written, is as all records leave it
abbrev pub IsLast : Contents → List Log → PageId → Type 0
IsLast c logs id = current (page_at c.pages id) ≡ last_images logs id

-- ---- writing

-- a page that may stand there, with no lower number than the one that does
abbrev pub WriteKeeps : Type 0
WriteKeeps = (c : Contents) (logs : List Log) (id : PageId) (page : List ℕ) → IsSoundNow c logs → MayStand logs id page → is_old page ≡ false → lrsn_of (page_at c.pages id) ≤ lrsn_of page → IsSoundNow (with_page c id page) logs

-- the page as all records leave it
abbrev pub LastKeeps : Type 0
LastKeeps = (c : Contents) (logs : List Log) (id : PageId) → IsSoundNow c logs → IsSoundNow (with_page c id (last_images logs id)) logs × IsLast (with_page c id (last_images logs id)) logs id

-- a page of version 1 in the version that is written
abbrev pub RenewalKeeps : Type 0
RenewalKeeps = (c : Contents) (logs : List Log) (id : PageId) → IsSoundNow c logs → is_old (page_at c.pages id) ≡ true → IsSoundNow (with_page c id (renewed (page_at c.pages id))) logs

-- ---- bringing forward

-- no field is in the way; where a record was applied, the page is the last version, and else it is as it was
pub record IsBrought (page last : List ℕ) (f : Forward) : Type 0 where
  pub is_raised : Bool
  pub outcome_is : f.outcome ≡ Ok is_raised
  pub page_is : f.page ≡ (if is_raised then last else page)
  pub is_last : current f.page ≡ last

-- by the merged records of all logs
abbrev pub BringsForward : Type 0
BringsForward = (c : Contents) (logs : List Log) (id : PageId) → IsSoundNow c logs → IsBrought (page_at c.pages id) (last_images logs id) (brought_forward id (page_at c.pages id) (merged logs))

-- ---- the plan

-- a plan whose merged records bring each page of the disk forward to its last version, that lists the pages which these change, and has the
-- greatest number of the logs
pub record PlanSuits (p : Plan) (c : Contents) (logs : List Log) : Type 0 where
  pub pages_are : p.pages ≡ by_page p.merged
  pub brings : (id : PageId) → IsBrought (page_at c.pages id) (last_images logs id) (brought_forward id (page_at c.pages id) p.merged)
  pub number : p.greatest.lrsn ≡ greatest (all_records logs)

-- such is the plan of all records
abbrev pub PlanOfAllSuits : Type 0
PlanOfAllSuits = (c : Contents) (logs : List Log) → IsSoundNow c logs → PlanSuits (plan_of logs) c logs

-- ---- page after page

abbrev pub names_of : List PageRecords → List PageId
names_of pages = map (λ (p : PageRecords). p.page) pages

-- what redo leaves of a plan as it is
pub record HasRestOf (p q : Plan) : Type 0 where
  pub ends : q.ends ≡ p.ends
  pub closings : q.closings ≡ p.closings
  pub undo : q.undo ≡ p.undo
  pub endings : q.endings ≡ p.endings
  pub renews : q.renews ≡ p.renews
  pub greatest : q.greatest ≡ p.greatest

-- of the plan nothing is left but these pages: all others are as all records leave them; and pages of version 1 are looked for where the logs ask for it
pub record AreBroughtBut (pages : List PageId) (p : Plan) (h : Restart) (c : Contents) (logs : List Log) : Type 0 where
  pub now : IsSoundNow c logs
  pub last : (id : PageId) → has_page pages id ≡ false → IsLast c logs id
  pub asks : h.renews ≡ must_renew logs
  pub rest : HasRestOf p h.plan

-- these pages are left, each with the places of its records among the merged ones, which bring it forward
pub record Redoes (left : List PageRecords) (p : Plan) (h : Restart) (c : Contents) (logs : List Log) : Type 0 where
  pub brought : AreBroughtBut (names_of left) p h c logs
  pub merged_is : h.plan.merged ≡ p.merged
  pub rise : Rise left
  pub places : AllByRecursion (λ (q : PageRecords). q.places ≡ places_at q.page (by_page p.merged)) left
  pub brings : (id : PageId) → has_page (names_of left) id ≡ true → IsBrought (page_at c.pages id) (last_images logs id) (brought_forward id (page_at c.pages id) p.merged)
  pub number : p.greatest.lrsn ≡ greatest (all_records logs)

-- the page at hand, and those behind it
abbrev pub with_hand_page : PageId → Restart → List PageRecords
with_hand_page id h = record { page = id; places = h.places } ∷ h.plan.pages

-- before the call of this stage
abbrev pub RedoIn : Stage → Plan → Restart → Contents → List Log → Type 0
RedoIn stage.ReadLog p h c logs = ⊥
RedoIn (stage.CutTail tail) p h c logs = ⊥
RedoIn (stage.RedoRead page) p h c logs = Redoes (with_hand_page page h) p h c logs
RedoIn (stage.RedoWrite page) p h c logs = Redoes (with_hand_page page h) p h c logs × (h.page ≡ last_images logs page)
RedoIn (stage.CloseAppend member) p h c logs = ⊥
RedoIn (stage.UndoRead page) p h c logs = ⊥
RedoIn (stage.UndoAppend member page) p h c logs = ⊥
RedoIn (stage.UndoWrite page) p h c logs = ⊥
RedoIn (stage.RenewRead page) p h c logs = ⊥
RedoIn (stage.RenewWrite page) p h c logs = ⊥
RedoIn (stage.EndAppend member) p h c logs = ⊥
RedoIn stage.End p h c logs = ⊥

-- all pages are brought forward, and what is open is undone next
pub record HasRedone (n : Next) (p : Plan) (c : Contents) (logs : List Log) : Type 0 where
  pub behind : Restart
  pub goes : n ≡ begin_undo behind
  pub brought : AreBroughtBut [] p behind c logs

-- redo goes on with the next page, or has come to its end
abbrev pub RedoLeads : Next → Plan → Contents → List Log → Type 0
RedoLeads n p c logs = ((n.1 ≡ state.Going) × RedoIn n.0.stage p n.0 c logs) ⊎ HasRedone n p c logs

-- ---- its calls

-- behind the cuts, with a plan that suits the disk
pub record BeginsRedo (p : Plan) (h : Restart) (c : Contents) (logs : List Log) : Type 0 where
  pub now : IsSoundNow c logs
  pub suits : PlanSuits p c logs
  pub rest : HasRestOf p h.plan
  pub merged_is : h.plan.merged ≡ p.merged
  pub pages_are : h.plan.pages ≡ p.pages
  pub asks : h.renews ≡ must_renew logs

abbrev pub RedoBegins : Type 0
RedoBegins = (p : Plan) (h : Restart) (c : Contents) (logs : List Log) → BeginsRedo p h c logs → RedoLeads (next_redo h) p c logs

-- of the pages that no record changes none is of version 1
abbrev pub NoneOldElsewhere : Type 0
NoneOldElsewhere = (c : Contents) (logs : List Log) (id : PageId) → IsSoundNow c logs → list_any (touches id) (plan_of logs).merged ≡ false → is_old (page_at c.pages id) ≡ false

-- the page is read
abbrev pub RedoReads : Type 0
RedoReads = (p : Plan) (h : Restart) (page : PageId) (c : Contents) (logs : List Log) → RedoIn (stage.RedoRead page) p h c logs
    → RedoLeads (take_done (with_hand h (page_at c.pages page)) (stage.RedoRead page)) p c logs

-- the page is written: the disk is sound behind it, and redo goes on there
abbrev pub RedoWrites : Type 0
RedoWrites = (p : Plan) (h : Restart) (page : PageId) (c : Contents) (logs : List Log) → RedoIn (stage.RedoWrite page) p h c logs
    → IsSoundNow (with_page c page h.page) logs × RedoLeads (take_done h (stage.RedoWrite page)) p (with_page c page h.page) logs
