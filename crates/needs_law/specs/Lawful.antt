-- What holds where an intent is lawful: each of its tests, and what is sent.
use Rattle.std.specs.Prelude.{◌≡◌, ◌≢◌, ℕ, ◌==◌, nat_le, Bool, true, false, not, ◌||◌, if◌then◌else◌, List, [], ◌∷◌, length, Option, Some, None, is_none, Ok}
use Rattle.ds_base.specs.declared.names.PageId.{PageId}
use Rattle.ds_base.specs.declared.names.Place.{Place}
use Rattle.ds_model.specs.declared.lock.Name.{Name}
use Rattle.ds_model.specs.declared.lock.Name.TheVariants as name
use Rattle.lock_names.specs.declared.mode.Mode.{Mode}
use Rattle.lock_names.specs.declared.mode.Interest.{Interest}
use Rattle.ds_base.specs.Pages.{same_page, heap_page}
use Rattle.page_plans.specs.declared.action.Action.{Action}
use Rattle.page_plans.specs.declared.action.Action.TheVariants as action
use Rattle.page_plans.specs.Names.{action_page}
use Rattle.facility.specs.declared.command.Command.{Command}
use Rattle.facility.specs.declared.command.Command.TheVariants as command
use Rattle.member_intents.specs.declared.intent.Frames.{Frames}
use Rattle.member_intents.specs.declared.intent.Intent.{Intent}
use Rattle.member_intents.specs.declared.intent.Intent.TheVariants as intent
use Rattle.member_intents.specs.declared.outcome.Sent.{Sent}
use Rattle.member_intents.specs.declared.outcome.Sent.TheVariants as sent
use Rattle.member_intents.specs.Cells.{cell_slot}
use Rattle.member_log.specs.Buffers.{room_of}
use Rattle.member_trans.specs.declared.fate.Change.{Change}
use Rattle.member_trans.specs.declared.fate.Owner.{Owner}
use Rattle.member_trans.specs.declared.fate.Owner.TheVariants as owner
use Rattle.member_trans.specs.Trans.{is_forward, is_undoing, was_postponed, is_over_at, newest_of}
use Rattle.member_marks.specs.Names.{has_name}
use Rattle.member_marks.specs.State.{MarksState, tran_of, slot_tran, slot_id}
use Rattle.member_marks.specs.Claims.{is_for_agents, mode_held, is_claimed, has_page, has_page_room, answer_to, releasing, releasing_page}
use Rattle.member_marks.specs.Frames.{frame_in, to_write}
use Rattle.member_needs.specs.declared.castout.Cast.{Cast}
use Rattle.member_needs.specs.declared.needs.Setting.{Setting}
use Rattle.member_needs.specs.Locks.{is_x, is_joined, is_page_claimed}
use Rattle.member_needs.specs.Closing.{end_sent, is_page_changed}
use Rattle.member_needs.specs.Frames.{is_stable, is_first}
use Rattle.member_needs.specs.Records.{allows_row, allows_space, frame_of, place_by, must_append, indexes_of, change_page, undo_bytes, short_bytes}
use Rattle.member_needs.specs.Castout.{done}
use Rattle.member_needs.specs.Needs.{need_of}

-- ---- claims

pub record SlotClaims (s : MarksState) (slot : ℕ) (n : Name) (m : Mode) : Type 0 where
  pub forward : is_forward (slot_tran s slot).stage ≡ true
  pub joined : is_joined (mode_held s (owner.Slot slot) n) m ≡ true

-- the transactions of slots alone claim table spaces and rows
abbrev pub AgentClaims : MarksState → Owner → Name → Mode → Type 0
AgentClaims s (owner.Slot slot) n m = SlotClaims s slot n m
AgentClaims s (owner.Rollback id) n m = ⊥

pub record PageClaims (s : MarksState) (page : PageId) (m : Mode) : Type 0 where
  pub in_x : is_x m ≡ true
  pub room : (has_page_room s || has_page s page) ≡ true

abbrev pub MemberClaims : MarksState → Name → Mode → Type 0
MemberClaims s (name.Page page) m = PageClaims s page m
MemberClaims s (name.Space table) m = ⊥
MemberClaims s (name.Row table key) m = ⊥
MemberClaims s (name.Set n) m = ⊥

-- the owner itself claims the name where that is one for agents, and else the member does
abbrev pub MayClaimAs : Bool → MarksState → Owner → Name → Mode → Type 0
MayClaimAs true s o n m = AgentClaims s o n m
MayClaimAs false s o n m = MemberClaims s n m

abbrev pub MayClaim : MarksState → Owner → Name → Mode → Type 0
MayClaim s o n m = MayClaimAs (is_for_agents n) s o n m

-- ---- ends

pub record MayClose (s : MarksState) (o : Owner) : Type 0 where
  pub over : is_over_at (tran_of s o) s.log.stable ≡ true
  pub clean : ((tran_of s o).released || is_none (to_write s o)) ≡ true

pub record Releases (s : MarksState) (o : Owner) (out : Sent) : Type 0 where
  pub told : Name × Interest
  pub may : MayClose s o
  pub next : releasing s o ≡ Some told
  pub is : out ≡ sent.Command (command.Release told.0 told.1)

-- a transaction whose rollback was postponed has nothing left
abbrev pub MayEnd : Bool → MarksState → Owner → Type 0
MayEnd true s o = Unit {0}
MayEnd false s o = MayClose s o

pub record EndsTran (s : MarksState) (o : Owner) (out : Sent) : Type 0 where
  pub may : MayEnd (was_postponed (tran_of s o).stage) s o
  pub none : releasing s o ≡ None
  pub is : out ≡ end_sent s o

pub record Purges (s : MarksState) (n : Name) (out : Sent) : Type 0 where
  pub unclaimed : is_claimed s n ≡ false
  pub kept : has_name s.kept n ≡ true
  pub is : out ≡ sent.Command (command.Purge n)

pub record ReleasesPage (s : MarksState) (page : PageId) (out : Sent) : Type 0 where
  pub told : Name × Interest
  pub next : releasing_page s page ≡ Some told
  pub unchanged : is_page_changed s page ≡ false
  pub is : out ≡ sent.Command (command.Release told.0 told.1)

-- ---- frames

abbrev pub page_of : MarksState → ℕ → Option PageId
page_of s at = (frame_in s.heads at).page

pub record ReadsFrame (s : MarksState) (at : ℕ) (out : Sent) : Type 0 where
  pub page : PageId
  pub placed : page_of s at ≡ Some page
  pub is : out ≡ sent.Command (command.Read page at)

pub record FillsFrame (s : MarksState) (at : ℕ) (out : Sent) : Type 0 where
  pub page : PageId
  pub placed : page_of s at ≡ Some page
  pub registered : (frame_in s.heads at).registered ≡ true
  pub unfilled : (frame_in s.heads at).filled ≡ false
  pub is : out ≡ sent.ReadPage page

pub record IsHeader (s : MarksState) (page : PageId) (slot table : ℕ) : Type 0 where
  pub forward : is_forward (slot_tran s slot).stage ≡ true
  pub header : same_page page (heap_page table 0) ≡ true
  pub claimed : has_page s page ≡ true

abbrev pub MayGive : MarksState → PageId → ℕ → Option ℕ → Type 0
MayGive s page slot None = Unit {0}
MayGive s page slot (Some table) = IsHeader s page slot table

pub record TestsFrame (s : MarksState) (at slot : ℕ) (gives : Option ℕ) (out : Sent) : Type 0 where
  pub page : PageId
  pub placed : page_of s at ≡ Some page
  pub filled : (frame_in s.heads at).filled ≡ true
  pub may : MayGive s page slot gives
  pub is : out ≡ sent.Command (command.Test at)

pub record WritesFrame (s : MarksState) (pages : List (List ℕ)) (at : ℕ) (out : Sent) : Type 0 where
  pub page : PageId
  pub placed : page_of s at ≡ Some page
  pub changed : (frame_in s.heads at).changed ≡ true
  pub stable : is_stable s pages at ≡ true
  pub first : is_first s at ≡ true
  pub is : out ≡ sent.Command (command.Write page at)

pub record FreesFrame (s : MarksState) (at : ℕ) (out : Sent) : Type 0 where
  pub page : PageId
  pub placed : page_of s at ≡ Some page
  pub unchanged : (frame_in s.heads at).changed ≡ false
  pub unpinned : (frame_in s.heads at).pins ≡ 0
  pub unclaimed : has_page s page ≡ false
  pub is : out ≡ sent.Command (command.Unregister at)

-- ---- changes

pub record MayChangeRow (s : MarksState) (o : Owner) (table key : ℕ) : Type 0 where
  pub row : allows_row (mode_held s o (name.Row table key)) ≡ true
  pub space : allows_space (mode_held s o (name.Space table)) ≡ true

abbrev pub MayChange : MarksState → ℕ → Action → Type 0
MayChange s slot (action.RowChange table key place value) = MayChangeRow s (owner.Slot slot) table key
MayChange s slot (action.GiveSlot table key leaf) = MayChangeRow s (owner.Slot slot) table key
MayChange s slot (action.FormatIndex table) = Unit {0}
MayChange s slot (action.FormatHeap table) = Unit {0}
MayChange s slot (action.Split table left) = Unit {0}
MayChange s slot (action.BranchEntry table branch low child) = Unit {0}

-- the frame has the page, which is claimed and filled
pub record HoldsPage (s : MarksState) (at : ℕ) (page : PageId) : Type 0 where
  pub own : PageId
  pub placed : page_of s at ≡ Some own
  pub same : same_page own page ≡ true
  pub claimed : has_page s page ≡ true
  pub filled : (frame_in s.heads at).filled ≡ true

abbrev pub HoldsNth : MarksState → Option ℕ → Option PageId → Type 0
HoldsNth s None None = Unit {0}
HoldsNth s None (Some page) = ⊥
HoldsNth s (Some at) None = ⊥
HoldsNth s (Some at) (Some page) = HoldsPage s at page

pub record HoldsPages (s : MarksState) (a : Action) (frames : Frames) (place : Option Place) : Type 0 where
  pub some : frames.count ≢ 0
  pub first : HoldsNth s (frame_of frames 0) (action_page a 0 place)
  pub second : HoldsNth s (frame_of frames 1) (action_page a 1 place)
  pub third : HoldsNth s (frame_of frames 2) (action_page a 2 place)

pub record MayDraw (s : MarksState) (slot : ℕ) : Type 0 where
  pub forward : is_forward (slot_tran s slot).stage ≡ true
  pub below : must_append s ≡ false

pub record Changes (s : MarksState) (pages : List (List ℕ)) (most slot : ℕ) (a : Action) (frames : Frames) (out : Sent) : Type 0 where
  pub may : MayDraw s slot
  pub row : MayChange s slot a
  pub holds : HoldsPages s a frames (place_by pages most a frames)
  pub is : out ≡ sent.Command (command.Draw (indexes_of frames))

pub record Undoes (s : MarksState) (o : Owner) (at : ℕ) (out : Sent) : Type 0 where
  pub newest : Change
  pub undoing : is_undoing (tran_of s o).stage ≡ true
  pub stands : newest_of (tran_of s o) ≡ Some newest
  pub holds : HoldsPage s at (change_page newest.change)
  pub row : MayChangeRow s o newest.change.table newest.change.key
  pub below : must_append s ≡ false
  pub room : nat_le undo_bytes (room_of s.log) ≡ true
  pub is : out ≡ sent.Command (command.DrawUndo (record { count = 1; at = at ∷ 0 ∷ 0 ∷ [] }))

pub record Commits (s : MarksState) (slot : ℕ) (out : Sent) : Type 0 where
  pub may : MayDraw s slot
  pub room : nat_le short_bytes (room_of s.log) ≡ true
  pub is : out ≡ sent.Command (command.Draw (record { count = 0; at = 0 ∷ 0 ∷ 0 ∷ [] }))

pub record Appends (s : MarksState) (out : Sent) : Type 0 where
  pub pending : (length s.log.pending == 0) ≡ false
  pub is : out ≡ sent.AppendLog

-- ---- castout

pub record WritesCast (c : Setting) (out : Sent) : Type 0 where
  pub cast : Cast
  pub taken : c.cast ≡ Some cast
  pub unwritten : cast.is_written ≡ false
  pub is : out ≡ (if c.is_holder then sent.WritePage cast.page else done cast.page)

pub record EndsCast (c : Setting) (out : Sent) : Type 0 where
  pub cast : Cast
  pub taken : c.cast ≡ Some cast
  pub ends : (cast.is_written || not c.is_holder) ≡ true
  pub is : out ≡ done cast.page

-- ---- all intents

pub record Asks (may : Type 0) (c : Command) (out : Sent) : Type 0 where
  pub lawful : may
  pub is : out ≡ sent.Command c

abbrev pub Lawful : MarksState → List (List ℕ) → Setting → Intent → Sent → Type 0
Lawful s pages c intent.Step out = out ≡ sent.None
Lawful s pages c (intent.Obtain o n m) out = Asks (MayClaim s o n m) (command.Obtain n m) out
Lawful s pages c (intent.Grant o n m) out = Asks (MayClaim s o n m) (command.Grant (cell_slot o n) n m) out
Lawful s pages c (intent.Ask o to n m) out = out ≡ sent.Command (command.Ask (cell_slot o n) to n m)
Lawful s pages c (intent.Answers o n m asked) out = out ≡ sent.Command (command.Answers (cell_slot o n))
Lawful s pages c (intent.Status member) out = out ≡ sent.Command (command.Status member)
Lawful s pages c (intent.Take past) out = out ≡ sent.Command (command.Take past)
Lawful s pages c (intent.Answer asker n m) out = Asks (is_page_claimed s n ≡ false) (command.Answer asker n m (answer_to s n m) c.place) out
Lawful s pages c (intent.ReleaseLock o) out = Releases s o out
Lawful s pages c (intent.ReleasePage page) out = ReleasesPage s page out
Lawful s pages c (intent.Purge n) out = Purges s n out
Lawful s pages c (intent.End o) out = EndsTran s o out
Lawful s pages c (intent.Wait slot holder flag) out = Asks ((slot_id s slot).number ≢ 0) (command.Wait (slot_id s slot) holder flag) out
Lawful s pages c (intent.Unwait slot) out = Asks ((slot_id s slot).number ≢ 0) (command.Unwait (slot_id s slot)) out
Lawful s pages c (intent.Waits slots) out = out ≡ sent.Command command.Waits
Lawful s pages c (intent.Flag flag) out = out ≡ sent.Command (command.Flag flag)
Lawful s pages c (intent.Raise flag) out = out ≡ sent.Command (command.Raise flag)
Lawful s pages c intent.LoseCache out = out ≡ sent.Command command.Lose
Lawful s pages c (intent.Read frame) out = ReadsFrame s frame out
Lawful s pages c (intent.ReadPage frame) out = FillsFrame s frame out
Lawful s pages c (intent.Test frame slot gives) out = TestsFrame s frame slot gives out
Lawful s pages c (intent.WritePage frame) out = WritesFrame s pages frame out
Lawful s pages c (intent.Unregister frame) out = FreesFrame s frame out
Lawful s pages c (intent.Change slot action frames) out = Changes s pages c.limit slot action frames out
Lawful s pages c (intent.Undo o frame) out = Undoes s o frame out
Lawful s pages c (intent.Commit slot) out = Commits s slot out
Lawful s pages c intent.Append out = Appends s out
Lawful s pages c (intent.NextChanged past) out = out ≡ sent.Command (command.NextChanged past)
Lawful s pages c (intent.CastoutRead page) out = out ≡ sent.Command (command.CastoutRead page)
Lawful s pages c intent.CastoutWrite out = WritesCast c out
Lawful s pages c intent.CastoutDone out = EndsCast c out
Lawful s pages c intent.PhaseDone out = out ≡ sent.Command command.PhaseDone

-- what is sent was lawful
abbrev pub SendsLawfully : Type 0
SendsLawfully = (s : MarksState) (pages : List (List ℕ)) (c : Setting) (i : Intent) (out : Sent) → need_of s pages c i ≡ Ok out → Lawful s pages c i out
