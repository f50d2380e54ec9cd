-- What replies of the facility tell of a refusal's cause.
use Rattle.std.proofs.Common.{◌≡◌, ℕ, ◌+◌, ◌<◌, ◌≤◌, Bool, true, false, ltb, List, Option, Some, None, Result, Ok, Err, refl, sym, ap, subst, arith}
use Rattle.std.specs.Prelude.{IfSome, slice_get, if◌then◌else◌}
use Rattle.std.proofs.lemmas.Bool.{ltb-false}
use Rattle.ds_base.specs.declared.names.PageId.{PageId}
use Rattle.ds_base.specs.declared.names.TranId.{TranId}
use Rattle.ds_model.specs.declared.lock.Name.{Name}
use Rattle.ds_model.specs.declared.fate.Refusal.TheVariants as refusal
use Rattle.lock_names.specs.declared.mode.Mode.{Mode}
use Rattle.cache_structure.specs.Directory.{bit}
use Rattle.list_structure.specs.declared.query.Cell.{Cell}
use Rattle.list_structure.specs.declared.query.Cell.TheVariants as cell
use Rattle.list_structure.specs.declared.query.CellAnswer.{CellAnswer}
use Rattle.list_structure.specs.declared.query.CellAnswer.TheVariants as answer
use Rattle.list_structure.specs.declared.wait.Wait.{Wait}
use Rattle.list_structure.specs.Askers.{slot_of}
use Rattle.list_structure.specs.Cells.{cells_by}
use Rattle.list_structure.specs.States.{ListsState}
use Rattle.facility.specs.declared.command.Indexes.{Indexes}
use Rattle.facility.specs.declared.command.Reply.{Reply}
use Rattle.facility.specs.declared.command.Reply.TheVariants as reply
use Rattle.facility.specs.Counting.{limit, given, first_stale, draw_reply, drawn, DrawsNumber, DrawsUndo}
use Rattle.facility.specs.CacheCommands.{TestsFrame}
use Rattle.facility.specs.ListCommands.{ReadsCells, ReadsWaits}
use Rattle.facility.specs.LockCommands.{ObtainsLock, GrantsLock, is_about}
use Rattle.facility.specs.States.{Held}
use Rattle.deadlock_cycle.specs.Cycles.{IsCycle}
use Rattle.page_plans.specs.declared.action.Action.TheVariants as action
use Rattle.page_plans.specs.declared.action.Look.{Look}
use Rattle.page_plans.specs.declared.action.Look.TheVariants as look
use Rattle.page_plans.specs.Looks.{look_of}
use Rattle.member_effects.specs.Frames.{full_in, full_by, full_with, full_at}
use Rattle.member_resources.specs.Held as member
use Rattle.refusal_causes.specs.Causes.{IsRetained, HasNoRoom, IsTold, IsDeadlock, IsHeapFull}
use Rattle.refusal_causes.proofs.Effects.{IsEndKnown}
use Rattle.refusal_causes.proofs.Known.{Claim}
use Rattle.refusal_causes.proofs.Settling.{IsRefusalKnown, IsSpaceKnown, AreWaitsKnown}
use Rattle.refusal_causes.proofs.Telling.{IsAnswerKnown, IsCellKnown, AreCellsKnown, cells_known}

-- what is to be known in an event of a member, where the facility holds this and the member that before it
pub record EventKnown (K : Claim) (w : Held) (h : member.Held) (place : ℕ) : Type 0 where
  pub retained : (n : Name) (by : ℕ) → IsRetained w.locks h.marks.member n by → (number : ℕ) → K number (refusal.Retained n by) place
  pub full : (most : ℕ) → HasNoRoom w.locks h.marks.member most → (number : ℕ) → K number (refusal.RecordsFull most) place
  pub ends : (at : ℕ) → at ≡ w.counter → limit ≤ at → (number : ℕ) → K number (refusal.LrsnEnd at) place
  pub cycles : (number : ℕ) (cycle : List TranId) → IsDeadlock w.lists.waits number cycle → K number (refusal.Deadlock cycle) place
  pub space : (table pages : ℕ) → IsHeapFull w h table pages → (number : ℕ) → K number (refusal.SpaceFull table pages) place
  pub held : (n : Name) (by : TranId) (event : ℕ) → IsTold w.lists h.marks.member n (answer.Conflict by) event → (number : ℕ) → K number (refusal.Held n by) event
  pub kept : (n : Name) (by event : ℕ) → IsTold w.lists h.marks.member n (answer.Postponed by) event → (number : ℕ) → K number (refusal.Retained n by) event

-- ---- claims

pub obtain_known : (K : Claim) (w v : Held) (h : member.Held) (m place : ℕ) (n : Name) (mode : Mode) (it : Reply) → EventKnown K w h place → m ≡ h.marks.member → ObtainsLock w m n mode it v → IsRefusalKnown K n it place
obtain_known K w v h m place n mode (reply.Retained by) known e o =
    known.retained n by (subst (λ (k : ℕ). IsRetained w.locks k n by) e (record { wanted = mode; keeps = o.0.0.1 }))
obtain_known K w v h m place n mode (reply.RecordsFull most) known e o =
    known.full most (subst (λ (k : ℕ). HasNoRoom w.locks k most) e (record { name = n; wanted = mode; full = o.0.1; is_most = o.0.2 }))
obtain_known K w v h m place n mode _ known e o = tt

pub grant_known : (K : Claim) (w v : Held) (h : member.Held) (m place slot : ℕ) (n : Name) (mode : Mode) (it : Reply) → EventKnown K w h place → m ≡ h.marks.member → GrantsLock w m slot n mode it v → IsRefusalKnown K n it place
grant_known K w v h m place slot n mode (reply.Retained by) known e o =
    known.retained n by (subst (λ (k : ℕ). IsRetained w.locks k n by) e (record { wanted = mode; keeps = o.0.0.1 }))
grant_known K w v h m place slot n mode (reply.RecordsFull most) known e o =
    known.full most (subst (λ (k : ℕ). HasNoRoom w.locks k most) e (record { name = n; wanted = mode; full = o.0.1; is_most = o.0.2 }))
grant_known K w v h m place slot n mode _ known e o = tt

-- ---- numbers

ends_at : (K : Claim) (w : Held) (h : member.Held) (place : ℕ) → EventKnown K w h place → (c : Bool) → ltb w.counter limit ≡ c → IsEndKnown K (if c then reply.Drawn (w.counter + 1) else reply.LrsnEnd w.counter) place
ends_at K w h place known true e = tt
ends_at K w h place known false e = known.ends w.counter refl (ltb-false w.counter limit e)

draw_ends : (K : Claim) (w : Held) (h : member.Held) (place : ℕ) → EventKnown K w h place → (stale : Option ℕ) → IsEndKnown K (draw_reply stale w.counter) place
draw_ends K w h place known None = ends_at K w h place known (ltb w.counter limit) refl
draw_ends K w h place known (Some index) = tt

pub draw_known : (K : Claim) (w v : Held) (h : member.Held) (m place : ℕ) (indexes : Indexes) (it : Reply) → EventKnown K w h place → DrawsNumber w m indexes it v → IsEndKnown K it place
draw_known K w v h m place indexes it known d =
    subst (λ (r : Reply). IsEndKnown K r place) (sym d.0) (draw_ends K w h place known (first_stale w.directory m (given indexes)))

back_ends : (K : Claim) (counter place : ℕ) (stale : Option ℕ) → IsEndKnown K (drawn stale counter) place
back_ends K counter place None = tt
back_ends K counter place (Some index) = tt

pub draw_back_known : (K : Claim) (w v : Held) (m place : ℕ) (indexes : Indexes) (it : Reply) → DrawsUndo w m indexes it v → IsEndKnown K it place
draw_back_known K w v m place indexes it d =
    subst (λ (r : Reply). IsEndKnown K r place) (sym d.0) (back_ends K w.counter place (first_stale w.directory m (given indexes)))

-- ---- cells and waits

in_cell : (K : Claim) (w : Held) (h : member.Held) (place slot at : ℕ) (n : Name) (m : Mode) → EventKnown K w h place → (c : Cell) → slice_get (cells_by w.lists.cells (slot_of h.marks.member slot)) at ≡ Some c → IsCellKnown K n m c
in_cell K w h place slot at n m known cell.Empty is = tt
in_cell K w h place slot at n m known (cell.Asked asked asked_mode) is = tt
in_cell K w h place slot at n m known (cell.Answered asked asked_mode answer.Clean version event) is = λ about. tt
in_cell K w h place slot at n m known (cell.Answered asked asked_mode (answer.Conflict by) version event) is =
    λ about. known.held n by event (record { slot = slot; at = at; wanted = m; asked = asked; asked_mode = asked_mode; version = version; stands = is; about = about })
in_cell K w h place slot at n m known (cell.Answered asked asked_mode (answer.Postponed by) version event) is =
    λ about. known.kept n by event (record { slot = slot; at = at; wanted = m; asked = asked; asked_mode = asked_mode; version = version; stands = is; about = about })

pub read_cells_known : (K : Claim) (w v : Held) (h : member.Held) (m place slot : ℕ) (n : Name) (mode : Mode) (it : Reply) → EventKnown K w h place → m ≡ h.marks.member → ReadsCells w it v → AreCellsKnown K n mode (cells_by v.lists.cells (slot_of m slot))
read_cells_known K w v h m place slot n mode it known e r =
    let here = cells_known K n mode (cells_by w.lists.cells (slot_of h.marks.member slot)) (λ at c is. in_cell K w h place slot at n mode known c is) in
    let there = subst (λ (k : ℕ). AreCellsKnown K n mode (cells_by w.lists.cells (slot_of k slot))) (sym e) here in
    subst (λ (u : Held). AreCellsKnown K n mode (cells_by u.lists.cells (slot_of m slot))) (sym r.1) there

pub read_waits_known : (K : Claim) (w v : Held) (h : member.Held) (place : ℕ) (it : Reply) → EventKnown K w h place → ReadsWaits w it v → AreWaitsKnown K v.lists.waits place
read_waits_known K w v h place it known r =
    subst (λ (u : Held). AreWaitsKnown K u.lists.waits place) (sym r.1) (λ tran cycle is. known.cycles tran.number cycle (record { tran = tran; its = refl; is_cycle = is }))

-- ---- a full heap

-- where the header page in a frame says that the heap is full
abbrev pub IsFullKnown : Claim → member.Held → ℕ → ℕ → ℕ → Type 0
IsFullKnown K h at table place = (bytes : List ℕ) (pages : ℕ) → slice_get h.pages at ≡ Some bytes → look_of (action.GiveSlot table 0 0) h.limit 0 None bytes ≡ look.Full pages → (number : ℕ) → K number (refusal.SpaceFull table pages) place

by_look : (K : Claim) (h : member.Held) (at table place : ℕ) (bytes : List ℕ) → IsFullKnown K h at table place → slice_get h.pages at ≡ Some bytes → (l : Look) → look_of (action.GiveSlot table 0 0) h.limit 0 None bytes ≡ l → IsSpaceKnown K (full_with table (full_in l)) place
by_look K h at table place bytes known is (look.Full pages) e = known bytes pages is e
by_look K h at table place bytes known is _ e = tt

by_page : (K : Claim) (h : member.Held) (at table place : ℕ) → IsFullKnown K h at table place → (page : Option (List ℕ)) → slice_get h.pages at ≡ page → IsSpaceKnown K (full_with table (full_by table h.limit page)) place
by_page K h at table place known None is = tt
by_page K h at table place known (Some bytes) is = by_look K h at table place bytes known is (look_of (action.GiveSlot table 0 0) h.limit 0 None bytes) refl

pub full_known : (K : Claim) (h : member.Held) (at place : ℕ) (gives : Option ℕ) → ((table : ℕ) → gives ≡ Some table → IsFullKnown K h at table place) → IsSpaceKnown K (full_at h.pages at gives h.limit) place
full_known K h at place None known = tt
full_known K h at place (Some table) known = by_page K h at table place (known table refl) (slice_get h.pages at) refl

valid_bit_of : (b : Bool) → reply.Valid ≡ (if b then reply.Valid else reply.Invalid) → b ≡ true
valid_bit_of true e = refl
valid_bit_of false e = cc

-- the copy in a frame that is told to be valid is valid
pub valid_bit : (w v : Held) (m at : ℕ) → TestsFrame w m at reply.Valid v → bit w.directory m at ≡ true
valid_bit w v m at t = valid_bit_of (bit w.directory m at) t.0
