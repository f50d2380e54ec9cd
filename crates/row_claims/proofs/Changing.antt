-- A row that an event has changed is locked by the transaction that changed it.
use Rattle.std.proofs.Common.{◌≡◌, ℕ, refl, sym, ◌∙◌, ap, subst, Bool, true, false, List, Option, Some, None, Result, Ok, Err}
use Rattle.std.specs.Prelude.{◌≢◌, IfSome, if◌then◌else◌, nat_le}
use Rattle.ds_base.specs.Pages.{heap_page}
use Rattle.ds_base.specs.declared.names.Place.{Place}
use Rattle.ds_model.specs.Rows.{Spot}
use Rattle.ds_model.specs.RecordBytes.{length_of}
use Rattle.ds_model.specs.declared.log.Body.TheVariants as body
use Rattle.ds_model.specs.declared.log.RowChange.{RowChange}
use Rattle.page_format.specs.declared.patch.Patch.{Patch}
use Rattle.page_plans.specs.declared.action.Action.{Action}
use Rattle.page_plans.specs.declared.action.Action.TheVariants as action
use Rattle.page_plans.specs.Plans.{plan_of}
use Rattle.page_plans.specs.Rows.{row_of, row_plan, unless_fault}
use Rattle.page_redo.specs.Rows.{row_fault}
use Rattle.member_intents.specs.declared.intent.Frames.{Frames}
use Rattle.member_intents.specs.declared.intent.Intent.{Intent}
use Rattle.member_intents.specs.declared.intent.Intent.TheVariants as intent
use Rattle.member_intents.specs.declared.outcome.Answered.{Answered}
use Rattle.member_intents.specs.declared.outcome.Sent.{Sent}
use Rattle.member_intents.specs.declared.test.Test.{Test}
use Rattle.member_intents.specs.declared.test.Test.TheVariants.{Moot, NoRoom, OtherPage}
use Rattle.member_log.specs.Buffers.{room_of}
use Rattle.member_marks.specs.State.{MarksState, slot_tran}
use Rattle.member_needs.specs.Needs.{need_of}
use Rattle.member_needs.specs.Plans.{change_plan, intent_plan, row_or_fault, row_with, system_with}
use Rattle.member_needs.specs.Records.{page_of, row_change_bytes}
use Rattle.member_needs.specs.declared.plans.Plan.{Plan}
use Rattle.member_needs.specs.declared.plans.Plan.TheVariants as plan
use Rattle.member_resources.specs.declared.prepared.Prepared.{Prepared}
use Rattle.member_resources.specs.Events.{Happens, World, holder_in}
use Rattle.member_resources.specs.Held.{Held}
use Rattle.member_resources.specs.Prepared.{needed, planned, setting_of}
use Rattle.lock_world.specs.Books.{IsBook}
use Rattle.strict_locking.specs.Given.{SlotsStand}
use Rattle.strict_locking.specs.Keeping.{ChangesLock}
use Rattle.strict_locking.specs.Rows.{HasLocked, row_for}
use Rattle.closing_law.specs.Closing.{ChangedIn}

-- ---- the change that is planned is that of the action's row
abbrev spot_at : ℕ → ℕ → Option Spot
spot_at table key = Some (table, key)

abbrev the_spot : Spot → Option Spot
the_spot spot = Some spot

abbrev just : Plan → Result Plan Test
just p = Ok p

abbrev refused : Test → Result Plan Test
refused test = Err test

err_ok : (t : Test) (p : Plan) → refused t ≡ just p → ⊥
err_ok t p e = cc

same_plan : (p q : Plan) → just p ≡ just q → p ≡ q
same_plan p q e = cc

fault_row : (page : _) (at : ℕ) (c : RowChange) → plan.Fault page at ≡ plan.Row c → ⊥
fault_row page at c e = cc

system_row : (patches : List Patch) (c : RowChange) → plan.System patches ≡ plan.Row c → ⊥
system_row patches c e = cc

same_row : (c d : RowChange) → plan.Row c ≡ plan.Row d → c ≡ d
same_row c d e = cc

row_planned : (table key : ℕ) (place : Place) (d c : RowChange) (o : Option ℕ) → d.table ≡ table → d.key ≡ key → row_or_fault (heap_page table place.page) (unless_fault o d) ≡ plan.Row c → spot_at table key ≡ spot_at c.table c.key
row_planned table key place d c None t k e =
    ap (λ (z : ℕ). spot_at z key) (sym t) ∙ (ap (λ (z : ℕ). spot_at d.table z) (sym k) ∙ ap (λ (z : RowChange). spot_at z.table z.key) (same_row d c e))
row_planned table key place d c (Some at) t k e = absurd (fault_row (heap_page table place.page) at c e)

rows_planned : (s : MarksState) (table key : ℕ) (place : Place) (after page : Option (List ℕ)) (c : RowChange) → row_with s table key place after page ≡ Ok (plan.Row c) → spot_at table key ≡ spot_at c.table c.key
rows_planned s table key place after None c e = absurd (err_ok OtherPage (plan.Row c) e)
rows_planned s table key place after (Some page) c e = by (nat_le row_change_bytes (room_of s.log)) e
  where
    by : (b : Bool) → (if b then Ok (row_or_fault (heap_page table place.page) (row_plan table key place after page)) else Err NoRoom) ≡ Ok (plan.Row c) → spot_at table key ≡ spot_at c.table c.key
    by true q = row_planned table key place (record { table = table; key = key; place = place; before = row_of place.slot page; after = after }) c (row_fault (heap_page table place.page) place.slot key page) refl refl
        (same_plan (row_or_fault (heap_page table place.page) (row_plan table key place after page)) (plan.Row c) q)
    by false q = absurd (err_ok NoRoom (plan.Row c) q)

none_planned : (s : MarksState) (o : Option (List Patch)) (c : RowChange) → system_with s o ≡ Ok (plan.Row c) → ⊥
none_planned s None c e = err_ok Moot (plan.Row c) e
none_planned s (Some patches) c e = by (nat_le (length_of (body.System patches)) (room_of s.log)) e
  where
    by : (b : Bool) → (if b then Ok (plan.System patches) else Err NoRoom) ≡ Ok (plan.Row c) → ⊥
    by true q = system_row patches c (same_plan (plan.System patches) (plan.Row c) q)
    by false q = err_ok NoRoom (plan.Row c) q

action_row : (s : MarksState) (pages : List (List ℕ)) (limit : ℕ) (x : Action) (frames : Frames) (c : RowChange) → change_plan s pages limit x frames ≡ Ok (plan.Row c) → row_for x ≡ spot_at c.table c.key
action_row s pages limit (action.RowChange table key place after) frames c e = rows_planned s table key place after (page_of pages frames 0) c e
action_row s pages limit (action.FormatIndex table) frames c e = absurd (none_planned s (plan_of (action.FormatIndex table) limit (page_of pages frames 0) (page_of pages frames 1) (page_of pages frames 2)) c e)
action_row s pages limit (action.FormatHeap table) frames c e = absurd (none_planned s (plan_of (action.FormatHeap table) limit (page_of pages frames 0) (page_of pages frames 1) (page_of pages frames 2)) c e)
action_row s pages limit (action.GiveSlot table key leaf) frames c e = absurd (none_planned s (plan_of (action.GiveSlot table key leaf) limit (page_of pages frames 0) (page_of pages frames 1) (page_of pages frames 2)) c e)
action_row s pages limit (action.Split table left) frames c e = absurd (none_planned s (plan_of (action.Split table left) limit (page_of pages frames 0) (page_of pages frames 1) (page_of pages frames 2)) c e)
action_row s pages limit (action.BranchEntry table branch low child) frames c e = absurd (none_planned s (plan_of (action.BranchEntry table branch low child) limit (page_of pages frames 0) (page_of pages frames 1) (page_of pages frames 2)) c e)

-- ---- the event that changed it
abbrev plan_in : Result Prepared Test → Result Plan Test
plan_in (Ok x) = Ok x.plan
plan_in (Err test) = Err test

needs_plan : (x : Result Sent Test) (y : Result Plan Test) (s : Sent) (p : Plan) → needed x y ≡ Ok (record { sent = s; plan = p }) → y ≡ Ok p
needs_plan (Err test) y s p e = absurd cc
needs_plan (Ok t) (Err test) s p e = absurd cc
needs_plan (Ok t) (Ok q) s p e = ap plan_in e

same_slot : (slot other : ℕ) (x y : Action) (frames more : Frames) → intent.Change slot x frames ≡ intent.Change other y more → slot ≡ other
same_slot slot other x y frames more e = cc

change_locked : ChangesLock → (w v : World) (h k : Held) (slot : ℕ) (x : Action) (frames : Frames) (place : ℕ) (sent : Sent) (a : Answered) (happens : Happens w h (intent.Change slot x frames) place sent a v k) → IsBook h.marks.locks → SlotsStand h.marks
    → (id : ℕ) (spot : Spot) → id ≢ 0 → ChangedIn (intent.Change slot x frames) happens.plan happens.after.marks id spot → HasLocked k.marks id spot
change_locked law w v h k slot x frames place sent a happens book slots id spot some c =
    let named : (slot_tran happens.after.marks slot).first ≡ id = ap (λ (z : ℕ). (slot_tran happens.after.marks z).first) (same_slot slot c.slot x c.action frames c.frames c.wanted) ∙ c.named in
    let plans : change_plan h.marks h.pages h.limit x frames ≡ Ok (plan.Row c.change) =
    needs_plan (need_of h.marks h.pages (setting_of h (holder_in w.facility h.cast) place) (intent.Change slot x frames)) (change_plan h.marks h.pages h.limit x frames) sent happens.plan happens.lawful ∙ ap (λ (z : Plan). just z) c.planned in
    let row : row_for x ≡ Some spot = action_row h.marks h.pages h.limit x frames c.change plans ∙ ap (λ (z : Spot). the_spot z) c.row in
    subst (λ (z : Option Spot). IfSome z (HasLocked k.marks id)) row (law w v h k slot x frames place sent a book slots happens id some named)

-- whatever was wanted
abbrev is_change : Intent → Bool
is_change intent.Step = false
is_change (intent.Obtain o n m) = false
is_change (intent.Grant o n m) = false
is_change (intent.Ask o to n m) = false
is_change (intent.Answers o n m asked) = false
is_change (intent.Status member) = false
is_change (intent.Take past) = false
is_change (intent.Answer asker n m) = false
is_change (intent.ReleaseLock o) = false
is_change (intent.ReleasePage page) = false
is_change (intent.Purge n) = false
is_change (intent.End o) = false
is_change (intent.Wait slot holder flag) = false
is_change (intent.Unwait slot) = false
is_change (intent.Waits slots) = false
is_change (intent.Flag flag) = false
is_change (intent.Raise flag) = false
is_change intent.LoseCache = false
is_change (intent.Read at) = false
is_change (intent.ReadPage at) = false
is_change (intent.Test at slot gives) = false
is_change (intent.WritePage at) = false
is_change (intent.Unregister at) = false
is_change (intent.Change slot action frames) = true
is_change (intent.Undo o at) = false
is_change (intent.Commit slot) = false
is_change intent.Append = false
is_change (intent.NextChanged past) = false
is_change (intent.CastoutRead page) = false
is_change intent.CastoutWrite = false
is_change intent.CastoutDone = false
is_change intent.PhaseDone = false

no_change : (i : Intent) (slot : ℕ) (x : Action) (frames : Frames) → i ≡ intent.Change slot x frames → is_change i ≡ true
no_change i slot x frames e = ap (λ (z : Intent). is_change z) e

never : false ≡ true → ⊥
never e = cc

pub new_locked : ChangesLock → (w v : World) (h k : Held) (i : Intent) (place : ℕ) (sent : Sent) (a : Answered) (happens : Happens w h i place sent a v k) → IsBook h.marks.locks → SlotsStand h.marks
    → (id : ℕ) (spot : Spot) → id ≢ 0 → ChangedIn i happens.plan happens.after.marks id spot → HasLocked k.marks id spot
new_locked law w v h k intent.Step place sent said happens book stands id spot some c = absurd (never (no_change intent.Step c.slot c.action c.frames c.wanted))
new_locked law w v h k (intent.Obtain by name mode) place sent said happens book stands id spot some c = absurd (never (no_change (intent.Obtain by name mode) c.slot c.action c.frames c.wanted))
new_locked law w v h k (intent.Grant by name mode) place sent said happens book stands id spot some c = absurd (never (no_change (intent.Grant by name mode) c.slot c.action c.frames c.wanted))
new_locked law w v h k (intent.Ask by to name mode) place sent said happens book stands id spot some c = absurd (never (no_change (intent.Ask by to name mode) c.slot c.action c.frames c.wanted))
new_locked law w v h k (intent.Answers by name mode asked) place sent said happens book stands id spot some c = absurd (never (no_change (intent.Answers by name mode asked) c.slot c.action c.frames c.wanted))
new_locked law w v h k (intent.Status member) place sent said happens book stands id spot some c = absurd (never (no_change (intent.Status member) c.slot c.action c.frames c.wanted))
new_locked law w v h k (intent.Take past) place sent said happens book stands id spot some c = absurd (never (no_change (intent.Take past) c.slot c.action c.frames c.wanted))
new_locked law w v h k (intent.Answer asker name mode) place sent said happens book stands id spot some c = absurd (never (no_change (intent.Answer asker name mode) c.slot c.action c.frames c.wanted))
new_locked law w v h k (intent.ReleaseLock o) place sent said happens book stands id spot some c = absurd (never (no_change (intent.ReleaseLock o) c.slot c.action c.frames c.wanted))
new_locked law w v h k (intent.ReleasePage page) place sent said happens book stands id spot some c = absurd (never (no_change (intent.ReleasePage page) c.slot c.action c.frames c.wanted))
new_locked law w v h k (intent.Purge n) place sent said happens book stands id spot some c = absurd (never (no_change (intent.Purge n) c.slot c.action c.frames c.wanted))
new_locked law w v h k (intent.End o) place sent said happens book stands id spot some c = absurd (never (no_change (intent.End o) c.slot c.action c.frames c.wanted))
new_locked law w v h k (intent.Wait slot holder flag) place sent said happens book stands id spot some c = absurd (never (no_change (intent.Wait slot holder flag) c.slot c.action c.frames c.wanted))
new_locked law w v h k (intent.Unwait slot) place sent said happens book stands id spot some c = absurd (never (no_change (intent.Unwait slot) c.slot c.action c.frames c.wanted))
new_locked law w v h k (intent.Waits slots) place sent said happens book stands id spot some c = absurd (never (no_change (intent.Waits slots) c.slot c.action c.frames c.wanted))
new_locked law w v h k (intent.Flag flag) place sent said happens book stands id spot some c = absurd (never (no_change (intent.Flag flag) c.slot c.action c.frames c.wanted))
new_locked law w v h k (intent.Raise flag) place sent said happens book stands id spot some c = absurd (never (no_change (intent.Raise flag) c.slot c.action c.frames c.wanted))
new_locked law w v h k intent.LoseCache place sent said happens book stands id spot some c = absurd (never (no_change intent.LoseCache c.slot c.action c.frames c.wanted))
new_locked law w v h k (intent.Read at) place sent said happens book stands id spot some c = absurd (never (no_change (intent.Read at) c.slot c.action c.frames c.wanted))
new_locked law w v h k (intent.ReadPage at) place sent said happens book stands id spot some c = absurd (never (no_change (intent.ReadPage at) c.slot c.action c.frames c.wanted))
new_locked law w v h k (intent.Test at slot gives) place sent said happens book stands id spot some c = absurd (never (no_change (intent.Test at slot gives) c.slot c.action c.frames c.wanted))
new_locked law w v h k (intent.WritePage at) place sent said happens book stands id spot some c = absurd (never (no_change (intent.WritePage at) c.slot c.action c.frames c.wanted))
new_locked law w v h k (intent.Unregister at) place sent said happens book stands id spot some c = absurd (never (no_change (intent.Unregister at) c.slot c.action c.frames c.wanted))
new_locked law w v h k (intent.Change slot x frames) place sent said happens book stands id spot some c = change_locked law w v h k slot x frames place sent said happens book stands id spot some c
new_locked law w v h k (intent.Undo by at) place sent said happens book stands id spot some c = absurd (never (no_change (intent.Undo by at) c.slot c.action c.frames c.wanted))
new_locked law w v h k (intent.Commit slot) place sent said happens book stands id spot some c = absurd (never (no_change (intent.Commit slot) c.slot c.action c.frames c.wanted))
new_locked law w v h k intent.Append place sent said happens book stands id spot some c = absurd (never (no_change intent.Append c.slot c.action c.frames c.wanted))
new_locked law w v h k (intent.NextChanged past) place sent said happens book stands id spot some c = absurd (never (no_change (intent.NextChanged past) c.slot c.action c.frames c.wanted))
new_locked law w v h k (intent.CastoutRead page) place sent said happens book stands id spot some c = absurd (never (no_change (intent.CastoutRead page) c.slot c.action c.frames c.wanted))
new_locked law w v h k intent.CastoutWrite place sent said happens book stands id spot some c = absurd (never (no_change intent.CastoutWrite c.slot c.action c.frames c.wanted))
new_locked law w v h k intent.CastoutDone place sent said happens book stands id spot some c = absurd (never (no_change intent.CastoutDone c.slot c.action c.frames c.wanted))
new_locked law w v h k intent.PhaseDone place sent said happens book stands id spot some c = absurd (never (no_change intent.PhaseDone c.slot c.action c.frames c.wanted))
