-- Each intent that passes its tests is lawful.
use Rattle.std.proofs.Common.{◌≡◌, ℕ, Bool, true, false, not, ◌||◌, if◌then◌else◌, List, Option, Some, None, Ok, Err, refl, sym}
use Rattle.ds_base.specs.declared.names.PageId.{PageId}
use Rattle.ds_base.specs.declared.names.Place.{Place}
use Rattle.ds_model.specs.declared.lock.Name.{Name}
use Rattle.ds_model.specs.declared.lock.Name.TheVariants as name
use Rattle.lock_names.specs.declared.mode.Mode.{Mode}
use Rattle.lock_names.specs.declared.mode.Interest.{Interest}
use Rattle.page_plans.specs.declared.action.Action.{Action}
use Rattle.page_plans.specs.declared.action.Action.TheVariants as action
use Rattle.page_plans.specs.Names.{action_page}
use Rattle.facility.specs.declared.command.Command.{Command}
use Rattle.member_intents.specs.declared.intent.Frames.{Frames}
use Rattle.member_intents.specs.declared.intent.Intent.TheVariants as intent
use Rattle.member_intents.specs.declared.outcome.Sent.{Sent}
use Rattle.member_intents.specs.declared.outcome.Sent.TheVariants as sent
use Rattle.member_intents.specs.declared.test.Test.TheVariants.{NotWritten}
use Rattle.member_trans.specs.declared.fate.Change.{Change}
use Rattle.member_trans.specs.declared.fate.Owner.{Owner}
use Rattle.member_trans.specs.declared.fate.Owner.TheVariants as owner
use Rattle.member_trans.specs.Trans.{is_undoing, was_postponed, newest_of}
use Rattle.member_marks.specs.State.{MarksState, tran_of}
use Rattle.member_marks.specs.Claims.{is_for_agents, releasing, releasing_page}
use Rattle.member_marks.specs.Frames.{frame_in}
use Rattle.member_needs.specs.declared.castout.Cast.{Cast}
use Rattle.member_needs.specs.declared.needs.Setting.{Setting}
use Rattle.member_needs.specs.Tested.{Tested, passed, sends}
use Rattle.member_needs.specs.Locks.{slot_test, agent_test, page_test, claim_test}
use Rattle.member_needs.specs.Closing.{over_test, gives_up, end_test, ends, purge_need, gives_up_page, is_page_changed}
use Rattle.member_needs.specs.Waits.{tran_test}
use Rattle.member_needs.specs.Frames.{reads, reads_page, header_test, gives_test, tests, writes, unregisters}
use Rattle.member_needs.specs.Records.{row_test, action_test, frame_of, place_by, holds_test, nth_test, frames_test, forward_test, change_need, undoes, undo_need, commit_need, append_need}
use Rattle.member_needs.specs.Castout.{done, cast_need, done_need}
use Rattle.needs_law.specs.Lawful.{SlotClaims, AgentClaims, MemberClaims, MayClaimAs, MayClaim, MayClose, Releases, MayEnd, EndsTran, Purges, ReleasesPage, page_of, ReadsFrame, FillsFrame, IsHeader, MayGive, TestsFrame, WritesFrame, FreesFrame, MayChangeRow, MayChange, HoldsPage, HoldsNth, HoldsPages, MayDraw, Changes, Undoes, Commits, Appends, WritesCast, EndsCast, Asks, SendsLawfully}
use Rattle.needs_law.proofs.Tests.{when_ok, after_ok, ok_out, not_true, nonzero, is_zero}

-- ---- what is sent behind a test

asks : (P : Type 0) (tested : Tested) (c : Command) (out : Sent) → (tested ≡ passed → P) → sends tested (sent.Command c) ≡ Ok out → Asks P c out
asks P tested c out f e = let h = after_ok tested (Ok (sent.Command c)) out e in record { lawful = f h.0; is = ok_out _ _ h.1 }

-- ---- claims

slot_claims : (s : MarksState) (slot : ℕ) (n : Name) (m : Mode) → slot_test s slot n m ≡ passed → SlotClaims s slot n m
slot_claims s slot n m e =
    let a = when_ok _ _ _ e in
    let b = when_ok _ _ _ a.1 in
    record { forward = a.0; joined = b.0 }

agent_claims : (s : MarksState) (o : Owner) (n : Name) (m : Mode) → agent_test s o n m ≡ passed → AgentClaims s o n m
agent_claims s (owner.Slot slot) n m e = slot_claims s slot n m e
agent_claims s (owner.Rollback id) n m e = cc

member_claims : (s : MarksState) (n : Name) (m : Mode) → page_test s n m ≡ passed → MemberClaims s n m
member_claims s (name.Page page) m e =
    let a = when_ok _ _ _ e in
    let b = when_ok _ _ _ a.1 in
    record { in_x = a.0; room = b.0 }
member_claims s (name.Space table) m e = cc
member_claims s (name.Row table key) m e = cc
member_claims s (name.Set n) m e = cc

may_claim_as : (agents : Bool) (s : MarksState) (o : Owner) (n : Name) (m : Mode) → (if agents then agent_test s o n m else page_test s n m) ≡ passed → MayClaimAs agents s o n m
may_claim_as true s o n m e = agent_claims s o n m e
may_claim_as false s o n m e = member_claims s n m e

may_claim : (s : MarksState) (o : Owner) (n : Name) (m : Mode) → claim_test s o n m ≡ passed → MayClaim s o n m
may_claim s o n m e = may_claim_as (is_for_agents n) s o n m e

-- ---- ends

may_close : (s : MarksState) (o : Owner) → over_test s o ≡ passed → MayClose s o
may_close s o e =
    let a = when_ok _ _ _ e in
    let b = when_ok _ _ _ a.1 in
    record { over = a.0; clean = b.0 }

releases : (s : MarksState) (o : Owner) (next : Option (Name × Interest)) (out : Sent) → releasing s o ≡ next → over_test s o ≡ passed → gives_up next ≡ Ok out → Releases s o out
releases s o None out is over e = cc
releases s o (Some x) out is over e = record { told = x; may = may_close s o over; next = is; is = ok_out _ _ e }

may_end : (postponed : Bool) (s : MarksState) (o : Owner) → (if postponed then passed else over_test s o) ≡ passed → MayEnd postponed s o
may_end true s o e = tt
may_end false s o e = may_close s o e

ends_tran : (s : MarksState) (o : Owner) (next : Option (Name × Interest)) (out : Sent) → releasing s o ≡ next → end_test s o ≡ passed → ends s o next ≡ Ok out → EndsTran s o out
ends_tran s o None out is over e = record { may = may_end (was_postponed (tran_of s o).stage) s o over; none = is; is = ok_out _ _ e }
ends_tran s o (Some x) out is over e = cc

purges : (s : MarksState) (n : Name) (out : Sent) → purge_need s n ≡ Ok out → Purges s n out
purges s n out e =
    let a = after_ok _ _ _ e in
    let b = when_ok _ _ _ a.0 in
    let c = when_ok _ _ _ b.1 in
    record { unclaimed = not_true _ b.0; kept = c.0; is = ok_out _ _ a.1 }

releases_page : (s : MarksState) (page : PageId) (next : Option (Name × Interest)) (out : Sent) → releasing_page s page ≡ next → gives_up_page (is_page_changed s page) next ≡ Ok out → ReleasesPage s page out
releases_page s page None out is e = cc
releases_page s page (Some x) out is e =
    let a = after_ok _ _ _ e in
    let b = when_ok _ _ _ a.0 in
    record { told = x; next = is; unchanged = not_true _ b.0; is = ok_out _ _ a.1 }

-- ---- frames

reads_frame : (s : MarksState) (at : ℕ) (page : Option PageId) (out : Sent) → page_of s at ≡ page → reads at page ≡ Ok out → ReadsFrame s at out
reads_frame s at None out is e = cc
reads_frame s at (Some page) out is e = record { page = page; placed = is; is = ok_out _ _ e }

fills_frame : (s : MarksState) (at : ℕ) (page : Option PageId) (out : Sent) → page_of s at ≡ page → reads_page (frame_in s.heads at) page ≡ Ok out → FillsFrame s at out
fills_frame s at None out is e = cc
fills_frame s at (Some page) out is e =
    let a = after_ok _ _ _ e in
    let b = when_ok _ _ _ a.0 in
    let c = when_ok _ _ _ b.1 in
    record { page = page; placed = is; registered = b.0; unfilled = not_true _ c.0; is = ok_out _ _ a.1 }

is_header : (s : MarksState) (page : PageId) (slot table : ℕ) → header_test s page slot table ≡ passed → IsHeader s page slot table
is_header s page slot table e =
    let a = when_ok _ _ _ e in
    let b = when_ok _ _ _ a.1 in
    let c = when_ok _ _ _ b.1 in
    record { forward = a.0; header = b.0; claimed = c.0 }

may_give : (s : MarksState) (page : PageId) (slot : ℕ) (gives : Option ℕ) → gives_test s page slot gives ≡ passed → MayGive s page slot gives
may_give s page slot None e = tt
may_give s page slot (Some table) e = is_header s page slot table e

tests_frame : (s : MarksState) (at slot : ℕ) (gives : Option ℕ) (page : Option PageId) (out : Sent) → page_of s at ≡ page → tests s at slot gives page ≡ Ok out → TestsFrame s at slot gives out
tests_frame s at slot gives None out is e = cc
tests_frame s at slot gives (Some page) out is e =
    let a = after_ok _ _ _ e in
    let b = when_ok _ _ _ a.0 in
    record { page = page; placed = is; filled = b.0; may = may_give s page slot gives b.1; is = ok_out _ _ a.1 }

writes_frame : (s : MarksState) (pages : List (List ℕ)) (at : ℕ) (page : Option PageId) (out : Sent) → page_of s at ≡ page → writes s pages at page ≡ Ok out → WritesFrame s pages at out
writes_frame s pages at None out is e = cc
writes_frame s pages at (Some page) out is e =
    let a = after_ok _ _ _ e in
    let b = when_ok _ _ _ a.0 in
    let c = when_ok _ _ _ b.1 in
    let d = when_ok _ _ _ c.1 in
    record { page = page; placed = is; changed = b.0; stable = c.0; first = d.0; is = ok_out _ _ a.1 }

frees_frame : (s : MarksState) (at : ℕ) (page : Option PageId) (out : Sent) → page_of s at ≡ page → unregisters s at page ≡ Ok out → FreesFrame s at out
frees_frame s at None out is e = cc
frees_frame s at (Some page) out is e =
    let a = after_ok _ _ _ e in
    let b = when_ok _ _ _ a.0 in
    let c = when_ok _ _ _ b.1 in
    let d = when_ok _ _ _ c.1 in
    record { page = page; placed = is; unchanged = not_true _ b.0; unpinned = is_zero _ c.0; unclaimed = not_true _ d.0; is = ok_out _ _ a.1 }

-- ---- changes

may_change_row : (s : MarksState) (o : Owner) (table key : ℕ) → row_test s o table key ≡ passed → MayChangeRow s o table key
may_change_row s o table key e =
    let a = when_ok _ _ _ e in
    let b = when_ok _ _ _ a.1 in
    record { row = a.0; space = b.0 }

may_change : (s : MarksState) (slot : ℕ) (a : Action) → action_test s slot a ≡ passed → MayChange s slot a
may_change s slot (action.RowChange table key place value) e = may_change_row s (owner.Slot slot) table key e
may_change s slot (action.GiveSlot table key leaf) e = may_change_row s (owner.Slot slot) table key e
may_change s slot (action.FormatIndex table) e = tt
may_change s slot (action.FormatHeap table) e = tt
may_change s slot (action.Split table left) e = tt
may_change s slot (action.BranchEntry table branch low child) e = tt

holds_page : (s : MarksState) (at : ℕ) (page : PageId) (own : Option PageId) → page_of s at ≡ own → holds_test s (frame_in s.heads at) page own ≡ passed → HoldsPage s at page
holds_page s at page None is e = cc
holds_page s at page (Some own) is e =
    let a = when_ok _ _ _ e in
    let b = when_ok _ _ _ a.1 in
    let c = when_ok _ _ _ b.1 in
    record { own = own; placed = is; same = a.0; claimed = b.0; filled = c.0 }

holds_nth : (s : MarksState) (at : Option ℕ) (page : Option PageId) → nth_test s at page ≡ passed → HoldsNth s at page
holds_nth s None None e = tt
holds_nth s None (Some page) e = cc
holds_nth s (Some at) None e = cc
holds_nth s (Some at) (Some page) e = holds_page s at page (page_of s at) refl e

holds_pages : (s : MarksState) (a : Action) (frames : Frames) (place : Option Place) → frames_test s a frames place ≡ passed → HoldsPages s a frames place
holds_pages s a frames place e =
    let some = when_ok _ _ _ e in
    let first = after_ok _ _ _ some.1 in
    let second = after_ok _ _ _ first.1 in
    record {
      some = nonzero _ some.0;
      first = holds_nth s (frame_of frames 0) (action_page a 0 place) first.0;
      second = holds_nth s (frame_of frames 1) (action_page a 1 place) second.0;
      third = holds_nth s (frame_of frames 2) (action_page a 2 place) second.1;
    }

may_draw : (s : MarksState) (slot : ℕ) → forward_test s slot ≡ passed → MayDraw s slot
may_draw s slot e =
    let a = when_ok _ _ _ e in
    let b = when_ok _ _ _ a.1 in
    record { forward = a.0; below = not_true _ b.0 }

changes : (s : MarksState) (pages : List (List ℕ)) (most slot : ℕ) (a : Action) (frames : Frames) (out : Sent) → change_need s pages most slot a frames ≡ Ok out → Changes s pages most slot a frames out
changes s pages most slot a frames out e =
    let forward = after_ok _ _ _ e in
    let row = after_ok _ _ _ forward.1 in
    let held = after_ok _ _ _ row.1 in
    record {
      may = may_draw s slot forward.0;
      row = may_change s slot a row.0;
      holds = holds_pages s a frames (place_by pages most a frames) held.0;
      is = ok_out _ _ held.1;
    }

undoes_newest : (s : MarksState) (o : Owner) (at : ℕ) (newest : Option Change) (out : Sent) → newest_of (tran_of s o) ≡ newest → is_undoing (tran_of s o).stage ≡ true → undoes s o at newest ≡ Ok out → Undoes s o at out
undoes_newest s o at None out is undoing e = cc
undoes_newest s o at (Some it) out is undoing e =
    let held = after_ok _ _ _ e in
    let row = after_ok _ _ _ held.1 in
    let last = after_ok _ _ _ row.1 in
    let below = when_ok _ _ _ last.0 in
    let room = when_ok _ _ _ below.1 in
    record {
      newest = it;
      undoing = undoing;
      stands = is;
      holds = holds_page s at _ (page_of s at) refl held.0;
      row = may_change_row s o _ _ row.0;
      below = not_true _ below.0;
      room = room.0;
      is = ok_out _ _ last.1;
    }

undoes_change : (s : MarksState) (o : Owner) (at : ℕ) (out : Sent) → undo_need s o at ≡ Ok out → Undoes s o at out
undoes_change s o at out e =
    let a = after_ok _ _ _ e in
    undoes_newest s o at (newest_of (tran_of s o)) out refl (when_ok _ _ _ a.0).0 a.1

commits : (s : MarksState) (slot : ℕ) (out : Sent) → commit_need s slot ≡ Ok out → Commits s slot out
commits s slot out e =
    let a = after_ok _ _ _ e in
    let b = after_ok _ _ _ a.0 in
    record { may = may_draw s slot b.0; room = (when_ok _ _ _ b.1).0; is = ok_out _ _ a.1 }

appends : (s : MarksState) (out : Sent) → append_need s ≡ Ok out → Appends s out
appends s out e =
    let a = after_ok _ _ _ e in
    record { pending = not_true _ (when_ok _ _ _ a.0).0; is = ok_out _ _ a.1 }

-- ---- castout

writes_cast_as : (c : Setting) (page : PageId) (written : Bool) (out : Sent) → c.cast ≡ Some (record { page = page; is_written = written }) → cast_need (Some (record { page = page; is_written = written })) c.is_holder ≡ Ok out → WritesCast c out
writes_cast_as c page true out is e = cc
writes_cast_as c page false out is e = record { cast = record { page = page; is_written = false }; taken = is; unwritten = refl; is = ok_out _ _ e }

writes_cast : (c : Setting) (cast : Option Cast) (out : Sent) → c.cast ≡ cast → cast_need cast c.is_holder ≡ Ok out → WritesCast c out
writes_cast c None out is e = cc
writes_cast c (Some cast) out is e = writes_cast_as c cast.page cast.is_written out is e

ends_cast_as : (c : Setting) (cast : Cast) (written holder : Bool) (out : Sent) → c.cast ≡ Some cast → (written || not holder) ≡ (cast.is_written || not c.is_holder) → (if not written then (if holder then Err NotWritten else Ok (done cast.page)) else Ok (done cast.page)) ≡ Ok out → EndsCast c out
ends_cast_as c cast true holder out is same e = record { cast = cast; taken = is; ends = sym same; is = ok_out _ _ e }
ends_cast_as c cast false false out is same e = record { cast = cast; taken = is; ends = sym same; is = ok_out _ _ e }
ends_cast_as c cast false true out is same e = cc

ends_cast : (c : Setting) (cast : Option Cast) (out : Sent) → c.cast ≡ cast → done_need cast c.is_holder ≡ Ok out → EndsCast c out
ends_cast c None out is e = cc
ends_cast c (Some cast) out is e = ends_cast_as c cast cast.is_written c.is_holder out is refl e

-- ---- all intents

pub lawful : SendsLawfully
lawful s pages c intent.Step out e = ok_out _ _ e
lawful s pages c (intent.Obtain o n m) out e = asks _ (claim_test s o n m) _ out (may_claim s o n m) e
lawful s pages c (intent.Grant o n m) out e = asks _ (claim_test s o n m) _ out (may_claim s o n m) e
lawful s pages c (intent.Ask o to n m) out e = ok_out _ _ e
lawful s pages c (intent.Answers o n m asked) out e = ok_out _ _ e
lawful s pages c (intent.Status member) out e = ok_out _ _ e
lawful s pages c (intent.Take past) out e = ok_out _ _ e
lawful s pages c (intent.Answer asker n m) out e = asks _ _ _ out (λ h. not_true _ (when_ok _ _ _ h).0) e
lawful s pages c (intent.ReleaseLock o) out e = let a = after_ok _ _ _ e in releases s o (releasing s o) out refl a.0 a.1
lawful s pages c (intent.ReleasePage page) out e = releases_page s page (releasing_page s page) out refl e
lawful s pages c (intent.Purge n) out e = purges s n out e
lawful s pages c (intent.End o) out e = let a = after_ok _ _ _ e in ends_tran s o (releasing s o) out refl a.0 a.1
lawful s pages c (intent.Wait slot holder flag) out e = asks _ (tran_test s slot) _ out (λ h. nonzero _ (when_ok _ _ _ h).0) e
lawful s pages c (intent.Unwait slot) out e = asks _ (tran_test s slot) _ out (λ h. nonzero _ (when_ok _ _ _ h).0) e
lawful s pages c (intent.Waits slots) out e = ok_out _ _ e
lawful s pages c (intent.Flag flag) out e = ok_out _ _ e
lawful s pages c (intent.Raise flag) out e = ok_out _ _ e
lawful s pages c intent.LoseCache out e = ok_out _ _ e
lawful s pages c (intent.Read frame) out e = reads_frame s frame (page_of s frame) out refl e
lawful s pages c (intent.ReadPage frame) out e = fills_frame s frame (page_of s frame) out refl e
lawful s pages c (intent.Test frame slot gives) out e = tests_frame s frame slot gives (page_of s frame) out refl e
lawful s pages c (intent.WritePage frame) out e = writes_frame s pages frame (page_of s frame) out refl e
lawful s pages c (intent.Unregister frame) out e = frees_frame s frame (page_of s frame) out refl e
lawful s pages c (intent.Change slot action frames) out e = changes s pages c.limit slot action frames out e
lawful s pages c (intent.Undo o frame) out e = undoes_change s o frame out e
lawful s pages c (intent.Commit slot) out e = commits s slot out e
lawful s pages c intent.Append out e = appends s out e
lawful s pages c (intent.NextChanged past) out e = ok_out _ _ e
lawful s pages c (intent.CastoutRead page) out e = ok_out _ _ e
lawful s pages c intent.CastoutWrite out e = writes_cast c c.cast out refl e
lawful s pages c intent.CastoutDone out e = ends_cast c c.cast out refl e
lawful s pages c intent.PhaseDone out e = ok_out _ _ e
