-- A lawful intent names frames and slots that are there.
use Rattle.std.proofs.Common.{◌≡◌, ◌≢◌, ℕ, zero, suc, ◌+◌, ◌<◌, ◌≤◌, Bool, true, false, if◌then◌else◌, List, [], ◌∷◌, length, Option, Some, None, refl, sym, ap, subst, arith}
use Rattle.std.proofs.Common.{◌∙◌}
use Rattle.std.specs.Prelude.{◌==◌, nat_lt, slice_get, slice_index_or}
use Rattle.std.proofs.lemmas.Bool.{ltb-true, lt-ltb}
use Rattle.ds_base.specs.declared.names.PageId.{PageId}
use Rattle.ds_base.specs.declared.names.Place.{Place}
use Rattle.ds_model.specs.declared.lock.Name.{Name}
use Rattle.ds_model.specs.declared.lock.Name.TheVariants as name
use Rattle.lock_names.specs.declared.mode.Mode.{Mode}
use Rattle.page_plans.specs.declared.action.Action.{Action}
use Rattle.page_plans.specs.Names.{action_page}
use Rattle.facility.specs.declared.command.Command.{Command}
use Rattle.facility.specs.declared.command.Command.TheVariants as command
use Rattle.facility.specs.declared.command.Indexes.{Indexes}
use Rattle.facility.specs.Commands.{CanExecute}
use Rattle.facility.specs.Counting.{AreFrames}
use Rattle.facility.specs.States.{Held}
use Rattle.member_intents.specs.Cells.{cell_slot}
use Rattle.member_intents.specs.declared.intent.Frames.{Frames}
use Rattle.member_intents.specs.declared.intent.Intent.{Intent}
use Rattle.member_intents.specs.declared.intent.Intent.TheVariants as intent
use Rattle.member_intents.specs.declared.outcome.Sent.{Sent}
use Rattle.member_intents.specs.declared.outcome.Sent.TheVariants as sent
use Rattle.member_pool.specs.declared.frame.Frame.{Frame}
use Rattle.member_pool.specs.Frames.{frame_at}
use Rattle.member_trans.specs.declared.fate.Owner.{Owner}
use Rattle.member_trans.specs.declared.fate.Owner.TheVariants as owner
use Rattle.member_trans.specs.Trans.{TranState, free_tran, is_forward}
use Rattle.member_marks.specs.State.{MarksState, tran_of, id_of, slot_id}
use Rattle.member_marks.specs.Claims.{answer_to}
use Rattle.member_needs.specs.Castout.{done}
use Rattle.member_needs.specs.Closing.{end_sent}
use Rattle.member_needs.specs.declared.needs.Setting.{Setting}
use Rattle.member_needs.specs.Records.{frame_of, indexes_of, place_by}
use Rattle.needs_law.specs.Lawful.{Lawful, MayClaim, HoldsNth, HoldsPages, page_of}
use Rattle.needs_law.specs.Executing.{HasRoom, AreThree, IsLeft, LawfulExecute}

-- ---- frames and slots that are there

placed_below : (frames : List Frame) (at : ℕ) (page : PageId) → (frame_at frames at).page ≡ Some page → at < length frames
placed_below [] zero page e = cc
placed_below [] (suc at) page e = cc
placed_below (f ∷ fs) zero page e = omega arith
placed_below (f ∷ fs) (suc at) page e = let h = placed_below fs at page e in omega (arith, h)

forward_below : (slots : List TranState) (slot : ℕ) → is_forward (slice_index_or slots slot free_tran).stage ≡ true → slot < length slots
forward_below [] zero e = cc
forward_below [] (suc slot) e = cc
forward_below (t ∷ ts) zero e = omega arith
forward_below (t ∷ ts) (suc slot) e = let h = forward_below ts slot e in omega (arith, h)

there : (w : Held) (s : MarksState) (at : ℕ) (page : PageId) → HasRoom w s → page_of s at ≡ Some page → at < w.directory.frames
there w s at page room placed = subst (λ (n : ℕ). at < n) room.frames (placed_below s.heads.frames at page placed)

-- ---- grants

agents_slot : (w : Held) (s : MarksState) (slot : ℕ) → HasRoom w s → is_forward (slice_index_or s.trans.slots slot free_tran).stage ≡ true → slot ≤ 16
agents_slot w s slot room h = let below = forward_below s.trans.slots slot h in let few = room.slots in omega (arith, below, few)

cell_there : (w : Held) (s : MarksState) (o : Owner) (n : Name) (m : Mode) → HasRoom w s → MayClaim s o n m → cell_slot o n ≤ 16
cell_there w s (owner.Slot slot) (name.Space table) m room may = agents_slot w s slot room may.forward
cell_there w s (owner.Slot slot) (name.Row table key) m room may = agents_slot w s slot room may.forward
cell_there w s (owner.Slot slot) (name.Page page) m room may = omega arith
cell_there w s (owner.Slot slot) (name.Set n) m room may = omega arith
cell_there w s (owner.Rollback id) n m room may = omega arith

-- ---- draws

nth_is : (xs : List ℕ) (k : ℕ) → k < length xs → slice_get xs k ≡ Some (slice_index_or xs k 0)
nth_is [] zero below = absurd (omega (arith, below))
nth_is [] (suc k) below = absurd (omega (arith, below))
nth_is (x ∷ xs) zero below = refl
nth_is (x ∷ xs) (suc k) below = nth_is xs k (omega (arith, below))

held_there : (w : Held) (s : MarksState) (at : ℕ) (page : Option PageId) → HasRoom w s → HoldsNth s (Some at) page → at < w.directory.frames
held_there w s at None room h = absurd h
held_there w s at (Some page) room h = there w s at h.own room h.placed

nth_there : (w : Held) (s : MarksState) (frames : Frames) (k : ℕ) (page : Option PageId) → HasRoom w s → k < frames.count → k < length frames.at → HoldsNth s (frame_of frames k) page
    → slice_index_or frames.at k 0 < w.directory.frames
nth_there w s frames k page room below within holds = held_there w s (slice_index_or frames.at k 0) page room (subst (λ (f : Option ℕ). HoldsNth s f page) same holds)
  where
    same : frame_of frames k ≡ Some (slice_index_or frames.at k 0)
    same = ap (λ (b : Bool). if b then slice_get frames.at k else None) (lt-ltb k frames.count below) ∙ nth_is frames.at k within

drawn_there : (w : Held) (s : MarksState) (a : Action) (frames : Frames) (place : Option Place) → HasRoom w s → AreThree (indexes_of frames) → HoldsPages s a frames place → AreFrames w.directory (indexes_of frames)
drawn_there w s a frames place room three holds = record { few = three.0; frames = each }
  where
    each : (k : ℕ) → k < frames.count → slice_index_or frames.at k 0 < w.directory.frames
    each zero below = nth_there w s frames 0 (action_page a 0 place) room below (let l = three.1 in omega (arith, l)) holds.first
    each (suc zero) below = nth_there w s frames 1 (action_page a 1 place) room below (let l = three.1 in omega (arith, l)) holds.second
    each (suc (suc zero)) below = nth_there w s frames 2 (action_page a 2 place) room below (let l = three.1 in omega (arith, l)) holds.third
    each (suc (suc (suc k))) below = absurd (let few = three.0 in omega (arith, below, few))

none_there : (w : Held) (at : List ℕ) → AreFrames w.directory (record { count = 0; at = at })
none_there w at = record { few = omega arith; frames = λ k below. absurd (omega (arith, below)) }

one_there : (w : Held) (at : ℕ) (rest : List ℕ) → at < w.directory.frames → AreFrames w.directory (record { count = 1; at = at ∷ rest })
one_there w at rest h = record { few = omega arith; frames = each }
  where
    each : (k : ℕ) → k < 1 → slice_index_or (at ∷ rest) k 0 < w.directory.frames
    each zero below = h
    each (suc k) below = absurd (omega (arith, below))

-- ---- what is sent

abbrev command_of : Command → Sent → Command
command_of d sent.None = d
command_of d (sent.Command c) = c
command_of d (sent.ReadPage page) = d
command_of d (sent.WritePage page) = d
command_of d sent.AppendLog = d

is_sent : (w : Held) (m : ℕ) (c d : Command) → sent.Command c ≡ sent.Command d → CanExecute w m d → CanExecute w m c
is_sent w m c d e can = subst (CanExecute w m) (sym (ap (command_of c) e)) can

left_of : (w : Held) (m : ℕ) (c d : Command) → sent.Command c ≡ sent.Command d → IsLeft w m c → IsLeft w m d
left_of w m c d e left = subst (IsLeft w m) (ap (command_of c) e) left

as_left : (w : Held) (m : ℕ) (c d : Command) → sent.Command c ≡ sent.Command d → IsLeft w m c → (IsLeft w m d → CanExecute w m d) → CanExecute w m c
as_left w m c d e left f = is_sent w m c d e (f (left_of w m c d e left))

cast_sent : (w : Held) (m : ℕ) (c : Command) (page : PageId) (b : Bool) → sent.Command c ≡ (if b then sent.WritePage page else done page) → IsLeft w m c → CanExecute w m c
cast_sent w m c page true e left = cc
cast_sent w m c page false e left = as_left w m c (command.CastoutDone page) e left (λ l. l)

end_sent_is : (w : Held) (m : ℕ) (c : Command) (s : MarksState) (o : Owner) → sent.Command c ≡ end_sent s o → IsLeft w m c → CanExecute w m c
end_sent_is w m c s o e left = by ((tran_of s o).number == 0) e
  where
    by : (b : Bool) → sent.Command c ≡ (if b then sent.None else sent.Command (command.End (id_of s o))) → CanExecute w m c
    by true e = cc
    by false e = as_left w m c (command.End (id_of s o)) e left (λ l. l)

pub executes : LawfulExecute
executes w m s pages setting intent.Step c room l left = cc
executes w m s pages setting (intent.Obtain o n mode) c room l left = as_left w m c (command.Obtain n mode) l.is left (λ h. h)
executes w m s pages setting (intent.Grant o n mode) c room l left = as_left w m c (command.Grant (cell_slot o n) n mode) l.is left (λ h. (cell_there w s o n mode room l.lawful, h))
executes w m s pages setting (intent.Ask o to n mode) c room l left = as_left w m c (command.Ask (cell_slot o n) to n mode) l left (λ h. h)
executes w m s pages setting (intent.Answers o n mode asked) c room l left = as_left w m c (command.Answers (cell_slot o n)) l left (λ h. h)
executes w m s pages setting (intent.Status member) c room l left = as_left w m c (command.Status member) l left (λ h. h)
executes w m s pages setting (intent.Take past) c room l left = as_left w m c (command.Take past) l left (λ h. h)
executes w m s pages setting (intent.Answer asker n mode) c room l left = as_left w m c (command.Answer asker n mode (answer_to s n mode) setting.place) l.is left (λ h. h)
executes w m s pages setting (intent.ReleaseLock o) c room l left = as_left w m c (command.Release l.told.0 l.told.1) l.is left (λ h. h)
executes w m s pages setting (intent.ReleasePage page) c room l left = as_left w m c (command.Release l.told.0 l.told.1) l.is left (λ h. h)
executes w m s pages setting (intent.Purge n) c room l left = as_left w m c (command.Purge n) l.is left (λ h. h)
executes w m s pages setting (intent.End o) c room l left = end_sent_is w m c s o l.is left
executes w m s pages setting (intent.Wait slot holder flag) c room l left = as_left w m c (command.Wait (slot_id s slot) holder flag) l.is left (λ h. h)
executes w m s pages setting (intent.Unwait slot) c room l left = as_left w m c (command.Unwait (slot_id s slot)) l.is left (λ h. h)
executes w m s pages setting (intent.Waits slots) c room l left = as_left w m c command.Waits l left (λ h. h)
executes w m s pages setting (intent.Flag flag) c room l left = as_left w m c (command.Flag flag) l left (λ h. h)
executes w m s pages setting (intent.Raise flag) c room l left = as_left w m c (command.Raise flag) l left (λ h. h)
executes w m s pages setting intent.LoseCache c room l left = as_left w m c command.Lose l left (λ h. h)
executes w m s pages setting (intent.Read frame) c room l left = is_sent w m c (command.Read l.page frame) l.is (there w s frame l.page room l.placed)
executes w m s pages setting (intent.ReadPage frame) c room l left = let e = l.is in cc
executes w m s pages setting (intent.Test frame slot gives) c room l left = is_sent w m c (command.Test frame) l.is (there w s frame l.page room l.placed)
executes w m s pages setting (intent.WritePage frame) c room l left = is_sent w m c (command.Write l.page frame) l.is (there w s frame l.page room l.placed)
executes w m s pages setting (intent.Unregister frame) c room l left = is_sent w m c (command.Unregister frame) l.is (there w s frame l.page room l.placed)
executes w m s pages setting (intent.Change slot action frames) c room l left =
    as_left w m c (command.Draw (indexes_of frames)) l.is left (λ h. drawn_there w s action frames (place_by pages setting.limit action frames) room h l.holds)
executes w m s pages setting (intent.Undo o frame) c room l left =
    as_left w m c (command.DrawUndo (record { count = 1; at = frame ∷ 0 ∷ 0 ∷ [] })) l.is left (λ h. (one_there w frame (0 ∷ 0 ∷ []) (there w s frame l.holds.own room l.holds.placed), h))
executes w m s pages setting (intent.Commit slot) c room l left = is_sent w m c (command.Draw (record { count = 0; at = 0 ∷ 0 ∷ 0 ∷ [] })) l.is (none_there w (0 ∷ 0 ∷ 0 ∷ []))
executes w m s pages setting intent.Append c room l left = let e = l.is in cc
executes w m s pages setting (intent.NextChanged past) c room l left = as_left w m c (command.NextChanged past) l left (λ h. h)
executes w m s pages setting (intent.CastoutRead page) c room l left = as_left w m c (command.CastoutRead page) l left (λ h. h)
executes w m s pages setting intent.CastoutWrite c room l left = cast_sent w m c l.cast.page setting.is_holder l.is left
executes w m s pages setting intent.CastoutDone c room l left = as_left w m c (command.CastoutDone l.cast.page) l.is left (λ h. h)
executes w m s pages setting intent.PhaseDone c room l left = as_left w m c command.PhaseDone l left (λ h. h)
