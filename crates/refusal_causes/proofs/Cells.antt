-- What commands make of the answers in cells.
use Rattle.std.proofs.Common.{◌≡◌, inl, inr, ℕ, ◌*◌, ◌-◌, ◌+◌, Bool, true, false, ◌&&◌, ◌||◌, eqb, List, Option, Some, None, refl, sym, ap, subst}
use Rattle.std.specs.Prelude.{if◌then◌else◌}
use Rattle.std.proofs.lemmas.Bool.{and_parts, eqb-true}
use Rattle.ds_base.specs.Ids.{IsMember}
use Rattle.ds_model.specs.declared.lock.Name.{Name}
use Rattle.lock_names.specs.declared.mode.Mode.{Mode}
use Rattle.cache_structure.specs.declared.face.DoneReply.{DoneReply}
use Rattle.cache_structure.specs.declared.face.DoneReply.TheVariants as done
use Rattle.cache_structure.specs.Replies.{done_reply}
use Rattle.list_structure.specs.declared.query.Asker.{Asker}
use Rattle.list_structure.specs.declared.query.Cell.{Cell}
use Rattle.list_structure.specs.declared.query.Cell.TheVariants as cell
use Rattle.list_structure.specs.declared.query.CellAnswer.{CellAnswer}
use Rattle.list_structure.specs.Askers.{IsAsker, same_asker, slot_of}
use Rattle.list_structure.specs.Cells.{AreCells, cell_of, emptied, with_cell, without_member}
use Rattle.list_structure.specs.States.{ListsState, is_settled}
use Rattle.list_structure.specs.Waits.{wait_for}
use Rattle.facility.specs.declared.command.Command.{Command}
use Rattle.facility.specs.declared.command.Command.TheVariants as command
use Rattle.facility.specs.declared.command.Reply.{Reply}
use Rattle.facility.specs.declared.command.Reply.TheVariants as reply
use Rattle.facility.specs.CacheCommands.{lists_after_done}
use Rattle.facility.specs.Commands.{Executes}
use Rattle.facility.specs.ListCommands.{AnswersQuery, answered_cell, waiting}
use Rattle.facility.specs.States.{Held}
use Rattle.refusal_causes.specs.Answers.{IsGiven, AreGiven}
use Rattle.refusal_causes.proofs.Either.{either, either_by}

-- what is to be known of the answer of a member
abbrev pub Knowledge : Type 1
Knowledge = ℕ → Name → Mode → CellAnswer → ℕ → Type 0

-- ---- cells

set_given : (K : Knowledge) (now : List Cell) (f : Asker → ℕ → Cell) → AreCells now f → ((a : Asker) (k : ℕ) → IsAsker a → IsMember k → IsGiven K k (f a k)) → AreGiven K now
set_given K now f are each a k asker member = subst (IsGiven K k) (sym (are a k asker member)) (each a k asker member)

pub emptied_given : (K : Knowledge) (cells now : List Cell) (asker : Asker) → AreCells now (emptied cells asker) → AreGiven K cells → AreGiven K now
emptied_given K cells now asker are given =
    set_given K now (emptied cells asker) are (λ a k is_asker is_member. either (IsGiven K k) (same_asker a asker) _ _ tt (given a k is_asker is_member))

pub failed_given : (K : Knowledge) (cells now : List Cell) (member : ℕ) → AreCells now (without_member cells member) → AreGiven K cells → AreGiven K now
failed_given K cells now member are given =
    set_given K now (without_member cells member) are
    (λ a k is_asker is_member. either (IsGiven K k) (eqb a.member member || eqb k member) cell.Empty (cell_of cells a k) tt (given a k is_asker is_member))

one_given : (K : Knowledge) (cells now : List Cell) (asker : Asker) (to : ℕ) (c : Cell) → IsGiven K to c → AreCells now (with_cell cells asker to c) → AreGiven K cells → AreGiven K now
one_given K cells now asker to c known are given =
    set_given K now (with_cell cells asker to c) are (λ a k is_asker is_member.
    either_by (IsGiven K k) (same_asker a asker && eqb k to) c (cell_of cells a k)
    (λ here. subst (λ (j : ℕ). IsGiven K j c) (sym (eqb-true k to (and_parts (same_asker a asker) (eqb k to) here).1)) known)
    (λ there. given a k is_asker is_member))

pub made_given : (K : Knowledge) (now : List Cell) → AreCells now (λ asker member. cell.Empty) → AreGiven K now
made_given K now are = set_given K now (λ asker member. cell.Empty) are (λ a k is_asker is_member. tt)

-- ---- commands

abbrev Given : Knowledge → Held → Type 0
Given K w = AreGiven K w.lists.cells

same : (K : Knowledge) (v w : Held) → v ≡ w → Given K w → Given K v
same K v w e given = subst (Given K) (sym e) given

done_cells : (K : Knowledge) (r : DoneReply) (lists : ListsState) → AreGiven K lists.cells → AreGiven K (lists_after_done r lists).cells
done_cells K done.Done lists given = given
done_cells K done.NotHeld lists given = given
done_cells K done.Lost lists given = given

answers : (K : Knowledge) (w v : Held) (m : ℕ) (asker : Asker) (n : Name) (mode : Mode) (said : CellAnswer) (event : ℕ) (it : Reply) → K m n mode said event → AnswersQuery w m asker n mode said event it v → Given K w → Given K v
answers K w v m asker n mode said event reply.Done known x given = one_given K w.lists.cells v.lists.cells asker m (answered_cell w n mode said event) known x.1.0 given
answers K w v m asker n mode said event reply.Gone known x given = same K v w x.1 given
answers K w v m asker n mode said event _ known x given = absurd x

-- an answer is known where it is given, and the others were
pub executed_given : (K : Knowledge) (w v : Held) (m : ℕ) (c : Command) (page after : List ℕ) (it : Reply) → ((asker : Asker) (n : Name) (mode : Mode) (said : CellAnswer) (event : ℕ) → c ≡ command.Answer asker n mode said event → K m n mode said event) → Executes w m c page it v after → AreGiven K w.lists.cells → AreGiven K v.lists.cells
executed_given K w v m (command.Read id index) page after it known x given = same K v _ x.1 given
executed_given K w v m (command.CastoutRead id) page after it known x given = same K v _ x.1 given
executed_given K w v m (command.Obtain n mode) page after it known x given = same K v _ x.0.1 given
executed_given K w v m (command.Grant slot n mode) page after it known x given = emptied_given K w.lists.cells v.lists.cells (slot_of m slot) x.0.1 given
executed_given K w v m (command.Release n keeps) page after it known x given = same K v _ x.0.2 given
executed_given K w v m (command.Purge n) page after it known x given = same K v _ x.0.2 given
executed_given K w v m (command.RetainedAt n) page after it known x given = same K v _ x.0.1 given
executed_given K w v m (command.Write id index) page after it known x given = same K v _ x.0.1 given
executed_given K w v m (command.Unregister index) page after it known x given = same K v _ x.0.1 given
executed_given K w v m (command.Test index) page after it known x given = same K v _ x.0.1 given
executed_given K w v m (command.CastoutDone id) page after it known x given = same K v _ x.0.1 (done_cells K (done_reply w.directory m id) w.lists given)
executed_given K w v m (command.NextChanged past) page after it known x given = same K v _ x.0.1 given
executed_given K w v m command.Lose page after it known x given = same K v _ x.0.1 given
executed_given K w v m command.Rebuilt page after it known x given = same K v _ x.0.1 given
executed_given K w v m (command.Ask slot to n mode) page after it known x given = one_given K w.lists.cells v.lists.cells (slot_of m slot) to (cell.Asked n mode) tt x.0.1.0 given
executed_given K w v m (command.Take past) page after it known x given = same K v _ x.0.1 given
executed_given K w v m (command.Answer asker n mode said event) page after it known x given = answers K w v m asker n mode said event it (known asker n mode said event refl) x.0 given
executed_given K w v m (command.Answers slot) page after it known x given = same K v _ x.0.1 given
executed_given K w v m (command.Wait tran holder flag) page after it known x given =
    same K v _ x.0.1 (either (λ (l : ListsState). AreGiven K l.cells) (is_settled w.lists (wait_for tran holder flag)) _ _ given given)
executed_given K w v m (command.Unwait tran) page after it known x given = same K v _ x.0.1 given
executed_given K w v m command.Waits page after it known x given = same K v _ x.0.1 given
executed_given K w v m (command.End tran) page after it known x given = same K v _ x.0.1 given
executed_given K w v m (command.Raise flag) page after it known x given = same K v _ x.0.1 given
executed_given K w v m (command.Flag flag) page after it known x given = same K v _ x.0.1 given
executed_given K w v m (command.SetStatus status) page after it known x given = same K v _ x.0.1 given
executed_given K w v m (command.Status member) page after it known x given = same K v _ x.0.1 given
executed_given K w v m command.Claim page after it known x given = same K v _ x.0.1 given
executed_given K w v m command.Unclaim page after it known x given = same K v _ x.0.1 given
executed_given K w v m command.PhaseDone page after it known x given = same K v _ x.0.1 given
executed_given K w v m (command.Draw indexes) page after it known x given = same K v _ x.0.1 given
executed_given K w v m (command.DrawUndo indexes) page after it known x given = same K v _ x.0.1 given
