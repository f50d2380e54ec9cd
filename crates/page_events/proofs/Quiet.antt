-- Commands that change nothing that pages know of.
use Rattle.std.proofs.Common.{◌≡◌, ℕ, refl, sym, subst}
use Rattle.std.proofs.lemmas.Bool.{cond_both}
use Rattle.ds_model.specs.declared.lock.Name.{Name}
use Rattle.lock_names.specs.declared.mode.Mode.{Mode}
use Rattle.list_structure.specs.declared.query.Asker.{Asker}
use Rattle.list_structure.specs.declared.query.CellAnswer.{CellAnswer}
use Rattle.list_structure.specs.declared.wait.Wait.{Wait}
use Rattle.list_structure.specs.States.{ListsState, is_settled}
use Rattle.list_structure.specs.Waits.{wait_for, with_wait}
use Rattle.facility.specs.declared.command.Command.TheVariants as command
use Rattle.facility.specs.declared.command.Reply.{Reply}
use Rattle.facility.specs.declared.command.Reply.TheVariants as reply
use Rattle.facility.specs.ListCommands.{AnswersQuery, waiting}
use Rattle.facility.specs.States.{Held, ring}
use Rattle.page_world.specs.Holdings.{KeepsPages}
use Rattle.page_events.specs.Quiet.{CommandsLeave}

-- what is left is this, which keeps what pages know of
keeps_as : (f g x : Held) → g ≡ x → KeepsPages f x → KeepsPages f g
keeps_as f g x e k = subst (λ z. KeepsPages f z) (sym e) k

pub keeps_itself : (f : Held) → KeepsPages f f
keeps_itself f = record { directory = refl; counter = refl; members = refl; statuses = refl }

waiting_keeps : (f : Held) (w : Wait) → KeepsPages f (record f { lists = waiting f.lists w })
waiting_keeps f w =
    cond_both (is_settled f.lists w) f.lists (ring (record f.lists { waits = with_wait f.lists.waits w })) (λ (z : ListsState). KeepsPages f (record f { lists = z }))
    (λ e. keeps_itself f) (λ e. record { directory = refl; counter = refl; members = refl; statuses = refl })

answer_keeps : (f g : Held) (m : ℕ) (asker : Asker) (n : Name) (mode : Mode) (said : CellAnswer) (event : ℕ) (answer : Reply) → AnswersQuery f m asker n mode said event answer g → KeepsPages f g
answer_keeps f g m asker n mode said event (reply.Granted version) e = absurd e
answer_keeps f g m asker n mode said event (reply.Retained by) e = absurd e
answer_keeps f g m asker n mode said event (reply.RecordsFull limit) e = absurd e
answer_keeps f g m asker n mode said event (reply.Contention share exclusive version) e = absurd e
answer_keeps f g m asker n mode said event (reply.Moved version) e = absurd e
answer_keeps f g m asker n mode said event (reply.RetainedLock named x) e = absurd e
answer_keeps f g m asker n mode said event reply.Done e = keeps_as f g _ e.1.1 (record { directory = refl; counter = refl; members = refl; statuses = refl })
answer_keeps f g m asker n mode said event reply.Nothing e = absurd e
answer_keeps f g m asker n mode said event reply.Found e = absurd e
answer_keeps f g m asker n mode said event reply.NoData e = absurd e
answer_keeps f g m asker n mode said event reply.CacheFull e = absurd e
answer_keeps f g m asker n mode said event reply.Lost e = absurd e
answer_keeps f g m asker n mode said event reply.Written e = absurd e
answer_keeps f g m asker n mode said event reply.Valid e = absurd e
answer_keeps f g m asker n mode said event reply.Invalid e = absurd e
answer_keeps f g m asker n mode said event reply.Taken e = absurd e
answer_keeps f g m asker n mode said event reply.NotChanged e = absurd e
answer_keeps f g m asker n mode said event (reply.Locked by) e = absurd e
answer_keeps f g m asker n mode said event reply.NotHeld e = absurd e
answer_keeps f g m asker n mode said event (reply.ChangedPage page) e = absurd e
answer_keeps f g m asker n mode said event (reply.Query query) e = absurd e
answer_keeps f g m asker n mode said event reply.Gone e = keeps_as f g _ e.1 (keeps_itself f)
answer_keeps f g m asker n mode said event reply.Cells e = absurd e
answer_keeps f g m asker n mode said event reply.Waits e = absurd e
answer_keeps f g m asker n mode said event reply.Raised e = absurd e
answer_keeps f g m asker n mode said event reply.NotRaised e = absurd e
answer_keeps f g m asker n mode said event (reply.Status status) e = absurd e
answer_keeps f g m asker n mode said event reply.NotLost e = absurd e
answer_keeps f g m asker n mode said event (reply.ClaimTaken by) e = absurd e
answer_keeps f g m asker n mode said event reply.Claimed e = absurd e
answer_keeps f g m asker n mode said event (reply.Drawn lrsn) e = absurd e
answer_keeps f g m asker n mode said event (reply.Stale index) e = absurd e
answer_keeps f g m asker n mode said event (reply.LrsnEnd at) e = absurd e

pub quiet_commands : CommandsLeave
quiet_commands f g m (command.Obtain n mode) page after answer quiet e = keeps_as f g _ e.0.1 (record { directory = refl; counter = refl; members = refl; statuses = refl })
quiet_commands f g m (command.Grant slot n mode) page after answer quiet e = keeps_as f g _ e.0.2 (record { directory = refl; counter = refl; members = refl; statuses = refl })
quiet_commands f g m (command.Release n keeps) page after answer quiet e = keeps_as f g _ e.0.2 (record { directory = refl; counter = refl; members = refl; statuses = refl })
quiet_commands f g m (command.Purge n) page after answer quiet e = keeps_as f g _ e.0.2 (record { directory = refl; counter = refl; members = refl; statuses = refl })
quiet_commands f g m (command.RetainedAt n) page after answer quiet e = keeps_as f g _ e.0.1 (keeps_itself f)
quiet_commands f g m (command.Read id index) page after answer quiet e = absurd cc
quiet_commands f g m (command.Write id index) page after answer quiet e = absurd cc
quiet_commands f g m (command.Unregister index) page after answer quiet e = absurd cc
quiet_commands f g m (command.Test index) page after answer quiet e = keeps_as f g _ e.0.1 (keeps_itself f)
quiet_commands f g m (command.CastoutRead id) page after answer quiet e = absurd cc
quiet_commands f g m (command.CastoutDone id) page after answer quiet e = absurd cc
quiet_commands f g m (command.NextChanged past) page after answer quiet e = keeps_as f g _ e.0.1 (keeps_itself f)
quiet_commands f g m command.Lose page after answer quiet e = absurd cc
quiet_commands f g m command.Rebuilt page after answer quiet e = absurd cc
quiet_commands f g m (command.Ask slot to n mode) page after answer quiet e = keeps_as f g _ e.0.1.1 (record { directory = refl; counter = refl; members = refl; statuses = refl })
quiet_commands f g m (command.Take past) page after answer quiet e = keeps_as f g _ e.0.1 (keeps_itself f)
quiet_commands f g m (command.Answer asker n mode said event) page after answer quiet e = answer_keeps f g m asker n mode said event answer e.0
quiet_commands f g m (command.Answers slot) page after answer quiet e = keeps_as f g _ e.0.1 (keeps_itself f)
quiet_commands f g m (command.Wait tran holder flag) page after answer quiet e = keeps_as f g _ e.0.1 (waiting_keeps f (wait_for tran holder flag))
quiet_commands f g m (command.Unwait tran) page after answer quiet e = keeps_as f g _ e.0.1 (record { directory = refl; counter = refl; members = refl; statuses = refl })
quiet_commands f g m command.Waits page after answer quiet e = keeps_as f g _ e.0.1 (keeps_itself f)
quiet_commands f g m (command.End tran) page after answer quiet e = keeps_as f g _ e.0.1 (record { directory = refl; counter = refl; members = refl; statuses = refl })
quiet_commands f g m (command.Raise flag) page after answer quiet e = keeps_as f g _ e.0.1 (record { directory = refl; counter = refl; members = refl; statuses = refl })
quiet_commands f g m (command.Flag flag) page after answer quiet e = keeps_as f g _ e.0.1 (keeps_itself f)
quiet_commands f g m (command.SetStatus status) page after answer quiet e = absurd cc
quiet_commands f g m (command.Status member) page after answer quiet e = keeps_as f g _ e.0.1 (keeps_itself f)
quiet_commands f g m command.Claim page after answer quiet e = keeps_as f g _ e.0.1 (record { directory = refl; counter = refl; members = refl; statuses = refl })
quiet_commands f g m command.Unclaim page after answer quiet e = keeps_as f g _ e.0.1 (record { directory = refl; counter = refl; members = refl; statuses = refl })
quiet_commands f g m command.PhaseDone page after answer quiet e = keeps_as f g _ e.0.1 (record { directory = refl; counter = refl; members = refl; statuses = refl })
quiet_commands f g m (command.Draw indexes) page after answer quiet e = absurd cc
quiet_commands f g m (command.DrawUndo indexes) page after answer quiet e = absurd cc
