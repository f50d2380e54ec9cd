-- No command changes of how many frames of each member the cache structure knows.
use Rattle.std.proofs.Common.{◌≡◌, ℕ, refl, ◌∙◌, ap, Bool, List, Option, Some, None}
use Rattle.std.specs.Prelude.{if◌then◌else◌}
use Rattle.std.specs.Option.{option_map, option_map_or}
use Rattle.std.proofs.lemmas.Bool.{cond_both}
use Rattle.ds_base.specs.declared.names.PageId.{PageId}
use Rattle.ds_model.specs.declared.lock.Name.{Name}
use Rattle.lock_names.specs.declared.mode.Mode.{Mode}
use Rattle.list_structure.specs.declared.query.Asker.{Asker}
use Rattle.list_structure.specs.declared.query.CellAnswer.{CellAnswer}
use Rattle.cache_structure.specs.Entries.{Entry, at_entry, cast_out, entry_of, fresh, locked_by}
use Rattle.cache_structure.specs.Directory.{Directory, after_castout_done, after_castout_read, after_read, after_write, has_free_place, holds_castout, is_taken, made, reclaimable, reclaimed, registers, with_entry, with_newest, written_by}
use Rattle.facility.specs.declared.command.Command.TheVariants as command
use Rattle.facility.specs.declared.command.Reply.{Reply}
use Rattle.facility.specs.declared.command.Reply.TheVariants as reply
use Rattle.facility.specs.ListCommands.{AnswersQuery}
use Rattle.facility.specs.States.{Held}
use Rattle.rooms_stay.specs.Rooms.{CommandsKeep}

-- ---- an entry for a page
abbrev Know : ℕ → Option Directory → Type 0
Know n None = Unit {0}
Know n (Some d) = d.frames ≡ n

reclaims : (d : Directory) (id : PageId) (o : Option Entry) → Know d.frames (option_map (λ e. with_newest (reclaimed d e) (fresh id)) o)
reclaims d id None = tt
reclaims d id (Some e) = refl

makes : (d : Directory) (id : PageId) → Know d.frames (made d id)
makes d id = cond_both (has_free_place d) (Some (with_newest d (fresh id))) (option_map (λ e. with_newest (reclaimed d e) (fresh id)) (reclaimable d)) (λ z. Know d.frames z)
    (λ e. refl) (λ e. reclaims d id (reclaimable d))

entered : (d : Directory) (id : PageId) (o : Option Entry) → Know d.frames (option_map_or (λ e. Some (with_newest d e)) o (made d id))
entered d id None = makes d id
entered d id (Some e) = refl

leads : (d : Directory) (f : Directory → Directory) (o : Option Directory) → ((x : Directory) → (f x).frames ≡ x.frames) → Know d.frames o → (option_map_or f o d).frames ≡ d.frames
leads d f None same know = refl
leads d f (Some x) same know = same x ∙ know

unless_lost : (d x : Directory) (b : Bool) → x.frames ≡ d.frames → (if b then d else x).frames ≡ d.frames
unless_lost d x b e = cond_both b d x (λ z. z.frames ≡ d.frames) (λ h. refl) (λ h. e)

reads : (d : Directory) (m : ℕ) (id : PageId) (index : ℕ) → (after_read d m id index).frames ≡ d.frames
reads d m id index = unless_lost d _ d.lost (leads d (λ made. registers made m id index) (with_entry d id) (λ x. refl) (entered d id (entry_of d.entries id)))

writes : (d : Directory) (m : ℕ) (id : PageId) (index : ℕ) (bytes : List ℕ) → (after_write d m id index bytes).frames ≡ d.frames
writes d m id index bytes = unless_lost d _ d.lost (leads d (λ made. registers (written_by made m id bytes) m id index) (with_entry d id) (λ x. refl) (entered d id (entry_of d.entries id)))

-- ---- castout
if_so : (d x : Directory) (b : Bool) → x.frames ≡ d.frames → (if b then x else d).frames ≡ d.frames
if_so d x b e = cond_both b x d (λ z. z.frames ≡ d.frames) (λ h. e) (λ h. refl)

begins : (d : Directory) (m : ℕ) (id : PageId) → (after_castout_read d m id).frames ≡ d.frames
begins d m id = unless_lost d _ d.lost (if_so d (record d { entries = at_entry id (locked_by m) d.entries }) (is_taken d m id) refl)

ends : (d : Directory) (m : ℕ) (id : PageId) → (after_castout_done d m id).frames ≡ d.frames
ends d m id = unless_lost d _ d.lost (if_so d (record d { entries = at_entry id cast_out d.entries }) (holds_castout d m id) refl)

-- ---- all commands
answers : (w v : Held) (m : ℕ) (asker : Asker) (n : Name) (mode : Mode) (said : CellAnswer) (event : ℕ) (answer : Reply) → AnswersQuery w m asker n mode said event answer v → v.directory.frames ≡ w.directory.frames
answers w v m asker n mode said event (reply.Granted version) e = absurd e
answers w v m asker n mode said event (reply.Retained by) e = absurd e
answers w v m asker n mode said event (reply.RecordsFull limit) e = absurd e
answers w v m asker n mode said event (reply.Contention share exclusive version) e = absurd e
answers w v m asker n mode said event (reply.Moved version) e = absurd e
answers w v m asker n mode said event (reply.RetainedLock other more) e = absurd e
answers w v m asker n mode said event reply.Done e = ap (λ (z : Held). z.directory.frames) e.1.1
answers w v m asker n mode said event reply.Nothing e = absurd e
answers w v m asker n mode said event reply.Found e = absurd e
answers w v m asker n mode said event reply.NoData e = absurd e
answers w v m asker n mode said event reply.CacheFull e = absurd e
answers w v m asker n mode said event reply.Lost e = absurd e
answers w v m asker n mode said event reply.Written e = absurd e
answers w v m asker n mode said event reply.Valid e = absurd e
answers w v m asker n mode said event reply.Invalid e = absurd e
answers w v m asker n mode said event reply.Taken e = absurd e
answers w v m asker n mode said event reply.NotChanged e = absurd e
answers w v m asker n mode said event (reply.Locked by) e = absurd e
answers w v m asker n mode said event reply.NotHeld e = absurd e
answers w v m asker n mode said event (reply.ChangedPage page) e = absurd e
answers w v m asker n mode said event (reply.Query query) e = absurd e
answers w v m asker n mode said event reply.Gone e = ap (λ (z : Held). z.directory.frames) e.1
answers w v m asker n mode said event reply.Cells e = absurd e
answers w v m asker n mode said event reply.Waits e = absurd e
answers w v m asker n mode said event reply.Raised e = absurd e
answers w v m asker n mode said event reply.NotRaised e = absurd e
answers w v m asker n mode said event (reply.Status status) e = absurd e
answers w v m asker n mode said event reply.NotLost e = absurd e
answers w v m asker n mode said event (reply.ClaimTaken by) e = absurd e
answers w v m asker n mode said event reply.Claimed e = absurd e
answers w v m asker n mode said event (reply.Drawn lrsn) e = absurd e
answers w v m asker n mode said event (reply.Stale index) e = absurd e
answers w v m asker n mode said event (reply.LrsnEnd end) e = absurd e

pub commands_keep : CommandsKeep
commands_keep w v m (command.Obtain n mode) page after answer e = ap (λ (z : Held). z.directory.frames) e.0.1
commands_keep w v m (command.Grant slot n mode) page after answer e = ap (λ (z : Held). z.directory.frames) e.0.2
commands_keep w v m (command.Release n keeps) page after answer e = ap (λ (z : Held). z.directory.frames) e.0.2
commands_keep w v m (command.Purge n) page after answer e = ap (λ (z : Held). z.directory.frames) e.0.2
commands_keep w v m (command.RetainedAt n) page after answer e = ap (λ (z : Held). z.directory.frames) e.0.1
commands_keep w v m (command.Read id index) page after answer e = ap (λ (z : Held). z.directory.frames) e.1 ∙ reads w.directory m id index
commands_keep w v m (command.Write id index) page after answer e = ap (λ (z : Held). z.directory.frames) e.0.1 ∙ writes w.directory m id index page
commands_keep w v m (command.Unregister index) page after answer e = ap (λ (z : Held). z.directory.frames) e.0.1
commands_keep w v m (command.Test index) page after answer e = ap (λ (z : Held). z.directory.frames) e.0.1
commands_keep w v m (command.CastoutRead id) page after answer e = ap (λ (z : Held). z.directory.frames) e.1 ∙ begins w.directory m id
commands_keep w v m (command.CastoutDone id) page after answer e = ap (λ (z : Held). z.directory.frames) e.0.1 ∙ ends w.directory m id
commands_keep w v m (command.NextChanged past) page after answer e = ap (λ (z : Held). z.directory.frames) e.0.1
commands_keep w v m command.Lose page after answer e = ap (λ (z : Held). z.directory.frames) e.0.1
commands_keep w v m command.Rebuilt page after answer e = ap (λ (z : Held). z.directory.frames) e.0.1
commands_keep w v m (command.Ask slot to n mode) page after answer e = ap (λ (z : Held). z.directory.frames) e.0.1.1
commands_keep w v m (command.Take past) page after answer e = ap (λ (z : Held). z.directory.frames) e.0.1
commands_keep w v m (command.Answer asker n mode said event) page after answer e = answers w v m asker n mode said event answer e.0
commands_keep w v m (command.Answers slot) page after answer e = ap (λ (z : Held). z.directory.frames) e.0.1
commands_keep w v m (command.Wait tran holder flag) page after answer e = ap (λ (z : Held). z.directory.frames) e.0.1
commands_keep w v m (command.Unwait tran) page after answer e = ap (λ (z : Held). z.directory.frames) e.0.1
commands_keep w v m command.Waits page after answer e = ap (λ (z : Held). z.directory.frames) e.0.1
commands_keep w v m (command.End tran) page after answer e = ap (λ (z : Held). z.directory.frames) e.0.1
commands_keep w v m (command.Raise flag) page after answer e = ap (λ (z : Held). z.directory.frames) e.0.1
commands_keep w v m (command.Flag flag) page after answer e = ap (λ (z : Held). z.directory.frames) e.0.1
commands_keep w v m (command.SetStatus status) page after answer e = ap (λ (z : Held). z.directory.frames) e.0.1
commands_keep w v m (command.Status member) page after answer e = ap (λ (z : Held). z.directory.frames) e.0.1
commands_keep w v m command.Claim page after answer e = ap (λ (z : Held). z.directory.frames) e.0.1
commands_keep w v m command.Unclaim page after answer e = ap (λ (z : Held). z.directory.frames) e.0.1
commands_keep w v m command.PhaseDone page after answer e = ap (λ (z : Held). z.directory.frames) e.0.1
commands_keep w v m (command.Draw indexes) page after answer e = ap (λ (z : Held). z.directory.frames) e.0.1
commands_keep w v m (command.DrawUndo indexes) page after answer e = ap (λ (z : Held). z.directory.frames) e.0.1
