-- Commands that change neither locks, queries nor standings.
use Rattle.std.proofs.Common.{◌≡◌, ℕ, refl, ap, subst, sym, Bool, true, false, List}
use Rattle.std.specs.Prelude.{if◌then◌else◌}
use Rattle.std.proofs.lemmas.Bool.{cond_both}
use Rattle.lock_structure.specs.Locks.{Locks}
use Rattle.cache_structure.specs.Directory.{Directory}
use Rattle.cache_structure.specs.declared.face.DoneReply.{DoneReply}
use Rattle.cache_structure.specs.declared.face.DoneReply.TheVariants as done
use Rattle.cache_structure.specs.Replies.{done_reply}
use Rattle.list_structure.specs.declared.wait.Wait.{Wait}
use Rattle.list_structure.specs.States.{ListsState, is_settled}
use Rattle.list_structure.specs.Waits.{wait_for, with_wait}
use Rattle.facility.specs.declared.command.Command.{Command}
use Rattle.facility.specs.declared.command.Command.TheVariants as command
use Rattle.facility.specs.declared.command.Reply.{Reply}
use Rattle.facility.specs.CacheCommands.{lists_after_done}
use Rattle.facility.specs.Commands.{Executes}
use Rattle.facility.specs.ListCommands.{waiting}
use Rattle.facility.specs.States.{Held, ring}
use Rattle.lock_events.specs.Quiet.{CommandsStay, Quiet, SameLists, is_quiet}

same_lists : (f : ListsState) → SameLists f f
same_lists f = record { cells = refl; statuses = refl; members = refl }

pub quiet_same : (f g : Held) → g ≡ f → Quiet f g
quiet_same f g e = subst (λ z. Quiet f z) (sym e) (record { locks = refl; lists = same_lists f.lists })

quiet_directory : (f g : Held) (d : Directory) → g ≡ record f { directory = d } → Quiet f g
quiet_directory f g d e = subst (λ z. Quiet f z) (sym e) (record { locks = refl; lists = same_lists f.lists })

quiet_counter : (f g : Held) (n : ℕ) → g ≡ record f { counter = n } → Quiet f g
quiet_counter f g n e = subst (λ z. Quiet f z) (sym e) (record { locks = refl; lists = same_lists f.lists })

quiet_both : (f g : Held) (d : Directory) (l : ListsState) → g ≡ record f { directory = d; lists = l } → SameLists f.lists l → Quiet f g
quiet_both f g d l e s = subst (λ z. Quiet f z) (sym e) (record { locks = refl; lists = s })

quiet_lists : (f g : Held) (l : ListsState) → g ≡ record f { lists = l } → SameLists f.lists l → Quiet f g
quiet_lists f g l e s = subst (λ z. Quiet f z) (sym e) (record { locks = refl; lists = s })

other_parts : (f l : ListsState) → l.cells ≡ f.cells → l.statuses ≡ f.statuses → l.members ≡ f.members → SameLists f l
other_parts f l cells statuses members = record { cells = cells; statuses = statuses; members = members }

castout_lists : (r : DoneReply) (f : ListsState) → SameLists f (lists_after_done r f)
castout_lists done.Done f = other_parts f (ring f) refl refl refl
castout_lists done.NotHeld f = same_lists f
castout_lists done.Lost f = same_lists f

waiting_lists : (f : ListsState) (w : Wait) → SameLists f (waiting f w)
waiting_lists f w = cond_both (is_settled f w) f (ring (record f { waits = with_wait f.waits w })) (λ z. SameLists f z) (λ e. same_lists f) (λ e. other_parts f _ refl refl refl)

pub quiet_command : CommandsStay
quiet_command f g m (command.Obtain n mode) page after answer quiet e = absurd cc
quiet_command f g m (command.Grant slot n mode) page after answer quiet e = absurd cc
quiet_command f g m (command.Release n keeps) page after answer quiet e = absurd cc
quiet_command f g m (command.Purge n) page after answer quiet e = absurd cc
quiet_command f g m (command.RetainedAt n) page after answer quiet e = quiet_same f g e.0.1
quiet_command f g m (command.Read id index) page after answer quiet e = quiet_directory f g _ e.1
quiet_command f g m (command.Write id index) page after answer quiet e = quiet_directory f g _ e.0.1
quiet_command f g m (command.Unregister index) page after answer quiet e = quiet_directory f g _ e.0.1
quiet_command f g m (command.Test index) page after answer quiet e = quiet_same f g e.0.1
quiet_command f g m (command.CastoutRead id) page after answer quiet e = quiet_directory f g _ e.1
quiet_command f g m (command.CastoutDone id) page after answer quiet e = quiet_both f g _ _ e.0.1 (castout_lists (done_reply f.directory m id) f.lists)
quiet_command f g m (command.NextChanged past) page after answer quiet e = quiet_same f g e.0.1
quiet_command f g m command.Lose page after answer quiet e = quiet_directory f g _ e.0.1
quiet_command f g m command.Rebuilt page after answer quiet e = quiet_both f g _ (ring f.lists) e.0.1 (other_parts f.lists _ refl refl refl)
quiet_command f g m (command.Ask slot to n mode) page after answer quiet e = absurd cc
quiet_command f g m (command.Take past) page after answer quiet e = quiet_same f g e.0.1
quiet_command f g m (command.Answer asker n mode said event) page after answer quiet e = absurd cc
quiet_command f g m (command.Answers slot) page after answer quiet e = quiet_same f g e.0.1
quiet_command f g m (command.Wait tran holder flag) page after answer quiet e = quiet_lists f g _ e.0.1 (waiting_lists f.lists (wait_for tran holder flag))
quiet_command f g m (command.Unwait tran) page after answer quiet e = quiet_lists f g _ e.0.1 (other_parts f.lists _ refl refl refl)
quiet_command f g m command.Waits page after answer quiet e = quiet_same f g e.0.1
quiet_command f g m (command.End tran) page after answer quiet e = quiet_lists f g _ e.0.1 (other_parts f.lists _ refl refl refl)
quiet_command f g m (command.Raise flag) page after answer quiet e = quiet_lists f g _ e.0.1 (other_parts f.lists _ refl refl refl)
quiet_command f g m (command.Flag flag) page after answer quiet e = quiet_same f g e.0.1
quiet_command f g m (command.SetStatus status) page after answer quiet e = absurd cc
quiet_command f g m (command.Status member) page after answer quiet e = quiet_same f g e.0.1
quiet_command f g m command.Claim page after answer quiet e = quiet_lists f g _ e.0.1 (other_parts f.lists _ refl refl refl)
quiet_command f g m command.Unclaim page after answer quiet e = quiet_lists f g _ e.0.1 (other_parts f.lists _ refl refl refl)
quiet_command f g m command.PhaseDone page after answer quiet e = quiet_lists f g _ e.0.1 (other_parts f.lists _ refl refl refl)
quiet_command f g m (command.Draw indexes) page after answer quiet e = quiet_counter f g _ e.0.1
quiet_command f g m (command.DrawUndo indexes) page after answer quiet e = quiet_counter f g _ e.0.1
