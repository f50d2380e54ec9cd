-- What the intents of a restart send, where they are lawful: those that change locks, and no others.
use Rattle.std.specs.Prelude.{◌≡◌, ◌||◌, ℕ, Bool, true, false, Some, None, is_none, Ok}
use Rattle.ds_base.specs.declared.names.PageId.{PageId}
use Rattle.ds_model.specs.declared.lock.Name.TheVariants as name
use Rattle.lock_names.specs.declared.mode.Mode.TheVariants.{X}
use Rattle.list_structure.specs.declared.standing.MemberStatus.TheVariants.{Up}
use Rattle.facility.specs.declared.command.Command.{Command}
use Rattle.facility.specs.declared.command.Command.TheVariants as command
use Rattle.restart_records.specs.Trans.{page_undone}
use Rattle.restart_marks.specs.declared.intent.RestartIntent.{RestartIntent}
use Rattle.restart_marks.specs.declared.intent.RestartIntent.TheVariants as intent
use Rattle.restart_marks.specs.declared.intent.RestartSent.{RestartSent}
use Rattle.restart_marks.specs.declared.intent.RestartSent.TheVariants as sent
use Rattle.restart_marks.specs.Moves.{is_claimed}
use Rattle.restart_marks.specs.Needs.{need_of}
use Rattle.restart_marks.specs.State.{RestartState}
use Rattle.lock_protocol.specs.Machine.{no_interest}
use Rattle.lock_world.specs.Tied.{is_own}

-- commands of a restart that change no locks, ask nothing and set no standing
abbrev pub is_still : Command → Bool
is_still (command.RetainedAt n) = true
is_still (command.Read id index) = true
is_still (command.Write id index) = true
is_still (command.Unregister index) = true
is_still (command.Test index) = true
is_still (command.Answers slot) = true
is_still (command.Status member) = true
is_still (command.DrawUndo indexes) = true
is_still _ = false

abbrev pub IsStill : RestartSent → Type 0
IsStill (sent.Command c) = is_still c ≡ true
IsStill _ = Unit {0}

-- the page of the newest change that stands, and no other page is claimed
abbrev pub LocksPage : RestartState → ℕ → (PageId → Command) → RestartSent → Type 0
LocksPage s id f x = (page : PageId) × (x ≡ sent.Command (f page)) × (page_undone s.trans id ≡ Some page) × ((is_none s.claim || is_claimed s page) ≡ true)

abbrev pub Sends : RestartState → RestartIntent → RestartSent → Type 0
Sends s (intent.Obtain id) x = LocksPage s id (λ page. command.Obtain (name.Page page) X) x
Sends s (intent.Grant id) x = LocksPage s id (λ page. command.Grant 0 (name.Page page) X) x
Sends s (intent.Ask id to) x = (page : PageId) × (x ≡ sent.Command (command.Ask 0 to (name.Page page) X))
Sends s intent.ReleasePage x = (page : PageId) × (x ≡ sent.Command (command.Release (name.Page page) no_interest)) × (s.claim ≡ Some page)
Sends s intent.PurgePage x = (page : PageId) × (x ≡ sent.Command (command.Purge (name.Page page))) × (is_claimed s page ≡ false)
Sends s (intent.Purge n) x = (x ≡ sent.Command (command.Purge n)) × (is_own n ≡ false)
Sends s intent.Up x = (x ≡ sent.Command (command.SetStatus Up)) × (s.claim ≡ None)
Sends s _ x = IsStill x

abbrev pub SendsLawfully : Type 0
SendsLawfully = (s : RestartState) (i : RestartIntent) (x : RestartSent) → need_of s i ≡ Ok x → Sends s i x
