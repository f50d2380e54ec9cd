-- What a member doesn't do while its restart is in hand.
use Rattle.std.specs.Prelude.{◌≡◌, ℕ, Bool, true, false, Option, Some, None, is_some}
use Rattle.ds_model.specs.declared.lock.Name.{Name}
use Rattle.facility.specs.declared.command.Command.{Command}
use Rattle.facility.specs.declared.command.Command.TheVariants as command
use Rattle.member_intents.specs.declared.intent.Intent.{Intent}
use Rattle.member_intents.specs.declared.intent.Intent.TheVariants as intent
use Rattle.member_trans.specs.Trans.{is_free}
use Rattle.member_marks.specs.State.{MarksState, slot_tran}
use Rattle.member_marks.specs.Claims.{is_agent, is_claimed}
use Rattle.restart_marks.specs.declared.intent.RestartSent.{RestartSent}
use Rattle.restart_marks.specs.declared.intent.RestartSent.TheVariants as sent
use Rattle.group_member.specs.Members.{Member}

-- the intent takes a lock or gives one up, or frees a retained record
abbrev pub changes_locks : Intent → Bool
changes_locks (intent.Obtain o n m) = true
changes_locks (intent.Grant o n m) = true
changes_locks (intent.ReleaseLock o) = true
changes_locks (intent.ReleasePage page) = true
changes_locks (intent.Purge n) = true
changes_locks (intent.End o) = true
changes_locks _ = false

-- the intent reads or writes a page in a frame, draws a number or writes a log record, or loses the cache. What a castout wants isn't meant: a restart that waits for room in the cache may have it by a
-- castout of its own member
abbrev pub touches_pages : Intent → Bool
touches_pages intent.LoseCache = true
touches_pages (intent.Read at) = true
touches_pages (intent.ReadPage at) = true
touches_pages (intent.Test at slot gives) = true
touches_pages (intent.WritePage at) = true
touches_pages (intent.Unregister at) = true
touches_pages (intent.Change slot action frames) = true
touches_pages (intent.Undo o at) = true
touches_pages (intent.Commit slot) = true
touches_pages intent.Append = true
touches_pages _ = false

-- ---- transactions

-- no slot of the member has a transaction
abbrev pub NoneInSlots : MarksState → Type 0
NoneInSlots s = (slot : ℕ) → is_agent s slot ≡ true → is_free (slot_tran s slot).stage ≡ true

abbrev pub RestsIdle : Member → Type 0
RestsIdle m = is_some m.restart ≡ true → NoneInSlots m.holds.marks

-- ---- retained records

abbrev pub purged_in : Command → Option Name
purged_in (command.Purge n) = Some n
purged_in _ = None

-- the name whose retained record the restart has freed
abbrev pub purged_by : RestartSent → Option Name
purged_by (sent.Command c) = purged_in c
purged_by _ = None

abbrev pub claims_name : MarksState → Option Name → Bool
claims_name s None = false
claims_name s (Some n) = is_claimed s n

-- the record is that of a name which a rollback of the member claims
abbrev pub frees_claimed : MarksState → RestartSent → Bool
frees_claimed s x = claims_name s (purged_by x)
