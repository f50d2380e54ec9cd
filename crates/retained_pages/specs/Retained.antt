-- The page locks that the facility has retained for members.
use Rattle.std.specs.Prelude.{◌≡◌, ◌≢◌, ℕ, Bool, true, false, List, Some}
use Rattle.ds_base.specs.Ids.{IsMember}
use Rattle.ds_base.specs.declared.names.PageId.{PageId}
use Rattle.ds_model.specs.declared.lock.Name.{Name}
use Rattle.ds_model.specs.declared.lock.Name.TheVariants as name
use Rattle.lock_names.specs.declared.mode.Mode.{Mode}
use Rattle.lock_names.specs.declared.mode.Mode.TheVariants.{X}
use Rattle.lock_structure.specs.declared.chain.Record.{Record}
use Rattle.lock_structure.specs.Locks.{record_of, retained_in}
use Rattle.lock_structure.specs.Records.{is_retained, names_of}
use Rattle.lock_names.specs.Names.{same_name}
use Rattle.facility.specs.declared.command.Command.{Command}
use Rattle.facility.specs.declared.command.Command.TheVariants as command
use Rattle.facility.specs.declared.command.Reply.{Reply}
use Rattle.facility.specs.declared.command.Reply.TheVariants as reply
use Rattle.facility.specs.Commands.{Executes}
use Rattle.facility.specs.LockCommands.{GrantsLock, ObtainsLock}
use Rattle.facility.specs.States.{Held, MemberFailed}

abbrev pub in_x : Record
in_x = record { mode = X; retained = true }

-- the member's lock of the page is retained, in X
pub record Retains (f : Held) (m : ℕ) (p : PageId) : Type 0 where
  pub member : IsMember m
  pub has : record_of f.locks m (name.Page p) ≡ Some in_x

-- ---- commands

-- the record of the page is freed
abbrev pub purges : Command → PageId → Bool
purges (command.Purge n) p = same_name n (name.Page p)
purges _ p = false

-- whoever gives a command, it leaves each retained page lock, but the member's own whose record it frees
abbrev pub CommandsRetain : Type 0
CommandsRetain = (f g : Held) (m : ℕ) (c : Command) (page after : List ℕ) (answer : Reply) (k : ℕ) (p : PageId) → Executes f m c page answer g after → (k ≡ m → purges c p ≡ false) → Retains f k p → Retains g k p

-- the records of all other members, and which of their names are retained, are as they were
pub record SparesOthers (f g : Held) (m : ℕ) : Type 0 where
  pub records : (k : ℕ) (n : Name) → k ≢ m → record_of g.locks k n ≡ record_of f.locks k n
  pub names : (k : ℕ) → k ≢ m → names_of (retained_in g.locks k) ≡ names_of (retained_in f.locks k)

-- and the member's own are retained that were, but for the one that it frees
pub record KeepsOwn (f g : Held) (m : ℕ) (c : Command) : Type 0 where
  pub names : ((n : Name) → c ≢ command.Purge n) → names_of (retained_in g.locks m) ≡ names_of (retained_in f.locks m)
  pub retained : (n : Name) → is_retained (record_of g.locks m n) ≡ true → is_retained (record_of f.locks m n) ≡ true
  pub freed : (n : Name) → c ≡ command.Purge n → is_retained (record_of g.locks m n) ≡ false

abbrev pub CommandsSpare : Type 0
CommandsSpare = (f g : Held) (m : ℕ) (c : Command) (page after : List ℕ) (answer : Reply) → Executes f m c page answer g after → SparesOthers f g m × KeepsOwn f g m c

-- ---- failures

abbrev pub FailuresRetain : Type 0
FailuresRetain = (f g : Held) (m k : ℕ) (p : PageId) → MemberFailed f m g → Retains f k p → Retains g k p

abbrev pub FailuresSpare : Type 0
FailuresSpare = (f g : Held) (m : ℕ) → MemberFailed f m g → SparesOthers f g m

-- ---- nobody else is granted such a page

abbrev pub ObtainsNone : Type 0
ObtainsNone = (f g : Held) (m k version : ℕ) (mode : Mode) (p : PageId) → ObtainsLock f m (name.Page p) mode (reply.Granted version) g → Retains f k p → k ≡ m

abbrev pub GrantsNone : Type 0
GrantsNone = (f g : Held) (m k slot version : ℕ) (mode : Mode) (p : PageId) → GrantsLock f m slot (name.Page p) mode (reply.Granted version) g → Retains f k p → k ≡ m
