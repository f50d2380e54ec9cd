-- What the sound world beside a group says of the group itself.
use Rattle.std.specs.Prelude.{◌≡◌, ◌⊎◌, ℕ, true, Some}
use Rattle.lock_names.specs.declared.mode.Mode.{Mode}
use Rattle.lock_names.specs.Modes.{are_compatible, class_of}
use Rattle.group_core.specs.Given.{CrewState}
use Rattle.lock_protocol.specs.Machine.{World, RetainedCovers, backs}
use Rattle.lock_protocol.specs.Words.{AreOthers}
use Rattle.lock_world.specs.Views.{entry_in, interest_in, record_in}
use Rattle.group_locks.specs.Stands.{LocksTied, known}

-- No two claims that members know of conflict, of two members or of two owners of one. Each stands behind the interest that its member has in
-- the entry of the lock table, or behind a retained record of the name that it has.
pub record ClaimsAgree (s : CrewState) : Type 0 where
  pub compatible : (k l o q c : ℕ) (a b : Mode) → AreOthers k o l q → known s.members k o c ≡ Some a → known s.members l q c ≡ Some b → are_compatible a b ≡ true
  pub backed : (k o c : ℕ) (a : Mode) → known s.members k o c ≡ Some a
      → (backs (class_of a) (interest_in s.facility.locks k (entry_in s.facility.locks c)) ≡ true) ⊎ RetainedCovers (record_in s.facility.locks k c) a

abbrev pub TiedAgree : Type 0
TiedAgree = (s : CrewState) (w : World) → LocksTied s w → ClaimsAgree s
