-- The moves that change one name: a retained record that is purged, and a lock that is released.
use Rattle.std.specs.Prelude.{◌≡◌, ◌≢◌, ℕ, ◌≤◌, Bool, true, ◌||◌, ◌==◌, if◌then◌else◌, [], ◌∷◌, Some, None}
use Rattle.ds_base.specs.Ids.{IsMember}
use Rattle.ds_model.specs.declared.lock.Name.{Name}
use Rattle.lock_names.specs.declared.mode.Mode.{Mode}
use Rattle.lock_names.specs.declared.mode.Interest.{Interest}
use Rattle.lock_names.specs.Modes.{class_of}
use Rattle.lock_structure.specs.Locks.{Locks, IsReleased, IsPurged}
use Rattle.list_structure.specs.States.{ListsState}
use Rattle.lock_protocol.specs.Machine.{World, backs}
use Rattle.lock_protocol.specs.Moves.{GiveUp, Purge, Release}
use Rattle.lock_world.specs.Numbers.{number}
use Rattle.lock_world.specs.Views.{entry_in, is_live_in}
use Rattle.lock_world.specs.Tied.{Claims, Tied, Moved}

-- all claims on one name
abbrev pub on_name : ℕ → ℕ → ℕ → Bool
on_name n o c = c == n

-- The member knows of no claim on the name: those of a failure are given up with the record.
abbrev pub PurgesMoves : Type 0
PurgesMoves = (w : World) (locks after : Locks) (lists : ListsState) (held : Claims) (m : ℕ) (n : Name)
    → Tied w locks lists held → IsMember m → ((o : ℕ) → held m o (number n) ≡ None) → IsPurged locks m n after
    → Moved w (GiveUp m (on_name (number n)) ∷ Purge m (number n) ∷ []) locks after lists held

-- what a release does to the claims of a member: these are gone, with all on the name
pub record Releases (held after : Claims) (m : ℕ) (n : Name) (which : ℕ → ℕ → Bool) : Type 0 where
  pub others : (k o c : ℕ) → k ≢ m → after k o c ≡ held k o c
  pub own : (o c : ℕ) → after m o c ≡ (if which o c then None else held m o c)
  pub all : (o : ℕ) → after m o (number n) ≡ None

-- the interest that is kept stands for the claims that are left
abbrev pub KeepsForAll : Locks → Claims → ℕ → Name → Interest → Type 0
KeepsForAll locks left m n keeps = (o c : ℕ) (x : Mode) → c ≢ number n → entry_in locks c ≡ entry_in locks (number n) → left m o c ≡ Some x → backs (class_of x) keeps ≡ true

abbrev pub ReleasesMoves : Type 0
ReleasesMoves = (w : World) (locks after : Locks) (lists : ListsState) (held left : Claims) (m owner : ℕ) (n : Name) (keeps : Interest) (which : ℕ → ℕ → Bool)
    → Tied w locks lists held → IsMember m → m ≤ lists.members → is_live_in lists m ≡ true → Releases held left m n which → KeepsForAll locks left m n keeps → IsReleased locks m n keeps after
    → Moved w (GiveUp m (λ o c. which o c || (c == number n)) ∷ Release m owner (number n) keeps ∷ []) locks after lists left
