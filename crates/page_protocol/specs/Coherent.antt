-- What holds of each page after every move, while the group runs.
use Rattle.std.specs.Prelude.{◌≡◌, ◌≢◌, ℕ, ◌<◌, ◌≤◌, true, false, Some, None, IsSome}
use Rattle.page_protocol.specs.Page.{Page, Group, Up, Failed, Restarting, group_copy, AllStable}

-- the castout's buffer, while its castout lock is held
pub record IsCasting (p : Page) : Type 0 where
  pub changed : p.changed ≡ true
  pub there : IsSome p.bytes
  pub no_older : p.disk ≤ p.buffer
  pub shared : p.buffer ≤ p.shared
  pub whole : p.written_since ≡ false → p.buffer ≡ p.shared
  pub sent : p.sent ≡ true → p.written_since ≡ false → p.disk ≡ p.shared

pub record Coherent (g : Group) (p : Page) : Type 0 where
  -- versions: the group's copy is the greatest that ever was, but while the cache is lost
  pub within : p.shared ≤ p.last
  pub disk_old : p.disk ≤ p.shared
  pub group : g.lost ≡ false → group_copy p ≡ p.shared
  pub lost_bytes : g.lost ≡ true → p.bytes ≡ None
  pub lost_castout : g.lost ≡ true → p.castout ≡ None
  pub lost_copy : g.lost ≡ true → p.at_loss ≤ p.shared
  pub lost_own : (i : ℕ) → g.lost ≡ true → p.at_loss ≤ i → i < p.last → p.owner ≡ Some (p.author i)
  pub lost_newest : (m : ℕ) → g.lost ≡ true → p.owner ≡ Some m → p.at_loss < p.last → g.status m ≡ Up → (p.frame m).marked ≡ true
  pub lost_bits : (m : ℕ) → g.lost ≡ true → p.bit m ≡ false
  -- logs: what is shared is stable, and a rebuild reads it
  pub stable : AllStable g p p.shared
  pub written : (i : ℕ) → i < p.last → p.place i < g.written (p.author i)
  pub failed_stable : (m : ℕ) → g.status m ≡ Failed → p.owner ≡ Some m → AllStable g p p.last
  pub resting_stable : (m : ℕ) → g.status m ≡ Restarting → p.owner ≡ Some m → (p.frame m).marked ≡ false → AllStable g p p.last
  pub forced : (m : ℕ) → g.stable m ≤ g.written m
  pub read_stable : (m : ℕ) → g.lost ≡ true → g.read m ≤ g.stable m
  pub read_shared : (i : ℕ) → g.lost ≡ true → i < p.shared → p.place i < g.read (p.author i)
  -- the owner: changes beyond the shared version are its own, and its frame has them
  pub own : (i : ℕ) → p.shared ≤ i → i < p.last → p.owner ≡ Some (p.author i)
  pub newest : (m : ℕ) → p.owner ≡ Some m → p.shared < p.last → g.status m ≡ Up → (p.frame m).marked ≡ true
  pub marked_own : (m : ℕ) → (p.frame m).marked ≡ true → p.owner ≡ Some m
  pub marked_filled : (m : ℕ) → (p.frame m).marked ≡ true → (p.frame m).filled ≡ true
  pub marked_last : (m : ℕ) → (p.frame m).marked ≡ true → (p.frame m).version ≡ p.last
  -- frames
  pub valid : (m : ℕ) → (p.frame m).filled ≡ true → p.bit m ≡ true → (p.frame m).marked ≡ false → (p.frame m).version ≡ p.shared
  pub old : (m : ℕ) → (p.frame m).filled ≡ true → (p.frame m).marked ≡ false → (p.frame m).version ≤ p.shared
  pub unfilled : (m : ℕ) → (p.frame m).filled ≡ false → p.bit m ≡ true → p.bytes ≡ None
  pub failed_frame : (m : ℕ) → g.status m ≡ Failed → (p.frame m).marked ≡ false
  -- castout
  pub clean : (v : ℕ) → p.bytes ≡ Some v → p.changed ≡ false → v ≡ p.disk
  pub casting : (m : ℕ) → p.castout ≡ Some m → IsCasting p
  -- a page set of one user
  pub unowned : p.owner ≡ None → p.sole ≡ false
  pub alone_frame : (m k : ℕ) → p.sole ≡ true → p.owner ≡ Some m → k ≢ m → (p.frame k).filled ≡ false
  pub alone_bit : (m k : ℕ) → p.sole ≡ true → p.owner ≡ Some m → k ≢ m → p.bit k ≡ false
  pub sole_valid : (m : ℕ) → p.sole ≡ true → p.owner ≡ Some m → g.status m ≡ Up → (p.frame m).filled ≡ true → (p.frame m).marked ≡ false → (p.frame m).version ≡ p.shared
  pub direct_sole : (m : ℕ) → (p.frame m).direct ≡ true → p.sole ≡ true
  pub direct_own : (m : ℕ) → (p.frame m).direct ≡ true → p.owner ≡ Some m
  pub direct_up : (m : ℕ) → (p.frame m).direct ≡ true → g.status m ≡ Up
  pub direct_bytes : (m : ℕ) → (p.frame m).direct ≡ true → p.bytes ≡ None
  pub direct_disk : (m : ℕ) → (p.frame m).direct ≡ true → p.disk ≡ p.shared
