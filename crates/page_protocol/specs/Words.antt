-- What coherence gives to the layers above, each fact by its name.
use Rattle.std.specs.Prelude.{◌≡◌, ℕ, ◌<◌, ◌≤◌, ◌⊎◌, true, false, List, Some, None}
use Rattle.page_protocol.specs.Page.{Page, Group, Up, Failed, Restarting, AllStable, group_copy, copy_before}
use Rattle.page_protocol.specs.Moves.{World, Move, Rebuilt, Rise, Step, Run, IsRead, IsCut, IsWholeCut, AreDrawnBy}
use Rattle.page_protocol.specs.Coherent.{Coherent}
use Rattle.page_protocol.specs.Down.{Grounded}
use Rattle.page_protocol.specs.Always.{Good}

-- ---- one page at one moment

-- every page on disk, in the cache, in a filled frame and in a castout's buffer is a version
pub record AreVersions (p : Page) : Type 0 where
  pub disk : p.disk ≤ p.last
  pub cache : (v : ℕ) → p.bytes ≡ Some v → v ≤ p.last
  pub frames : (m : ℕ) → (p.frame m).filled ≡ true → (p.frame m).version ≤ p.last
  pub buffer : (m : ℕ) → p.castout ≡ Some m → p.buffer ≤ p.last

-- a member may use a frame whose bit is set, and any filled frame of a page set that it has as sole user
abbrev pub IsUsable : Group → Page → ℕ → Type 0
IsUsable g p m = ((p.frame m).filled ≡ true) × ((p.bit m ≡ true) ⊎ ((p.sole ≡ true) × (p.owner ≡ Some m) × (g.status m ≡ Up)))

-- a frame that may be used is the shared version, or the last one of a page that its member owns
abbrev pub NewestAllowed : Group → Page → Type 0
NewestAllowed g p = (m : ℕ) → IsUsable g p m → ((p.frame m).version ≡ p.shared) ⊎ ((p.owner ≡ Some m) × ((p.frame m).version ≡ p.last))

-- a member that is up finds each change of its own, and each that is shared, in a frame that it may use
abbrev pub FindsOwn : Group → Page → Type 0
FindsOwn g p = (m i : ℕ) → IsUsable g p m → g.status m ≡ Up → (i < p.shared) ⊎ ((i < p.last) × (p.author i ≡ m)) → i < (p.frame m).version

-- changes that aren't shared are the owner's, and are in its frame, or on disk in its log if it is failed, or restarts and has
-- not changed its frame; while the cache is lost the same holds of changes that aren't in the copy that stood before the loss
pub record AreTheOwners (g : Group) (p : Page) : Type 0 where
  pub author : (i : ℕ) → copy_before g p ≤ i → i < p.last → p.owner ≡ Some (p.author i)
  pub in_log : (i : ℕ) → copy_before g p ≤ i → i < p.last → p.place i < g.written (p.author i)
  pub in_frame : (m : ℕ) → p.owner ≡ Some m → copy_before g p < p.last → g.status m ≡ Up → ((p.frame m).filled ≡ true) × ((p.frame m).version ≡ p.last)
  pub on_disk : (m : ℕ) → p.owner ≡ Some m → g.status m ≡ Failed → AllStable g p p.last
  pub resting : (m : ℕ) → p.owner ≡ Some m → g.status m ≡ Restarting → (p.frame m).marked ≡ false → AllStable g p p.last

-- each change in the group's copy and on disk stands in a log on disk
abbrev pub StableBeforeShared : Group → Page → Type 0
StableBeforeShared g p = AllStable g p (group_copy p) × AllStable g p p.disk

-- the disk is never later than the cache, and equals what isn't changed there
pub record DiskIsNoLater (p : Page) : Type 0 where
  pub no_later : (v : ℕ) → p.bytes ≡ Some v → p.disk ≤ v
  pub equal : (v : ℕ) → p.bytes ≡ Some v → p.changed ≡ false → v ≡ p.disk

-- a castout's buffer is no earlier than the disk, and is the group's copy unless the page was written since
pub record BufferIsNew (p : Page) : Type 0 where
  pub no_older : (m : ℕ) → p.castout ≡ Some m → p.disk ≤ p.buffer
  pub whole : (m : ℕ) → p.castout ≡ Some m → p.written_since ≡ false → p.buffer ≡ group_copy p

pub record Gives (g : Group) (p : Page) : Type 0 where
  pub versions : AreVersions p
  pub newest_allowed : NewestAllowed g p
  pub finds_own : FindsOwn g p
  pub unshared : AreTheOwners g p
  pub stable_before_shared : StableBeforeShared g p
  pub disk_is_no_later : DiskIsNoLater p
  pub buffer_is_new : BufferIsNew p
  -- outside the recovery of a lost cache the group's copy is the newest that ever was
  pub newest_shared : g.lost ≡ false → group_copy p ≡ p.shared
  pub lost_bits : (m : ℕ) → g.lost ≡ true → p.bit m ≡ false

abbrev pub CoherentGives : Type 0
CoherentGives = (g : Group) (p : Page) → Coherent g p → Gives g p

-- while the group is down each page on disk is a version still, and no record that it rests on can be missing
abbrev pub FallenGives : Type 0
FallenGives = (g : Group) (p : Page) → Grounded g p → AreVersions p × StableBeforeShared g p

-- ---- one page over time

-- the shared version and the disk's never go back, and what was shared stays as it is
pub record IsLater (p q : Page) : Type 0 where
  pub shared : p.shared ≤ q.shared
  pub disk : p.disk ≤ q.disk
  pub author : (i : ℕ) → i < p.shared → q.author i ≡ p.author i
  pub place : (i : ℕ) → i < p.shared → q.place i ≡ p.place i
  pub lrsn : (i : ℕ) → i < p.shared → q.lrsn i ≡ p.lrsn i

abbrev pub NeverGoesBack : Type 0
NeverGoesBack = (set : ℕ → ℕ) (moves : List Move) (w v : World) → Good w → Run set w moves v → (n : ℕ) → IsLater (w.pages n) (v.pages n)

-- the cache is there, and the group runs
abbrev pub IsWhole : World → Type 0
IsWhole w = (w.down ≡ false) × (w.group.lost ≡ false)

-- whatever was lost and rebuilt between, and however often the group failed and was restarted
abbrev pub NoEarlierCopy : Type 0
NoEarlierCopy = (set : ℕ → ℕ) (moves : List Move) (w v : World) → Good w → Run set w moves v → IsWhole w → IsWhole v → (n : ℕ) → group_copy (w.pages n) ≤ group_copy (v.pages n)

-- ---- after a recovery

-- a rebuild leaves each page on disk alone, no earlier than it was in the cache before the loss; changes beyond it are the
-- owner's, as ever
abbrev pub AfterRebuild : Type 0
AfterRebuild = (set : ℕ → ℕ) (w v : World) → Good w → Step set w Rebuilt v → IsWhole v × ((n : ℕ) → ((w.pages n).at_loss ≤ group_copy (v.pages n)) × (group_copy (v.pages n) ≡ (v.pages n).disk))

-- the page's one copy is its last version, on disk; all its changes are stable, and nobody has a lock, a frame or a registration
pub record IsRecovered (g : Group) (p : Page) : Type 0 where
  pub disk : p.disk ≡ p.last
  pub copy : group_copy p ≡ p.last
  pub stable : AllStable g p p.last
  pub free : p.owner ≡ None
  pub no_frames : (m : ℕ) → (p.frame m).filled ≡ false
  pub no_bits : (m : ℕ) → p.bit m ≡ false

abbrev pub AfterGroupRestart : Type 0
AfterGroupRestart = (set : ℕ → ℕ) (w v : World) → Good w → Step set w Rise v → IsWhole v × ((m : ℕ) → v.group.status m ≡ Up) × ((n : ℕ) → IsRecovered v.group (v.pages n))

-- ---- what can always happen

-- a failure leaves a prefix of each chain
abbrev pub FailureIsPossible : Type 0
FailureIsPossible = (w : World) (m : ℕ) → Good w → w.down ≡ false → (n : ℕ) → (k : ℕ) × IsCut w.group m (w.pages n) k

-- what a rebuild has read of the logs beside running members is a prefix of each chain, no earlier than what was shared
abbrev pub RebuildIsPossible : Type 0
RebuildIsPossible = (w : World) → Good w → w.down ≡ false → w.group.lost ≡ true → (n : ℕ) → (k : ℕ) × ((w.pages n).shared ≤ k) × IsRead w.group (w.pages n) k

-- a group failure leaves a prefix of each chain, and no number above those that were drawn
abbrev pub GroupFailureIsPossible : Type 0
GroupFailureIsPossible = (w : World) → Good w → (n : ℕ) → (k : ℕ) × IsWholeCut w.group (w.pages n) k × AreDrawnBy (w.pages n) k w.group.counter
