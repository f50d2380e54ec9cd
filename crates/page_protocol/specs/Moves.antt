-- The moves of pages, logs and members, and the lists of moves. Beside each move stands who knows what its guard says:
-- the member that makes it, the facility in that event, or the lock world.
use Rattle.std.specs.Prelude.{◌≡◌, ◌≢◌, ℕ, ◌+◌, ◌<◌, ◌≤◌, Bool, true, false, List, [], ◌∷◌, Some, None, ◌⊎◌, if◌then◌else◌, ◌==◌}
use Rattle.page_protocol.specs.Page.{Page, Group, Up, Failed, Restarting, AllStable, copy_before, put, unfilled, read, read_disk, write, write_direct, change, castout_read, castout_write, castout_done, reclaim, drop_frame, redo, rebuild, lose, fail, owned, owned_whole, given_up, all_fail, brought_forward, compensate, risen}

pub record World : Type 0 where
  pub down : Bool  -- the group failed, and its restart hasn't ended
  pub group : Group
  pub pages : ℕ → Page

-- moves of one page
pub data PageMove : Type 0 where
  Read : ℕ → Bool → PageMove
  ReadDisk : ℕ → PageMove
  Write : ℕ → PageMove
  WriteDirect : ℕ → PageMove
  CastoutRead : ℕ → ℕ → PageMove
  CastoutWrite : ℕ → PageMove
  CastoutDone : ℕ → PageMove
  Reclaim : PageMove
  DropFrame : ℕ → PageMove
  Lock : ℕ → PageMove
  Unlock : ℕ → PageMove
  Redo : ℕ → PageMove
  PutAside : ℕ → PageMove
  Purge : ℕ → PageMove
  Rebuild : ℕ → PageMove

pub data Move : Type 0 where
  At : ℕ → PageMove → Move
  Draw : ℕ → (ℕ → Bool) → Move
  Force : ℕ → ℕ → Move
  TakeSet : ℕ → ℕ → Move
  YieldSet : ℕ → ℕ → Move
  PurgeSet : ℕ → ℕ → Move
  Lose : Move
  ReadLog : ℕ → Move
  Rebuilt : Move
  Fail : ℕ → (ℕ → ℕ) → Move
  Restart : ℕ → Move
  Open : ℕ → Move
  GroupFail : (ℕ → ℕ) → ℕ → Move
  Forward : ℕ → ℕ → Move
  Compensate : ℕ → ℕ → Move
  Append : ℕ → Move
  Rise : Move

-- no other member has the page by its whole page set
abbrev pub MayUse : Page → ℕ → Type 0
MayUse p m = p.sole ≡ true → p.owner ≡ Some m

-- a sole user reads the disk page only where its registration found no bytes in the cache
abbrev pub MayFill : Group → Page → ℕ → Type 0
MayFill g p m = p.sole ≡ true → (p.owner ≡ Some m) × (g.status m ≡ Up → (p.frame m).direct ≡ true)

-- only a member that is up and the sole user of the page's set has direct frames
abbrev pub MayBeDirect : Group → Page → ℕ → Bool → Type 0
MayBeDirect g p m direct = direct ≡ true → (p.sole ≡ true) × (p.owner ≡ Some m) × (g.status m ≡ Up)

-- no change of the member is missing in the group's copy, nor in the one that stood before a loss
abbrev pub IsWritten : Group → Page → ℕ → Type 0
IsWritten g p m = (i : ℕ) → copy_before g p ≤ i → i < p.last → p.author i ≢ m

-- the version that the read part of the logs leads to: it has what was read and nothing else
pub record IsRead (g : Group) (p : Page) (n : ℕ) : Type 0 where
  pub short : n ≤ p.last
  pub has : (i : ℕ) → i < n → p.place i < g.read (p.author i)
  pub no_more : (i : ℕ) → n ≤ i → i < p.last → g.read (p.author i) ≤ p.place i

-- Of each move of a page: what must hold before, and who knows it.
abbrev pub PageStep : Group → Page → PageMove → Page → Type 0
-- a registration: the facility answers, so the cache is there; the member runs, and has a claim on the page's set that
-- no sole use of another stands beside (lock world); it knows its own mode on the set
PageStep g p (Read m direct) q = (g.lost ≡ false) × (g.status m ≢ Failed) × MayUse p m × MayBeDirect g p m direct × (q ≡ read p m direct)
-- the member's own frame, registered with no bytes found, and its claim on the set at this moment
PageStep g p (ReadDisk m) q = (g.status m ≢ Failed) × ((p.frame m).filled ≡ false) × MayFill g p m × (q ≡ read_disk p m)
-- the facility is there; the member's own frame, and its own log: the number of the last change is stable
PageStep g p (Write m) q = (g.lost ≡ false) × (g.status m ≢ Failed) × ((p.frame m).marked ≡ true) × AllStable g p (p.frame m).version × (q ≡ write p m)
-- the same for a direct frame; that the cache is there is looked at in this event
PageStep g p (WriteDirect m) q = (g.lost ≡ false) × ((p.frame m).direct ≡ true) × ((p.frame m).marked ≡ true) × AllStable g p (p.frame m).version × (q ≡ write_direct p m)
-- tested by the facility in this event, all four
PageStep g p (CastoutRead m v) q = (g.lost ≡ false) × (p.changed ≡ true) × (p.bytes ≡ Some v) × ((p.castout ≡ None) ⊎ (p.castout ≡ Some m)) × (q ≡ castout_read p m v)
-- the castout lock's holder is looked at in this event
PageStep g p (CastoutWrite m) q = (p.castout ≡ Some m) × (q ≡ castout_write p)
-- the holder is tested by the facility; the member's castout remembers its disk write
PageStep g p (CastoutDone m) q = (p.castout ≡ Some m) × (p.sent ≡ true) × (q ≡ castout_done p)
-- the facility takes an entry that is neither changed nor under castout
PageStep g p Reclaim q = (p.changed ≡ false) × (p.castout ≡ None) × (q ≡ reclaim p)
-- the member's own frame
PageStep g p (DropFrame m) q = ((p.frame m).marked ≡ false) × (q ≡ drop_frame p m)
-- page locks conflict, held or retained (lock world)
PageStep g p (Lock m) q = (p.owner ≡ None) × (g.status m ≢ Failed) × (q ≡ owned p m)
-- the member's own lock and frame; the set isn't held as sole, or there is no page lock
PageStep g p (Unlock m) q = (p.owner ≡ Some m) × (p.sole ≡ false) × (g.status m ≡ Up) × ((p.frame m).marked ≡ false) × (q ≡ given_up p)
-- forward recovery of a page or set that the restarting member retains, over a frame that is registered and filled
PageStep g p (Redo m) q = (p.owner ≡ Some m) × (g.status m ≡ Restarting) × ((p.frame m).filled ≡ true) × (p.bit m ≡ true) × (q ≡ redo p m)
-- a restart puts aside a page that it has changed, and still owns: it knows its own standing, frame and log, in which all its changes stand on disk
PageStep g p (PutAside m) q = (g.status m ≡ Restarting) × ((p.frame m).marked ≡ true) × AllStable g p p.last × (q ≡ drop_frame p m)
-- a restart gives a page up: its own log's changes of it are in the group's copy, as their numbers show
PageStep g p (Purge m) q = (p.owner ≡ Some m) × (p.sole ≡ false) × (g.status m ≡ Restarting) × ((p.frame m).marked ≡ false) × IsWritten g p m × (q ≡ given_up p)
-- the claimant of the rebuild, by redo of the records that it read after the loss
PageStep g p (Rebuild n) q = (g.lost ≡ true) × IsRead g p n × (q ≡ rebuild p n)

-- a member may change a page that it owns, in a frame that it may use and that has the last version
pub record MayChange (g : Group) (p : Page) (m : ℕ) : Type 0 where
  pub own : p.owner ≡ Some m
  pub live : g.status m ≢ Failed
  pub newest : (g.status m ≡ Up) ⊎ ((p.frame m).marked ≡ true) ⊎ IsWritten g p m
  pub filled : (p.frame m).filled ≡ true
  pub usable : (p.bit m ≡ true) ⊎ ((p.sole ≡ true) × (g.status m ≡ Up))

-- the chain keeps what the failed member had on disk, and what others wrote
pub record IsCut (g : Group) (m : ℕ) (p : Page) (n : ℕ) : Type 0 where
  pub short : n ≤ p.last
  pub kept : (i : ℕ) → i < n → p.author i ≡ m → p.place i < g.stable m
  pub gone : (i : ℕ) → n ≤ i → i < p.last → (p.author i ≡ m) × (g.stable m ≤ p.place i)

-- no change that is left has a greater number
abbrev pub AreDrawnBy : Page → ℕ → ℕ → Type 0
AreDrawnBy p n counter = (i : ℕ) → i < n → p.lrsn i ≤ counter

-- every log keeps what it has on disk
pub record IsWholeCut (g : Group) (p : Page) (n : ℕ) : Type 0 where
  pub short : n ≤ p.last
  pub kept : AllStable g p n
  pub gone : (i : ℕ) → n ≤ i → i < p.last → g.stable (p.author i) ≤ p.place i

-- nobody has a lock, a frame or a registration of the page
pub record IsUnused (p : Page) : Type 0 where
  pub free : p.owner ≡ None
  pub no_frame : (k : ℕ) → (p.frame k).filled ≡ false
  pub no_bit : (k : ℕ) → p.bit k ≡ false

pub record MayYield (g : Group) (p : Page) (m : ℕ) : Type 0 where
  pub own : p.owner ≡ Some m
  pub sole : p.sole ≡ true
  pub up : g.status m ≡ Up
  pub clean : (p.frame m).marked ≡ false
  pub dropped : (p.frame m).filled ≡ false
  pub undirect : (p.frame m).direct ≡ false

pub record MayPurge (g : Group) (p : Page) (m : ℕ) : Type 0 where
  pub own : p.owner ≡ Some m
  pub sole : p.sole ≡ true
  pub restarting : g.status m ≡ Restarting
  pub clean : (p.frame m).marked ≡ false
  pub written : IsWritten g p m

-- ---- what moves leave of the group
abbrev pub drawn : Group → ℕ → Group
drawn g m = record g { written = put g.written m (g.written m + 1); counter = g.counter + 1 }

abbrev pub forced : Group → ℕ → ℕ → Group
forced g m k = record g { stable = put g.stable m k }

abbrev pub without_cache : Group → Group
without_cache g = record g { lost = true; read = g.stable }

abbrev pub log_read : Group → ℕ → Group
log_read g m = record g { read = put g.read m (g.stable m) }

abbrev pub with_cache : Group → Group
with_cache g = record g { lost = false }

abbrev pub failed : Group → ℕ → Group
failed g m = record g { status = put g.status m Failed; written = put g.written m (g.stable m) }

abbrev pub restarting : Group → ℕ → Group
restarting g m = record g { status = put g.status m Restarting }

abbrev pub opened : Group → ℕ → Group
opened g m = record g { status = put g.status m Up }

abbrev pub all_failed : Group → ℕ → Group
all_failed g counter = record g { written = g.stable; status = λ m. Failed; counter = counter; lost = true }

-- a record of the log of m, stable at once
abbrev pub longer : Group → ℕ → Group
longer g m = record g { stable = put g.stable m (g.stable m + 1); written = put g.written m (g.stable m + 1); counter = g.counter + 1 }

abbrev pub all_up : Group → Group
all_up g = record g { status = λ m. Up; lost = false }

-- Of each move of the group: what must hold before, and who knows it. The set of a page is given by a function.
abbrev pub Step : (ℕ → ℕ) → World → Move → World → Type 0
Step set w (At n e) v = (w.down ≡ false) × ((q : Page) × PageStep w.group (w.pages n) e q × (v ≡ record { down = false; group = w.group; pages = put w.pages n q }))
-- one log record of one member, and the pages that it changes (none: a commit record, say); the draw tests the bits and
-- the own claims on pages and sets
Step set w (Draw m touched) v =
    (w.down ≡ false) × ((n : ℕ) → touched n ≡ true → MayChange w.group (w.pages n) m)
    × (v ≡ record { down = false; group = drawn w.group m; pages = λ n. if touched n then change (w.pages n) m (w.group.written m) (w.group.counter + 1) else w.pages n })
-- an append, also one that a dying disk took in part
Step set w (Force m k) v = (w.down ≡ false) × (w.group.stable m ≤ k) × (k ≤ w.group.written m) × (v ≡ record { down = false; group = forced w.group m k; pages = w.pages })
-- nobody has a claim on the set (lock world), and frames and page locks of a set stand only beside a claim on it
Step set w (TakeSet s m) v =
    (w.down ≡ false) × (w.group.status m ≡ Up) × ((n : ℕ) → (set n == s) ≡ true → IsUnused (w.pages n))
    × (v ≡ record { down = false; group = w.group; pages = λ n. if set n == s then owned_whole (w.pages n) m else w.pages n })
-- the member's own claim; it has written and dropped all its frames of the set
Step set w (YieldSet s m) v =
    (w.down ≡ false) × ((n : ℕ) → (set n == s) ≡ true → MayYield w.group (w.pages n) m)
    × (v ≡ record { down = false; group = w.group; pages = λ n. if set n == s then given_up (w.pages n) else w.pages n })
-- a restart has brought forward and written all pages of a set that its member retains as sole user
Step set w (PurgeSet s m) v =
    (w.down ≡ false) × ((n : ℕ) → (set n == s) ≡ true → MayPurge w.group (w.pages n) m)
    × (v ≡ record { down = false; group = w.group; pages = λ n. if set n == s then given_up (w.pages n) else w.pages n })
-- the loss of the cache; while it is lost another loss changes nothing
Step set w Lose v = (w.down ≡ false) × (w.group.lost ≡ false) × (v ≡ record { down = false; group = without_cache w.group; pages = λ n. lose (w.pages n) })
-- a rebuild reads a log to its end; each claimant reads all logs before it rebuilds a page
Step set w (ReadLog m) v = (w.down ≡ false) × (w.group.lost ≡ true) × (v ≡ record { down = false; group = log_read w.group m; pages = w.pages })
-- the claimant has brought each page to what it has read
Step set w Rebuilt v =
    (w.down ≡ false) × (w.group.lost ≡ true) × ((n : ℕ) → IsRead w.group (w.pages n) (w.pages n).disk)
    × (v ≡ record { down = false; group = with_cache w.group; pages = w.pages })
-- what is cut of each chain is what the failed log hadn't on disk; there always is such a cut
Step set w (Fail m cut) v =
    (w.down ≡ false) × ((n : ℕ) → IsCut w.group m (w.pages n) (cut n))
    × (v ≡ record { down = false; group = failed w.group m; pages = λ n. fail (w.pages n) m (cut n) })
Step set w (Restart m) v = (w.down ≡ false) × (w.group.status m ≡ Failed) × (v ≡ record { down = false; group = restarting w.group m; pages = w.pages })
-- the restart has purged the records of all its pages and sets, and has given up what its undo took
Step set w (Open m) v =
    (w.down ≡ false) × (w.group.status m ≡ Restarting) × ((n : ℕ) → (w.pages n).owner ≢ Some m)
    × (v ≡ record { down = false; group = opened w.group m; pages = w.pages })
-- all members and the cache fail, also inside a rebuild, a restart or a group restart; the numbers of records that are lost
-- are drawn once more: group restart reads the greatest one of the logs on disk
Step set w (GroupFail cut counter) v =
    ((n : ℕ) → IsWholeCut w.group (w.pages n) (cut n)) × ((n : ℕ) → AreDrawnBy (w.pages n) (cut n) counter)
    × (v ≡ record { down = true; group = all_failed w.group counter; pages = λ n. all_fail (w.pages n) (cut n) })
-- group restart alone runs: it brings a page forward by the merged records, and by each compensation that it appended
Step set w (Forward n k) v =
    (w.down ≡ true) × ((w.pages n).disk ≤ k) × (k ≤ (w.pages n).last)
    × (v ≡ record { down = true; group = w.group; pages = put w.pages n (brought_forward (w.pages n) k) })
Step set w (Compensate n m) v = (w.down ≡ true) × (v ≡ record { down = true; group = longer w.group m; pages = put w.pages n (compensate (w.pages n) m (w.group.stable m) (w.group.counter + 1)) })
Step set w (Append m) v = (w.down ≡ true) × (v ≡ record { down = true; group = longer w.group m; pages = w.pages })
-- group restart has brought each page to its last version
Step set w Rise v =
    (w.down ≡ true) × ((n : ℕ) → (w.pages n).disk ≡ (w.pages n).last)
    × (v ≡ record { down = false; group = all_up w.group; pages = λ n. risen (w.pages n) })

abbrev pub Run : (ℕ → ℕ) → World → List Move → World → Type 0
Run set w [] v = v ≡ w
Run set w (e ∷ es) v = (mid : World) × Step set w e mid × Run set mid es v

abbrev pub blank : Page
blank = record {
  last = 0;
  author = λ i. 0;
  place = λ i. 0;
  lrsn = λ i. 0;
  disk = 0;
  bytes = None;
  changed = false;
  written_since = false;
  castout = None;
  buffer = 0;
  sent = false;
  bit = λ m. false;
  frame = λ m. unfilled 0 false;
  owner = None;
  sole = false;
  shared = 0;
  at_loss = 0;
}

-- over empty disks
abbrev pub start : World
start = record { down = false; group = record { stable = λ m. 0; written = λ m. 0; read = λ m. 0; status = λ m. Up; counter = 0; lost = false }; pages = λ n. blank }
