-- One page in the group: its chain of changes, the disk, the cache structure and the members' frames.
--
-- Members, pages, versions and places in logs are numbers. Version v of a page is the page of zeros after the first v
-- changes of its chain, and the chain is over all logs: it has each change that stands on disk or in a log buffer.
use Rattle.std.specs.Prelude.{ℕ, ◌+◌, ◌<◌, Bool, true, false, Option, Some, None, if◌then◌else◌, ◌==◌, unwrap_or}

-- a function with another value at one number
abbrev pub put : {A : Type 0} → (ℕ → A) → ℕ → A → ℕ → A
put f k x q = if q == k then x else f q

-- ---- what there is
pub data Status : Type 0 where
  Up : Status
  Failed : Status
  Restarting : Status

pub record Frame : Type 0 where
  pub filled : Bool
  pub marked : Bool  -- changed since it was last written
  pub direct : Bool  -- filled from disk under its whole page set, and written to disk
  pub version : ℕ

pub record Page : Type 0 where
  pub last : ℕ  -- how many changes the chain has
  pub author : ℕ → ℕ  -- by change: the member whose log has it
  pub place : ℕ → ℕ  -- by change: where it stands in that log
  pub lrsn : ℕ → ℕ  -- by change: its number over all logs
  pub disk : ℕ  -- the version on disk
  pub bytes : Option ℕ  -- the version in the cache structure
  pub changed : Bool  -- the cache's bytes weren't cast out since they were written
  pub written_since : Bool  -- the page was written since the castout lock was taken
  pub castout : Option ℕ  -- the member that holds the castout lock
  pub buffer : ℕ  -- the version in the castout's buffer
  pub sent : Bool  -- the buffer was written to disk under this castout lock
  pub bit : ℕ → Bool  -- by member: its frame of the page is registered and was not invalidated
  pub frame : ℕ → Frame  -- by member
  pub owner : Option ℕ  -- the member whose page lock, or whose page set as sole user, is held or retained
  pub sole : Bool  -- the owner has the page by its whole page set
  pub shared : ℕ  -- the greatest version that was ever the group's copy
  pub at_loss : ℕ  -- the same at the latest loss of the cache

-- the group, as a page sees it
pub record Group : Type 0 where
  pub stable : ℕ → ℕ  -- by member: how many records of its log are on disk
  pub written : ℕ → ℕ  -- by member: the same with its log buffer
  pub read : ℕ → ℕ  -- by member: how many of its records a rebuild has, which has read each log after the loss
  pub status : ℕ → Status
  pub counter : ℕ  -- the greatest number that was drawn
  pub lost : Bool  -- the cache structure is lost, and its rebuild hasn't ended

-- the cache's bytes, or else the disk's page
abbrev pub group_copy : Page → ℕ
group_copy p = unwrap_or p.bytes p.disk

-- the group's copy, or while the cache is lost the one that stood before the loss
abbrev pub copy_before : Group → Page → ℕ
copy_before g p = if g.lost then p.at_loss else p.shared

-- the changes below the version stand in logs on disk
abbrev pub AllStable : Group → Page → ℕ → Type 0
AllStable g p v = (i : ℕ) → i < v → p.place i < g.stable (p.author i)

abbrev pub unfilled : ℕ → Bool → Frame
unfilled v direct = record { filled = false; marked = false; direct = direct; version = v }

abbrev pub holding : ℕ → Frame
holding v = record { filled = true; marked = false; direct = false; version = v }

-- ---- what moves leave of a page
abbrev pub after_read : Option ℕ → Bool → Frame → Frame
after_read (Some v) direct f = if f.marked then f else holding v
after_read None direct f = if f.marked then record f { direct = direct } else unfilled f.version direct

abbrev pub read : Page → ℕ → Bool → Page
read p m direct = record p { bit = put p.bit m true; frame = put p.frame m (after_read p.bytes direct (p.frame m)) }

abbrev pub read_disk : Page → ℕ → Page
read_disk p m = record p { frame = put p.frame m (record (p.frame m) { filled = true; version = p.disk }) }

-- a write to the cache invalidates all other frames
abbrev pub write : Page → ℕ → Page
write p m = record p {
  bytes = Some (p.frame m).version;
  changed = true;
  written_since = true;
  bit = λ k. k == m;
  frame = put p.frame m (holding (p.frame m).version);
  shared = (p.frame m).version;
}

abbrev pub write_direct : Page → ℕ → Page
write_direct p m = record p {
  disk = (p.frame m).version;
  frame = put p.frame m (record (p.frame m) { marked = false });
  shared = (p.frame m).version;
}

abbrev pub change : Page → ℕ → ℕ → ℕ → Page
change p m at number = record p {
  last = p.last + 1;
  author = put p.author p.last m;
  place = put p.place p.last at;
  lrsn = put p.lrsn p.last number;
  frame = put p.frame m (record (p.frame m) { marked = true; version = (p.frame m).version + 1 });
}

abbrev pub castout_read : Page → ℕ → ℕ → Page
castout_read p m v = record p { castout = Some m; written_since = false; buffer = v; sent = false }

abbrev pub castout_write : Page → Page
castout_write p = record p { disk = p.buffer; sent = true }

abbrev pub castout_done : Page → Page
castout_done p = record p { castout = None; changed = p.written_since }

-- an entry of the cache that isn't changed is used for another page
abbrev pub reclaim : Page → Page
reclaim p = record p { bytes = None; bit = λ k. false }

abbrev pub drop_frame : Page → ℕ → Page
drop_frame p m = record p { bit = put p.bit m false; frame = put p.frame m (unfilled 0 false) }

-- the member's own log brings its frame to the last version
abbrev pub redo : Page → ℕ → Page
redo p m = record p { frame = put p.frame m (record { filled = true; marked = true; direct = false; version = p.last }) }

abbrev pub rebuild : Page → ℕ → Page
rebuild p n = record p { disk = n; shared = n }

abbrev pub lose : Page → Page
lose p = record p { bytes = None; changed = false; castout = None; bit = λ k. false; at_loss = p.shared }

-- a failure takes the member's frame, registration and castout lock, and what its log hadn't on disk
abbrev pub fail : Page → ℕ → ℕ → Page
fail p m n = record p {
  last = n;
  castout = if (unwrap_or p.castout (m + 1)) == m then None else p.castout;
  bit = put p.bit m false;
  frame = put p.frame m (unfilled 0 false);
}

abbrev pub owned : Page → ℕ → Page
owned p m = record p { owner = Some m }

abbrev pub owned_whole : Page → ℕ → Page
owned_whole p m = record p { owner = Some m; sole = true }

abbrev pub given_up : Page → Page
given_up p = record p { owner = None; sole = false }

-- ---- what a failure of all members and of the cache leaves, and what group restart does
abbrev pub all_fail : Page → ℕ → Page
all_fail p n = record p { last = n; bytes = None; changed = false; castout = None; bit = λ m. false; frame = λ m. unfilled 0 false; owner = None; sole = false }

abbrev pub brought_forward : Page → ℕ → Page
brought_forward p v = record p { disk = v }

-- a compensation in the log of m, stable at once
abbrev pub compensate : Page → ℕ → ℕ → ℕ → Page
compensate p m at number = record p { last = p.last + 1; author = put p.author p.last m; place = put p.place p.last at; lrsn = put p.lrsn p.last number }

abbrev pub risen : Page → Page
risen p = record p { shared = p.last }
