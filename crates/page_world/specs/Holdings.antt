-- What the group holds of pages: the facility, the disk, and the logs, frames and castouts of its members.
use Rattle.std.specs.Prelude.{◌≡◌, ◌≢◌, ℕ, ◌≤◌, Bool, false, ◌&&◌, ◌==◌, if◌then◌else◌, List, [], Option}
use Rattle.list_structure.specs.declared.standing.MemberStatus.{MemberStatus}
use Rattle.list_structure.specs.declared.standing.MemberStatus.TheVariants as standing
use Rattle.list_structure.specs.Standings.{status_of}
use Rattle.cache_structure.specs.Directory.{Directory, bytes_of, is_changed, castout_of, is_written, is_registered, bit}
use Rattle.facility.specs.States.{Held}
use Rattle.page_protocol.specs.Page.{Status, Up, Failed, Restarting}
use Rattle.page_world.specs.Numbers.{page_at}

-- a member's copy of a page, if it has one in a frame
pub record Copy : Type 0 where
  pub placed : Bool
  pub index : ℕ  -- the frame that has it
  pub filled : Bool  -- the frame has the page's bytes
  pub marked : Bool  -- changed since it was last written
  pub noted : Bool  -- the frame was registered for this page since the page is in it
  pub bytes : List ℕ

abbrev pub no_copy : Copy
no_copy = record { placed = false; index = 0; filled = false; marked = false; noted = false; bytes = [] }

-- what a member has in hand of the castout of a page
pub record Cast : Type 0 where
  pub taken : Bool  -- it has read the page's bytes from the cache structure, under the castout lock
  pub sent : Bool  -- and has written them to disk
  pub bytes : List ℕ

abbrev pub no_cast : Cast
no_cast = record { taken = false; sent = false; bytes = [] }

-- pages are named by their numbers
pub record Holdings : Type 0 where
  pub facility : Held
  pub disk : ℕ → List ℕ  -- by page
  pub stable : ℕ → ℕ  -- by member: how many records of its log that draw a number are on disk
  pub written : ℕ → ℕ  -- by member: the same with its log buffer
  pub copies : ℕ → ℕ → Copy  -- by member and page
  pub casts : ℕ → ℕ → Cast  -- by member and page
  pub owner : ℕ → Option ℕ  -- by page: the member whose page lock is held or retained

-- ---- one page

pub record PageHeld : Type 0 where
  -- in the cache structure: its bytes, whether they were changed since it was cast out, who holds its castout lock, and
  -- whether it was written since that was taken
  pub bytes : Option (List ℕ)
  pub changed : Bool
  pub castout : Option ℕ
  pub written : Bool
  pub disk : List ℕ
  -- by member
  pub bound : ℕ → Bool  -- the frame with the page is registered for it
  pub set : ℕ → Bool  -- that frame is registered
  pub copies : ℕ → Copy
  pub casts : ℕ → Cast
  pub owner : Option ℕ

abbrev pub held_of : Holdings → ℕ → PageHeld
held_of g n = record {
  bytes = bytes_of g.facility.directory (page_at n);
  changed = is_changed g.facility.directory (page_at n);
  castout = castout_of g.facility.directory (page_at n);
  written = is_written g.facility.directory (page_at n);
  disk = g.disk n;
  bound = λ m. is_registered g.facility.directory (page_at n) m (g.copies m n).index;
  set = λ m. bit g.facility.directory m (g.copies m n).index;
  copies = λ m. g.copies m n;
  casts = λ m. g.casts m n;
  owner = g.owner n;
}

-- ---- changes

-- a function of two numbers with another value in one place
abbrev pub put2 : {A : Type 0} → (ℕ → ℕ → A) → ℕ → ℕ → A → ℕ → ℕ → A
put2 f a b x p q = if (p == a) && (q == b) then x else f p q

abbrev pub with_copy : Holdings → ℕ → ℕ → Copy → Holdings
with_copy g m n c = record g { copies = put2 g.copies m n c }

abbrev pub with_cast : Holdings → ℕ → ℕ → Cast → Holdings
with_cast g m n c = record g { casts = put2 g.casts m n c }

abbrev pub with_facility : Holdings → Held → Holdings
with_facility g f = record g { facility = f }

abbrev pub with_directory : Holdings → Directory → Holdings
with_directory g d = record g { facility = record g.facility { directory = d } }

-- ---- standings

abbrev pub as_status : MemberStatus → Status
as_status standing.Up = Up
as_status standing.Restarting = Restarting
as_status standing.Failed = Failed
as_status standing.Down = Failed

-- what the world of pages sees of the facility stays
pub record KeepsPages (f after : Held) : Type 0 where
  pub directory : after.directory ≡ f.directory
  pub counter : after.counter ≡ f.counter
  pub members : after.lists.members ≡ f.lists.members
  pub statuses : after.lists.statuses ≡ f.lists.statuses

-- but for the standing of one member
pub record StandsAs (f after : Held) (m : ℕ) (s : MemberStatus) : Type 0 where
  pub directory : after.directory ≡ f.directory
  pub counter : after.counter ≡ f.counter
  pub members : after.lists.members ≡ f.lists.members
  pub own : status_of after.lists.statuses m ≡ s
  pub others : (k : ℕ) → 1 ≤ k → k ≢ m → status_of after.lists.statuses k ≡ status_of f.lists.statuses k
