-- The lock structure: what stands in it, and what its answers are.
use Rattle.std.specs.Prelude.{◌≡◌, ℕ, ◌+◌, ◌<◌, ◌≤◌, ◌^◌, Bool, true, false, not, ◌&&◌, ◌||◌, ◌==◌, if◌then◌else◌, List, [], ◌∷◌, length, map, slice_index_or, replicate, Option, Some, None, is_some}
use Rattle.ds_base.specs.Ids.{IsMember}
use Rattle.lock_names.specs.Given.{Name}
use Rattle.lock_names.specs.declared.mode.Mode.{Mode}
use Rattle.lock_names.specs.declared.mode.Interest.{Interest}
use Rattle.lock_names.specs.Modes.{are_compatible, class_of, is_recorded}
use Rattle.lock_names.specs.Entries.{entry_number}
use Rattle.lock_structure.specs.declared.entry.Entry.{Entry}
use Rattle.lock_structure.specs.declared.chain.Record.{Record}
use Rattle.lock_structure.specs.declared.replies.Obtained.{Obtained}
use Rattle.lock_structure.specs.declared.replies.Obtained.TheVariants as obtained
use Rattle.lock_structure.specs.declared.replies.GrantReply.{GrantReply}
use Rattle.lock_structure.specs.declared.replies.GrantReply.TheVariants as grant
use Rattle.lock_structure.specs.Entries.{interest_in, has_member, blocks, blank, no_interest, with_class}
use Rattle.lock_structure.specs.Records.{Book, area_of, record_in, retained_of, names_of, without_name, is_retained, retained_by, how_many, room_for, Alters, Retains, after_grant, after_release, after_purge, no_records}

pub record Locks : Type 0 where
  pub entries : List Entry
  pub book : Book

abbrev pub entry_at : Locks → ℕ → Entry
entry_at w e = slice_index_or w.entries e blank

-- what the member has in an entry
abbrev pub interest_of : Locks → ℕ → ℕ → Interest
interest_of w m e = interest_in (entry_at w e) m

-- the member's record of the name
abbrev pub record_of : Locks → ℕ → Name → Option Record
record_of w m n = record_in w.book.held m n

-- the member's retained records
abbrev pub retained_in : Locks → ℕ → List (Name × Mode)
retained_in w m = retained_of m w.book.held

-- the entry on which the name falls
abbrev pub place_of : Locks → Name → ℕ
place_of w n = entry_number n (length w.entries)

abbrev pub entry_for : Locks → Name → Entry
entry_for w n = entry_at w (place_of w n)

-- the member's record of the name stands, or there is room for it
abbrev pub has_room : Locks → ℕ → Name → Bool
has_room w m n = room_for w.book m n

-- another member's retained record of this very name is in the way
abbrev pub is_kept_out : Option Record → Mode → Bool
is_kept_out None mode = false
is_kept_out (Some r) mode = r.retained && not (are_compatible r.mode mode)

abbrev pub keeps_out : Locks → ℕ → Name → Mode → ℕ → Bool
keeps_out w m n mode k = not (k == m) && is_kept_out (record_of w k n) mode

-- the lock would be recorded among those of table spaces and rows, and there is no room
abbrev pub is_full : Locks → ℕ → Name → Mode → Bool
is_full w m n mode = is_recorded mode && ((area_of m n == 0) && (not (is_some (record_of w m n)) && (how_many 0 w.book.held == w.book.records)))

-- another member's answer that it has nothing in the way, given at the entry's present version
abbrev pub is_clean : List (ℕ × ℕ) → ℕ → ℕ → Bool
is_clean [] k version = false
is_clean (c ∷ cs) k version = ((c.0 == k) && (c.1 == version)) || is_clean cs k version

-- another member's interest is in the way, and it has given no such answer
abbrev pub stands : Entry → ℕ → Mode → List (ℕ × ℕ) → ℕ → Bool
stands e m mode clean k = not (k == m) && (blocks (class_of mode) (interest_in e k) && not (is_clean clean k e.version))

-- the lowest member with the property, if one has it
abbrev pub IsLowest : (ℕ → Bool) → Option ℕ → Type 0
IsLowest p None = (k : ℕ) → IsMember k → p k ≡ false
IsLowest p (Some k) = IsMember k × (p k ≡ true) × ((j : ℕ) → IsMember j → j < k → p j ≡ false)

-- ---- what a call leaves

-- the member's interest in the entry becomes this; all other interest stays
abbrev pub SetsInterest : Locks → ℕ → ℕ → Interest → Locks → Type 0
SetsInterest w m at now v = (k e : ℕ) → IsMember k → interest_of v k e ≡ (if (k == m) && (e == at) then now else interest_of w k e)

-- what a grant to the member leaves
pub record IsGranted (w : Locks) (m : ℕ) (n : Name) (mode : Mode) (v : Locks) : Type 0 where
  pub same : length v.entries ≡ length w.entries
  pub versions : (e : ℕ) → (entry_at v e).version ≡ (if e == place_of w n then (entry_at w e).version + 1 else (entry_at w e).version)
  pub interest : SetsInterest w m (place_of w n) (with_class (class_of mode) (interest_of w m (place_of w n))) v
  pub records : Alters m n (after_grant mode) w.book v.book
  pub order : (k : ℕ) → names_of (retained_in v k) ≡ names_of (retained_in w k)

-- what a release leaves, where the member keeps this interest in the entry
pub record IsReleased (w : Locks) (m : ℕ) (n : Name) (keeps : Interest) (v : Locks) : Type 0 where
  pub same : length v.entries ≡ length w.entries
  pub versions : (e : ℕ) → (entry_at v e).version ≡ (entry_at w e).version
  pub interest : SetsInterest w m (place_of w n) keeps v
  pub records : Alters m n after_release w.book v.book
  pub order : (k : ℕ) → retained_in v k ≡ retained_in w k

-- what a purge of the member's record leaves
pub record IsPurged (w : Locks) (m : ℕ) (n : Name) (v : Locks) : Type 0 where
  pub entries : v.entries ≡ w.entries
  pub records : Alters m n after_purge w.book v.book
  pub order : (k : ℕ) → retained_in v k ≡ (if (k == m) && is_retained (record_of w m n) then without_name n (retained_in w k) else retained_in w k)

-- what a failure of the member leaves
pub record HasFailed (w : Locks) (m : ℕ) (v : Locks) : Type 0 where
  pub same : length v.entries ≡ length w.entries
  pub versions : (e : ℕ) → (entry_at v e).version ≡ (entry_at w e).version
  pub interest : (k e : ℕ) → IsMember k → e < length w.entries → interest_of v k e ≡ (if k == m then no_interest else interest_of w k e)
  pub records : Retains m w.book v.book
  pub order : v.book.held ≡ map (retained_by m) w.book.held

-- ---- which answer a request gets, and what it leaves

abbrev pub Obtains : Locks → ℕ → Name → Mode → Obtained → Locks → Type 0
Obtains w m n mode (obtained.Granted version) v =
    IsLowest (keeps_out w m n mode) None × (is_full w m n mode ≡ false) × IsLowest (stands (entry_for w n) m mode []) None
    × (version ≡ (entry_for w n).version + 1) × IsGranted w m n mode v
Obtains w m n mode (obtained.Retained by) v = IsLowest (keeps_out w m n mode) (Some by) × (v ≡ w)
Obtains w m n mode (obtained.RecordsFull limit) v =
    IsLowest (keeps_out w m n mode) None × (is_full w m n mode ≡ true) × (limit ≡ w.book.records) × (v ≡ w)
Obtains w m n mode (obtained.Contention share exclusive version) v =
    IsLowest (keeps_out w m n mode) None × (is_full w m n mode ≡ false) × (¬ IsLowest (stands (entry_for w n) m mode []) None)
    × ((k : ℕ) → IsMember k → has_member share k ≡ (if k == m then false else has_member (entry_for w n).share k))
    × ((k : ℕ) → IsMember k → has_member exclusive k ≡ (if k == m then false else has_member (entry_for w n).exclusive k))
    × (version ≡ (entry_for w n).version) × (v ≡ w)

-- the same of a grant with these answers of the others
abbrev pub Grants : Locks → ℕ → Name → Mode → List (ℕ × ℕ) → GrantReply → Locks → Type 0
Grants w m n mode clean (grant.Granted version) v =
    IsLowest (keeps_out w m n mode) None × (is_full w m n mode ≡ false) × IsLowest (stands (entry_for w n) m mode clean) None
    × (version ≡ (entry_for w n).version + 1) × IsGranted w m n mode v
Grants w m n mode clean (grant.Retained by) v = IsLowest (keeps_out w m n mode) (Some by) × (v ≡ w)
Grants w m n mode clean (grant.RecordsFull limit) v =
    IsLowest (keeps_out w m n mode) None × (is_full w m n mode ≡ true) × (limit ≡ w.book.records) × (v ≡ w)
Grants w m n mode clean (grant.Moved version) v =
    IsLowest (keeps_out w m n mode) None × (is_full w m n mode ≡ false) × (¬ IsLowest (stands (entry_for w n) m mode clean) None)
    × (version ≡ (entry_for w n).version) × (v ≡ w)

abbrev pub HasEntries : List Entry → Type 0
HasEntries es = (1 ≤ length es) × (length es < 2 ^ 32)

-- nothing was ever granted
abbrev pub empty_locks : ℕ → ℕ → ℕ → Locks
empty_locks entries records pages = record { entries = replicate entries blank; book = no_records records pages }
