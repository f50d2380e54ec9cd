-- The records of locks: who holds what in which mode, and whether it is retained.
use Rattle.std.specs.Prelude.{◌≡◌, ℕ, ◌+◌, Bool, true, false, ◌&&◌, ◌||◌, ◌==◌, if◌then◌else◌, Option, Some, None, is_some, nat_lt, List, [], ◌∷◌}
use Rattle.lock_names.specs.Given.{Name}
use Rattle.lock_names.specs.Given.name_variants as name
use Rattle.lock_names.specs.declared.mode.Mode.{Mode}
use Rattle.lock_names.specs.Modes.{join_of, is_recorded}
use Rattle.lock_names.specs.Names.{same_name}
use Rattle.lock_structure.specs.declared.chain.Record.{Record}
use Rattle.lock_structure.specs.declared.chain.Held.{Held}

-- whether it is this member's, of this name
abbrev pub is_of : ℕ → Name → Held → Bool
is_of m n h = (h.member == m) && same_name h.name n

-- the member's record of the name
abbrev pub record_in : List Held → ℕ → Name → Option Record
record_in [] m n = None
record_in (h ∷ hs) m n = if is_of m n h then Some h.lock else record_in hs m n

-- Records of table spaces and rows share one area. Each member has an area of its own for those of pages and page sets.
unfoldable pub area_of : ℕ → Name → ℕ
area_of m (name.Space t) = 0
area_of m (name.Row t k) = 0
area_of m (name.Page p) = m
area_of m (name.Set s) = m

-- whether it is a record of this area
abbrev pub is_in : ℕ → Held → Bool
is_in area h = area == area_of h.member h.name

-- how many of these records are of the area
abbrev pub how_many : ℕ → List Held → ℕ
how_many area [] = 0
how_many area (h ∷ hs) = if is_in area h then how_many area hs + 1 else how_many area hs

-- the member's retained records
abbrev pub retained_of : ℕ → List Held → List (Name × Mode)
retained_of m [] = []
retained_of m (h ∷ hs) = if (h.member == m) && h.lock.retained then (h.name, h.lock.mode) ∷ retained_of m hs else retained_of m hs

abbrev pub names_of : List (Name × Mode) → List Name
names_of [] = []
names_of (x ∷ xs) = x.0 ∷ names_of xs

-- the retained records without that of the name
abbrev pub without_name : Name → List (Name × Mode) → List (Name × Mode)
without_name n [] = []
without_name n (x ∷ xs) = if same_name x.0 n then xs else x ∷ without_name n xs

-- all records, and the room for them
pub record Book : Type 0 where
  pub held : List Held
  pub records : ℕ  -- room for records of table spaces and rows
  pub pages : ℕ  -- room for each member's records of pages and page sets

abbrev pub size_of : Book → ℕ → ℕ
size_of b area = if area == 0 then b.records else b.pages

-- the member's record of the name stands, or there is room for it
abbrev pub room_for : Book → ℕ → Name → Bool
room_for b m n = is_some (record_in b.held m n) || nat_lt (how_many (area_of m n) b.held) (size_of b (area_of m n))

-- ---- what becomes of a record

abbrev pub is_retained : Option Record → Bool
is_retained None = false
is_retained (Some r) = r.retained

abbrev pub joined : Option Record → Mode → Record
joined None m = record { mode = m; retained = false }
joined (Some r) m = record { mode = join_of r.mode m; retained = r.retained }

-- a grant joins its mode to the record, or makes one, where the mode is recorded
abbrev pub after_grant : Mode → Option Record → Option Record
after_grant mode found = if is_recorded mode then Some (joined found mode) else found

-- a release frees a record that isn't retained
abbrev pub after_release : Option Record → Option Record
after_release found = if is_retained found then found else None

-- a purge frees a retained record
abbrev pub after_purge : Option Record → Option Record
after_purge found = if is_retained found then None else found

-- a failure makes a record retained
abbrev pub after_failure : Option Record → Option Record
after_failure None = None
after_failure (Some r) = Some (record { mode = r.mode; retained = true })

-- the record, which is retained if it is the member's
abbrev pub retained_by : ℕ → Held → Held
retained_by m h = if h.member == m then record h { lock = record { mode = h.lock.mode; retained = true } } else h

abbrev pub one_if : Bool → ℕ
one_if b = if b then 1 else 0

-- the member's record of the name becomes what `f` says; all other records stay, and the areas count what stands
pub record Alters (m : ℕ) (n : Name) (f : Option Record → Option Record) (b c : Book) : Type 0 where
  pub now : (k : ℕ) (p : Name) → record_in c.held k p ≡ (if (k == m) && same_name n p then f (record_in b.held k p) else record_in b.held k p)
  pub count : (area : ℕ) → how_many area c.held + one_if ((area == area_of m n) && is_some (record_in b.held m n)) ≡ how_many area b.held + one_if ((area == area_of m n) && is_some (f (record_in b.held m n)))
  pub records_limit : c.records ≡ b.records
  pub pages_limit : c.pages ≡ b.pages

-- all records of the member are retained; all others stay
pub record Retains (m : ℕ) (b c : Book) : Type 0 where
  pub now : (k : ℕ) (p : Name) → record_in c.held k p ≡ (if k == m then after_failure (record_in b.held k p) else record_in b.held k p)
  pub count : (area : ℕ) → how_many area c.held ≡ how_many area b.held
  pub records_limit : c.records ≡ b.records
  pub pages_limit : c.pages ≡ b.pages

-- no records, and the room for them
abbrev pub no_records : ℕ → ℕ → Book
no_records records pages = record { held = []; records = records; pages = pages }
