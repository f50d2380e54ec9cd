-- The records by the buckets on which their names fall.
use Rattle.std.specs.Prelude.{◌≡◌, ℕ, zero, suc, ◌+◌, ◌<◌, ◌≤◌, ◌^◌, Bool, true, false, not, ◌&&◌, ◌==◌, nat_le, if◌then◌else◌, length, slice_index_or, Option, Some, None, List, [], ◌∷◌, ◌++◌}
use Rattle.lock_names.specs.Given.{Name}
use Rattle.lock_names.specs.declared.mode.Mode.{Mode}
use Rattle.lock_names.specs.Modes.{is_recorded, are_compatible}
use Rattle.lock_names.specs.Entries.{entry_number}
use Rattle.lock_names.specs.Names.{same_name}
use Rattle.lock_structure.specs.declared.chain.Record.{Record}
use Rattle.lock_structure.specs.declared.chain.Held.{Held}
use Rattle.lock_structure.specs.declared.cursor.Cursor.{Cursor}
use Rattle.record_area.specs.Areas.{Room}
use Rattle.lock_structure.specs.Records.{is_of, record_in, how_many, retained_of, is_retained, joined, retained_by}

-- ---- one chain

-- no member has two records of a name
abbrev pub IsUnique : List Held → Type 0
IsUnique [] = Unit {0}
IsUnique (h ∷ hs) = (record_in hs h.member h.name ≡ None) × IsUnique hs

-- the records with this in the place of the member's one of the name
abbrev pub put_in : List Held → ℕ → Name → Record → List Held
put_in [] m n r = []
put_in (h ∷ hs) m n r = if is_of m n h then record h { lock = r } ∷ hs else h ∷ put_in hs m n r

-- the records without the member's one of the name
abbrev pub without : List Held → ℕ → Name → List Held
without [] m n = []
without (h ∷ hs) m n = if is_of m n h then hs else h ∷ without hs m n

abbrev pub without_first : List Held → List Held
without_first [] = []
without_first (h ∷ hs) = hs

abbrev pub entered_in : Option Record → List Held → ℕ → Name → Record → List Held
entered_in None hs m n r = record { member = m; name = n; lock = r } ∷ hs
entered_in (Some old) hs m n r = put_in hs m n r

-- the records of a chain after a grant
abbrev pub recorded_in : List Held → ℕ → Name → Mode → List Held
recorded_in hs m n mode = if is_recorded mode then entered_in (record_in hs m n) hs m n (joined (record_in hs m n) mode) else hs

abbrev pub released_in : List Held → ℕ → Name → List Held
released_in hs m n = if is_retained (record_in hs m n) then hs else without hs m n

abbrev pub purged_in : List Held → ℕ → Name → List Held
purged_in hs m n = if is_retained (record_in hs m n) then without hs m n else hs

-- whether another member's retained record of the name is in the way
abbrev pub is_keeping : ℕ → Name → Mode → Held → Bool
is_keeping m n mode h = h.lock.retained && (not (h.member == m) && (same_name h.name n && not (are_compatible h.lock.mode mode)))

abbrev pub lower : Option ℕ → ℕ → Option ℕ
lower None k = Some k
lower (Some j) k = if nat_le j k then Some j else Some k

-- the lowest of the member so far and those whose records are in the way
abbrev pub lowest_in : ℕ → Name → Mode → List Held → Option ℕ → Option ℕ
lowest_in m n mode [] best = best
lowest_in m n mode (h ∷ hs) best = lowest_in m n mode hs (if is_keeping m n mode h then lower best h.member else best)

-- ---- all chains

pub record Chained : Type 0 where
  pub chains : List (List Held)  -- by bucket
  pub records : ℕ
  pub pages : ℕ

abbrev pub room_of : Chained → ℕ → ℕ
room_of b area = if area == 0 then b.records else b.pages

-- how many records of the area stand
abbrev pub count_in : ℕ → List (List Held) → ℕ
count_in area [] = 0
count_in area (c ∷ cs) = how_many area c + count_in area cs

abbrev pub all_retained : ℕ → List (List Held) → List (Name × Mode)
all_retained m [] = []
all_retained m (c ∷ cs) = retained_of m c ++ all_retained m cs

-- how many retained records the member has in the first so many buckets
abbrev pub retained_before : ℕ → List (List Held) → ℕ → ℕ
retained_before m [] b = 0
retained_before m (c ∷ cs) zero = 0
retained_before m (c ∷ cs) (suc b) = length (retained_of m c) + retained_before m cs b

-- the place knows how many of its member's retained records stand before it
abbrev pub IsPlaced : Option Cursor → List (List Held) → Type 0
IsPlaced None cs = Unit {0}
IsPlaced (Some c) cs = (c.bucket ≤ length cs) × (c.before ≡ retained_before c.member cs c.bucket)

-- all records, one chain after the other
abbrev pub flat : List (List Held) → List Held
flat [] = []
flat (c ∷ cs) = c ++ flat cs

abbrev pub no_room : Room
no_room = record { free = 0; size = 0 }

abbrev pub all_free : ℕ → Room
all_free n = record { free = n; size = n }

-- each area has room for its records, and what they leave is free
pub record HasRoom (chains : List (List Held)) (areas : List Room) (records pages : ℕ) : Type 0 where
  pub count : length areas ≡ 33
  pub size : (k : ℕ) → k < 33 → (slice_index_or areas k no_room).size ≡ (if k == 0 then records else pages)
  pub free : (k : ℕ) → k < 33 → (slice_index_or areas k no_room).free + count_in k chains ≡ (if k == 0 then records else pages)

-- each record stands in the chain on which its name falls, and no member has two records of a name
pub record IsHashed (chains : List (List Held)) : Type 0 where
  pub some : 1 ≤ length chains
  pub bound : length chains < 2 ^ 32
  pub apart : (b k : ℕ) (p : Name) → b < length chains → (entry_number p (length chains) == b) ≡ false → record_in (slice_index_or chains b []) k p ≡ None
  pub unique : (b : ℕ) → b < length chains → IsUnique (slice_index_or chains b [])
