-- What logs tell of pages: the records of all logs and log buffers that draw a number, in the order of their numbers, and how they stand
-- beside a world of pages. Pages have numbers there, and a function names them.
use Rattle.std.specs.Prelude.{◌≡◌, ℕ, ◌+◌, ◌<◌, ◌≤◌, ◌==◌, ◌&&◌, nat_le, nat_lt, Bool, true, List, [], ◌∷◌, map, filter, take}
use Rattle.std.specs.List.{AllByRecursion}
use Rattle.ds_base.specs.declared.names.PageId.{PageId}
use Rattle.ds_model.specs.declared.log.LogRecord.{LogRecord}
use Rattle.ds_model.specs.RecordBytes.{IsAllowed}
use Rattle.log_record.specs.Changes.{is_drawn}
use Rattle.page_chain.specs.Chains.{touches, version_of}
use Rattle.page_protocol.specs.Page.{Page}
use Rattle.page_protocol.specs.Moves.{World}

-- ---- records

-- a record, the member whose log it is in, and how many records that draw a number stand before it there
pub record Told : Type 0 where
  pub member : ℕ
  pub place : ℕ
  pub it : LogRecord

abbrev pub records_of : List Told → List LogRecord
records_of told = map (λ (t : Told). t.it) told

abbrev pub is_of : ℕ → Told → Bool
is_of m t = t.member == m

-- those that change the page
abbrev pub chain_of : PageId → List Told → List Told
chain_of id told = filter (λ (t : Told). touches id t.it) told

-- the page after the first v of these
abbrev pub version_at : PageId → List Told → ℕ → List ℕ
version_at id told v = version_of id (records_of (take v (chain_of id told)))

-- ---- beside a world of pages

-- it may stand in a log, and has a number of its own that was drawn
pub record IsDrawn (counter : ℕ) (t : Told) : Type 0 where
  pub allowed : IsAllowed t.it
  pub own : is_drawn t.it.body ≡ true
  pub number : t.it.lrsn ≤ counter

-- the numbers rise, from above this one on
abbrev pub Rise : ℕ → List Told → Type 0
Rise low [] = Unit {0}
Rise low (t ∷ ts) = (low < t.it.lrsn) × Rise t.it.lrsn ts

-- they stand at the places from the first number up to the second
abbrev pub Fill : ℕ → ℕ → List Told → Type 0
Fill from to [] = from ≡ to
Fill from to (t ∷ ts) = (t.place ≡ from) × Fill (from + 1) to ts

-- they are the changes of the page from the i-th on: each is in its author's log, at its place, with its number
abbrev pub AreChanges : Page → ℕ → List Told → Type 0
AreChanges p i [] = i ≡ p.last
AreChanges p i (t ∷ ts) = (t.member ≡ p.author i) × (t.place ≡ p.place i) × (t.it.lrsn ≡ p.lrsn i) × AreChanges p (i + 1) ts

-- what was drawn: each log has so many of these as the world says, each chain is those that change its page, and each version is
-- what the first of them make of the page
pub record IsTold (name : ℕ → PageId) (w : World) (content : ℕ → ℕ → List ℕ) (told : List Told) : Type 0 where
  pub each : AllByRecursion (IsDrawn w.group.counter) told
  pub rise : Rise 0 told
  pub logs : (m : ℕ) → Fill 0 (w.group.written m) (filter (is_of m) told)
  pub chains : (n : ℕ) → AreChanges (w.pages n) 0 (chain_of (name n) told)
  pub versions : (n v : ℕ) → v ≤ (w.pages n).last → content n v ≡ version_at (name n) told v
  -- while the group is down, no record stands in a log buffer
  pub level : (m : ℕ) → w.down ≡ true → w.group.written m ≡ w.group.stable m

-- ---- beside logs

abbrev pub is_between : ℕ → ℕ → Told → Bool
is_between from to t = nat_le from t.place && nat_lt t.place to

-- the records of the member at the places from one up to another
abbrev pub part_of : ℕ → ℕ → ℕ → List Told → List LogRecord
part_of m from to told = records_of (filter (λ (t : Told). is_of m t && is_between from to t) told)

abbrev pub drawn_in : List LogRecord → List LogRecord
drawn_in records = filter (λ (r : LogRecord). is_drawn r.body) records

-- the whole records of each member's log, but for those that draw no number, are these parts
abbrev pub HaveParts : List Told → (ℕ → ℕ) → (ℕ → ℕ) → (ℕ → List LogRecord) → Type 0
HaveParts told from to logs = (m : ℕ) → drawn_in (logs m) ≡ part_of m (from m) (to m) told

-- the logs on disk tell of the world: what stands in them is what was drawn up to where the world says that they are stable
pub record LogsTell (name : ℕ → PageId) (w : World) (content : ℕ → ℕ → List ℕ) (told : List Told) (logs : ℕ → List LogRecord) : Type 0 where
  pub drawn : IsTold name w content told
  pub disk : HaveParts told (λ m. 0) w.group.stable logs
