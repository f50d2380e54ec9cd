-- A page's bytes with the number of its last change, and the redo of log records over them.
--
-- A version of a page is the page of zeros after a prefix of its chain. What a change does to the bytes is given by a
-- function, and is any function.
use Rattle.std.specs.Prelude.{◌≡◌, ℕ, ◌<◌, ◌≤◌, Bool, true, List, [], ◌∷◌, ◌++◌, if◌then◌else◌, nat_lt, nat_eq, filter}

pub record Change : Type 0 where
  pub lrsn : ℕ
  pub member : ℕ
  pub bytes : List ℕ

pub record Bytes : Type 0 where
  pub lrsn : ℕ
  pub content : List ℕ

abbrev pub Patch : Type 0
Patch = List ℕ → Change → List ℕ

abbrev pub apply : Patch → Bytes → Change → Bytes
apply patch b c = record { lrsn = c.lrsn; content = patch b.content c }

-- the page after these changes
abbrev pub page_after : Patch → Bytes → List Change → Bytes
page_after patch b [] = b
page_after patch b (c ∷ cs) = page_after patch (apply patch b c) cs

-- the redo of records: those at or below the page's number are passed over
abbrev pub redone : Patch → Bytes → List Change → Bytes
redone patch b [] = b
redone patch b (c ∷ cs) = if nat_lt b.lrsn c.lrsn then redone patch (apply patch b c) cs else redone patch b cs

abbrev pub AreBelow : ℕ → List Change → Type 0
AreBelow n [] = Unit {0}
AreBelow n (c ∷ cs) = (c.lrsn ≤ n) × AreBelow n cs

-- the numbers rise, from above n on
abbrev pub Rise : ℕ → List Change → Type 0
Rise n [] = Unit {0}
Rise n (c ∷ cs) = (n < c.lrsn) × Rise c.lrsn cs

abbrev pub is_of : ℕ → Change → Bool
is_of m c = nat_eq c.member m

abbrev pub AreOf : ℕ → List Change → Type 0
AreOf m [] = Unit {0}
AreOf m (c ∷ cs) = (is_of m c ≡ true) × AreOf m cs

abbrev pub zeros : Bytes
zeros = record { lrsn = 0; content = [] }

-- the redo by the log of the member that made all changes beyond the copy leads to the last version
abbrev pub OwnLogSuffices : Type 0
OwnLogSuffices = (patch : Patch) (older newer : List Change) (m : ℕ) → Rise 0 (older ++ newer) → AreOf m newer
    → redone patch (page_after patch zeros older) (filter (is_of m) (older ++ newer)) ≡ page_after patch zeros (older ++ newer)

-- so does the redo by all records, and by all records beyond a checkpoint that lies below the copy
abbrev pub MergedLogsSuffice : Type 0
MergedLogsSuffice = (patch : Patch) (before older newer : List Change) → Rise 0 ((before ++ older) ++ newer)
    → redone patch (page_after patch zeros (before ++ older)) (older ++ newer) ≡ page_after patch zeros ((before ++ older) ++ newer)

-- each record is applied to a page once: a second redo changes nothing
abbrev pub RedoneOnce : Type 0
RedoneOnce = (patch : Patch) (b : Bytes) (records : List Change) → redone patch (redone patch b records) records ≡ redone patch b records
