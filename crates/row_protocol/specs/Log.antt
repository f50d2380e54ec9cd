-- The records of one row in the logs of all members, newest first, in falling LRSN.
use Rattle.std.specs.Prelude.{ℕ, Bool, true, false, ◌&&◌, ◌||◌, not, leb, List, [], ◌∷◌, Option, Some, None, if◌then◌else◌, ◌==◌}

-- A change of the row by a transaction, and the LRSN of the compensation record that undoes it where there is one. The
-- compensation record has the change's value before it.
pub record Change : Type 0 where
  pub lrsn : ℕ
  pub tran : ℕ
  pub before : Option ℕ
  pub after : Option ℕ
  pub undone : Option ℕ

abbrev pub stands : Option ℕ → Bool
stands None = true
stands (Some l) = false

-- what the row is, from what it was at first: the value of the newest change that isn't undone
abbrev pub value : List Change → Option ℕ → Option ℕ
value [] opening = opening
value (c ∷ cs) opening = if stands c.undone then c.after else value cs opening

-- What the logs on disk stand for: the value of the row's newest record on disk of a transaction whose commit record is
-- on disk. The functions say of a transaction's record with an LRSN whether it is on disk, and whether it is committed.
abbrev pub logged : List Change → (ℕ → ℕ → Bool) → (ℕ → Bool) → Option ℕ → Option ℕ
logged [] on_disk committed opening = opening
logged (c ∷ cs) on_disk committed opening = if on_disk c.tran c.lrsn && committed c.tran then c.after else logged cs on_disk committed opening

-- ---- the records of one transaction among them

abbrev pub has : List Change → ℕ → Bool
has [] t = false
has (c ∷ cs) t = (c.tran == t) || has cs t

-- the newest record is this transaction's
abbrev pub is_top : List Change → ℕ → Bool
is_top [] t = false
is_top (c ∷ cs) t = c.tran == t

-- none of its changes is undone
abbrev pub all_stand : List Change → ℕ → Bool
all_stand [] t = true
all_stand (c ∷ cs) t = (not (c.tran == t) || stands c.undone) && all_stand cs t

-- its changes have LRSNs up to this one
abbrev pub drawn_by : List Change → ℕ → ℕ → Bool
drawn_by [] t l = true
drawn_by (c ∷ cs) t l = (not (c.tran == t) || leb c.lrsn l) && drawn_by cs t l

abbrev pub undone_by : Option ℕ → ℕ → Bool
undone_by None l = false
undone_by (Some u) l = leb u l

-- its changes are all undone, with LRSNs of changes and compensations up to this one
abbrev pub all_undone_by : List Change → ℕ → ℕ → Bool
all_undone_by [] t l = true
all_undone_by (c ∷ cs) t l = (not (c.tran == t) || (leb c.lrsn l && undone_by c.undone l)) && all_undone_by cs t l

-- ---- what becomes of the records

-- the transaction's newest change that isn't undone gets a compensation record
abbrev pub compensated : List Change → ℕ → ℕ → List Change
compensated [] t l = []
compensated (c ∷ cs) t l = if (c.tran == t) && stands c.undone then record c { undone = Some l } ∷ cs else c ∷ compensated cs t l

abbrev pub kept_mark : Option ℕ → (ℕ → Bool) → Option ℕ
kept_mark None lost = None
kept_mark (Some l) lost = if lost l then None else Some l

-- the records that are left where some are lost: those of a transaction with an LRSN, as the function says
abbrev pub without : List Change → (ℕ → ℕ → Bool) → List Change
without [] lost = []
without (c ∷ cs) lost = if lost c.tran c.lrsn then without cs lost else record c { undone = kept_mark c.undone (lost c.tran) } ∷ without cs lost
