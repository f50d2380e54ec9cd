-- The locks of a group: the lock table, the records, the claims, and the queries between members.
--
-- Members, owners, names and entries are numbers; a function gives the entry of each name, and is any function. An
-- owner of a member is an agent with its transaction, the member itself with its page locks, or a postponed rollback.
use Rattle.std.specs.Prelude.{◌≡◌, ◌⊎◌, ℕ, ◌+◌, Bool, true, false, ◌&&◌, ◌||◌, Option, Some, None, if◌then◌else◌, ◌==◌}
use Rattle.lock_names.specs.declared.mode.Mode.{Mode}
use Rattle.lock_names.specs.declared.mode.Class.{Class}
use Rattle.lock_names.specs.declared.mode.Class.TheVariants.{Share, Exclusive}
use Rattle.lock_names.specs.declared.mode.Interest.{Interest}
use Rattle.lock_names.specs.Modes.{are_compatible, join_of, class_of, is_recorded}
use Rattle.lock_protocol.specs.Functions.{alter, alter2, put, put2, put3}

-- ---- what there is

-- a modify lock as the facility records it, so that it outlives its member
pub record Record : Type 0 where
  pub mode : Mode
  pub retained : Bool

-- a query of one owner to another member, and its answer with the version of the name's entry
pub data Cell : Type 0 where
  Empty : Cell
  Asked : ℕ → Mode → Cell
  Clean : ℕ → Mode → ℕ → Cell
  Conflict : ℕ → Mode → Cell

pub record World : Type 0 where
  pub version : ℕ → ℕ  -- by entry: how often it was granted
  pub interest : ℕ → ℕ → Interest  -- by member and entry
  pub records : ℕ → ℕ → Option Record  -- by member and name
  pub claims : ℕ → ℕ → ℕ → Option Mode  -- by member, owner and name
  pub cells : ℕ → ℕ → ℕ → Cell  -- by asking member, its owner, and asked member
  pub live : ℕ → Bool  -- by member: it isn't failed

abbrev pub no_interest : Interest
no_interest = record { share = false; exclusive = false }

abbrev pub with_class : Class → Interest → Interest
with_class Share i = record { share = true; exclusive = i.exclusive }
with_class Exclusive i = record { share = i.share; exclusive = true }

-- the interest of another member that is in the way of this class
unfoldable pub blocks : Class → Interest → Bool
blocks Share i = i.exclusive
blocks Exclusive i = i.share || i.exclusive

-- the interest that stands for claims of this class
unfoldable pub backs : Class → Interest → Bool
backs Share i = i.share || i.exclusive
backs Exclusive i = i.exclusive

-- ---- claims and records against modes

abbrev pub allows : Option Mode → Mode → Bool
allows None m = true
allows (Some c) m = are_compatible c m

abbrev pub both_allowed : Option Mode → Option Mode → Bool
both_allowed a None = true
both_allowed a (Some m) = allows a m

-- the claim is in a mode that needs nothing more for this one
abbrev pub Covers : Option Mode → Mode → Type 0
Covers None m = ⊥
Covers (Some c) m = join_of c m ≡ c

abbrev pub RecordCovers : Option Record → Mode → Type 0
RecordCovers None m = ⊥
RecordCovers (Some r) m = join_of r.mode m ≡ r.mode

abbrev pub RetainedCovers : Option Record → Mode → Type 0
RetainedCovers None m = ⊥
RetainedCovers (Some r) m = (r.retained ≡ true) × (join_of r.mode m ≡ r.mode)

abbrev pub RetainedAllows : Option Record → Mode → Type 0
RetainedAllows None m = Unit {0}
RetainedAllows (Some r) m = r.retained ≡ true → are_compatible r.mode m ≡ true

-- the claim isn't in the way of this mode, or a retained record that covers it stands for it
abbrev pub IsClear : Option Mode → Option Record → Mode → Type 0
IsClear None r m = Unit {0}
IsClear (Some c) r m = (are_compatible c m ≡ true) ⊎ RetainedCovers r c

-- a claim that needs one more mode asks for the join of both
abbrev pub wanted : Option Mode → Mode → Mode
wanted None need = need
wanted (Some c) need = join_of c need

-- ---- what becomes of records and claims

abbrev pub joined : Option Record → Mode → Record
joined None m = record { mode = m; retained = false }
joined (Some r) m = record { mode = join_of r.mode m; retained = r.retained }

abbrev pub recorded_as : Option Record → Mode → Option Record
recorded_as r m = if is_recorded m then Some (joined r m) else r

-- a release frees a record, unless it is retained
abbrev pub released_record : Option Record → Option Record
released_record None = None
released_record (Some r) = if r.retained then Some r else None

-- a failure makes records retained
abbrev pub retained_record : Option Record → Option Record
retained_record None = None
retained_record (Some r) = Some (record { mode = r.mode; retained = true })

-- a purge frees a retained record
abbrev pub purged_record : Option Record → Option Record
purged_record None = None
purged_record (Some r) = if r.retained then None else Some r

-- a failure leaves the recorded claims
abbrev pub retained_claim : Option Mode → Option Mode
retained_claim None = None
retained_claim (Some m) = if is_recorded m then Some m else None

-- ---- what moves leave

-- the entry was granted to the member once more
abbrev pub granted : (ℕ → ℕ) → World → ℕ → ℕ → Mode → World
granted entry w m name mode = record w {
  version = alter w.version (entry name) (λ v. v + 1);
  interest = alter2 w.interest m (entry name) (λ i. with_class (class_of mode) i);
  records = alter2 w.records m name (λ r. recorded_as r mode);
}

abbrev pub entered : World → ℕ → ℕ → ℕ → Mode → World
entered w m owner name mode = record w { claims = put3 w.claims m owner name (Some mode) }

-- the cells of an asker are empty
abbrev pub cleared : World → ℕ → ℕ → World
cleared w m owner = record w { cells = λ a o k. if (a == m) && (o == owner) then Empty else w.cells a o k }

abbrev pub told : World → ℕ → ℕ → ℕ → Cell → World
told w m owner to cell = record w { cells = put3 w.cells m owner to cell }

-- the member gives up a name, with the interest that it keeps in the entry
abbrev pub released : (ℕ → ℕ) → World → ℕ → ℕ → ℕ → Interest → World
released entry w m owner name keeps = record w {
  interest = put2 w.interest m (entry name) keeps;
  records = alter2 w.records m name released_record;
  claims = put3 w.claims m owner name None;
}

-- owners of the member have given up these claims; its interest and records stay
abbrev pub given_up : World → ℕ → (ℕ → ℕ → Bool) → World
given_up w m which = record w { claims = λ k o n. if (k == m) && which o n then None else w.claims k o n }

-- the claims of one owner are another's, which had none
abbrev pub handed_on : World → ℕ → ℕ → ℕ → World
handed_on w m owner to = record w { claims = λ k o n. if (k == m) && (o == to) then w.claims m owner n else if (k == m) && (o == owner) then None else w.claims k o n }

-- a member failed: recorded claims stay, and their records are retained; all else of it is gone
abbrev pub failed : World → ℕ → World
failed w m = record w {
  interest = λ k e. if k == m then no_interest else w.interest k e;
  records = λ k n. if k == m then retained_record (w.records k n) else w.records k n;
  claims = λ k o n. if k == m then retained_claim (w.claims k o n) else w.claims k o n;
  cells = λ a o k. if (a == m) || (k == m) then Empty else w.cells a o k;
  live = put w.live m false;
}

abbrev pub restarted : World → ℕ → World
restarted w m = record w { live = put w.live m true }

abbrev pub purged : World → ℕ → ℕ → World
purged w m name = record w { records = alter2 w.records m name purged_record }

-- nothing is locked, nobody asks, and all members are live
abbrev pub start : World
start = record { version = λ e. 0; interest = λ m e. no_interest; records = λ m n. None; claims = λ m o n. None; cells = λ m o k. Empty; live = λ m. true }
