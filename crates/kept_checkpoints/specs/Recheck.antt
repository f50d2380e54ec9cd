-- What a second reading of a log finds, of which the first has told the offsets of its Checkpoints and its open row changes.
use Rattle.std.specs.Prelude.{◌≡◌, ℕ, ◌==◌, nat_lt, Bool, true, not, ◌&&◌, if◌then◌else◌, List, [], ◌∷◌, ◌++◌, map, Option, None, Some, is_some}
use Rattle.std.specs.List.{AllByRecursion}
use Rattle.std.specs.FinMap as finite
use Rattle.ds_model.specs.declared.log.LogRecord.{LogRecord}
use Rattle.ds_model.specs.declared.log.Body.{Body}
use Rattle.ds_model.specs.declared.log.Body.TheVariants as body
use Rattle.page_redo.specs.Pages.{pages_of}
use Rattle.sound_disk.specs.Checkpoints.{next_place}
use Rattle.sound_disk.specs.Settled.{has_ended}
use Rattle.sound_disk.specs.Transactions.{drawn_numbers, all_differ, EachFollows}
use Rattle.kept_checkpoints.specs.Offsets.{Places, fits_among, bad_offset}
use Rattle.kept_checkpoints.specs.Needs.{need_of, needs_in}
use Rattle.kept_checkpoints.specs.Scan.{Open, nothing_scanned, scan_from}
use Rattle.kept_checkpoints.specs.declared.needs.Need.{Need}
use Rattle.kept_checkpoints.specs.declared.scan.LogScan.{LogScan}
use Rattle.kept_checkpoints.specs.declared.recheck.Recheck.{Recheck}

-- ---- one record

abbrev pub met_with : Places → Places → ℕ → Places
met_with offsets met at = if is_some (finite.get offsets at) then finite.insert met at true else met

abbrev pub settled_with : Open → ℕ → Body → Open
settled_with changes tran body.Commit = finite.remove changes tran
settled_with changes tran (body.RowChange change) = changes
settled_with changes tran (body.Compensation change undone) = changes
settled_with changes tran (body.System patches) = changes
settled_with changes tran body.Ended = changes
settled_with changes tran (body.Checkpoint offset) = changes
settled_with changes tran body.RestartEnd = changes

abbrev pub begun : LogScan → Recheck
begun scan = record { start = scan.start; offsets = scan.offsets; met = finite.empty; changes = scan.changes }

abbrev pub rechecked : Recheck → ℕ → LogRecord → Recheck
rechecked s at r = record { start = s.start; offsets = s.offsets; met = met_with s.offsets s.met at; changes = settled_with s.changes r.tran r.body }

abbrev pub fits_now : Recheck → LogRecord → Bool
fits_now s r = fits_among s.met r.body

-- ---- a log

-- the first Checkpoint whose offset may not stand there, and what is known then
pub record Rechecked : Type 0 where
  pub bad : Option ℕ
  pub left : Recheck

abbrev pub recheck_from : Recheck → ℕ → List LogRecord → Rechecked
recheck_from s at [] = record { bad = None; left = s }
recheck_from s at (r ∷ rs) = if fits_now (rechecked s at r) r then recheck_from (rechecked s at r) (next_place at r) rs else record { bad = Some at; left = rechecked s at r }

-- ---- what records need

-- the record's transaction, if it has one, has row changes among these
abbrev pub is_unended_in : Open → LogRecord → Bool
is_unended_in changes r = not (r.tran == 0) && is_some (finite.get changes r.tran)

abbrev pub needs_left : Open → ℕ → ℕ → LogRecord → List Need
needs_left changes start at r = if nat_lt at start then map (need_of (is_unended_in changes r) r.lrsn) (pages_of r) else []

abbrev pub needs_from : Open → ℕ → ℕ → List LogRecord → List Need
needs_from changes start at [] = []
needs_from changes start at (r ∷ rs) = needs_left changes start at r ++ needs_from changes start (next_place at r) rs

-- ---- laws

abbrev pub recheck_of : List LogRecord → Rechecked
recheck_of records = recheck_from (begun (scan_from nothing_scanned 0 records)) 0 records

-- the first Checkpoint whose offset may not stand there is found
abbrev pub RecheckTells : Type 0
RecheckTells = (records : List LogRecord) → (recheck_of records).bad ≡ bad_offset records

-- where there is none, and the records of the log fit each other, what they need is known
abbrev pub NeedsAreLeft : Type 0
NeedsAreLeft = (records : List LogRecord) → (recheck_of records).bad ≡ None → EachFollows [] records → all_differ (drawn_numbers records) ≡ true
    → needs_from (recheck_of records).left.changes (recheck_of records).left.start 0 records ≡ needs_in records
