-- What the records that a restart doesn't read again need of the pages of the disk.
use Rattle.std.specs.Prelude.{◌≡◌, ℕ, nat_le, ◌==◌, Bool, true, not, ◌&&◌, ◌||◌, List, map}
use Rattle.std.specs.List.{list_all, flat_map}
use Rattle.ds_base.specs.declared.names.PageId.{PageId}
use Rattle.ds_model.specs.declared.log.LogRecord.{LogRecord}
use Rattle.log_record.specs.declared.log.Log.{Log}
use Rattle.page_format.specs.Fields.{lrsn_of}
use Rattle.page_images.specs.Images.{Images}
use Rattle.page_redo.specs.Pages.{pages_of}
use Rattle.sound_disk.specs.Settled.{has_ended}
use Rattle.sound_disk.specs.Checkpoints.{start_of, records_before, AreCheckpointed}
use Rattle.kept_checkpoints.specs.Offsets.{OffsetsFit}
use Rattle.kept_checkpoints.specs.declared.needs.Need.{Need}

-- ---- by the definitions

abbrev pub need_of : Bool → ℕ → PageId → Need
need_of unended lrsn id = record { page = id; lrsn = lrsn; is_open = unended }

-- the record's transaction, if it has one, has an open row change among the records of its log
abbrev pub is_unended : List LogRecord → LogRecord → Bool
is_unended records r = not ((r.tran == 0) || has_ended records r.tran)

-- of each page that the record changes
abbrev pub needs_by : List LogRecord → LogRecord → List Need
needs_by records r = map (need_of (is_unended records r) r.lrsn) (pages_of r)

-- of the records of a log before the byte from which it is read on
abbrev pub needs_in : List LogRecord → List Need
needs_in records = flat_map (needs_by records) (records_before (start_of records) 0 records)

abbrev pub needs_of : List Log → List Need
needs_of logs = flat_map (λ (l : Log). needs_in l.records) logs

-- the page has the record's change, and no row change of its transaction is open
abbrev pub is_met : Images → Need → Bool
is_met at n = nat_le n.lrsn (lrsn_of (at n.page)) && not n.is_open

-- ---- laws

-- the pages meet all needs where the seventh clause of a sound disk holds
abbrev pub NeedsAreMet : Type 0
NeedsAreMet = (at : Images) (logs : List Log) → AreCheckpointed at logs → list_all (is_met at) (needs_of logs) ≡ true

-- it holds where all offsets fit and they do
abbrev pub NeedsTell : Type 0
NeedsTell = (at : Images) (logs : List Log) → OffsetsFit logs → list_all (is_met at) (needs_of logs) ≡ true → AreCheckpointed at logs
