-- What is told of one log by reading it record by record.
use Rattle.std.specs.Prelude.{◌≡◌, ℕ, true, List, [], ◌++◌, Option, None, Some}
use Rattle.ds_base.specs.declared.names.PageId.{PageId}
use Rattle.ds_model.specs.declared.log.LogRecord.{LogRecord}
use Rattle.page_images.specs.Images.{Images}
use Rattle.sound_disk.specs.Transactions.{drawn_numbers, all_differ, EachFollows}
use Rattle.kept_checkpoints.specs.declared.needs.Need.{Need}
use Rattle.kept_checkpoints.specs.declared.scan.LogScan.{LogScan}
use Rattle.kept_checkpoints.specs.declared.recheck.Recheck.{Recheck}
use Rattle.kept_checkpoints.specs.Needs.{needs_in}
use Rattle.kept_checkpoints.specs.Offsets.{bad_offset}
use Rattle.kept_checkpoints.specs.Scan.{nothing_scanned, scan_from}
use Rattle.kept_checkpoints.specs.Recheck.{Rechecked, recheck_from, needs_from}
use Rattle.kept_pages.specs.declared.kept.LogTold.{LogTold}
use Rattle.kept_pages.specs.declared.kept.LogTold.TheVariants as told
use Rattle.kept_pages.specs.Unmet.{AreJudged}

-- with these needs more, behind any others, this is the first page that doesn't meet one, where it was that
abbrev pub Judges : Images → Option PageId → Option PageId → List Need → Type 0
Judges at old new needs = (front : List Need) → AreJudged at front old → AreJudged at (front ++ needs) new

-- ---- the readings of a log

abbrev pub IsScan : LogScan → List LogRecord → Type 0
IsScan s records = s ≡ scan_from nothing_scanned 0 records

abbrev pub IsRechecked : Recheck → Recheck → Option ℕ → List LogRecord → Type 0
IsRechecked old new bad records = (let it : Rechecked = record { bad = bad; left = new } in it) ≡ recheck_from old 0 records

abbrev pub AreNeedsJudged : Images → Recheck → Option PageId → Option PageId → List LogRecord → Type 0
AreNeedsJudged at again old new records = Judges at old new (needs_from again.changes again.start 0 records)

-- ---- what is told

-- its offsets fit, and where its records fit each other the page is the first with its needs more; or this is its first Checkpoint whose offset may not stand there
abbrev pub IsLogTold : Images → Option PageId → LogTold → List LogRecord → Type 0
IsLogTold at first (told.Fits found) records = (bad_offset records ≡ None) × (EachFollows [] records → all_differ (drawn_numbers records) ≡ true → Judges at first found (needs_in records))
IsLogTold at first (told.Bad place) records = bad_offset records ≡ Some place
