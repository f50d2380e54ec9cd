-- How a recovery ends.
use Rattle.std.specs.Prelude.{◌≡◌, ◌⊎◌, ℕ, ◌+◌, ◌≤◌, true, List, [], ◌∷◌, Option, Some, None, Result, Err, IfOk, OnErr, IsErrOf}
use Rattle.ds_base.specs.Causes.{Rose}
use Rattle.ds_base.specs.declared.names.PageId.{PageId}
use Rattle.ds_base.specs.declared.names.Volume.{Volume}
use Rattle.ds_base.specs.declared.names.Volume.TheVariants as volume
use Rattle.ds_disk.specs.Contents.{Contents, log_of, Becomes, Same}
use Rattle.ds_disk.specs.Pages.{page_at}
use Rattle.log_record.specs.declared.log.Log.{Log}
use Rattle.log_record.specs.Logs.{parts_in, IsLogOf}
use Rattle.log_trans.specs.Damage.{log_damage}
use Rattle.page_redo.specs.Pages.{has_page}
use Rattle.restart_plan.specs.Greatest.{no_number, greatest_among}
use Rattle.sound_disk.specs.Versions.{merged}
use Rattle.table_image_text.specs.Faults.{name_fault, image_fault}
use Rattle.table_copy.specs.declared.fault.CopyFault.{CopyFault}
use Rattle.table_copy.specs.declared.fault.CopyFault.TheVariants as fault
use Rattle.copy_recover.specs.Recovered.{written_names, recovered, with_written, count_of, IsOk}

-- ---- logs as they are read

-- these are the logs of the members from this one on: each has the records, the length and the tail of its bytes
abbrev pub AreLogsOf : ℕ → List (List ℕ) → List Log → Type 0
AreLogsOf member [] [] = Unit {0}
AreLogsOf member [] (log ∷ logs) = ⊥
AreLogsOf member (bytes ∷ rest) [] = ⊥
AreLogsOf member (bytes ∷ rest) (log ∷ logs) = (log.member ≡ member) × IsLogOf bytes log × AreLogsOf (member + 1) rest logs

-- the logs are those of the disk, and no number of them can't stand there
pub record AreReadLogs (c : Contents) (logs : List Log) : Type 0 where
  pub are : AreLogsOf 1 c.logs logs
  pub undamaged : log_damage logs ≡ None

abbrev pub greatest_of : List Log → ℕ
greatest_of logs = (greatest_among no_number logs).lrsn

-- at this byte of the member's log a field begins that isn't allowed, or a number that can't stand there
abbrev pub IsLogDamage : Contents → ℕ → ℕ → Type 0
IsLogDamage c member at =
    (parts_in (log_of c.logs member) ≡ Err at) ⊎ ((logs : List Log) × AreLogsOf 1 c.logs logs × (log_damage logs ≡ Some (record { member = member; at = at })))

-- ---- the image

-- the bytes are no image of the table, for a disk with these logs: this is the first place
abbrev pub IsRefusedAt : Contents → List ℕ → ℕ → ℕ → Type 0
IsRefusedAt c image table at = (name_fault image table ≡ Some at) ⊎ ((logs : List Log) × AreReadLogs c logs × (image_fault image table (greatest_of logs) ≡ Some at))

-- they are one
pub record IsTakenWith (c : Contents) (image : List ℕ) (table : ℕ) (logs : List Log) : Type 0 where
  pub logs_are : AreReadLogs c logs
  pub allowed : image_fault image table (greatest_of logs) ≡ None

-- ---- pages

-- all pages of the image and of the logs were written, in all as many as that which aren't all zeros, and no others
pub record IsRecovered (c d : Contents) (image : List ℕ) (table pages : ℕ) : Type 0 where
  pub logs : List Log
  pub taken : IsTakenWith c image table logs
  pub in_order : (id : PageId) → has_page (written_names image table (merged logs)) id ≡ true → IsOk (recovered image table (merged logs) id).outcome
  pub pages_are : (id : PageId) → page_at d.pages id ≡ with_written image table (merged logs) (written_names image table (merged logs)) (page_at c.pages) id
  pub logs_stay : d.logs ≡ c.logs
  pub count : pages ≡ count_of image table (merged logs) (written_names image table (merged logs))

-- a field of the page that begins at this byte is in the way of a record that brings it forward
pub record IsInTheWay (c : Contents) (image : List ℕ) (table : ℕ) (v : Volume) (at : ℕ) : Type 0 where
  pub logs : List Log
  pub taken : IsTakenWith c image table logs
  pub page : PageId
  pub names_it : v ≡ volume.Page page
  pub written : has_page (written_names image table (merged logs)) page ≡ true
  pub meets : (recovered image table (merged logs) page).outcome ≡ Err (record { at = at })

-- the image's name is right, and a log is damaged; or the image is taken, and a page is in the way
abbrev pub IsDamage : Contents → List ℕ → ℕ → Volume → ℕ → Type 0
IsDamage c image table v at =
    ((member : ℕ) × (v ≡ volume.Log member) × (name_fault image table ≡ None) × IsLogDamage c member at)
    ⊎ IsInTheWay c image table v at

-- where a recovery ended early: each page is as it was, or as it was to be written
pub record IsBegun (c d : Contents) (image : List ℕ) (table : ℕ) : Type 0 where
  pub logs_stay : d.logs ≡ c.logs
  pub each : (id : PageId) → (page_at d.pages id ≡ page_at c.pages id)
      ⊎ ((logs : List Log) × IsTakenWith c image table logs × (has_page (written_names image table (merged logs)) id ≡ true) × (page_at d.pages id ≡ (recovered image table (merged logs) id).page))

-- ---- the call

-- a disk and a source, before a call or behind it
pub record Around : Type 0 where
  pub contents : Option Contents
  pub disk_faults : ℕ
  pub left : Option (List ℕ)
  pub source_faults : ℕ

-- a fact of what the disk holds and of the bytes of an image, where the disk tells: of those that were left of the source, or of some where
-- it doesn't tell them
abbrev pub WhenBothTold : Option Contents → Option (List ℕ) → (Contents → List ℕ → Type 0) → Type 0
WhenBothTold None left P = Unit {0}
WhenBothTold (Some c) None P = (bytes : List ℕ) × P c bytes
WhenBothTold (Some c) (Some bytes) P = P c bytes

-- told contents go on by this step, of the bytes that were left, or of some
abbrev pub BecomesBy : Option Contents → Option Contents → Option (List ℕ) → (Contents → Contents → List ℕ → Type 0) → Type 0
BecomesBy None after left P = Unit {0}
BecomesBy (Some c) None left P = ⊥
BecomesBy (Some c) (Some d) None P = (bytes : List ℕ) × P c d bytes
BecomesBy (Some c) (Some d) (Some bytes) P = P c d bytes

-- Where the disk told what it holds: behind Ok the image was taken and the table was recovered from all that was left of the source;
-- `Image` names the first place at which the image can't be taken, and `Damaged` a field that can't stand there. Behind these two and
-- want of memory each page is as it was or as it was to be written, and the logs are as they were. Where the source failed, a log is
-- damaged or the image wasn't taken the disk is as it was. A device failed only where it counted a fault.
pub record Recovers (table : ℕ) (before after : Around) (result : Result ℕ CopyFault) : Type 0 where
  pub ok : IfOk result (λ pages. BecomesBy before.contents after.contents before.left (λ c d image. IsRecovered c d image table pages))
  pub image : (at : ℕ) → IsErrOf result (fault.Image at) → WhenBothTold before.contents before.left (λ c image. IsRefusedAt c image table at) × Becomes before.contents after.contents Same
  pub damaged : (v : Volume) (at : ℕ) → IsErrOf result (fault.Damaged v at) → WhenBothTold before.contents before.left (λ c image. IsDamage c image table v at)
  pub log_damaged : (member at : ℕ) → IsErrOf result (fault.Damaged (volume.Log member) at) → Becomes before.contents after.contents Same
  pub source_failed : IsErrOf result fault.Source → Rose before.source_faults after.source_faults × Becomes before.contents after.contents Same
  pub disk_failed : IsErrOf result fault.Disk → Rose before.disk_faults after.disk_faults
  pub no_sink : IsErrOf result fault.Sink → ⊥
  pub begun : OnErr result (BecomesBy before.contents after.contents before.left (λ c d image. IsBegun c d image table))
  pub disk_later : before.disk_faults ≤ after.disk_faults
  pub source_later : before.source_faults ≤ after.source_faults
