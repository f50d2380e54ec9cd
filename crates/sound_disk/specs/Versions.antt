-- The third clause of a sound disk, pages are versions: each page is what a front of the records makes of a page of zeros.
use Rattle.std.specs.Prelude.{◌≡◌, ℕ, Bool, true, false, if◌then◌else◌, List, Result, Ok, Err}
use Rattle.ds_base.specs.declared.names.PageId.{PageId}
use Rattle.ds_model.specs.declared.log.LogRecord.{LogRecord}
use Rattle.page_format.specs.Fields.{is_old, renewed}
use Rattle.page_format.specs.Header.{header_of}
use Rattle.page_format.specs.declared.header.Header.{Header}
use Rattle.page_format.specs.declared.header.NotAPage.{NotAPage}
use Rattle.log_record.specs.declared.log.Log.{Log}
use Rattle.restart_plan.specs.Given.{all_records, in_order}
use Rattle.page_images.specs.Images.{Images}
use Rattle.page_redo.specs.Given.{IsVersion, images_of}
use Rattle.restart_plan.specs.Renewal.{must_renew}

-- the records of all logs that change pages or commit, in the order of their numbers
abbrev pub merged : List Log → List LogRecord
merged logs = in_order (all_records logs)

-- all pages after all records
abbrev pub last_images : List Log → Images
last_images logs = images_of (merged logs)

abbrev pub is_page : Result Header NotAPage → Bool
is_page (Ok header) = true
is_page (Err fault) = false

-- a page of version 1 as it is in version 2
abbrev pub current : List ℕ → List ℕ
current page = if is_old page then renewed page else page

-- the page of this name may stand on a disk with these logs: its header may be the page's, and it is a version; of version 1 only
-- where a group restart still renews pages
pub record MayStand (logs : List Log) (id : PageId) (page : List ℕ) : Type 0 where
  pub header : is_page (header_of page id) ≡ true
  pub version : IsVersion id (merged logs) (current page)
  pub renewing : is_old page ≡ true → must_renew logs ≡ true

abbrev pub AreVersions : Images → List Log → Type 0
AreVersions at logs = (id : PageId) → MayStand logs id (at id)
