-- How the pages of a table are written.
use Rattle.std.specs.Prelude.{◌≡◌, ◌⊎◌, ℕ, ◌+◌, ◌≤◌, Bool, true, not, List, length, Option, Result, Err, IfOk, OnOk, OnErr, IsErrOf}
use Rattle.std.specs.FinMap as map
use Rattle.ds_base.specs.Causes.{Rose}
use Rattle.ds_base.specs.declared.names.PageId.{PageId}
use Rattle.ds_base.specs.declared.names.Volume.{Volume}
use Rattle.ds_base.specs.declared.names.Volume.TheVariants as volume
use Rattle.ds_disk.specs.Contents.{Contents, Becomes}
use Rattle.ds_disk.specs.Pages.{page_at}
use Rattle.ds_model.specs.declared.log.LogRecord.{LogRecord}
use Rattle.page_format.specs.Header.{is_zeros}
use Rattle.page_redo.specs.Forward.{Forward}
use Rattle.page_redo.specs.Pages.{has_page}
use Rattle.table_image_text.specs.Image.{head_size, heap_in, index_in, place_of}
use Rattle.table_copy.specs.declared.fault.CopyFault.{CopyFault}
use Rattle.table_copy.specs.declared.fault.CopyFault.TheVariants as fault
use Rattle.copy_recover.specs.Recovered.{names_in, recovered, with_written, count_of, IsOk}

-- the bytes are as many as a head and its pages
pub record IsImage (image : List ℕ) : Type 0 where
  pub headed : head_size ≤ length image
  pub whole : length image ≡ place_of (heap_in image + index_in image)

-- the pages of the image
abbrev pub held_names : List ℕ → ℕ → List PageId
held_names image table = names_in table (heap_in image) (heap_in image + index_in image)

-- ---- one page

abbrev pub with_page : PageId → List ℕ → Contents → Contents
with_page id page c = record { pages = map.insert c.pages id page; logs = c.logs }

abbrev pub IsPut : PageId → List ℕ → Contents → Contents → Type 0
IsPut id page c d = d ≡ with_page id page c

abbrev pub MayBePut : PageId → List ℕ → Contents → Contents → Type 0
MayBePut id page c d = (d ≡ c) ⊎ (d ≡ with_page id page c)

-- the page was written; or it may have been, and the disk failed, as it counted, or memory was wanting
pub record Puts (before after : Option Contents) (faults faults_now : ℕ) (id : PageId) (page : List ℕ) (result : Result (Unit {0}) CopyFault) : Type 0 where
  pub ok : OnOk result (Becomes before after (IsPut id page))
  pub begun : OnErr result (Becomes before after (MayBePut id page))
  pub only : (f : CopyFault) → IsErrOf result f → ((f ≡ fault.Disk) × Rose faults faults_now) ⊎ (f ≡ fault.NoMemory)
  pub later : faults ≤ faults_now

-- the page was brought forward and written, and isn't all zeros or is; or a field is in the way, and the disk stays as it was; or the page
-- may have been written
pub record WritesPage (before after : Option Contents) (faults faults_now : ℕ) (id : PageId) (forward : Forward) (result : Result Bool CopyFault) : Type 0 where
  pub ok : IfOk result (λ is_some. Becomes before after (IsPut id forward.page) × IsOk forward.outcome × (is_some ≡ not (is_zeros forward.page)))
  pub damaged : (v : Volume) (at : ℕ) → IsErrOf result (fault.Damaged v at) → (v ≡ volume.Page id) × (forward.outcome ≡ Err (record { at = at }))
  pub failed : IsErrOf result fault.Disk → Rose faults faults_now
  pub no_source : IsErrOf result fault.Source → ⊥
  pub no_sink : IsErrOf result fault.Sink → ⊥
  pub no_image : (at : ℕ) → IsErrOf result (fault.Image at) → ⊥
  pub begun : OnErr result (Becomes before after (MayBePut id forward.page))
  pub later : faults ≤ faults_now

-- ---- pages

-- these were written, and no others
pub record AreWritten (image : List ℕ) (table : ℕ) (records : List LogRecord) (names : List PageId) (c d : Contents) : Type 0 where
  pub logs_stay : d.logs ≡ c.logs
  pub pages_are : (id : PageId) → page_at d.pages id ≡ with_written image table records names (page_at c.pages) id

-- each of these may have been written, and no others
pub record AreBegun (image : List ℕ) (table : ℕ) (records : List LogRecord) (names : List PageId) (c d : Contents) : Type 0 where
  pub logs_stay : d.logs ≡ c.logs
  pub each : (id : PageId) → (page_at d.pages id ≡ page_at c.pages id) ⊎ ((has_page names id ≡ true) × (page_at d.pages id ≡ (recovered image table records id).page))

-- no field is in the way of a record on one of these
abbrev pub AreOk : List ℕ → ℕ → List LogRecord → List PageId → Type 0
AreOk image table records names = (id : PageId) → has_page names id ≡ true → IsOk (recovered image table records id).outcome

-- one is, at this byte
pub record MeetsField (image : List ℕ) (table : ℕ) (records : List LogRecord) (names : List PageId) (v : Volume) (at : ℕ) : Type 0 where
  pub page : PageId
  pub names_it : v ≡ volume.Page page
  pub written : has_page names page ≡ true
  pub meets : (recovered image table records page).outcome ≡ Err (record { at = at })

-- all of these were written, so many of which aren't all zeros; or some, and a field was in the way, or the disk failed, as it counted
pub record Writes (before after : Option Contents) (faults faults_now : ℕ) (image : List ℕ) (table : ℕ) (records : List LogRecord) (names : List PageId) (result : Result ℕ CopyFault) : Type 0 where
  pub ok : IfOk result (λ count. Becomes before after (AreWritten image table records names) × AreOk image table records names × (count ≡ count_of image table records names))
  pub damaged : (v : Volume) (at : ℕ) → IsErrOf result (fault.Damaged v at) → MeetsField image table records names v at
  pub failed : IsErrOf result fault.Disk → Rose faults faults_now
  pub no_source : IsErrOf result fault.Source → ⊥
  pub no_sink : IsErrOf result fault.Sink → ⊥
  pub no_image : (at : ℕ) → IsErrOf result (fault.Image at) → ⊥
  pub begun : OnErr result (Becomes before after (AreBegun image table records names))
  pub later : faults ≤ faults_now
