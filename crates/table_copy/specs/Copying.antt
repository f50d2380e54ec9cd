-- How a table is copied.
use Rattle.std.specs.Prelude.{◌≡◌, ◌⊎◌, ℕ, ◌+◌, ◌<◌, ◌≤◌, List, Option, Some, None, Result, Ok, Err, IfOk, OnErr, IsErrOf}
use Rattle.std.specs.Io.KnownBytes.{Appends}
use Rattle.ds_base.specs.Causes.{Rose}
use Rattle.ds_base.specs.Pages.{heap_page, index_page}
use Rattle.ds_base.specs.declared.names.PageId.{PageId}
use Rattle.ds_base.specs.declared.names.Volume.{Volume}
use Rattle.ds_base.specs.declared.names.Volume.TheVariants as volume
use Rattle.ds_disk.specs.Contents.{Contents, WhenTold, Becomes, Same}
use Rattle.ds_disk.specs.Pages.{page_at}
use Rattle.page_format.specs.declared.header.NotAPage.{NotAPage}
use Rattle.table_image_text.specs.Pages.{page_fault, pages_counted}
use Rattle.table_image_text.specs.Image.{page_name, heap_count, index_count, image_of}
use Rattle.table_copy.specs.Looking.{TakesFront}
use Rattle.table_copy.specs.declared.fault.CopyFault.{CopyFault}
use Rattle.table_copy.specs.declared.fault.CopyFault.TheVariants as fault

-- ---- what was met

-- a disk and a sink, before a call or behind it
pub record Around : Type 0 where
  pub contents : Option Contents
  pub disk_faults : ℕ
  pub taken : Option (List ℕ)
  pub sink_faults : ℕ

-- Where the disk told what it holds: behind Ok the sink has taken all of the text, and the answer holds; else it has taken a front of
-- it, and what is wrong holds where damage is met. The disk stays as it was. A device failed only where it counted a fault.
pub record Copies {T : Type 0} (before after : Around) (text : Contents → List ℕ) (Is : T → Contents → Type 0) (IsWrong : Volume → ℕ → Contents → Type 0) (result : Result T CopyFault) : Type 0 where
  pub ok : IfOk result (λ x. WhenTold before.contents (λ c. Is x c × Appends before.taken after.taken (text c)))
  pub front : OnErr result (WhenTold before.contents (λ c. TakesFront before.taken after.taken (text c)))
  pub damaged : (volume : Volume) (at : ℕ) → IsErrOf result (fault.Damaged volume at) → WhenTold before.contents (IsWrong volume at)
  pub disk_failed : IsErrOf result fault.Disk → Rose before.disk_faults after.disk_faults
  pub sink_failed : IsErrOf result fault.Sink → Rose before.sink_faults after.sink_faults
  pub no_source : IsErrOf result fault.Source → ⊥
  pub no_image : (at : ℕ) → IsErrOf result (fault.Image at) → ⊥
  pub same : Becomes before.contents after.contents Same
  pub disk_later : before.disk_faults ≤ after.disk_faults
  pub sink_later : before.sink_faults ≤ after.sink_faults

-- ---- a page

-- the byte of a page at which a field begins that can't stand in an image
abbrev pub IsPageFault : (PageId → List ℕ) → PageId → Volume → ℕ → Type 0
IsPageFault pages id v at = (v ≡ volume.Page id) × (page_fault id (pages id) ≡ Some at)

abbrev pub MayBeCopied : (PageId → List ℕ) → PageId → Type 0
MayBeCopied pages id = page_fault id (pages id) ≡ None

-- ---- the pages of a table

abbrev pub AreCopied : (PageId → List ℕ) → ℕ → ℕ → ℕ → Type 0
AreCopied pages table heap count = (n : ℕ) → n < count → MayBeCopied pages (page_name table heap n)

-- one of them has such a field
pub record HasPageFault (pages : PageId → List ℕ) (table heap count : ℕ) (v : Volume) (at : ℕ) : Type 0 where
  pub n : ℕ
  pub below : n < count
  pub is : IsPageFault pages (page_name table heap n) v at

-- ---- a header page

abbrev pub CountsTo : (PageId → List ℕ) → PageId → ℕ → Type 0
CountsTo pages id count = pages_counted id (pages id) ≡ Ok count

abbrev pub fault_at : ℕ → NotAPage
fault_at at = record { at = at }

-- the byte at which a field begins that can't stand there
abbrev pub IsCountFault : (PageId → List ℕ) → PageId → Volume → ℕ → Type 0
IsCountFault pages id v at = (v ≡ volume.Page id) × (pages_counted id (pages id) ≡ Err (fault_at at))

-- ---- a table

-- so many pages of the table were copied, each of which may stand in an image, and its header pages count them
pub record IsCopied (pages : PageId → List ℕ) (table count : ℕ) : Type 0 where
  pub heap : CountsTo pages (heap_page table 0) (heap_count pages table)
  pub index : CountsTo pages (index_page table 0) (index_count pages table)
  pub each : AreCopied pages table (heap_count pages table) count
  pub count_is : count ≡ heap_count pages table + index_count pages table

-- a byte at which a field begins that can't stand in a copy of the table: of a header page, or of one of the pages that they count
abbrev pub IsWrong : (PageId → List ℕ) → ℕ → Volume → ℕ → Type 0
IsWrong pages table v at =
    (IsCountFault pages (heap_page table 0) v at ⊎ IsCountFault pages (index_page table 0) v at)
    ⊎ HasPageFault pages table (heap_count pages table) (heap_count pages table + index_count pages table) v at

-- how a copy of the table ends
abbrev pub CopiesTable : ℕ → ℕ → Around → Around → Result ℕ CopyFault → Type 0
CopiesTable table lrsn before after result =
    Copies before after (λ c. image_of (page_at c.pages) table lrsn) (λ count c. IsCopied (page_at c.pages) table count) (λ v at c. IsWrong (page_at c.pages) table v at) result
