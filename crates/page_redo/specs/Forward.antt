-- A page brought forward by records.
use Rattle.std.specs.Prelude.{◌≡◌, ℕ, ◌+◌, nat_lt, nat_le, Bool, true, false, ◌||◌, ◌&&◌, if◌then◌else◌, List, [], ◌∷◌, ◌++◌, length, filter, Option, None, Some, Result, Ok, Err}
use Rattle.std.specs.List.{list_any, AllByRecursion}
use Rattle.ds_base.specs.declared.names.PageId.{PageId}
use Rattle.ds_model.specs.declared.log.LogRecord.{LogRecord}
use Rattle.ds_model.specs.declared.log.Body.{Body}
use Rattle.ds_model.specs.declared.log.Body.TheVariants as body
use Rattle.ds_model.specs.RecordBytes.{IsAllowed}
use Rattle.page_format.specs.Fields.{page_size, lrsn_of}
use Rattle.page_format.specs.Header.{header_of}
use Rattle.page_format.specs.declared.header.Header.{Header}
use Rattle.page_format.specs.declared.header.NotAPage.{NotAPage}
use Rattle.page_format.specs.declared.patch.Patch.{Patch}
use Rattle.heap_space.specs.Written.{written}
use Rattle.ds_base.specs.Pages.{same_page}
use Rattle.page_chain.specs.Chains.{row_patch, touches, version_of, redo, AreRecords}
use Rattle.page_redo.specs.declared.fault.FieldFault.{FieldFault}
use Rattle.page_redo.specs.Rows.{change_fault}

-- ---- one record

-- the patch lies in its page, as each patch of a log does
abbrev pub lies_in_page : Patch → Bool
lies_in_page p = nat_le (p.offset + length p.bytes) page_size

-- the patches that are made
abbrev pub patches_of : Body → List Patch
patches_of (body.RowChange c) = row_patch c ∷ []
patches_of (body.Compensation c undone) = row_patch c ∷ []
patches_of (body.System patches) = filter lies_in_page patches
patches_of body.Commit = []
patches_of body.Ended = []
patches_of (body.Checkpoint offset) = []
patches_of body.RestartEnd = []

abbrev pub has_patch : PageId → List Patch → Bool
has_patch id patches = list_any (λ (p : Patch). same_page p.page id) patches

-- where the page shows that it can't be the one that was changed: a changed row has its slot there already
abbrev pub body_fault : PageId → List ℕ → Body → Option ℕ
body_fault id page (body.RowChange c) = change_fault id c page
body_fault id page (body.Compensation c undone) = change_fault id c page
body_fault id page (body.System patches) = None
body_fault id page body.Commit = None
body_fault id page body.Ended = None
body_fault id page (body.Checkpoint offset) = None
body_fault id page body.RestartEnd = None

-- what the page is, and whether records were applied to it, or the first field in the way
pub record Forward : Type 0 where
  pub page : List ℕ
  pub outcome : Result Bool FieldFault

-- all patches of the record for the page at once, with the record's number, unless a field is in the way
abbrev pub unless : Option ℕ → PageId → List ℕ → LogRecord → Forward
unless (Some at) id page r = record { page = page; outcome = Err (record { at = at }) }
unless None id page r = record { page = written id r.lrsn (patches_of r.body) page; outcome = Ok true }

-- a record is applied where it changes the page and its number is above the page's
abbrev pub after_one : PageId → List ℕ → LogRecord → Forward
after_one id page r =
    if nat_lt (lrsn_of page) r.lrsn && has_patch id (patches_of r.body) then unless (body_fault id page r.body) id page r
    else record { page = page; outcome = Ok false }

-- a fault as what was found, where there is one
abbrev pub outcome_of : Option ℕ → Result Bool FieldFault
outcome_of (Some at) = Err (record { at = at })
outcome_of None = Ok true

-- ---- several records

abbrev pub go_on : (List ℕ → Bool → Forward) → Bool → List ℕ → Result Bool FieldFault → Forward
go_on more applied page (Err fault) = record { page = page; outcome = Err fault }
go_on more applied page (Ok one) = more page (applied || one)

-- in their order, up to the first field in the way
abbrev pub forward_from : PageId → List ℕ → Bool → List LogRecord → Forward
forward_from id page applied [] = record { page = page; outcome = Ok applied }
forward_from id page applied (r ∷ rs) = go_on (λ p b. forward_from id p b rs) applied (after_one id page r).page (after_one id page r).outcome

abbrev pub headed : PageId → List ℕ → List LogRecord → Result Header NotAPage → Forward
headed id page records (Err e) = record { page = page; outcome = Err (record { at = e.at }) }
headed id page records (Ok h) = forward_from id page false records

-- the page of this name, brought forward by these records
abbrev pub brought_forward : PageId → List ℕ → List LogRecord → Forward
brought_forward id page records = headed id page records (header_of page id)

-- ---- laws

-- where no field is in the way, records of logs make of the page what redo makes of it
abbrev pub IsRedo : Type 0
IsRedo = (id : PageId) (page : List ℕ) (records : List LogRecord) (applied : Bool) → AllByRecursion IsAllowed records → (brought_forward id page records).outcome ≡ Ok applied
    → (brought_forward id page records).page ≡ redo id page records

-- and of each version of the page the last one
abbrev pub ReachesLast : Type 0
ReachesLast = (id : PageId) (first rest : List LogRecord) (applied : Bool) → AreRecords (first ++ rest) → (brought_forward id (version_of id first) (first ++ rest)).outcome ≡ Ok applied
    → (brought_forward id (version_of id first) (first ++ rest)).page ≡ version_of id (first ++ rest)

-- records that don't change the page may be left out
abbrev pub NeedsItsOwn : Type 0
NeedsItsOwn = (id : PageId) (page : List ℕ) (records : List LogRecord) → brought_forward id page (filter (touches id) records) ≡ brought_forward id page records
