-- That no field of a page is ever in the way of redo: each change of a chain was made where its fields could stand, so redo of it from any
-- version finds them so.
use Rattle.std.specs.Prelude.{◌≡◌, ℕ, ◌+◌, ◌≤◌, Bool, true, false, List, [], ◌∷◌, None, Some, Result, Ok, Err}
use Rattle.ds_base.specs.declared.names.PageId.{PageId}
use Rattle.ds_model.specs.declared.log.LogRecord.{LogRecord}
use Rattle.page_format.specs.Header.{header_of}
use Rattle.page_format.specs.declared.header.Header.{Header}
use Rattle.page_format.specs.declared.header.NotAPage.{NotAPage}
use Rattle.log_record.specs.declared.log.Log.{Log}
use Rattle.log_merge.specs.Merging.{all_records, in_order}
use Rattle.page_redo.specs.Forward.{body_fault, brought_forward}
use Rattle.page_protocol.specs.Page.{AllStable, copy_before}
use Rattle.page_protocol.specs.Moves.{World, Move, Step, IsRead}
use Rattle.page_protocol.specs.Always.{Good}
use Rattle.log_tells.specs.Told.{Told, IsTold, HaveParts, chain_of, drawn_in, part_of}
use Rattle.log_tells.specs.Keeps.{Fits, GoesOn, changed_by, told_after}
use Rattle.log_tells.specs.Leads.{IsCovered, records_by}

-- ---- chains without a fault

abbrev pub is_header : Result Header NotAPage → Bool
is_header (Ok header) = true
is_header (Err fault) = false

-- no field of the version before it is in the way of a change, from the i-th on
abbrev pub AreClear : PageId → (ℕ → List ℕ) → ℕ → List Told → Type 0
AreClear id content i [] = Unit {0}
AreClear id content i (t ∷ ts) = (body_fault id (content i) t.it.body ≡ None) × AreClear id content (i + 1) ts

-- and each version has a header that the page may have
pub record IsClear (name : ℕ → PageId) (w : World) (content : ℕ → ℕ → List ℕ) (told : List Told) : Type 0 where
  pub headers : (n v : ℕ) → v ≤ (w.pages n).last → is_header (header_of (content n v) (name n)) ≡ true
  pub chains : (n : ℕ) → AreClear (name n) (content n) 0 (chain_of (name n) told)

-- so it stays where the record of a move finds the last version clear, and leaves such a header
pub record IsClearNext (name : ℕ → PageId) (w : World) (e : Move) (r : LogRecord) (content after : ℕ → ℕ → List ℕ) : Type 0 where
  pub fault : (n : ℕ) → changed_by e n ≡ true → body_fault (name n) (content n (w.pages n).last) r.body ≡ None
  pub header : (n : ℕ) → changed_by e n ≡ true → is_header (header_of (after n ((w.pages n).last + 1)) (name n)) ≡ true

abbrev pub StaysClear : Type 0
StaysClear = (name : ℕ → PageId) (set : ℕ → ℕ) (w v : World) (e : Move) (r : LogRecord) (content after : ℕ → ℕ → List ℕ) (told : List Told)
    → Good w → IsTold name w content told → Step set w e v → Fits name w e r told → GoesOn name w e r content after → IsClear name w content told → IsClearNext name w e r content after
    → IsClear name v after (told_after w e r told)

-- ---- redo meets no fault

-- the page is brought forward, to these bytes
pub record IsBrought (id : PageId) (page : List ℕ) (records : List LogRecord) (last : List ℕ) : Type 0 where
  pub applied : Bool
  pub outcome : (brought_forward id page records).outcome ≡ Ok applied
  pub page_is : (brought_forward id page records).page ≡ last

abbrev pub RebuildIsClear : Type 0
RebuildIsClear = (name : ℕ → PageId) (w : World) (content : ℕ → ℕ → List ℕ) (told : List Told) (from : ℕ → ℕ) (logs : List Log) (n v : ℕ)
    → Good w → IsTold name w content told → IsClear name w content told → w.down ≡ false → w.group.lost ≡ true → HaveParts told from w.group.read (records_by logs)
    → IsCovered (w.pages n) from (w.pages n).disk → IsRead w.group (w.pages n) v
    → IsBrought (name n) (content n (w.pages n).disk) (in_order (all_records logs)) (content n v)

abbrev pub RestartIsClear : Type 0
RestartIsClear = (name : ℕ → PageId) (w : World) (content : ℕ → ℕ → List ℕ) (told : List Told) (from : ℕ → ℕ) (own : List LogRecord) (m n d : ℕ)
    → Good w → IsTold name w content told → IsClear name w content told → w.down ≡ false → (w.pages n).owner ≡ Some m → AllStable w.group (w.pages n) (w.pages n).last → drawn_in own ≡ part_of m (from m) (w.group.stable m) told
    → IsCovered (w.pages n) from d → copy_before w.group (w.pages n) ≤ d → d ≤ (w.pages n).last
    → IsBrought (name n) (content n d) own (content n (w.pages n).last)

abbrev pub GroupRestartIsClear : Type 0
GroupRestartIsClear = (name : ℕ → PageId) (w : World) (content : ℕ → ℕ → List ℕ) (told : List Told) (from : ℕ → ℕ) (logs : List Log) (n d : ℕ)
    → Good w → IsTold name w content told → IsClear name w content told → w.down ≡ true → HaveParts told from w.group.stable (records_by logs)
    → IsCovered (w.pages n) from d → d ≤ (w.pages n).last
    → IsBrought (name n) (content n d) (in_order (all_records logs)) (content n (w.pages n).last)
