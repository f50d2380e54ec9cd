-- What a member holds that rebuilds the cache, as plain values.
use Rattle.std.specs.Prelude.{◌≡◌, ℕ, Bool, true, false, List, [], Option, None, replicate}
use Rattle.ds_base.specs.declared.names.PageId.{PageId}
use Rattle.ds_model.specs.declared.log.LogRecord.{LogRecord}
use Rattle.checkpoint_reader.specs.Ends.{end_of}
use Rattle.checkpoint_reader.specs.Readers.{ReaderState, IsNew}
use Rattle.log_record.specs.declared.log.Log.{Log}
use Rattle.page_format.specs.Fields.{page_size}
use Rattle.page_records.specs.declared.places.PageRecords.{PageRecords}

-- whether it has the claim and the cache isn't rebuilt; the reader of the log that is read; up to where the logs are known to be whole records, and those that are read; their records once all are
-- read, and the pages that they name and that aren't brought forward; the page that is to be written, and the bytes of the page at hand
pub record RebuildState : Type 0 where
  pub member : ℕ
  pub claimed : Bool
  pub reader : ReaderState
  pub known : List ℕ
  pub logs : List Log
  pub merged : Option (List LogRecord)
  pub pages : List PageRecords
  pub hand : Option PageId
  pub page : List ℕ

-- nothing of the member's log is read, which is known to be whole records up to there
pub record IsReaderOf (known : List ℕ) (member : ℕ) (r : ReaderState) : Type 0 where
  pub fresh : IsNew member r
  pub known_is : r.known ≡ end_of known member

abbrev pub with_reader : RebuildState → ReaderState → RebuildState
with_reader h r = record h { reader = r }

abbrev pub with_page : RebuildState → List ℕ → RebuildState
with_page h page = record h { page = page }

-- what was read is gone, and no claim stands
abbrev pub given_up : RebuildState → RebuildState
given_up h = record { member = h.member; claimed = false; reader = h.reader; known = h.known; logs = []; merged = None; pages = []; hand = None; page = h.page }

-- the claim stands, and nothing is read under it: the log of the first member is read first
pub record Begins (h k : RebuildState) : Type 0 where
  pub reader_is : IsReaderOf h.known 1 k.reader
  pub rest : k ≡ record { member = h.member; claimed = true; reader = k.reader; known = h.known; logs = []; merged = None; pages = []; hand = None; page = h.page }

-- nothing is claimed or read yet
pub record IsNewRebuild (member : ℕ) (h : RebuildState) : Type 0 where
  pub reader_is : IsReaderOf h.known 1 h.reader
  pub rest : h ≡ record { member = member; claimed = false; reader = h.reader; known = h.known; logs = []; merged = None; pages = []; hand = None; page = replicate page_size 0 }
