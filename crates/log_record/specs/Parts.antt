-- Parts of the spelling of a log record.
use Rattle.std.specs.Prelude.{List, ℕ, ◌∷◌, ◌++◌}
use Rattle.std.specs.Int.{w16, w32, to_be_bytes}
use Rattle.ds_base.specs.declared.names.PageId.{PageId}
use Rattle.ds_model.specs.declared.log.LogRecord.{LogRecord}
use Rattle.ds_model.specs.declared.log.Version.TheVariants as version
use Rattle.ds_model.specs.RecordBytes.{kind_of, version_byte, lrsn_bytes}

abbrev pub page_bytes : PageId → List ℕ
page_bytes p = to_be_bytes w16 p.set ++ to_be_bytes w32 p.number

-- from the kind to the transaction of a record that is written
abbrev pub head_bytes : LogRecord → List ℕ
head_bytes r = kind_of r.body ∷ version_byte version.Two ∷ lrsn_bytes version.Two r.lrsn ++ lrsn_bytes version.Two r.tran
