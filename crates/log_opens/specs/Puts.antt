-- What records that change no row leave open behind others, and what the changes are that a log leaves open.
use Rattle.std.specs.Prelude.{◌≡◌, ℕ, true, false, List, ◌++◌}
use Rattle.std.specs.List.{AllByRecursion}
use Rattle.ds_model.specs.RecordBytes.{IsAllowed, IsNumber}
use Rattle.ds_model.specs.Rows.{Spot}
use Rattle.ds_model.specs.declared.log.LogRecord.{LogRecord}
use Rattle.ds_model.specs.declared.log.Version.TheVariants as version
use Rattle.log_rows.specs.Rows.{has_changed, touches}
use Rattle.log_trans.specs.declared.opened.OpenTran.{OpenTran}
use Rattle.log_trans.specs.Courses.{open_trans}
use Rattle.log_opens.specs.Opens.{has_opened}

-- none of the records changes a row; what takes a change back isn't meant
abbrev pub ChangeNone : List LogRecord → Type 0
ChangeNone records = (id : ℕ) (s : Spot) → has_changed records id s ≡ false

-- behind such records each transaction that is left open was so before, with the rows that it has changed
abbrev pub OpensStayFew : Type 0
OpensStayFew = (records more : List LogRecord)
    → ChangeNone more → AllByRecursion (λ (t : OpenTran). (s : Spot) → touches t s ≡ true → has_opened (open_trans records) t.id s ≡ true) (open_trans (records ++ more))

-- its number is that of a record that is written, and the records of its changes that stand are allowed
pub record HasAllowed (t : OpenTran) : Type 0 where
  pub number : IsNumber version.Two t.id
  pub undo : AllByRecursion IsAllowed t.undo

abbrev pub OpensAreAllowed : Type 0
OpensAreAllowed = (records : List LogRecord) → AllByRecursion IsAllowed records → AllByRecursion HasAllowed (open_trans records)
