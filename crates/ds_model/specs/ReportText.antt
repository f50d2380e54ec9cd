-- The one spelling of a report.
use Rattle.std.specs.Prelude.{ℕ, Bool, true, false, List, ◌++◌, length, Option, Some, None, codes, decimal}
use Rattle.std.specs.List.{flat_map}
use Rattle.ds_base.specs.declared.row.Row.{Row}
use Rattle.ds_base.specs.declared.names.PageId.{PageId}
use Rattle.ds_model.specs.declared.lock.Name.{Name}
use Rattle.ds_model.specs.declared.lock.Name.TheVariants as lock
use Rattle.ds_model.specs.declared.report.ToldRead.{ToldRead}
use Rattle.ds_model.specs.declared.report.ToldRead.TheVariants as read
use Rattle.ds_model.specs.declared.report.ToldRefusal.{ToldRefusal}
use Rattle.ds_model.specs.declared.report.ToldRefusal.TheVariants as refusal
use Rattle.ds_model.specs.declared.report.Told.{Told}
use Rattle.ds_model.specs.declared.report.Told.TheVariants as told
use Rattle.ds_model.specs.declared.report.ReportEntry.{ReportEntry}
use Rattle.ds_model.specs.declared.report.CauseLine.{CauseLine}
use Rattle.ds_model.specs.declared.report.EventLine.{EventLine}
use Rattle.ds_model.specs.declared.report.Trace.{Trace}
use Rattle.ds_model.specs.declared.report.Report.{Report}
use Rattle.ds_model.specs.ScriptText.{line, spot_text}

abbrev pub value_text : Option (List ℕ) → List ℕ
value_text None = codes " -"
value_text (Some value) = codes " =" ++ value

abbrev pub get_text : ℕ → ℕ → Option (List ℕ) → List ℕ
get_text table key value = line (spot_text (codes "read") table key ++ value_text value)

abbrev pub scanned_text : Row → List ℕ
scanned_text r = get_text r.table r.key (Some r.value)

abbrev pub read_text : ToldRead → List ℕ
read_text (read.Get table key value) = get_text table key value
read_text (read.Scan table low high rows) = line (spot_text (codes "scan") table low ++ codes " " ++ decimal high ++ codes " " ++ decimal (length rows)) ++ flat_map scanned_text rows

abbrev pub row_text : Row → List ℕ
row_text r = line (spot_text (codes "row") r.table r.key ++ value_text (Some r.value))

abbrev pub page_text : PageId → List ℕ
page_text p = codes "page " ++ decimal p.set ++ codes " " ++ decimal p.number

abbrev pub lock_text : Name → List ℕ
lock_text (lock.Space table) = codes "space " ++ decimal table
lock_text (lock.Row table key) = spot_text (codes "row") table key
lock_text (lock.Page page) = page_text page
lock_text (lock.Set set) = codes "set " ++ decimal set

abbrev pub cycle_text : List ℕ → List ℕ
cycle_text name = codes " " ++ name

abbrev pub refusal_text : ToldRefusal → List ℕ
refusal_text (refusal.Held name by) = codes "held " ++ lock_text name ++ codes " by " ++ by
refusal_text (refusal.Retained name by) = codes "retained " ++ lock_text name ++ codes " by M" ++ decimal by
refusal_text (refusal.Deadlock cycle) = codes "deadlock" ++ flat_map cycle_text cycle
refusal_text (refusal.SpaceFull table pages) = codes "space-full " ++ decimal table ++ codes " " ++ decimal pages
refusal_text (refusal.RecordsFull limit) = codes "records-full " ++ decimal limit
refusal_text (refusal.LrsnEnd at) = codes "lrsn-end " ++ decimal at
refusal_text refusal.Memory = codes "memory"
refusal_text refusal.Aborted = codes "aborted"

abbrev pub answered_text : Bool → List ℕ
answered_text true = codes " answered"
answered_text false = codes " unanswered"

abbrev pub who_text : List ℕ → ℕ → List ℕ
who_text name member = name ++ codes " M" ++ decimal member

abbrev pub told_text : List ℕ → Told → List ℕ
told_text who (told.Committed answered reads) = line (codes "committed " ++ who ++ answered_text answered) ++ flat_map read_text reads
told_text who (told.Refused refusal) = line (codes "refused " ++ who ++ codes " " ++ refusal_text refusal)
told_text who told.Stopped = line (codes "stopped " ++ who)

abbrev pub entry_text : ReportEntry → List ℕ
entry_text e = told_text (who_text e.name e.member) e.told

abbrev pub cause_text : CauseLine → List ℕ
cause_text c = line (codes "cause " ++ c.name ++ codes " " ++ decimal c.place)

abbrev pub event_text : EventLine → List ℕ
event_text e = line (codes "event " ++ decimal e.place ++ codes " " ++ decimal e.member ++ codes " " ++ decimal e.choice ++ codes " " ++ e.command ++ codes " " ++ e.reply)

abbrev pub trace_text : Trace → List ℕ
trace_text t = flat_map cause_text t.causes ++ flat_map event_text t.events

abbrev pub report_text : Report → List ℕ
report_text r = line (codes "dsgroup 1") ++ flat_map entry_text r.entries ++ trace_text r.trace ++ line (codes "rows " ++ decimal (length r.rows)) ++ flat_map row_text r.rows ++ line (codes "end " ++ decimal r.status)
