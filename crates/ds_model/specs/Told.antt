-- What a report tells of a history.
use Rattle.std.specs.Prelude.{true, false, List, [], ◌∷◌, map}
use Rattle.ds_base.specs.declared.names.TranId.{TranId}
use Rattle.ds_model.specs.declared.script.Op.{Op}
use Rattle.ds_model.specs.declared.script.Op.TheVariants as op
use Rattle.ds_model.specs.declared.script.Script.{Script}
use Rattle.ds_model.specs.declared.fate.Answer.{Answer}
use Rattle.ds_model.specs.declared.fate.Answer.TheVariants as answer
use Rattle.ds_model.specs.declared.fate.Refusal.{Refusal}
use Rattle.ds_model.specs.declared.fate.Refusal.TheVariants as refusal
use Rattle.ds_model.specs.declared.fate.Fate.{Fate}
use Rattle.ds_model.specs.declared.fate.Fate.TheVariants as fate
use Rattle.ds_model.specs.declared.report.ToldRead.{ToldRead}
use Rattle.ds_model.specs.declared.report.ToldRead.TheVariants as read
use Rattle.ds_model.specs.declared.report.ToldRefusal.{ToldRefusal}
use Rattle.ds_model.specs.declared.report.ToldRefusal.TheVariants as told_refusal
use Rattle.ds_model.specs.declared.report.Told.{Told}
use Rattle.ds_model.specs.declared.report.Told.TheVariants as told
use Rattle.ds_model.specs.declared.report.ReportEntry.{ReportEntry}
use Rattle.ds_model.specs.Transactions.{name_of}
use Rattle.ds_model.specs.declared.history.Entry.{Entry}

-- each answer behind what was asked: the value of a get or getu, a scan's rows
abbrev pub told_reads : List Op → List Answer → List ToldRead
told_reads [] answers = []
told_reads (op.Get table key ∷ ops) [] = []
told_reads (op.Get table key ∷ ops) (answer.Value value ∷ answers) = read.Get table key value ∷ told_reads ops answers
told_reads (op.Get table key ∷ ops) (answer.Rows rows ∷ answers) = told_reads ops answers
told_reads (op.Getu table key ∷ ops) [] = []
told_reads (op.Getu table key ∷ ops) (answer.Value value ∷ answers) = read.Get table key value ∷ told_reads ops answers
told_reads (op.Getu table key ∷ ops) (answer.Rows rows ∷ answers) = told_reads ops answers
told_reads (op.Put table key value ∷ ops) answers = told_reads ops answers
told_reads (op.Del table key ∷ ops) answers = told_reads ops answers
told_reads (op.Scan table low high ∷ ops) [] = []
told_reads (op.Scan table low high ∷ ops) (answer.Value value ∷ answers) = told_reads ops answers
told_reads (op.Scan table low high ∷ ops) (answer.Rows rows ∷ answers) = read.Scan table low high rows ∷ told_reads ops answers
told_reads (op.Raise flag ∷ ops) answers = told_reads ops answers
told_reads (op.Await flag ∷ ops) answers = told_reads ops answers
told_reads (op.LoseCache ∷ ops) answers = told_reads ops answers
told_reads (op.Abort ∷ ops) answers = told_reads ops answers

-- a refusal, with the names of transactions
abbrev pub told_refusal_of : Script → Refusal → ToldRefusal
told_refusal_of s (refusal.Held name by) = told_refusal.Held name (name_of s by.number)
told_refusal_of s (refusal.Retained name by) = told_refusal.Retained name by
told_refusal_of s (refusal.Deadlock cycle) = told_refusal.Deadlock (map (λ (t : TranId). name_of s t.number) cycle)
told_refusal_of s (refusal.SpaceFull table pages) = told_refusal.SpaceFull table pages
told_refusal_of s (refusal.RecordsFull limit) = told_refusal.RecordsFull limit
told_refusal_of s (refusal.LrsnEnd at) = told_refusal.LrsnEnd at
told_refusal_of s refusal.Memory = told_refusal.Memory
told_refusal_of s refusal.Aborted = told_refusal.Aborted

-- a committed one that was not answered has told its reads to nobody
abbrev pub told_of : Script → List Op → Fate → Told
told_of s ops (fate.Committed true reads) = told.Committed true (told_reads ops reads)
told_of s ops (fate.Committed false reads) = told.Committed false []
told_of s ops (fate.Refused refusal) = told.Refused (told_refusal_of s refusal)
told_of s ops fate.Stopped = told.Stopped

abbrev pub entry_of : Script → Entry → ReportEntry
entry_of s e = record { name = e.tran.name; member = e.member; told = told_of s e.tran.ops e.fate }
