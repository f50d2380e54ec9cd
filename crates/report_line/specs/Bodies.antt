-- The words of each line.
use Rattle.std.specs.Prelude.{ℕ, ◌==◌, Bool, true, false, not, List, [], ◌∷◌, ◌++◌, Option, Some, None, codes, decimal}
use Rattle.std.specs.List.{join_with_byte}
use Rattle.ds_model.specs.declared.lock.Name.{Name}
use Rattle.ds_model.specs.declared.lock.Name.TheVariants as lock
use Rattle.ds_model.specs.declared.report.ToldRefusal.{ToldRefusal}
use Rattle.ds_model.specs.declared.report.ToldRefusal.TheVariants as refusal
use Rattle.report_line.specs.declared.line.ReportLine.{ReportLine}
use Rattle.report_line.specs.declared.line.ReportLine.TheVariants as lines

-- M (77) and its number
abbrev pub member_word : ℕ → List ℕ
member_word member = 77 ∷ decimal member

abbrev pub answered_word : Bool → List ℕ
answered_word true = codes "answered"
answered_word false = codes "unanswered"

-- a value behind = (61)
abbrev pub told_value_word : Option (List ℕ) → List ℕ
told_value_word None = codes "-"
told_value_word (Some value) = 61 ∷ value

abbrev pub lock_words : Name → List (List ℕ)
lock_words (lock.Space table) = codes "space" ∷ decimal table ∷ []
lock_words (lock.Row table key) = codes "row" ∷ decimal table ∷ decimal key ∷ []
lock_words (lock.Page page) = codes "page" ∷ decimal page.set ∷ decimal page.number ∷ []
lock_words (lock.Set set) = codes "set" ∷ decimal set ∷ []

abbrev pub refusal_words : ToldRefusal → List (List ℕ)
refusal_words (refusal.Held name by) = codes "held" ∷ (lock_words name ++ codes "by" ∷ by ∷ [])
refusal_words (refusal.Retained name by) = codes "retained" ∷ (lock_words name ++ codes "by" ∷ member_word by ∷ [])
refusal_words (refusal.Deadlock cycle) = codes "deadlock" ∷ cycle
refusal_words (refusal.SpaceFull table pages) = codes "space-full" ∷ decimal table ∷ decimal pages ∷ []
refusal_words (refusal.RecordsFull limit) = codes "records-full" ∷ decimal limit ∷ []
refusal_words (refusal.LrsnEnd at) = codes "lrsn-end" ∷ decimal at ∷ []
refusal_words refusal.Memory = codes "memory" ∷ []
refusal_words refusal.Aborted = codes "aborted" ∷ []

abbrev pub line_words : ReportLine → List (List ℕ)
line_words lines.Opening = codes "dsgroup" ∷ codes "1" ∷ []
line_words (lines.Committed name member answered) = codes "committed" ∷ name ∷ member_word member ∷ answered_word answered ∷ []
line_words (lines.Refused name member refusal) = codes "refused" ∷ name ∷ member_word member ∷ refusal_words refusal
line_words (lines.Stopped name member) = codes "stopped" ∷ name ∷ member_word member ∷ []
line_words (lines.Read table key value) = codes "read" ∷ decimal table ∷ decimal key ∷ told_value_word value ∷ []
line_words (lines.Scan table low high count) = codes "scan" ∷ decimal table ∷ decimal low ∷ decimal high ∷ decimal count ∷ []
line_words (lines.Cause c) = codes "cause" ∷ c.name ∷ decimal c.place ∷ []
line_words (lines.Event e) = codes "event" ∷ decimal e.place ∷ decimal e.member ∷ decimal e.choice ∷ e.command ∷ e.reply ∷ []
line_words (lines.Rows count) = codes "rows" ∷ decimal count ∷ []
line_words (lines.Row r) = codes "row" ∷ decimal r.table ∷ decimal r.key ∷ told_value_word (Some r.value) ∷ []
line_words (lines.End status) = codes "end" ∷ decimal status ∷ []

-- the line without its line feed
abbrev pub line_body : ReportLine → List ℕ
line_body l = join_with_byte 32 (line_words l)

-- no line feed
abbrev pub is_inner_byte : ℕ → Bool
is_inner_byte b = not (b == 10)
