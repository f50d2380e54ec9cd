-- What a line of a report may hold, and its spelling.
use Rattle.std.specs.Prelude.{ℕ, ◌==◌, ◌-◌, ◌^◌, Bool, true, ◌&&◌, ◌||◌, nat_lt, nat_le, List, ◌++◌, length, Option, Some, None, codes, decimal}
use Rattle.std.specs.List.{list_all, list_any, slice_split}
use Rattle.std.specs.Str.{bytes_eq}
use Rattle.ds_model.specs.declared.lock.Name.{Name}
use Rattle.ds_model.specs.declared.lock.Name.TheVariants as lock
use Rattle.ds_model.specs.declared.report.ToldRefusal.{ToldRefusal}
use Rattle.ds_model.specs.declared.report.ToldRefusal.TheVariants as refusal
use Rattle.ds_model.specs.declared.report.Told.TheVariants as told
use Rattle.ds_model.specs.ScriptText.{line, spot_text}
use Rattle.ds_model.specs.ReportText.{get_text, row_text, who_text, answered_text, told_text, cause_text, event_text}
use Rattle.report_line.specs.declared.line.ReportLine.{ReportLine}
use Rattle.report_line.specs.declared.line.ReportLine.TheVariants as lines

-- ---- names, values and numbers

abbrev pub is_between : ℕ → ℕ → ℕ → Bool
is_between least greatest n = nat_le least n && nat_le n greatest

-- a letter, a digit, - or _
abbrev pub is_name_byte : ℕ → Bool
is_name_byte b = is_between 48 57 b || is_between 65 90 b || is_between 97 122 b || (b == 45) || (b == 95)

unfoldable pub is_name : List ℕ → Bool
is_name word = is_between 1 16 (length word) && list_all is_name_byte word

unfoldable pub is_value : List ℕ → Bool
is_value bytes = nat_le (length bytes) 100 && list_all (is_between 0x21 0x7e) bytes

abbrev pub is_member : ℕ → Bool
is_member n = is_between 1 32 n

abbrev pub is_table : ℕ → Bool
is_table n = is_between 1 64 n

-- a number of so many bits
abbrev pub has_bits : ℕ → ℕ → Bool
has_bits bits n = nat_lt n (2 ^ bits)

-- ---- the words of events

abbrev pub is_blank : ℕ → Bool
is_blank b = b == 32

unfoldable pub command_words : List (List ℕ)
command_words = slice_split is_blank (codes "none fail obtain grant release purge retained-at read write unregister test castout-read castout-done next-changed lose rebuilt ask take answer answers wait unwait waits end raise flag set-status status claim unclaim phase-done draw draw-undo page-read page-write log-append log-length log-read log-cut")

unfoldable pub reply_words : List (List ℕ)
reply_words = slice_split is_blank (codes "none done failed no-memory granted retained records-full contention moved record found no-data cache-full lost written valid invalid taken not-changed locked not-held page query gone cells pairs raised not-raised down up restarting not-lost claimed drawn stale lrsn-end")

unfoldable pub is_command : List ℕ → Bool
is_command word = list_any (bytes_eq word) command_words

unfoldable pub is_reply : List ℕ → Bool
is_reply word = list_any (bytes_eq word) reply_words

-- ---- whether a line may stand in a report, as far as it shows in the line alone

abbrev pub is_told_value : Option (List ℕ) → Bool
is_told_value None = true
is_told_value (Some value) = is_value value

abbrev pub is_lock : Name → Bool
is_lock (lock.Space table) = is_table table
is_lock (lock.Row table key) = is_table table && has_bits 64 key
is_lock (lock.Page page) = has_bits 16 page.set && has_bits 32 page.number
is_lock (lock.Set set) = has_bits 16 set

-- names, at least one
abbrev pub are_names : List (List ℕ) → Bool
are_names names = nat_lt 0 (length names) && list_all is_name names

abbrev pub is_refusal : ToldRefusal → Bool
is_refusal (refusal.Held name by) = is_lock name && is_name by
is_refusal (refusal.Retained name by) = is_lock name && is_member by
is_refusal (refusal.Deadlock cycle) = are_names cycle
is_refusal (refusal.SpaceFull table pages) = is_table table && has_bits 32 pages
is_refusal (refusal.RecordsFull limit) = has_bits 32 limit
is_refusal (refusal.LrsnEnd at) = has_bits 80 at
is_refusal refusal.Memory = true
is_refusal refusal.Aborted = true

abbrev pub is_who : List ℕ → ℕ → Bool
is_who name member = is_name name && is_member member

abbrev pub is_line : ReportLine → Bool
is_line lines.Opening = true
is_line (lines.Committed name member answered) = is_who name member
is_line (lines.Refused name member refusal) = is_who name member && is_refusal refusal
is_line (lines.Stopped name member) = is_who name member
is_line (lines.Read table key value) = is_table table && has_bits 64 key && is_told_value value
is_line (lines.Scan table low high count) = is_table table && has_bits 64 low && has_bits 64 high && has_bits 64 count
is_line (lines.Cause c) = is_name c.name && is_between 1 (2 ^ 64 - 1) c.place
is_line (lines.Event e) = has_bits 64 e.place && nat_le e.member 32 && has_bits 64 e.choice && is_command e.command && is_reply e.reply
is_line (lines.Rows count) = has_bits 64 count
is_line (lines.Row r) = is_table r.table && has_bits 64 r.key && is_value r.value
is_line (lines.End status) = has_bits 8 status

-- ---- the spelling of a line

abbrev pub line_text : ReportLine → List ℕ
line_text lines.Opening = line (codes "dsgroup 1")
line_text (lines.Committed name member answered) = line (codes "committed " ++ who_text name member ++ answered_text answered)
line_text (lines.Refused name member refusal) = told_text (who_text name member) (told.Refused refusal)
line_text (lines.Stopped name member) = told_text (who_text name member) told.Stopped
line_text (lines.Read table key value) = get_text table key value
line_text (lines.Scan table low high count) = line (spot_text (codes "scan") table low ++ codes " " ++ decimal high ++ codes " " ++ decimal count)
line_text (lines.Cause c) = cause_text c
line_text (lines.Event e) = event_text e
line_text (lines.Rows count) = line (codes "rows " ++ decimal count)
line_text (lines.Row r) = row_text r
line_text (lines.End status) = line (codes "end " ++ decimal status)
