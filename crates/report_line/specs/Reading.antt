-- What a line of text says.
use Rattle.std.specs.Prelude.{ℕ, Bool, ◌&&◌, ◌||◌, if◌then◌else◌, List, [], drop, Option, Some, None, codes}
use Rattle.std.specs.Option.{unwrap_or}
use Rattle.std.specs.List.{slice_index_or, slice_split}
use Rattle.std.specs.Str.{bytes_eq}
use Rattle.ds_model.specs.declared.lock.Name.{Name}
use Rattle.ds_model.specs.declared.lock.Name.TheVariants as lock
use Rattle.ds_model.specs.declared.report.ToldRefusal.{ToldRefusal}
use Rattle.ds_model.specs.declared.report.ToldRefusal.TheVariants as refusal
use Rattle.ds_model.specs.ScriptText.{line}
use Rattle.number_text.specs.Numbers.{number_of, wide_number_of}
use Rattle.report_line.specs.declared.line.ReportLine.{ReportLine}
use Rattle.report_line.specs.declared.line.ReportLine.TheVariants as lines
use Rattle.report_line.specs.Lines.{is_blank, is_line, line_text}

-- ---- words, by their place from 0

unfoldable pub words_of : List ℕ → List (List ℕ)
words_of text = slice_split is_blank text

unfoldable pub word : List ℕ → ℕ → List ℕ
word text at = slice_index_or (words_of text) at []

unfoldable pub number : List ℕ → ℕ
number digits = unwrap_or (number_of digits) 0

unfoldable pub wide_number : List ℕ → ℕ
wide_number digits = unwrap_or (wide_number_of digits) 0

-- ---- what the words at their places would say, whatever they are

abbrev pub number_at : List ℕ → ℕ → ℕ
number_at text at = number (word text at)

abbrev pub wide_number_at : List ℕ → ℕ → ℕ
wide_number_at text at = wide_number (word text at)

-- the number behind a word's first byte
abbrev pub member_at : List ℕ → ℕ → ℕ
member_at text at = number (drop 1 (word text at))

abbrev pub value_at : List ℕ → ℕ → List ℕ
value_at text at = drop 1 (word text at)

abbrev pub told_value_at : List ℕ → ℕ → Option (List ℕ)
told_value_at text at = if bytes_eq (word text at) (codes "-") then None else Some (value_at text at)

abbrev pub page_said : List ℕ → Name
page_said text = lock.Page (record { set = number_at text 5; number = number_at text 6 })

unfoldable pub lock_said : List ℕ → Name
lock_said text =
    if bytes_eq (word text 4) (codes "space") then lock.Space (number_at text 5)
    else if bytes_eq (word text 4) (codes "row") then lock.Row (number_at text 5) (number_at text 6)
    else if bytes_eq (word text 4) (codes "page") then page_said text
    else lock.Set (number_at text 5)

-- the place of who holds the lock
abbrev pub by_place : List ℕ → ℕ
by_place text = if bytes_eq (word text 4) (codes "row") || bytes_eq (word text 4) (codes "page") then 8 else 7

abbrev pub held_said : List ℕ → ToldRefusal
held_said text = refusal.Held (lock_said text) (word text (by_place text))

abbrev pub retained_said : List ℕ → ToldRefusal
retained_said text = refusal.Retained (lock_said text) (member_at text (by_place text))

abbrev pub deadlock_said : List ℕ → ToldRefusal
deadlock_said text = refusal.Deadlock (drop 4 (words_of text))

abbrev pub space_full_said : List ℕ → ToldRefusal
space_full_said text = refusal.SpaceFull (number_at text 4) (number_at text 5)

unfoldable pub refusal_said : List ℕ → ToldRefusal
refusal_said text =
    if bytes_eq (word text 3) (codes "held") then held_said text
    else if bytes_eq (word text 3) (codes "retained") then retained_said text
    else if bytes_eq (word text 3) (codes "deadlock") then deadlock_said text
    else if bytes_eq (word text 3) (codes "space-full") then space_full_said text
    else if bytes_eq (word text 3) (codes "records-full") then refusal.RecordsFull (number_at text 4)
    else if bytes_eq (word text 3) (codes "lrsn-end") then refusal.LrsnEnd (wide_number_at text 4)
    else if bytes_eq (word text 3) (codes "memory") then refusal.Memory
    else refusal.Aborted

abbrev pub committed_said : List ℕ → ReportLine
committed_said text = lines.Committed (word text 1) (member_at text 2) (bytes_eq (word text 3) (codes "answered"))

abbrev pub refused_said : List ℕ → ReportLine
refused_said text = lines.Refused (word text 1) (member_at text 2) (refusal_said text)

abbrev pub stopped_said : List ℕ → ReportLine
stopped_said text = lines.Stopped (word text 1) (member_at text 2)

abbrev pub read_said : List ℕ → ReportLine
read_said text = lines.Read (number_at text 1) (number_at text 2) (told_value_at text 3)

abbrev pub scan_said : List ℕ → ReportLine
scan_said text = lines.Scan (number_at text 1) (number_at text 2) (number_at text 3) (number_at text 4)

abbrev pub cause_said : List ℕ → ReportLine
cause_said text = lines.Cause (record { name = word text 1; place = number_at text 2 })

abbrev pub event_said : List ℕ → ReportLine
event_said text = lines.Event (record { place = number_at text 1; member = number_at text 2; choice = number_at text 3; command = word text 4; reply = word text 5 })

abbrev pub rows_said : List ℕ → ReportLine
rows_said text = lines.Rows (number_at text 1)

abbrev pub row_said : List ℕ → ReportLine
row_said text = lines.Row (record { table = number_at text 1; key = number_at text 2; value = value_at text 3 })

abbrev pub end_said : List ℕ → ReportLine
end_said text = lines.End (number_at text 1)

abbrev pub later_said : List ℕ → ReportLine
later_said text =
    if bytes_eq (word text 0) (codes "cause") then cause_said text
    else if bytes_eq (word text 0) (codes "event") then event_said text
    else if bytes_eq (word text 0) (codes "rows") then rows_said text
    else if bytes_eq (word text 0) (codes "row") then row_said text
    else if bytes_eq (word text 0) (codes "end") then end_said text
    else lines.Opening

unfoldable pub line_said : List ℕ → ReportLine
line_said text =
    if bytes_eq (word text 0) (codes "committed") then committed_said text
    else if bytes_eq (word text 0) (codes "refused") then refused_said text
    else if bytes_eq (word text 0) (codes "stopped") then stopped_said text
    else if bytes_eq (word text 0) (codes "read") then read_said text
    else if bytes_eq (word text 0) (codes "scan") then scan_said text
    else later_said text

-- ---- what a line says, without the line feed that ends it: what its words would say, where that may stand and is spelled so

abbrev pub kept : {A : Type 0} → Bool → A → Option A
kept test a = if test then Some a else None

abbrev pub allowed : ReportLine → Option ReportLine
allowed l = kept (is_line l) l

-- the line is spelled so
abbrev pub is_spelled : ReportLine → List ℕ → Bool
is_spelled l text = bytes_eq (line_text l) (line text)

unfoldable pub line_in : List ℕ → Option ReportLine
line_in text = kept (is_line (line_said text) && is_spelled (line_said text) text) (line_said text)
