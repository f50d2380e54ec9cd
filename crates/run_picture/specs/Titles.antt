-- What is said of shapes.
use Rattle.std.specs.Prelude.{ℕ, List, ◌++◌, codes, decimal}
use Rattle.ds_model.specs.declared.report.ReportEntry.{ReportEntry}
use Rattle.ds_model.specs.declared.report.Told.{Told}
use Rattle.ds_model.specs.declared.report.Told.TheVariants as told
use Rattle.report_line.specs.declared.line.ReportLine.{ReportLine}
use Rattle.report_line.specs.declared.line.ReportLine.TheVariants as lines
use Rattle.report_line.specs.Lines.{line_text}

abbrev pub line_of : List ℕ → ℕ → Told → ReportLine
line_of name member (told.Committed answered reads) = lines.Committed name member answered
line_of name member (told.Refused refusal) = lines.Refused name member refusal
line_of name member told.Stopped = lines.Stopped name member

-- the report's line of a transaction, without its reads
unfoldable pub fate_text : ReportEntry → List ℕ
fate_text e = line_text (line_of e.name e.member e.told)

-- a number behind a text
unfoldable pub counted : List ℕ → ℕ → List ℕ
counted text n = text ++ decimal n

-- two numbers, each behind a text
unfoldable pub counted_twice : List ℕ → ℕ → List ℕ → ℕ → List ℕ
counted_twice text n next m = counted text n ++ counted next m

-- the report's line of a transaction, and its first and last event
unfoldable pub bar_title : ReportEntry → ℕ → ℕ → List ℕ
bar_title e first last = fate_text e ++ (counted (codes "events ") first ++ counted (codes " to ") last)
