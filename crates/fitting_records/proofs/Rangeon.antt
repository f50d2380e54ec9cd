-- The records of a log that are taken for a range, and the logs one after the other.
use Rattle.std.proofs.Common.{◌≡◌, ℕ, ◌+◌, List, ◌∷◌, length, Option, Ok, sym, ap, ◌∙◌}
use Rattle.ds_disk.specs.Contents.{Contents}
use Rattle.ds_model.specs.declared.log.LogRecord.{LogRecord}
use Rattle.ds_model.specs.RecordBytes.{record_bytes}
use Rattle.log_record.specs.declared.log.Log.{Log}
use Rattle.disk_walk.specs.Reading.{Reads}
use Rattle.disk_walk.specs.One.{OfRecords}
use Rattle.disk_walk.proofs.One.{ComeTo, reads_to, reads_none}
use Rattle.disk_walk.proofs.Whole.{LogsOn}
use Rattle.fitting_records.specs.declared.ranged.NumberRange.{NumberRange}
use Rattle.fitting_records.specs.declared.ranged.RangeSeen.{RangeSeen}
use Rattle.fitting_records.specs.Ranges.{nothing_in, range_with, range_from, left_behind, range_among}
use Rattle.fitting_records.specs.Ranging.{IsRangedFrom}

pub take_more : (member : ℕ) (s t : RangeSeen) (at place : ℕ) (r : LogRecord) (rest : List LogRecord) → place ≡ at → t ≡ range_with s member place r
    → range_from member s at (r ∷ rest) ≡ range_from member t (at + length (record_bytes r)) rest
take_more member s t at place r rest is taken = sym (ap (λ (x : RangeSeen). range_from member x (at + length (record_bytes r)) rest) (taken ∙ ap (λ (n : ℕ). range_with s member n r) is))

-- what was taken of a log stands for any answer
pub walked_all : {Z : Type 0} {a b : Option Contents} {n k : ℕ} (member end : ℕ) (start s : RangeSeen) (z : Z) → Reads a b n k (ComeTo (range_from member) member end start) (Ok s) → Reads a b n k (λ (y : Z) c. OfRecords member end (IsRangedFrom member start s) c) (Ok z)
walked_all {Z = Z} {a = a} {b = b} {n = n} {k = k} member end start s z p = reads_to a b n k (ComeTo (range_from member) member end start) s (λ (y : Z) c. OfRecords member end (IsRangedFrom member start s) c) z p (λ c h. h)

pub log_ranged : (member : ℕ) (s t u : RangeSeen) (log : Log) (rest : List Log) → u ≡ left_behind t → log.member ≡ member → t ≡ range_from member s 0 log.records → range_among s (log ∷ rest) ≡ range_among u rest
log_ranged member s t u log rest left is ranged =
    ap (λ (n : ℕ). range_among (left_behind (range_from n s 0 log.records)) rest) is ∙ sym (ap (λ (x : RangeSeen). range_among x rest) (left ∙ ap left_behind ranged))

pub ranged_start : (a : Option Contents) (n : ℕ) (ends : List ℕ) (range : NumberRange) (s : RangeSeen) → s ≡ nothing_in range → Reads a a n n (LogsOn range_among ends (nothing_in range) 0 s) (Ok 0)
ranged_start a n ends range s is = reads_none a n (LogsOn range_among ends (nothing_in range) 0 s) 0 (λ c logs whole are. ap (λ (x : RangeSeen). range_among x logs) is)
