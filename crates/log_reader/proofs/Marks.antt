-- The mark behind one record more.
use Rattle.std.proofs.Common.{◌≡◌, ℕ, ◌+◌, ◌≤◌, List, length, drop, Ok, refl, sym, ap, ◌∙◌, arith}
use Rattle.std.proofs.lemmas.Bool.{cond_both}
use Rattle.std.proofs.lemmas.List.{drop-drop}
use Rattle.ds_model.specs.declared.log.LogRecord.{LogRecord}
use Rattle.ds_model.specs.RecordBytes.{record_bytes}
use Rattle.log_record.specs.Reading.{record_in}
use Rattle.log_head.specs.Laws.{FirstIsWhole}
use Rattle.log_head.specs.Whole.{whole_records}
use Rattle.log_reader.specs.declared.held.Mark.{Mark}
use Rattle.log_reader.specs.Held.{begins_at, begun_at, gone_on, marked_one, marked_all}

-- whatever the record is, the mark is behind it, and its bytes begin where they did or there
pub record IsBehind (m next : Mark) (size : ℕ) : Type 0 where
  pub to : next.to ≡ m.to + size
  pub from : m.from ≤ m.to → next.from ≤ m.to

pub one_behind : (start : ℕ) (m : Mark) (r : LogRecord) → IsBehind m (marked_one start m r) (length (record_bytes r))
one_behind start m r =
    cond_both (begins_at (start + m.to) r) (begun_at m r) (gone_on (start + m.to) m r) (λ (z : Mark). IsBehind m z (length (record_bytes r)))
    (λ _. record { to = refl; from = λ _. omega arith })
    (λ _. record { to = refl; from = λ le. le })

-- the records that are left make the same mark
pub one_marked : FirstIsWhole → (start : ℕ) (bytes : List ℕ) (m : Mark) (r : LogRecord) (n : ℕ) → record_in (drop m.to bytes) ≡ Ok (r, n) → n ≡ length (record_bytes r)
    → marked_all start (marked_one start m r) (whole_records (drop (marked_one start m r).to bytes)) ≡ marked_all start m (whole_records (drop m.to bytes))
one_marked first start bytes m r n read size =
    let behind = one_behind start m r in
    let at : (marked_one start m r).to ≡ m.to + n = behind.to ∙ ap (λ (k : ℕ). m.to + k) (sym size) in
    let left : whole_records (drop (marked_one start m r).to bytes) ≡ whole_records (drop n (drop m.to bytes)) = ap (λ (k : ℕ). whole_records (drop k bytes)) at ∙ ap whole_records (sym (drop-drop n m.to bytes)) in
    ap (marked_all start (marked_one start m r)) left ∙ sym (ap (marked_all start m) (first (drop m.to bytes) r n read))
