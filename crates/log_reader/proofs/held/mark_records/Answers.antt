use Rattle.std.proofs.Common.{◌≡◌, ℕ, ◌+◌, ◌-◌, ◌≤◌, List, length, drop, Ok, sym, ap, subst, ◌∙◌, arith}
use Rattle.ds_model.specs.declared.log.LogRecord.{LogRecord}
use Rattle.ds_model.specs.RecordBytes.{record_bytes}
use Rattle.log_record.specs.Reading.{record_in}
use Rattle.log_head.specs.Laws.{FirstIsWhole}
use Rattle.log_head.specs.Whole.{whole_records}
use Rattle.log_reader.specs.declared.held.Mark.{Mark}
use Rattle.log_reader.specs.Held.{marked_one, marked_all}
use Rattle.log_reader.proofs.Marks.{one_behind, one_marked}
use Rattle.log_reader.proofs.held.mark_records.Goals as goal

-- the records behind this mark lead to that one, and it lies within the bytes
abbrev Leads : ℕ → List ℕ → Mark → Mark → Type 0
Leads start bytes last m = (marked_all start m (whole_records (drop m.to bytes)) ≡ last) × (m.from ≤ m.to) × (m.to ≤ length bytes)

-- and so do those behind one record more
leads_on : FirstIsWhole → (start : ℕ) (bytes : List ℕ) (last m next : Mark) (r : LogRecord) (n : ℕ) → record_in (drop m.to bytes) ≡ Ok (r, n) → n ≡ length (record_bytes r) → n ≤ length bytes - m.to
    → next ≡ marked_one start m r → Leads start bytes last m → Leads start bytes last next
leads_on first start bytes last m next r n found size within is leads =
    let behind = one_behind start m r in
    let to : next.to ≡ m.to + length (record_bytes r) = ap (λ (z : Mark). z.to) is ∙ behind.to in
    let from : next.from ≤ m.to = subst (λ (z : Mark). z.from ≤ m.to) (sym is) (behind.from leads.1) in (
      ap (λ (z : Mark). marked_all start z (whole_records (drop z.to bytes))) is ∙ one_marked first start bytes m r n found size ∙ leads.0,
      omega (arith, to, from),
      omega (arith, to, size, within, leads.2),
    )

pub loop-it-preserved : goal.loop-it-preserved
loop-it-preserved c =
    let m : Mark = c.loop-it.mark in
    let found : record_in (drop m.to c.args.bytes.now) ≡ Ok (c.in-Some.it, c.in-Some.size) = rw c.in-Some.is at c.in_ok-it.ensures.found in
    let size = rw c.in-Some.is at c.in_ok-it.ensures.size in
    let within = rw c.in-Some.is at c.in_ok-it.ensures.within in
    leads_on c.whole_laws.ensures.first c.args.start c.args.bytes.now (marked_all c.args.start c.args.first (whole_records (drop c.args.first.to c.args.bytes.now))) m c.in_ok-mark.mark c.in-Some.it c.in-Some.size found size within.1
    c.in_ok-mark.ensures c.loop-it.invariant

pub loop-it-preserved-in_ok-mark : goal.loop-it-preserved-in_ok-mark
loop-it-preserved-in_ok-mark c =
    let m : Mark = c.loop-it.mark in
    let found : record_in (drop m.to c.args.bytes.now) ≡ Ok (c.in-Some.it, c.in-Some.size) = rw c.in-Some.is at c.in_ok-it.ensures.found in
    let size = rw c.in-Some.is at c.in_ok-it.ensures.size in
    let within = rw c.in-Some.is at c.in_ok-it.ensures.within in
    leads_on c.whole_laws.ensures.first c.args.start c.args.bytes.now (marked_all c.args.start c.args.first (whole_records (drop c.args.first.to c.args.bytes.now))) m c.in_ok-mark.mark c.in-Some.it c.in-Some.size found size within.1
    c.in_ok-mark.ensures c.loop-it.invariant
