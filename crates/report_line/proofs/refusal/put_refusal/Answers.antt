use Rattle.report_line.proofs.refusal.put_refusal.Goals as goal

pub returns-in-SpaceFull : goal.returns-in-SpaceFull
returns-in-SpaceFull c = rw (c.in-SpaceFull.is, ← c.number-in-SpaceFull.ensures.value) c.put_numbers.ensures

pub returns-in-RecordsFull : goal.returns-in-RecordsFull
returns-in-RecordsFull c = rw c.in-RecordsFull.is c.put_number-in-RecordsFull.ensures
