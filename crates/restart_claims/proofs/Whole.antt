-- The log that was read whole is all of the log.
use Rattle.std.proofs.Common.{◌≡◌, ℕ, ◌∙◌, List, ◌++◌}
use Rattle.log_appends.specs.Appends.{AreLastFrom}
use Rattle.log_appends.specs.Rests.{IsRest, RestIsTold}
use Rattle.log_reader.specs.Keeping.{AreWhole}
use Rattle.restart_records.specs.Own.{OwnState}
use Rattle.restart_law.specs.Reads.{ReadsWhole, WholeIsRead}
use Rattle.restart_closing.specs.Closing.{ClosesStay, ReadsAll}
use Rattle.restart_claims.specs.Whole.{ClosesTruly}

reads_all : RestIsTold → (log rest : List ℕ) (o : OwnState) → AreWhole log → IsRest rest → ReadsWhole (log ++ rest) o → ReadsAll log rest o
reads_all told log rest o whole short r =
    let last : AreLastFrom (log ++ rest) r.last.start o.records = record { whole = r.last.whole; begins = r.last.begins; parts = r.last.parts; told = r.last.told; are = r.last.are } in
    let t = told log rest r.last.start o.records whole short last in
    record { start = r.last.start; last = last; long = r.long ∙ t.0; tail = r.tail ∙ t.1 }

pub closes_truly : RestIsTold → WholeIsRead → ClosesStay → ClosesTruly
closes_truly told read law log rest pend u v h k x a happens well opens still has c =
    law log rest pend u v h k x a happens well (λ unread now. reads_all told log rest k.marks.own c.whole c.is_rest (read (log ++ rest) u v h k x a happens well opens (still unread) unread now)) has c
