use Rattle.std.proofs.Common.{◌≡◌, drop}
use Rattle.log_trans.specs.Courses.{courses_from, courses_of}
use Rattle.log_trans.proofs.opened.courses_of.Given as goal

abbrev pub invariant-loop-record : goal.invariant-loop-record
invariant-loop-record l = courses_from l.courses (drop l.record-index l.records) ≡ courses_of l.records
