use Rattle.std.proofs.Common.{List, ℕ, sym, subst}
use Rattle.ds_disk.specs.Contents.{Contents}
use Rattle.disk_logs.specs.declared.ends.Ends.{Ends}
use Rattle.disk_logs.specs.Ends.{AreEnds}
use Rattle.space_check.specs.declared.verdict.Verdict.{Verdict}
use Rattle.space_check.specs.Telling.{TellsEnded}
use Rattle.space_check.specs.Verdicts.{IsTold}
use Rattle.space_check.proofs.Reading.{one_read, then_read}
use Rattle.space_check.proofs.Steps.{broken_of, ended_of}
use Rattle.space_check.proofs.check.check_behind.Goals as goal

pub returns-in-Broken : goal.returns-in-Broken
returns-in-Broken g c =
    let read = c.in_ok-found.ensures.ends in
    one_read _ _ _ _ (λ (d : Contents). AreEnds d.logs c.in_ok-found.found) (λ (v : Verdict) (d : Contents). IsTold d c.args.behind v) _ read.ok read.same read.later
    (λ (d : Contents) are.
    subst (λ (v : Verdict). IsTold d c.args.behind v) (sym c.unsound.ensures) (broken_of d c.args.behind c.in-Broken.member c.in-Broken.at (subst (AreEnds d.logs) c.in-Broken.is are)))

pub returns-in-Whole : goal.returns-in-Whole
returns-in-Whole g c =
    let read = c.in_ok-found.ensures.ends in
    then_read _ _ _ _ _ _ (λ (d : Contents). AreEnds d.logs c.in_ok-found.found) (λ (v : Verdict) (d : Contents). TellsEnded c.deref.result.now c.args.behind v d) (λ (v : Verdict) (d : Contents). IsTold d c.args.behind v) c.check_ended.result
    read.ok read.same read.later c.check_ended.ensures
    (λ (d : Contents) (v : Verdict) are told. ended_of d c.args.behind c.in-Whole.ends.items c.deref.result.now v c.deref.ensures.value (subst (AreEnds d.logs) c.in-Whole.is are) told)
