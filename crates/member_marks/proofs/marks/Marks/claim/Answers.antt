use Rattle.member_marks.specs.Local.{Claim, by_one, had_memory}
use Rattle.member_marks.proofs.marks.Marks.claim.Goals as goal

pub returns-clause-reaches : goal.returns-clause-reaches
returns-clause-reaches c = by_one _ _ (Claim c.args.slot c.args.name.now c.args.mode (had_memory c.try_claim.result) c.try_claim.new.self.locks.spare) c.try_claim.ensures.marks
