use Rattle.std.specs.Prelude.{is_ok}
use Rattle.member_marks.specs.Local.{Begin, by_one}
use Rattle.member_marks.proofs.marks.Marks.begin.Goals as goal

pub returns-clause-reaches : goal.returns-clause-reaches
returns-clause-reaches c = by_one _ _ (Begin c.args.slot c.args.number (is_ok c.set_begun.result) c.set_begun.new.self.locks.room c.set_begun.new.self.trans.room) c.set_begun.ensures.marks
