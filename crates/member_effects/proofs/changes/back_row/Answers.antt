use Rattle.member_effects.proofs.Allowed.{back_allowed}
use Rattle.member_effects.proofs.changes.back_row.Goals as goal

pub returns-clause-allowed : goal.returns-clause-allowed
returns-clause-allowed c =
    back_allowed c.args.marks.now c.put_frame.new.marks c.args.pages.now c.put_frame.new.pages c.args.owner.now c.args.at c.args.change.now c.args.lrsn c.note_undone.result
    c.put_frame.ensures c.note_undone.ensures.told c.note_undone.ensures.back c.note_undone.ensures.ended
