use Rattle.member_effects.proofs.Allowed.{undrawn_change}
use Rattle.member_effects.proofs.changes.drawn.Goals as goal

pub returns-in_default : goal.returns-in_default
returns-in_default c =
    let said = undrawn_change c.args.marks.now c.not_drawn.new.marks c.args.pages.now c.args.slot c.args.frames.now c.args.plan c.args.reply.now c.args.place c.not_drawn.result c.in_default.not-Drawn c.not_drawn.ensures.told c.not_drawn.ensures.after in
    record { told = said.0; after = said.1; allowed = said.2 }
