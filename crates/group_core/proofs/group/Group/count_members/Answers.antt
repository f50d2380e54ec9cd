use Rattle.std.proofs.Common.{◌≡◌, length, take, false, is_some, ap, sym, ◌∙◌}
use Rattle.group_core.proofs.Taken.{of_named}
use Rattle.group_core.proofs.group.Group.count_members.Goals as goal

pub returns-clause-number : goal.returns-clause-number
returns-clause-number g c =
    let going : is_some c.args.self.now.crew.restart ≡ false = sym c.if-is_some.ensures in
    c.count_events.ensures.number ∙ ap length (of_named c.args.self.now.crew c.named.result.now going (c.named.ensures.value ∙ ap (take 63) c.deref.ensures.value))
