use Rattle.std.proofs.Common.{◌≡◌, ℕ, List, take, slice_get, false, is_some, ap, sym, ◌∙◌}
use Rattle.group_core.proofs.Taken.{of_named}
use Rattle.group_core.proofs.group.Group.nth_member.Goals as goal

pub returns : goal.returns
returns g c =
    let going : is_some c.args.self.now.crew.restart ≡ false = sym c.if-is_some.ensures in
    c.nth_event.ensures ∙ ap (λ (events : List ℕ). slice_get events c.args.n) (of_named c.args.self.now.crew c.named.result.now going (c.named.ensures.value ∙ ap (take 63) c.deref.ensures.value))
