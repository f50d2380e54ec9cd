use Rattle.std.proofs.Common.{◌≡◌, ℕ, List, subst, sym, ◌==◌, ◌||◌, not, vec_capacity}
use Rattle.list_structure.specs.declared.wait.Wait.{Wait}
use Rattle.list_structure.specs.Flags.{same_tran}
use Rattle.list_structure.specs.Kept.{IsKept}
use Rattle.list_structure.proofs.Room.{IsKept-filter}
use Rattle.list_structure.proofs.pairs.Pairs.drop_waiter.Goals as goal

pub invariant_of-self : goal.invariant_of-self
invariant_of-self c =
    let k = IsKept-filter (λ wait. not (same_tran c.args.tran.now wait.waiter)) c.self.inside.waits.items c.self.inside.agents (vec_capacity c.self.inside.waits) c.self.invariant in
    subst (λ (r : ℕ). IsKept c.drop_waiter_in.new.waits.items c.self.inside.agents r) (sym c.drop_waiter_in.ensures.room) (subst (λ (ws : List Wait). IsKept ws c.self.inside.agents (vec_capacity c.self.inside.waits)) (sym c.drop_waiter_in.ensures.items) k)
