use Rattle.std.proofs.Common.{ℕ, ◌<◌, ◌^◌, length, subst}
use Rattle.lock_manager.specs.Managers.{Book, claims_of}
use Rattle.lock_manager.proofs.Tallies.{few_claims}
use Rattle.lock_manager.proofs.manager.LockManager.slots.Goals as goal

pub returns-clause-claims : goal.returns-clause-claims
returns-clause-claims c =
    let P : Book → Type 0 = λ b. (owner : ℕ) → length (claims_of b owner) < 2 ^ 63 in
    subst P c.self.view_is (few_claims c.self.inside.entries c.self.inside.holders.items c.self.inside.rollbacks.items c.self.inside.agents c.self.inside.own_cells c.self.inside.cells c.self.inside.tally c.self.invariant.1.0 c.self.invariant.2)
