use Rattle.log_heads.proofs.Fills.{least_few}
use Rattle.log_heads.proofs.heads.Heads.take_next.Goals as goal

pub invariant_of-self : goal.invariant_of-self
invariant_of-self c = (c.self.invariant.0, c.self.invariant.1, least_few c.self.inside.block c.self.inside.heads.len c.deref_mut.result.now c.self.inside.heads.items c.take_least.new.heads c.deref_mut.ensures.value c.take_least.ensures.after c.self.inside.heads.ok.0 c.self.invariant.2)

pub returns-clause-few : goal.returns-clause-few
returns-clause-few c = least_few c.self.inside.block c.self.inside.heads.len c.deref_mut.result.now c.self.inside.heads.items c.take_least.new.heads c.deref_mut.ensures.value c.take_least.ensures.after c.self.inside.heads.ok.0 c.self.invariant.2
