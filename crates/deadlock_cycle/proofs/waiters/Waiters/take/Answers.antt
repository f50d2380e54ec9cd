use Rattle.std.proofs.Common.{◌+◌, length, ap, sym, ◌∙◌}
use Rattle.std.specs.Prelude.{[]}
use Rattle.std.specs.Option.{option_map_or}
use Rattle.deadlock_cycle.specs.Waiting.{pairs_left}
use Rattle.deadlock_cycle.proofs.Lists.{taken, fewer}
use Rattle.deadlock_cycle.proofs.waiters.Waiters.take.Goals as goal

pub returns-in-Some-clause-taken : goal.returns-in-Some-clause-taken
returns-in-Some-clause-taken c = taken c.args.self.now.lists c.remove.new.self c.args.holder c.remove.ensures.updates.0

pub returns-in-Some-clause-fewer : goal.returns-in-Some-clause-fewer
returns-in-Some-clause-fewer c =
    ap (λ o. pairs_left c.remove.new.self + length (option_map_or (λ v. v.items) o [])) (sym c.in-Some.is ∙ c.remove.ensures.value)
    ∙ fewer c.args.self.now.lists c.remove.new.self c.args.holder c.remove.ensures.entries
