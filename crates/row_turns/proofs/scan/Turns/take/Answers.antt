use Rattle.std.proofs.Common.{rules, ◌≡◌, ◌+◌}
use Rattle.row_turns.proofs.Turning.{turn_more}
use Rattle.row_turns.proofs.scan.Turns.take.Goals as goal

pub returns-clause-turning : goal.returns-clause-turning
returns-clause-turning c =
    let taken : c.in_ok-taken.taken ≡ c.args.self.now.taken + 1 = search rules in
    λ records. turn_more records c.args.it.now c.args.self.now (record { range = c.step.new.self.range; is_early = c.step.new.self.is_early; held = c.step.new.self.held; taken = c.in_ok-taken.taken; out = c.step.new.self.out })
    c.step.ensures.range c.step.ensures.early taken c.in_ok-step.ensures.out c.in_ok-step.ensures.held
