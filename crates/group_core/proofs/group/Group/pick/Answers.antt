use Rattle.std.proofs.Common.{◌≡◌, sym, ◌∙◌}
use Rattle.draw_generator.specs.Draws.{next_state}
use Rattle.group_core.specs.Events.{TakesNone}
use Rattle.group_core.proofs.Taken.{draws, draws_one, none_listed, on_some, taken_listed}
use Rattle.group_core.proofs.group.Group.pick.Goals as goal

pub returns-then-count-eq0-clause-all : goal.returns-then-count-eq0-clause-all
returns-then-count-eq0-clause-all g c = taken_listed c.args.self.now

pub returns-then-count-eq0-clause-none : goal.returns-then-count-eq0-clause-none
returns-then-count-eq0-clause-none g c = none_listed c.args.self.now (sym c.count_ready-count.ensures ∙ c.if-count-eq0.true)

pub returns-clause-drawn : goal.returns-clause-drawn
returns-clause-drawn g c =
    draws c.args.self.now c.args.generator.now c.count_ready-count.result c.draw_below.result c.nth_ready.result c.requires c.count_ready-count.ensures c.draw_below.ensures.number c.nth_ready.ensures

pub returns-clause-next : goal.returns-clause-next
returns-clause-next g c = on_some c.nth_ready.result (c.draw_below.new.self ≡ next_state c.args.generator.now) c.draw_below.ensures.state

pub returns-clause-all : goal.returns-clause-all
returns-clause-all g c = taken_listed c.args.self.now

pub returns-clause-none : goal.returns-clause-none
returns-clause-none g c =
    draws_one (TakesNone c.args.self.now) c.args.self.now c.count_ready-count.result c.draw_below.result c.nth_ready.result c.count_ready-count.ensures c.draw_below.ensures.range c.nth_ready.ensures

pub returns-clause-still : goal.returns-clause-still
returns-clause-still g c =
    draws_one (c.draw_below.new.self ≡ c.args.generator.now) c.args.self.now c.count_ready-count.result c.draw_below.result c.nth_ready.result c.count_ready-count.ensures c.draw_below.ensures.range c.nth_ready.ensures
