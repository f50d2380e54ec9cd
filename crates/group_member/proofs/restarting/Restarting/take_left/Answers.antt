use Rattle.group_member.proofs.Restarts.{takes_open}
use Rattle.group_member.proofs.restarting.Restarting.take_left.Goals as goal

pub returns : goal.returns
returns c = takes_open c.take_open.result c.args.self.now c.take_open.new.self c.take_open.ensures.told c.take_open.ensures.ok
