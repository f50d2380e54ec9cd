use Rattle.opening_rows.proofs.FreshMore.{adds_log}
use Rattle.opening_rows.proofs.fresh.read_next.Goals as goal

pub returns : goal.returns
returns g c =
    adds_log _ _ _ _ c.args.n c.member_behind-member.result _ c.args.logs.now.items c.put.new.logs.items c.in_ok-read.read _ c.in_ok-read.ensures c.member_behind-member.ensures c.in_ok-put.ensures.records c.in_ok-put.ensures.tails
