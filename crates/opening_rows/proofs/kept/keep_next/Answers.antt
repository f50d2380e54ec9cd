use Rattle.opening_rows.proofs.KeptMore.{keeps_next}
use Rattle.opening_rows.proofs.kept.keep_next.Goals as goal

pub returns : goal.returns
returns g c =
    keeps_next _ _ _ _ c.args.n c.member_behind-member.result c.count_at.result c.args.had.now c.args.all.now c.put.new.all c.in_ok-kept.kept _ c.in_ok-kept.ensures c.member_behind-member.ensures c.count_at.ensures
    c.in_ok-put.ensures.records c.in_ok-put.ensures.had c.in_ok-put.ensures.whole
