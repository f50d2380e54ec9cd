use Rattle.restart_law.proofs.opens_tell.Goals as goal
use Rattle.restart_law.proofs.Telling.{opens_tell, purges_spare, purges_spare_left, touches_tran}

pub returns : goal.returns
returns c =
    let law = c.both_tell.ensures in
    record { tell = opens_tell law; touch = touches_tran law; spare = purges_spare law; left = purges_spare_left }
