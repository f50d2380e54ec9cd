use Rattle.log_opens.proofs.opens_stay_few.Goals as goal
use Rattle.log_opens.proofs.Few.{opens_stay_few}

pub returns : goal.returns
returns c = opens_stay_few c.both_tell.ensures c.open_trans_tell.ensures c.opens_are_all.ensures
