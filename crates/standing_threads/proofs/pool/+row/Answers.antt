use Rattle.standing_threads.proofs.pool.+row.Goals as goal

pub work_beside-returns-clause-home : goal.work_beside-returns-clause-home
work_beside-returns-clause-home g t c = ((c.get_back.ensures c.args.item c.send.ensures).0, c.work_row.ensures.home)
