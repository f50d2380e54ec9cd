use Rattle.std.proofs.Common.{arith}
use Rattle.member_pool.proofs.Masks.{taken_out, never_in, no_page_set_low, no_page_set_high}
use Rattle.member_pool.proofs.sets.SetMask.remove.Goals as goal
use Rattle.member_pool.proofs.sets.SetMask.remove.Goals.{else-set-ge1-via-then-set-ge1+else-set-le128, else-set-ge1-via-else-set-ge1}

pub returns-then-set-le128 : goal.returns-then-set-le128
returns-then-set-le128 c = λ s. taken_out c.args.self.now c.args.set s (omega arith) (omega arith)

pub returns-else-set-ge1 : goal.returns-else-set-ge1
returns-else-set-ge1 c = λ s. never_in c.args.self.now c.args.set s
    (elim c.else-set-ge1.branch [
      | else-set-ge1-via-then-set-ge1+else-set-le128 w ↦ no_page_set_high c.args.set (omega arith)
      | else-set-ge1-via-else-set-ge1 w ↦ no_page_set_low c.args.set (omega arith)
    ])
