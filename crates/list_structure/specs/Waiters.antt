-- Which transactions of a member wait.
use Rattle.std.specs.Prelude.{Bool, not, ◌&&◌, ◌==◌, List, [], ◌∷◌, if◌then◌else◌}
use Rattle.std.specs.List.{list_any}
use Rattle.ds_base.specs.declared.names.TranId.{TranId}
use Rattle.list_structure.specs.declared.wait.Wait.{Wait}
use Rattle.list_structure.specs.Flags.{same_tran}

-- whether another transaction of the member waits in the pair
abbrev pub is_beside : TranId → Wait → Bool
is_beside tran wait = (wait.waiter.member == tran.member) && not (same_tran tran wait.waiter)

-- whether the transaction waits in one of the pairs
abbrev pub waits_in : List Wait → TranId → Bool
waits_in waits tran = list_any (λ wait. same_tran tran wait.waiter) waits

-- the other transactions of the member that wait, each once
abbrev pub waiters_beside : TranId → List Wait → List TranId
waiters_beside tran [] = []
waiters_beside tran (w ∷ ws) = if is_beside tran w && not (waits_in ws w.waiter) then w.waiter ∷ waiters_beside tran ws else waiters_beside tran ws
