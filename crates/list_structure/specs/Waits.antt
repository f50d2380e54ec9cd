-- Which transactions wait for which.
use Rattle.std.specs.Prelude.{ℕ, ◌≡◌, ◌≤◌, ◌==◌, Bool, true, false, not, ◌&&◌, ◌||◌, List, [], ◌∷◌, ◌++◌, length, filter}
use Rattle.std.specs.List.{list_any, list_all}
use Rattle.ds_base.specs.declared.names.TranId.{TranId}
use Rattle.list_structure.specs.declared.wait.Wait.{Wait}
use Rattle.list_structure.specs.Flags.{same_tran}

abbrev pub wait_for : TranId → TranId → ℕ → Wait
wait_for waiter holder flag = record { waiter = waiter; holder = holder; flag = flag }

abbrev pub same_wait : Wait → Wait → Bool
same_wait a b = same_tran a.waiter b.waiter && (same_tran a.holder b.holder && (a.flag == b.flag))

-- whether the pair is there
abbrev pub has_wait : List Wait → Wait → Bool
has_wait waits wait = list_any (same_wait wait) waits

-- whether the pairs have one waiter, and holders of one member
abbrev pub is_replaced : Wait → Wait → Bool
is_replaced new old = same_tran new.waiter old.waiter && (new.holder.member == old.holder.member)

-- the pair stands in place of the waiter's pair with a holder of the same member
abbrev pub with_wait : List Wait → Wait → List Wait
with_wait waits wait = filter (λ old. not (is_replaced wait old)) waits ++ wait ∷ []

-- the pairs in which the transaction doesn't wait
abbrev pub without_waiter : List Wait → TranId → List Wait
without_waiter waits tran = filter (λ wait. not (same_tran tran wait.waiter)) waits

abbrev pub without_tran : List Wait → TranId → List Wait
without_tran waits tran = filter (λ wait. not (same_tran tran wait.waiter || same_tran tran wait.holder)) waits

-- the pairs that don't await the flag
abbrev pub without_flag : List Wait → ℕ → List Wait
without_flag waits flag = filter (λ wait. not (flag == wait.flag)) waits

-- the pairs without transactions of the member
abbrev pub without_trans_of : List Wait → ℕ → List Wait
without_trans_of waits member = filter (λ wait. not ((member == wait.waiter.member) || (member == wait.holder.member))) waits

abbrev pub is_among : List TranId → TranId → Bool
is_among trans tran = list_any (same_tran tran) trans

-- no more transactions of the member wait than it has agents: they are all in a list that is no longer
pub record FitsWaits (waits : List Wait) (member agents : ℕ) : Type 0 where
  pub waiters : List TranId
  pub few : length waiters ≤ agents
  pub all : list_all (λ wait. not (wait.waiter.member == member) || is_among waiters wait.waiter) waits ≡ true
