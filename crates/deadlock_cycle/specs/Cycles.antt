-- Cycles of transactions of which each waits for the next.
use Rattle.std.specs.Prelude.{◌≡◌, ◌==◌, Bool, true, ◌&&◌, List, [], ◌∷◌, nat_le, slice_get, slice_index_or, Some}
use Rattle.std.specs.List.{list_any, list_all}
use Rattle.ds_base.specs.declared.names.TranId.{TranId}
use Rattle.list_structure.specs.declared.wait.Wait.{Wait}

abbrev pub same_tran : TranId → TranId → Bool
same_tran a b = (a.member == b.member) && (a.number == b.number)

-- whether the first transaction waits for the second, by one of the pairs
abbrev pub waits_for : List Wait → TranId → TranId → Bool
waits_for waits a b = list_any (λ w. same_tran w.waiter a && same_tran w.holder b) waits

-- whether each transaction of the list waits for the next, and the last for `end`
abbrev pub is_walk : List Wait → List TranId → TranId → Bool
is_walk waits [] end = true
is_walk waits (t ∷ rest) end = waits_for waits t (slice_index_or rest 0 end) && is_walk waits rest end

-- the transactions of a cycle of the pairs from `tran` on, of which none has a higher number
pub record IsCycle (waits : List Wait) (tran : TranId) (cycle : List TranId) : Type 0 where
  pub begins : slice_get cycle 0 ≡ Some tran
  pub returns : is_walk waits cycle tran ≡ true
  pub highest : list_all (λ t. nat_le t.number tran.number) cycle ≡ true
