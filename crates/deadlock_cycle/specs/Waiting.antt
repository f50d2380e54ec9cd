-- The pairs that are kept by their holders.
use Rattle.std.specs.Prelude.{ℕ, Bool, ◌&&◌, List, [], length, sum_by}
use Rattle.std.specs.List.{list_any}
use Rattle.std.specs.Option.{option_map_or}
use Rattle.std.specs.Ordering.{nat_cmp, on, then_cmp}
use Rattle.std.specs.declared.cmp.Ordering.{Ordering}
use Rattle.std.specs.Cmp.{IsTotalOrder, nat_cmp_total, on_total, then_total}
use Rattle.std.specs.BTreeMap.{BTreeMap, get, values}
use Rattle.std.specs.declared.vec.Vec.{Vec}
use Rattle.ds_base.specs.declared.names.TranId.{TranId}
use Rattle.list_structure.specs.declared.wait.Wait.{Wait}
use Rattle.deadlock_cycle.specs.Cycles.{same_tran}

-- a member and a number
abbrev pub TranKey : Type 0
TranKey = ℕ × ℕ

abbrev pub key_cmp : TranKey → TranKey → Ordering
key_cmp = then_cmp (on (λ (k : TranKey). k.0) nat_cmp) (on (λ (k : TranKey). k.1) nat_cmp)

pub key_cmp_total : IsTotalOrder key_cmp
key_cmp_total = then_total (on_total (λ (k : TranKey). k.0) nat_cmp_total) (on_total (λ (k : TranKey). k.1) nat_cmp_total)

abbrev pub key_of : TranId → TranKey
key_of t = (t.member, t.number)

abbrev pub is_pair_of : Wait → TranId → TranId → Bool
is_pair_of w a b = same_tran w.waiter a && same_tran w.holder b

module _ {A : Type 0} (lists : BTreeMap TranKey (Vec TranId A)) where
  -- the transactions that wait for this one
  abbrev pub waiters_of : TranId → List TranId
  waiters_of b = option_map_or (λ v. v.items) (get key_cmp lists (key_of b)) []

  abbrev pub is_waiting : TranId → TranId → Bool
  is_waiting a b = list_any (λ w. same_tran w a) (waiters_of b)

  -- how many pairs there are
  abbrev pub pairs_left : ℕ
  pairs_left = sum_by (λ v. length v.items) (values lists)
