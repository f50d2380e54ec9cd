-- The greatest number of logs without the place at which it stands.
use Rattle.std.proofs.Common.{◌≡◌, ℕ, ◌+◌, Bool, true, false, cond, List, [], ◌∷◌, length, refl, ap, sym, ◌∙◌}
use Rattle.std.specs.Prelude.{nat_lt}
use Rattle.ds_model.specs.declared.log.LogRecord.{LogRecord}
use Rattle.ds_model.specs.RecordBytes.{record_bytes}
use Rattle.log_record.specs.declared.log.Log.{Log}
use Rattle.restart_plan.specs.declared.greatest.Greatest.{Greatest}
use Rattle.restart_plan.specs.Greatest.{no_number, with_number, greatest_from, greatest_among}
use Rattle.disk_orders.specs.Numbers.{greater, greatest_in, greatest_of}

pick : (b : Bool) (h g : Greatest) → (cond b h g).lrsn ≡ cond b h.lrsn g.lrsn
pick true h g = refl
pick false h g = refl

with_is : (g : Greatest) (member at n : ℕ) → (with_number g member at n).lrsn ≡ greater g.lrsn n
with_is g member at n = pick (nat_lt g.lrsn n) _ g

from_is : (member at : ℕ) (g : Greatest) (rs : List LogRecord) → (greatest_from member at g rs).lrsn ≡ greatest_in g.lrsn rs
from_is member at g [] = refl
from_is member at g (r ∷ rs) =
    from_is member (at + length (record_bytes r)) (with_number g member at r.lrsn) rs ∙ ap (λ (n : ℕ). greatest_in n rs) (with_is g member at r.lrsn)

all_is : (g : Greatest) (logs : List Log) → (greatest_among g logs).lrsn ≡ greatest_of g.lrsn logs
all_is g [] = refl
all_is g (log ∷ logs) = all_is (greatest_from log.member 0 g log.records) logs ∙ ap (λ (n : ℕ). greatest_of n logs) (from_is log.member 0 g log.records)

pub among_is : (logs : List Log) → greatest_of 0 logs ≡ (greatest_among no_number logs).lrsn
among_is logs = sym (all_is no_number logs)
