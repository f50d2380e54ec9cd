-- The records of logs by the place of their log and by their transaction.
use Rattle.std.specs.Prelude.{◌≡◌, ℕ, List, [], map, Option, Some, None, slice_index_or}
use Rattle.std.specs.Ordering.{nat_cmp, ordering_then}
use Rattle.std.specs.declared.cmp.Ordering.{Ordering}
use Rattle.std.specs.BTreeMap.{BTreeMap, get}
use Rattle.std.specs.declared.vec.Vec.{Vec}
use denote.Ref.{Bor}
use Rattle.ds_model.specs.declared.log.LogRecord.{LogRecord}
use Rattle.report_check.specs.Commits.{of_tran}

abbrev pub pair_cmp : ℕ × ℕ → ℕ × ℕ → Ordering
pair_cmp x y = ordering_then (nat_cmp x.0 y.0) (nat_cmp x.1 y.1)

module _ {Z : Type 0} where
  abbrev pub shown : Option (Vec (Bor LogRecord) Z) → List LogRecord
  shown None = []
  shown (Some v) = map (λ (b : Bor LogRecord). b.now) v.items

  -- the records of a transaction in the log of this place
  abbrev pub held : BTreeMap (ℕ × ℕ) (Vec (Bor LogRecord) Z) → ℕ → ℕ → List LogRecord
  held ledger place tran = shown (get pair_cmp ledger (place, tran))

  abbrev pub HasRecords : List (List LogRecord) → BTreeMap (ℕ × ℕ) (Vec (Bor LogRecord) Z) → Type 0
  HasRecords logs ledger = (place tran : ℕ) → held ledger place tran ≡ of_tran tran (slice_index_or logs place [])
