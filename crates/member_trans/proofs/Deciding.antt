-- One slot after the other is decided.
use Rattle.std.proofs.Common.{◌≡◌, ℕ, ◌+◌, ◌<◌, List, length, drop, get_or}
use Rattle.std.specs.Prelude.{slice_set, slice_index_or}
use Rattle.std.proofs.lemmas.List.{at_drop_more}
use Rattle.member_trans.specs.Trans.{TranState, free_tran, decided_tran, all_decided}

pub decided_step : (ts : List TranState) (slots : List ℕ) (i : ℕ) → i < length slots
    → all_decided ts (drop i slots) ≡ all_decided (slice_set ts (get_or slots i 0) (decided_tran (slice_index_or ts (get_or slots i 0) free_tran))) (drop (i + 1) slots)
decided_step ts slots i h = at_drop_more (λ z. all_decided ts z) slots i 0 h
