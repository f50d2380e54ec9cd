-- One rollback after the other, and the page sets of a transaction that isn't there.
use Rattle.std.proofs.Common.{◌≡◌, ℕ, ◌+◌, ◌<◌, List, length, drop, get_or, replicate, false, arith, if◌then◌else◌, ◌==◌}
use Rattle.std.specs.Prelude.{Some, slice_index_or}
use Rattle.std.proofs.lemmas.List.{at_drop_more, get_or-replicate, get_or_past}
use Rattle.std.proofs.lemmas.Grind.{common_steps}
use Rattle.member_trans.specs.Trans.{TranState, free_tran, place_in}

pub place_step : (ts : List TranState) (i : ℕ) (d : TranState) (k id : ℕ) → i < length ts
    → place_in (drop i ts) k id ≡ (if (get_or ts i d).first == id then Some k else place_in (drop (i + 1) ts) (k + 1) id)
place_step ts i d k id h = at_drop_more (λ z. place_in z k id) ts i d h

none_in : (n i : ℕ) → slice_index_or (replicate n false) i false ≡ false
none_in n i = grind (arith, common_steps, get_or-replicate n i false false, get_or_past (replicate n false) i false)

pub no_set : (t : TranState) (set : ℕ) → t ≡ free_tran → slice_index_or t.sets set false ≡ false
no_set t set e = rw e (none_in 129 set)
