-- One row after the other.
use Rattle.std.proofs.Common.{◌≡◌, ℕ, ◌+◌, ◌<◌, List, length, drop, get_or}
use Rattle.std.proofs.lemmas.List.{at_drop_more}
use Rattle.ds_model.specs.Rows.{Spot}
use Rattle.lock_manager.specs.Managers.{Book}
use Rattle.member_marks.specs.Names.{NameSet, with_spot, with_spots}
use Rattle.member_marks.specs.Rollbacks.{spot_claimed, claimed}

pub kept_step : (k : NameSet) (ss : List Spot) (i : ℕ) (d : Spot) → i < length ss
    → with_spots k (drop i ss) ≡ with_spots (with_spot k (get_or ss i d)) (drop (i + 1) ss)
kept_step k ss i d h = at_drop_more (λ z. with_spots k z) ss i d h

pub claimed_step : (b : Book) (ss : List Spot) (i : ℕ) (d : Spot) → i < length ss
    → claimed b (drop i ss) ≡ claimed (spot_claimed b (get_or ss i d)) (drop (i + 1) ss)
claimed_step b ss i d h = at_drop_more (λ z. claimed b z) ss i d h
