-- Records behind others.
use Rattle.std.proofs.Common.{◌≡◌, ℕ, refl, sym, ◌∙◌, ap, Bool, true, false, List, [], ◌∷◌, ◌++◌}
use Rattle.std.specs.Prelude.{◌==◌, ◌&&◌, ◌||◌}
use Rattle.ds_model.specs.Rows.{Spot}
use Rattle.ds_model.specs.declared.log.LogRecord.{LogRecord}
use Rattle.log_rows.specs.Rows.{has_changed, has_row, is_change_of, is_closed, is_end}

or_moved : (a b c : Bool) → (a || (b || c)) ≡ ((a || b) || c)
or_moved true b c = refl
or_moved false b c = refl

pub both_changed : (a b : List LogRecord) (id : ℕ) (s : Spot) → has_changed (a ++ b) id s ≡ (has_changed a id s || has_changed b id s)
both_changed [] b id s = refl
both_changed (r ∷ rs) b id s = ap (λ (z : Bool). ((r.tran == id) && is_change_of s r.body) || z) (both_changed rs b id s) ∙ or_moved ((r.tran == id) && is_change_of s r.body) (has_changed rs id s) (has_changed b id s)

pub both_closed : (a b : List LogRecord) (id : ℕ) → is_closed (a ++ b) id ≡ (is_closed a id || is_closed b id)
both_closed [] b id = refl
both_closed (r ∷ rs) b id = ap (λ (z : Bool). ((r.tran == id) && is_end r.body) || z) (both_closed rs b id) ∙ or_moved ((r.tran == id) && is_end r.body) (is_closed rs id) (is_closed b id)

pub both_rows : (a b : List LogRecord) (s : Spot) → has_row (a ++ b) s ≡ (has_row a s || has_row b s)
both_rows [] b s = refl
both_rows (r ∷ rs) b s = ap (λ (z : Bool). is_change_of s r.body || z) (both_rows rs b s) ∙ or_moved (is_change_of s r.body) (has_row rs s) (has_row b s)
