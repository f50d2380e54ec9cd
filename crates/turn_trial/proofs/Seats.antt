-- The seats of a turn, one by one.
use Rattle.std.proofs.Common.{◌≡◌, ℕ, zero, suc, ◌+◌, ◌<◌, List, [], ◌∷◌, ◌++◌, length, take, drop, slice_index_or, refl, ap, ◌∙◌, subst, arith}
use Rattle.std.proofs.lemmas.List.{take_all, drop_all}
use Rattle.turn_gate.proofs.Sums.{append_nil}
use Rattle.turn_gate.specs.Known.{newcomers}
use Rattle.turn_gate.specs.Seated.{TurnId, Sat, sats, AreOf}
use Rattle.turn_trial.specs.Recorded.{caller_of}
use Rattle.turn_trial.specs.Fresh.{IsFresh}

-- the seat at each place is the next caller's
pub fresh_at : (z : TurnId) (k m i : ℕ) (d : Sat ℕ ℕ) → i < m → IsFresh z (i + k) (slice_index_or (sats z (newcomers caller_of 0 [] k m)) i d)
fresh_at z k zero i d h = absurd (omega arith)
fresh_at z k (suc m) zero d h = (refl, omega arith, refl, refl)
fresh_at z k (suc m) (suc i) d h =
    let ih = fresh_at z (suc k) m i d (omega arith) in
    let e : i + suc k ≡ suc i + k = omega arith in
    subst (λ c. IsFresh z c (slice_index_or (sats z (newcomers caller_of 0 [] (suc k) m)) i d)) e ih

-- where each is of a turn, all are
pub all_of : (z : TurnId) (l : List (Sat ℕ ℕ)) → ((i : ℕ) (d : Sat ℕ ℕ) → i < length l → (slice_index_or l i d).turn ≡ z) → AreOf z l
all_of z [] h = tt
all_of z (s ∷ ss) h = (h 0 s (omega arith), all_of z ss (λ i d less. h (suc i) d (omega arith)))

-- what a slice of a whole list left there is the list afterwards
pub written : {A : Type 0} (n : ℕ) (new old : List A) → length new ≡ length old → n ≡ length old → take n (new ++ drop (length new) old) ≡ new
written n new old same all =
    ap (λ l. take n (new ++ l)) (drop_all (length new) old (omega arith)) ∙ (ap (take n) (append_nil new) ∙ take_all n new (omega arith))
