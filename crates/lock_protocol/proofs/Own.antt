-- The claims of others, as the moves of one member leave them.
use Rattle.std.proofs.Common.{◌≡◌, ℕ, refl, sym, ◌∙◌, ap, Bool, true, false, List, [], ◌∷◌, Option, Some, None}
use Rattle.std.specs.Prelude.{◌≢◌, ◌==◌, ◌&&◌, ◌++◌, if◌then◌else◌}
use Rattle.std.proofs.lemmas.Bool.{ne_eqb}
use Rattle.lock_names.specs.declared.mode.Mode.{Mode}
use Rattle.lock_protocol.specs.Machine.{World, cleared, entered, granted, retained_claim}
use Rattle.lock_protocol.specs.Moves.{Move, Obtain, Grant, Refuse, Local, Ask, AnswerClean, AnswerConflict, Release, GiveUp, Demote, Postpone, Fail, Restart, Purge, GroupFail, Step, asked, enter_if}
use Rattle.lock_protocol.specs.Own.{AreOf, BothAreOf, IsOf, OthersKeep}

-- ---- one move: k isn't the member
unless : (k m : ℕ) (x y : Option Mode) (b : Bool) → k ≢ m → (if (k == m) && b then x else y) ≡ y
unless k m x y b ne = ap (λ (z : Bool). if z && b then x else y) (ne_eqb k m ne)

-- the claim of an owner
left_entered : (w : World) (m owner name : ℕ) (mode : Mode) (k o n : ℕ) → k ≢ m → (entered w m owner name mode).claims k o n ≡ w.claims k o n
left_entered w m owner name mode k o n ne = unless k m (Some mode) (w.claims k o n) ((o == owner) && (n == name)) ne

left_granted : (entry : ℕ → ℕ) (w : World) (m owner name : ℕ) (mode : Mode) (b : Bool) (k o n : ℕ) → k ≢ m → (enter_if b (granted entry w m name mode) m owner name mode).claims k o n ≡ w.claims k o n
left_granted entry w m owner name mode true k o n ne = left_entered (granted entry w m name mode) m owner name mode k o n ne
left_granted entry w m owner name mode false k o n ne = refl

left_cleared : (entry : ℕ → ℕ) (w : World) (m owner name : ℕ) (mode : Mode) (b : Bool) (k o n : ℕ) → k ≢ m → (enter_if b (cleared (granted entry w m name mode) m owner) m owner name mode).claims k o n ≡ w.claims k o n
left_cleared entry w m owner name mode true k o n ne = left_entered (cleared (granted entry w m name mode) m owner) m owner name mode k o n ne
left_cleared entry w m owner name mode false k o n ne = refl

left_handed : (w : World) (m owner to k o n : ℕ) → k ≢ m
    → (if (k == m) && (o == to) then w.claims m owner n else if (k == m) && (o == owner) then None else w.claims k o n) ≡ w.claims k o n
left_handed w m owner to k o n ne =
    unless k m (w.claims m owner n) (if (k == m) && (o == owner) then None else w.claims k o n) (o == to) ne ∙ unless k m None (w.claims k o n) (o == owner) ne

claims_as : (v u : World) (k o n : ℕ) → v ≡ u → v.claims k o n ≡ u.claims k o n
claims_as v u k o n e = ap (λ (z : World). z.claims k o n) e

other : (k m a : ℕ) → a ≡ m → k ≢ m → k ≢ a
other k m a is ne e = ne (e ∙ is)

left_by : (entry : ℕ → ℕ) (m : ℕ) (w v : World) (e : Move) → IsOf m e → Step entry w e v → (k o n : ℕ) → k ≢ m → v.claims k o n ≡ w.claims k o n
left_by entry m w v (Obtain a owner name need b) is st k o n ne = claims_as v _ k o n st.4 ∙ left_granted entry w a owner name (asked w a owner name need) b k o n (other k m a is ne)
left_by entry m w v (Grant a owner name need b) is st k o n ne = claims_as v _ k o n st.4 ∙ left_cleared entry w a owner name (asked w a owner name need) b k o n (other k m a is ne)
left_by entry m w v (Refuse a owner) is st k o n ne = claims_as v _ k o n st
left_by entry m w v (Local a owner name need) is st k o n ne = claims_as v _ k o n st.3 ∙ left_entered w a owner name (asked w a owner name need) k o n (other k m a is ne)
left_by entry m w v (Ask a owner to name mode) is st k o n ne = claims_as v _ k o n st
left_by entry m w v (AnswerClean a asker owner name mode) is st k o n ne = claims_as v _ k o n st.1
left_by entry m w v (AnswerConflict a asker owner name mode) is st k o n ne = claims_as v _ k o n st
left_by entry m w v (Release a owner name keeps) is st k o n ne = claims_as v _ k o n st.2 ∙ unless k a None (w.claims k o n) ((o == owner) && (n == name)) (other k m a is ne)
left_by entry m w v (GiveUp a which) is st k o n ne = claims_as v _ k o n st ∙ unless k a None (w.claims k o n) (which o n) (other k m a is ne)
left_by entry m w v (Demote a owner name mode) is st k o n ne = claims_as v _ k o n st.1 ∙ left_entered w a owner name mode k o n (other k m a is ne)
left_by entry m w v (Postpone a owner to) is st k o n ne = claims_as v _ k o n st.2 ∙ left_handed w a owner to k o n (other k m a is ne)
left_by entry m w v (Fail a) is st k o n ne = claims_as v _ k o n st ∙ ap (λ (z : Bool). if z then retained_claim (w.claims k o n) else w.claims k o n) (ne_eqb k a (other k m a is ne))
left_by entry m w v (Restart a) is st k o n ne = claims_as v _ k o n st
left_by entry m w v (Purge a name) is st k o n ne = claims_as v _ k o n st.1
left_by entry m w v GroupFail is st k o n ne = absurd is

pub others_keep : OthersKeep
others_keep entry m [] w v are run k o n ne = claims_as v w k o n run
others_keep entry m (e ∷ es) w v are run k o n ne = others_keep entry m es run.0 v are.1 run.2 k o n ne ∙ left_by entry m w run.0 e are.0 run.1 k o n ne

pub both_are_of : BothAreOf
both_are_of m [] next a b = b
both_are_of m (e ∷ es) next a b = (a.0, both_are_of m es next a.1 b)
