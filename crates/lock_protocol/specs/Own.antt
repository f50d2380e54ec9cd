-- The moves of one member.
use Rattle.std.specs.Prelude.{◌≡◌, ◌≢◌, ℕ, List, [], ◌∷◌, ◌++◌}
use Rattle.lock_protocol.specs.Machine.{World}
use Rattle.lock_protocol.specs.Moves.{Move, Obtain, Grant, Refuse, Local, Ask, AnswerClean, AnswerConflict, Release, GiveUp, Demote, Postpone, Fail, Restart, Purge, GroupFail, Run}

-- the member makes it, or it befalls the member alone
abbrev pub IsOf : ℕ → Move → Type 0
IsOf m (Obtain k owner name need entered) = k ≡ m
IsOf m (Grant k owner name need entered) = k ≡ m
IsOf m (Refuse k owner) = k ≡ m
IsOf m (Local k owner name need) = k ≡ m
IsOf m (Ask k owner to name mode) = k ≡ m
IsOf m (AnswerClean k asker owner name mode) = k ≡ m
IsOf m (AnswerConflict k asker owner name mode) = k ≡ m
IsOf m (Release k owner name keeps) = k ≡ m
IsOf m (GiveUp k which) = k ≡ m
IsOf m (Demote k owner name mode) = k ≡ m
IsOf m (Postpone k owner to) = k ≡ m
IsOf m (Fail k) = k ≡ m
IsOf m (Restart k) = k ≡ m
IsOf m (Purge k name) = k ≡ m
IsOf m GroupFail = ⊥

abbrev pub AreOf : ℕ → List Move → Type 0
AreOf m [] = Unit {0}
AreOf m (e ∷ es) = IsOf m e × AreOf m es

-- they leave the claims of all other members
abbrev pub OthersKeep : Type 0
OthersKeep = (entry : ℕ → ℕ) (m : ℕ) (moves : List Move) (w v : World) → AreOf m moves → Run entry w moves v → (k o n : ℕ) → k ≢ m → v.claims k o n ≡ w.claims k o n

-- the moves of two lists, one behind the other
abbrev pub BothAreOf : Type 0
BothAreOf = (m : ℕ) (first next : List Move) → AreOf m first → AreOf m next → AreOf m (first ++ next)
