-- The claims that the moves of an event leave.
use Rattle.std.proofs.Common.{◌≡◌, ℕ, refl, sym, ◌∙◌, ap, Bool, true, false, List, [], ◌∷◌}
use Rattle.std.specs.Prelude.{◌≢◌, ◌==◌, not}
use Rattle.std.proofs.lemmas.Bool.{eq-eqb}
use Rattle.lock_protocol.specs.Machine.{World}
use Rattle.lock_protocol.specs.Moves.{Move, Obtain, Grant, Refuse, Local, Ask, AnswerClean, AnswerConflict, Release, GiveUp, Demote, Postpone, Fail, Restart, Purge, GroupFail, Run}
use Rattle.lock_protocol.specs.Own.{OthersKeep}
use Rattle.lock_world.specs.Views.{entry_in}
use Rattle.group_core.specs.Given.{CrewState}
use Rattle.group_locks.specs.Events.{AreBy, AreRestarts, Moves, MovesSpare, OfGroup, OfMember, OfPhase, Whose, spared}

never : false ≡ true → ⊥
never e = cc

claims_as : (v u : World) (k o c : ℕ) → v ≡ u → v.claims k o c ≡ u.claims k o c
claims_as v u k o c e = ap (λ (z : World). z.claims k o c) e

-- restarts change no claims
restarts_keep : (entry : ℕ → ℕ) (moves : List Move) (w v : World) → AreRestarts moves → Run entry w moves v → (k o c : ℕ) → v.claims k o c ≡ w.claims k o c
restarts_keep entry [] w v are run k o c = claims_as v w k o c run
restarts_keep entry (Restart m ∷ moves) w v are run k o c = restarts_keep entry moves run.0 v are run.2 k o c ∙ claims_as run.0 _ k o c run.1
restarts_keep entry (Obtain m owner name need entered ∷ moves) w v are run k o c = absurd are
restarts_keep entry (Grant m owner name need entered ∷ moves) w v are run k o c = absurd are
restarts_keep entry (Refuse m owner ∷ moves) w v are run k o c = absurd are
restarts_keep entry (Local m owner name need ∷ moves) w v are run k o c = absurd are
restarts_keep entry (Ask m owner to name mode ∷ moves) w v are run k o c = absurd are
restarts_keep entry (AnswerClean m asker owner name mode ∷ moves) w v are run k o c = absurd are
restarts_keep entry (AnswerConflict m asker owner name mode ∷ moves) w v are run k o c = absurd are
restarts_keep entry (Release m owner name keeps ∷ moves) w v are run k o c = absurd are
restarts_keep entry (GiveUp m which ∷ moves) w v are run k o c = absurd are
restarts_keep entry (Demote m owner name mode ∷ moves) w v are run k o c = absurd are
restarts_keep entry (Postpone m owner to ∷ moves) w v are run k o c = absurd are
restarts_keep entry (Fail m ∷ moves) w v are run k o c = absurd are
restarts_keep entry (Purge m name ∷ moves) w v are run k o c = absurd are
restarts_keep entry (GroupFail ∷ moves) w v are run k o c = absurd are

other : (k m : ℕ) → not (k == m) ≡ true → k ≢ m
other k m e same = never (sym (ap not (eq-eqb k m same)) ∙ e)

left_by : OthersKeep → (by : Whose) (entry : ℕ → ℕ) (moves : List Move) (w v : World) → AreBy by moves → Run entry w moves v → (k o c : ℕ) → spared by k ≡ true → v.claims k o c ≡ w.claims k o c
left_by law (OfMember m) entry moves w v are run k o c e = law entry m moves w v are run k o c (other k m e)
left_by law OfPhase entry moves w v are run k o c e = restarts_keep entry moves w v are run k o c
left_by law OfGroup entry moves w v are run k o c e = absurd (never e)

pub moves_spare : OthersKeep → MovesSpare
moves_spare law by old new w m k o c e = left_by law by (entry_in old.facility.locks) m.moves w m.world m.are m.run k o c e
