-- Every run keeps rows, logs and history legal.
use Rattle.std.proofs.Common.{ℕ, refl, sym, subst, List, [], ◌∷◌, Option}
use Rattle.std.specs.Prelude.{◌==◌}
use Rattle.row_protocol.specs.Machine.{World, start}
use Rattle.row_protocol.specs.Moves.{Move, Begin, Get, Put, Skip, Decide, Force, Commit, Stop, Undo, End, Claims, Fail, GroupFail, Reopen, Step, Run, IsAlone}
use Rattle.row_protocol.specs.Legal.{Legal, AlwaysLegal}
use Rattle.row_protocol.proofs.Kept.{kept_start, kept_begin, kept_get, kept_put, kept_skip, kept_decide, kept_force, kept_commit, kept_stop, kept_undo, kept_end, kept_claims, kept_reopen}
use Rattle.row_protocol.proofs.Failures.{kept_cut, kept_group_failed}

pub kept_step : (home : ℕ → ℕ) (opening : ℕ → Option ℕ) (w v : World) (e : Move) → Legal home opening w → IsAlone w.claim → Step home opening w e v → Legal home opening v
kept_step home opening w v (Begin t) s alone st = subst (Legal home opening) (sym st.2) (kept_begin home opening w t s st.1)
kept_step home opening w v (Get t r) s alone st = subst (Legal home opening) (sym st.4) (kept_get home opening w t r s alone st.0 st.1 st.2 st.3)
kept_step home opening w v (Put t r x) s alone st = subst (Legal home opening) (sym st.4) (kept_put home opening w t r x s alone st.0 st.1 st.2 st.3)
kept_step home opening w v Skip s alone st = subst (Legal home opening) (sym st) (kept_skip home opening w s)
kept_step home opening w v (Decide t) s alone st = subst (Legal home opening) (sym st.2) (kept_decide home opening w t s st.0 st.1)
kept_step home opening w v (Force m l) s alone st = subst (Legal home opening) (sym st.3) (kept_force home opening w m l s st.0 st.1 st.2)
kept_step home opening w v (Commit t l) s alone st = subst (Legal home opening) (sym st.3) (kept_commit home opening w t l s alone st.0 st.1 st.2)
kept_step home opening w v (Stop t) s alone st = subst (Legal home opening) (sym st.2) (kept_stop home opening w t s st.0 st.1)
kept_step home opening w v (Undo t r) s alone st = subst (Legal home opening) (sym st.1) (kept_undo home opening w t r s st.0)
kept_step home opening w v (End t) s alone st = subst (Legal home opening) (sym st.2) (kept_end home opening w t s st.0 st.1)
kept_step home opening w v (Claims claim) s alone st = subst (Legal home opening) (sym st.2) (kept_claims home opening w claim s st.1)
kept_step home opening w v (Fail m) s alone st = subst (Legal home opening) (sym st) (kept_cut home opening w (λ k. k == m) s)
kept_step home opening w v (GroupFail counter) s alone st = subst (Legal home opening) (sym st.1) (kept_group_failed home opening w counter s st.0)
kept_step home opening w v Reopen s alone st = subst (Legal home opening) (sym st.1) (kept_reopen home opening w s st.0)

pub kept_run : (home : ℕ → ℕ) (opening : ℕ → Option ℕ) (es : List Move) (w v : World) → Legal home opening w → IsAlone w.claim → Run home opening w es v → Legal home opening v
kept_run home opening [] w v s alone run = subst (Legal home opening) (sym run) s
kept_run home opening (e ∷ es) w v s alone run = kept_run home opening es run.0 v (kept_step home opening w run.0 e s alone run.1) run.2 run.3

pub always : AlwaysLegal
always home opening moves w run = kept_run home opening moves start w (kept_start home opening) (λ t u r ne h. refl) run
