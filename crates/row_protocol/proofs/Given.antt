-- What the layers above get.
use Rattle.std.proofs.Common.{◌≡◌, ℕ, refl, sym, ◌∙◌, ap, subst, arith, true, List, [], ◌∷◌, ◌++◌, append_assoc, Option}
use Rattle.std.specs.Prelude.{◌==◌}
use Rattle.row_protocol.specs.Rows.{Committed, replay}
use Rattle.row_protocol.specs.Machine.{World, is_committed, committed}
use Rattle.row_protocol.specs.Moves.{Move, Begin, Get, Put, Skip, Decide, Force, Commit, Stop, Undo, End, Claims, Fail, GroupFail, Reopen, Step, Run}
use Rattle.row_protocol.specs.Legal.{Legal}
use Rattle.row_protocol.specs.Given.{HistoryIsLegal, LogsAreReplay, CommitsStay, HistoryGrows, UndoneFirst, IsAppend, appended, AppendsStand}
use Rattle.row_protocol.proofs.Kept.{decide_same, force_same, Commits, commit_same, commit_now}
use Rattle.row_protocol.proofs.Failures.{cut_same}
use Rattle.row_protocol.proofs.Runs.{kept_step, kept_run, always}

pub history_is_legal : HistoryIsLegal
history_is_legal home opening moves w run = (always home opening moves w run).history

pub logs_are_replay : LogsAreReplay
logs_are_replay home opening moves w run = (always home opening moves w run).stands

-- ---- commits
stays_commit : (home : ℕ → ℕ) (w : World) (t l u : ℕ) → Commits home w t l → is_committed home w u ≡ true → is_committed home (committed home w t l) u ≡ true
stays_commit home w t l u g h = let e = commit_now home w t l g in let n = commit_same home w t l g u in grind (arith, e, n, h)

abbrev Stays : (ℕ → ℕ) → World → World → Type 0
Stays home w v = (t : ℕ) → is_committed home w t ≡ true → is_committed home v t ≡ true

stays_step : (home : ℕ → ℕ) (opening : ℕ → Option ℕ) (w v : World) (e : Move) → Legal home opening w → Step home opening w e v → Stays home w v
stays_step home opening w v (Begin t) s st = subst (Stays home w) (sym st.2) (λ u h. h)
stays_step home opening w v (Get t r) s st = subst (Stays home w) (sym st.4) (λ u h. h)
stays_step home opening w v (Put t r x) s st = subst (Stays home w) (sym st.4) (λ u h. h)
stays_step home opening w v Skip s st = subst (Stays home w) (sym st) (λ u h. h)
stays_step home opening w v (Decide t) s st = subst (Stays home w) (sym st.2) (λ u h. decide_same home opening w t s st.1 u ∙ h)
stays_step home opening w v (Force m l) s st = subst (Stays home w) (sym st.3) (λ u h. force_same home w m l st.0 st.2 u ∙ h)
stays_step home opening w v (Commit t l) s st = subst (Stays home w) (sym st.3) (λ u h. stays_commit home w t l u (record { record_at = st.0; above = st.1; alone = st.2 }) h)
stays_step home opening w v (Stop t) s st = subst (Stays home w) (sym st.2) (λ u h. h)
stays_step home opening w v (Undo t r) s st = subst (Stays home w) (sym st.1) (λ u h. h)
stays_step home opening w v (End t) s st = subst (Stays home w) (sym st.2) (λ u h. h)
stays_step home opening w v (Claims claim) s st = subst (Stays home w) (sym st.2) (λ u h. h)
stays_step home opening w v (Fail m) s st = subst (Stays home w) (sym st) (λ u h. cut_same home w (λ k. k == m) u ∙ h)
stays_step home opening w v (GroupFail counter) s st = subst (Stays home w) (sym st.1) (λ u h. cut_same home w (λ k. true) u ∙ h)
stays_step home opening w v Reopen s st = subst (Stays home w) (sym st.1) (λ u h. h)

pub commits_stay : CommitsStay
commits_stay home opening [] w v s alone run t h = subst (λ x. is_committed home x t ≡ true) (sym run) h
commits_stay home opening (e ∷ es) w v s alone run t h = commits_stay home opening es run.0 v (kept_step home opening w run.0 e s alone run.1) run.2 run.3 t (stays_step home opening w run.0 e s run.1 t h)

abbrev Grows : World → World → Type 0
Grows w v = (new : List Committed) × (v.history ≡ new ++ w.history)

grows_step : (home : ℕ → ℕ) (opening : ℕ → Option ℕ) (w v : World) (e : Move) → Step home opening w e v → Grows w v
grows_step home opening w v (Begin t) st = subst (Grows w) (sym st.2) ([], refl)
grows_step home opening w v (Get t r) st = subst (Grows w) (sym st.4) ([], refl)
grows_step home opening w v (Put t r x) st = subst (Grows w) (sym st.4) ([], refl)
grows_step home opening w v Skip st = subst (Grows w) (sym st) ([], refl)
grows_step home opening w v (Decide t) st = subst (Grows w) (sym st.2) ([], refl)
grows_step home opening w v (Force m l) st = subst (Grows w) (sym st.3) ([], refl)
grows_step home opening w v (Commit t l) st = subst (Grows w) (sym st.3) (record { tran = t; ops = w.active t } ∷ [], refl)
grows_step home opening w v (Stop t) st = subst (Grows w) (sym st.2) ([], refl)
grows_step home opening w v (Undo t r) st = subst (Grows w) (sym st.1) ([], refl)
grows_step home opening w v (End t) st = subst (Grows w) (sym st.2) ([], refl)
grows_step home opening w v (Claims claim) st = subst (Grows w) (sym st.2) ([], refl)
grows_step home opening w v (Fail m) st = subst (Grows w) (sym st) ([], refl)
grows_step home opening w v (GroupFail counter) st = subst (Grows w) (sym st.1) ([], refl)
grows_step home opening w v Reopen st = subst (Grows w) (sym st.1) ([], refl)

grows_on : (w mid v : World) → Grows w mid → Grows mid v → Grows w v
grows_on w mid v a b = (b.0 ++ a.0, b.1 ∙ ap (λ h. b.0 ++ h) a.1 ∙ sym (append_assoc b.0 a.0 w.history))

pub history_grows : HistoryGrows
history_grows home opening [] w v run = ([], ap (λ x. x.history) run)
history_grows home opening (e ∷ es) w v run = grows_on w run.0 v (grows_step home opening w run.0 e run.1) (history_grows home opening es run.0 v run.3)

-- ---- changes that aren't done
pub undone_first : UndoneFirst
undone_first home opening w t u r s alone ne h d = record {
  get = λ v st. st.3 (alone t u r (λ e. ne (sym e)) (s.held t r st.0 h d));
  change = λ v x st. let a = alone t u r (λ e. ne (sym e)) (s.held t r st.0 h d) in let b = st.3 in grind (arith, a, b);
}

-- ---- appends
abbrev Written : List Move → World → World → Type 0
Written moves w v = v.history ≡ appended moves w.active w.history

append_history : (home : ℕ → ℕ) (opening : ℕ → Option ℕ) (m : ℕ) (moves : List Move) (w v : World) → IsAppend home m moves → Run home opening w moves v → v.history ≡ appended moves w.active w.history
append_history home opening m [] w v is run = ap (λ x. x.history) run
append_history home opening m (Force k l ∷ es) w v is run = append_history home opening m es run.0 v is.1 run.3 ∙ ap (λ x. appended es x.active x.history) run.1.3
append_history home opening m (Commit t l ∷ es) w v is run = append_history home opening m es run.0 v is.1 run.3 ∙ ap (λ x. appended es x.active x.history) run.1.3
append_history home opening m (Begin t ∷ es) w v is run = absurd is.0
append_history home opening m (Get t r ∷ es) w v is run = absurd is.0
append_history home opening m (Put t r x ∷ es) w v is run = absurd is.0
append_history home opening m (Skip ∷ es) w v is run = absurd is.0
append_history home opening m (Decide t ∷ es) w v is run = absurd is.0
append_history home opening m (Stop t ∷ es) w v is run = absurd is.0
append_history home opening m (Undo t r ∷ es) w v is run = absurd is.0
append_history home opening m (End t ∷ es) w v is run = absurd is.0
append_history home opening m (Claims c ∷ es) w v is run = absurd is.0
append_history home opening m (Fail k ∷ es) w v is run = absurd is.0
append_history home opening m (GroupFail n ∷ es) w v is run = absurd is.0
append_history home opening m (Reopen ∷ es) w v is run = absurd is.0

pub appends_stand : AppendsStand
appends_stand home opening m moves w v s alone is run r = (kept_run home opening moves w v s alone run).stands r ∙ ap (λ h. replay h opening r) (append_history home opening m moves w v is run)
