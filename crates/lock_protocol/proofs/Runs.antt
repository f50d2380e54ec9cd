-- Every run keeps the claims sound.
use Rattle.std.proofs.Common.{◌≡◌, ℕ, refl, sym, subst, Bool, true, false, [], ◌∷◌, inl}
use Rattle.lock_names.specs.declared.mode.Mode.{Mode}
use Rattle.lock_protocol.specs.Machine.{World, granted, entered, cleared, start}
use Rattle.lock_protocol.specs.Moves.{Move, Obtain, Grant, Refuse, Local, Ask, AnswerClean, AnswerConflict, Release, GiveUp, Demote, Postpone, Fail, Restart, Purge, GroupFail, Step, asked, enter_if, NoLocalConflict}
use Rattle.lock_protocol.specs.Sound.{Sound, RunKeepsSound, AlwaysSound}
use Rattle.lock_protocol.proofs.Kept.{kept_ask, kept_conflict, kept_clean, kept_cleared, kept_failed, kept_restart, kept_purge, kept_give_up, kept_handed_on, kept_released, kept_start, kept_granted, own_cover, own_recorded, apart, Apart, kept_enter, still_clean, kept_local, kept_demote}

kept_obtain : (entry : ℕ → ℕ) (w : World) (m owner name : ℕ) (mode : Mode) (b : Bool) → Sound entry w → w.live m ≡ true → Apart w m name mode → (b ≡ true → NoLocalConflict w m owner name mode) → Sound entry (enter_if b (granted entry w m name mode) m owner name mode)
kept_obtain entry w m owner name mode true s live far near = kept_enter entry (granted entry w m name mode) m owner name mode (kept_granted entry w m name mode s) far (near refl) (own_cover entry w m name mode live) (own_recorded entry w m name mode) (still_clean entry w m name mode s)
kept_obtain entry w m owner name mode false s live far near = kept_granted entry w m name mode s

kept_grant : (entry : ℕ → ℕ) (w : World) (m owner name : ℕ) (mode : Mode) (b : Bool) → Sound entry w → w.live m ≡ true → Apart w m name mode → (b ≡ true → NoLocalConflict w m owner name mode) → Sound entry (enter_if b (cleared (granted entry w m name mode) m owner) m owner name mode)
kept_grant entry w m owner name mode true s live far near = kept_cleared entry (entered (granted entry w m name mode) m owner name mode) m owner (kept_obtain entry w m owner name mode true s live far near)
kept_grant entry w m owner name mode false s live far near = kept_cleared entry (granted entry w m name mode) m owner (kept_granted entry w m name mode s)

pub kept_step : (entry : ℕ → ℕ) (w v : World) (e : Move) → Sound entry w → Step entry w e v → Sound entry v
kept_step entry w v (Obtain m owner name need b) s st = subst (Sound entry) (sym st.4) (kept_obtain entry w m owner name (asked w m owner name need) b s st.0 (apart entry w m owner name (asked w m owner name need) s st.1 (λ k ne up. inl (st.2 k ne up))) st.3)
kept_step entry w v (Grant m owner name need b) s st = subst (Sound entry) (sym st.4) (kept_grant entry w m owner name (asked w m owner name need) b s st.0 (apart entry w m owner name (asked w m owner name need) s st.1 st.2) st.3)
kept_step entry w v (Refuse m owner) s st = subst (Sound entry) (sym st) (kept_cleared entry w m owner s)
kept_step entry w v (Local m owner name need) s st = subst (Sound entry) (sym st.3) (kept_local entry w m st.1.0 owner name (asked w m owner name need) s st.1.1 st.2)
kept_step entry w v (Ask m owner k name mode) s st = subst (Sound entry) (sym st) (kept_ask entry w m owner k name mode s)
kept_step entry w v (AnswerClean k m owner name mode) s st = subst (Sound entry) (sym st.1) (kept_clean entry w m owner k name mode s st.0)
kept_step entry w v (AnswerConflict k m owner name mode) s st = subst (Sound entry) (sym st) (kept_conflict entry w m owner k name mode s)
kept_step entry w v (Release m owner name keeps) s st = subst (Sound entry) (sym st.2) (kept_released entry w m owner name keeps s st.0 st.1)
kept_step entry w v (GiveUp m which) s st = subst (Sound entry) (sym st) (kept_give_up entry w m which s)
kept_step entry w v (Demote m owner name mode) s st = subst (Sound entry) (sym st.1) (kept_demote entry w m owner name mode s st.0)
kept_step entry w v (Postpone m owner to) s st = subst (Sound entry) (sym st.2) (kept_handed_on entry w m owner to s st.0 st.1)
kept_step entry w v (Fail m) s st = subst (Sound entry) (sym st) (kept_failed entry w m s)
kept_step entry w v (Restart m) s st = subst (Sound entry) (sym st) (kept_restart entry w m s)
kept_step entry w v (Purge m name) s st = subst (Sound entry) (sym st.1) (kept_purge entry w m name s st.0)
kept_step entry w v GroupFail s st = subst (Sound entry) (sym st) (kept_start entry)

pub kept_run : RunKeepsSound
kept_run entry [] w v s run = subst (Sound entry) (sym run) s
kept_run entry (e ∷ es) w v s run = kept_run entry es run.0 v (kept_step entry w run.0 e s run.1) run.2

pub always : AlwaysSound
always entry moves w run = kept_run entry moves start w (kept_start entry) run
