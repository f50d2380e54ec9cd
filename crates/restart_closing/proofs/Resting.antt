-- What a restart leaves of the log that has nothing left open.
use Rattle.std.proofs.Common.{◌≡◌, ℕ, refl, sym, ◌∙◌, ap, subst, arith, Bool, true, false, inl, inr, List, [], ◌∷◌, ◌++◌, length, take, Option, Some, None, Ok, length-append}
use Rattle.std.specs.Prelude.{◌≢◌, ◌⊎◌, ◌==◌, ◌&&◌, if◌then◌else◌, is_none}
use Rattle.std.proofs.lemmas.Bool.{and_parts, both_ways, eqb-true}
use Rattle.std.proofs.lemmas.List.{append-nil, take_at}
use Rattle.ds_base.specs.declared.names.PageId.{PageId}
use Rattle.ds_disk.specs.Contents.{log_of, with_log}
use Rattle.ds_model.specs.RecordBytes.{log_bytes, record_bytes, spelling}
use Rattle.ds_model.specs.declared.log.LogRecord.{LogRecord}
use Rattle.log_rows.specs.Rows.{BothTell}
use Rattle.member_intents.specs.declared.outcome.Answered.{Answered}
use Rattle.member_intents.specs.declared.outcome.Answered.TheVariants as answered
use Rattle.restart_records.specs.Own.{OwnState}
use Rattle.restart_records.specs.Trans.{no_trans, opened_among}
use Rattle.restart_marks.specs.declared.adopt.Adopted.{Adopted}
use Rattle.restart_marks.specs.declared.intent.RestartIntent.{RestartIntent}
use Rattle.restart_marks.specs.declared.intent.RestartSent.{RestartSent}
use Rattle.restart_marks.specs.declared.intent.RestartSent.TheVariants as sent
use Rattle.restart_marks.specs.declared.marks.KeptBy.{KeptBy}
use Rattle.restart_marks.specs.declared.told.RestartTold.{RestartTold}
use Rattle.restart_marks.specs.Adopt.{adopted_after, adopted_as, adopted_by, may_adopt}
use Rattle.restart_marks.specs.Hands.{filled_after}
use Rattle.restart_marks.specs.Needs.{need_of}
use Rattle.restart_marks.specs.State.{RestartState, with_hand, with_trans}
use Rattle.restart_resources.specs.declared.calls.Got.{Got}
use Rattle.restart_resources.specs.Calls.{Drive, RunsCall, got_after, tail_cut}
use Rattle.restart_resources.specs.Events.{Runs, World}
use Rattle.restart_resources.specs.Held.{Held}
use Rattle.restart_resources.specs.Lending.{is_hand, lent_bytes}
use Rattle.restart_resources.specs.Settled.{settled}
use Rattle.restart_closing.specs.Closing.{HasLog, LeavesOpen, RestartCloses}
use Rattle.restart_closing.specs.Leaving.{HandsAll}
use Rattle.restart_closing.specs.Resting.{HandedOver, HandsOver, Rests, RestsStay, StillRests}
use Rattle.restart_closing.proofs.Events.{new_log, ok_at, same_log, same_marks, told_after, was_got}
use Rattle.restart_closing.proofs.Needs.{FitsSent, draws_undo, fits_sent}
use Rattle.restart_closing.proofs.Replies.{locals, settles}
use Rattle.restart_closing.proofs.Steps.{Step, step_same}

-- ---- no record is without bytes
some_record : (r : LogRecord) → record_bytes r ≡ [] → ⊥
unfolding record_bytes spelling
some_record r e =
    let n = ap (λ (z : List ℕ). length z) e in
    let m = simp length-append at n in
    absurd (omega (arith, m))

front_none : (a b : List ℕ) → a ++ b ≡ [] → a ≡ []
front_none [] b e = refl
front_none (x ∷ a) b e = absurd cc

none_spelled : (records : List LogRecord) → log_bytes records ≡ [] → records ≡ []
none_spelled [] e = refl
none_spelled (r ∷ rs) e = absurd (some_record r (front_none (record_bytes r) (log_bytes rs) e))

no_bytes : (bytes : List ℕ) → (length bytes == 0) ≡ true → bytes ≡ []
no_bytes [] e = refl
no_bytes (x ∷ xs) e = absurd (let n = eqb-true (length (x ∷ xs)) 0 e in omega (arith, n))

-- ---- it hands over
never_some : {A : Type 0} → (a : A) → None ≡ Some a → ⊥
never_some a e = cc

same_some : {A : Type 0} → (a b : A) → Some a ≡ Some b → a ≡ b
same_some a b e = cc

may_idle : (s : RestartState) → may_adopt s ≡ true → s.log.pending ≡ []
may_idle s e = no_bytes s.log.pending (and_parts ((s.names.missing == 0) && is_none s.hand.page && is_none s.claim) (length s.log.pending == 0) e).1

module _ (law : HandsAll) where
  gone : (log rest : List ℕ) (pend : List LogRecord) (s : RestartState) → s.own.is_read ≡ true → RestartCloses log rest pend s → may_adopt s ≡ true → Rests log rest (with_trans s no_trans)
  gone log rest pend s read c may = record { read = read; none = refl; idle = may_idle s may; tail = (c.read read).tail; long = (c.read read).long }

  all_open : (log rest : List ℕ) (pend : List LogRecord) (s : RestartState) → s.own.is_read ≡ true → RestartCloses log rest pend s → may_adopt s ≡ true → LeavesOpen log (opened_among s.trans.list)
  all_open log rest pend s read c may =
      let none : pend ≡ [] = none_spelled pend (sym c.waits.spelled ∙ may_idle s may) in
      law log rest s read (subst (λ (z : List LogRecord). RestartCloses log rest z s) none c)

  hands_if : (log rest : List ℕ) (pend : List LogRecord) (s : RestartState) (kept : KeptBy) (adopted : Adopted) → s.own.is_read ≡ true → RestartCloses log rest pend s → (b : Bool) → may_adopt s ≡ b
      → (if b then Some (record { by = kept.by; trans = opened_among s.trans.list }) else None) ≡ Some adopted → (LeavesOpen log adopted.trans) × Rests log rest (if b then with_trans s no_trans else s)
  hands_if log rest pend s kept adopted read c true may e =
      (subst (λ (z : Adopted). LeavesOpen log z.trans) (same_some (record { by = kept.by; trans = opened_among s.trans.list }) adopted e) (all_open log rest pend s read c may), gone log rest pend s read c may)
  hands_if log rest pend s kept adopted read c false may e = absurd (never_some adopted e)

  hands_by : (log rest : List ℕ) (pend : List LogRecord) (s : RestartState) (o : Option KeptBy) (adopted : Adopted) → s.own.is_read ≡ true → RestartCloses log rest pend s → adopted_by s o ≡ Some adopted → (LeavesOpen log adopted.trans) × Rests log rest (adopted_as s o)
  hands_by log rest pend s None adopted read c e = absurd (never_some adopted e)
  hands_by log rest pend s (Some kept) adopted read c e = hands_if log rest pend s kept adopted read c (may_adopt s) refl e

  pub hands_over : HandsOver
  hands_over log rest pend s adopted read c e =
      let p = hands_by log rest pend s s.kept adopted read c e in
      record { opens = p.0; rests = p.1 }

-- ---- events
rests_step : (log rest : List ℕ) (s t : RestartState) → Step s t → Rests log rest s → Rests log rest t
rests_step log rest s t step r = record {
  read = ap (λ (o : OwnState). o.is_read) step.own ∙ r.read;
  none = (step.idle r.none).0;
  idle = (step.idle r.none).1 ∙ r.idle;
  tail = ap (λ (o : OwnState). o.tail) step.own ∙ r.tail;
  long = λ some. ap (λ (o : OwnState). o.long) step.own ∙ r.long (λ none. some (ap (λ (o : OwnState). o.tail) step.own ∙ none));
}

stepped : (log rest : List ℕ) (drive : Drive) (s t : RestartState) → Step s t → StillRests log rest drive s → StillRests log rest drive t
stepped log rest drive s t step k = record {
  behind = k.behind;
  cut = k.cut;
  tells = subst (λ (z : ℕ). HasLog drive z (log ++ k.behind)) (sym step.member) k.tells;
  rests = rests_step log k.behind s t step k.rests;
}

module _ (law : BothTell) (log rest : List ℕ) where
  as_it_was : (drive : Drive) (s : RestartState) → HasLog drive s.member (log ++ rest) → Rests log rest s → StillRests log rest drive s
  as_it_was drive s has r = record { behind = rest; cut = inl refl; tells = has; rests = r }

  cut_rests : (w v : Drive) (h k : Held) (long : ℕ) (a : Answered) (said : RestartTold) → a ≢ answered.Failed → FitsSent h.marks (sent.CutLog long) → HasLog w h.marks.member (log ++ rest) → Rests log rest h.marks
      → RunsCall w h (sent.CutLog long) a said v k → StillRests log rest v k.marks
  cut_rests w v h k long a said well fits has r c =
      let g = was_got c.after k (sent.CutLog long) c.done a said well c.stores in
      let ok = ok_at _ c.done g.got g.ok c.calls.0.ok in
      let t = told_after w.contents v.contents has.contents _ has.told ok.2 in
      let bytes : take long (log_of has.contents.logs h.marks.member) ≡ log = ap (λ (z : List ℕ). take long z) has.log ∙ take_at log rest long (sym (fits.2 ∙ r.long fits.1)) in
      let now : HasLog v h.marks.member (log ++ []) =
      subst (HasLog v h.marks.member) (sym (append-nil log)) (new_log w v h.marks.member (log ++ rest) log has (t.0, t.1, t.2.1 ∙ ap (λ (z : List ℕ). with_log has.contents h.marks.member z) bytes)) in
      let is : k.marks ≡ tail_cut h.marks =
      ap (λ (z : Held). z.marks) g.is ∙ (ap (λ (z : Got). (got_after c.after (sent.CutLog long) z).marks) t.2.0 ∙ ap (λ (z : Held). tail_cut z.marks) c.calls.1) in
      subst (λ (z : RestartState). StillRests log rest v z) (sym is)
      (record { behind = []; cut = inr refl; tells = now; rests = record { read = r.read; none = r.none; idle = r.idle; tail = refl; long = λ some. absurd (some refl) } })

  page_rests : (w v : Drive) (h k : Held) (page : PageId) (a : Answered) (said : RestartTold) → a ≢ answered.Failed → HasLog w h.marks.member (log ++ rest) → Rests log rest h.marks → RunsCall w h (sent.ReadPage page) a said v k → StillRests log rest v k.marks
  page_rests w v h k page a said well has r c =
      let g = was_got c.after k (sent.ReadPage page) c.done a said well c.stores in
      let ok = ok_at _ c.done g.got g.ok c.calls.0.ok in
      let t = told_after w.contents v.contents has.contents _ has.told ok.2 in
      let now : HasLog v h.marks.member (log ++ rest) = same_log w v h.marks.member (log ++ rest) has (t.0, t.1, t.2.1) in
      let marks : c.after.marks ≡ h.marks = ap (λ (z : Held). z.marks) c.calls.1 in
      let is : k.marks ≡ with_hand h.marks (filled_after h.marks.hand) =
      ap (λ (z : Held). z.marks) g.is ∙ (ap (λ (z : Got). (got_after c.after (sent.ReadPage page) z).marks) t.2.0 ∙ ap (λ (z : RestartState). with_hand z (filled_after z.hand)) marks) in
      subst (λ (z : RestartState). StillRests log rest v z) (sym is)
      (stepped log rest v h.marks (with_hand h.marks (filled_after h.marks.hand)) (step_same h.marks (with_hand h.marks (filled_after h.marks.hand)) (record { member = refl; own = refl; log = refl; trans = refl })) (as_it_was v h.marks now r))

  runs_rest : (u v : World) (h k : Held) (i : RestartIntent) (x : RestartSent) (a : Answered) (said : RestartTold) → need_of h.marks i ≡ Ok x → a ≢ answered.Failed → FitsSent h.marks x → HasLog u.drive h.marks.member (log ++ rest) → Rests log rest h.marks
      → Runs u h i x a said v k → StillRests log rest v.drive k.marks
  runs_rest u v h k i sent.None a said lawful well fits has r c =
      subst (λ (z : Held). StillRests log rest v.drive z.marks) (sym c.held) (as_it_was v.drive h.marks (subst (λ (z : World). HasLog z.drive h.marks.member (log ++ rest)) (sym c.world) has) r)
  runs_rest u v h k i (sent.Command x) a said lawful well fits has r c =
      let marks : c.0.after.marks ≡ h.marks = same_marks h c.0.after (is_hand h x) (lent_bytes c.0.after (is_hand h x)) c.0.gives.executed.back in
      subst (λ (z : Held). StillRests log rest v.drive z.marks) (sym c.0.settles)
      (stepped log rest v.drive h.marks (settled c.0.after i c.0.answer).marks
      (subst (λ (z : RestartState). Step z (settled c.0.after i c.0.answer).marks) marks (settles law c.0.after i c.0.answer (draws_undo u.facility v.facility h c.0.after i x c.0.answer lawful c.0.gives)))
      (as_it_was v.drive h.marks (subst (λ (z : Drive). HasLog z h.marks.member (log ++ rest)) (sym c.1) has) r))
  runs_rest u v h k i sent.LogLength a said lawful well fits has r c = absurd (both_ways h.marks.own.is_read fits r.read)
  runs_rest u v h k i (sent.ReadLog at count) a said lawful well fits has r c = absurd (both_ways h.marks.own.is_read fits r.read)
  runs_rest u v h k i (sent.CutLog long) a said lawful well fits has r c = cut_rests u.drive v.drive h k long a said well fits has r c.0
  runs_rest u v h k i sent.AppendLog a said lawful well fits has r c = absurd (both_ways (length h.marks.log.pending == 0) fits.0 (ap (λ (z : List ℕ). length z == 0) r.idle))
  runs_rest u v h k i (sent.ReadPage page) a said lawful well fits has r c = page_rests u.drive v.drive h k page a said well has r c.0

pub rests_stay : BothTell → RestsStay
rests_stay law log rest u v h k x a e well has r =
    stepped log rest v.drive e.after.marks k.marks (locals law e.after.marks k.marks e.ends.0)
    (runs_rest law log rest u v h e.after e.intent x a e.said e.lawful well (fits_sent h.marks e.intent x e.lawful) has r e.runs)
