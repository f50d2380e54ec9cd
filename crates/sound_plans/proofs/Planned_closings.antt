-- The closings of a plan fit the logs.
use Rattle.std.proofs.Common.{◌≡◌, ℕ, ◌-◌, true, cond, List, [], ◌∷◌, ◌++◌, length, Option, Some, None, inl, inr, refl, sym, ap, subst, ◌∙◌}
use Rattle.std.specs.Prelude.{◌==◌, slice_get}
use Rattle.std.specs.List.{AllByRecursion}
use Rattle.std.proofs.lemmas.Bool.{cond_both, or_cases, eqb-true}
use Rattle.ds_model.specs.declared.log.LogRecord.{LogRecord}
use Rattle.ds_model.specs.declared.log.Version.TheVariants as version
use Rattle.ds_model.specs.RecordBytes.{IsNumber, IsAllowed}
use Rattle.log_record.specs.declared.log.Log.{Log}
use Rattle.log_trans.specs.declared.opened.OpenTran.{OpenTran}
use Rattle.log_trans.specs.Courses.{open_trans}
use Rattle.restart_plan.specs.declared.opened.Closing.{Closing}
use Rattle.restart_plan.specs.declared.opened.Opened.{Opened}
use Rattle.restart_plan.specs.Opened.{nothing_open, closing, closed, with_undo, with_changes, with_tran, with_trans, with_ending, needs_end, with_last, with_log, with_logs}
use Rattle.restart_plan.specs.Plans.{plan_of}
use Rattle.sound_disk.specs.Laws.{last_number}
use Rattle.sound_disk.specs.Transactions.{speak_of}
use Rattle.sound_plans.specs.Opens.{course_of, IsOpenTran, OpensTell, SomeIsUndone}
use Rattle.sound_plans.specs.Queues.{CanClose, ClosingsFit}
use Rattle.sound_plans.specs.Plans.{ClosingsOfPlanFit}
use Rattle.sound_plans.proofs.Closings.{last_with}
use Rattle.sound_plans.proofs.Queues.{snoc_view, got_last, all_last, wide}
use Rattle.sound_plans.proofs.Members.{IsSoundLog, each_sound, IsHome, each_home}

-- ---- numbers that may stand in a record

spoken_number : (t : ℕ) (rs : List LogRecord) → AllByRecursion IsAllowed rs → speak_of t rs ≡ true → IsNumber version.Two t
spoken_number t [] a h = absurd cc
spoken_number t (r ∷ rs) a h = elim (or_cases (r.tran == t) (speak_of t rs) h) [
  | inl e ↦ subst (IsNumber version.Two) (eqb-true r.tran t e) (wide r.version r.tran a.0.tran_in)
  | inr e ↦ spoken_number t rs a.1 e
]

-- the last record of a log
record IsLast (rs : List LogRecord) (last : LogRecord) : Type 0 where
  number : last.lrsn ≡ last_number 0 rs
  allowed : IsNumber version.Two last.lrsn

not_none : (r : LogRecord) → None ≡ Some r → ⊥
not_none r e = cc

last_of : (rs : List LogRecord) (last : LogRecord) → AllByRecursion IsAllowed rs → slice_get rs (length rs - 1) ≡ Some last → IsLast rs last
last_of rs last a e = elim (snoc_view rs) [
  | inl none ↦ absurd (not_none last (sym (ap (λ (l : List LogRecord). slice_get l (length l - 1)) none) ∙ e))
  | inr s ↦ (
      let both : Some s.last ≡ Some last = sym (got_last rs s.init s.last s.split) ∙ e in
      let same : s.last ≡ last = cc in
      let allowed : IsAllowed s.last = all_last IsAllowed s.init s.last (subst (AllByRecursion IsAllowed) s.split a) in
      subst (IsLast rs) same (record {
        number = sym (ap (last_number 0) s.split ∙ last_with 0 s.init s.last);
        allowed = wide s.last.version s.last.lrsn allowed.lrsn_in;
      }))
]

-- ---- one transaction

can_close : SomeIsUndone → (logs : List Log) (log : Log) (last : LogRecord) (t : OpenTran) → IsHome logs log → IsSoundLog log → IsLast log.records last → IsOpenTran log.records t → length t.undo ≡ 0 → CanClose logs (closing log.member t.id last.lrsn)
can_close law logs log last t home s l o none = record {
  has = home.has;
  number = l.number ∙ ap (last_number 0) (sym home.records_are);
  undone = ap (λ (rs : List LogRecord). length (course_of rs t.id).undo) home.records_are ∙ ap (λ (us : List LogRecord). length us) (sym o.undo_is) ∙ none;
  some = ap (λ (rs : List LogRecord). length (course_of rs t.id).undone == 0) home.records_are ∙ ap (λ (us : List LogRecord). length us == 0) (sym o.undone_is) ∙ law log.records t s.allowed s.follow o none;
  allowed = record { lrsn_in = l.allowed; tran_fits = o.numbered; tran_in = spoken_number t.id log.records s.allowed o.spoken; body_is = tt };
}

all_push : (P : Closing → Type 0) (cs : List Closing) (c : Closing) → AllByRecursion P cs → P c → AllByRecursion P (cs ++ c ∷ [])
all_push P [] c h k = (k, tt)
all_push P (x ∷ cs) c h k = (h.0, all_push P cs c h.1 k)

tran_fits : SomeIsUndone → (logs : List Log) (log : Log) (last : LogRecord) (o : Opened) (t : OpenTran) → IsHome logs log → IsSoundLog log → IsLast log.records last → IsOpenTran log.records t → ClosingsFit logs o.closings
    → ClosingsFit logs (with_tran log.member last.lrsn o t).closings
tran_fits law logs log last o t home s l is h =
    let close = closed o (closing log.member t.id last.lrsn) in
    let keep = with_undo o (with_changes log.member t.id true o.undo t.undo) in
    cond_both (t.id == 0) o (cond (length t.undo == 0) close keep) (λ (p : Opened). ClosingsFit logs p.closings) (λ z. h)
    (λ z. cond_both (length t.undo == 0) close keep (λ (p : Opened). ClosingsFit logs p.closings)
    (λ none. all_push (CanClose logs) o.closings (closing log.member t.id last.lrsn) h (can_close law logs log last t home s l is (eqb-true (length t.undo) 0 none)))
    (λ some. h))

trans_fit : SomeIsUndone → (logs : List Log) (log : Log) (last : LogRecord) (o : Opened) (ts : List OpenTran) → IsHome logs log → IsSoundLog log → IsLast log.records last → AllByRecursion (IsOpenTran log.records) ts → ClosingsFit logs o.closings
    → ClosingsFit logs (with_trans log.member last.lrsn o ts).closings
trans_fit law logs log last o [] home s l is h = h
trans_fit law logs log last o (t ∷ ts) home s l is h = trans_fit law logs log last (with_tran log.member last.lrsn o t) ts home s l is.1 (tran_fits law logs log last o t home s l is.0 h)

-- ---- logs

last_fits : SomeIsUndone → (logs : List Log) (log : Log) (o : Opened) (ts : List OpenTran) (found : Option LogRecord) → slice_get log.records (length log.records - 1) ≡ found → IsHome logs log → IsSoundLog log → AllByRecursion (IsOpenTran log.records) ts
    → ClosingsFit logs o.closings → ClosingsFit logs (with_last o log.member ts found).closings
last_fits law logs log o ts None e home s is h = h
last_fits law logs log o ts (Some last) e home s is h =
    trans_fit law logs log last (cond (needs_end last ts) (with_ending o log.member) o) ts home s (last_of log.records last s.allowed e) is
    (cond_both (needs_end last ts) (with_ending o log.member) o (λ (p : Opened). ClosingsFit logs p.closings) (λ k. h) (λ k. h))

logs_fit : OpensTell → SomeIsUndone → (all : List Log) (o : Opened) (logs : List Log) → AllByRecursion (λ (l : Log). IsHome all l) logs → AllByRecursion IsSoundLog logs → ClosingsFit all o.closings → ClosingsFit all (with_logs o logs).closings
logs_fit tell law all o [] home s h = h
logs_fit tell law all o (log ∷ logs) home s h =
    logs_fit tell law all (with_log o log) logs home.1 s.1
    (last_fits law all log o (open_trans log.records) (slice_get log.records (length log.records - 1)) refl home.0 s.0 (tell log.records) h)

pub closings_fit : OpensTell → SomeIsUndone → ClosingsOfPlanFit
unfolding plan_of
closings_fit tell law bytes logs w t = logs_fit tell law logs nothing_open logs (each_home bytes logs w) (each_sound bytes logs w t) tt
