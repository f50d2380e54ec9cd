-- What was read of a log tells the same of a transaction as all of it, or nothing of one that is settled.
use Rattle.std.proofs.Common.{◌≡◌, ℕ, Bool, true, false, cond, List, [], ◌∷◌, inl, inr, refl, sym, ap, subst, ◌∙◌}
use Rattle.std.specs.Prelude.{◌==◌}
use Rattle.std.specs.List.{AllByRecursion}
use Rattle.std.proofs.lemmas.Bool.{cases_Bool, or_cases, cond_both, eqb-true}
use Rattle.ds_disk.specs.Pages.{page_at}
use Rattle.ds_model.specs.declared.log.LogRecord.{LogRecord}
use Rattle.ds_model.specs.declared.log.Body.{Body}
use Rattle.ds_model.specs.declared.log.Body.TheVariants as body
use Rattle.ds_model.specs.RecordBytes.{IsAllowed, is_of_tran, TranFits}
use Rattle.log_record.specs.declared.log.Log.{Log}
use Rattle.log_trans.specs.declared.course.Course.{Course}
use Rattle.log_trans.specs.Courses.{new_course, after_body}
use Rattle.page_images.specs.Images.{Images}
use Rattle.sound_disk.specs.Checkpoints.{IsCheckpointed, AreCheckpointed}
use Rattle.sound_disk.specs.Transactions.{speak_of, course_in}
use Rattle.sound_plans.specs.Queues.{records_for}
use Rattle.sound_plans.proofs.Members.{IsSoundLog, each_sound}
use Rattle.sound_reads.proofs.Apart.{IsAway, course_stays, same_course}
use Rattle.sound_reads.proofs.Fewer.{IsSoundRead, AreSoundReads, all_sound}
use Rattle.read_plans.specs.Courses.{EndedIsSettled, Tells, CoursesAreRead}
use Rattle.read_plans.proofs.Left_out.{HasBytes, left_out_settles}

-- ---- records of no transaction

body_free : (c : Course) (r : LogRecord) (b : Body) (t : ℕ) → t ≡ 0 → TranFits (is_of_tran b) t → after_body c r b ≡ c
body_free c r (body.RowChange change) t e h = absurd (h e)
body_free c r (body.Compensation change undone) t e h = absurd (h e)
body_free c r (body.System patches) t e h = refl
body_free c r body.Commit t e h = absurd (h e)
body_free c r body.Ended t e h = absurd (h e)
body_free c r (body.Checkpoint offset) t e h = refl
body_free c r body.RestartEnd t e h = refl

free_stays : (c : Course) (rs : List LogRecord) → AllByRecursion IsAllowed rs → course_in c 0 rs ≡ c
free_stays c [] a = refl
free_stays c (r ∷ rs) a =
    cond_both (r.tran == 0) (after_body c r r.body) c (λ (d : Course). course_in d 0 rs ≡ c)
    (λ z. ap (λ (d : Course). course_in d 0 rs) (body_free c r r.body r.tran (eqb-true r.tran 0 z) a.0.tran_fits) ∙ free_stays c rs a.1)
    (λ o. free_stays c rs a.1)

-- ---- one log

-- a transaction of which these speak has no record in the front
pub away_of : (t : ℕ) (front rs : List LogRecord) → (t == 0) ≡ false → AllByRecursion (IsAway front) rs → speak_of t rs ≡ true → speak_of t front ≡ false
away_of t front [] some away is = absurd cc
away_of t front (r ∷ rs) some away is =
    elim (or_cases (r.tran == t) (speak_of t rs) is) as (λ _. speak_of t front ≡ false) [
      | inl e ↦ let tran : r.tran ≡ t = eqb-true r.tran t e in ap (λ (n : ℕ). speak_of n front) (sym tran) ∙ away.0 (ap (λ (n : ℕ). n == 0) tran ∙ some)
      | inr e ↦ away_of t front rs some away.1 e
    ]

one_tells : HasBytes → EndedIsSettled → (at : Images) (log read : Log) (t : ℕ) → IsSoundLog log → IsSoundRead log read → IsCheckpointed at log.records → Tells log.records read.records t
one_tells some law at log read t s h c =
    elim (cases_Bool (t == 0)) as (λ _. Tells log.records read.records t) [
      | inl z ↦
          let none : t ≡ 0 = eqb-true t 0 z in
          subst (Tells log.records read.records) (sym none) (inl (free_stays new_course read.records h.allowed ∙ sym (free_stays new_course log.records s.allowed)))
      | inr numbered ↦ elim (cases_Bool (speak_of t read.records)) as (λ _. Tells log.records read.records t) [
        | inl spoken ↦ inl (sym (ap (course_in new_course t) h.is.records_are ∙ same_course t h.is.front read.records (away_of t h.is.front read.records numbered h.away spoken)))
        | inr silent ↦ inr (course_stays new_course t read.records silent, left_out_settles some law at log read t s h.is c.before numbered silent)
      ]
    ]

-- ---- the log of a member

tells_if : (b : Bool) (xs ys us vs : List LogRecord) (t : ℕ) → Tells xs ys t → Tells us vs t → Tells (cond b xs us) (cond b ys vs) t
tells_if true xs ys us vs t h k = h
tells_if false xs ys us vs t h k = k

all_tell : HasBytes → EndedIsSettled → (at : Images) (logs reads : List Log) (m t : ℕ) → AllByRecursion IsSoundLog logs → AreSoundReads logs reads → AreCheckpointed at logs → Tells (records_for logs m) (records_for reads m) t
all_tell some law at [] [] m t s h c = inl refl
all_tell some law at [] (r ∷ rs) m t s h c = absurd h
all_tell some law at (l ∷ ls) [] m t s h c = absurd h
all_tell some law at (l ∷ ls) (r ∷ rs) m t s h c =
    subst (λ (n : ℕ). Tells (records_for (l ∷ ls) m) (cond (n == m) r.records (records_for rs m)) t) (sym h.0.is.member_is)
    (tells_if (l.member == m) l.records r.records (records_for ls m) (records_for rs m) t (one_tells some law at l r t s.0 h.0 c.0) (all_tell some law at ls rs m t s.1 h.1 c.1))

pub courses_are_read : HasBytes → EndedIsSettled → CoursesAreRead
courses_are_read some law c logs reads m t h are =
    all_tell some law (page_at c.pages) logs reads m t (each_sound c.logs logs h.whole_logs h.transactions) (all_sound 1 c.logs logs reads h.whole_logs h.transactions.follow are) h.checkpoints
