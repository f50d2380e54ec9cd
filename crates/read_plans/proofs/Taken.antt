-- A transaction that a log leaves open is taken by the plan of what was read, or no record of it was.
use Rattle.std.proofs.Common.{◌≡◌, ℕ, Bool, true, false, cond, List, [], ◌∷◌, ◌++◌, map, inl, inr, refl, sym, ap, subst, ◌∙◌}
use Rattle.std.specs.Prelude.{◌⊎◌, ◌==◌}
use Rattle.std.proofs.lemmas.Bool.{cases_Bool, ne_eqb}
use Rattle.ds_model.specs.declared.log.LogRecord.{LogRecord}
use Rattle.log_record.specs.declared.log.Log.{Log}
use Rattle.log_trans.specs.declared.course.Course.{Course}
use Rattle.log_trans.specs.Courses.{new_course}
use Rattle.restart_plan.specs.declared.opened.Opened.{Opened}
use Rattle.restart_plan.specs.Opened.{nothing_open}
use Rattle.restart_plan.specs.Plans.{plan_of}
use Rattle.restart_plan.specs.Values.{falling}
use Rattle.std.specs.FinMap.{entries}
use Rattle.sound_disk.specs.Transactions.{speak_of, course_in}
use Rattle.sound_plans.specs.Ends.{takes, IsLeftOpen, PlanTakesOpens}
use Rattle.sound_plans.specs.Opens.{course_of}
use Rattle.sound_plans.specs.Queues.{records_for}
use Rattle.sound_reads.specs.Laws.{ReadsStandApart}
use Rattle.sound_reads.proofs.Apart.{same_course}
use Rattle.sound_reads.proofs.Fewer.{IsSoundRead, AreSoundReads, all_sound}
use Rattle.read_plans.specs.Courses.{CoursesAreRead}
use Rattle.read_plans.specs.Ends.{IsLeftOut, OpensAreTaken}
use Rattle.read_plans.proofs.Fitting.{alone, bytes_alone, alone_opened, alone_records, whole_alone, fit_alone}
use Rattle.read_plans.proofs.Told.{away_of}

-- ---- of one log

-- what was read tells all of the transaction, or it was left out
abbrev TellsAll : List LogRecord → List LogRecord → ℕ → Type 0
TellsAll all read t = (course_of read t ≡ course_of all t) ⊎ IsLeftOut all t

one_told : (log read : Log) (t : ℕ) → (t == 0) ≡ false → IsSoundRead log read → TellsAll log.records read.records t
one_told log read t numbered h = elim h.is.begins as (λ _. TellsAll log.records read.records t) [
  | inl none ↦ inl (ap (λ (rs : List LogRecord). course_of rs t) (sym (h.is.records_are ∙ ap (λ (xs : List LogRecord). xs ++ read.records) none)))
  | inr may ↦ elim (cases_Bool (speak_of t read.records)) as (λ _. TellsAll log.records read.records t) [
    | inl spoken ↦ inl (sym (ap (course_in new_course t) h.is.records_are ∙ same_course t h.is.front read.records (away_of t h.is.front read.records numbered h.away spoken)))
    | inr silent ↦ inr (record { front = h.is.front; back = read.records; records_are = h.is.records_are; begins = may; silent = silent })
  ]
]

-- ---- of the log of a member

told_if : (b : Bool) (xs ys us vs : List LogRecord) (t : ℕ) → TellsAll xs ys t → TellsAll us vs t → TellsAll (cond b xs us) (cond b ys vs) t
told_if true xs ys us vs t h k = h
told_if false xs ys us vs t h k = k

all_told : (logs reads : List Log) (m t : ℕ) → (t == 0) ≡ false → AreSoundReads logs reads → TellsAll (records_for logs m) (records_for reads m) t
all_told [] [] m t numbered h = inl refl
all_told [] (r ∷ rs) m t numbered h = absurd h
all_told (l ∷ ls) [] m t numbered h = absurd h
all_told (l ∷ ls) (r ∷ rs) m t numbered h =
    subst (λ (n : ℕ). TellsAll (records_for (l ∷ ls) m) (cond (n == m) r.records (records_for rs m)) t) (sym h.0.is.member_is)
    (told_if (l.member == m) l.records r.records (records_for ls m) (records_for rs m) t (one_told l r t numbered h.0) (all_told ls rs m t numbered h.1))

-- ---- of the plan

open_as : (logs others : List Log) (m t : ℕ) → course_of (records_for others m) t ≡ course_of (records_for logs m) t → IsLeftOpen logs m t → IsLeftOpen others m t
open_as logs others m t same o = record {
  numbered = o.numbered;
  some = λ e. o.some (sym same ∙ e);
  uncommitted = ap (λ (c : Course). c.is_committed) same ∙ o.uncommitted;
  unended = ap (λ (c : Course). c.is_ended) same ∙ o.unended;
}

taken_alone : (reads : List Log) (m t : ℕ) → takes (plan_of (map alone reads)).closings (plan_of (map alone reads)).undo m t ≡ takes (plan_of reads).closings (plan_of reads).undo m t
unfolding plan_of
taken_alone reads m t = ap (λ (o : Opened). takes o.closings (falling (entries o.undo)) m t) (alone_opened nothing_open reads)

pub opens_are_taken : CoursesAreRead → ReadsStandApart → PlanTakesOpens → OpensAreTaken
opens_are_taken told apart law c logs reads m t h are o =
    elim (all_told logs reads m t (ne_eqb t 0 o.numbered) (all_sound 1 c.logs logs reads h.whole_logs h.transactions.follow are)) [
      | inl same ↦ (
          let there : course_of (records_for (map alone reads) m) t ≡ course_of (records_for logs m) t = ap (λ (rs : List LogRecord). course_of rs t) (alone_records reads m) ∙ same in
          inl (sym (taken_alone reads m t)
          ∙ law (map bytes_alone reads) (map alone reads) m t (whole_alone told apart c logs reads h are) (fit_alone told apart c logs reads h are) (open_as logs (map alone reads) m t there o)))
      | inr out ↦ inr out
    ]
