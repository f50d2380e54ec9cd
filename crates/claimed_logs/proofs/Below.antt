-- The numbers by which the records of a log name their transactions, as the log goes on.
use Rattle.std.proofs.Common.{◌≡◌, ℕ, ◌≤◌, refl, sym, ◌∙◌, ap, subst, arith, Bool, true, false, inl, inr, List, [], ◌∷◌, ◌++◌, length, take, Option, Some, None}
use Rattle.std.specs.Prelude.{◌≢◌, ◌⊎◌, if◌then◌else◌, IfSome, IsSomeAnd}
use Rattle.std.specs.List.{AllByRecursion}
use Rattle.std.proofs.lemmas.List.{append-nil, take_all}
use Rattle.ds_model.specs.RecordBytes.{IsAllowed, log_bytes}
use Rattle.ds_model.specs.declared.log.LogRecord.{LogRecord}
use Rattle.log_appends.specs.Appends.{AreBehind, AreLastFrom, LastAreBehind, NoneNames}
use Rattle.log_appends.specs.Rests.{IsRest, LastWithRest, LastWithoutRest, NothingIsRest}
use Rattle.log_reader.specs.Keeping.{AreBytes, AreWhole}
use Rattle.log_trans.specs.declared.opened.OpenTran.{OpenTran}
use Rattle.log_trans.specs.Courses.{open_trans}
use Rattle.member_intents.specs.declared.outcome.Answered.{Answered}
use Rattle.member_intents.specs.declared.outcome.Answered.TheVariants as answered
use Rattle.member_marks.specs.State.{MarksState}
use Rattle.restart_records.specs.declared.trans.RestartTran.{RestartTran}
use Rattle.restart_records.specs.Trans.{TransState, no_trans}
use Rattle.restart_marks.specs.declared.intent.RestartSent.{RestartSent}
use Rattle.restart_marks.specs.declared.marks.KeptBy.{KeptBy}
use Rattle.restart_marks.specs.Adopt.{adopted_as, may_adopt}
use Rattle.restart_marks.specs.State.{RestartState, with_trans}
use Rattle.restart_law.specs.Opens.{GoOn, ListGoes, ListsGo, OpensStay}
use Rattle.restart_law.specs.Reads.{ReadsStay, ReadsTrue, StillReads}
use Rattle.restart_claims.specs.Whole.{ClosesTruly}
use Rattle.restart_closing.specs.Closing.{HasLog, ListedBelow, StillCloses, trans_of}
use Rattle.restart_closing.specs.Leaving.{LogsLeaveBelow}
use Rattle.restart_closing.specs.Resting.{RestsStay, StillRests}
use Rattle.restart_closing.proofs.Logs.{front_all, none_names}
use Rattle.restart_resources.specs.Events as event
use Rattle.restart_resources.specs.Held as restart
use Rattle.lock_protocol.specs.Machine.{World as Locks}
use Rattle.claimed_logs.specs.Courses.{RestartCourse, RestartHanded, RestartOpen}
use Rattle.claimed_logs.specs.Failing.{HandedBelow, StopsBelow}
use Rattle.claimed_logs.specs.Logs.{LogBelow, RestartLogged}
use Rattle.claimed_logs.specs.Steps.{CourseBelow, StillBelow}
use Rattle.claimed_logs.proofs.Alike.{Facts as AlikeFacts}
use Rattle.claimed_logs.proofs.Courses.{one_log}
use Rattle.claimed_logs.proofs.Forward.{all_below, all_both}
use Rattle.claimed_logs.proofs.Logs.{last_from}

-- ---- a log, and what is put behind it
module _ (c : ℕ) where
  abbrev Low : LogRecord → Type 0
  Low r = r.tran ≤ c

  -- so many bytes of records
  pub below_front : LastAreBehind → (log : List ℕ) (pend : List LogRecord) (n : ℕ) → AreWhole log → AllByRecursion IsAllowed pend → NoneNames pend → AllByRecursion (λ (r : LogRecord). r.tran ≤ c) pend → LogBelow c log → LogBelow c (log ++ take n (log_bytes pend))
  below_front law log pend n whole allowed none lows low start records last =
      let b : AreBehind log pend n start records = law log pend n start records whole allowed none last in
      subst (λ (z : List LogRecord). AllByRecursion Low z) (sym b.are) (all_both Low b.back b.front (low start b.back b.last) (front_all Low b.front b.rest (subst (λ (z : List LogRecord). AllByRecursion Low z) b.split lows)))

  -- all of them
  pub below_all : LastAreBehind → (log : List ℕ) (pend : List LogRecord) → AreWhole log → AllByRecursion IsAllowed pend → NoneNames pend → AllByRecursion (λ (r : LogRecord). r.tran ≤ c) pend → LogBelow c log → LogBelow c (log ++ log_bytes pend)
  below_all law log pend whole allowed none lows low =
      subst (λ (z : List ℕ). LogBelow c (log ++ z)) (take_all (length (log_bytes pend)) (log_bytes pend) (omega arith)) (below_front law log pend (length (log_bytes pend)) whole allowed none lows low)

  -- a rest that is none, or without it
  pub below_whole : LastWithRest → (whole rest : List ℕ) → AreWhole whole → IsRest rest → LogBelow c (whole ++ rest) → LogBelow c whole
  below_whole law whole rest are is_rest low start back last = low start back (law whole rest start back are is_rest last)

  pub below_rest : LastWithoutRest → (whole rest : List ℕ) → AreWhole whole → IsRest rest → LogBelow c whole → LogBelow c (whole ++ rest)
  below_rest law whole rest are is_rest low start back last = low start back (law whole rest start back are is_rest last)

-- ---- the transactions of a restart
go_trans : (xs ys : List RestartTran) → GoOn xs ys → trans_of ys ≡ trans_of xs
go_trans [] [] go = refl
go_trans [] (y ∷ ys) go = absurd go
go_trans (x ∷ xs) [] go = absurd go
go_trans (x ∷ xs) (y ∷ ys) go = λ i. go.0.0 i ∷ go_trans xs ys go.1 i

-- where it hands over, if it may
pub handed_below : (c : ℕ) (s : RestartState) (o : Option KeptBy) → ListedBelow c s.trans.list → ListedBelow c (adopted_as s o).trans.list
handed_below c s None low = low
handed_below c s (Some kept) low = by (may_adopt s)
  where
    by : (b : Bool) → ListedBelow c (if b then with_trans s no_trans else s).trans.list
    by true = tt
    by false = low

-- ---- an event of a restart
pub record Facts : Type 0 where
  pub last : LastAreBehind
  pub with_rest : LastWithRest
  pub without : LastWithoutRest
  pub nothing : NothingIsRest
  pub closes : ClosesTruly
  pub rests : RestsStay
  pub lists : ListsGo
  pub reads : ReadsStay
  pub opens : LogsLeaveBelow

never : true ≡ false → ⊥
never e = cc

pub course_below : Facts → CourseBelow
course_below facts log left w u v h k x a s n e ok has told l c low names = by c.goes
  where
    has_whole : HasLog u.drive h.marks.member (c.whole ++ c.rest)
    has_whole = subst (λ (z : List ℕ). HasLog u.drive h.marks.member z) c.is has

    reads : h.marks.own.is_read ≡ false → StillReads (c.whole ++ c.rest) u.drive h.marks
    reads unread =
        let same : l.bytes ≡ c.whole ++ c.rest = l.unread unread ∙ c.is in
        record {
          are = subst AreBytes same l.are;
          reads = subst (λ (z : List ℕ). ReadsTrue z h.marks) same l.reads;
          tells = λ _. record { contents = has_whole.contents; told = has_whole.told; log = has_whole.log };
        }

    low_here : LogBelow n (c.whole ++ c.rest)
    low_here = subst (LogBelow n) c.is low

    goes : ListGoes h.marks k.marks
    goes = facts.lists u v h k x a e l.stands

    went : h.marks.own.is_read ≡ true → ListedBelow n k.marks.trans.list
    went was = subst (λ (z : List OpenTran). AllByRecursion (λ (t : OpenTran). t.id ≤ n) z) (sym (go_trans h.marks.trans.list k.marks.trans.list (goes.read was))) names

    found : h.marks.own.is_read ≡ false → k.marks.own.is_read ≡ true → ListedBelow n k.marks.trans.list
    found unread now =
        let still : StillReads (c.whole ++ c.rest) v.drive k.marks = facts.reads (c.whole ++ c.rest) u v h k x a e ok l.stands (reads unread) in
        let last = still.reads.records now in
        subst (λ (z : List OpenTran). AllByRecursion (λ (t : OpenTran). t.id ≤ n) z) (sym (goes.reads unread now))
        (facts.opens n k.marks.own.records (low_here last.start k.marks.own.records (last_from (c.whole ++ c.rest) k.marks.own.records last)))

    listed : (b : Bool) → h.marks.own.is_read ≡ b → (d : Bool) → k.marks.own.is_read ≡ d → (k.marks.own.is_read ≡ false → k.marks.trans ≡ no_trans) → ListedBelow n k.marks.trans.list
    listed true was d now none = went was
    listed false was true now none = found was now
    listed false was false now none = subst (λ (t : TransState). ListedBelow n t.list) (sym (none now)) tt

    by : RestartOpen c.whole c.rest h.marks s ⊎ RestartHanded c.whole c.rest h.marks s → StillBelow n left k.marks.trans.list
    by (inl o) = record {
      log = subst (LogBelow n) (sym (one_log v.drive k.marks.member left ((c.whole ++ log_bytes still.more) ++ still.behind) told still.tells))
          (below_rest n facts.without (c.whole ++ log_bytes still.more) still.behind still.closes.whole still.closes.is_rest (more still.goes));
      names = listed h.marks.own.is_read refl k.marks.own.is_read refl (λ unread. (still.closes.unread unread).none);
    }
      where
        still : StillCloses c.whole c.rest o.pend v.drive k.marks
        still = facts.closes c.whole c.rest o.pend u v h k x a e ok l.stands reads has_whole o.closes

        whole : LogBelow n c.whole
        whole = below_whole n facts.with_rest c.whole c.rest o.closes.whole o.closes.is_rest low_here

        more : ((still.more ≡ []) × (still.left ≡ o.pend ++ still.new)) ⊎ ((still.more ≡ o.pend) × (still.left ≡ still.new)) → LogBelow n (c.whole ++ log_bytes still.more)
        more (inl none) = subst (λ (z : List LogRecord). LogBelow n (c.whole ++ log_bytes z)) (sym none.0) (subst (LogBelow n) (sym (append-nil c.whole)) whole)
        more (inr all) = subst (λ (z : List LogRecord). LogBelow n (c.whole ++ log_bytes z)) (sym all.0)
            (below_all n facts.last c.whole o.pend o.closes.whole o.closes.waits.allowed (none_names o.pend o.closes.waits.back) (o.closes.named n names) whole)
    by (inr o) = record {
      log = subst (LogBelow n) (sym (one_log v.drive k.marks.member left (c.whole ++ still.behind) told still.tells)) (below_rest n facts.without c.whole still.behind o.locked.whole (cut still.cut) (below_whole n facts.with_rest c.whole c.rest o.locked.whole o.is_rest low_here));
      names = subst (λ (t : TransState). ListedBelow n t.list) (sym still.rests.none) tt;
    }
      where
        still : StillRests c.whole c.rest v.drive k.marks
        still = facts.rests c.whole c.rest u v h k x a e ok has_whole o.rests

        cut : (still.behind ≡ c.rest) ⊎ (still.behind ≡ []) → IsRest still.behind
        cut (inl same) = subst IsRest (sym same) o.is_rest
        cut (inr none) = subst IsRest (sym none) facts.nothing

-- ---- wherever it stops
pub stops_below : LastAreBehind → LastWithRest → StopsBelow
stops_below law with_rest whole rest left n s own o low names (inl same) = subst (LogBelow n) (sym same) low
stops_below law with_rest whole rest left n s own o low names (inr stops) = subst (LogBelow n) (sym stops.2)
    (subst (λ (z : List ℕ). LogBelow n (whole ++ take stops.1 z)) (sym o.closes.waits.spelled)
    (below_front n law whole o.pend stops.1 o.closes.whole o.closes.waits.allowed (none_names o.pend o.closes.waits.back) (o.closes.named n names) (below_whole n with_rest whole rest o.closes.whole o.closes.is_rest low)))

pub rests_below : LastWithRest → HandedBelow
rests_below law whole rest n are is_rest low = below_whole n law whole rest are is_rest low
