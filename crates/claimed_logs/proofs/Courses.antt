-- The log on disk of a member that restarts, behind an event of its restart, and behind what this hands over.
use Rattle.std.proofs.Common.{◌≡◌, ℕ, refl, sym, ◌∙◌, ap, subst, Bool, true, false, inl, inr, List, [], ◌∷◌, ◌++◌, length, Option, Some, None}
use Rattle.std.specs.Prelude.{◌≢◌, ◌⊎◌, ◌==◌, ◌&&◌, if◌then◌else◌, is_some, map}
use Rattle.std.specs.List.{AllByRecursion}
use Rattle.std.proofs.lemmas.Bool.{and_parts, eqb-true, or_cases}
use Rattle.std.proofs.lemmas.List.{append-nil}
use Rattle.ds_disk.specs.Contents.{Contents, log_of}
use Rattle.ds_model.specs.RecordBytes.{log_bytes}
use Rattle.ds_model.specs.Rows.{Spot}
use Rattle.ds_model.specs.declared.log.LogRecord.{LogRecord}
use Rattle.log_appends.specs.Appends.{AreLastFrom}
use Rattle.log_appends.specs.Rests.{IsRest, NothingIsRest}
use Rattle.log_opens.specs.Opens.{has_opened}
use Rattle.log_reader.specs.Keeping.{AreBytes, AreWhole}
use Rattle.log_rows.specs.Rows.{has_changed, is_closed, touches}
use Rattle.log_trans.specs.declared.opened.OpenTran.{OpenTran}
use Rattle.member_intents.specs.declared.outcome.Answered.{Answered}
use Rattle.member_intents.specs.declared.outcome.Answered.TheVariants as answered
use Rattle.member_marks.specs.State.{MarksState}
use Rattle.member_resources.specs.Held.{Held}
use Rattle.restart_records.specs.declared.trans.RestartStage.TheVariants as stage
use Rattle.restart_records.specs.declared.trans.RestartTran.{RestartTran}
use Rattle.restart_records.specs.Trans.{TransState, no_trans, opened_among}
use Rattle.restart_marks.specs.declared.adopt.Adopted.{Adopted}
use Rattle.restart_marks.specs.declared.intent.RestartSent.{RestartSent}
use Rattle.restart_marks.specs.declared.marks.KeptBy.{KeptBy}
use Rattle.restart_marks.specs.Adopt.{adopted_after, adopted_as, adopted_by, adopted_told, may_adopt}
use Rattle.restart_marks.specs.State.{RestartState, with_trans}
use Rattle.restart_law.specs.Reads.{ReadsTrue, StillReads}
use Rattle.restart_claims.specs.Whole.{ClosesTruly}
use Rattle.restart_closing.specs.Closing.{HasLog, IsClosedIn, RestartCloses, StillCloses, TranCloses, trans_of}
use Rattle.restart_closing.specs.Resting.{HandedOver, HandsOver, Rests, RestsStay, StillRests}
use Rattle.restart_closing.proofs.Events.{no_rest}
use Rattle.restart_closing.proofs.Logs.{AreBack, no_changes, none_names}
use Rattle.restart_resources.specs.Calls.{Drive}
use Rattle.restart_resources.specs.Events as event
use Rattle.restart_resources.specs.Held as restart
use Rattle.lock_protocol.specs.Machine.{World as Locks}
use Rattle.lock_restarts.specs.Courses.{IsInOrder}
use Rattle.failed_logs.specs.Given.{AdoptsAll, AdoptsLeft, FreeHoldNothing, NoneInSlots, Restarting, Takes}
use Rattle.failed_logs.specs.Given.{LogLocked}
use Rattle.failed_logs.specs.Logs.{IdleTakesOver}
use Rattle.claimed_logs.specs.Courses.{LeavesNothing, RestartCourse, RestartHanded, RestartOpen, StandsAlike}
use Rattle.claimed_logs.specs.Logs.{RestartLogged}
use Rattle.claimed_logs.specs.Steps.{CourseEnds, CourseHands, CourseSteps, LockedAlike}
use Rattle.claimed_logs.proofs.Alike.{Facts as AlikeFacts, alike_more}
use Rattle.claimed_logs.proofs.Commits.{undone_last}
use Rattle.claimed_logs.proofs.Restarts.{kept_some, not_handed}

pub record Facts : Type 0 where
  pub alike : AlikeFacts
  pub nothing : NothingIsRest
  pub closes : ClosesTruly
  pub rests : RestsStay
  pub hands : HandsOver
  pub takes : IdleTakesOver

never : false ≡ true → ⊥
never e = cc

-- what a disk tells of a log is one thing
pub one_log : (drive : Drive) (member : ℕ) (a b : List ℕ) → HasLog drive member a → HasLog drive member b → a ≡ b
one_log drive member a b x y =
    let same : x.contents ≡ y.contents = let both : Some x.contents ≡ Some y.contents = sym x.told ∙ y.told in cc in
    sym x.log ∙ ap (λ (z : Contents). log_of z.logs member) same ∙ y.log

-- the member's own side of it alone changes
pub own_course : (log : List ℕ) (s : RestartState) (h k : MarksState) → ((x : List ℕ) → LogLocked x [] h → LogLocked x [] k) → RestartCourse log s h → RestartCourse log s k
own_course log s h k still c = record { whole = c.whole; rest = c.rest; is = c.is; alike = c.alike; goes = by c.goes }
  where
    by : RestartOpen c.whole c.rest s h ⊎ RestartHanded c.whole c.rest s h → RestartOpen c.whole c.rest s k ⊎ RestartHanded c.whole c.rest s k
    by (inl o) = inl (record { pend = o.pend; closes = o.closes; idle = still [] o.idle })
    by (inr o) = inr (record { is_rest = o.is_rest; rests = o.rests; locked = still c.whole o.locked })

-- ---- an event of the restart
none_changed : (records : List LogRecord) → AreBack records → (id : ℕ) (spot : Spot) → has_changed records id spot ≡ true → ⊥
none_changed records back id spot e = never (sym (no_changes records back id spot) ∙ e)

pub course_steps : Facts → CourseSteps
course_steps facts log left w u v h k x a s e ok has told l c = by c.goes
  where
    has_whole : HasLog u.drive h.marks.member (c.whole ++ c.rest)
    has_whole = subst (λ (z : List ℕ). HasLog u.drive h.marks.member z) c.is has

    reads : h.marks.own.is_read ≡ false → StillReads (c.whole ++ c.rest) u.drive h.marks
    reads unread =
        let same : l.bytes ≡ c.whole ++ c.rest = l.unread unread ∙ c.is in
        record {
          are = subst AreBytes same l.are;
          reads = subst (λ (z : List ℕ). ReadsTrue z h.marks) same l.reads;
          tells = λ _. record { contents = has_whole.contents; told = has_whole.told; log = has_whole.log };
        }

    by : RestartOpen c.whole c.rest h.marks s ⊎ RestartHanded c.whole c.rest h.marks s → RestartCourse left k.marks s
    by (inl o) = record {
      whole = c.whole ++ log_bytes still.more;
      rest = still.behind;
      is = one_log v.drive k.marks.member left ((c.whole ++ log_bytes still.more) ++ still.behind) told still.tells;
      alike = alike still.goes;
      goes = inl (record { pend = still.left; closes = still.closes; idle = o.idle });
    }
      where
        still : StillCloses c.whole c.rest o.pend v.drive k.marks
        still = facts.closes c.whole c.rest o.pend u v h k x a e ok l.stands reads has_whole o.closes

        alike : ((still.more ≡ []) × (still.left ≡ o.pend ++ still.new)) ⊎ ((still.more ≡ o.pend) × (still.left ≡ still.new)) → StandsAlike (c.whole ++ log_bytes still.more)
        alike (inl none) = subst (λ (z : List LogRecord). StandsAlike (c.whole ++ log_bytes z)) (sym none.0) (subst StandsAlike (sym (append-nil c.whole)) c.alike)
        alike (inr all) = subst (λ (z : List LogRecord). StandsAlike (c.whole ++ log_bytes z)) (sym all.0)
            (alike_more facts.alike c.whole o.pend o.closes.whole o.closes.waits.allowed (none_names o.pend o.closes.waits.back) (undone_last o.pend o.closes.waits.back)
            (λ start back last id spot some changed. absurd (none_changed o.pend o.closes.waits.back id spot changed)) c.alike)
    by (inr o) = record {
      whole = c.whole;
      rest = still.behind;
      is = one_log v.drive k.marks.member left (c.whole ++ still.behind) told still.tells;
      alike = c.alike;
      goes = inr (record { is_rest = cut still.cut; rests = still.rests; locked = o.locked });
    }
      where
        still : StillRests c.whole c.rest v.drive k.marks
        still = facts.rests c.whole c.rest u v h k x a e ok has_whole o.rests

        cut : (still.behind ≡ c.rest) ⊎ (still.behind ≡ []) → IsRest still.behind
        cut (inl same) = subst IsRest (sym same) o.is_rest
        cut (inr none) = subst IsRest (sym none) facts.nothing

-- ---- it hands over
same_some : (a b : Adopted) → Some a ≡ Some b → a ≡ b
same_some a b e = cc

never_some : (a : Adopted) → None ≡ Some a → ⊥
never_some a e = cc

adopted_if : (s : RestartState) (kept : KeptBy) (adopted : Adopted) (b : Bool) → (if b then Some (record { by = kept.by; trans = opened_among s.trans.list }) else None) ≡ Some adopted → adopted.trans ≡ opened_among s.trans.list
adopted_if s kept adopted true e = sym (ap (λ (z : Adopted). z.trans) (same_some (record { by = kept.by; trans = opened_among s.trans.list }) adopted e))
adopted_if s kept adopted false e = absurd (never_some adopted e)

-- all that it has left open
pub adopted_are : (s : RestartState) (o : Option KeptBy) (adopted : Adopted) → adopted_by s o ≡ Some adopted → adopted.trans ≡ opened_among s.trans.list
adopted_are s None adopted e = absurd (never_some adopted e)
adopted_are s (Some kept) adopted e = adopted_if s kept adopted (may_adopt s) e

handed_rests : (whole rest : List ℕ) (s : RestartState) (o : Option KeptBy) → Rests whole rest s → Rests whole rest (adopted_as s o)
handed_rests whole rest s None r = r
handed_rests whole rest s (Some kept) r = by (may_adopt s)
  where
    by : (b : Bool) → Rests whole rest (if b then with_trans s no_trans else s)
    by true = record { read = r.read; none = refl; idle = r.idle; tail = r.tail; long = r.long }
    by false = r

module _ (facts : Facts) (log : List ℕ) (s : RestartState) (h k : Held) (order : IsInOrder s) (free : FreeHoldNothing h.marks) (none : NoneInSlots h.marks) (c : RestartCourse log s h.marks) where
  handed : (o : Option Adopted) → adopted_told s ≡ o → AdoptsLeft o h k → RestartCourse log (adopted_after s) k.marks
  handed None told adopts =
      subst (λ (z : RestartState). RestartCourse log z k.marks) (sym (not_handed s s.kept (ap (λ (z : Option Adopted). is_some z) told)))
      (subst (λ (z : Held). RestartCourse log s z.marks) (sym adopts) c)
  handed (Some adopted) told adopts = record { whole = c.whole; rest = c.rest; is = c.is; alike = c.alike; goes = inr (by c.goes) }
    where
      read : s.own.is_read ≡ true
      read = order.kept (kept_some s s.kept (ap (λ (z : Option Adopted). is_some z) told))

      by : RestartOpen c.whole c.rest s h.marks ⊎ RestartHanded c.whole c.rest s h.marks → RestartHanded c.whole c.rest (adopted_after s) k.marks
      by (inl o) =
          let over : HandedOver c.whole c.rest s adopted = facts.hands c.whole c.rest o.pend s adopted read o.closes told in
          record { is_rest = o.closes.is_rest; rests = over.rests; locked = facts.takes c.whole h k adopted.by adopted.trans o.closes.whole o.idle free none adopts over.opens }
      by (inr o) = record { is_rest = o.is_rest; rests = handed_rests c.whole c.rest s s.kept o.rests; locked = subst (λ (z : Held). LogLocked c.whole [] z.marks) (sym nothing) o.locked }
        where
          nothing : k ≡ h
          nothing = subst (λ (z : List OpenTran). AdoptsAll h adopted.by z k) (adopted_are s s.kept adopted told ∙ ap (λ (z : TransState). opened_among z.list) o.rests.none) adopts

pub course_hands : Facts → CourseHands
course_hands facts log q rest adopted h k order free none (inl takes) adopts c =
    subst (λ (z : Restarting). RestartCourse log z.resources.marks k.marks) (sym takes.1)
    (subst (λ (z : Held). RestartCourse log q.resources.marks z.marks) (sym (subst (λ (z : Option Adopted). AdoptsLeft z h k) takes.0 adopts)) c)
course_hands facts log q rest adopted h k order free none (inr takes) adopts c =
    subst (λ (z : Restarting). RestartCourse log z.resources.marks k.marks) (sym takes.1)
    (handed facts log q.resources.marks h k order free none c (adopted_told q.resources.marks) refl (subst (λ (z : Option Adopted). AdoptsLeft z h k) takes.0 adopts))

-- ---- nothing is left of it
over_closed : (whole : List ℕ) (pend : List LogRecord) (id : ℕ) (spot : Spot) (xs : List RestartTran) → AllByRecursion (TranCloses whole pend) xs → AllByRecursion (λ (x : RestartTran). x.stage ≡ stage.Over) xs
    → has_opened (trans_of xs) id spot ≡ true → IsClosedIn whole id
over_closed whole pend id spot [] closes over e = absurd (never e)
over_closed whole pend id spot (x ∷ xs) closes over e = by (over_closed whole pend id spot xs closes.1 over.1) (or_cases ((x.tran.id == id) && touches x.tran spot) (has_opened (trans_of xs) id spot) e)
  where
    by : (has_opened (trans_of xs) id spot ≡ true → IsClosedIn whole id) → (((x.tran.id == id) && touches x.tran spot) ≡ true) ⊎ (has_opened (trans_of xs) id spot ≡ true) → IsClosedIn whole id
    by rest (inl m) = subst (IsClosedIn whole) (eqb-true x.tran.id id (and_parts (x.tran.id == id) (touches x.tran spot) m).0) (closes.0.over over.0)
    by rest (inr more) = rest more

pub course_ends : Facts → CourseEnds
course_ends facts log s h free none ends c = by c.goes
  where
    as_whole : (rest : List ℕ) → log ≡ c.whole ++ rest → rest ≡ [] → c.whole ≡ log
    as_whole rest is nothing = sym (is ∙ ap (λ (z : List ℕ). c.whole ++ z) nothing ∙ append-nil c.whole)

    at_log : c.whole ≡ log → LogLocked c.whole [] h.marks → LockedAlike log h.marks
    at_log same locked = record { locked = subst (λ (z : List ℕ). LogLocked z [] h.marks) same locked; alike = subst StandsAlike same c.alike }

    by : RestartOpen c.whole c.rest s h.marks ⊎ RestartHanded c.whole c.rest s h.marks → LockedAlike log h.marks
    by (inl o) = at_log (as_whole c.rest c.is (no_rest c.rest (sym (o.closes.read ends.read).tail ∙ ends.tail))) (facts.takes c.whole h h 0 [] o.closes.whole o.idle free none refl leaves)
      where
        leaves : (start : ℕ) (back : List LogRecord) → AreLastFrom c.whole start back → (id : ℕ) (spot : Spot) → id ≢ 0 → has_changed back id spot ≡ true → (is_closed back id ≡ true) ⊎ (has_opened [] id spot ≡ true)
        leaves start back last id spot some changed = closed ((o.closes.read ends.read).opens start back last id spot some changed)
          where
            closed : (is_closed back id ≡ true) ⊎ (has_opened (trans_of s.trans.list) id spot ≡ true) → (is_closed back id ≡ true) ⊎ (has_opened [] id spot ≡ true)
            closed (inl is) = inl is
            closed (inr opened) = inl (over_closed c.whole o.pend id spot s.trans.list o.closes.trans.list ends.over opened start back last)
    by (inr o) = at_log (as_whole c.rest c.is (no_rest c.rest (sym o.rests.tail ∙ ends.tail))) o.locked
