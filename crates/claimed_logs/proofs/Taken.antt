-- The logs of a group behind any event of it, by whose it is.
use Rattle.std.proofs.Common.{◌≡◌, ℕ, zero, suc, ◌+◌, ◌≤◌, ◌<◌, refl, sym, ◌∙◌, ap, subst, arith, Bool, true, false, inl, inr, List, [], ◌∷◌, ◌++◌, length, take, Option, Some, None, Ok}
use Rattle.std.specs.Prelude.{◌≢◌, ◌⊎◌, ◌-◌, ◌*◌, ◌/◌, ◌%◌, ◌==◌, ◌||◌, not, if◌then◌else◌, IfSome, IsSomeAnd, is_some, map, slice_get}
use Rattle.std.proofs.lemmas.Bool.{and_parts, cases_Bool, cases_eq, eqb-true}
use Rattle.std.specs.List.{AllByRecursion}
use Rattle.std.proofs.lemmas.List.{append-nil, take_at}
use Rattle.std.proofs.lemmas.Nat.{div-add-mod'}
use Rattle.std.proofs.lemmas.Option.{slice_get-map, slice_get_within}
use Rattle.ds_disk.specs.Contents.{Becomes, Contents, log_of}
use Rattle.ds_disk.specs.Logs.{LogsAreBytes}
use Rattle.ds_model.specs.declared.script.Phase.{Phase}
use Rattle.ds_model.specs.declared.script.Script.{Script}
use Rattle.cache_structure.specs.Directory.{Directory}
use Rattle.facility.specs.States.{Held as Facility, MemberFailed}
use Rattle.list_structure.specs.declared.standing.MemberStatus.{MemberStatus}
use Rattle.list_structure.specs.declared.standing.MemberStatus.TheVariants as status
use Rattle.list_structure.specs.Standings.{is_live, status_of}
use Rattle.lock_protocol.specs.Machine.{World}
use Rattle.member_intents.specs.declared.outcome.Sent.{Sent}
use Rattle.member_intents.specs.declared.outcome.Sent.TheVariants as sent
use Rattle.member_intents.specs.declared.outcome.Answered.{Answered}
use Rattle.member_intents.specs.declared.outcome.Answered.TheVariants as answered
use Rattle.ds_model.specs.declared.log.LogRecord.{LogRecord}
use Rattle.log_appends.specs.Rests.{IsRest, NothingIsRest}
use Rattle.member_resources.specs.Events.{World as Resources, world_of}
use Rattle.restart_records.specs.Trans.{TransState}
use Rattle.restart_records.specs.declared.trans.RestartStage.TheVariants as stage
use Rattle.restart_records.specs.declared.trans.RestartTran.{RestartTran}
use Rattle.restart_marks.specs.Needs.{need_of}
use Rattle.restart_marks.specs.declared.intent.RestartIntent.{RestartIntent}
use Rattle.restart_marks.specs.State.{RestartState}
use Rattle.restart_law.specs.Reads.{ReadsTrue}
use Rattle.restart_law.proofs.Truth.{FitsRead, fits_read}
use Rattle.restart_closing.specs.Closing.{HasLog, ListedBelow, RestartCloses}
use Rattle.restart_closing.specs.Leaving.{FailuresLeave, NoneIsLeft}
use Rattle.restart_closing.specs.Resting.{Rests}
use Rattle.restart_closing.proofs.Needs.{FitsSent, fits_sent}
use Rattle.restart_resources.specs.Events as event
use Rattle.script_phases.specs.declared.progress.Progress.{Progress}
use Rattle.script_phases.specs.Progresses.{has_groupfail, has_phase, own_choice}
use Rattle.failed_logs.specs.Given.{MemberPart}
use Rattle.failed_logs.specs.Given.{Restarting as RestartHeld}
use Rattle.failed_logs.specs.Given.{Stepped}
use Rattle.failed_logs.specs.Given.stepped_variants as steps
use Rattle.failed_logs.specs.Given.{as_restarting}
use Rattle.failed_logs.specs.Given.{Breaks, Comes, RestartSent, Restarts, Steps}
use Rattle.failed_logs.specs.Given.restart_sent_module as restart_sent
use Rattle.failed_logs.specs.Given.{Member, member_of}
use Rattle.failed_logs.specs.Given.{has_failed, is_fail, is_failure, is_over}
use Rattle.group_core.specs.Given.{PhaseBegins}
use Rattle.group_core.specs.Given.{GroupFails, fail_counted}
use Rattle.group_core.specs.Given.{ComesAt, member_at}
use Rattle.group_core.specs.Given.{is_ready_in}
use Rattle.group_core.specs.Given.{is_own, ready_for}
use Rattle.group_core.specs.Given.{CrewState, crew_state}
use Rattle.group_core.specs.declared.fault.RunFault.{RunFault}
use Rattle.group_core.specs.declared.fault.RunFault.TheVariants as fault
use Rattle.group_core.specs.declared.group.Group.{Group}
use Rattle.group_core.specs.Events.{takes}
use Rattle.group_core.specs.Takes.{BeginsOrNot, IsMade, TakesMember, TakesOwn}
use Rattle.group_logs.specs.Changes.{MembersGo}
use Rattle.group_logs.specs.Known.{BeginsKnow, DeadRest, EndHolds, EndsHold, IsSpared, IsSparedBy, MembersKnow, RestsAreUnknown, end_at}
use Rattle.log_reader.specs.Keeping.{AreWhole}
use Rattle.member_marks.specs.State.{MarksState}
use Rattle.group_logs.specs.Logs.{Appends, IsCut, IsNumbered, LogGoes, OneGoes, RestartGoes, buffer_of}
use Rattle.failed_logs.specs.Given.{HaveClaimed}
use Rattle.failed_logs.specs.Given.{AreBy, IsFor, Moves, OfGroup, OfMember, OfPhase, Whose}
use Rattle.failed_logs.specs.Given.{MemberStepsMoves, StepsAt}
use Rattle.failed_logs.specs.Given.{PhasesMove}
use Rattle.failed_logs.specs.Given.{RestartMoves, RestartStepsAt, RestartStepsMove}
use Rattle.failed_logs.specs.Given.{RestingMoves, RestingStepsAt, RestingStepsMove, is_restart}
use Rattle.failed_logs.specs.Given.{LocksTied, MemberStands, RestartInHand, RestartStands}
use Rattle.failed_logs.specs.Given.{FailsAt, GroupFailsTied}
use Rattle.claimed_logs.specs.Beginning.{PhasesLogged}
use Rattle.claimed_logs.specs.Courses.{RestartCourse, RestartHanded, RestartOpen}
use Rattle.claimed_logs.specs.Events.{RestartEventsLogged, RestingEventsLogged, UpEventsLogged}
use Rattle.claimed_logs.specs.Failing.{AnyBytes, HandedBelow, HandedFailsLogged, HasFront, LeftClaimed, MovesLogged, RestartFailsLogged, RestartsStop, StopsBelow, UpFailsLogged}
use Rattle.claimed_logs.specs.Found.{AdoptionsFound}
use Rattle.claimed_logs.specs.Logs.{GroupFailsLogged, LogBelow, LogsClaimed, LogsKnow, MemberLogged, RestartLogged}
use Rattle.claimed_logs.specs.Taken.{EventsKeep, LogsStand}
use Rattle.claimed_logs.proofs.Events.{within}
use Rattle.claimed_logs.proofs.Resting.{own_log}

pub record Facts : Type 0 where
  pub fails : GroupFailsTied
  pub phases : PhasesMove
  pub steps : MemberStepsMoves
  pub restarts : RestartStepsMove
  pub rests : RestingStepsMove
  pub logs : MembersGo
  pub found : AdoptionsFound
  pub know : LogsKnow
  pub group_fails : GroupFailsLogged
  pub phases_logged : PhasesLogged
  pub up : UpEventsLogged
  pub restart : RestartEventsLogged
  pub resting : RestingEventsLogged
  pub up_fails : UpFailsLogged
  pub restart_fails : RestartFailsLogged
  pub handed_fails : HandedFailsLogged
  pub stop : RestartsStop
  pub leave : FailuresLeave
  pub left : NoneIsLeft
  pub stops_below : StopsBelow
  pub rests_below : HandedBelow
  pub nothing : NothingIsRest
  pub begins : BeginsKnow
  pub members : MembersKnow
  pub unknown : RestsAreUnknown

never : true ≡ false → ⊥
never e = cc

-- where a restart counts no transaction as left, each is over
counts_left : NoneIsLeft → (log : List ℕ) (w : World) (x : Option RestartHeld) (own : MarksState) → IfSome x (λ q. RestartLogged log w q.resources.marks) → IfSome x (λ q. RestartCourse log q.resources.marks own)
    → IfSome x (λ q. q.resources.marks.trans.left ≡ 0 → AllByRecursion (λ (y : RestartTran). y.stage ≡ stage.Over) q.resources.marks.trans.list)
counts_left law log w None own l course = tt
counts_left law log w (Some q) own l course = λ none. by none course.goes
  where
    by : q.resources.marks.trans.left ≡ 0 → RestartOpen course.whole course.rest q.resources.marks own ⊎ RestartHanded course.whole course.rest q.resources.marks own → AllByRecursion (λ (y : RestartTran). y.stage ≡ stage.Over) q.resources.marks.trans.list
    by none (inl opened) = law course.whole course.rest opened.pend q.resources.marks opened.closes l.counts none
    by none (inr handed) = subst (λ (t : TransState). AllByRecursion (λ (y : RestartTran). y.stage ≡ stage.Over) t.list) (sym handed.rests.none) tt

-- moves, behind which the logs stand
abbrev Keeps : ℕ → CrewState → CrewState → World → Contents → Type 0
Keeps event old new w d = (by : Whose) × IsFor event by × (moves : Moves by old new w) × LogsStand d new moves.world

-- moves of these, and the logs behind them
record MovesKeep (by : Whose) (old new : CrewState) (w : World) (d : Contents) : Type 0 where
  moves : Moves by old new w
  logs : LogsClaimed d new moves.world

kept : (event : ℕ) (by : Whose) (old new : CrewState) (w : World) (d : Contents) → IsFor event by → MovesKeep by old new w d → EndsHold d new → Keeps event old new w d
kept event by old new w d is x ends = (by, is, x.moves, record { claimed = x.logs; ends = ends })

-- what is known stays, and so do the logs
ends_stay : (c d : Contents) (old new : CrewState) → new.known ≡ old.known → d ≡ c → EndsHold c old → EndsHold d new
ends_stay c d old new known same ends at few = subst (λ (z : List (List ℕ)). EndHolds (end_at (record old { known = z }) at) (log_of d.logs (at + 1))) (sym known)
    (subst (λ (z : Contents). EndHolds (end_at old at) (log_of z.logs (at + 1))) (sym same) (ends at few))

-- none of them is live that has no restart
dead_rest : (s : CrewState) (w : World) → LocksTied s w → DeadRest s
dead_rest s w t at = on (slice_get s.members at) (t.stands at)
  where
    on : (x : Option Member) → IfSome x (MemberStands s.facility (at + 1)) → IfSome x (λ (m : Member). (m.id ≡ at + 1) × (is_live (status_of s.facility.lists.statuses (at + 1)) ≡ false → m.restart ≡ None))
    on None h = tt
    on (Some m) h = (h.id, λ dead. (h.down dead).0)

-- a cut of a restart spares what is known
spared_by : RestsAreUnknown → (end : ℕ) (log : List ℕ) (s : RestartSent) (marks : RestartState) (own : MarksState) → FitsSent marks s → EndHolds end log → RestartCourse log marks own → IsSparedBy end s
spared_by law end log restart_sent.None marks own fits holds c = tt
spared_by law end log (restart_sent.Command x) marks own fits holds c = tt
spared_by law end log restart_sent.LogLength marks own fits holds c = tt
spared_by law end log (restart_sent.ReadLog at count) marks own fits holds c = tt
spared_by law end log restart_sent.AppendLog marks own fits holds c = tt
spared_by law end log (restart_sent.ReadPage page) marks own fits holds c = tt
spared_by law end log (restart_sent.CutLog long) marks own fits holds c = by c.goes
  where
    spared : AreWhole c.whole → IsRest c.rest → marks.own.long ≡ length c.whole → end ≤ long
    spared are rest same =
        let within : end ≤ length c.whole = law end c.whole c.rest are rest (subst (EndHolds end) c.is holds) in
        let is : long ≡ length c.whole = fits.2 ∙ same in
        omega (arith, within, is)

    by : RestartOpen c.whole c.rest marks own ⊎ RestartHanded c.whole c.rest marks own → end ≤ long
    by (inl o) = spared o.closes.whole o.closes.is_rest ((o.closes.read fits.0).long fits.1)
    by (inr o) = spared o.locked.whole o.is_rest (o.rests.long fits.1)

-- ---- no move
none_by : (by : Whose) → AreBy by []
none_by (OfMember m) = tt
none_by OfPhase = tt
none_by OfGroup = tt

abbrev stays : (by : Whose) (old new : CrewState) (w : World) → length new.facility.locks.entries ≡ length old.facility.locks.entries → LocksTied new w → Moves by old new w
stays by old new w entries t = record { entries = entries; moves = []; are = none_by by; world = w; run = refl; tied = t }

same_told : {D : Type 0} → (contents : D → Option Contents) (a b : D) (c d : Contents) → contents b ≡ contents a → contents a ≡ Some c → contents b ≡ Some d → d ≡ c
same_told {D} contents a b c d e told left = let both : Some d ≡ Some c = sym left ∙ e ∙ told in cc

-- ---- which events are the group's own
own_is : (choice : ℕ) (o : Option ℕ) (k : ℕ) → o ≡ Some k → is_own o choice ≡ true → choice ≡ k
own_is choice o k e is = let same : (k == choice) ≡ true = ap (λ (z : Option ℕ). is_own z choice) (sym e) ∙ is in sym (eqb-true k choice same)

own_choices : (p : Progress) (script : Script) (choice : ℕ) → is_own (own_choice false p script) choice ≡ true → (choice ≡ 0) ⊎ (choice ≡ 1)
own_choices p script choice e = by p.is_idle (has_groupfail p script) (has_phase p script) e
  where
    by : (a b c : Bool) → is_own (if a then (if b then Some 1 else (if c then Some 0 else None)) else None) choice ≡ true → (choice ≡ 0) ⊎ (choice ≡ 1)
    by true true c e = inr (own_is choice (Some 1) 1 refl e)
    by true false true e = inl (own_is choice (Some 0) 0 refl e)
    by true false false e = absurd (never (sym e))
    by false b c e = absurd (never (sym e))

own_number : (event choice : ℕ) → event % 64 ≡ 0 → event / 64 ≡ choice → event ≡ choice * 64
own_number event choice rest is =
    let whole : event / 64 * 64 + event % 64 ≡ event = div-add-mod' event 64 in
    let same : event / 64 * 64 ≡ choice * 64 = ap (λ z. z * 64) is in
    omega (arith, whole, same, rest)

no_restart_event : (event choice : ℕ) → event ≡ choice * 64 → (choice ≡ 0) ⊎ (choice ≡ 1) → event ≢ 128
no_restart_event event choice is (inl e) same = omega (arith, is, e, same)
no_restart_event event choice is (inr e) same = omega (arith, is, e, same)

-- ---- members by their places
some_at : {A : Type 0} → (xs ys : List A) → ((k : ℕ) → is_some (slice_get xs k) ≡ is_some (slice_get ys k)) → length xs ≡ length ys
some_at [] [] each = refl
some_at [] (y ∷ ys) each = absurd (never (sym (each 0)))
some_at (x ∷ xs) [] each = absurd (never (each 0))
some_at (x ∷ xs) (y ∷ ys) each = ap suc (some_at xs ys (λ k. each (suc k)))

live_cases : (s : MemberStatus) → is_live s ≡ true → (s ≡ status.Up) ⊎ (s ≡ status.Restarting)
live_cases status.Down e = absurd (never (sym e))
live_cases status.Up e = inl refl
live_cases status.Failed e = absurd (never (sym e))
live_cases status.Restarting e = inr refl

not_up : (s : MemberStatus) → s ≡ status.Restarting → s ≢ status.Up
not_up s a b = cc

unfailed : (b : Bool) → (b || false) ≡ false → b ≡ false
unfailed true e = e
unfailed false e = refl

unfailed_either : (b : Bool) → b ≡ false → (b || false) ≡ false
unfailed_either true e = e
unfailed_either false e = refl

unfailed_of : (stepped : Stepped) → is_over stepped ≡ false → has_failed stepped ≡ false
unfailed_of (steps.Sent s a) e = unfailed (is_failure a) e
unfailed_of (steps.Restart s a) e = unfailed (is_failure a) e
unfailed_of (steps.Rebuild s a) e = unfailed (is_failure a) e
unfailed_of steps.Failed e = refl

-- ---- what a failure leaves of the log of one that was up
own_front : (pending old new : List ℕ) → new ≡ old → (n : ℕ) × (new ≡ old ++ take n pending)
own_front pending old new e = (0, e ∙ sym (append-nil old))

front_of : (m : Member) (s : Sent) (a : Answered) (old new : List ℕ) → is_failure a ≡ true → LogGoes m (steps.Sent s a) old new → HasFront m old new
front_of m sent.None a old new e h = own_front m.holds.marks.log.pending old new h
front_of m (sent.Command c) a old new e h = own_front m.holds.marks.log.pending old new h
front_of m sent.AppendLog a old new e h = by (is_failure a) e h
  where
    by : (b : Bool) → b ≡ true → Appends m.holds.marks.log.pending b old new → HasFront m old new
    by true e h = (h.0, h.2)
    by false e h = absurd (never (sym e))
front_of m (sent.ReadPage page) a old new e h = own_front m.holds.marks.log.pending old new h
front_of m (sent.WritePage page) a old new e h = own_front m.holds.marks.log.pending old new h

failed_so : (b : Bool) → (b || false) ≡ true → b ≡ true
failed_so true e = refl
failed_so false e = e

one_as : (number : ℕ) (G H : List ℕ → List ℕ → Type 0) (c d : Contents) → ((old new : List ℕ) → G old new → H old new) → OneGoes number G c d → OneGoes number H c d
one_as number G H c d f g = record { count = g.count; others = g.others; own = λ there. f (log_of c.logs number) (log_of d.logs number) (g.own there) }

no_restart : (x : Option RestartHeld) (q : RestartHeld) → x ≡ None → x ≡ Some q → ⊥
no_restart x q none some = cc

same_restart : (x y : RestartHeld) → Some x ≡ Some y → x ≡ y
same_restart x y e = cc

-- a restart that hasn't read its log neither cuts it nor appends to it
restart_log : (s : RestartState) (i : RestartIntent) (x : RestartSent) (failed : Bool) (pending old new : List ℕ) → need_of s i ≡ Ok x → s.own.is_read ≡ false → s.log.pending ≡ [] → RestartGoes x pending failed old new → new ≡ old
restart_log s i x failed pending old new lawful unread idle h = by x (fits_read s i x lawful) h
  where
    by : (x : RestartSent) → FitsRead s x → RestartGoes x pending failed old new → new ≡ old
    by restart_sent.None fits h = h
    by (restart_sent.Command c) fits h = h
    by restart_sent.LogLength fits h = h
    by (restart_sent.ReadLog at count) fits h = h
    by (restart_sent.CutLog long) fits h = absurd (never (sym fits ∙ unread))
    by restart_sent.AppendLog fits h = absurd (never (sym (ap (λ (z : List ℕ). length z == 0) idle) ∙ fits))
    by (restart_sent.ReadPage page) fits h = h

is_failed : (a : Answered) → is_failure a ≡ true → a ≡ answered.Failed
is_failed answered.None e = absurd (never (sym e))
is_failed (answered.Reply reply) e = absurd (never (sym e))
is_failed answered.Done e = absurd (never (sym e))
is_failed answered.Failed e = refl

told_log : (v : Resources) (d : Contents) (member : ℕ) (bytes : List ℕ) → v.drive.contents ≡ Some d → HasLog (as_restarting v).drive member bytes → log_of d.logs member ≡ bytes
told_log v d member bytes left has =
    let same : d ≡ has.contents = let both : Some d ≡ Some has.contents = sym left ∙ has.told in cc in
    ap (λ (z : Contents). log_of z.logs member) same ∙ has.log

-- it has failed in a call of its restart, which has read its log
fails_leave : FailuresLeave → (u v : Resources) (before reached q : RestartHeld) (s : RestartSent) (a : Answered) (d : Contents) (whole rest : List ℕ) (pend : List LogRecord) → before ≡ q → is_failure a ≡ true
    → event.Happens (as_restarting u) before.resources s a (as_restarting (record v { facility = u.facility })) reached.resources → HasLog (as_restarting u).drive q.resources.marks.member (whole ++ rest)
    → RestartCloses whole rest pend q.resources.marks → q.resources.marks.own.is_read ≡ true → v.drive.contents ≡ Some d
    → (log_of d.logs q.resources.marks.member ≡ whole ++ rest) ⊎ ((q.resources.marks.own.is_read ≡ true) × (n : ℕ) × (log_of d.logs q.resources.marks.member ≡ whole ++ take n q.resources.marks.log.pending))
fails_leave law u v before reached q s a d whole rest pend same failed happens has closes read left = by
    (law whole rest pend (as_restarting u) (as_restarting now) q.resources reached.resources s
    (subst (λ (z : Answered). event.Happens (as_restarting u) q.resources s z (as_restarting now) reached.resources) (is_failed a failed)
    (subst (λ (z : RestartHeld). event.Happens (as_restarting u) z.resources s a (as_restarting now) reached.resources) same happens)) has closes)
  where
    now : Resources
    now = record v { facility = u.facility }

    by : HasLog (as_restarting now).drive q.resources.marks.member (whole ++ rest) ⊎ ((n : ℕ) × HasLog (as_restarting now).drive q.resources.marks.member (whole ++ take n q.resources.marks.log.pending))
        → (log_of d.logs q.resources.marks.member ≡ whole ++ rest) ⊎ ((q.resources.marks.own.is_read ≡ true) × (n : ℕ) × (log_of d.logs q.resources.marks.member ≡ whole ++ take n q.resources.marks.log.pending))
    by (inl x) = inl (told_log now d q.resources.marks.member (whole ++ rest) left x)
    by (inr (n, x)) = inr (read, n, told_log now d q.resources.marks.member (whole ++ take n q.resources.marks.log.pending) left x)

-- one that has handed over has cut off the rest, or has left the log as it was
cut_left : (long : ℕ) (failed : Bool) (x y whole rest : List ℕ) → x ≡ whole ++ rest → length whole ≡ long → IsCut long failed x y → (y ≡ whole ++ rest) ⊎ (y ≡ whole)
cut_left long false x y whole rest is same e = inr (e ∙ ap (λ (z : List ℕ). take long z) is ∙ take_at whole rest long same)
cut_left long true x y whole rest is same (inl e) = inl (e ∙ is)
cut_left long true x y whole rest is same (inr e) = inr (e ∙ ap (λ (z : List ℕ). take long z) is ∙ take_at whole rest long same)

handed_left : (s : RestartSent) (marks : RestartState) (failed : Bool) (pending x y whole rest : List ℕ) → FitsSent marks s → Rests whole rest marks → x ≡ whole ++ rest → RestartGoes s pending failed x y → (y ≡ whole ++ rest) ⊎ (y ≡ whole)
handed_left restart_sent.None marks failed pending x y whole rest fits r is h = inl (h ∙ is)
handed_left (restart_sent.Command c) marks failed pending x y whole rest fits r is h = inl (h ∙ is)
handed_left restart_sent.LogLength marks failed pending x y whole rest fits r is h = inl (h ∙ is)
handed_left (restart_sent.ReadLog at count) marks failed pending x y whole rest fits r is h = inl (h ∙ is)
handed_left (restart_sent.CutLog long) marks failed pending x y whole rest fits r is h = cut_left long failed x y whole rest is (sym (fits.2 ∙ r.long fits.1)) h
handed_left restart_sent.AppendLog marks failed pending x y whole rest fits r is h = absurd (never (sym (ap (λ (z : List ℕ). length z == 0) r.idle) ∙ fits.0))
handed_left (restart_sent.ReadPage page) marks failed pending x y whole rest fits r is h = inl (h ∙ is)

-- ---- the event of a member
record At (old new : CrewState) (at : ℕ) (m n : Member) : Type 0 where
  pub had : slice_get old.members at ≡ Some m
  pub has : slice_get new.members at ≡ Some n
  pub count : length new.members ≡ length old.members
  pub others : (k : ℕ) → k ≢ at → slice_get new.members k ≡ slice_get old.members k
  pub sizes : new.sizes ≡ old.sizes

module _ (facts : Facts) (old new : CrewState) (w : World) (c d : Contents) (t : LocksTied old w) (l : LogsClaimed c old w) (ends : EndsHold c old) (at : ℕ) (m n : Member) (here : At old new at m n) (u v : Resources) (place : ℕ)
    (told : u.drive.contents ≡ Some c) (left : v.drive.contents ≡ Some d) (f : u ≡ record { facility = old.facility; drive = u.drive }) (g : v ≡ record { facility = new.facility; drive = v.drive }) where
  stood : MemberStands old.facility (at + 1) m
  stood = subst (λ (z : Option Member). IfSome z (MemberStands old.facility (at + 1))) here.had (t.stands at)

  there : status_of old.facility.lists.statuses m.id ≡ status_of old.facility.lists.statuses (at + 1)
  there = ap (λ (z : ℕ). status_of old.facility.lists.statuses z) stood.id

  logged : MemberLogged old.facility w (at + 1) (log_of c.logs (at + 1)) m
  logged = subst (λ (z : Option Member). IfSome z (MemberLogged old.facility w (at + 1) (log_of c.logs (at + 1)))) here.had (l.each at)

  -- ---- it goes on
  made_as : (stepped : Stepped) → Steps m u old.fates place stepped n v new.fates
      → Steps m (record { facility = old.facility; drive = u.drive }) old.fates place stepped n (record { facility = new.facility; drive = v.drive }) new.fates
  made_as stepped made = subst (λ (z : Resources). Steps m z old.fates place stepped n (record { facility = new.facility; drive = v.drive }) new.fates) f (subst (λ (z : Resources). Steps m u old.fates place stepped n z new.fates) g made)

  up_goes : (stepped : Stepped) → status_of old.facility.lists.statuses m.id ≡ status.Up → is_over stepped ≡ false → Steps m u old.fates place stepped n v new.fates → MovesLogged d old new w m
  up_goes stepped up over made = record { moves = moves; logs = facts.up c d old new at m n w t steps_at (unfailed_of stepped over) told left moves l }
    where
      steps_at : StepsAt old new at m n
      steps_at = record {
        had = here.had;
        has = here.has;
        count = here.count;
        others = here.others;
        sizes = here.sizes;
        up = up;
        drive = u.drive;
        left = v.drive;
        place = place;
        stepped = stepped;
        steps = made_as stepped made;
      }

      moves : Moves (OfMember m.id) old new w
      moves = facts.steps old new at m n w t steps_at

  rests_at : (stepped : Stepped) → status_of old.facility.lists.statuses m.id ≡ status.Restarting → is_over stepped ≡ false → is_restart stepped ≡ false → Steps m u old.fates place stepped n v new.fates → MovesLogged d old new w m
  rests_at stepped standing over other made = record {
    moves = moves.moves;
    logs = facts.resting c d old new at m n w t steps_at (unfailed_of stepped over) told left moves l;
  }
    where
      steps_at : RestingStepsAt old new at m n
      steps_at = record {
        had = here.had;
        has = here.has;
        count = here.count;
        others = here.others;
        sizes = here.sizes;
        restarting = standing;
        drive = u.drive;
        left = v.drive;
        place = place;
        stepped = stepped;
        other = other;
        made = made_as stepped made;
      }

      moves : RestingMoves old new w m n
      moves = facts.rests old new at m n w t steps_at

  restart_goes : (stepped : Stepped) → status_of old.facility.lists.statuses m.id ≡ status.Restarting → is_over stepped ≡ false → Steps m u old.fates place stepped n v new.fates → MovesLogged d old new w m
  restart_goes (steps.Restart s a) standing over made = record { moves = moves.moves; logs = facts.restart c d old new at m n w t steps_at told left moves (counts_left facts.left (log_of c.logs (at + 1)) w m.restart m.holds.marks logged.restarts logged.course) l }
    where
      whole : Steps m (record { facility = old.facility; drive = u.drive }) old.fates place (steps.Restart s a) n (record { facility = new.facility; drive = v.drive }) new.fates
      whole = made_as (steps.Restart s a) made

      steps_at : RestartStepsAt old new at m n w
      steps_at = record {
        had = here.had;
        has = here.has;
        count = here.count;
        others = here.others;
        sizes = here.sizes;
        restarting = standing;
        drive = u.drive;
        left = v.drive;
        place = place;
        sent = s;
        answered = a;
        unfailed = unfailed (is_failure a) over;
        made = whole;
        opened = facts.found old new w t (facts.know c old w l) at m n u.drive v.drive place s a here.had whole;
      }

      moves : RestartMoves old new w m n s
      moves = facts.restarts old new at m n w t steps_at
  restart_goes (steps.Sent s a) standing over made = rests_at (steps.Sent s a) standing over refl made
  restart_goes (steps.Rebuild s a) standing over made = rests_at (steps.Rebuild s a) standing over refl made
  restart_goes steps.Failed standing over made = absurd (never over)

  -- ---- it fails
  fails_at : (script : Script) (begun choice : ℕ) (stepped : Stepped) → Comes script begun old.sizes choice m u old.fates place stepped n v new.fates → is_over stepped ≡ true → FailsAt old new at m n
  fails_at script begun choice stepped e over = record {
    had = here.had;
    has = here.has;
    count = here.count;
    others = here.others;
    same = e.same;
    down = e.down over;
    failed = subst (λ (z : Facility). MemberFailed z m.id new.facility) (ap (λ (z : Resources). z.facility) f) (subst (λ (z : Facility). MemberFailed u.facility m.id z) (ap (λ (z : Resources). z.facility) g) (e.fails over));
    sizes = here.sizes;
  }

  -- of its log so much is there then
  goes : (script : Script) (begun choice : ℕ) (stepped : Stepped) → Comes script begun old.sizes choice m u old.fates place stepped n v new.fates → IsNumbered (at + 1) m → OneGoes (at + 1) (LogGoes m stepped) c d
  goes script begun choice stepped e numbered =
      subst (λ (z : Option Contents). Becomes (Some c) z (OneGoes (at + 1) (LogGoes m stepped))) left
      (subst (λ (z : Option Contents). Becomes z v.drive.contents (OneGoes (at + 1) (LogGoes m stepped))) told (facts.logs script begun old.sizes choice (at + 1) m n u v old.fates new.fates place stepped e (omega arith) numbered))

  up_front : (script : Script) (begun choice : ℕ) (stepped : Stepped) → Comes script begun old.sizes choice m u old.fates place stepped n v new.fates → is_over stepped ≡ true → m.restart ≡ None → (x y : List ℕ) → LogGoes m stepped x y → HasFront m x y
  up_front script begun choice (steps.Sent s a) e over rests x y h = front_of m s a x y (failed_so (is_failure a) over) h
  up_front script begun choice (steps.Restart s a) e over rests x y h =
      let broken : Breaks m u place (steps.Restart s a) (record v { facility = u.facility }) = e.breaks (failed_so (is_failure a) over) in
      absurd (no_restart m.restart broken.makes.makes.before rests broken.makes.makes.had)
  up_front script begun choice (steps.Rebuild s a) e over rests x y h = own_front m.holds.marks.log.pending x y h
  up_front script begun choice steps.Failed e over rests x y h = own_front m.holds.marks.log.pending x y h

  up_fails : (script : Script) (begun choice : ℕ) (stepped : Stepped) → Comes script begun old.sizes choice m u old.fates place stepped n v new.fates → is_over stepped ≡ true → status_of old.facility.lists.statuses m.id ≡ status.Up → MovesLogged d old new w m
  up_fails script begun choice stepped e over up = facts.up_fails c d old new at m n w t (fails_at script begun choice stepped e over) up
      (one_as (at + 1) (LogGoes m stepped) (HasFront m) c d (up_front script begun choice stepped e over rests) (goes script begun choice stepped e numbered)) l
    where
      rests : m.restart ≡ None
      rests = stood.up (sym there ∙ up)

      numbered : IsNumbered (at + 1) m
      numbered = record { own = stood.member; restart = subst (λ (z : Option RestartHeld). IfSome z (λ q. q.resources.marks.member ≡ at + 1)) (sym rests) tt }

  restart_numbered : (q : RestartHeld) → m.restart ≡ Some q → IsNumbered (at + 1) m
  restart_numbered q is =
      let standing : RestartStands (at + 1) m q.resources.marks = subst (λ (z : Option RestartHeld). RestartInHand (at + 1) m z) is stood.restart in
      record { own = stood.member; restart = subst (λ (z : Option RestartHeld). IfSome z (λ x. x.resources.marks.member ≡ at + 1)) (sym is) standing.member }

  -- what befell its log
  log_goes : (script : Script) (begun choice : ℕ) (stepped : Stepped) → Comes script begun old.sizes choice m u old.fates place stepped n v new.fates → (q : RestartHeld) → m.restart ≡ Some q → LogGoes m stepped (log_of c.logs (at + 1)) (log_of d.logs (at + 1))
  log_goes script begun choice stepped e q is = (goes script begun choice stepped e (restart_numbered q is)).own (within old.members at m c.logs here.had l.there)

  -- as it fails that hasn't handed over
  stops_at : (script : Script) (begun choice : ℕ) (stepped : Stepped) → Comes script begun old.sizes choice m u old.fates place stepped n v new.fates → is_over stepped ≡ true → (q : RestartHeld) → m.restart ≡ Some q
      → (whole rest : List ℕ) → log_of c.logs (at + 1) ≡ whole ++ rest → ReadsTrue (log_of c.logs (at + 1)) q.resources.marks ⊎ (q.resources.marks.own.is_read ≡ true) → RestartOpen whole rest q.resources.marks m.holds.marks
      → (log_of d.logs (at + 1) ≡ whole ++ rest) ⊎ ((q.resources.marks.own.is_read ≡ true) × (k : ℕ) × (log_of d.logs (at + 1) ≡ whole ++ take k q.resources.marks.log.pending))
  stops_at script begun choice (steps.Sent s a) e over q is whole rest at_whole reads o =
      inl (own_log s m.holds.marks.log.pending (log_of c.logs (at + 1)) (log_of d.logs (at + 1)) (is_failure a) o.idle.spelled (log_goes script begun choice (steps.Sent s a) e q is) ∙ at_whole)
  stops_at script begun choice (steps.Rebuild s a) e over q is whole rest at_whole reads o = inl (log_goes script begun choice (steps.Rebuild s a) e q is ∙ at_whole)
  stops_at script begun choice steps.Failed e over q is whole rest at_whole reads o = inl (log_goes script begun choice steps.Failed e q is ∙ at_whole)
  stops_at script begun choice (steps.Restart s a) e over q is whole rest at_whole reads o = by reads
    where
      standing : RestartStands (at + 1) m q.resources.marks
      standing = subst (λ (z : Option RestartHeld). RestartInHand (at + 1) m z) is stood.restart

      broken : Breaks m u place (steps.Restart s a) (record v { facility = u.facility })
      broken = e.breaks (failed_so (is_failure a) over)

      same : broken.makes.makes.before ≡ q
      same = same_restart broken.makes.makes.before q (sym broken.makes.makes.had ∙ is)

      has : HasLog (as_restarting u).drive q.resources.marks.member (whole ++ rest)
      has = subst (λ (k : ℕ). HasLog (as_restarting u).drive k (whole ++ rest)) (sym standing.member) (record { contents = c; told = told; there = within old.members at m c.logs here.had l.there; log = at_whole })

      -- once the log is read
      on_disk : q.resources.marks.own.is_read ≡ true → (log_of d.logs (at + 1) ≡ whole ++ rest) ⊎ ((q.resources.marks.own.is_read ≡ true) × (k : ℕ) × (log_of d.logs (at + 1) ≡ whole ++ take k q.resources.marks.log.pending))
      on_disk read = subst (λ (k : ℕ). (log_of d.logs k ≡ whole ++ rest) ⊎ ((q.resources.marks.own.is_read ≡ true) × (j : ℕ) × (log_of d.logs k ≡ whole ++ take j q.resources.marks.log.pending))) standing.member
          (fails_leave facts.leave u v broken.makes.makes.before broken.makes.reached q s a d whole rest o.pend same (failed_so (is_failure a) over) broken.makes.makes.happens has o.closes read left)

      by : ReadsTrue (log_of c.logs (at + 1)) q.resources.marks ⊎ (q.resources.marks.own.is_read ≡ true) → (log_of d.logs (at + 1) ≡ whole ++ rest) ⊎ ((q.resources.marks.own.is_read ≡ true) × (k : ℕ) × (log_of d.logs (at + 1) ≡ whole ++ take k q.resources.marks.log.pending))
      by (inr read) = on_disk read
      by (inl true_so) = elim (cases_Bool q.resources.marks.own.is_read) [
        | inl read ↦ on_disk read
        | inr unread ↦ inl (restart_log broken.makes.makes.before.resources.marks broken.makes.makes.happens.intent s (is_failure a) (buffer_of m.restart) (log_of c.logs (at + 1)) (log_of d.logs (at + 1)) broken.makes.makes.happens.lawful
            (ap (λ (z : RestartHeld). z.resources.marks.own.is_read) same ∙ unread) (ap (λ (z : RestartHeld). z.resources.marks.log.pending) same ∙ true_so.idle unread) (log_goes script begun choice (steps.Restart s a) e q is) ∙ at_whole)
      ]

  -- and that has
  left_at : (script : Script) (begun choice : ℕ) (stepped : Stepped) → Comes script begun old.sizes choice m u old.fates place stepped n v new.fates → is_over stepped ≡ true → (q : RestartHeld) → m.restart ≡ Some q
      → (whole rest : List ℕ) → log_of c.logs (at + 1) ≡ whole ++ rest → RestartHanded whole rest q.resources.marks m.holds.marks → (log_of d.logs (at + 1) ≡ whole ++ rest) ⊎ (log_of d.logs (at + 1) ≡ whole)
  left_at script begun choice (steps.Sent s a) e over q is whole rest at_whole o =
      inl (own_log s m.holds.marks.log.pending (log_of c.logs (at + 1)) (log_of d.logs (at + 1)) (is_failure a) o.locked.spelled (log_goes script begun choice (steps.Sent s a) e q is) ∙ at_whole)
  left_at script begun choice (steps.Rebuild s a) e over q is whole rest at_whole o = inl (log_goes script begun choice (steps.Rebuild s a) e q is ∙ at_whole)
  left_at script begun choice steps.Failed e over q is whole rest at_whole o = inl (log_goes script begun choice steps.Failed e q is ∙ at_whole)
  left_at script begun choice (steps.Restart s a) e over q is whole rest at_whole o =
      let broken : Breaks m u place (steps.Restart s a) (record v { facility = u.facility }) = e.breaks (failed_so (is_failure a) over) in
      let same : broken.makes.makes.before ≡ q = same_restart broken.makes.makes.before q (sym broken.makes.makes.had ∙ is) in
      handed_left s q.resources.marks (is_failure a) (buffer_of m.restart) (log_of c.logs (at + 1)) (log_of d.logs (at + 1)) whole rest
      (subst (λ (z : RestartHeld). FitsSent z.resources.marks s) same (fits_sent broken.makes.makes.before.resources.marks broken.makes.makes.happens.intent s broken.makes.makes.happens.lawful))
      o.rests at_whole (log_goes script begun choice (steps.Restart s a) e q is)

  restart_fails : (script : Script) (begun choice : ℕ) (stepped : Stepped) → Comes script begun old.sizes choice m u old.fates place stepped n v new.fates → is_over stepped ≡ true → status_of old.facility.lists.statuses m.id ≡ status.Restarting
      → (x : Option RestartHeld) → m.restart ≡ x → MovesLogged d old new w m
  restart_fails script begun choice stepped e over standing None is = absurd (never (sym (stood.restarts (sym there ∙ standing)) ∙ ap (λ (z : Option RestartHeld). is_some z) is))
  restart_fails script begun choice stepped e over standing (Some q) is = by course.goes
    where
      stands : RestartStands (at + 1) m q.resources.marks
      stands = subst (λ (z : Option RestartHeld). RestartInHand (at + 1) m z) is stood.restart

      has : RestartLogged (log_of c.logs (at + 1)) w q.resources.marks
      has = subst (λ (z : Option RestartHeld). IfSome z (λ x. RestartLogged (log_of c.logs (at + 1)) w x.resources.marks)) is logged.restarts

      course : RestartCourse (log_of c.logs (at + 1)) q.resources.marks m.holds.marks
      course = subst (λ (z : Option RestartHeld). IfSome z (λ x. RestartCourse (log_of c.logs (at + 1)) x.resources.marks m.holds.marks)) is logged.course

      fails : FailsAt old new at m n
      fails = fails_at script begun choice stepped e over

      any : OneGoes (at + 1) AnyBytes c d
      any = one_as (at + 1) (LogGoes m stepped) AnyBytes c d (λ x y h. tt) (goes script begun choice stepped e (restart_numbered q is))

      down : status_of old.facility.lists.statuses m.id ≢ status.Up
      down = not_up (status_of old.facility.lists.statuses m.id) standing

      reads : (b : Bool) → q.resources.marks.own.is_read ≡ b → ReadsTrue (log_of c.logs (at + 1)) q.resources.marks ⊎ (q.resources.marks.own.is_read ≡ true)
      reads true read = inr read
      reads false unread = inl (subst (λ (z : List ℕ). ReadsTrue z q.resources.marks) (has.unread unread) has.reads)

      handed : (x : List ℕ) → IsRest x → log_of d.logs (at + 1) ≡ course.whole ++ x → RestartHanded course.whole course.rest q.resources.marks m.holds.marks → LogBelow old.facility.counter (log_of d.logs (at + 1)) → MovesLogged d old new w m
      handed x is_rest at_d o low = facts.handed_fails c d old new at m n w course.whole x t fails down any at_d is_rest course.alike o.locked low l

      low_here : LogBelow old.facility.counter (course.whole ++ course.rest)
      low_here = subst (LogBelow old.facility.counter) course.is logged.below

      names : ListedBelow old.facility.counter q.resources.marks.trans.list
      names = subst (λ (z : Option RestartHeld). IfSome z (λ x. ListedBelow old.facility.counter x.resources.marks.trans.list)) is logged.names

      by : RestartOpen course.whole course.rest q.resources.marks m.holds.marks ⊎ RestartHanded course.whole course.rest q.resources.marks m.holds.marks → MovesLogged d old new w m
      by (inl o) = facts.restart_fails c d old new at m n w t fails down any
          (subst (λ (k : ℕ). LeftClaimed (log_of d.logs (at + 1)) w k) (stands.member ∙ sym stood.id)
          (facts.stop course.whole course.rest (log_of d.logs (at + 1)) w q.resources.marks m.holds.marks (subst (λ (z : List ℕ). RestartLogged z w q.resources.marks) course.is has) stands.on course.alike o
          (stops_at script begun choice stepped e over q is course.whole course.rest course.is (reads q.resources.marks.own.is_read refl) o)))
          (facts.stops_below course.whole course.rest (log_of d.logs (at + 1)) old.facility.counter q.resources.marks m.holds.marks o low_here names (stops_at script begun choice stepped e over q is course.whole course.rest course.is (reads q.resources.marks.own.is_read refl) o)) l
      by (inr o) = elim (left_at script begun choice stepped e over q is course.whole course.rest course.is o) [
        | inl at_d ↦ handed course.rest o.is_rest at_d o (subst (LogBelow old.facility.counter) (sym at_d) low_here)
        | inr at_d ↦ handed [] facts.nothing (at_d ∙ sym (append-nil course.whole)) o (subst (LogBelow old.facility.counter) (sym at_d) (facts.rests_below course.whole course.rest old.facility.counter o.locked.whole o.is_rest low_here))
      ]

  -- ---- what is known of the logs
  numbered : IsNumbered (at + 1) m
  numbered = record { own = stood.member; restart = by m.restart stood.restart }
    where
      by : (x : Option RestartHeld) → RestartInHand (at + 1) m x → IfSome x (λ q. q.resources.marks.member ≡ at + 1)
      by None h = tt
      by (Some q) h = h.member

  few : at < 32
  few = let there : at < length old.members = slice_get_within old.members at m here.had in
      let count = t.count in
      let most = t.few in
      omega (arith, there, count, most)

  restart_spares : (s : RestartSent) (before : RestartHeld) → m.restart ≡ Some before → FitsSent before.resources.marks s → IsSparedBy (end_at old at) s
  restart_spares s before is fits = spared_by facts.unknown (end_at old at) (log_of c.logs (at + 1)) s before.resources.marks m.holds.marks fits (ends at few)
      (subst (λ (z : Option RestartHeld). IfSome z (λ x. RestartCourse (log_of c.logs (at + 1)) x.resources.marks m.holds.marks)) is logged.course)

  spares : (script : Script) (begun choice : ℕ) (stepped : Stepped) → Comes script begun old.sizes choice m u old.fates place stepped n v new.fates → IsSpared (end_at old at) stepped
  spares script begun choice (steps.Sent s a) e = tt
  spares script begun choice (steps.Rebuild s a) e = tt
  spares script begun choice steps.Failed e = tt
  spares script begun choice (steps.Restart s a) e = elim (cases_Bool (is_failure a)) [
    | inl failed ↦ (
        let broken : Breaks m u place (steps.Restart s a) (record v { facility = u.facility }) = e.breaks failed in
        restart_spares s broken.makes.makes.before broken.makes.makes.had (fits_sent broken.makes.makes.before.resources.marks broken.makes.makes.happens.intent s broken.makes.makes.happens.lawful))
    | inr well ↦ (
        let made : Steps m u old.fates place (steps.Restart s a) n v new.fates = e.steps (unfailed_either (is_failure a) well) in
        restart_spares s made.makes.makes.before made.makes.makes.had (fits_sent made.makes.makes.before.resources.marks made.makes.makes.happens.intent s made.makes.makes.happens.lawful))
  ]

  ends_go : new.known ≡ old.known → (script : Script) (begun choice : ℕ) (stepped : Stepped) → Comes script begun old.sizes choice m u old.fates place stepped n v new.fates → EndsHold d new
  ends_go known script begun choice stepped e = facts.members c d old new at m stepped ends known (goes script begun choice stepped e numbered) (spares script begun choice stepped e)

  comes : (script : Script) (begun choice : ℕ) (stepped : Stepped) → Comes script begun old.sizes choice m u old.fates place stepped n v new.fates → MovesLogged d old new w m
  comes script begun choice stepped e = elim (cases_Bool (is_over stepped)) [
    | inr on ↦ goes_by on (live_cases (status_of old.facility.lists.statuses m.id) live)
    | inl over ↦ fails_by over (live_cases (status_of old.facility.lists.statuses m.id) live)
  ]
    where
      live : is_live (status_of old.facility.lists.statuses m.id) ≡ true
      live = subst (λ (z : Facility). is_live (status_of z.lists.statuses m.id) ≡ true) (ap (λ (z : Resources). z.facility) f) e.live

      goes_by : is_over stepped ≡ false → (status_of old.facility.lists.statuses m.id ≡ status.Up) ⊎ (status_of old.facility.lists.statuses m.id ≡ status.Restarting) → MovesLogged d old new w m
      goes_by on (inl up) = up_goes stepped up on (e.steps on)
      goes_by on (inr standing) = restart_goes stepped standing on (e.steps on)

      fails_by : is_over stepped ≡ true → (status_of old.facility.lists.statuses m.id ≡ status.Up) ⊎ (status_of old.facility.lists.statuses m.id ≡ status.Restarting) → MovesLogged d old new w m
      fails_by over (inl up) = up_fails script begun choice stepped e over up
      fails_by over (inr standing) = restart_fails script begun choice stepped e over standing m.restart refl

above_zero : (n : ℕ) → n ≢ 0 → 1 ≤ n
above_zero zero ne = absurd (ne refl)
above_zero (suc n) ne = omega arith

-- ---- any event
pub events_keep : {C D : Type 0} → (P : Type 0) (directory : C → Directory) (alive : D → Bool) (contents : D → Option Contents) (count : D → ℕ) → ((disk : D) (c : Contents) → contents disk ≡ Some c → LogsAreBytes c.logs) → Facts → EventsKeep P directory alive contents count
events_keep {C} {D} P directory alive contents count bytes facts old new event w c d taken lawful no_group told left t stand = elim (cases_Bool (takes old event)) [
  | inr isnt ↦ elim (cases_eq (event % 64) 0) [
    | inl own ↦ kept event OfPhase before after w d own (unmoved OfPhase isnt) (unmoved_ends isnt)
    | inr member ↦ kept event (OfMember (event % 64)) before after w d refl (unmoved (OfMember (event % 64)) isnt) (unmoved_ends isnt)
  ]
  | inl is ↦ elim (cases_eq (event % 64) 0) [
    | inl own ↦ own_goes (taken.own is own) (own_choices old.crew.progress old.crew.script (event / 64) (ready is own)) own
    | inr member ↦ member_takes member new.fault refl (taken.member is member)
  ]
]
  where
    before : CrewState
    before = crew_state directory old.crew

    after : CrewState
    after = crew_state directory new.crew

    l : LogsClaimed c before w
    l = stand.claimed

    same_ends : after.known ≡ before.known → d ≡ c → EndsHold d after
    same_ends known same = ends_stay c d before after known same stand.ends

    -- ---- nothing has changed, or no log has
    still : (by : Whose) → length after.facility.locks.entries ≡ length before.facility.locks.entries → LocksTied after w → LogsClaimed c after w → d ≡ c → MovesKeep by before after w d
    still by entries tied logs same = record { moves = stays by before after w entries tied; logs = subst (λ (z : Contents). LogsClaimed z after w) (sym same) logs }

    unmoved : (by : Whose) → takes old event ≡ false → MovesKeep by before after w d
    unmoved by isnt =
        let same : after ≡ before = ap (λ (z : Group D C P). crew_state directory z.crew) (taken.left isnt) in
        still by (ap (λ (z : CrewState). length z.facility.locks.entries) same) (subst (λ (z : CrewState). LocksTied z w) (sym same) t) (subst (λ (z : CrewState). LogsClaimed c z w) (sym same) l)
        (same_told contents old.disk new.disk c d (ap (λ (z : Group D C P). contents z.disk) (taken.left isnt)) told left)

    unmoved_ends : takes old event ≡ false → EndsHold d after
    unmoved_ends isnt = same_ends (ap (λ (z : Group D C P). (crew_state directory z.crew).known) (taken.left isnt)) (same_told contents old.disk new.disk c d (ap (λ (z : Group D C P). contents z.disk) (taken.left isnt)) told left)

    ready : takes old event ≡ true → event % 64 ≡ 0 → is_own (own_choice false old.crew.progress old.crew.script) (event / 64) ≡ true
    ready is own = subst (λ (b : Bool). is_own (own_choice b old.crew.progress old.crew.script) (event / 64) ≡ true) no_group
        (subst (λ z. ready_for (is_some old.crew.restart) (own_choice (is_some old.crew.restart) old.crew.progress old.crew.script) (map (λ (p : MemberPart P). p.ready) old.crew.parts.items) z (event / 64) ≡ true) own
        (and_parts (not (is_some old.fault)) (is_ready_in old.crew event) is).1)

    few_members : length before.members ≤ 32
    few_members = let count = t.count in let most = t.few in omega (arith, count, most)

    -- ---- the group's own
    phase_goes : event % 64 ≡ 0 → d ≡ c → (x : Option Phase) → IsSomeAnd x (λ phase. PhaseBegins phase before after) → Keeps event before after w d
    phase_goes own same None h = absurd h
    phase_goes own same (Some phase) h =
        let moves : Moves OfPhase before after w = facts.phases phase before after w t h in
        kept event OfPhase before after w d own (record { moves = moves; logs = subst (λ (z : Contents). LogsClaimed z after moves.world) (sym same) (facts.phases_logged c phase before after w t h (bytes old.disk c told) (facts.begins c phase before after h stand.ends (dead_rest before w t) few_members) moves l) }) (same_ends (ap (λ (z : CrewState). z.known) h.rest) same)

    begins : event % 64 ≡ 0 → d ≡ c → (why : Option RunFault) → new.fault ≡ why → BeginsOrNot directory why old.crew event (length new.journal.items) new.crew → Keeps event before after w d
    begins own same None is e = phase_goes own same (slice_get before.script.phases before.begun) e
    begins own same (Some (fault.Unlawful place)) is e = absurd (lawful place is)
    begins own same (Some fault.Failed) is e = absurd e
    begins own same (Some (fault.Damaged volume offset)) is e = absurd e
    begins own same (Some fault.NoMemory) is e = absurd e

    counted_tied : LocksTied (fail_counted before) w
    counted_tied = record { sound = t.sound; tied = t.tied; count = t.count; few = t.few; agents = t.agents; entries = t.entries; stands = t.stands }

    counted_logged : LogsClaimed c (fail_counted before) w
    counted_logged = record { there = l.there; each = l.each }

    own_goes : TakesOwn directory alive contents new.fault old.crew old.disk event (length new.journal.items) taken.failed new.crew new.disk → (event / 64 ≡ 0) ⊎ (event / 64 ≡ 1) → event % 64 ≡ 0 → Keeps event before after w d
    own_goes e (inl first) own =
        begins own (same_told contents old.disk new.disk c d (ap contents (e.still (no_restart_event event (event / 64) (own_number event (event / 64) own refl) (inl first)))) told left) new.fault refl (e.begins (own_number event 0 own first))
    own_goes e (inr second) own =
        let fails : GroupFails (fail_counted before) after = (e.fails (own_number event 1 own second)).1 in
        let same : d ≡ c = same_told contents old.disk new.disk c d (ap contents (e.still (no_restart_event event (event / 64) (own_number event (event / 64) own refl) (inr second)))) told left in
        kept event OfPhase before after w d own (still OfPhase (ap (λ (z : CrewState). length z.facility.locks.entries) fails.rest) (facts.fails (fail_counted before) after w fails counted_tied) (facts.group_fails c (fail_counted before) after w fails counted_logged) same) (same_ends (ap (λ (z : CrewState). z.known) fails.rest) same)

    -- ---- a member's
    at : ℕ
    at = event % 64 - 1

    old_at : (k : ℕ) → slice_get before.members k ≡ member_at old.crew.parts.items k
    old_at k = slice_get-map member_of old.crew.parts.items k

    new_at : (k : ℕ) → slice_get after.members k ≡ member_at new.crew.parts.items k
    new_at k = slice_get-map member_of new.crew.parts.items k

    member_goes : event % 64 ≢ 0 → IsMade directory alive contents old.crew old.disk at (event / 64) (length new.journal.items) taken.failed new.crew new.disk → Keeps event before after w d
    member_goes member e = by (member_at old.crew.parts.items at) (member_at new.crew.parts.items at) (old_at at) (new_at at) e.steps.comes
      where
        u : Resources
        u = world_of directory alive contents old.crew.facility old.disk

        v : Resources
        v = world_of directory alive contents new.crew.facility new.disk

        others : (k : ℕ) → k ≢ at → slice_get after.members k ≡ slice_get before.members k
        others k ne = new_at k ∙ e.steps.others k ne ∙ sym (old_at k)

        by : (x y : Option Member) → slice_get before.members at ≡ x → slice_get after.members at ≡ y
            → ComesAt old.crew.script old.crew.progress.begun old.crew.sizes.sizes (event / 64) x u before.fates (length new.journal.items) e.stepped y v after.fates → Keeps event before after w d
        by None y had has q = absurd q
        by (Some m) None had has q = absurd q
        by (Some m) (Some n) had has q = kept event (OfMember m.id) before after w d number (record { moves = logged_moves.moves; logs = logged_moves.logs })
            (ends_go facts before after w c d t l stand.ends at m n here u v (length new.journal.items) told left refl refl e.steps.known old.crew.script old.crew.progress.begun (event / 64) e.stepped q)
          where
            stood_at : m.id ≡ at + 1
            stood_at = (subst (λ (z : Option Member). IfSome z (MemberStands before.facility (at + 1))) had (t.stands at)).id

            number : m.id ≡ event % 64
            number = (let one = above_zero (event % 64) member in omega (arith, stood_at, one))

            each : (k : ℕ) → is_some (slice_get after.members k) ≡ is_some (slice_get before.members k)
            each k = elim (cases_eq k at) [
              | inl same ↦ subst (λ z. is_some (slice_get after.members z) ≡ is_some (slice_get before.members z)) (sym same) (ap (λ (z : Option Member). is_some z) has ∙ sym (ap (λ (z : Option Member). is_some z) had))
              | inr ne ↦ ap (λ (z : Option Member). is_some z) (others k ne)
            ]

            here : At before after at m n
            here = record { had = had; has = has; count = some_at after.members before.members each; others = others; sizes = ap (λ z. z.sizes) e.steps.sizes }

            logged_moves : MovesLogged d before after w m
            logged_moves = comes facts before after w c d t l stand.ends at m n here u v (length new.journal.items) told left refl refl old.crew.script old.crew.progress.begun (event / 64) e.stepped q

    member_takes : event % 64 ≢ 0 → (why : Option RunFault) → new.fault ≡ why → TakesMember directory alive contents why old.crew old.disk at (event / 64) (length new.journal.items) taken.failed new.crew new.disk → Keeps event before after w d
    member_takes member None is e = member_goes member e
    member_takes member (Some (fault.Damaged volume offset)) is e = member_goes member e
    member_takes member (Some (fault.Unlawful refused)) is e = absurd (lawful refused is)
    member_takes member (Some fault.Failed) is e = absurd e
    member_takes member (Some fault.NoMemory) is e = absurd e
