-- The logs of a group behind an event of a member whose restart is in hand, in which it answers, asks or rebuilds the cache.
use Rattle.std.proofs.Common.{◌≡◌, ℕ, zero, suc, ◌+◌, ◌≤◌, refl, sym, ◌∙◌, ap, subst, arith, Bool, true, false, List, [], ◌∷◌, ◌++◌, take, Option, Some, None}
use Rattle.std.specs.Prelude.{◌≢◌, IfSome, is_some}
use Rattle.std.proofs.lemmas.List.{append-nil}
use Rattle.ds_disk.specs.Contents.{Contents, log_of}
use Rattle.list_structure.specs.declared.standing.MemberStatus.{MemberStatus}
use Rattle.list_structure.specs.declared.standing.MemberStatus.TheVariants.{Restarting, Up}
use Rattle.list_structure.specs.Standings.{is_live, status_of}
use Rattle.member_intents.specs.declared.outcome.Sent.{Sent}
use Rattle.member_intents.specs.declared.outcome.Sent.TheVariants as sent
use Rattle.member_marks.specs.State.{MarksState}
use Rattle.member_resources.specs.Events.{World as Resources}
use Rattle.lock_protocol.specs.Machine.{World}
use Rattle.failed_logs.specs.Given.{Restarting as RestartHeld}
use Rattle.failed_logs.specs.Given.{Stepped}
use Rattle.failed_logs.specs.Given.stepped_variants as steps
use Rattle.failed_logs.specs.Given.{Member}
use Rattle.failed_logs.specs.Given.{is_failure}
use Rattle.group_core.specs.Given.{CrewState}
use Rattle.group_logs.specs.Changes.{MadeGo}
use Rattle.group_logs.specs.Logs.{IsNumbered, LogGoes, OneGoes, OwnGoes}
use Rattle.failed_logs.specs.Given.{is_restart}
use Rattle.failed_logs.specs.Given.{LocksTied, MemberStands, RestartInHand}
use Rattle.failed_logs.specs.Given.{LogLocked}
use Rattle.restart_closing.specs.Closing.{ListedBelow}
use Rattle.claimed_logs.specs.Courses.{RestartCourse}
use Rattle.claimed_logs.specs.Events.{RestingEventsLogged}
use Rattle.claimed_logs.specs.Logs.{LogBelow, MemberLogged, OneLogged, RestartLogged}
use Rattle.claimed_logs.specs.Steps.{RestingStays, StillRests}
use Rattle.claimed_logs.proofs.Courses.{own_course}
use Rattle.claimed_logs.proofs.Events.{goes_told, within}
use Rattle.claimed_logs.proofs.Logs.{LeftFacts, member_left}

pub record Facts : Type 0 where
  pub one : OneLogged
  pub made : MadeGo
  pub left : LeftFacts
  pub stays : RestingStays

never : true ≡ false → ⊥
never e = cc

restarting_up : (s : MemberStatus) → s ≡ Restarting → s ≡ Up → ⊥
restarting_up s a b = cc

from_one : (k : ℕ) → 1 ≤ k + 1
from_one k = omega arith

other : (k at : ℕ) → k ≢ at → k + 1 ≢ at + 1
other k at ne e = ne (omega (arith, e))

-- ---- its own log stays, since nothing waits in its buffer
none_of : (n : ℕ) → take {A = ℕ} n [] ≡ []
none_of zero = refl
none_of (suc n) = refl

pub own_log : (s : Sent) (pending old new : List ℕ) (b : Bool) → pending ≡ [] → OwnGoes s pending b old new → new ≡ old
own_log sent.None pending old new b empty e = e
own_log (sent.Command c) pending old new b empty e = e
own_log sent.AppendLog pending old new true empty e = e.2 ∙ ap (λ (z : List ℕ). old ++ take e.0 z) empty ∙ ap (λ (z : List ℕ). old ++ z) (none_of e.0) ∙ append-nil old
own_log sent.AppendLog pending old new false empty e = e ∙ ap (λ (z : List ℕ). old ++ z) empty ∙ append-nil old
own_log (sent.ReadPage page) pending old new b empty e = e
own_log (sent.WritePage page) pending old new b empty e = e

same_log : (m : Member) (stepped : Stepped) (old new : List ℕ) → is_restart stepped ≡ false → m.holds.marks.log.pending ≡ [] → LogGoes m stepped old new → new ≡ old
same_log m (steps.Sent s a) old new rests empty e = own_log s m.holds.marks.log.pending old new (is_failure a) empty e
same_log m (steps.Restart s a) old new rests empty e = absurd (never rests)
same_log m (steps.Rebuild s a) old new rests empty e = e
same_log m steps.Failed old new rests empty e = e

-- ---- the event
restart_numbered : (k : ℕ) (m : Member) (x : Option RestartHeld) → RestartInHand k m x → IfSome x (λ q. q.resources.marks.member ≡ k)
restart_numbered k m None h = tt
restart_numbered k m (Some q) h = h.member

-- nothing waits in its own log buffer
idle_of : (k : ℕ) (m : Member) (x : Option RestartHeld) → is_some x ≡ true → RestartInHand k m x → m.holds.marks.log.pending ≡ []
idle_of k m None some hand = absurd (never (sym some))
idle_of k m (Some q) some hand = hand.idle

courses_as : (log : List ℕ) (h k : MarksState) (x : Option RestartHeld) → ((l : List ℕ) → LogLocked l [] h → LogLocked l [] k) → IfSome x (λ q. RestartCourse log q.resources.marks h) → IfSome x (λ q. RestartCourse log q.resources.marks k)
courses_as log h k None still c = tt
courses_as log h k (Some q) still c = own_course log q.resources.marks h k still c

pub resting_events : Facts → RestingEventsLogged
resting_events facts c d old new at m n w t e ok told left moves l = facts.one c d old new w z at n t l
    (record {
      has = e.has;
      members = e.count;
      others = e.others;
      logs = goes.count;
      left = λ k ne. goes.others (k + 1) (from_one k) (other k at ne);
      counter = still.rises;
      statuses = λ k ne. status (k + 1);
      claims = λ k o q ne. moves.claims (k + 1) o q;
    })
    (record {
      up = λ up. absurd (restarting_up (status_of new.facility.lists.statuses (at + 1)) now_restarting up);
      restarts = subst (λ (x : Option RestartHeld). IfSome x (λ q. RestartLogged (log_of d.logs (at + 1)) z q.resources.marks)) (sym moves.restart)
          (subst (λ (y : List ℕ). IfSome m.restart (λ q. RestartLogged y z q.resources.marks)) (sym same) kept.restarts);
      course = subst (λ (x : Option RestartHeld). IfSome x (λ q. RestartCourse (log_of d.logs (at + 1)) q.resources.marks n.holds.marks)) (sym moves.restart)
          (subst (λ (y : List ℕ). IfSome m.restart (λ q. RestartCourse y q.resources.marks n.holds.marks)) (sym same) (courses_as (log_of c.logs (at + 1)) m.holds.marks n.holds.marks m.restart still.locked logged.course));
      down = λ dead. absurd (never (sym (ap is_live now_restarting) ∙ dead));
      counted = still.counted;
      below = subst (LogBelow new.facility.counter) (sym same) kept.below;
      names = subst (λ (x : Option RestartHeld). IfSome x (λ q. ListedBelow new.facility.counter q.resources.marks.trans.list)) (sym moves.restart) kept.names;
    })
  where
    z : World
    z = moves.moves.world

    u : Resources
    u = record { facility = old.facility; drive = e.drive }

    v : Resources
    v = record { facility = new.facility; drive = e.left }

    stood : MemberStands old.facility (at + 1) m
    stood = subst (λ (x : Option Member). IfSome x (MemberStands old.facility (at + 1))) e.had (t.stands at)

    logged : MemberLogged old.facility w (at + 1) (log_of c.logs (at + 1)) m
    logged = subst (λ (x : Option Member). IfSome x (MemberLogged old.facility w (at + 1) (log_of c.logs (at + 1)))) e.had (l.each at)

    was_restarting : status_of old.facility.lists.statuses (at + 1) ≡ Restarting
    was_restarting = ap (λ (k : ℕ). status_of old.facility.lists.statuses k) (sym stood.id) ∙ e.restarting

    in_hand : is_some m.restart ≡ true
    in_hand = stood.restarts was_restarting

    tied : LocksTied new z
    tied = moves.moves.tied

    stood_now : MemberStands new.facility (at + 1) n
    stood_now = subst (λ (x : Option Member). IfSome x (MemberStands new.facility (at + 1))) e.has (tied.stands at)

    now_idle : n.holds.marks.log.pending ≡ []
    now_idle = idle_of (at + 1) n n.restart (ap (λ (x : Option RestartHeld). is_some x) moves.restart ∙ in_hand) stood_now.restart

    still : StillRests old.facility.counter new.facility.counter m.holds.marks n.holds.marks
    still = facts.stays c d m n u v old.fates new.fates e.place e.stepped e.made e.other ok told left now_idle logged.counted

    status : (k : ℕ) → status_of new.facility.lists.statuses k ≡ status_of old.facility.lists.statuses k
    status k = ap (λ (x : List MemberStatus). status_of x k) moves.statuses

    now_restarting : status_of new.facility.lists.statuses (at + 1) ≡ Restarting
    now_restarting = status (at + 1) ∙ was_restarting

    numbered : IsNumbered (at + 1) m
    numbered = record { own = stood.member; restart = restart_numbered (at + 1) m m.restart stood.restart }

    goes : OneGoes (at + 1) (LogGoes m e.stepped) c d
    goes = goes_told e.drive.contents e.left.contents c d (OneGoes (at + 1) (LogGoes m e.stepped)) told left (facts.made (at + 1) m e.made.mid u v e.place e.stepped e.made.makes (from_one at) numbered)

    same : log_of d.logs (at + 1) ≡ log_of c.logs (at + 1)
    same = same_log m e.stepped (log_of c.logs (at + 1)) (log_of d.logs (at + 1)) e.other (idle_of (at + 1) m m.restart in_hand stood.restart) (goes.own (within old.members at m c.logs e.had l.there))

    kept : MemberLogged new.facility z (at + 1) (log_of c.logs (at + 1)) m
    kept = member_left facts.left old.facility new.facility w z (at + 1) (log_of c.logs (at + 1)) m still.rises (status (at + 1)) (λ o q. moves.claims (at + 1) o q) stood.restart logged
