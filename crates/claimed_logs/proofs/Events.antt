-- The logs of a group behind an event of a member, in which no call of the disk has failed.
use Rattle.std.proofs.Common.{◌≡◌, ℕ, zero, suc, ◌+◌, ◌≤◌, ◌<◌, refl, sym, ◌∙◌, ap, subst, arith, Bool, true, false, inl, inr, List, [], ◌∷◌, length, Option, Some, None}
use Rattle.std.specs.Prelude.{◌≢◌, ◌⊎◌, ◌-◌, ◌==◌, not, IfSome, nat_lt, slice_get, slice_index_or, slice_set}
use Rattle.std.specs.List.{AllByRecursion}
use Rattle.std.proofs.lemmas.Bool.{eqb-true, lt-ltb}
use Rattle.std.proofs.lemmas.Option.{slice_get_within}
use Rattle.ds_base.specs.Ids.{IsMember}
use Rattle.ds_disk.specs.Contents.{Becomes, Contents, log_of}
use Rattle.facility.specs.States.{Held as Facility}
use Rattle.list_structure.specs.declared.standing.MemberStatus.{MemberStatus}
use Rattle.list_structure.specs.declared.standing.MemberStatus.TheVariants.{Down, Restarting, Up}
use Rattle.list_structure.specs.Standings.{is_live, status_of}
use Rattle.log_numbers.specs.Numbers.{AreCounted, CommandsCount, CountedAdopt, CountedMore, CountedReach, ForwardReach, forward_in}
use Rattle.member_intents.specs.declared.outcome.Answered.{Answered}
use Rattle.member_intents.specs.declared.outcome.Answered.TheVariants as answered
use Rattle.member_resources.specs.Events.{Drive, World as Resources}
use Rattle.member_resources.specs.Held.{Held as MemberHeld, begun}
use Rattle.restart_marks.specs.declared.adopt.Adopted.{Adopted}
use Rattle.restart_marks.specs.declared.intent.RestartIntent.{RestartIntent}
use Rattle.restart_marks.specs.declared.intent.RestartSent.{RestartSent}
use Rattle.restart_marks.specs.declared.intent.RestartSent.TheVariants as sent
use Rattle.restart_marks.specs.declared.told.RestartTold.{RestartTold}
use Rattle.restart_marks.specs.State.{RestartState}
use Rattle.restart_records.specs.declared.trans.RestartStage.TheVariants as stage
use Rattle.restart_records.specs.declared.trans.RestartTran.{RestartTran}
use Rattle.restart_records.specs.Trans.{TransState}
use Rattle.restart_law.specs.Opens.{ListsGo}
use Rattle.restart_claims.specs.Claims.{LeftHas}
use Rattle.restart_law.specs.Reads.{TellsLog as TellsRead}
use Rattle.restart_resources.specs.Events as event
use Rattle.restart_resources.specs.Held.{Held}
use Rattle.restart_resources.specs.Lending.{is_hand, lent_bytes}
use Rattle.lock_protocol.specs.Machine.{World}
use Rattle.failed_logs.specs.Given.{KnowsOwn, LeadsTo}
use Rattle.failed_logs.specs.Given.{MemberIsUp, StepsGo}
use Rattle.lock_restarts.specs.Changes.{gone_by}
use Rattle.lock_restarts.specs.Courses.{Follows, HasHandedOver, IsInOrder, RestartsFollow, Sets, StandingsFollow}
use Rattle.lock_restarts.specs.Stands.{Spares}
use Rattle.failed_logs.specs.Given.{LockedReaches, LogLocked, TellsLog}
use Rattle.failed_logs.specs.Given.{NoneInSlots}
use Rattle.restart_closing.specs.Closing.{HasLog, ListedBelow}
use Rattle.failed_logs.specs.Given.{Restarting as RestartHeld}
use Rattle.failed_logs.specs.Given.stepped_variants as steps
use Rattle.failed_logs.specs.Given.{GoesOn, RestartEnds, RestartGoesOn, Takes, as_restarting}
use Rattle.failed_logs.specs.Given.{Member}
use Rattle.failed_logs.specs.Given.{is_failure}
use Rattle.group_core.specs.Given.{CrewState}
use Rattle.group_logs.specs.Changes.{MadeGo}
use Rattle.group_logs.specs.Logs.{IsNumbered, LogGoes, OneGoes}
use Rattle.failed_logs.specs.Given.{Moves, MovesSpare, OfMember}
use Rattle.failed_logs.specs.Given.{freed_world}
use Rattle.failed_logs.specs.Given.{LocksTied, MemberStands, RestartInHand, RestartStands, known, known_by}
use Rattle.claimed_logs.specs.Events.{RestartEventsLogged, UpEventsLogged}
use Rattle.claimed_logs.specs.Courses.{LeavesNothing, RestartCourse}
use Rattle.claimed_logs.specs.Logs.{ForwardOpen, FrontsAlike, LogBelow, MemberLogged, OneLogged, RestartLogged, UpLogged}
use Rattle.claimed_logs.specs.Steps.{CourseBelow, CourseEnds, CourseHands, CourseSteps, EndsSo, EndsTell, HandedLogged, LockedAlike, RestartStepsLogged, StillBelow, StillLogged, UpStepsLogged}
use Rattle.claimed_logs.proofs.Adopting.{hands_counted}
use Rattle.claimed_logs.proofs.Alike.{Facts as AlikeFacts, fronts_begin}
use Rattle.claimed_logs.proofs.Courses.{own_course}
use Rattle.claimed_logs.proofs.Ends.{all_over}
use Rattle.claimed_logs.proofs.Found.{freed_spares}
use Rattle.claimed_logs.proofs.Below.{handed_below}
use Rattle.claimed_logs.proofs.Forward.{all_below, all_free, forward_begins, none_forward}
use Rattle.claimed_logs.proofs.Logs.{names_below}
use Rattle.claimed_logs.proofs.Own.{begun_locked, told_locked}
use Rattle.claimed_logs.proofs.Up.{counted_still}

-- of its log on disk
pub record CourseFacts : Type 0 where
  pub steps : CourseSteps
  pub hands : CourseHands
  pub ends : CourseEnds
  pub below : CourseBelow

-- of its numbers
pub record CountFacts : Type 0 where
  pub adopt : CountedAdopt
  pub reach : CountedReach
  pub more : CountedMore

pub record Facts : Type 0 where
  pub alike : AlikeFacts
  pub courses : CourseFacts
  pub counts : CountFacts
  pub locked : LockedReaches
  pub tell : EndsTell
  pub lists : ListsGo
  pub one : OneLogged
  pub spare : MovesSpare
  pub made : MadeGo
  pub up : UpStepsLogged
  pub members : StepsGo
  pub restart : RestartStepsLogged
  pub handed : HandedLogged
  pub follow : RestartsFollow
  pub standings : StandingsFollow
  pub commands : CommandsCount
  pub reaches : ForwardReach

never : true ≡ false → ⊥
never e = cc

restarting_up : (s : MemberStatus) → s ≡ Restarting → s ≡ Up → ⊥
restarting_up s a b = cc

-- ---- places and numbers
index : (k : ℕ) → k + 1 - 1 ≡ k
index k = omega arith

from_one : (k : ℕ) → 1 ≤ k + 1
from_one k = omega arith

none_left : (m n : ℕ) → m ≤ n → n ≡ 0 → m ≡ 0
none_left m n le none = omega (arith, le, none)

other : (k at : ℕ) → k ≢ at → k + 1 ≢ at + 1
other k at ne e = ne (omega (arith, e))

apart : (k n : ℕ) → k ≢ n → not (k == n) ≡ true
apart k n ne = by (k == n) refl
  where
    by : (b : Bool) → (k == n) ≡ b → not b ≡ true
    by true e = absurd (ne (eqb-true k n e))
    by false e = refl

pub within : (ms : List Member) (at : ℕ) (m : Member) (logs : List (List ℕ)) → slice_get ms at ≡ Some m → length ms ≤ length logs → nat_lt (at + 1 - 1) (length logs) ≡ true
within ms at m logs had few = let a : at < length ms = slice_get_within ms at m had in lt-ltb (at + 1 - 1) (length logs) (omega (arith, a, few))

-- ---- what a disk tells of a log is one thing
one_told : (log : List ℕ) (drive : Drive) (member : ℕ) (d : Contents) → TellsLog log drive member → drive.contents ≡ Some d → log_of d.logs member ≡ log
one_told log drive member d tells is =
    let same : d ≡ tells.contents = let both : Some d ≡ Some tells.contents = sym is ∙ tells.told in cc in
    ap (λ (z : Contents). log_of z.logs member) same ∙ tells.bytes

pub goes_told : (before after : Option Contents) (c d : Contents) (P : Contents → Contents → Type 0) → before ≡ Some c → after ≡ Some d → Becomes before after P → P c d
goes_told before after c d P told left h = subst (λ (z : Option Contents). Becomes (Some c) z P) left (subst (λ (z : Option Contents). Becomes z after P) told h)

-- ---- standings
set_apart : (xs : List MemberStatus) (i j : ℕ) (a : MemberStatus) → j ≢ i → slice_index_or (slice_set xs i a) j Down ≡ slice_index_or xs j Down
set_apart [] i j a ne = refl
set_apart (x ∷ xs) zero zero a ne = absurd (ne refl)
set_apart (x ∷ xs) zero (suc j) a ne = refl
set_apart (x ∷ xs) (suc i) zero a ne = refl
set_apart (x ∷ xs) (suc i) (suc j) a ne = set_apart xs i j a (λ e. ne (ap suc e))

set_live : (xs : List MemberStatus) (i : ℕ) (a : MemberStatus) → is_live (slice_index_or xs i Down) ≡ true → slice_index_or (slice_set xs i a) i Down ≡ a
set_live [] i a e = absurd (never (sym e))
set_live (x ∷ xs) zero a e = refl
set_live (x ∷ xs) (suc i) a e = set_live xs i a e

-- ---- a member that is up
pub up_events : Facts → UpEventsLogged
up_events facts c d old new at m n w t e ok told left moves l = facts.one c d old new w moves.world at n t l
    (record {
      has = e.has;
      members = e.count;
      others = e.others;
      logs = goes.count;
      left = λ k ne. goes.others (k + 1) (from_one k) (other k at ne);
      counter = step.rises;
      statuses = λ k ne. ap (λ (z : List MemberStatus). status_of z (k + 1)) standings;
      claims = λ k o q ne. facts.spare (OfMember m.id) old new w moves (k + 1) o q (apart (k + 1) m.id (λ z. other k at ne (z ∙ stood.id)));
    })
    (record {
      up = λ _. record { pend = step.logged.pend; locked = subst (λ (z : List ℕ). LogLocked z step.logged.pend n.holds.marks) (sym log_is) step.logged.locked; counted = step.logged.counted; alike = subst (λ (z : List ℕ). FrontsAlike z step.logged.pend) (sym log_is) step.logged.alike; forward = subst (λ (z : List ℕ). ForwardOpen z step.logged.pend new.facility.counter n.holds.marks) (sym log_is) step.logged.forward };
      restarts = subst (λ (z : Option RestartHeld). IfSome z (λ q. RestartLogged (log_of d.logs (at + 1)) moves.world q.resources.marks)) (sym (stood_now.up now_up)) tt;
      course = subst (λ (z : Option RestartHeld). IfSome z (λ q. RestartCourse (log_of d.logs (at + 1)) q.resources.marks n.holds.marks)) (sym (stood_now.up now_up)) tt;
      down = λ dead. absurd (never (sym (ap is_live now_up) ∙ dead));
      counted = step.logged.counted;
      below = subst (LogBelow new.facility.counter) (sym log_is) step.below;
      names = subst (λ (z : Option RestartHeld). IfSome z (λ q. ListedBelow new.facility.counter q.resources.marks.trans.list)) (sym (stood_now.up now_up)) tt;
    })
  where
    stood : MemberStands old.facility (at + 1) m
    stood = subst (λ (z : Option Member). IfSome z (MemberStands old.facility (at + 1))) e.had (t.stands at)

    tied : LocksTied new moves.world
    tied = moves.tied

    stood_now : MemberStands new.facility (at + 1) n
    stood_now = subst (λ (z : Option Member). IfSome z (MemberStands new.facility (at + 1))) e.has (tied.stands at)

    before : MemberLogged old.facility w (at + 1) (log_of c.logs (at + 1)) m
    before = subst (λ (z : Option Member). IfSome z (MemberLogged old.facility w (at + 1) (log_of c.logs (at + 1)))) e.had (l.each at)

    was_up : status_of old.facility.lists.statuses (at + 1) ≡ Up
    was_up = ap (λ (z : ℕ). status_of old.facility.lists.statuses z) (sym stood.id) ∙ e.up

    rests : m.restart ≡ None
    rests = stood.up was_up

    u : Resources
    u = record { facility = old.facility; drive = e.drive }

    v : Resources
    v = record { facility = new.facility; drive = e.left }

    tells : TellsLog (log_of c.logs (at + 1)) e.drive m.holds.marks.member
    tells = subst (λ (k : ℕ). TellsLog (log_of c.logs (at + 1)) e.drive k) (sym stood.member) (record { contents = c; told = told; there = within old.members at m c.logs e.had l.there; bytes = refl })

    step : StillLogged e.left old.facility.counter new.facility.counter n.holds.marks
    step = facts.up (log_of c.logs (at + 1)) m n u v old.fates new.fates e.place e.stepped e.steps ok rests (subst (λ (k : ℕ). 1 ≤ k) (sym stood.member) (from_one at)) (stood_now.member ∙ sym stood.member) tells before.below (before.up was_up)

    log_is : log_of d.logs (at + 1) ≡ step.log
    log_is = ap (λ (k : ℕ). log_of d.logs k) (sym stood_now.member) ∙ one_told step.log e.left n.holds.marks.member d step.tells left

    numbered : IsNumbered (at + 1) m
    numbered = record { own = stood.member; restart = subst (λ (z : Option RestartHeld). IfSome z (λ q. q.resources.marks.member ≡ at + 1)) (sym rests) tt }

    goes : OneGoes (at + 1) (LogGoes m e.stepped) c d
    goes = goes_told e.drive.contents e.left.contents c d (OneGoes (at + 1) (LogGoes m e.stepped)) told left (facts.made (at + 1) m e.steps.mid u v e.place e.stepped e.steps.makes (from_one at) numbered)

    -- ---- the standings
    among : at + 1 ≤ old.facility.lists.members
    among = let a : at < length old.members = slice_get_within old.members at m e.had in let count = t.count in omega (arith, a, count)

    is_up : MemberIsUp old.facility m
    is_up = record {
      up = record {
        member = subst IsMember (sym stood.member) (from_one at, (let a = among in let few = t.few in omega (arith, a, few)));
        among = subst (λ (z : ℕ). z ≤ old.facility.lists.members) (sym stood.member) among;
        few = t.few;
        up = ap (λ (z : ℕ). status_of old.facility.lists.statuses z) stood.member ∙ was_up;
        size = stood.size;
        book = stood.book;
      };
      id = stood.member ∙ sym stood.id;
      slots = stood.slots;
      rests = rests;
    }

    next : (k : ℕ) → k ≡ at → suc k ≡ m.id
    next k same = let id = stood.id in omega (arith, same, id)

    knows : KnowsOwn (known old.members) m
    knows o q = ap (λ (z : ℕ). known old.members z o q) (sym (next at refl)) ∙ ap (λ (z : Option Member). known_by z o q) e.had

    others : (k o q : ℕ) → k ≢ m.id → known new.members k o q ≡ known old.members k o q
    others zero o q ne = refl
    others (suc k) o q ne = ap (λ (z : Option Member). known_by z o q) (e.others k (λ same. ne (next k same)))

    leads : LeadsTo (known old.members) (known new.members) m n
    leads = record {
      others = others;
      own = λ o q. ap (λ (z : ℕ). known new.members z o q) (sym (next at refl)) ∙ ap (λ (z : Option Member). known_by z o q) e.has;
    }

    standings : new.facility.lists.statuses ≡ old.facility.lists.statuses
    standings = (facts.members w u v (known old.members) (known new.members) m n old.fates new.fates e.place e.stepped t.sound t.tied is_up knows e.steps leads).standings.statuses

    now_up : status_of new.facility.lists.statuses (at + 1) ≡ Up
    now_up = ap (λ (z : List MemberStatus). status_of z (at + 1)) standings ∙ was_up

-- ---- a restart
at_most : (n k : ℕ) → k ≡ n → n ≤ k
at_most n k e = omega (arith, e)

restart_rises : CommandsCount → (w v : event.World) (h k : Held) (i : RestartIntent) (s : RestartSent) (a : Answered) (said : RestartTold) → event.Runs w h i s a said v k → w.facility.counter ≤ v.facility.counter
restart_rises law w v h k i sent.None a said e = at_most w.facility.counter v.facility.counter (ap (λ (z : event.World). z.facility.counter) e.world)
restart_rises law w v h k i (sent.Command c) a said e =
    law w.facility v.facility h.marks.member c (lent_bytes h (is_hand h c)) (lent_bytes e.0.after (is_hand h c)) e.0.answer e.0.gives.executed.executes
restart_rises law w v h k i sent.LogLength a said e = at_most w.facility.counter v.facility.counter (ap (λ (z : Facility). z.counter) e.1)
restart_rises law w v h k i (sent.ReadLog at count) a said e = at_most w.facility.counter v.facility.counter (ap (λ (z : Facility). z.counter) e.1)
restart_rises law w v h k i (sent.CutLog long) a said e = at_most w.facility.counter v.facility.counter (ap (λ (z : Facility). z.counter) e.1)
restart_rises law w v h k i sent.AppendLog a said e = at_most w.facility.counter v.facility.counter (ap (λ (z : Facility). z.counter) e.1)
restart_rises law w v h k i (sent.ReadPage page) a said e = at_most w.facility.counter v.facility.counter (ap (λ (z : Facility). z.counter) e.1)

not_failed : (a : Answered) → is_failure a ≡ false → a ≢ answered.Failed
not_failed a ok e = never (sym (ap is_failure e) ∙ ok)

-- what has handed over all that it had left open has nothing that is to be claimed
in_any : (log : List ℕ) (w z : World) (s : RestartState) → HasHandedOver s → RestartLogged log w s → RestartLogged log z s
in_any log w z s over l = record {
  bytes = l.bytes;
  are = l.are;
  few = l.few;
  brief = l.brief;
  counts = l.counts;
  stands = l.stands;
  reads = l.reads;
  claimed = record {
    unread = λ unread. absurd (never (sym over.read ∙ unread));
    left = λ read on. subst (λ (t : TransState). AllByRecursion (LeftHas z s.member) t.list) (sym over.none_open) tt;
  };
  unread = l.unread;
}

pub restart_events : Facts → RestartEventsLogged
restart_events facts c d old new at m n w t e told left moves counts l = facts.one c d old new w z at n t l
    (record {
      has = e.has;
      members = e.count;
      others = e.others;
      logs = goes.count;
      left = λ k ne. goes.others (k + 1) (from_one k) (other k at ne);
      counter = rises;
      statuses = apart_status;
      claims = λ k o q ne. facts.spare (OfMember m.id) old new w moves.moves (k + 1) o q (apart (k + 1) m.id (λ z. other k at ne (z ∙ stood.id)));
    })
    (record {
      up = up;
      restarts = subst (λ (x : Option RestartHeld). IfSome x (λ q. RestartLogged (log_of d.logs (at + 1)) z q.resources.marks)) (sym n_restart) (goes_on reached.resources.marks.is_up ends.goes_on);
      course = subst (λ (x : Option RestartHeld). IfSome x (λ q. RestartCourse (log_of d.logs (at + 1)) q.resources.marks n.holds.marks)) (sym n_restart) (course_on reached.resources.marks.is_up ends.goes_on);
      down = λ dead. absurd (never (sym still_live ∙ dead));
      counted = counted;
      below = λ start back last. all_below old.facility.counter new.facility.counter back rises (low.log start back last);
      names = names_below old.facility.counter new.facility.counter n.restart rises (subst (λ (x : Option RestartHeld). IfSome x (λ q. ListedBelow old.facility.counter q.resources.marks.trans.list)) (sym n_restart) (names_on reached.resources.marks.is_up ends.goes_on));
    })
  where
    z : World
    z = moves.moves.world

    u : Resources
    u = record { facility = old.facility; drive = e.drive }

    v : Resources
    v = record { facility = new.facility; drive = e.left }

    stood : MemberStands old.facility (at + 1) m
    stood = subst (λ (x : Option Member). IfSome x (MemberStands old.facility (at + 1))) e.had (t.stands at)

    reached : RestartHeld
    reached = e.made.makes.reached

    before : RestartHeld
    before = e.made.makes.makes.before

    standing : RestartStands (at + 1) m before.resources.marks
    standing = subst (λ (z : Option RestartHeld). RestartInHand (at + 1) m z) e.made.makes.makes.had stood.restart

    logged : MemberLogged old.facility w (at + 1) (log_of c.logs (at + 1)) m
    logged = subst (λ (z : Option Member). IfSome z (MemberLogged old.facility w (at + 1) (log_of c.logs (at + 1)))) e.had (l.each at)

    restart_logged : RestartLogged (log_of c.logs (at + 1)) w before.resources.marks
    restart_logged = subst (λ (z : Option RestartHeld). IfSome z (λ q. RestartLogged (log_of c.logs (at + 1)) w q.resources.marks)) e.made.makes.makes.had logged.restarts

    follows : Follows before.resources.marks reached.resources.marks
    follows = facts.follow (as_restarting u) (as_restarting v) before.resources reached.resources e.sent e.answered e.made.makes.makes.happens

    now : (x : World) → Spares w x m.id (gone_by e.sent) → RestartLogged (log_of d.logs (at + 1)) x reached.resources.marks
    now x spares = facts.restart (log_of c.logs (at + 1)) (log_of d.logs (at + 1)) w x (as_restarting u) (as_restarting v) before.resources reached.resources e.sent e.answered e.made.makes.makes.happens
        (not_failed e.answered e.unfailed) standing.order (subst (λ (k : ℕ). Spares w x k (gone_by e.sent)) (stood.id ∙ sym standing.member) spares)
        (record { contents = c; told = told; log = ap (λ (k : ℕ). log_of c.logs k) standing.member })
        (record { contents = d; told = left; log = ap (λ (k : ℕ). log_of d.logs k) (follows.member ∙ standing.member) })
        restart_logged

    -- ---- what its member makes of it
    ends : RestartGoesOn reached m e.place e.made.mid
    ends = subst (λ (b : Bool). RestartEnds b reached m e.place e.made.mid) e.unfailed e.made.makes.ends

    n_restart : n.restart ≡ e.made.mid.restart
    n_restart = ap (λ (z : Member). z.restart) e.made.enters.member

    -- so it is of what the restart keeps, beside each world that leaves the claims of its rollbacks
    keeps : (x : World) → Spares w x m.id (gone_by e.sent) → (adopted : Option Adopted) (rest : RestartHeld) → Takes reached adopted rest → RestartLogged (log_of d.logs (at + 1)) x rest.resources.marks
    keeps x spares adopted rest (inl takes) = subst (λ (q : RestartHeld). RestartLogged (log_of d.logs (at + 1)) x q.resources.marks) (sym takes.1) (now x spares)
    keeps x spares adopted rest (inr takes) = subst (λ (q : RestartHeld). RestartLogged (log_of d.logs (at + 1)) x q.resources.marks) (sym takes.1)
        (facts.handed (log_of d.logs (at + 1)) x reached.resources.marks (follows.order standing.order) (now x spares))

    rests_as : (adopted : Option Adopted) (rest : RestartHeld) → Takes reached adopted rest → Spares w z m.id (gone_by e.sent) ⊎ HasHandedOver rest.resources.marks → RestartLogged (log_of d.logs (at + 1)) z rest.resources.marks
    rests_as adopted rest takes (inl spares) = keeps z spares adopted rest takes
    rests_as adopted rest takes (inr over) = in_any (log_of d.logs (at + 1)) (freed_world w m.id e.sent) z rest.resources.marks over (keeps (freed_world w m.id e.sent) (freed_spares w m.id e.sent) adopted rest takes)

    goes_on : (b : Bool) → GoesOn b reached m.holds e.made.mid.restart ends.left → IfSome e.made.mid.restart (λ q. RestartLogged (log_of d.logs (at + 1)) z q.resources.marks)
    goes_on true over = subst (λ (x : Option RestartHeld). IfSome x (λ q. RestartLogged (log_of d.logs (at + 1)) z q.resources.marks)) (sym over.0) tt
    goes_on false over = subst (λ (x : Option RestartHeld). IfSome x (λ q. RestartLogged (log_of d.logs (at + 1)) z q.resources.marks)) (sym over.restart)
        (rests_as over.left over.rest over.takes (subst (λ (x : Option RestartHeld). IfSome x (λ q. Spares w z m.id (gone_by e.sent) ⊎ HasHandedOver q.resources.marks)) (n_restart ∙ over.restart) moves.spares))

    -- ---- the standings
    sets : Sets old.facility.lists new.facility.lists before.resources.marks reached.resources.marks
    sets = facts.standings (as_restarting u) (as_restarting v) before.resources reached.resources e.sent e.answered e.made.makes.makes.happens

    own_index : before.resources.marks.member - 1 ≡ at
    own_index = ap (λ (z : ℕ). z - 1) standing.member ∙ index at

    restarting : status_of old.facility.lists.statuses (at + 1) ≡ Restarting
    restarting = ap (λ (z : ℕ). status_of old.facility.lists.statuses z) (sym stood.id) ∙ e.restarting

    restarting_there : is_live (slice_index_or old.facility.lists.statuses (before.resources.marks.member - 1) Down) ≡ true
    restarting_there = ap is_live (ap (λ (z : ℕ). status_of old.facility.lists.statuses z) standing.member ∙ restarting)

    still_live : is_live (status_of new.facility.lists.statuses (at + 1)) ≡ true
    still_live = elim sets.statuses [
      | inl x ↦ ap is_live (ap (λ (z : List MemberStatus). status_of z (at + 1)) x.1 ∙ restarting)
      | inr x ↦ ap is_live (ap (λ (z : List MemberStatus). status_of z (at + 1)) x.2 ∙ ap (λ (k : ℕ). status_of (slice_set old.facility.lists.statuses (before.resources.marks.member - 1) Up) k) (sym standing.member)
          ∙ set_live old.facility.lists.statuses (before.resources.marks.member - 1) Up restarting_there)
    ]

    apart_status : (k : ℕ) → k ≢ at → status_of new.facility.lists.statuses (k + 1) ≡ status_of old.facility.lists.statuses (k + 1)
    apart_status k ne = elim sets.statuses [
      | inl x ↦ ap (λ (z : List MemberStatus). status_of z (k + 1)) x.1
      | inr x ↦ ap (λ (z : List MemberStatus). status_of z (k + 1)) x.2 ∙ set_apart old.facility.lists.statuses (before.resources.marks.member - 1) (k + 1 - 1) Up (λ same. ne (sym (index k) ∙ same ∙ own_index))
    ]

    -- ---- the logs
    numbered : IsNumbered (at + 1) m
    numbered = record { own = stood.member; restart = subst (λ (z : Option RestartHeld). IfSome z (λ q. q.resources.marks.member ≡ at + 1)) (sym e.made.makes.makes.had) standing.member }

    goes : OneGoes (at + 1) (LogGoes m (steps.Restart e.sent e.answered)) c d
    goes = goes_told e.drive.contents e.left.contents c d (OneGoes (at + 1) (LogGoes m (steps.Restart e.sent e.answered))) told left
        (facts.made (at + 1) m e.made.mid u v e.place (steps.Restart e.sent e.answered) e.made.makes (from_one at) numbered)

    -- ---- its log on disk
    there : nat_lt (at + 1 - 1) (length c.logs) ≡ true
    there = within old.members at m c.logs e.had l.there

    before_course : RestartCourse (log_of c.logs (at + 1)) before.resources.marks m.holds.marks
    before_course = subst (λ (z : Option RestartHeld). IfSome z (λ q. RestartCourse (log_of c.logs (at + 1)) q.resources.marks m.holds.marks)) e.made.makes.makes.had logged.course

    course : RestartCourse (log_of d.logs (at + 1)) reached.resources.marks m.holds.marks
    course = facts.courses.steps (log_of c.logs (at + 1)) (log_of d.logs (at + 1)) w (as_restarting u) (as_restarting v) before.resources reached.resources e.sent e.answered m.holds.marks e.made.makes.makes.happens (not_failed e.answered e.unfailed)
        (subst (λ (k : ℕ). HasLog (as_restarting u).drive k (log_of c.logs (at + 1))) (sym standing.member) (record { contents = c; told = told; there = there; log = refl }))
        (subst (λ (k : ℕ). HasLog (as_restarting v).drive k (log_of d.logs (at + 1))) (sym (follows.member ∙ standing.member)) (record { contents = d; told = left; there = ap (λ (k : ℕ). nat_lt (at + 1 - 1) k) goes.count ∙ there; log = refl }))
        restart_logged before_course

    none : NoneInSlots m.holds.marks
    none = stood.rests (stood.restarts restarting)

    -- ---- numbers
    rises : old.facility.counter ≤ new.facility.counter
    rises = restart_rises facts.commands (as_restarting u) (as_restarting v) before.resources e.made.makes.makes.happens.after e.made.makes.makes.happens.intent e.sent e.answered e.made.makes.makes.happens.said e.made.makes.makes.happens.runs

    low : StillBelow old.facility.counter (log_of d.logs (at + 1)) reached.resources.marks.trans.list
    low = facts.courses.below (log_of c.logs (at + 1)) (log_of d.logs (at + 1)) w (as_restarting u) (as_restarting v) before.resources reached.resources e.sent e.answered m.holds.marks old.facility.counter e.made.makes.makes.happens (not_failed e.answered e.unfailed)
        (subst (λ (k : ℕ). HasLog (as_restarting u).drive k (log_of c.logs (at + 1))) (sym standing.member) (record { contents = c; told = told; there = there; log = refl }))
        (subst (λ (k : ℕ). HasLog (as_restarting v).drive k (log_of d.logs (at + 1))) (sym (follows.member ∙ standing.member)) (record { contents = d; told = left; there = ap (λ (k : ℕ). nat_lt (at + 1 - 1) k) goes.count ∙ there; log = refl }))
        restart_logged before_course logged.below
        (subst (λ (z : Option RestartHeld). IfSome z (λ q. ListedBelow old.facility.counter q.resources.marks.trans.list)) e.made.makes.makes.had logged.names)

    names_kept : (adopted : Option Adopted) (rest : RestartHeld) → Takes reached adopted rest → ListedBelow old.facility.counter rest.resources.marks.trans.list
    names_kept adopted rest (inl takes) = subst (λ (q : RestartHeld). ListedBelow old.facility.counter q.resources.marks.trans.list) (sym takes.1) low.names
    names_kept adopted rest (inr takes) = subst (λ (q : RestartHeld). ListedBelow old.facility.counter q.resources.marks.trans.list) (sym takes.1) (handed_below old.facility.counter reached.resources.marks reached.resources.marks.kept low.names)

    names_on : (b : Bool) → GoesOn b reached m.holds e.made.mid.restart ends.left → IfSome e.made.mid.restart (λ q. ListedBelow old.facility.counter q.resources.marks.trans.list)
    names_on true over = subst (λ (x : Option RestartHeld). IfSome x (λ q. ListedBelow old.facility.counter q.resources.marks.trans.list)) (sym over.0) tt
    names_on false over = subst (λ (x : Option RestartHeld). IfSome x (λ q. ListedBelow old.facility.counter q.resources.marks.trans.list)) (sym over.restart) (names_kept over.left over.rest over.takes)

    -- no slot of it has a transaction, so what it takes over is counted
    counted : AreCounted new.facility.counter n.holds.marks
    counted =
        let taken : AreCounted old.facility.counter ends.left.marks = hands_counted facts.counts.adopt old.facility.counter reached.resources.marks.is_up reached m.holds ends.left e.made.mid.restart ends.goes_on low.names (all_free m.holds.marks stood.slots none) logged.counted in
        let after : AreCounted old.facility.counter ends.after.marks = facts.counts.reach old.facility.counter (begun ends.left e.place).marks ends.after.marks ends.tells.0 (counted_still ends.left.marks [] None None None e.place old.facility.counter taken) in
        subst (λ (z : Member). AreCounted new.facility.counter z.holds.marks) (sym e.made.enters.member)
        (counted_still e.made.mid.holds.marks e.made.mid.holds.marks.trans.decided e.made.mid.holds.marks.trans.offer None None e.made.mid.holds.marks.trans.place new.facility.counter
        (subst (λ (z : Member). AreCounted new.facility.counter z.holds.marks) (sym ends.member) (facts.counts.more old.facility.counter new.facility.counter ends.after.marks rises after)))

    -- what its member is told changes nothing of it
    told_through : (x : List ℕ) → LogLocked x [] ends.left.marks → LogLocked x [] n.holds.marks
    told_through x locked = subst (λ (z : Member). LogLocked x [] z.holds.marks) (sym e.made.enters.member)
        (told_locked e.made.mid.holds x (subst (λ (z : Member). LogLocked x [] z.holds.marks) (sym ends.member) (facts.locked x [] (begun ends.left e.place).marks ends.after.marks ends.tells.0 (begun_locked ends.left e.place x locked))))

    course_on : (b : Bool) → GoesOn b reached m.holds e.made.mid.restart ends.left → IfSome e.made.mid.restart (λ q. RestartCourse (log_of d.logs (at + 1)) q.resources.marks n.holds.marks)
    course_on true over = subst (λ (x : Option RestartHeld). IfSome x (λ q. RestartCourse (log_of d.logs (at + 1)) q.resources.marks n.holds.marks)) (sym over.0) tt
    course_on false over = subst (λ (x : Option RestartHeld). IfSome x (λ q. RestartCourse (log_of d.logs (at + 1)) q.resources.marks n.holds.marks)) (sym over.restart)
        (own_course (log_of d.logs (at + 1)) over.rest.resources.marks ends.left.marks n.holds.marks told_through
        (facts.courses.hands (log_of d.logs (at + 1)) reached over.rest over.left m.holds ends.left (follows.order standing.order) stood.free none over.takes over.adopts course))

    left_so : (b : Bool) → b ≡ true → GoesOn b reached m.holds e.made.mid.restart ends.left → ends.left ≡ m.holds
    left_so true is over = over.1
    left_so false is over = absurd (never (sym is))

    -- nothing is left of it where it has made its member live
    ended : v.facility.lists.statuses ≢ u.facility.lists.statuses → LeavesNothing reached.resources.marks
    ended changed =
        let so : EndsSo before.resources.marks reached.resources.marks = facts.tell (as_restarting u) (as_restarting v) before.resources reached.resources e.sent e.answered e.made.makes.makes.happens standing.order changed in
        let over = subst (λ (z : Option RestartHeld). IfSome z (λ q. q.resources.marks.trans.left ≡ 0 → AllByRecursion (λ (x : RestartTran). x.stage ≡ stage.Over) q.resources.marks.trans.list)) e.made.makes.makes.had counts so.left in
        record {
          read = so.read;
          tail = so.tail;
          over = all_over before.resources.marks.trans.list reached.resources.marks.trans.list
              ((facts.lists (as_restarting u) (as_restarting v) before.resources reached.resources e.sent e.answered e.made.makes.makes.happens restart_logged.stands).read so.was) over;
        }

    -- no slot of it has a transaction
    none_goes : ends.left ≡ m.holds → (id : ℕ) → id ≢ 0 → forward_in n.holds.marks.trans id ≡ 0
    none_goes same id some =
        let before : forward_in m.holds.marks.trans id ≡ 0 = none_forward m.holds.marks (all_free m.holds.marks stood.slots none) id in
        let first : forward_in ends.left.marks.trans id ≡ 0 = ap (λ (z : MemberHeld). forward_in z.marks.trans id) same ∙ before in
        let less = facts.reaches (begun ends.left e.place).marks ends.after.marks ends.tells.0 id some in
        let last : forward_in ends.after.marks.trans id ≡ 0 = none_left (forward_in ends.after.marks.trans id) (forward_in ends.left.marks.trans id) less first in
        ap (λ (z : Member). forward_in z.holds.marks.trans id) e.made.enters.member ∙ (ap (λ (z : Member). forward_in z.holds.marks.trans id) ends.member ∙ last)

    up_by : reached.resources.marks.is_up ≡ true → v.facility.lists.statuses ≢ u.facility.lists.statuses → UpLogged (log_of d.logs (at + 1)) new.facility.counter n.holds.marks
    up_by is changed =
        let whole : LockedAlike (log_of d.logs (at + 1)) m.holds.marks = facts.courses.ends (log_of d.logs (at + 1)) reached.resources.marks m.holds stood.free none (ended changed) course in
        record {
          pend = [];
          locked = told_through (log_of d.logs (at + 1)) (subst (λ (z : MemberHeld). LogLocked (log_of d.logs (at + 1)) [] z.marks) (sym (left_so reached.resources.marks.is_up is ends.goes_on)) whole.locked);
          counted = counted;
          alike = fronts_begin facts.alike (log_of d.logs (at + 1)) whole.alike;
          forward = forward_begins (log_of d.logs (at + 1)) new.facility.counter n.holds.marks (none_goes (left_so reached.resources.marks.is_up is ends.goes_on));
        }

    up : status_of new.facility.lists.statuses (at + 1) ≡ Up → UpLogged (log_of d.logs (at + 1)) new.facility.counter n.holds.marks
    up is = elim sets.statuses [
      | inl x ↦ absurd (restarting_up (status_of old.facility.lists.statuses (at + 1)) restarting (sym (ap (λ (z : List MemberStatus). status_of z (at + 1)) x.1) ∙ is))
      | inr x ↦ up_by x.0 (λ same. restarting_up (status_of old.facility.lists.statuses (at + 1)) restarting (sym (ap (λ (z : List MemberStatus). status_of z (at + 1)) same) ∙ is))
    ]
