-- The logs of a group behind the begin of a phase.
use Rattle.std.proofs.Common.{◌≡◌, ℕ, zero, suc, ◌+◌, ◌≤◌, ◌<◌, refl, sym, ◌∙◌, ap, subst, arith, Bool, true, false, inl, inr, List, [], ◌∷◌, length, Option, Some, None}
use Rattle.std.specs.Prelude.{◌≢◌, ◌-◌, ◌&&◌, if◌then◌else◌, IfSome, IsSomeAnd, slice_get, slice_index_or, slice_set}
use Rattle.std.proofs.lemmas.Bool.{and_parts}
use Rattle.ds_disk.specs.Contents.{Contents, log_of}
use Rattle.ds_disk.specs.Logs.{IsLogOfBytes}
use Rattle.ds_model.specs.declared.script.Phase.{Phase}
use Rattle.facility.specs.States.{Held as Facility}
use Rattle.list_structure.specs.declared.standing.MemberStatus.{MemberStatus}
use Rattle.list_structure.specs.declared.standing.MemberStatus.TheVariants.{Down, Failed, Restarting, Up}
use Rattle.list_structure.specs.Standings.{is_live, status_of}
use Rattle.list_structure.specs.States.{ListsState}
use Rattle.lock_protocol.specs.Machine.{World}
use Rattle.log_numbers.specs.Numbers.{AreCounted, CountedMore}
use Rattle.member_marks.specs.State.{MarksState}
use Rattle.restart_marks.specs.State.{RestartState}
use Rattle.restart_records.specs.Own.{OwnState}
use Rattle.restart_resources.specs.Held.{IsNew}
use Rattle.restart_law.specs.Few.{ShortLogsNeedFew}
use Rattle.restart_law.specs.Opens.{OpensBegin}
use Rattle.restart_law.specs.Reads.{KnowsWhole, ReadsBegin}
use Rattle.restart_claims.specs.Claims.{ClaimsLeft}
use Rattle.restart_closing.specs.Closing.{ClosesBegin, ListedBelow}
use Rattle.restart_closing.specs.Leaving.{LogsLeaveFew}
use Rattle.script_phases.specs.Phases.{is_failed, restarts_in}
use Rattle.failed_logs.specs.Given.{Restarting as RestartHeld}
use Rattle.failed_logs.specs.Given.{Member}
use Rattle.group_core.specs.Given.{AllRestart, PhaseBegins, Restarts, begins_restart, lists_begun, restarting}
use Rattle.group_core.specs.Given.{CrewState}
use Rattle.failed_logs.specs.Logs.{BeginsClaimed, LogClaimed}
use Rattle.failed_logs.specs.Given.{Moves, MovesSpare, OfPhase}
use Rattle.failed_logs.specs.Given.{LocksTied, MemberStands}
use Rattle.failed_logs.specs.Given.{LogLocked}
use Rattle.claimed_logs.specs.Beginning.{BeginKnowing, PhasesLogged}
use Rattle.claimed_logs.specs.Courses.{LeavesAlike, RestartCourse}
use Rattle.claimed_logs.specs.Logs.{DownLogged, LogsClaimed, MemberLogged, RestartLogged}
use Rattle.claimed_logs.proofs.Forward.{all_below}
use Rattle.claimed_logs.proofs.Logs.{LeftFacts, last_from, log_left, member_left}

never : true ≡ false → ⊥
never e = cc

-- ---- standings
set_there : (xs : List MemberStatus) (i : ℕ) (a : MemberStatus) → is_failed (slice_index_or xs i Down) ≡ true → slice_index_or (slice_set xs i a) i Down ≡ a
set_there [] i a e = absurd (never (sym e))
set_there (x ∷ xs) zero a e = refl
set_there (x ∷ xs) (suc i) a e = set_there xs i a e

set_apart : (xs : List MemberStatus) (i j : ℕ) (a : MemberStatus) → j ≢ i → slice_index_or (slice_set xs i a) j Down ≡ slice_index_or xs j Down
set_apart [] i j a ne = refl
set_apart (x ∷ xs) zero zero a ne = absurd (ne refl)
set_apart (x ∷ xs) zero (suc j) a ne = refl
set_apart (x ∷ xs) (suc i) zero a ne = refl
set_apart (x ∷ xs) (suc i) (suc j) a ne = set_apart xs i j a (λ e. ne (ap suc e))

less_one : (j k : ℕ) → 1 ≤ j → 1 ≤ k → j ≢ k → j - 1 ≢ k - 1
less_one j k a b ne e = let same : j ≡ k = omega (arith, a, b, e) in ne same

-- those of members before and behind the one that begins
begun_apart : (phase : Phase) (lists : ListsState) (k j : ℕ) → 1 ≤ j → 1 ≤ k → j ≢ k → status_of (lists_begun phase lists k).statuses j ≡ status_of lists.statuses j
begun_apart phase lists k j one here ne = by (begins_restart phase lists.statuses k)
  where
    by : (b : Bool) → status_of (if b then restarting lists k else lists).statuses j ≡ status_of lists.statuses j
    by true = set_apart lists.statuses (k - 1) (j - 1) Restarting (less_one j k one here ne)
    by false = refl

begun_there : (phase : Phase) (lists : ListsState) (k : ℕ) → begins_restart phase lists.statuses k ≡ true → status_of (lists_begun phase lists k).statuses k ≡ Restarting
begun_there phase lists k e =
    ap (λ (b : Bool). status_of (if b then restarting lists k else lists).statuses k) e
    ∙ set_there lists.statuses (k - 1) Restarting (and_parts (is_failed (status_of lists.statuses k)) (restarts_in phase k) e).0

unbegun_there : (phase : Phase) (lists : ListsState) (k : ℕ) → begins_restart phase lists.statuses k ≡ false → status_of (lists_begun phase lists k).statuses k ≡ status_of lists.statuses k
unbegun_there phase lists k e = ap (λ (b : Bool). status_of (if b then restarting lists k else lists).statuses k) e

-- ---- one member, by whether its restart begins
abbrev Turns : Bool → Member → Member → MemberStatus → MemberStatus → Type 0
Turns true m n before now = IsSomeAnd n.restart (λ q. IsNew m.id q.resources) × (n ≡ record m { restart = n.restart }) × (now ≡ Restarting)
Turns false m n before now = (n ≡ m) × (now ≡ before)

abbrev TurnsAt : Phase → ListsState → ListsState → ℕ → Option Member → Option Member → Type 0
TurnsAt phase lists now k None None = Unit {0}
TurnsAt phase lists now k None (Some n) = ⊥
TurnsAt phase lists now k (Some m) None = ⊥
TurnsAt phase lists now k (Some m) (Some n) = Turns (begins_restart phase lists.statuses k) m n (status_of lists.statuses k) (status_of now.statuses k)

-- ---- all of them, from the one with this number on
record AllTurn (phase : Phase) (lists now : ListsState) (k : ℕ) (ms ns : List Member) : Type 0 where
  before : (j : ℕ) → 1 ≤ j → j < k → status_of now.statuses j ≡ status_of lists.statuses j
  turn : (at : ℕ) → TurnsAt phase lists now (k + at) (slice_get ms at) (slice_get ns at)
  count : length ns ≡ length ms

abbrev AreNumberedFrom : ℕ → List Member → Type 0
AreNumberedFrom k ms = (at : ℕ) → IfSome (slice_get ms at) (λ (m : Member). m.id ≡ k + at)

next_number : (k at : ℕ) → k + suc at ≡ suc k + at
next_number k at = omega arith

first_number : (k : ℕ) → k + 0 ≡ k
first_number k = omega arith

numbered_on : (k : ℕ) (m : Member) (ms : List Member) → AreNumberedFrom k (m ∷ ms) → AreNumberedFrom (suc k) ms
numbered_on k m ms each at = subst (λ (z : ℕ). IfSome (slice_get ms at) (λ (x : Member). x.id ≡ z)) (next_number k at) (each (suc at))

turns_as : (b : Bool) (m n : Member) (before now later : MemberStatus) → later ≡ now → Turns b m n before now → Turns b m n before later
turns_as true m n before now later e h = (h.0, h.1, e ∙ h.2)
turns_as false m n before now later e h = (h.0, e ∙ h.1)

-- a turn over the lists as they are once the first one has begun is one over the lists as they were
turns_before : (phase : Phase) (lists mid now : ListsState) (k : ℕ) (x y : Option Member) → status_of mid.statuses k ≡ status_of lists.statuses k → TurnsAt phase mid now k x y → TurnsAt phase lists now k x y
turns_before phase lists mid now k None None e h = tt
turns_before phase lists mid now k None (Some n) e h = absurd h
turns_before phase lists mid now k (Some m) None e h = absurd h
turns_before phase lists mid now k (Some m) (Some n) e h =
    subst (λ (s : MemberStatus). Turns (is_failed s && restarts_in phase k) m n s (status_of now.statuses k)) e h

turn_first : (phase : Phase) (lists : ListsState) (k : ℕ) (m n : Member) (b : Bool) → begins_restart phase lists.statuses k ≡ b → Restarts b m n → Turns b m n (status_of lists.statuses k) (status_of (lists_begun phase lists k).statuses k)
turn_first phase lists k m n true e h = (h.0, h.1, begun_there phase lists k e)
turn_first phase lists k m n false e h = (h, unbegun_there phase lists k e)

-- those behind the first one, and so the first one too
turn_on : (phase : Phase) (lists now : ListsState) (k : ℕ) (m n : Member) (ms ns : List Member) → 1 ≤ k → m.id ≡ k → Restarts (begins_restart phase lists.statuses k) m n → AllTurn phase (lists_begun phase lists k) now (suc k) ms ns
    → AllTurn phase lists now k (m ∷ ms) (n ∷ ns)
turn_on phase lists now k m n ms ns one id begins rest = record { before = before; turn = turn; count = ap suc rest.count }
  where
    mid : ListsState
    mid = lists_begun phase lists k

    before : (j : ℕ) → 1 ≤ j → j < k → status_of now.statuses j ≡ status_of lists.statuses j
    before j a b = rest.before j a (omega (arith, b)) ∙ begun_apart phase lists k j a one (λ e. omega (arith, b, e))

    first : Turns (begins_restart phase lists.statuses k) m n (status_of lists.statuses k) (status_of now.statuses k)
    first = turns_as (begins_restart phase lists.statuses k) m n (status_of lists.statuses k) (status_of mid.statuses k) (status_of now.statuses k) (rest.before k one (omega arith))
        (turn_first phase lists k m n (begins_restart phase lists.statuses k) refl begins)

    turn : (at : ℕ) → TurnsAt phase lists now (k + at) (slice_get (m ∷ ms) at) (slice_get (n ∷ ns) at)
    turn zero = subst (λ (z : ℕ). TurnsAt phase lists now z (Some m) (Some n)) (sym (first_number k)) first
    turn (suc at) = subst (λ (z : ℕ). TurnsAt phase lists now z (slice_get ms at) (slice_get ns at)) (sym (next_number k at))
        (turns_before phase lists mid now (suc k + at) (slice_get ms at) (slice_get ns at) (begun_apart phase lists k (suc k + at) (omega arith) one (λ e. omega (arith, e))) (rest.turn at))

all_turn : (phase : Phase) (lists now : ListsState) (k : ℕ) (ms ns : List Member) → 1 ≤ k → AreNumberedFrom k ms → AllRestart phase lists ms ns now → AllTurn phase lists now k ms ns
all_turn phase lists now k [] [] one each all = record { before = λ j a b. ap (λ (z : ListsState). status_of z.statuses j) all; turn = λ at. tt; count = refl }
all_turn phase lists now k [] (n ∷ ns) one each all = absurd all
all_turn phase lists now k (m ∷ ms) [] one each all = absurd all
all_turn phase lists now k (m ∷ ms) (n ∷ ns) one each all =
    let id : m.id ≡ k = each 0 ∙ first_number k in
    turn_on phase lists now k m n ms ns one id (subst (λ (z : ℕ). Restarts (begins_restart phase lists.statuses z) m n) id all.0)
    (all_turn phase (lists_begun phase lists k) now (suc k) ms ns (omega arith) (numbered_on k m ms each) (subst (λ (z : ℕ). AllRestart phase (lists_begun phase lists z) ms ns now) id all.1))

-- ---- the logs
pub record Facts : Type 0 where
  pub spare : MovesSpare
  pub begins : BeginsClaimed
  pub opens : OpensBegin
  pub reads : ReadsBegin
  pub left : ClaimsLeft
  pub more : CountedMore
  pub closes : ClosesBegin
  pub short : ShortLogsNeedFew
  pub few : LogsLeaveFew

dead_by : (s : MemberStatus) → is_failed s ≡ true → is_live s ≡ false
dead_by Down e = absurd (never (sym e))
dead_by Up e = absurd (never (sym e))
dead_by Failed e = refl
dead_by Restarting e = absurd (never (sym e))

restarting_up : (s : MemberStatus) → s ≡ Restarting → s ≡ Up → ⊥
restarting_up s a b = cc

restarting_dead : (s : MemberStatus) → s ≡ Restarting → is_live s ≡ false → ⊥
restarting_dead s a b = never (sym (ap is_live a) ∙ b)

-- a restart that begins finds the claims of what the log leaves open
begun_logged : Facts → (log : List ℕ) (w : World) (k : ℕ) (x : Option RestartHeld) → IsLogOfBytes log → LogClaimed log w k → IsSomeAnd x (λ q. IsNew k q.resources) → IfSome x (λ q. KnowsWhole log q.resources.marks)
    → IfSome x (λ q. RestartLogged log w q.resources.marks)
begun_logged facts log w k None is claimed fresh knows = absurd fresh
begun_logged facts log w k (Some q) is claimed fresh knows = record {
  bytes = log;
  are = is.are;
  few = facts.short log is.short;
  brief = λ records last. facts.few log is.short last.start records (last_from log records last);
  counts = (let none = ap (λ (z : RestartState). length z.trans.list) fresh.marks.rest in omega (arith, none));
  stands = facts.opens k q.resources.marks fresh.marks;
  reads = facts.reads k log q.resources.marks fresh.marks knows;
  claimed = facts.begins log w k q.resources.marks fresh.marks claimed;
  unread = λ _. refl;
}

-- and it begins over a log that leaves the same open wherever reading may begin
begun_course : ClosesBegin → (log : List ℕ) (k : ℕ) (x : Option RestartHeld) (own : MarksState) → LeavesAlike log → LogLocked [] [] own → IsSomeAnd x (λ q. IsNew k q.resources) → IfSome x (λ q. RestartCourse log q.resources.marks own)
begun_course law log k None own leaves idle fresh = absurd fresh
begun_course law log k (Some q) own leaves idle fresh = record {
  whole = leaves.whole;
  rest = leaves.rest;
  is = leaves.is;
  alike = leaves.alike;
  goes = inl (record { pend = []; closes = law leaves.whole leaves.rest k q.resources.marks leaves.are leaves.is_rest leaves.alike.opens fresh.marks; idle = idle });
}

-- with no transaction
begun_names : (counter k : ℕ) (x : Option RestartHeld) → IsSomeAnd x (λ q. IsNew k q.resources) → IfSome x (λ q. ListedBelow counter q.resources.marks.trans.list)
begun_names counter k None fresh = absurd fresh
begun_names counter k (Some q) fresh = subst (λ (z : RestartState). ListedBelow counter z.trans.list) (sym fresh.marks.rest) tt

member_turns : Facts → (c : Contents) (phase : Phase) (f g : Facility) (w z : World) (k : ℕ) (log : List ℕ) (m n : Member) (b : Bool) → begins_restart phase f.lists.statuses k ≡ b → Turns b m n (status_of f.lists.statuses k) (status_of g.lists.statuses k)
    → f.counter ≤ g.counter → ((o q : ℕ) → z.claims k o q ≡ w.claims k o q) → MemberStands f k m → IsLogOfBytes log → (begins_restart phase f.lists.statuses n.id ≡ true → IfSome n.restart (λ q. KnowsWhole log q.resources.marks))
    → MemberLogged f w k log m → MemberLogged g z k log n
member_turns facts c phase f g w z k log m n true e turns rises same stood is knows h = record {
  up = λ up. absurd (restarting_up (status_of g.lists.statuses k) turns.2 up);
  restarts = begun_logged facts log z k n.restart is (log_left log w z k same was.claimed) fresh (knows (ap (λ (i : ℕ). begins_restart phase f.lists.statuses i) id ∙ e));
  course = subst (λ (own : MarksState). IfSome n.restart (λ q. RestartCourse log q.resources.marks own)) (sym holds) (begun_course facts.closes log k n.restart m.holds.marks was.leaves was.idle fresh);
  down = λ dead. absurd (restarting_dead (status_of g.lists.statuses k) turns.2 dead);
  counted = subst (AreCounted g.counter) (sym holds) (facts.more f.counter g.counter m.holds.marks rises h.counted);
  below = λ start back last. all_below f.counter g.counter back rises (h.below start back last);
  names = begun_names g.counter k n.restart fresh;
}
  where
    id : n.id ≡ k
    id = ap (λ (x : Member). x.id) turns.1 ∙ stood.id

    holds : n.holds.marks ≡ m.holds.marks
    holds = ap (λ (x : Member). x.holds.marks) turns.1

    was : DownLogged log w k m.holds.marks
    was = h.down (dead_by (status_of f.lists.statuses k) (and_parts (is_failed (status_of f.lists.statuses k)) (restarts_in phase k) e).0)

    fresh : IsSomeAnd n.restart (λ q. IsNew k q.resources)
    fresh = subst (λ (i : ℕ). IsSomeAnd n.restart (λ q. IsNew i q.resources)) stood.id turns.0
member_turns facts c phase f g w z k log m n false e turns rises same stood is knows h =
    subst (λ (x : Member). MemberLogged g z k log x) (sym turns.0) (member_left (record { left = facts.left; more = facts.more }) f g w z k log m rises turns.1 same stood.restart h)

pub phases_logged : Facts → PhasesLogged
phases_logged facts c phase old new w t p logs knows moves l = record {
  there = subst (λ (k : ℕ). k ≤ length c.logs) (sym turned.count) l.there;
  each = λ at. on at (slice_get old.members at) (slice_get new.members at) (subst (λ (k : ℕ). TurnsAt phase old.facility.lists p.lists k (slice_get old.members at) (slice_get new.members at)) (plus_one at) (turned.turn at)) (t.stands at) (knows at) (l.each at);
}
  where
    plus_one : (at : ℕ) → 1 + at ≡ at + 1
    plus_one at = omega arith

    numbered : (at : ℕ) (o : Option Member) → IfSome o (MemberStands old.facility (at + 1)) → IfSome o (λ (m : Member). m.id ≡ 1 + at)
    numbered at None h = tt
    numbered at (Some m) h = h.id ∙ sym (plus_one at)

    turned : AllTurn phase old.facility.lists p.lists 1 old.members new.members
    turned = all_turn phase old.facility.lists p.lists 1 old.members new.members (omega arith) (λ at. numbered at (slice_get old.members at) (t.stands at)) p.restarts

    statuses : new.facility.lists.statuses ≡ p.lists.statuses
    statuses = ap (λ (z : Facility). z.lists.statuses) p.facility.others

    counter : new.facility.counter ≡ old.facility.counter
    counter = ap (λ (z : Facility). z.counter) p.facility.others

    rises : old.facility.counter ≤ new.facility.counter
    rises = subst (λ (z : ℕ). old.facility.counter ≤ z) (sym counter) (omega arith)

    on : (at : ℕ) (x y : Option Member) → TurnsAt phase old.facility.lists p.lists (at + 1) x y → IfSome x (MemberStands old.facility (at + 1))
        → IfSome y (λ n. begins_restart phase old.facility.lists.statuses n.id ≡ true → IfSome n.restart (λ q. KnowsWhole (log_of c.logs (at + 1)) q.resources.marks))
        → IfSome x (MemberLogged old.facility w (at + 1) (log_of c.logs (at + 1))) → IfSome y (MemberLogged new.facility moves.world (at + 1) (log_of c.logs (at + 1)))
    on at None None turns stood known h = tt
    on at None (Some n) turns stood known h = absurd turns
    on at (Some m) None turns stood known h = absurd turns
    on at (Some m) (Some n) turns stood known h = member_turns facts c phase old.facility new.facility w moves.world (at + 1) (log_of c.logs (at + 1)) m n (begins_restart phase old.facility.lists.statuses (at + 1)) refl
        (turns_as (begins_restart phase old.facility.lists.statuses (at + 1)) m n (status_of old.facility.lists.statuses (at + 1)) (status_of p.lists.statuses (at + 1)) (status_of new.facility.lists.statuses (at + 1))
        (ap (λ (z : List MemberStatus). status_of z (at + 1)) statuses) turns)
        rises (λ o q. facts.spare OfPhase old new w moves (at + 1) o q refl) stood (logs (at + 1)) known h
