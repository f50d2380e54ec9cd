-- The logs of a group where nothing is held, and behind what leaves them as they were.
use Rattle.std.proofs.Common.{◌≡◌, ℕ, zero, suc, ◌+◌, ◌≤◌, refl, sym, ◌∙◌, ap, subst, arith, true, false, inl, inr, List, [], ◌∷◌, length, Option, Some, None}
use Rattle.std.specs.Prelude.{◌≢◌, ◌⊎◌, IfSome, is_some, slice_get}
use Rattle.std.specs.List.{AllByRecursion}
use Rattle.std.proofs.lemmas.Bool.{cases_eq}
use Rattle.std.proofs.lemmas.List.{append-nil}
use Rattle.ds_disk.specs.Contents.{Contents, log_of}
use Rattle.ds_model.specs.Rows.{Spot}
use Rattle.ds_model.specs.declared.log.LogRecord.{LogRecord}
use Rattle.lock_names.specs.declared.mode.Mode.{Mode}
use Rattle.lock_names.specs.declared.mode.Mode.TheVariants.{IX, X}
use Rattle.facility.specs.States.{Held as Facility}
use Rattle.list_structure.specs.declared.standing.MemberStatus.{MemberStatus}
use Rattle.list_structure.specs.declared.standing.MemberStatus.TheVariants as standing
use Rattle.list_structure.specs.Standings.{is_live, status_of}
use Rattle.log_rows.specs.Rows.{IsOpenIn, OpenTell}
use Rattle.log_trans.specs.Courses.{open_trans}
use Rattle.log_trans.specs.declared.opened.OpenTran.{OpenTran}
use Rattle.log_appends.specs.Appends.{AreLastFrom, LastSpell}
use Rattle.log_appends.specs.Rests.{NothingIsRest}
use Rattle.log_numbers.specs.Numbers.{AreCounted, CountedBegin, CountedMore, forward_in}
use Rattle.lock_protocol.specs.Machine.{Covers, World}
use Rattle.lock_world.specs.Rollbacks.{row_of, space_of}
use Rattle.lock_world.specs.Views.{rollback_owner}
use Rattle.member_marks.specs.State.{MarksState}
use Rattle.restart_marks.specs.State.{RestartState}
use Rattle.restart_law.specs.Reads.{AreLast}
use Rattle.restart_claims.specs.Claims.{ClaimsLeft, HasRow, HasRows}
use Rattle.failed_logs.specs.Given.{Restarting}
use Rattle.failed_logs.specs.Given.{IsDown, Member}
use Rattle.group_core.specs.Given.{CrewState}
use Rattle.failed_logs.specs.Given.{LockedBegins}
use Rattle.failed_logs.specs.Logs.{LogClaimed}
use Rattle.failed_logs.specs.Given.{LocksTied, MemberStands, RestartInHand}
use Rattle.log_trans.specs.declared.opened.OpenTran.{OpenTran}
use Rattle.restart_closing.specs.Closing.{ListedBelow, trans_of}
use Rattle.claimed_logs.specs.Courses.{LeavesAlike, RestartCourse, RestartHanded, RestartOpen, StandsAlike}
use Rattle.claimed_logs.specs.Found.{OpensKnown}
use Rattle.claimed_logs.specs.Logs.{ClosingLeaves, DownLogged, FreshLogged, GroupFailsLogged, LeavesOthers, LogCloses, LogsClaimed, LogsKnow, LogsLeave, MemberLogged, OneLogged, RestartLogged, UpLogged}
use Rattle.claimed_logs.proofs.Alike.{Facts as AlikeFacts, fronts_begin}
use Rattle.claimed_logs.proofs.Forward.{all_below, forward_begins, forward_on, new_forward}
use Rattle.claimed_logs.proofs.Idle.{idle_begins}

never : true ≡ false → ⊥
never e = cc

each : {A : Type 0} → (P Q : A → Type 0) → ((x : A) → P x → Q x) → (xs : List A) → AllByRecursion P xs → AllByRecursion Q xs
each P Q go [] h = tt
each P Q go (x ∷ xs) h = (go x h.0, each P Q go xs h.1)

pub last_from : (bytes : List ℕ) (records : List LogRecord) → (l : AreLast bytes records) → AreLastFrom bytes l.start records
last_from bytes records l = record { whole = l.whole; begins = l.begins; parts = l.parts; told = l.told; are = l.are }

-- ---- what restarts know
known : (log : List ℕ) (w : World) (s : RestartState) → RestartLogged log w s → OpensKnown w s
known log w s h = record {
  stands = h.stands;
  found = λ read. record { bytes = h.bytes; last = h.reads.records read; few = h.few s.own.records (h.reads.records read); claimed = h.claimed };
}

restart_known : (log : List ℕ) (w : World) (x : Option Restarting) → IfSome x (λ q. RestartLogged log w q.resources.marks) → IfSome x (λ q. OpensKnown w q.resources.marks)
restart_known log w None h = tt
restart_known log w (Some q) h = known log w q.resources.marks h

pub logs_know : LogsKnow
logs_know c s w l at = on (slice_get s.members at) (l.each at)
  where
    on : (o : Option Member) → IfSome o (MemberLogged s.facility w (at + 1) (log_of c.logs (at + 1))) → IfSome o (λ (m : Member). IfSome m.restart (λ q. OpensKnown w q.resources.marks))
    on None h = tt
    on (Some m) h = restart_known (log_of c.logs (at + 1)) w m.restart h.restarts

-- ---- what each log leaves
course_leaves : (log : List ℕ) (s : RestartState) (own : MarksState) → RestartCourse log s own → LeavesAlike log
course_leaves log s own c = by c.goes
  where
    by : RestartOpen c.whole c.rest s own ⊎ RestartHanded c.whole c.rest s own → LeavesAlike log
    by (inl o) = record { whole = c.whole; rest = c.rest; is = c.is; are = o.closes.whole; is_rest = o.closes.is_rest; alike = c.alike }
    by (inr o) = record { whole = c.whole; rest = c.rest; is = c.is; are = o.locked.whole; is_rest = o.is_rest; alike = c.alike }

restart_leaves : (log : List ℕ) (own : MarksState) (x : Option Restarting) → is_some x ≡ true → IfSome x (λ q. RestartCourse log q.resources.marks own) → LeavesAlike log
restart_leaves log own None is c = absurd (never (sym is))
restart_leaves log own (Some q) is c = course_leaves log q.resources.marks own c

up_leaves : NothingIsRest → (log : List ℕ) (counter : ℕ) (s : MarksState) → UpLogged log counter s → LeavesAlike log
up_leaves nothing log counter s up = record { whole = log; rest = []; is = sym (append-nil log); are = up.locked.whole; is_rest = nothing; alike = subst StandsAlike (append-nil log) (up.alike [] up.pend refl) }

member_leaves : NothingIsRest → (f : Facility) (w : World) (k : ℕ) (log : List ℕ) (m : Member) (z : MemberStatus) → status_of f.lists.statuses k ≡ z → MemberStands f k m → MemberLogged f w k log m → LeavesAlike log
member_leaves nothing f w k log m standing.Down is stood h = (h.down (ap is_live is)).leaves
member_leaves nothing f w k log m standing.Up is stood h = up_leaves nothing log f.counter m.holds.marks (h.up is)
member_leaves nothing f w k log m standing.Failed is stood h = (h.down (ap is_live is)).leaves
member_leaves nothing f w k log m standing.Restarting is stood h = restart_leaves log m.holds.marks m.restart (stood.restarts is) h.course

pub logs_leave : NothingIsRest → LogsLeave
logs_leave nothing c s w t l at = on (slice_get s.members at) (t.stands at) (l.each at)
  where
    on : (o : Option Member) → IfSome o (MemberStands s.facility (at + 1)) → IfSome o (MemberLogged s.facility w (at + 1) (log_of c.logs (at + 1))) → IfSome o (λ (m : Member). LeavesAlike (log_of c.logs (at + 1)))
    on None stood h = tt
    on (Some m) stood h = member_leaves nothing s.facility w (at + 1) (log_of c.logs (at + 1)) m (status_of s.facility.lists.statuses (at + 1)) refl stood h

-- ---- a log that leaves nothing open
pub closes_claimed : OpenTell → (log : List ℕ) (w : World) (k : ℕ) → LogCloses log → LogClaimed log w k
closes_claimed tell log w k closes records last = each (IsOpenIn records) (HasRows w k) none (open_trans records) (tell records)
  where
    none : (t : OpenTran) → IsOpenIn records t → HasRows w k t
    none t opened spot touched = absurd (never (sym (closes.closed last.start records (last_from log records last) t.id spot opened.numbered (opened.changed spot touched)) ∙ opened.unclosed))

closes_alike : (log : List ℕ) → LogCloses log → StandsAlike log
closes_alike log closes = record { opens = λ start back last begin other also id spot some changed. inl (closes.closed begin other also id spot some changed); commits = closes.commits }

pub closes_leaves : NothingIsRest → ClosingLeaves
closes_leaves nothing log closes = record { whole = log; rest = []; is = sym (append-nil log); are = closes.whole; is_rest = nothing; alike = closes_alike log closes }

pub record FreshFacts : Type 0 where
  pub alike : AlikeFacts
  pub tell : OpenTell
  pub begin : LockedBegins
  pub spell : LastSpell
  pub nothing : NothingIsRest
  pub counted : CountedBegin

pub fresh_logged : FreshFacts → FreshLogged
fresh_logged facts c s w t down there close low = record { there = there; each = λ at. on at (slice_get s.members at) (down at) (close at) (t.stands at) }
  where
    on : (at : ℕ) (o : Option Member) → IfSome o (IsDown s.sizes) → IfSome o (λ (m : Member). LogCloses (log_of c.logs (at + 1))) → IfSome o (MemberStands s.facility (at + 1)) → IfSome o (MemberLogged s.facility w (at + 1) (log_of c.logs (at + 1)))
    on at None d closes stood = tt
    on at (Some m) d closes stood = record {
      up = λ _. record {
        pend = [];
        locked = facts.begin (log_of c.logs (at + 1)) m.id s.sizes m.holds closes.whole stood.book d.holds closes.closed;
        counted = facts.counted s.facility.counter m.id s.sizes m.holds d.holds;
        alike = fronts_begin facts.alike (log_of c.logs (at + 1)) (closes_alike (log_of c.logs (at + 1)) closes);
        forward = forward_begins (log_of c.logs (at + 1)) s.facility.counter m.holds.marks (λ id some. new_forward m.id s.sizes m.holds d.holds id);
      };
      restarts = subst (λ (z : Option Restarting). IfSome z (λ q. RestartLogged (log_of c.logs (at + 1)) w q.resources.marks)) (sym d.rests) tt;
      course = subst (λ (z : Option Restarting). IfSome z (λ q. RestartCourse (log_of c.logs (at + 1)) q.resources.marks m.holds.marks)) (sym d.rests) tt;
      down = λ _. record {
        claimed = closes_claimed facts.tell (log_of c.logs (at + 1)) w (at + 1) closes;
        leaves = closes_leaves facts.nothing (log_of c.logs (at + 1)) closes;
        idle = idle_begins facts.begin facts.spell m.id s.sizes m.holds stood.book d.holds;
      };
      counted = facts.counted s.facility.counter m.id s.sizes m.holds d.holds;
      below = low at;
      names = subst (λ (z : Option Restarting). IfSome z (λ q. ListedBelow s.facility.counter q.resources.marks.trans.list)) (sym d.rests) tt;
    }

pub group_fails_logged : GroupFailsLogged
group_fails_logged c old new w fails l = subst (λ (z : CrewState). LogsClaimed c z w) (sym fails.rest) (record { there = l.there; each = l.each })

-- ---- a member that is as it was
same_row : (w z : World) (m owner : ℕ) (spot : Spot) → ((o c : ℕ) → z.claims m o c ≡ w.claims m o c) → HasRow w m owner spot → HasRow z m owner spot
same_row w z m owner spot same h = (
  subst (λ (x : Option Mode). Covers x IX) (sym (same owner (space_of spot))) h.0,
  subst (λ (x : Option Mode). Covers x X) (sym (same owner (row_of spot))) h.1,
)

pub log_left : (log : List ℕ) (w z : World) (m : ℕ) → ((o c : ℕ) → z.claims m o c ≡ w.claims m o c) → LogClaimed log w m → LogClaimed log z m
log_left log w z m same claimed records last =
    each (HasRows w m) (HasRows z m) (λ x h spot touched. same_row w z m (rollback_owner x.id) spot same (h spot touched)) (open_trans records) (claimed records last)

at_most : (n : ℕ) → n ≤ n
at_most n = omega arith

opens_below : (c d : ℕ) (ts : List OpenTran) → c ≤ d → AllByRecursion (λ (t : OpenTran). t.id ≤ c) ts → AllByRecursion (λ (t : OpenTran). t.id ≤ d) ts
opens_below c d [] le low = tt
opens_below c d (t ∷ ts) le low = (let first = low.0 in omega (arith, first, le), opens_below c d ts le low.1)

-- the numbers of a restart's transactions, beside a counter that has risen
pub names_below : (c d : ℕ) (x : Option Restarting) → c ≤ d → IfSome x (λ q. ListedBelow c q.resources.marks.trans.list) → IfSome x (λ q. ListedBelow d q.resources.marks.trans.list)
names_below c d None le low = tt
names_below c d (Some q) le low = opens_below c d (trans_of q.resources.marks.trans.list) le low

pub record LeftFacts : Type 0 where
  pub left : ClaimsLeft
  pub more : CountedMore

restart_left : ClaimsLeft → (log : List ℕ) (w z : World) (k : ℕ) (s : RestartState) → s.member ≡ k → ((o c : ℕ) → z.claims k o c ≡ w.claims k o c) → RestartLogged log w s → RestartLogged log z s
restart_left law log w z k s own same h = record {
  bytes = h.bytes;
  are = h.are;
  few = h.few;
  brief = h.brief;
  counts = h.counts;
  stands = h.stands;
  reads = h.reads;
  claimed = law h.bytes w z s (λ o c. subst (λ (n : ℕ). z.claims n o c ≡ w.claims n o c) (sym own) (same o c)) h.claimed;
  unread = h.unread;
}

restarts_left : ClaimsLeft → (log : List ℕ) (w z : World) (k : ℕ) (m : Member) (x : Option Restarting) → RestartInHand k m x → ((o c : ℕ) → z.claims k o c ≡ w.claims k o c)
    → IfSome x (λ q. RestartLogged log w q.resources.marks) → IfSome x (λ q. RestartLogged log z q.resources.marks)
restarts_left law log w z k m None stands same h = tt
restarts_left law log w z k m (Some q) stands same h = restart_left law log w z k q.resources.marks stands.member same h

pub member_left : LeftFacts → (f g : Facility) (w z : World) (k : ℕ) (log : List ℕ) (m : Member) → f.counter ≤ g.counter → status_of g.lists.statuses k ≡ status_of f.lists.statuses k → ((o c : ℕ) → z.claims k o c ≡ w.claims k o c)
    → RestartInHand k m m.restart → MemberLogged f w k log m → MemberLogged g z k log m
member_left facts f g w z k log m rises status same stands h = record {
  up = λ up. let before : UpLogged log f.counter m.holds.marks = h.up (sym status ∙ up) in record { pend = before.pend; locked = before.locked; counted = facts.more f.counter g.counter m.holds.marks rises before.counted; alike = before.alike; forward = forward_on log before.pend f.counter g.counter m.holds.marks m.holds.marks rises (λ id some. at_most (forward_in m.holds.marks.trans id)) before.forward };
  restarts = restarts_left facts.left log w z k m m.restart stands same h.restarts;
  course = h.course;
  down = λ dead. let before : DownLogged log w k m.holds.marks = h.down (sym (ap is_live status) ∙ dead) in record { claimed = log_left log w z k same before.claimed; leaves = before.leaves; idle = before.idle };
  counted = facts.more f.counter g.counter m.holds.marks rises h.counted;
  below = λ start back last. all_below f.counter g.counter back rises (h.below start back last);
  names = names_below f.counter g.counter m.restart rises h.names;
}

pub one_logged : LeftFacts → OneLogged
one_logged facts c d old new w z at n t l leaves here = record {
  there = subst (λ (k : ℕ). k ≤ length d.logs) (sym leaves.members) (subst (λ (k : ℕ). length old.members ≤ k) (sym leaves.logs) l.there);
  each = at_all;
}
  where
    on : (k : ℕ) (o : Option Member) → k ≢ at → IfSome o (MemberStands old.facility (k + 1)) → IfSome o (MemberLogged old.facility w (k + 1) (log_of c.logs (k + 1)))
        → IfSome o (MemberLogged new.facility z (k + 1) (log_of d.logs (k + 1)))
    on k None ne stood h = tt
    on k (Some m) ne stood h = subst (λ (log : List ℕ). MemberLogged new.facility z (k + 1) log m) (sym (leaves.left k ne))
        (member_left facts old.facility new.facility w z (k + 1) (log_of c.logs (k + 1)) m leaves.counter (leaves.statuses k ne) (λ o q. leaves.claims k o q ne) stood.restart h)

    at_all : (k : ℕ) → IfSome (slice_get new.members k) (MemberLogged new.facility z (k + 1) (log_of d.logs (k + 1)))
    at_all k = elim (cases_eq k at) [
      | inl e ↦ subst (λ (j : ℕ). IfSome (slice_get new.members j) (MemberLogged new.facility z (j + 1) (log_of d.logs (j + 1)))) (sym e)
          (subst (λ (x : Option Member). IfSome x (MemberLogged new.facility z (at + 1) (log_of d.logs (at + 1)))) (sym leaves.has) here)
      | inr ne ↦ subst (λ (x : Option Member). IfSome x (MemberLogged new.facility z (k + 1) (log_of d.logs (k + 1)))) (sym (leaves.others k ne)) (on k (slice_get old.members k) ne (t.stands k) (l.each k))
    ]
