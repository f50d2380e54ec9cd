-- The logs of a group behind the failure of a member.
use Rattle.std.proofs.Common.{◌≡◌, ℕ, zero, suc, ◌+◌, ◌≤◌, ◌<◌, refl, sym, ◌∙◌, ap, subst, arith, Bool, true, false, inl, inr, List, [], ◌∷◌, ◌++◌, length, take, Option, Some, None}
use Rattle.std.specs.Prelude.{◌≢◌, ◌⊎◌, ◌-◌, ◌==◌, not, IfSome, nat_lt, slice_get, slice_index_or, slice_set}
use Rattle.std.proofs.lemmas.Bool.{eqb-true, lt-ltb}
use Rattle.std.proofs.lemmas.Option.{slice_get_within}
use Rattle.ds_disk.specs.Contents.{Contents, log_of}
use Rattle.list_structure.specs.declared.standing.MemberStatus.{MemberStatus}
use Rattle.list_structure.specs.declared.standing.MemberStatus.TheVariants.{Down, Failed, Restarting, Up}
use Rattle.list_structure.specs.Standings.{status_of}
use Rattle.list_structure.specs.States.{ListsState}
use Rattle.lock_protocol.specs.Machine.{World}
use Rattle.failed_logs.specs.Given.{Restarting as RestartHeld}
use Rattle.failed_logs.specs.Given.{Member}
use Rattle.group_core.specs.Given.{CrewState}
use Rattle.failed_logs.specs.Logs.{ClaimsOf, FailsClaimed, FailsLocked, FailsUnread, LogClaimed, StillClaimed}
use Rattle.failed_logs.specs.Given.{LockedBegins}
use Rattle.failed_logs.specs.Given.{Moves, MovesSpare, OfMember}
use Rattle.failed_logs.specs.Given.{LocksTied, MemberStands}
use Rattle.failed_logs.specs.Given.{FailsAt}
use Rattle.group_logs.specs.Logs.{OneGoes}
use Rattle.ds_model.specs.declared.log.LogRecord.{LogRecord}
use Rattle.log_appends.specs.Appends.{AreLastFrom, LastSpell}
use Rattle.log_appends.specs.Rests.{IsRest, LastWithoutRest}
use Rattle.log_numbers.specs.Numbers.{CountedBegin}
use Rattle.log_reader.specs.Keeping.{AreWhole}
use Rattle.restart_law.specs.Reads.{AreLast}
use Rattle.restart_closing.specs.Closing.{ListedBelow}
use Rattle.claimed_logs.specs.Courses.{LeavesAlike, RestartCourse}
use Rattle.claimed_logs.specs.Failing.{AnyBytes, HandedFailsLogged, HasFront, RestartFailsLogged, UpFailsLogged}
use Rattle.claimed_logs.specs.Logs.{LeavesOthers, LogBelow, LogsClaimed, MemberLogged, OneLogged, RestartLogged, UpLogged}
use Rattle.claimed_logs.proofs.Alike.{Facts as AlikeFacts, leaves_front, none_names}
use Rattle.claimed_logs.proofs.Below.{below_front}
use Rattle.claimed_logs.proofs.Idle.{idle_begins}
use Rattle.claimed_logs.proofs.Logs.{last_from}

pub record Facts : Type 0 where
  pub one : OneLogged
  pub spare : MovesSpare
  pub up : FailsClaimed
  pub unread : FailsUnread
  pub locked : FailsLocked
  pub alike : AlikeFacts
  pub begin : LockedBegins
  pub spell : LastSpell
  pub counted : CountedBegin
  pub without : LastWithoutRest

at_set : {A : Type 0} → (xs : List A) (i : ℕ) (a d : A) → (slice_index_or (slice_set xs i a) i d ≡ a) ⊎ (slice_index_or (slice_set xs i a) i d ≡ d)
at_set [] i a d = inr refl
at_set (x ∷ xs) zero a d = inl refl
at_set (x ∷ xs) (suc i) a d = at_set xs i a d

set_apart : {A : Type 0} → (xs : List A) (i j : ℕ) (a d : A) → j ≢ i → slice_index_or (slice_set xs i a) j d ≡ slice_index_or xs j d
set_apart [] i j a d ne = refl
set_apart (x ∷ xs) zero zero a d ne = absurd (ne refl)
set_apart (x ∷ xs) zero (suc j) a d ne = refl
set_apart (x ∷ xs) (suc i) zero a d ne = refl
set_apart (x ∷ xs) (suc i) (suc j) a d ne = set_apart xs i j a d (λ e. ne (ap suc e))

not_up : (s : MemberStatus) → (s ≡ Failed) ⊎ (s ≡ Down) → s ≡ Up → ⊥
not_up s (inl e) up = cc
not_up s (inr e) up = cc

apart : (k n : ℕ) → k ≢ n → not (k == n) ≡ true
apart k n ne = by (k == n) refl
  where
    by : (b : Bool) → (k == n) ≡ b → not b ≡ true
    by true e = absurd (ne (eqb-true k n e))
    by false e = refl

module _ (facts : Facts) (c d : Contents) (old new : CrewState) (at : ℕ) (m n : Member) (w : World) (t : LocksTied old w) (f : FailsAt old new at m n) (l : LogsClaimed c old w) where
  stood : MemberStands old.facility (at + 1) m
  stood = subst (λ (z : Option Member). IfSome z (MemberStands old.facility (at + 1))) f.had (t.stands at)

  index : (k : ℕ) → k + 1 - 1 ≡ k
  index k = omega arith

  own_index : m.id - 1 ≡ at
  own_index = ap (λ (z : ℕ). z - 1) stood.id ∙ index at

  statuses : new.facility.lists.statuses ≡ slice_set old.facility.lists.statuses (m.id - 1) Failed
  statuses = ap (λ (z : ListsState). z.statuses) f.failed.lists.others

  pub before : MemberLogged old.facility w (at + 1) (log_of c.logs (at + 1)) m
  before = subst (λ (z : Option Member). IfSome z (MemberLogged old.facility w (at + 1) (log_of c.logs (at + 1)))) f.had (l.each at)

  pub was : status_of old.facility.lists.statuses m.id ≡ Up → status_of old.facility.lists.statuses (at + 1) ≡ Up
  was up = ap (λ (z : ℕ). status_of old.facility.lists.statuses z) (sym stood.id) ∙ up

  pub there : nat_lt (at + 1 - 1) (length c.logs) ≡ true
  there =
      let within : at < length old.members = slice_get_within old.members at m f.had in
      let few = l.there in
      lt-ltb (at + 1 - 1) (length c.logs) (omega (arith, within, few))

  now_down : status_of new.facility.lists.statuses (at + 1) ≡ Up → ⊥
  now_down = not_up (status_of new.facility.lists.statuses (at + 1))
      (subst (λ (z : ℕ). (status_of new.facility.lists.statuses z ≡ Failed) ⊎ (status_of new.facility.lists.statuses z ≡ Down)) stood.id
      (subst (λ (z : List MemberStatus). (status_of z m.id ≡ Failed) ⊎ (status_of z m.id ≡ Down)) (sym statuses) (at_set old.facility.lists.statuses (m.id - 1) Failed Down)))

  status_apart : (k : ℕ) → k ≢ at → status_of new.facility.lists.statuses (k + 1) ≡ status_of old.facility.lists.statuses (k + 1)
  status_apart k ne =
      ap (λ (z : List MemberStatus). status_of z (k + 1)) statuses
      ∙ set_apart old.facility.lists.statuses (m.id - 1) (k + 1 - 1) Failed Down (λ e. ne (sym (index k) ∙ e ∙ own_index))

  other : (k : ℕ) → k ≢ at → k + 1 ≢ at + 1
  other k ne e = ne (omega (arith, e))

  other_id : (k : ℕ) → k ≢ at → k + 1 ≢ m.id
  other_id k ne e = other k ne (e ∙ stood.id)

  from_one : (k : ℕ) → 1 ≤ k + 1
  from_one k = omega arith

  -- where its log, as it is left, has its claims in the world that moves lead to
  pub behind : (Goes : List ℕ → List ℕ → Type 0) → OneGoes (at + 1) Goes c d → (moves : Moves (OfMember m.id) old new w) → LogClaimed (log_of d.logs (at + 1)) moves.world m.id → LeavesAlike (log_of d.logs (at + 1)) → LogBelow old.facility.counter (log_of d.logs (at + 1)) → LogsClaimed d new moves.world
  behind Goes goes moves claimed leaves low = facts.one c d old new w moves.world at n t l
      (record {
        has = f.has;
        members = f.count;
        others = f.others;
        logs = goes.count;
        left = λ k ne. goes.others (k + 1) (from_one k) (other k ne);
        counter = subst (λ (z : ℕ). old.facility.counter ≤ z) (sym f.failed.counter) (omega arith);
        statuses = status_apart;
        claims = λ k o q ne. facts.spare (OfMember m.id) old new w moves (k + 1) o q (apart (k + 1) m.id (other_id k ne));
      })
      (record {
        up = λ up. absurd (now_down up);
        restarts = subst (λ (z : Option RestartHeld). IfSome z (λ q. RestartLogged (log_of d.logs (at + 1)) moves.world q.resources.marks)) (sym f.down.rests) tt;
        course = subst (λ (z : Option RestartHeld). IfSome z (λ q. RestartCourse (log_of d.logs (at + 1)) q.resources.marks n.holds.marks)) (sym f.down.rests) tt;
        down = λ _. record {
          claimed = subst (λ (z : ℕ). LogClaimed (log_of d.logs (at + 1)) moves.world z) stood.id claimed;
          leaves = leaves;
          idle = idle_begins facts.begin facts.spell n.id old.sizes n.holds stood_now.book f.down.holds;
        };
        counted = facts.counted new.facility.counter n.id old.sizes n.holds f.down.holds;
        below = subst (λ (z : ℕ). LogBelow z (log_of d.logs (at + 1))) (sym f.failed.counter) low;
        names = subst (λ (z : Option RestartHeld). IfSome z (λ q. ListedBelow new.facility.counter q.resources.marks.trans.list)) (sym f.down.rests) tt;
      })
    where
      tied : LocksTied new moves.world
      tied = moves.tied

      stood_now : MemberStands new.facility (at + 1) n
      stood_now = subst (λ (z : Option Member). IfSome z (MemberStands new.facility (at + 1))) f.has (tied.stands at)

pub up_fails : Facts → UpFailsLogged
up_fails facts c d old new at m n w t f up goes l = record {
  moves = fails.moves;
  logs = behind facts c d old new at m n w t f l (HasFront m) goes fails.moves (subst (λ (z : List ℕ). LogClaimed z fails.moves.world m.id) (sym front.1) (fails.claimed front.0)) (subst LeavesAlike (sym front.1) leaves) (subst (LogBelow old.facility.counter) (sym front.1) low);
}
  where
    logged : UpLogged (log_of c.logs (at + 1)) old.facility.counter m.holds.marks
    logged = (before facts c d old new at m n w t f l).up (was facts c d old new at m n w t f l up)

    fails : ClaimsOf (log_of c.logs (at + 1)) old new w m
    fails = facts.up old new at old.facility.counter m n w (log_of c.logs (at + 1)) logged.pend t f up logged.counted logged.locked

    front : HasFront m (log_of c.logs (at + 1)) (log_of d.logs (at + 1))
    front = goes.own (there facts c d old new at m n w t f l)

    low : LogBelow old.facility.counter (log_of c.logs (at + 1) ++ take front.0 m.holds.marks.log.pending)
    low = subst (λ (z : List ℕ). LogBelow old.facility.counter (log_of c.logs (at + 1) ++ take front.0 z)) (sym logged.locked.spelled)
        (below_front old.facility.counter facts.alike.last (log_of c.logs (at + 1)) logged.pend front.0 logged.locked.whole logged.locked.allowed (none_names logged.pend logged.locked.plain) logged.forward.below (before facts c d old new at m n w t f l).below)

    leaves : LeavesAlike (log_of c.logs (at + 1) ++ take front.0 m.holds.marks.log.pending)
    leaves = subst (λ (z : List ℕ). LeavesAlike (log_of c.logs (at + 1) ++ take front.0 z)) (sym logged.locked.spelled)
        (leaves_front facts.alike (log_of c.logs (at + 1)) logged.pend front.0 logged.locked.whole logged.locked.allowed logged.alike)

pub restart_fails : Facts → RestartFailsLogged
restart_fails facts c d old new at m n w t f not_up goes left low l = record { moves = fails.moves; logs = behind facts c d old new at m n w t f l AnyBytes goes fails.moves fails.claimed left.leaves low }
  where
    fails : StillClaimed (log_of d.logs (at + 1)) old new w m
    fails = facts.unread old new at m n w (log_of d.logs (at + 1)) t f not_up left.claimed

-- ---- whose restart has handed over
from_last : (bytes : List ℕ) (start : ℕ) (records : List LogRecord) → AreLastFrom bytes start records → AreLast bytes records
from_last bytes start records l = record { start = start; whole = l.whole; begins = l.begins; parts = l.parts; told = l.told; are = l.are }

-- the last records of the log are those of its whole records
claimed_rest : LastWithoutRest → (whole rest : List ℕ) (w : World) (k : ℕ) → AreWhole whole → IsRest rest → LogClaimed whole w k → LogClaimed (whole ++ rest) w k
claimed_rest law whole rest w k are is_rest claimed records last = claimed records (from_last whole last.start records (law whole rest last.start records are is_rest (last_from (whole ++ rest) records last)))

pub handed_fails : Facts → HandedFailsLogged
handed_fails facts c d old new at m n w whole rest t f not_up goes is is_rest alike locked low l = record {
  moves = fails.moves;
  logs = behind facts c d old new at m n w t f l AnyBytes goes fails.moves
      (subst (λ (z : List ℕ). LogClaimed z fails.moves.world m.id) (sym is) (claimed_rest facts.without whole rest fails.moves.world m.id locked.whole is_rest fails.claimed))
      (record { whole = whole; rest = rest; is = is; are = locked.whole; is_rest = is_rest; alike = alike }) low;
}
  where
    fails : StillClaimed whole old new w m
    fails = facts.locked old new at m n w whole t f not_up locked
