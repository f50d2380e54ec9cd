-- What a restart that fails, and hasn't handed over, leaves of its member's log.
use Rattle.std.proofs.Common.{◌≡◌, ℕ, refl, sym, ◌∙◌, ap, subst, Bool, true, false, inl, inr, List, ◌++◌, take}
use Rattle.std.specs.Prelude.{◌≢◌, ◌⊎◌}
use Rattle.std.specs.List.{AllByRecursion}
use Rattle.ds_model.specs.RecordBytes.{IsAllowed}
use Rattle.ds_model.specs.declared.log.LogRecord.{LogRecord}
use Rattle.lock_protocol.specs.Machine.{World}
use Rattle.member_marks.specs.State.{MarksState}
use Rattle.restart_marks.specs.State.{RestartState}
use Rattle.restart_law.specs.Reads.{AreLast}
use Rattle.restart_claims.specs.Stops.{RestsClaimed, StopsClaimed}
use Rattle.restart_closing.specs.Closing.{is_back}
use Rattle.restart_closing.proofs.Logs.{AreBack, front_all, no_changes, none_names}
use Rattle.failed_logs.specs.Logs.{LogClaimed}
use Rattle.claimed_logs.specs.Courses.{LeavesAlike, RestartOpen, StandsAlike}
use Rattle.claimed_logs.specs.Failing.{LeftClaimed, RestartsStop}
use Rattle.claimed_logs.specs.Logs.{FrontsAlike, RestartLogged}
use Rattle.claimed_logs.proofs.Alike.{Facts as AlikeFacts, alike_more, leaves_front}
use Rattle.claimed_logs.proofs.Commits.{undone_last}

pub record Facts : Type 0 where
  pub alike : AlikeFacts
  pub stops : StopsClaimed
  pub rests : RestsClaimed

never : false ≡ true → ⊥
never e = cc

module _ (facts : Facts) (whole rest : List ℕ) (w : World) (s : RestartState) (own : MarksState) (l : RestartLogged (whole ++ rest) w s) (on : s.is_up ≡ false) (alike : StandsAlike whole) (o : RestartOpen whole rest s own) where
  -- the log is as it was
  as_it_was : LeftClaimed (whole ++ rest) w s.member
  as_it_was = record { claimed = by s.own.is_read refl; leaves = record { whole = whole; rest = rest; is = refl; are = o.closes.whole; is_rest = o.closes.is_rest; alike = alike } }
    where
      by : (b : Bool) → s.own.is_read ≡ b → LogClaimed (whole ++ rest) w s.member
      by true read records last = facts.rests l.bytes whole rest o.pend w s records read on l.claimed o.closes last
      by false unread records last = l.claimed.unread unread records (subst (λ (z : List ℕ). AreLast z records) (sym (l.unread unread)) last)

  -- none of the records that wait changes a row
  fronts : FrontsAlike whole o.pend
  fronts front left e = alike_more facts.alike whole front o.closes.whole (front_all IsAllowed front left (subst (λ (z : List LogRecord). AllByRecursion IsAllowed z) e o.closes.waits.allowed)) (none_names front back) (undone_last front back)
      (λ start records last id spot some changed. absurd (never (sym (no_changes front back id spot) ∙ changed))) alike
    where
      back : AreBack front
      back = front_all (λ (r : LogRecord). is_back r.body ≡ true) front left (subst AreBack e o.closes.waits.back)

  -- so many bytes of them are behind the whole records
  stopped : s.own.is_read ≡ true → (n : ℕ) → LeftClaimed (whole ++ take n s.log.pending) w s.member
  stopped read n = record {
    claimed = λ records last. facts.stops l.bytes whole rest o.pend w s n records read on l.claimed o.closes last;
    leaves = subst (λ (z : List ℕ). LeavesAlike (whole ++ take n z)) (sym o.closes.waits.spelled) (leaves_front facts.alike whole o.pend n o.closes.whole o.closes.waits.allowed fronts);
  }

pub restarts_stop : Facts → RestartsStop
restarts_stop facts whole rest left w s own l on alike o (inl same) = subst (λ (z : List ℕ). LeftClaimed z w s.member) (sym same) (as_it_was facts whole rest w s own l on alike o)
restarts_stop facts whole rest left w s own l on alike o (inr (read, n, is)) = subst (λ (z : List ℕ). LeftClaimed z w s.member) (sym is) (stopped facts whole rest w s own l on alike o read n)
