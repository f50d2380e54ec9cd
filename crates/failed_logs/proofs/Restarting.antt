-- A member of a group fails that wasn't up.
use Rattle.std.proofs.Common.{◌≡◌, ℕ, ◌+◌, refl, sym, ◌∙◌, ap, subst, true, false, [], Option, Some, None}
use Rattle.std.specs.Prelude.{◌≢◌}
use Rattle.ds_model.specs.Rows.{Spot}
use Rattle.lock_names.specs.declared.mode.Mode.{Mode}
use Rattle.lock_names.specs.declared.mode.Mode.TheVariants.{IX, X}
use Rattle.list_structure.specs.declared.standing.MemberStatus.{MemberStatus}
use Rattle.list_structure.specs.declared.standing.MemberStatus.TheVariants.{Down, Failed, Restarting, Up}
use Rattle.list_structure.specs.Standings.{is_live, status_of}
use Rattle.lock_protocol.specs.Machine.{Covers, Record, World, failed}
use Rattle.lock_protocol.specs.Sound.{RunKeepsSound}
use Rattle.lock_world.specs.Rollbacks.{row_of, space_of}
use Rattle.lock_world.specs.Tied.{ClaimTied}
use Rattle.lock_world.specs.Views.{claim_in, rollback_owner}
use Rattle.group_locks.specs.Given.{or_else, restart_claim}
use Rattle.group_locks.specs.Given.{FailuresGo}
use Rattle.marks_law.specs.Transactions.{has_tran}
use Rattle.member_trans.specs.declared.fate.Owner.{Owner}
use Rattle.member_trans.specs.declared.fate.Owner.TheVariants as owner
use Rattle.member_trans.specs.declared.fate.Stage.{Stage}
use Rattle.member_trans.specs.declared.fate.Stage.TheVariants as stage
use Rattle.member_trans.specs.Trans.{is_free}
use Rattle.member_marks.specs.State.{slot_tran}
use Rattle.failed_claims.specs.Given.{HasLocked, IsTaken, name_of, number_of}
use Rattle.failed_claims.specs.Failing.{HoldsRow, RowsOutlive}
use Rattle.group_locks.specs.Stands.{MemberStands}
use Rattle.group_locks.specs.Whole.{MemberFailsMoves}
use Rattle.failed_logs.specs.Failures.{DownHandsOver}
use Rattle.failed_logs.proofs.Tied.{OnlyClaims}
use Rattle.failed_logs.proofs.Failing.{FailFacts, GoesTo, go_on, is_member, knew, most, stood}

free_slot : (x : Stage) → is_free x ≡ true → has_tran x ≡ true → ⊥
free_slot stage.Free e h = cc
free_slot stage.Forward e h = cc
free_slot stage.Drawn e h = cc
free_slot stage.Decided e h = cc
free_slot stage.Undoing e h = cc
free_slot stage.Postponed e h = cc

-- what the member knows of it claims
known_covers : (x r : Option Mode) (world : Option Mode) (back : Option Record) (mode : Mode) → ClaimTied world (or_else x r) back → Covers x mode → Covers world mode
known_covers None r world back mode t c = absurd c
known_covers (Some x) r world back mode t c = subst (λ (z : Option Mode). Covers z mode) (sym t) c

nothing : (x : Option Mode) (mode : Mode) → x ≡ None → Covers x mode → ⊥
nothing x mode e c = subst (λ (z : Option Mode). Covers z mode) e c

pub down_hands_over : RunKeepsSound → FailuresGo → MemberFailsMoves → RowsOutlive → DownHandsOver
down_hands_over run fails go outlive old new at m n w t f not_up = record {
  claimed = record {
    moves = goes.moves;
    rows = λ id spot some l. there_too (rollback_owner id) spot (by_status (status_of old.facility.lists.statuses m.id) refl not_up id spot l);
  };
  kept = λ owner spot h. there_too owner spot h;
}
  where
    base : FailFacts
    base = record { run = run; fails = fails; go = go }

    only : OnlyClaims (failed w m.id) (failed w m.id) m.id
    only = record { same = refl; others = λ k o c ne. refl; free = λ o c some none. none o some }

    goes : GoesTo old new w m (failed w m.id)
    goes = go_on base old new at m n w t f (failed w m.id) [] tt refl only

    there_too : (owner : ℕ) (spot : Spot) → HoldsRow w m.id owner spot → HoldsRow goes.moves.world m.id owner spot
    there_too owner spot h = subst (λ (z : World). HoldsRow z m.id owner spot) (sym goes.there) (outlive w m.id owner spot h)

    stood_so : MemberStands old.facility (at + 1) m
    stood_so = stood base old new at m n w t f

    there : (x : MemberStatus) → status_of old.facility.lists.statuses m.id ≡ x → status_of old.facility.lists.statuses (at + 1) ≡ x
    there x e = ap (λ (z : ℕ). status_of old.facility.lists.statuses z) (sym stood_so.id) ∙ e

    -- one that is down knows of no claims
    of_none : (x : MemberStatus) → status_of old.facility.lists.statuses m.id ≡ x → is_live x ≡ false → (id : ℕ) (spot : Spot) → HasLocked m.holds.marks id spot → HoldsRow w m.id (rollback_owner id) spot
    of_none x e dead id spot l = absurd (nothing (claim_in m.holds.marks.locks (number_of l.by) (row_of spot)) X
        ((stood_so.down (ap is_live (there x e) ∙ dead)).1 (number_of l.by) (row_of spot)) l.row)

    -- of one that restarts no slot has a transaction
    of_rollbacks : status_of old.facility.lists.statuses m.id ≡ Restarting → (id : ℕ) (spot : Spot) (o : Owner) → IsTaken m.holds.marks o → name_of m.holds.marks o ≡ id
        → Covers (claim_in m.holds.marks.locks (number_of o) (space_of spot)) IX → Covers (claim_in m.holds.marks.locks (number_of o) (row_of spot)) X → HoldsRow w m.id (rollback_owner id) spot
    of_rollbacks e id spot (owner.Slot slot) taken named space row =
        absurd (free_slot (slot_tran m.holds.marks slot).stage (stood_so.rests (stood_so.restarts (there Restarting e)) slot taken.0) taken.1)
    of_rollbacks e id spot (owner.Rollback k) taken named space row =
        subst (λ (z : ℕ). HoldsRow w m.id (rollback_owner z) spot) named (covers (space_of spot) IX space, covers (row_of spot) X row)
      where
        live : w.live m.id ≡ true
        live = t.tied.live m.id (is_member base old new at m n w t f).0 (most base old new at m n w t f) ∙ ap is_live e

        covers : (c : ℕ) (mode : Mode) → Covers (claim_in m.holds.marks.locks (rollback_owner k) c) mode → Covers (w.claims m.id (rollback_owner k) c) mode
        covers c mode has = known_covers (claim_in m.holds.marks.locks (rollback_owner k) c) (restart_claim m.restart (rollback_owner k) c) (w.claims m.id (rollback_owner k) c) (w.records m.id c) mode
            (subst (λ (z : Option Mode). ClaimTied (w.claims m.id (rollback_owner k) c) z (w.records m.id c)) (knew base old new at m n w t f (rollback_owner k) c) (t.tied.claims m.id (rollback_owner k) c live)) has

    by_status : (x : MemberStatus) → status_of old.facility.lists.statuses m.id ≡ x → x ≢ Up → (id : ℕ) (spot : Spot) → HasLocked m.holds.marks id spot → HoldsRow w m.id (rollback_owner id) spot
    by_status Up e ne id spot l = absurd (ne refl)
    by_status Restarting e ne id spot l = of_rollbacks e id spot l.by l.taken l.named l.space l.row
    by_status Failed e ne id spot l = of_none Failed e refl id spot l
    by_status Down e ne id spot l = of_none Down e refl id spot l
