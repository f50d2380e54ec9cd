-- A member that holds nothing, and what is over.
use Rattle.std.proofs.Common.{◌≡◌, ℕ, zero, suc, ◌+◌, ◌≤◌, ◌<◌, refl, sym, ◌∙◌, ap, subst, arith, Bool, true, false, inl, inr, List, [], ◌∷◌}
use Rattle.std.specs.Prelude.{◌≢◌, ◌⊎◌, ◌&&◌, ◌||◌, nat_le, replicate}
use Rattle.std.specs.List.{AllByRecursion}
use Rattle.std.proofs.lemmas.Bool.{and_parts, leb-true, or_cases}
use Rattle.ds_base.specs.declared.names.Sizes.{Sizes}
use Rattle.ds_model.specs.declared.log.LogRecord.{LogRecord}
use Rattle.log_rows.specs.Rows.{is_closed}
use Rattle.member_log.specs.Buffers.{LogBuffer, empty_buffer}
use Rattle.member_trans.specs.declared.fate.Owner.{Owner}
use Rattle.member_trans.specs.Trans.{TransState, TranState, free_tran, is_decided, is_empty, is_undoing, no_trans}
use Rattle.member_marks.specs.State.{MarksState, log_size, tran_of}
use Rattle.member_resources.specs.Held.{Held, IsNew}
use Rattle.closing_law.specs.Closing.{AllStand, Closes, ClosesBegin, ClosesTell, HasEnd, TranStands}
use Rattle.closing_law.proofs.Trans.{free_stands, owner_stands}

free_all : (disk : List LogRecord) (stable n : ℕ) → AllByRecursion (TranStands disk [] stable) (replicate n free_tran)
free_all disk stable zero = tt
free_all disk stable (suc n) = (free_stands disk [] stable, free_all disk stable n)

none_stand : (disk : List LogRecord) (stable agents : ℕ) → AllStand disk [] stable (no_trans agents)
none_stand disk stable agents = record { slots = free_all disk stable (agents + 1); rollbacks = tt; commits = tt }

pub closes_begin : ClosesBegin
closes_begin disk member sizes h new = record {
  spelled = ap (λ (z : LogBuffer). z.pending) new.marks.log;
  all = subst (λ (z : TransState). AllStand disk [] h.marks.log.stable z) (sym new.marks.trans) (none_stand disk h.marks.log.stable sizes.agents);
}

pub closes_tell : ClosesTell
closes_tell disk pend s o c over some = by (or_cases (is_decided (tran_of s o).stage) (is_undoing (tran_of s o).stage && (is_empty (tran_of s o).changes && nat_le (tran_of s o).ended s.log.stable)) over)
  where
    stands : TranStands disk pend s.log.stable (tran_of s o)
    stands = owner_stands disk pend s.log.stable s.trans o c.all

    by : (is_decided (tran_of s o).stage ≡ true) ⊎ ((is_undoing (tran_of s o).stage && (is_empty (tran_of s o).changes && nat_le (tran_of s o).ended s.log.stable)) ≡ true) → is_closed disk (tran_of s o).first ≡ true
    by (inl e) = stands.decided e some
    by (inr e) =
        let p = and_parts (is_undoing (tran_of s o).stage) (is_empty (tran_of s o).changes && nat_le (tran_of s o).ended s.log.stable) e in
        let q = and_parts (is_empty (tran_of s o).changes) (nat_le (tran_of s o).ended s.log.stable) p.1 in
        ends (leb-true (tran_of s o).ended s.log.stable q.1) (stands.undone p.0 some q.0)
      where
        ends : (tran_of s o).ended ≤ s.log.stable → HasEnd disk pend s.log.stable (tran_of s o) → is_closed disk (tran_of s o).first ≡ true
        ends le (inl closed) = closed
        ends le (inr waits) = absurd (omega (arith, waits.1))
