-- Log buffers, through draws and appends.
use Rattle.std.proofs.Common.{◌≡◌, ℕ, ◌+◌, ◌<◌, ◌≤◌, Bool, true, false, cond, List, [], ◌∷◌, ◌++◌, refl, sym, ap, ◌∙◌, subst, arith}
use Rattle.std.specs.Prelude.{filter, ◌==◌, ◌&&◌}
use Rattle.std.proofs.lemmas.Bool.{and_from, cond-true, eq-eqb}
use Rattle.std.proofs.lemmas.List.{append_cancel_left}
use Rattle.ds_model.specs.declared.log.LogRecord.{LogRecord}
use Rattle.page_protocol.specs.Moves.{World}
use Rattle.log_tells.specs.Told.{Told, drawn_in, is_between, part_of, records_of}
use Rattle.log_tells.specs.Keeps.{ArePending, DrawsPend, ForcesPend, told_at}
use Rattle.log_tells.proofs.Disk.{drawn-append, in_part, part_ends, part_grows, part_join}
use Rattle.log_tells.proofs.Moving.{forced_of, put_here}
use Rattle.log_tells.proofs.Places.{between}

-- what a member draws stands behind its log buffer
pub draws_pend : DrawsPend
draws_pend name set w v content told m touched r records more good t st pending is =
    subst (λ (z : World). ArePending z (told ++ told_at m (w.group.written m) r ∷ []) m (records ++ more)) (sym st.2)
    (subst (λ k. drawn_in (records ++ more) ≡ part_of m (w.group.stable m) k (told ++ told_at m (w.group.written m) r ∷ [])) (sym (put_here w.group.written m (w.group.written m + 1)))
    (drawn-append records more
    ∙ ap (λ xs. xs ++ drawn_in more) (pending ∙ part_ends m (w.group.stable m) (w.group.written m) (w.group.written m + 1) (w.group.written m) told (t.logs m) (forced_of w good m) (omega arith) (omega arith))
    ∙ ap (λ xs. part_of m (w.group.stable m) (w.group.written m + 1) told ++ xs) (is ∙ sym (ap records_of (cond-true (in_part m (w.group.stable m) (w.group.written m + 1) next) (next ∷ []) [] here)))
    ∙ sym (part_grows m (w.group.stable m) (w.group.written m + 1) told next)))
  where
    next : Told
    next = told_at m (w.group.written m) r

    here : in_part m (w.group.stable m) (w.group.written m + 1) next ≡ true
    here = and_from (m == m) (is_between (w.group.stable m) (w.group.written m + 1) next) (eq-eqb m m refl) (between (w.group.stable m) (w.group.written m + 1) next (forced_of w good m) (omega arith))

pub forces_pend : ForcesPend
forces_pend name set w v content told m k front rest good t st part pending =
    subst (λ (z : World). ArePending z told m rest) (sym st.3)
    (subst (λ s. drawn_in rest ≡ part_of m s (w.group.written m) told) (sym (put_here w.group.stable m k))
    (append_cancel_left (part_of m (w.group.stable m) k told) (drawn_in rest) (part_of m k (w.group.written m) told)
    (ap (λ xs. xs ++ drawn_in rest) (sym part) ∙ sym (drawn-append front rest) ∙ pending ∙ sym (part_join m (w.group.stable m) k (w.group.written m) (w.group.written m) told (t.logs m) st.1 st.2))))
