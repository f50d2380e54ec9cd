-- The local moves of a restart.
use Rattle.std.proofs.Common.{refl, sym, ◌∙◌, subst, Bool, true, false, List, [], ◌∷◌, Option, Some, None}
use Rattle.std.specs.Prelude.{◌&&◌, if◌then◌else◌, is_none, slice_get}
use Rattle.ds_base.specs.declared.names.PageId.{PageId}
use Rattle.restart_records.specs.declared.queue.TurnKey.{TurnKey}
use Rattle.restart_records.specs.Trans.{after_end, page_undone}
use Rattle.member_log.specs.Buffers.{after_put}
use Rattle.restart_marks.specs.Moves.{Local, TakeUpRetained, TakeUpUndone, PutDown, Close, Reaches, all_moved, closing_record, is_recovered, may_close, may_put_down, moved, retained_from, undone_from}
use Rattle.restart_marks.specs.State.{RestartState, no_hand, with_hand}
use Rattle.lock_restarts.specs.Stands.{LocalsStay, SameClaim}

itself : (s : RestartState) → SameClaim s s
itself s = record { claim = refl; member = refl; up = refl }

either : (b : Bool) (s t u : RestartState) → SameClaim s t → SameClaim s u → SameClaim s (if b then t else u)
either true s t u x y = x
either false s t u x y = y

retained : (s : RestartState) (o : Option TurnKey) → SameClaim s (retained_from s o)
retained s None = itself s
retained s (Some key) = record { claim = refl; member = refl; up = refl }

undone : (s : RestartState) (o : Option PageId) → SameClaim s (undone_from s o)
undone s None = itself s
undone s (Some p) = record { claim = refl; member = refl; up = refl }

one : (x : Local) (s : RestartState) → SameClaim s (moved x s)
one TakeUpRetained s = either (is_none s.hand.page) s (retained_from s (slice_get s.pages 0)) s (retained s (slice_get s.pages 0)) (itself s)
one (TakeUpUndone id) s = either (is_none s.hand.page && is_recovered s) s (undone_from s (page_undone s.trans id)) s (undone s (page_undone s.trans id)) (itself s)
one PutDown s = either (may_put_down s.hand s.claim) s (with_hand s no_hand) s (record { claim = refl; member = refl; up = refl }) (itself s)
one (Close id) s = either (may_close s id) s (record s { log = after_put s.log (closing_record s id); trans = after_end s.trans id }) s (record { claim = refl; member = refl; up = refl }) (itself s)

all : (xs : List Local) (s : RestartState) → SameClaim s (all_moved xs s)
all [] s = itself s
all (x ∷ xs) s =
    let first = one x s in
    let rest = all xs (moved x s) in
    record { claim = rest.claim ∙ first.claim; member = rest.member ∙ first.member; up = rest.up ∙ first.up }

pub locals_stay : LocalsStay
unfolding Reaches
locals_stay s t r = subst (λ z. SameClaim s z) (sym r.1) (all r.0 s)
