-- The number of slots, as each change of a transaction leaves it.
use Rattle.std.proofs.Common.{◌≡◌, ℕ, refl, ◌∙◌, Bool, List, [], ◌∷◌, length, Option, Some, None}
use Rattle.std.specs.Prelude.{if◌then◌else◌, slice_index_or, slice_set}
use Rattle.std.proofs.lemmas.Bool.{cond_both}
use Rattle.std.proofs.lemmas.List.{length-set}
use Rattle.ds_base.specs.Pages.{heap_set}
use Rattle.ds_model.specs.declared.fate.Refusal.{Refusal}
use Rattle.ds_model.specs.declared.log.RowChange.{RowChange}
use Rattle.page_format.specs.declared.patch.Patch.{Patch}
use Rattle.member_trans.specs.declared.fate.Offer.{Offer}
use Rattle.member_trans.specs.declared.fate.Owner.{Owner}
use Rattle.member_trans.specs.declared.fate.Owner.TheVariants as owner
use Rattle.member_trans.specs.Lists.{pushed}
use Rattle.member_trans.specs.Trans.{TransState, TranState, tran_at, tran_of, with_tran, with_tran_of, with_rollback, with_set, changed, drawn, begun, undoing, left_behind, free_tran, decided_tran, with_undone, place_of, may_begin, after_begin_with, with_room_for, may_refuse, refused_for, refused_as, after_refuse, same_owner, is_forward, after_draw, all_decided, rollback_ended, after_end, may_postpone, with_postponed, after_postpone}
use Rattle.member_marks.specs.Records.{set_noted, sets_noted, row_noted, back_noted}

-- as many as before
abbrev pub AsMany : TransState → TransState → Type 0
AsMany t u = length u.slots ≡ length t.slots

many_if : (t x y : TransState) (b : Bool) → AsMany t x → AsMany t y → AsMany t (if b then x else y)
many_if t x y b p q = cond_both b x y (λ z. AsMany t z) (λ e. p) (λ e. q)

many_on : (t u v : TransState) → AsMany t u → AsMany u v → AsMany t v
many_on t u v a b = b ∙ a

pub many_set : (t : TransState) (slot : ℕ) (x : TranState) → AsMany t (with_tran t slot x)
many_set t slot x = length-set t.slots slot x

many_rollback : (t : TransState) (k : Option ℕ) (x : TranState) → AsMany t (with_rollback t k x)
many_rollback t None x = refl
many_rollback t (Some k) x = refl

pub many_of : (t : TransState) (o : Owner) (x : TranState) → AsMany t (with_tran_of t o x)
many_of t (owner.Slot slot) x = many_set t slot x
many_of t (owner.Rollback id) x = many_rollback t (place_of t id) x

-- ---- records
many_noted : (t : TransState) (slot set : ℕ) → AsMany t (set_noted t slot set)
many_noted t slot set = many_set t slot (with_set (tran_at t slot) set)

pub many_sets : (t : TransState) (slot : ℕ) (ps : List Patch) → AsMany t (sets_noted t slot ps)
many_sets t slot [] = refl
many_sets t slot (p ∷ ps) = many_on t (set_noted t slot p.page.set) (sets_noted t slot (p ∷ ps)) (many_noted t slot p.page.set) (many_sets (set_noted t slot p.page.set) slot ps)

pub many_row : (t : TransState) (slot lrsn : ℕ) (c : RowChange) → AsMany t (row_noted t slot lrsn c)
many_row t slot lrsn c =
    many_on t (with_tran t slot (changed (tran_at t slot) lrsn c)) (row_noted t slot lrsn c) (many_set t slot (changed (tran_at t slot) lrsn c)) (many_noted (with_tran t slot (changed (tran_at t slot) lrsn c)) slot (heap_set c.table))

pub many_back : (t : TransState) (o : Owner) (it : TranState) (lrsn set : ℕ) → AsMany t (back_noted t o it lrsn set)
many_back t o it lrsn set =
    let mid = with_tran_of t o (with_undone it lrsn) in
    many_on t mid (back_noted t o it lrsn set) (many_of t o (with_undone it lrsn)) (many_of mid o (with_set (tran_of mid o) set))

pub many_drawn : (t : TransState) (slot : ℕ) → AsMany t (after_draw t slot)
many_drawn t slot = many_if t (record t { slots = slice_set t.slots slot (drawn (tran_at t slot)); commits = pushed t.commits slot }) t (is_forward (tran_at t slot).stage) (length-set t.slots slot (drawn (tran_at t slot))) refl

pub many_decided : (ts : List TranState) (slots : List ℕ) → length (all_decided ts slots) ≡ length ts
many_decided ts [] = refl
many_decided ts (slot ∷ slots) =
    many_decided (slice_set ts slot (decided_tran (slice_index_or ts slot free_tran))) slots ∙ length-set ts slot (decided_tran (slice_index_or ts slot free_tran))

-- ---- begins, refusals, ends and rollbacks
pub many_begun : (t : TransState) (slot n room : ℕ) → AsMany t (after_begin_with t slot n room)
many_begun t slot n room = many_if t (with_room_for (with_tran t slot (begun n)) room) t (may_begin t slot) (many_set t slot (begun n)) refl

pub many_refused : (t : TransState) (slot : ℕ) (r : Refusal) (place : ℕ) → AsMany t (refused_for t slot r place)
many_refused t slot r place =
    many_if t (record t { slots = slice_set t.slots slot (undoing (tran_at t slot)); refused = Some (record { number = (tran_at t slot).number; refusal = r; place = place }) }) t (may_refuse t slot) (length-set t.slots slot (undoing (tran_at t slot))) refl

refused_by : (t : TransState) (slot : ℕ) (o : Option Offer) → AsMany t (refused_as t slot o)
refused_by t slot None = refl
refused_by t slot (Some o) = many_if t (record (refused_for t slot o.refusal o.place) { offer = None }) t (same_owner o.owner (owner.Slot slot)) (many_refused t slot o.refusal o.place) refl

pub many_refuse : (t : TransState) (slot : ℕ) → AsMany t (after_refuse t slot)
many_refuse t slot = many_if t (refused_as t slot t.offer) t (may_refuse t slot) (refused_by t slot t.offer) refl

rollback_gone : (t : TransState) (k : Option ℕ) → AsMany t (rollback_ended t k)
rollback_gone t None = refl
rollback_gone t (Some k) = refl

pub many_ended : (t : TransState) (o : Owner) → AsMany t (after_end t o)
many_ended t (owner.Slot slot) = length-set t.slots slot free_tran
many_ended t (owner.Rollback id) = rollback_gone t (place_of t id)

pub many_postponed : (t : TransState) (slot : ℕ) → AsMany t (after_postpone t slot)
many_postponed t slot = many_if t (with_postponed t slot (tran_at t slot)) t (may_postpone t slot) (length-set t.slots slot (left_behind (tran_at t slot))) refl
