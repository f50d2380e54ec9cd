-- A frame is made free.
use Rattle.std.proofs.Common.{◌≡◌, ℕ, refl, sym, ap, subst, ◌∙◌, true, [], ◌∷◌, length}
use Rattle.std.specs.Prelude.{nat_lt}
use Rattle.std.proofs.lemmas.Bool.{cond-true}
use Rattle.std.proofs.Common.{◌<◌, arith}
use Rattle.std.proofs.lemmas.Grind.{common_steps}
use Rattle.member_pool.specs.Heads.{freed}
use Rattle.member_marks.specs.State.{with_heads}
use Rattle.member_effects.specs.Kept.{Kept}
use Rattle.member_effects.specs.Changes.{with_marks}
use Rattle.page_protocol.specs.Moves.{At, DropFrame}
use Rattle.page_world.specs.Numbers.{page_number, AreNumbered}
use Rattle.page_world.specs.Holdings.{Copy, no_copy}
use Rattle.page_world.specs.Frames.{UnregistersMoves}
use Rattle.page_intents.specs.Stands.{behind, Goes}
use Rattle.page_intents.specs.Frames.{freed_kept, FreeGoes}
use Rattle.page_intents.proofs.Heads.{within, sets_free, free_apart, free_here, free_there}
use Rattle.page_intents.proofs.Chains.{at_one}
use Rattle.page_intents.proofs.Standing.{goes_by, same_members, has_copy, has_frame}

below : (a b : ℕ) → a < b → nat_lt a b ≡ true
below a b l = grind (arith, common_steps)

pub free_goes : AreNumbered → UnregistersMoves → FreeGoes
free_goes numbers law w g content forced k at out answer v b lawful r =
    let m = k.marks.member in
    let n = page_number lawful.page in
    let h = k.marks.heads in
    let l = within h at lawful.page lawful.placed in
    let t = with_marks k (with_heads k.marks (freed h at)) in
    let s = sets_free h at l in
    let is : freed_kept k at answer ≡ t = ap (freed_kept k at) r.0 ∙ ap (with_marks k) (cond-true (nat_lt at (length h.frames)) (with_heads k.marks (freed h at)) k.marks (below at (length h.frames) l)) in
    let copy = has_copy numbers g forced k at lawful.page b.up lawful.placed in
    subst (λ (z : Kept). Goes w content forced (behind g v m z) k.marks z) (sym is)
    (goes_by w g content forced v k t n no_copy (At n (DropFrame m) ∷ []) b.numbered b.up
    (record {
      rest = record { member = refl; locks = refl; log = refl };
      apart = free_apart h (freed h at) at s b.up.apart;
      each = b.up.each ∙ sym s.size;
      here = free_here numbers h (freed h at) k.pages at lawful.page s b.up.apart lawful.placed;
      there = free_there numbers h (freed h at) k.pages at lawful.page s b.up.apart lawful.placed;
    })
    (same_members g.facility v _ r.1 (record { members = refl; statuses = refl; counter = refl })) (at_one n (DropFrame m))
    (law w g content m n at answer v b.tied (has_frame numbers g forced k at lawful.page b.up lawful.placed) (ap (λ (c : Copy). c.marked) copy ∙ lawful.unchanged) r))
