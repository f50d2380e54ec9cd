-- Changes keep what a page begins with, and its stamp.
use Rattle.std.proofs.Common.{◌≡◌, ◌≤◌, ◌<◌, ◌^◌, ℕ, ◌+◌, ◌==◌, List, [], ◌∷◌, ◌++◌, length, take, drop, refl, sym, ap, subst, ◌∙◌, arith}
use Rattle.std.proofs.lemmas.Bool.{ne_eqb}
use Rattle.std.proofs.lemmas.List.{take-append-drop}
use Rattle.ds_base.specs.declared.names.PageId.{PageId}
use Rattle.page_format.specs.Fields.{patched, set_version, set_lrsn, lrsn_of}
use Rattle.page_format.specs.declared.patch.Patch.{Patch}
use Rattle.heap_space.specs.Changes.{front}
use Rattle.heap_space.specs.Written.{after_patch}
use Rattle.index_leaf.specs.Changes.{spelt, front_of, front_patch}
use Rattle.index_leaf.specs.Nodes.{all_stamped}
use Rattle.page_images.specs.Images.{HasFront, IsStamped}
use Rattle.page_images.specs.Parts.{Lies, AreWithin, AreBehindFront}
use Rattle.page_images.proofs.Fronts.{fronts_agree}
use Rattle.page_images.proofs.Parts.{step_whole, front_put, front_left, stamp_front, stamp_read, patched_whole}

front_length : (kind : ℕ) (id : PageId) → length (front_of kind id) ≡ 12
unfolding front_of spelt
front_length kind id = refl

-- the version is that of the front
version_same : (kind : ℕ) (id : PageId) (rest : List ℕ) → take 12 (set_version (front_of kind id ++ rest)) ≡ front_of kind id
unfolding front_of spelt set_version patched
version_same kind id rest = refl

version_kept : (page : List ℕ) (id : PageId) (kind : ℕ) → take 12 page ≡ front_of kind id → take 12 (set_version page) ≡ front_of kind id
version_kept page id kind begins =
    ap (λ (l : List ℕ). take 12 (set_version l)) (sym (take-append-drop 12 page) ∙ ap (λ (l : List ℕ). l ++ drop 12 page) begins) ∙ version_same kind id (drop 12 page)

pub made : (lrsn : ℕ) (page : List ℕ) (id : PageId) (kind : ℕ) → length page ≡ 4096 → HasFront (set_lrsn (patched page 0 (front_of kind id)) lrsn) id kind
made lrsn page id kind whole =
    let l = front_length kind id in
    let new = patched page 0 (front_of kind id) in
    let lies : Lies page (front_patch kind id) = record { whole = whole; within = omega (arith, l) } in
    let there : take 12 new ≡ front_of kind id = ap (λ (n : ℕ). take n new) (sym l) ∙ front_put page (front_of kind id) in
    record {
      whole = step_whole lrsn page (front_patch kind id) lies;
      begins = stamp_front lrsn new (patched_whole page (front_patch kind id) lies) ∙ version_kept new id kind there;
    }

pub made_by_heap : (lrsn : ℕ) (page : List ℕ) (id : PageId) (kind : ℕ) → length page ≡ 4096 → HasFront (set_lrsn (patched page 0 (front kind id)) lrsn) id kind
made_by_heap lrsn page id kind whole = subst (λ (bytes : List ℕ). HasFront (set_lrsn (patched page 0 bytes) lrsn) id kind) (sym (fronts_agree kind id)) (made lrsn page id kind whole)

pub step_front : (lrsn : ℕ) (page : List ℕ) (id : PageId) (kind : ℕ) (p : Patch) → HasFront page id kind → 12 ≤ p.offset → p.offset + length p.bytes ≤ 4096 → HasFront (after_patch lrsn page p) id kind
step_front lrsn page id kind p h past within =
    let lies : Lies page p = record { whole = h.whole; within = within } in
    record {
      whole = step_whole lrsn page p lies;
      begins = stamp_front lrsn (patched page p.offset p.bytes) (patched_whole page p lies) ∙ version_kept (patched page p.offset p.bytes) id kind (front_left page p.offset p.bytes (omega (arith, within, h.whole)) past ∙ h.begins);
    }

pub all_front : (lrsn : ℕ) (page : List ℕ) (id : PageId) (kind : ℕ) (ps : List Patch) → HasFront page id kind → AreBehindFront ps → HasFront (all_stamped lrsn page ps) id kind
all_front lrsn page id kind [] h b = h
all_front lrsn page id kind (p ∷ ps) h b = all_front lrsn (after_patch lrsn page p) id kind ps (step_front lrsn page id kind p h b.0.0 b.0.1) b.1

-- ---- stamps

pub is_stamped : (lrsn : ℕ) (page : List ℕ) → length page ≡ 4096 → 1 ≤ lrsn → lrsn < 2 ^ 80 → IsStamped (set_lrsn page lrsn)
is_stamped lrsn page whole pos lt =
    ap (λ (n : ℕ). n == 0) (stamp_read lrsn page whole lt) ∙ ne_eqb lrsn 0 (λ e. omega (arith, e, pos))

pub all_whole : (lrsn : ℕ) (page : List ℕ) (ps : List Patch) → length page ≡ 4096 → AreWithin ps → length (all_stamped lrsn page ps) ≡ 4096
all_whole lrsn page [] whole w = whole
all_whole lrsn page (p ∷ ps) whole w = all_whole lrsn (after_patch lrsn page p) ps (step_whole lrsn page p (record { whole = whole; within = w.0 })) w.1

pub all_lrsn : (lrsn : ℕ) (page : List ℕ) (p : Patch) (ps : List Patch) → length page ≡ 4096 → AreWithin (p ∷ ps) → lrsn < 2 ^ 80 → lrsn_of (all_stamped lrsn page (p ∷ ps)) ≡ lrsn
all_lrsn lrsn page p [] whole w lt = stamp_read lrsn (patched page p.offset p.bytes) (patched_whole page p (record { whole = whole; within = w.0 })) lt
all_lrsn lrsn page p (q ∷ qs) whole w lt = all_lrsn lrsn (after_patch lrsn page p) q qs (step_whole lrsn page p (record { whole = whole; within = w.0 })) w.1 lt

pub all_are_stamped : (lrsn : ℕ) (page : List ℕ) (p : Patch) (ps : List Patch) → length page ≡ 4096 → AreWithin (p ∷ ps) → 1 ≤ lrsn → lrsn < 2 ^ 80 → IsStamped (all_stamped lrsn page (p ∷ ps))
all_are_stamped lrsn page p ps whole w pos lt =
    ap (λ (n : ℕ). n == 0) (all_lrsn lrsn page p ps whole w lt) ∙ ne_eqb lrsn 0 (λ e. omega (arith, e, pos))
