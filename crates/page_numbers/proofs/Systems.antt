-- A change of the system leaves its number in each of its pages.
use Rattle.std.proofs.Common.{◌≡◌, ℕ, zero, suc, ◌^◌, ◌<◌, refl, sym, ap, subst, ◌∙◌, Bool, true, false, inl, inr, List, [], ◌∷◌, length, Option, Some, None, slice_set}
use Rattle.std.specs.Prelude.{◌⊎◌, ◌||◌, nat_lt}
use Rattle.std.proofs.lemmas.Bool.{cases_eq, cond-false, cond-true, cond_both, lt-ltb, ltb-true, or_cases}
use Rattle.std.proofs.lemmas.List.{get_or-set_other, length-set}
use Rattle.ds_base.specs.declared.names.PageId.{PageId}
use Rattle.page_format.specs.declared.patch.Patch.{Patch}
use Rattle.page_format.specs.Fields.{lrsn_of, page_size}
use Rattle.heap_space.specs.Written.{written}
use Rattle.write_order.specs.declared.rank.Rank.{Rank}
use Rattle.write_order.specs.Ranks.{rank_of}
use Rattle.member_pool.specs.declared.frame.Frame.{Frame}
use Rattle.member_pool.specs.Frames.{frame_at}
use Rattle.member_pool.specs.Heads.{HeadState, marked, with_head}
use Rattle.member_marks.specs.State.{MarksState, with_heads}
use Rattle.member_marks.specs.Frames.{after_marked, frame_in, is_placed}
use Rattle.member_needs.specs.Records.{frame_of}
use Rattle.member_effects.specs.Kept.{Kept}
use Rattle.member_effects.specs.Changes.{bytes_at, patched_nth, patched_page, put_page}
use Rattle.page_intents.specs.Draws.{is_frame}
use Rattle.page_numbers.specs.Numbers.{HasPage, IsPatched, LieWithin, PatchesShow}
use Rattle.page_numbers.proofs.Rows.{framed, set_at}
use Rattle.page_numbers.proofs.Stamps.{Laws, written_shows, written_whole}

-- ---- a frame that is marked keeps its page
set_page : (fs : List Frame) (at q : ℕ) (f : Frame) → f.page ≡ (frame_at fs at).page → (frame_at (slice_set fs at f) q).page ≡ (frame_at fs q).page
set_page [] at q f e = refl
set_page (x ∷ xs) zero zero f e = e
set_page (x ∷ xs) zero (suc q) f e = refl
set_page (x ∷ xs) (suc at) zero f e = refl
set_page (x ∷ xs) (suc at) (suc q) f e = set_page xs at q f e

head_keeps : (h : HeadState) (at q : ℕ) (rank : Rank) → (frame_in (marked h at rank) q).page ≡ (frame_in h q).page
head_keeps h at q rank =
    cond_both (frame_at h.frames at).changed h (with_head h at (record (frame_at h.frames at) { changed = true; rank = rank })) (λ (z : HeadState). (frame_in z q).page ≡ (frame_in h q).page) (λ e. refl)
    (λ e. set_page h.frames at q (record (frame_at h.frames at) { changed = true; rank = rank }) refl)

marked_keeps : (s : MarksState) (at q : ℕ) (rank : Rank) → (frame_in (after_marked s at rank).heads q).page ≡ (frame_in s.heads q).page
marked_keeps s at q rank =
    cond_both (is_placed s.heads at) (with_heads s (marked s.heads at rank)) s (λ (z : MarksState). (frame_in z.heads q).page ≡ (frame_in s.heads q).page) (λ e. head_keeps s.heads at q rank) (λ e. refl)

-- ---- what a step leaves of a frame
pub record Left (k u : Kept) (n q : ℕ) : Type 0 where
  pub page : (frame_in u.marks.heads q).page ≡ (frame_in k.marks.heads q).page
  pub each : length u.pages ≡ length k.pages
  pub whole : length (bytes_at k.pages q) ≡ page_size → length (bytes_at u.pages q) ≡ page_size
  pub shows : length (bytes_at k.pages q) ≡ page_size → lrsn_of (bytes_at k.pages q) ≡ n → lrsn_of (bytes_at u.pages q) ≡ n

left_same : (k : Kept) (n q : ℕ) → Left k k n q
left_same k n q = record { page = refl; each = refl; whole = λ e. e; shows = λ e f. f }

module _ (laws : Laws) (ps : List Patch) (n : ℕ) (lie : LieWithin ps) (small : n < 2 ^ 80) where
  left_put : (k : Kept) (at q : ℕ) (id : PageId) → at < length k.pages → Left k (put_page k at id (written id n ps (bytes_at k.pages at))) n q
  left_put k at q id l = record {
    page = marked_keeps k.marks at q (rank_of id (bytes_at (slice_set k.pages at (written id n ps (bytes_at k.pages at))) at));
    each = length-set k.pages at (written id n ps (bytes_at k.pages at));
    whole = whole;
    shows = shows;
  }
    where
      whole : length (bytes_at k.pages q) ≡ page_size → length (bytes_at (slice_set k.pages at (written id n ps (bytes_at k.pages at))) q) ≡ page_size
      whole e = elim (cases_eq q at) [
        | inl is ↦ ap (λ z. length (bytes_at (slice_set k.pages at (written id n ps (bytes_at k.pages at))) z)) is ∙ ap length (set_at k.pages at (written id n ps (bytes_at k.pages at)) l)
            ∙ written_whole laws id n ps (bytes_at k.pages at) (ap (λ z. length (bytes_at k.pages z)) (sym is) ∙ e) lie
        | inr ne ↦ ap length (get_or-set_other k.pages at q (written id n ps (bytes_at k.pages at)) [] ne) ∙ e
      ]

      shows : length (bytes_at k.pages q) ≡ page_size → lrsn_of (bytes_at k.pages q) ≡ n → lrsn_of (bytes_at (slice_set k.pages at (written id n ps (bytes_at k.pages at))) q) ≡ n
      shows e f = elim (cases_eq q at) [
        | inl is ↦ ap (λ z. lrsn_of (bytes_at (slice_set k.pages at (written id n ps (bytes_at k.pages at))) z)) is ∙ ap lrsn_of (set_at k.pages at (written id n ps (bytes_at k.pages at)) l)
            ∙ written_shows laws id n ps (bytes_at k.pages at) (ap (λ z. length (bytes_at k.pages z)) (sym is) ∙ e) lie small (inl (ap (λ z. lrsn_of (bytes_at k.pages z)) (sym is) ∙ f))
        | inr ne ↦ ap lrsn_of (get_or-set_other k.pages at q (written id n ps (bytes_at k.pages at)) [] ne) ∙ f
      ]

  left_page : (k : Kept) (at q : ℕ) (o : Option PageId) (b : Bool) → nat_lt at (length k.pages) ≡ b → Left k (patched_page k at o ps n) n q
  left_page k at q None b e = left_same k n q
  left_page k at q (Some id) true e =
      subst (λ z. Left k z n q) (sym (cond-true (nat_lt at (length k.pages)) (put_page k at id (written id n ps (bytes_at k.pages at))) k e)) (left_put k at q id (ltb-true at (length k.pages) e))
  left_page k at q (Some id) false e =
      subst (λ z. Left k z n q) (sym (cond-false (nat_lt at (length k.pages)) (put_page k at id (written id n ps (bytes_at k.pages at))) k e)) (left_same k n q)

  left_nth : (k : Kept) (o : Option ℕ) (q : ℕ) → Left k (patched_nth k o ps n) n q
  left_nth k None q = left_same k n q
  left_nth k (Some at) q = left_page k at q (frame_in k.marks.heads at).page (nat_lt at (length k.pages)) refl

  -- ---- the frame of the step shows the number
  step_shows : (k : Kept) (o : Option ℕ) (q : ℕ) → is_frame o q ≡ true → HasPage k q → IsPatched k q ps → lrsn_of (bytes_at (patched_nth k o ps n).pages q) ≡ n
  step_shows k o q e h patched =
      ap (λ z. lrsn_of (bytes_at (patched_nth k z ps n).pages q)) (framed o q e)
      ∙ ap (λ z. lrsn_of (bytes_at (patched_page k q z ps n).pages q)) h.placed
      ∙ ap (λ (z : Kept). lrsn_of (bytes_at z.pages q)) (cond-true (nat_lt q (length k.pages)) (put_page k q h.page (written h.page n ps (bytes_at k.pages q))) k (lt-ltb q (length k.pages) h.within))
      ∙ ap lrsn_of (set_at k.pages q (written h.page n ps (bytes_at k.pages q)) h.within)
      ∙ written_shows laws h.page n ps (bytes_at k.pages q) h.whole lie small (inr (patched h.page h.placed))

  -- behind a step a frame has its page still, and is patched by the same patches
  has_on : (k u : Kept) (q : ℕ) → Left k u n q → HasPage k q → HasPage u q
  has_on k u q a h = record { page = h.page; placed = a.page ∙ h.placed; within = subst (λ z. q < z) (sym a.each) h.within; whole = a.whole h.whole }

  patched_on : (k u : Kept) (q : ℕ) → Left k u n q → IsPatched k q ps → IsPatched u q ps
  patched_on k u q a p id e = p id (sym a.page ∙ e)

  -- by two steps, and by three
  two_show : (k : Kept) (x y : Option ℕ) (q : ℕ) → (is_frame x q ≡ true) ⊎ (is_frame y q ≡ true) → HasPage k q → IsPatched k q ps → lrsn_of (bytes_at (patched_nth (patched_nth k x ps n) y ps n).pages q) ≡ n
  two_show k x y q (inl first) h p = (left_nth (patched_nth k x ps n) y q).shows (has_on k (patched_nth k x ps n) q (left_nth k x q) h).whole (step_shows k x q first h p)
  two_show k x y q (inr second) h p = step_shows (patched_nth k x ps n) y q second (has_on k (patched_nth k x ps n) q (left_nth k x q) h) (patched_on k (patched_nth k x ps n) q (left_nth k x q) p)

  three_show : (k : Kept) (x y z : Option ℕ) (q : ℕ) → ((is_frame x q || is_frame y q) ≡ true) ⊎ (is_frame z q ≡ true) → HasPage k q → IsPatched k q ps
      → lrsn_of (bytes_at (patched_nth (patched_nth (patched_nth k x ps n) y ps n) z ps n).pages q) ≡ n
  three_show k x y z q (inl front) h p =
      let a = patched_nth k x ps n in
      let b = patched_nth a y ps n in
      let has = has_on a b q (left_nth a y q) (has_on k a q (left_nth k x q) h) in
      (left_nth b z q).shows has.whole (two_show k x y q (or_cases (is_frame x q) (is_frame y q) front) h p)
  three_show k x y z q (inr third) h p =
      let a = patched_nth k x ps n in
      let b = patched_nth a y ps n in
      let has = has_on a b q (left_nth a y q) (has_on k a q (left_nth k x q) h) in
      step_shows b z q third has (patched_on a b q (left_nth a y q) (patched_on k a q (left_nth k x q) p))

pub patches_show : Laws → PatchesShow
patches_show laws k slot frames patches number place has lie small q e =
    let it = has q e in
    three_show laws patches number lie small k (frame_of frames 0) (frame_of frames 1) (frame_of frames 2) q (or_cases (is_frame (frame_of frames 0) q || is_frame (frame_of frames 1) q) (is_frame (frame_of frames 2) q) e) it.0 it.1
