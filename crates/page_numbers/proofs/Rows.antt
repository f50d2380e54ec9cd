-- A change of a row, and one that takes it back, leave their number in the page.
use Rattle.std.proofs.Common.{◌≡◌, ℕ, ◌^◌, ◌<◌, ap, subst, ◌∙◌, true, List, [], length, Option, Some, None, slice_set}
use Rattle.std.specs.Prelude.{nat_lt}
use Rattle.std.proofs.lemmas.Bool.{cond-true, eqb-true, lt-ltb}
use Rattle.std.proofs.lemmas.List.{get_or-set_same}
use Rattle.ds_model.specs.declared.log.RowChange.{RowChange}
use Rattle.page_format.specs.Fields.{lrsn_of}
use Rattle.page_format.specs.Header.{slots_per_page}
use Rattle.page_chain.specs.Chains.{row_patch}
use Rattle.page_plans.specs.Rows.{after_row}
use Rattle.heap_space.specs.Written.{after_patch}
use Rattle.member_needs.specs.Records.{frame_of}
use Rattle.member_effects.specs.Kept.{Kept}
use Rattle.member_effects.specs.Changes.{bytes_at, row_frame, row_nth, row_page}
use Rattle.page_intents.specs.Draws.{is_frame}
use Rattle.page_numbers.specs.Numbers.{BackShows, HasPage, HasSlot, RowShows}
use Rattle.page_numbers.proofs.Stamps.{Laws, patch_shows}

pub framed : (o : Option ℕ) (q : ℕ) → is_frame o q ≡ true → o ≡ Some q
framed None q e = absurd (cc e)
framed (Some at) q e = ap Some (eqb-true at q e)

pub set_at : (pages : List (List ℕ)) (at : ℕ) (bytes : List ℕ) → at < length pages → bytes_at (slice_set pages at bytes) at ≡ bytes
set_at pages at bytes l = get_or-set_same pages at bytes [] l

row_bytes : (k : Kept) (q : ℕ) (c : RowChange) (n : ℕ) → HasPage k q → bytes_at (row_frame k q c n).pages q ≡ after_row n c (bytes_at k.pages q)
row_bytes k q c n h =
    ap (λ o. bytes_at (row_page k q o c n).pages q) h.placed
    ∙ ap (λ (z : Kept). bytes_at z.pages q) (cond-true (nat_lt q (length k.pages)) _ k (lt-ltb q (length k.pages) h.within))
    ∙ set_at k.pages q (after_row n c (bytes_at k.pages q)) h.within

row_lrsn : Laws → (k : Kept) (q : ℕ) (c : RowChange) (n : ℕ) → HasPage k q → HasSlot c → n < 2 ^ 80 → lrsn_of (bytes_at (row_frame k q c n).pages q) ≡ n
row_lrsn laws k q c n h s small =
    ap lrsn_of (row_bytes k q c n h)
    ∙ ap lrsn_of (cond-true (nat_lt c.place.slot slots_per_page) (after_patch n (bytes_at k.pages q) (row_patch c)) (bytes_at k.pages q) (lt-ltb c.place.slot slots_per_page s.slot))
    ∙ patch_shows laws n (bytes_at k.pages q) (row_patch c) h.whole s.lies small

pub row_shows : Laws → RowShows
row_shows laws k slot frames c number place has s small q e =
    ap (λ o. lrsn_of (bytes_at (row_nth k o c number).pages q)) (framed (frame_of frames 0) q e) ∙ row_lrsn laws k q c number (has q e) s small

pub back_shows : Laws → BackShows
back_shows laws k o at c number place h s small q e =
    subst (λ z. lrsn_of (bytes_at (row_frame k at c number).pages z) ≡ number) (eqb-true at q e) (row_lrsn laws k at c number h s small)
