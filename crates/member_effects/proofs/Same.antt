-- Frames that change leave the log buffer and the transactions as they are.
use Rattle.std.proofs.Common.{◌≡◌, ℕ, refl, ◌∙◌, subst, Bool, List, Option, Some, None}
use Rattle.std.specs.Prelude.{if◌then◌else◌, nat_lt, length, slice_set}
use Rattle.std.proofs.lemmas.Bool.{cond_both}
use Rattle.ds_base.specs.declared.names.PageId.{PageId}
use Rattle.ds_model.specs.declared.log.RowChange.{RowChange}
use Rattle.page_format.specs.declared.patch.Patch.{Patch}
use Rattle.heap_space.specs.Written.{written}
use Rattle.write_order.specs.declared.rank.Rank.{Rank}
use Rattle.write_order.specs.Ranks.{rank_of}
use Rattle.page_plans.specs.Rows.{after_row}
use Rattle.member_needs.specs.Given.{Frames}
use Rattle.member_log.specs.Buffers.{LogBuffer}
use Rattle.member_trans.specs.Trans.{TransState}
use Rattle.member_needs.specs.Given.{after_marked, frame_in, is_placed}
use Rattle.member_needs.specs.Given.{MarksState}
use Rattle.member_needs.specs.Records.{frame_of}
use Rattle.member_effects.specs.Changes.{bytes_at, patched_frames, patched_nth, patched_page, put_page, row_nth, row_page}
use Rattle.member_effects.specs.Kept.{Kept}

pub record Same (s t : MarksState) : Type 0 where
  pub log : t.log ≡ s.log
  pub trans : t.trans ≡ s.trans

same_itself : (s : MarksState) → Same s s
same_itself s = record { log = refl; trans = refl }

same_on : (s t u : MarksState) → Same s t → Same t u → Same s u
same_on s t u a b = record { log = b.log ∙ a.log; trans = b.trans ∙ a.trans }

same_if : (s x y : MarksState) (b : Bool) → Same s x → Same s y → Same s (if b then x else y)
same_if s x y b p q = cond_both b x y (λ (z : MarksState). Same s z) (λ e. p) (λ e. q)

-- what is so of the one's buffer and transactions is so of the other's
pub where_same : (s t : MarksState) (P : LogBuffer → TransState → Type 0) → Same s t → P t.log t.trans → P s.log s.trans
where_same s t P e k = subst (λ (z : TransState). P s.log z) e.trans (subst (λ (z : LogBuffer). P z t.trans) e.log k)

same_marked : (s : MarksState) (at : ℕ) (rank : Rank) → Same s (after_marked s at rank)
same_marked s at rank = same_if s _ _ (is_placed s.heads at) (record { log = refl; trans = refl }) (same_itself s)

patched_at : (k : Kept) (at : ℕ) (o : Option PageId) (ps : List Patch) (n : ℕ) → Same k.marks (patched_page k at o ps n).marks
patched_at k at None ps n = same_itself k.marks
patched_at k at (Some id) ps n = cond_both (nat_lt at (length k.pages)) (put_page k at id (written id n ps (bytes_at k.pages at))) k (λ (z : Kept). Same k.marks z.marks)
    (λ e. same_marked k.marks at (rank_of id (bytes_at (slice_set k.pages at (written id n ps (bytes_at k.pages at))) at))) (λ e. same_itself k.marks)

patched_in : (k : Kept) (o : Option ℕ) (ps : List Patch) (n : ℕ) → Same k.marks (patched_nth k o ps n).marks
patched_in k None ps n = same_itself k.marks
patched_in k (Some at) ps n = patched_at k at (frame_in k.marks.heads at).page ps n

pub patched_all : (k : Kept) (frames : Frames) (ps : List Patch) (n : ℕ) → Same k.marks (patched_frames k frames ps n).marks
patched_all k frames ps n =
    let one : Kept = patched_nth k (frame_of frames 0) ps n in
    let two : Kept = patched_nth one (frame_of frames 1) ps n in
    let last : Kept = patched_nth two (frame_of frames 2) ps n in
    same_on k.marks two.marks last.marks (same_on k.marks one.marks two.marks (patched_in k (frame_of frames 0) ps n) (patched_in one (frame_of frames 1) ps n)) (patched_in two (frame_of frames 2) ps n)

pub row_at : (k : Kept) (at : ℕ) (o : Option PageId) (c : RowChange) (n : ℕ) → Same k.marks (row_page k at o c n).marks
row_at k at None c n = same_itself k.marks
row_at k at (Some id) c n = cond_both (nat_lt at (length k.pages)) (put_page k at id (after_row n c (bytes_at k.pages at))) k (λ (z : Kept). Same k.marks z.marks)
    (λ e. same_marked k.marks at (rank_of id (bytes_at (slice_set k.pages at (after_row n c (bytes_at k.pages at))) at))) (λ e. same_itself k.marks)

pub row_in : (k : Kept) (o : Option ℕ) (c : RowChange) (n : ℕ) → Same k.marks (row_nth k o c n).marks
row_in k None c n = same_itself k.marks
row_in k (Some at) c n = row_at k at (frame_in k.marks.heads at).page c n
