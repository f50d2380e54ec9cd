-- A page is tested: its copy stays as it is.
use Rattle.std.proofs.Common.{◌≡◌, ℕ, refl, sym, ap, subst, ◌∙◌, Bool, true, false, List, Option, Some, None}
use Rattle.std.specs.Prelude.{◌||◌, if◌then◌else◌}
use Rattle.ds_base.specs.declared.names.PageId.{PageId}
use Rattle.cache_structure.specs.Directory.{bit}
use Rattle.facility.specs.declared.command.Reply.TheVariants as reply
use Rattle.member_pool.specs.declared.frame.Frame.{Frame}
use Rattle.member_marks.specs.State.{MarksState}
use Rattle.member_marks.specs.Frames.{frame_in, is_placed, with_registered, after_registered}
use Rattle.member_effects.specs.Kept.{Kept}
use Rattle.member_effects.specs.Changes.{bytes_at, with_marks}
use Rattle.member_effects.specs.Frames.{valid_after, full_at}
use Rattle.page_world.specs.Numbers.{page_number, AreNumbered}
use Rattle.page_world.specs.Holdings.{Copy, Holdings}
use Rattle.page_world.specs.Newest.{ValidIsNewest}
use Rattle.page_intents.specs.Stands.{IsUp, behind, Goes}
use Rattle.page_intents.specs.Frames.{tested_kept, TestGoes, TestTells}
use Rattle.page_intents.proofs.Heads.{Sets, SameRest, sets_registered, copy_with, head_rest}
use Rattle.page_intents.proofs.Standing.{Leaves, leaves_set, quiet_by, has_copy, has_frame}

pub or_true : (a b : Bool) → b ≡ true → (a || b) ≡ true
or_true true b e = refl
or_true false b e = e

-- the member and its heads are those behind the test
pub record IsTested (s t : MarksState) (at : ℕ) (b : Bool) : Type 0 where
  pub rest : SameRest s t
  pub heads : t.heads ≡ (after_registered s at b).heads

registered_rest : (s : MarksState) (at : ℕ) (b : Bool) → SameRest s (after_registered s at b)
registered_rest s at b = head_rest (is_placed s.heads at) s (with_registered s.heads at b)

valid_tested : (s : MarksState) (at slot place : ℕ) (full : Option (ℕ × ℕ)) → IsTested s (valid_after (after_registered s at true) slot place full) at true
valid_tested s at slot place None = record { rest = registered_rest s at true; heads = refl }
valid_tested s at slot place (Some x) = let r = registered_rest s at true in record { rest = record { member = r.member; locks = r.locks; log = r.log }; heads = refl }

pub invalid_tested : (s : MarksState) (at : ℕ) → IsTested s (after_registered s at false) at false
invalid_tested s at = record { rest = registered_rest s at false; heads = refl }

-- a filled frame counts as registered all along
copy_tested : (f : Frame) (bytes : List ℕ) (at : ℕ) (b : Bool) → f.filled ≡ true → copy_with at (record f { registered = b }) bytes ≡ copy_with at f bytes
copy_tested f bytes at b filled =
    let noted : (b || f.filled) ≡ (f.registered || f.filled) = or_true b f.filled filled ∙ sym (or_true f.registered f.filled filled) in
    λ i. record { placed = true; index = at; filled = f.filled; marked = f.changed; noted = noted i; bytes = bytes }

pub leaves_tested : AreNumbered → (g : Holdings) (forced : ℕ → ℕ) (k : Kept) (t : MarksState) (at : ℕ) (b : Bool) (id : PageId) → IsUp g forced k → (frame_in k.marks.heads at).page ≡ Some id → (frame_in k.marks.heads at).filled ≡ true → IsTested k.marks t at b
    → Leaves k (with_marks k t) (page_number id) (g.copies k.marks.member (page_number id))
leaves_tested numbers g forced k t at b id up placed filled tested =
    let h = k.marks.heads in
    let f : Frame = record (frame_in h at) { registered = b } in
    leaves_set numbers g forced k (with_marks k t) at f id (g.copies k.marks.member (page_number id)) up placed tested.rest (subst (λ z. Sets h z at f) (sym tested.heads) (sets_registered k.marks at b id placed)) refl refl (λ q _. refl)
    (copy_tested (frame_in h at) (bytes_at k.pages at) at b filled ∙ sym (has_copy numbers g forced k at id up placed))

pub test_goes : AreNumbered → TestGoes
test_goes numbers w g content forced k at slot gives limit place out answer v b lawful r = by (bit g.facility.directory k.marks.member at) r.0
  where
    by : (x : Bool) → answer ≡ (if x then reply.Valid else reply.Invalid) → Goes w content forced (behind g v k.marks.member (tested_kept k at slot gives limit answer place)) k.marks (tested_kept k at slot gives limit answer place)
    by true e =
        subst (λ a. Goes w content forced (behind g v k.marks.member (tested_kept k at slot gives limit a place)) k.marks (tested_kept k at slot gives limit a place)) (sym e)
        (quiet_by w g content forced v k (tested_kept k at slot gives limit reply.Valid place) (page_number lawful.page) b.tied b.numbered b.up
        (leaves_tested numbers g forced k (valid_after (after_registered k.marks at true) slot place (full_at k.pages at gives limit)) at true lawful.page b.up lawful.placed lawful.filled (valid_tested k.marks at slot place (full_at k.pages at gives limit))) r.1)
    by false e =
        subst (λ a. Goes w content forced (behind g v k.marks.member (tested_kept k at slot gives limit a place)) k.marks (tested_kept k at slot gives limit a place)) (sym e)
        (quiet_by w g content forced v k (tested_kept k at slot gives limit reply.Invalid place) (page_number lawful.page) b.tied b.numbered b.up
        (leaves_tested numbers g forced k (after_registered k.marks at false) at false lawful.page b.up lawful.placed lawful.filled (invalid_tested k.marks at)) r.1)

-- a valid answer tells that the bit is set
is_set : (x : Bool) → reply.Valid ≡ (if x then reply.Valid else reply.Invalid) → x ≡ true
is_set true e = refl
is_set false e = absurd (cc e)

pub test_tells : AreNumbered → ValidIsNewest → TestTells
test_tells numbers law w g content forced k at slot gives out v b lawful r unchanged =
    let c = has_copy numbers g forced k at lawful.page b.up lawful.placed in
    sym (ap (λ (x : Copy). x.bytes) c)
    ∙ law w g content k.marks.member (page_number lawful.page) at b.good b.tied (has_frame numbers g forced k at lawful.page b.up lawful.placed)
    (ap (λ (x : Copy). x.noted) c ∙ or_true (frame_in k.marks.heads at).registered (frame_in k.marks.heads at).filled lawful.filled) (ap (λ (x : Copy). x.filled) c ∙ lawful.filled) (ap (λ (x : Copy). x.marked) c ∙ unchanged)
    (is_set (bit g.facility.directory k.marks.member at) r.0)
