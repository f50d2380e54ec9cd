-- The frames of a change hold whole pages, for which its plan has patches.
use Rattle.std.proofs.Common.{◌≡◌, ℕ, ◌<◌, ◌≤◌, refl, sym, ap, subst, ◌∙◌, arith, true, inl, inr, List, length, Option, None, Some}
use Rattle.std.specs.Prelude.{◌⊎◌, ◌||◌}
use Rattle.std.proofs.lemmas.Bool.{cases_Bool, or_cases}
use Rattle.std.proofs.lemmas.Option.{none-some, same_Some}
use Rattle.ds_base.specs.declared.names.PageId.{PageId}
use Rattle.page_format.specs.Fields.{page_size}
use Rattle.page_format.specs.declared.patch.Patch.{Patch}
use Rattle.page_plans.specs.declared.action.Action.{Action}
use Rattle.page_plans.specs.Names.{action_page}
use Rattle.page_plans.specs.Pages.{place_at}
use Rattle.page_plans.specs.Plans.{plan_of}
use Rattle.member_intents.specs.declared.intent.Frames.{Frames}
use Rattle.member_intents.specs.declared.outcome.Sent.{Sent}
use Rattle.member_pool.specs.Frames.{find_page}
use Rattle.member_marks.specs.State.{MarksState}
use Rattle.member_needs.specs.Records.{frame_of, page_of, place_by, place_from}
use Rattle.member_effects.specs.Kept.{Kept}
use Rattle.member_effects.specs.Changes.{bytes_at}
use Rattle.needs_law.specs.Lawful.{Changes, HoldsNth, HoldsPage}
use Rattle.page_protocol.specs.Coherent.{Coherent}
use Rattle.page_protocol.specs.Always.{Stands}
use Rattle.page_protocol.specs.Moves.{World}
use Rattle.page_world.specs.Numbers.{AreNumbered, page_at, page_number}
use Rattle.page_world.specs.Holdings.{Copy, Holdings}
use Rattle.page_world.proofs.Entries.{page_is}
use Rattle.page_intents.specs.Stands.{copy_at, copy_in}
use Rattle.page_intents.specs.Frames.{Begins}
use Rattle.page_intents.specs.Draws.{in_frames, is_frame}
use Rattle.page_intents.proofs.Heads.{found, within}
use Rattle.page_numbers.specs.Numbers.{HasPage, IsPatched}
use Rattle.page_numbers.specs.Recorded.{AreWhole}
use Rattle.page_numbers.proofs.Covering.{Covers, HasPatch, plan_covers}
use Rattle.page_numbers.proofs.Rows.{framed}

-- ---- the bytes of a frame that is filled are those of a version
module _ (numbers : AreNumbered) (w : World) (g : Holdings) (content : ℕ → ℕ → List ℕ) (forced : ℕ → ℕ) (k : Kept) (b : Begins w g content forced k) (whole : AreWhole w content) where
  version_within : (n m : ℕ) → ((w.pages n).frame m).filled ≡ true → ((w.pages n).frame m).version ≤ (w.pages n).last
  version_within n m filled = elim (cases_Bool ((w.pages n).frame m).marked) [
    | inl marked ↦ let last = c.marked_last m marked in omega (arith, last)
    | inr unmarked ↦ let old = c.old m filled unmarked in let within = c.within in omega (arith, old, within)
  ]
    where
      c : Coherent w.group (w.pages n)
      c = subst (λ z. Stands z w.group (w.pages n)) b.tied.running (b.good.stands n)

  frame_whole : (at : ℕ) (page : PageId) → HoldsPage k.marks at page → length (bytes_at k.pages at) ≡ page_size
  frame_whole at page holds =
      let m = k.marks.member in
      let n = page_number holds.own in
      let name : Some holds.own ≡ Some (page_at n) = ap (λ (z : PageId). Some z) (sym (numbers.named holds.own)) in
      let there : find_page k.marks.heads.frames (page_at n) ≡ Some at = found k.marks.heads at (page_at n) b.up.apart (holds.placed ∙ name) in
      let copy : g.copies m n ≡ copy_at k.marks.heads k.pages at = b.up.copies n ∙ ap (copy_in k.marks.heads k.pages) there in
      let tied = b.tied.pages n in
      let filled : ((w.pages n).frame m).filled ≡ true = sym (tied.filled m) ∙ ap (λ (c : Copy). c.filled) copy ∙ holds.filled in
      let bytes : bytes_at k.pages at ≡ content n ((w.pages n).frame m).version = sym (ap (λ (c : Copy). c.bytes) copy) ∙ tied.same m filled in
      ap length bytes ∙ whole n ((w.pages n).frame m).version (version_within n m filled)

  pub has_page : (at : ℕ) (page : PageId) → HoldsPage k.marks at page → HasPage k at
  has_page at page holds =
      let there = within k.marks.heads at holds.own holds.placed in
      record { page = holds.own; placed = holds.placed; within = subst (λ z. at < z) (sym b.up.each) there; whole = frame_whole at page holds }

-- ---- one of the frames
pub record IsNth (s : MarksState) (x : Option PageId) (q : ℕ) : Type 0 where
  pub page : PageId
  pub named : x ≡ Some page
  pub holds : HoldsPage s q page

pub nth_holds : (s : MarksState) (o : Option ℕ) (x : Option PageId) (q : ℕ) → o ≡ Some q → HoldsNth s o x → IsNth s x q
nth_holds s None x q e holds = absurd (none-some q e)
nth_holds s (Some at) None q e holds = absurd holds
nth_holds s (Some at) (Some page) q e holds = record { page = page; named = refl; holds = subst (λ z. HoldsPage s z page) (same_Some at q e) holds }

-- the frame that is there
pub first_is : (s : MarksState) (o : Option ℕ) (page : PageId) → HoldsNth s o (Some page) → (q : ℕ) × (o ≡ Some q) × HoldsPage s q page
first_is s None page holds = absurd holds
first_is s (Some at) page holds = (at, refl, holds)

place_same : (a : Action) (most : ℕ) (x : Option (List ℕ)) → place_from a most x ≡ place_at a most x
place_same a most None = refl
place_same a most (Some first) = refl

-- ---- all frames of a change of the system
patched_by : (k : Kept) (q : ℕ) (page : PageId) (patches : List Patch) → HoldsPage k.marks q page → HasPatch page patches → IsPatched k q patches
patched_by k q page patches holds has id e =
    let own : holds.own ≡ id = same_Some holds.own id (sym holds.placed ∙ e) in
    let same : page ≡ id = sym (page_is holds.own page holds.same) ∙ own in
    (subst (λ z. HasPatch z patches) same has).is

pub all_held : (numbers : AreNumbered) (w : World) (g : Holdings) (content : ℕ → ℕ → List ℕ) (forced : ℕ → ℕ) (k : Kept) (pages : List (List ℕ)) (most slot : ℕ) (a : Action) (frames : Frames) (out : Sent) (patches : List Patch) (y z : Option (List ℕ))
    → Begins w g content forced k → AreWhole w content → Changes k.marks pages most slot a frames out → plan_of a most (page_of pages frames 0) y z ≡ Some patches
    → (q : ℕ) → in_frames frames q ≡ true → HasPage k q × IsPatched k q patches
all_held numbers w g content forced k pages most slot a frames out patches y z b whole lawful planned q e = by (or_cases (is_frame f0 q || is_frame f1 q) (is_frame f2 q) e)
  where
    f0 : Option ℕ
    f0 = frame_of frames 0

    f1 : Option ℕ
    f1 = frame_of frames 1

    f2 : Option ℕ
    f2 = frame_of frames 2

    covers : Covers a (place_by pages most a frames) patches
    covers = subst (λ o. Covers a o patches) (sym (place_same a most (page_of pages frames 0))) (plan_covers a most (page_of pages frames 0) y z patches planned)

    one : (x : Option PageId) → IsNth k.marks x q → ((id : PageId) → x ≡ Some id → HasPatch id patches) → HasPage k q × IsPatched k q patches
    one x nth has = (has_page numbers w g content forced k b whole q nth.page nth.holds, patched_by k q nth.page patches nth.holds (has nth.page nth.named))

    front : (is_frame f0 q ≡ true) ⊎ (is_frame f1 q ≡ true) → HasPage k q × IsPatched k q patches
    front (inl x) = one (action_page a 0 (place_by pages most a frames)) (nth_holds k.marks f0 _ q (framed f0 q x) lawful.holds.first) covers.zeroth
    front (inr x) = one (action_page a 1 (place_by pages most a frames)) (nth_holds k.marks f1 _ q (framed f1 q x) lawful.holds.second) covers.first

    by : ((is_frame f0 q || is_frame f1 q) ≡ true) ⊎ (is_frame f2 q ≡ true) → HasPage k q × IsPatched k q patches
    by (inl x) = front (or_cases (is_frame f0 q) (is_frame f1 q) x)
    by (inr x) = one (action_page a 2 (place_by pages most a frames)) (nth_holds k.marks f2 _ q (framed f2 q x) lawful.holds.third) covers.second
