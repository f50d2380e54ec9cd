use Rattle.std.proofs.Common.{◌≡◌, ℕ, Bool, true, false, true≢false, Option, Some, None, sym, ap, ◌∙◌, slice_set, nat_eq, replicate, refl, List}
use Rattle.std.specs.Prelude.{IsSome, is_none}
use Rattle.std.specs.List.{range_with_len}
use Rattle.std.proofs.lemmas.Bool.{eq-eqb}
use Rattle.std.proofs.lemmas.Option.{none-some}
use Rattle.ds_base.specs.declared.names.PageId.{PageId}
use Rattle.page_index.proofs.CallerLemmas.{apart_put, apart_less}
use Rattle.member_pool.specs.declared.frame.Frame.{Frame}
use Rattle.member_pool.specs.Frames.{free_frame, holding, frame_at, is_free, page_of}
use Rattle.member_pool.specs.Heads.{head_of}
use Rattle.member_pool.specs.Sound.{come_first}
use Rattle.member_pool.proofs.Fronts.{all_first, first_newest, first_oldest}
use Rattle.member_pool.proofs.Keeping.{at_same, at_other, free_at, page_at_is, test_same}
use Rattle.member_pool.proofs.law.keeps_pages_apart.Goals as goal

others : (frames : List Frame) (f : ℕ) (new : Frame) (g : ℕ) → nat_eq f g ≡ false → is_free (frame_at (slice_set frames f new) g) ≡ is_free (frame_at frames g)
others frames f new g h = ap is_free (at_other frames f g new (λ e. true≢false (sym (eq-eqb f g (sym e)) ∙ h)))

taken : (o : Option PageId) → IsSome o → is_none o ≡ false
taken None h = sym h
taken (Some id) h = refl

pub returns-clause-all_free : goal.returns-clause-all_free
returns-clause-all_free c = λ n. record {
  apart = λ f g id s t. absurd (none-some id (sym (page_at_is (replicate n free_frame) f ∙ ap page_of (free_at n f)) ∙ s));
  free_first = all_first (λ f. is_free (frame_at (replicate n free_frame) f)) (range_with_len 0 n) (λ g. ap is_free (free_at n g));
}

pub returns-clause-place : goal.returns-clause-place
returns-clause-place c = λ h f id l alone sound. record {
  apart = apart_put page_of h.frames f (holding id) id l refl sound.apart alone;
  free_first = first_newest (λ g. is_free (frame_at h.frames g)) (λ g. is_free (frame_at (slice_set h.frames f (holding id)) g)) f h.order (others h.frames f (holding id))
      (ap is_free (at_same h.frames f (holding id) l)) sound.free_first;
}

pub returns-clause-drop_page : goal.returns-clause-drop_page
returns-clause-drop_page c = λ h f l sound. record {
  apart = apart_less page_of h.frames f free_frame l sound.apart (λ id t. absurd (none-some id t));
  free_first = first_oldest (λ g. is_free (frame_at h.frames g)) (λ g. is_free (frame_at (slice_set h.frames f free_frame) g)) f h.order (others h.frames f free_frame)
      (ap is_free (at_same h.frames f free_frame l)) sound.free_first;
}

pub returns-clause-pin : goal.returns-clause-pin
returns-clause-pin c = λ h f pins l placed sound.
    let new : Frame = record (head_of h f) { pins = pins } in
    record {
      apart = apart_less page_of h.frames f new l sound.apart (λ id t. page_at_is h.frames f ∙ t);
      free_first = first_newest (λ g. is_free (frame_at h.frames g)) (λ g. is_free (frame_at (slice_set h.frames f new) g)) f h.order (others h.frames f new)
          (ap is_free (at_same h.frames f new l) ∙ taken (head_of h f).page placed) sound.free_first;
    }

pub returns-clause-mark : goal.returns-clause-mark
returns-clause-mark c = λ h f head l page sound. record {
  apart = apart_less page_of h.frames f head l sound.apart (λ id t. page_at_is h.frames f ∙ sym page ∙ t);
  free_first = ap (λ (p : ℕ → Bool). come_first p h.order) (λ i g. test_same is_free h.frames f head l (ap is_none page) g i) ∙ sound.free_first;
}
