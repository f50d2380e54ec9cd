-- The heads of the frames where one of them changes, and the copies that they are.
use Rattle.std.proofs.Common.{◌≡◌, ◌≢◌, ℕ, zero, suc, ◌<◌, Bool, true, false, inl, inr, List, [], ◌∷◌, length, get_or, Option, Some, None, refl, sym, ap, subst, ◌∙◌, slice_get, slice_set, cond}
use Rattle.std.specs.Prelude.{◌||◌, is_some, unwrap_or}
use Rattle.std.specs.Option.{option_map_or}
use Rattle.std.proofs.lemmas.Bool.{cond-true, cases_eq}
use Rattle.std.proofs.lemmas.List.{length-set, get_or-set_same, get_or-set_other}
use Rattle.std.proofs.lemmas.Option.{none-some, same_Some, slice_get_within}
use Rattle.ds_base.specs.declared.names.PageId.{PageId}
use Rattle.page_index.specs.Places.{AreApart, page_at as placed_at}
use Rattle.page_index.proofs.CallerLemmas.{finds, misses, found_at}
use Rattle.member_pool.specs.declared.frame.Frame.{Frame}
use Rattle.member_pool.specs.Frames.{free_frame, frame_at, find_page, page_of}
use Rattle.member_pool.specs.Heads.{HeadState, with_head, written, freed}
use Rattle.member_marks.specs.State.{MarksState, with_heads}
use Rattle.member_marks.specs.Frames.{frame_in, is_placed, with_registered, with_filled, after_registered, after_filled, after_written}
use Rattle.member_effects.specs.Changes.{bytes_at}
use Rattle.page_world.specs.Numbers.{page_number, page_at, AreNumbered}
use Rattle.page_world.specs.Holdings.{Copy, no_copy}
use Rattle.page_intents.specs.Stands.{copy_at, copy_in, copy_of}

-- ---- frames of a list
frame_is : (frames : List Frame) (f : ℕ) → frame_at frames f ≡ get_or frames f free_frame
frame_is [] f = refl
frame_is (x ∷ frames) zero = refl
frame_is (x ∷ frames) (suc f) = frame_is frames f

at_same : (frames : List Frame) (f : ℕ) (x : Frame) → f < length frames → frame_at (slice_set frames f x) f ≡ x
at_same frames f x l = frame_is (slice_set frames f x) f ∙ get_or-set_same frames f x free_frame l

pub at_other : (frames : List Frame) (f g : ℕ) (x : Frame) → g ≢ f → frame_at (slice_set frames f x) g ≡ frame_at frames g
at_other frames f g x ne = frame_is (slice_set frames f x) g ∙ get_or-set_other frames f g x free_frame ne ∙ sym (frame_is frames g)

pub placed_is : (frames : List Frame) (f : ℕ) → placed_at page_of frames f ≡ (frame_at frames f).page
placed_is frames f = by (slice_get frames f)
  where
    by : (o : Option Frame) → option_map_or page_of o None ≡ page_of (unwrap_or o free_frame)
    by None = refl
    by (Some x) = refl

pub within : (h : HeadState) (at : ℕ) (id : PageId) → (frame_in h at).page ≡ Some id → at < length h.frames
within h at id e = by (slice_get h.frames at) refl
  where
    by : (o : Option Frame) → slice_get h.frames at ≡ o → at < length h.frames
    by None is = absurd (none-some id (sym (ap (λ (z : Option Frame). (unwrap_or z free_frame).page) is) ∙ e))
    by (Some x) is = slice_get_within h.frames at x is

-- ---- one frame changes
pub record Sets (h u : HeadState) (at : ℕ) (f : Frame) : Type 0 where
  pub is : frame_in u at ≡ f
  pub others : (q : ℕ) → q ≢ at → frame_in u q ≡ frame_in h q
  pub size : length u.frames ≡ length h.frames

pub put_head : (h : HeadState) (at : ℕ) (f : Frame) → at < length h.frames → Sets h (with_head h at f) at f
put_head h at f l = record { is = at_same h.frames at f l; others = λ q ne. at_other h.frames at q f ne; size = length-set h.frames at f }

pub sets_on : (h u v : HeadState) (at : ℕ) (f e : Frame) → Sets h u at f → Sets u v at e → Sets h v at e
sets_on h u v at f e a b = record { is = b.is; others = λ q ne. b.others q ne ∙ a.others q ne; size = b.size ∙ a.size }

pub sets_as : (h u : HeadState) (at : ℕ) (f e : Frame) → f ≡ e → Sets h u at f → Sets h u at e
sets_as h u at f e is s = subst (λ z. Sets h u at z) is s

pub sets_none : (h : HeadState) (at : ℕ) → Sets h h at (frame_in h at)
sets_none h at = record { is = refl; others = λ q ne. refl; size = refl }

-- all else of the marks that the pages know
pub record SameRest (s t : MarksState) : Type 0 where
  pub member : t.member ≡ s.member
  pub locks : t.locks ≡ s.locks
  pub log : t.log ≡ s.log

pub rest_itself : (s : MarksState) → SameRest s s
rest_itself s = record { member = refl; locks = refl; log = refl }

pub rest_on : (s t u : MarksState) → SameRest s t → SameRest t u → SameRest s u
rest_on s t u a b = record { member = b.member ∙ a.member; locks = b.locks ∙ a.locks; log = b.log ∙ a.log }

pub head_rest : (b : Bool) (s : MarksState) (u : HeadState) → SameRest s (cond b (with_heads s u) s)
head_rest true s u = record { member = refl; locks = refl; log = refl }
head_rest false s u = rest_itself s

-- where the frame has a page
pub set_placed : (s : MarksState) (at : ℕ) (u : HeadState) (f : Frame) (id : PageId) → (frame_in s.heads at).page ≡ Some id → Sets s.heads u at f → Sets s.heads (cond (is_placed s.heads at) (with_heads s u) s).heads at f
set_placed s at u f id e sets = subst (λ (t : MarksState). Sets s.heads t.heads at f) (sym (cond-true (is_placed s.heads at) (with_heads s u) s (ap is_some e))) sets

pub sets_registered : (s : MarksState) (at : ℕ) (b : Bool) (id : PageId) → (frame_in s.heads at).page ≡ Some id → Sets s.heads (after_registered s at b).heads at (record (frame_in s.heads at) { registered = b })
sets_registered s at b id e = set_placed s at (with_registered s.heads at b) (record (frame_in s.heads at) { registered = b }) id e (put_head s.heads at (record (frame_in s.heads at) { registered = b }) (within s.heads at id e))

pub sets_filled : (s : MarksState) (at : ℕ) (b : Bool) (id : PageId) → (frame_in s.heads at).page ≡ Some id → Sets s.heads (after_filled s at b).heads at (record (frame_in s.heads at) { filled = b })
sets_filled s at b id e = set_placed s at (with_filled s.heads at b) (record (frame_in s.heads at) { filled = b }) id e (put_head s.heads at (record (frame_in s.heads at) { filled = b }) (within s.heads at id e))

pub sets_both : (s : MarksState) (at : ℕ) (b : Bool) (id : PageId) → (frame_in s.heads at).page ≡ Some id
    → Sets s.heads (after_filled (after_registered s at true) at b).heads at (record (frame_in s.heads at) { registered = true; filled = b })
sets_both s at b id e =
    let t = after_registered s at true in
    let a = sets_registered s at true id e in
    let c = sets_filled t at b id (ap (λ (f : Frame). f.page) a.is ∙ e) in
    sets_as s.heads (after_filled t at b).heads at (record (frame_in t.heads at) { filled = b }) (record (frame_in s.heads at) { registered = true; filled = b }) (ap (λ (f : Frame). record f { filled = b }) a.is)
    (sets_on s.heads t.heads (after_filled t at b).heads at (record (frame_in s.heads at) { registered = true }) (record (frame_in t.heads at) { filled = b }) a c)

pub sets_written : (s : MarksState) (at : ℕ) (id : PageId) → (frame_in s.heads at).page ≡ Some id → Sets s.heads (after_written s at).heads at (record (frame_in s.heads at) { changed = false; registered = true })
sets_written s at id e =
    let u = written s.heads at in
    let a = put_head s.heads at (record (frame_in s.heads at) { changed = false }) (within s.heads at id e) in
    let c = put_head u at (record (frame_in u at) { registered = true }) (within u at id (ap (λ (f : Frame). f.page) a.is ∙ e)) in
    set_placed s at (with_registered u at true) (record (frame_in s.heads at) { changed = false; registered = true }) id e
    (sets_as s.heads (with_registered u at true) at (record (frame_in u at) { registered = true }) (record (frame_in s.heads at) { changed = false; registered = true }) (ap (λ (f : Frame). record f { registered = true }) a.is)
    (sets_on s.heads u (with_registered u at true) at (record (frame_in s.heads at) { changed = false }) (record (frame_in u at) { registered = true }) a c))

-- ---- frames by page
abbrev page_in : HeadState → ℕ → Option PageId
page_in h q = (frame_in h q).page

abbrev pub Apart : HeadState → Type 0
Apart h = AreApart page_of h.frames

pub one_frame : (h : HeadState) → Apart h → (p q : ℕ) (id : PageId) → (frame_in h p).page ≡ Some id → (frame_in h q).page ≡ Some id → p ≡ q
one_frame h apart p q id a b = apart p q id (placed_is h.frames p ∙ a) (placed_is h.frames q ∙ b)

pub found : (h : HeadState) (q : ℕ) (id : PageId) → Apart h → (frame_in h q).page ≡ Some id → find_page h.frames id ≡ Some q
found h q id apart e = found_at page_of h.frames apart q id (placed_is h.frames q ∙ e)

pub is_found : (h : HeadState) (q : ℕ) (id : PageId) → find_page h.frames id ≡ Some q → (frame_in h q).page ≡ Some id
is_found h q id e = sym (placed_is h.frames q) ∙ finds page_of h.frames id q e

pub is_missed : (h : HeadState) (q : ℕ) (id : PageId) → find_page h.frames id ≡ None → (frame_in h q).page ≡ Some id → ⊥
is_missed h q id none e = misses page_of h.frames id q none (placed_is h.frames q ∙ e)

-- the same frame has the page
pub found_same : (h u : HeadState) (id : PageId) → Apart u → ((q : ℕ) → (frame_in u q).page ≡ Some id → (frame_in h q).page ≡ Some id) → ((q : ℕ) → (frame_in h q).page ≡ Some id → (frame_in u q).page ≡ Some id)
    → find_page u.frames id ≡ find_page h.frames id
found_same h u id apart was now = by (find_page h.frames id) (find_page u.frames id) refl refl
  where
    by : (o r : Option ℕ) → find_page h.frames id ≡ o → find_page u.frames id ≡ r → r ≡ o
    by None None x y = refl
    by None (Some q) x y = absurd (is_missed h q id x (was q (is_found u q id y)))
    by (Some q) r x y = sym y ∙ found u q id apart (now q (is_found h q id x))

-- ---- the copies
abbrev pub copy_with : ℕ → Frame → List ℕ → Copy
copy_with at f bytes = record { placed = true; index = at; filled = f.filled; marked = f.changed; noted = f.registered || f.filled; bytes = bytes }

pub copy_here : AreNumbered → (h : HeadState) (pages : List (List ℕ)) (at : ℕ) (id : PageId) → Apart h → (frame_in h at).page ≡ Some id → copy_of h pages (page_number id) ≡ copy_at h pages at
copy_here numbers h pages at id apart e = ap (copy_in h pages) (ap (find_page h.frames) (numbers.named id) ∙ found h at id apart e)

-- the frame of another page
copy_same : AreNumbered → (h u : HeadState) (pages now : List (List ℕ)) (at n : ℕ) (id : PageId) → (frame_in h at).page ≡ Some id → n ≢ page_number id → find_page u.frames (page_at n) ≡ find_page h.frames (page_at n)
    → ((q : ℕ) → q ≢ at → frame_in u q ≡ frame_in h q) → ((q : ℕ) → q ≢ at → bytes_at now q ≡ bytes_at pages q) → copy_of u now n ≡ copy_of h pages n
copy_same numbers h u pages now at n id e ne same others bytes = ap (copy_in u now) same ∙ by (find_page h.frames (page_at n)) refl
  where
    away : (q : ℕ) → find_page h.frames (page_at n) ≡ Some q → q ≢ at
    away q x z = ne (sym (numbers.numbered n) ∙ ap page_number (same_Some (page_at n) id (sym (is_found h q (page_at n) x) ∙ ap (page_in h) z ∙ e)))

    by : (o : Option ℕ) → find_page h.frames (page_at n) ≡ o → copy_in u now o ≡ copy_in h pages o
    by None x = refl
    by (Some q) x = λ i. copy_with q (others q (away q x) i) (bytes q (away q x) i)

-- ---- the frame keeps its page
keeps_page : (h u : HeadState) (at : ℕ) (f : Frame) → Sets h u at f → f.page ≡ (frame_in h at).page → (q : ℕ) → (frame_in u q).page ≡ (frame_in h q).page
keeps_page h u at f s page q = elim (cases_eq q at) [
  | inl e ↦ ap (page_in u) e ∙ ap (λ (z : Frame). z.page) s.is ∙ page ∙ sym (ap (page_in h) e)
  | inr ne ↦ ap (λ (z : Frame). z.page) (s.others q ne)
]

pub kept_apart : (h u : HeadState) (at : ℕ) (f : Frame) → Sets h u at f → f.page ≡ (frame_in h at).page → Apart h → Apart u
kept_apart h u at f s page apart p q id a b =
    let same = keeps_page h u at f s page in
    one_frame h apart p q id (sym (same p) ∙ sym (placed_is u.frames p) ∙ a) (sym (same q) ∙ sym (placed_is u.frames q) ∙ b)

pub kept_there : AreNumbered → (h u : HeadState) (pages now : List (List ℕ)) (at : ℕ) (f : Frame) (id : PageId) → Sets h u at f → f.page ≡ (frame_in h at).page → Apart h → (frame_in h at).page ≡ Some id
    → ((q : ℕ) → q ≢ at → bytes_at now q ≡ bytes_at pages q) → (n : ℕ) → n ≢ page_number id → copy_of u now n ≡ copy_of h pages n
kept_there numbers h u pages now at f id s page apart e bytes n ne =
    let same = keeps_page h u at f s page in
    copy_same numbers h u pages now at n id e ne (found_same h u (page_at n) (kept_apart h u at f s page apart) (λ q x. sym (same q) ∙ x) (λ q x. same q ∙ x)) s.others bytes

-- ---- the frame is free
pub sets_free : (h : HeadState) (at : ℕ) → at < length h.frames → Sets h (freed h at) at free_frame
sets_free h at l = record { is = at_same h.frames at free_frame l; others = λ q ne. at_other h.frames at q free_frame ne; size = length-set h.frames at free_frame }

was_there : (h u : HeadState) (at q : ℕ) (id : PageId) → Sets h u at free_frame → (frame_in u q).page ≡ Some id → (q ≢ at) × ((frame_in h q).page ≡ Some id)
was_there h u at q id s e =
    let ne : q ≢ at = (λ z. none-some id (sym (ap (λ (f : Frame). f.page) s.is) ∙ sym (ap (page_in u) z) ∙ e)) in
    (ne, sym (ap (λ (z : Frame). z.page) (s.others q ne)) ∙ e)

pub free_apart : (h u : HeadState) (at : ℕ) → Sets h u at free_frame → Apart h → Apart u
free_apart h u at s apart p q id a b = one_frame h apart p q id (was_there h u at p id s (sym (placed_is u.frames p) ∙ a)).1 (was_there h u at q id s (sym (placed_is u.frames q) ∙ b)).1

pub free_here : AreNumbered → (h u : HeadState) (pages : List (List ℕ)) (at : ℕ) (id : PageId) → Sets h u at free_frame → Apart h → (frame_in h at).page ≡ Some id → copy_of u pages (page_number id) ≡ no_copy
free_here numbers h u pages at id s apart e = ap (copy_in u pages) (ap (find_page u.frames) (numbers.named id)) ∙ by (find_page u.frames id) refl
  where
    by : (o : Option ℕ) → find_page u.frames id ≡ o → copy_in u pages o ≡ no_copy
    by None x = refl
    by (Some q) x = let was = was_there h u at q id s (is_found u q id x) in absurd (was.0 (one_frame h apart q at id was.1 e))

pub free_there : AreNumbered → (h u : HeadState) (pages : List (List ℕ)) (at : ℕ) (id : PageId) → Sets h u at free_frame → Apart h → (frame_in h at).page ≡ Some id → (n : ℕ) → n ≢ page_number id → copy_of u pages n ≡ copy_of h pages n
free_there numbers h u pages at id s apart e n ne =
    copy_same numbers h u pages pages at n id e ne
    (found_same h u (page_at n) (free_apart h u at s apart) (λ q x. (was_there h u at q (page_at n) s x).1) (λ q x. ap (λ (z : Frame). z.page) (s.others q (away q x)) ∙ x)) s.others (λ q _. refl)
  where
    away : (q : ℕ) → (frame_in h q).page ≡ Some (page_at n) → q ≢ at
    away q x z = ne (sym (numbers.numbered n) ∙ ap page_number (same_Some (page_at n) id (sym x ∙ ap (page_in h) z ∙ e)))
