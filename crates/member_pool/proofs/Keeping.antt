-- What the heads of a pool keep while one of its frames changes.
use Rattle.std.proofs.Common.{◌≡◌, ◌≢◌, ℕ, zero, suc, ◌<◌, ◌≤◌, ◌^◌, Bool, true, false, true≢false, arith, replicate, List, [], ◌∷◌, length, get_or, Option, Some, None, refl, sym, ap, subst, ◌∙◌, cond, nat_eq, slice_get, slice_set}
use Rattle.std.specs.Prelude.{nat_lt, find, unwrap_or, slice_index}
use Rattle.std.specs.List.{list_all, position_or_len}
use Rattle.std.proofs.lemmas.List.Folds.{position_or_len-set}
use Rattle.std.specs.Option.{option_map_or}
use Rattle.std.proofs.lemmas.Bool.{eqb-true, eq-eqb}
use Rattle.std.proofs.lemmas.List.{length-set, length-replicate, get_or-set_same, get_or-set_other}
use Rattle.std.proofs.lemmas.Option.{slice_get_read, slice_get-get_or, none-some}
use Rattle.ds_base.specs.declared.names.PageId.{PageId}
use Rattle.page_index.specs.Places.{Index, IsIndexOf, page_at}
use Rattle.page_index.specs.Uses.{newest, oldest, may_take, IsOrderOf}
use Rattle.page_index.proofs.CallerLemmas.{index_less}
use Rattle.write_order.specs.declared.key.WriteKey.{WriteKey}
use Rattle.write_order.specs.declared.rank.Rank.{Rank}
use Rattle.member_pool.specs.declared.frame.Frame.{Frame}
use Rattle.ds_base.specs.Pages.{same_page}
use Rattle.member_pool.specs.Frames.{holds, holding, free_frame, frame_at, is_free, is_unpinned, find_page, page_of}
use Rattle.member_pool.specs.Marks.{entry_of, entry_with}
use Rattle.member_pool.specs.Heads.{HeadState, head_of, with_head, marked}
use Rattle.member_pool.specs.Sound.{come_first}
use Rattle.member_pool.specs.Listed.{Entries, entry_in, with_entry, AreMarked}
use Rattle.member_pool.specs.Kept.{AreKept}
use Rattle.member_pool.proofs.Firsts.{frame_is}
use Rattle.member_pool.proofs.Fronts.{first_newest, first_oldest, all_first}
use Rattle.member_pool.proofs.Tallies.{none_marked}

pub read_at : (frames : List Frame) (f : ℕ) (x : Frame) → f < length frames → x ≡ get_or frames f x → x ≡ frame_at frames f
read_at frames f x l e = sym (ap (λ o. unwrap_or o free_frame) (slice_get_read frames (length frames) f x refl l e))

pub page_at_is : (frames : List Frame) (f : ℕ) → page_at page_of frames f ≡ (frame_at frames f).page
page_at_is frames f = by (slice_get frames f)
  where
    by : (o : Option Frame) → option_map_or page_of o None ≡ page_of (unwrap_or o free_frame)
    by None = refl
    by (Some x) = refl

pub at_same : (frames : List Frame) (f : ℕ) (x : Frame) → f < length frames → frame_at (slice_set frames f x) f ≡ x
at_same frames f x l = frame_is (slice_set frames f x) f ∙ get_or-set_same frames f x free_frame l

pub at_other : (frames : List Frame) (f g : ℕ) (x : Frame) → g ≢ f → frame_at (slice_set frames f x) g ≡ frame_at frames g
at_other frames f g x bars = frame_is (slice_set frames f x) g ∙ get_or-set_other frames f g x free_frame bars ∙ sym (frame_is frames g)

apart_from : (f g : ℕ) → nat_eq f g ≡ false → g ≢ f
apart_from f g h e = true≢false (sym (eq-eqb f g (sym e)) ∙ h)

-- what a test says of the frames, where one of them changes
pub test_same : {X : Type 0} (q : Frame → X) (frames : List Frame) (f : ℕ) (new : Frame) → f < length frames → q new ≡ q (frame_at frames f)
    → (g : ℕ) → q (frame_at (slice_set frames f new) g) ≡ q (frame_at frames g)
test_same {X} q frames f new l same g = by (nat_eq g f) refl
  where
    by : (b : Bool) → nat_eq g f ≡ b → q (frame_at (slice_set frames f new) g) ≡ q (frame_at frames g)
    by true e =
        let is : g ≡ f = eqb-true g f e in
        ap (λ k. q (frame_at (slice_set frames f new) k)) is ∙ ap q (at_same frames f new l) ∙ same ∙ sym (ap (λ k. q (frame_at frames k)) is)
    by false e = ap q (at_other frames f g new (λ is. true≢false (sym (eq-eqb g f is) ∙ e)))

pub entries_set : (frames : List Frame) (f : ℕ) (new : Frame) → f < length frames → with_entry (entry_in frames) f (entry_of new) ≡ entry_in (slice_set frames f new)
entries_set frames f new l = λ i g. at g i
  where
    at : (g : ℕ) → with_entry (entry_in frames) f (entry_of new) g ≡ entry_in (slice_set frames f new) g
    at g = by (nat_eq g f) refl
      where
        by : (b : Bool) → nat_eq g f ≡ b → with_entry (entry_in frames) f (entry_of new) g ≡ entry_in (slice_set frames f new) g
        by true e =
            ap (λ b. cond b (entry_of new) (entry_in frames g)) e
            ∙ sym (ap (λ k. entry_in (slice_set frames f new) k) (eqb-true g f e) ∙ ap entry_of (at_same frames f new l))
        by false e =
            ap (λ b. cond b (entry_of new) (entry_in frames g)) e
            ∙ sym (ap entry_of (at_other frames f g new (λ is. true≢false (sym (eq-eqb g f is) ∙ e))))

entries_same : (frames : List Frame) (f : ℕ) (new : Frame) → f < length frames → entry_of new ≡ entry_in frames f → entry_in frames ≡ entry_in (slice_set frames f new)
entries_same frames f new l same = λ i g. sym (test_same entry_of frames f new l same g) i

entry_page : (o : Option PageId) (changed : Bool) (rank : Rank) (key : WriteKey) → entry_with o changed rank ≡ Some key → o ≡ Some key.page
entry_page None changed rank key h = absurd (none-some key h)
entry_page (Some id) true rank key h = cc
entry_page (Some id) false rank key h = absurd (none-some key h)

module _ (frames : List Frame) (order : List ℕ) (places : Index) (listed : List ℕ) (capacity : ℕ) (counts : List ℕ) (kept : AreKept frames order places listed capacity counts) (f : ℕ) (l : f < length frames) where
  -- the frame, the order, the index and the marks change
  kept_so : (new : Frame) (now : List ℕ) (then : Index) (list : List ℕ) (room : ℕ) (tally : List ℕ) → IsOrderOf (length frames) now
      → come_first (λ g. is_free (frame_at (slice_set frames f new) g)) now ≡ true → IsIndexOf page_of (slice_set frames f new) then
      → AreMarked (entry_in (slice_set frames f new)) (length frames) list tally → length frames ≤ room → AreKept (slice_set frames f new) now then list room tally
  kept_so new now then list room tally whole first index marked enough =
      let long = length-set frames f new in
      record {
        small = subst (λ n. n < 2 ^ 16) (sym long) kept.small;
        whole = subst (λ n. IsOrderOf n now) (sym long) whole;
        free_first = first;
        index = index;
        marked = subst (λ n. AreMarked (entry_in (slice_set frames f new)) n list tally) (sym long) marked;
        list_room = subst (λ n. n ≤ room) (sym long) enough;
      }

  index_still : (x new : Frame) → x ≡ get_or frames f x → new.page ≡ x.page → IsIndexOf page_of (slice_set frames f new) places
  index_still x new e page = index_less page_of frames places kept.index f new l (λ id t. ap (λ o. option_map_or page_of o None) (slice_get_read frames (length frames) f x refl l e) ∙ sym page ∙ t)

  free_still : (x new : Frame) → x ≡ get_or frames f x → new.page ≡ x.page → is_free new ≡ is_free (frame_at frames f)
  free_still x new e page = (λ i. is_free_page (page i)) ∙ ap is_free (read_at frames f x l e)
    where
      is_free_page : Option PageId → Bool
      is_free_page o = is_free (record free_frame { page = o })

  first_still : (x new : Frame) → x ≡ get_or frames f x → new.page ≡ x.page → come_first (λ g. is_free (frame_at (slice_set frames f new) g)) order ≡ true
  first_still x new e page = ap (λ (p : ℕ → Bool). come_first p order) (λ i g. test_same is_free frames f new l (free_still x new e page) g i) ∙ kept.free_first

  marked_still : (new : Frame) → entry_of new ≡ entry_in frames f → AreMarked (entry_in (slice_set frames f new)) (length frames) listed counts
  marked_still new same = subst (λ (e : Entries). AreMarked e (length frames) listed counts) (entries_same frames f new l same) kept.marked

  pub kept_marked : (x new : Frame) → x ≡ get_or frames f x → new.page ≡ x.page → entry_of new ≡ entry_of x → AreKept (slice_set frames f new) order places listed capacity counts
  kept_marked x new e page entry =
      kept_so new order places listed capacity counts kept.whole (first_still x new e page) (index_still x new e page)
      (marked_still new (entry ∙ ap entry_of (read_at frames f x l e))) kept.list_room

  -- a frame is entered in the list, or taken out of it
  pub kept_listed : (x new : Frame) (list : List ℕ) (room : ℕ) (tally : List ℕ) → x ≡ get_or frames f x → new.page ≡ x.page
      → AreMarked (with_entry (entry_in frames) f (entry_of new)) (length frames) list tally → capacity ≤ room → AreKept (slice_set frames f new) order places list room tally
  kept_listed x new list room tally e page marked more =
      kept_so new order places list room tally kept.whole (first_still x new e page) (index_still x new e page)
      (subst (λ (g : Entries). AreMarked g (length frames) list tally) (entries_set frames f new l) marked) (omega (arith, kept.list_room, more))

  others_still : (new : Frame) (g : ℕ) → nat_eq f g ≡ false → is_free (frame_at (slice_set frames f new) g) ≡ is_free (frame_at frames g)
  others_still new g h = ap is_free (at_other frames f g new (apart_from f g h))

  pub kept_newest : (x new : Frame) (now : List ℕ) → x ≡ get_or frames f x → new.page ≡ x.page → entry_of new ≡ entry_of x → is_free x ≡ false → now ≡ newest f order → IsOrderOf (length frames) now
      → AreKept (slice_set frames f new) now places listed capacity counts
  kept_newest x new now e page entry full is whole =
      subst (λ o. AreKept (slice_set frames f new) o places listed capacity counts) (sym is)
      (kept_so new (newest f order) places listed capacity counts (subst (IsOrderOf (length frames)) is whole)
      (first_newest (λ g. is_free (frame_at frames g)) (λ g. is_free (frame_at (slice_set frames f new) g)) f order (others_still new)
      (ap is_free (at_same frames f new l) ∙ free_still x new e page ∙ sym (ap is_free (read_at frames f x l e)) ∙ full) kept.free_first)
      (index_still x new e page) (marked_still new (entry ∙ ap entry_of (read_at frames f x l e))) kept.list_room)

  pub kept_free : (new : Frame) (now : List ℕ) → entry_in frames f ≡ None → new ≡ free_frame → now ≡ oldest f order → IsOrderOf (length frames) now → AreKept (slice_set frames f new) now places listed capacity counts
  kept_free new now none free is whole =
      subst (λ o. AreKept (slice_set frames f new) o places listed capacity counts) (sym is)
      (kept_so new (oldest f order) places listed capacity counts (subst (IsOrderOf (length frames)) is whole)
      (first_oldest (λ g. is_free (frame_at frames g)) (λ g. is_free (frame_at (slice_set frames f new) g)) f order (others_still new)
      (ap is_free (at_same frames f new l) ∙ ap is_free free) kept.free_first)
      (index_less page_of frames places kept.index f new l (λ id t. absurd (none-some id (sym (ap page_of free) ∙ t))))
      (marked_still new (ap entry_of free ∙ sym none)) kept.list_room)

  pub kept_placed : (id : PageId) (new : Frame) (now : List ℕ) (then : Index) → entry_in frames f ≡ None → new ≡ holding id → now ≡ newest f order → IsOrderOf (length frames) now
      → IsIndexOf page_of (slice_set frames f new) then → AreKept (slice_set frames f new) now then listed capacity counts
  kept_placed id new now then none holds_it is whole index =
      subst (λ o. AreKept (slice_set frames f new) o then listed capacity counts) (sym is)
      (kept_so new (newest f order) then listed capacity counts (subst (IsOrderOf (length frames)) is whole)
      (first_newest (λ g. is_free (frame_at frames g)) (λ g. is_free (frame_at (slice_set frames f new) g)) f order (others_still new)
      (ap is_free (at_same frames f new l) ∙ ap is_free holds_it) kept.free_first)
      index (marked_still new (ap entry_of holds_it ∙ sym none)) kept.list_room)

  -- no other frame's entry is of this frame's page
  pub no_other : (id : PageId) → (frame_at frames f).page ≡ Some id → entry_in frames f ≡ None → (g : ℕ) (other : WriteKey) → entry_in frames g ≡ Some other → other.page ≢ id
  no_other id page none g other h is =
      let own : (frame_at frames g).page ≡ Some id = entry_page (frame_at frames g).page (frame_at frames g).changed (frame_at frames g).rank other h ∙ ap (λ p. Some p) is in
      let a = kept.index.leads g id (page_at_is frames g ∙ own) in
      let b = kept.index.leads f id (page_at_is frames f ∙ page) in
      let same : g ≡ f = some_same g f (sym a ∙ b) in
      none-some other (sym none ∙ sym (ap (entry_in frames) same) ∙ h)
    where
      some_same : (m n : ℕ) → Some m ≡ Some n → m ≡ n
      some_same m n e = cc

-- where the order has numbers of frames alone, a frame may be taken exactly where it isn't pinned
pub taken_same : (frames : List Frame) (order : List ℕ) → list_all (λ g. nat_lt g (length frames)) order ≡ true → find (may_take is_unpinned frames) order ≡ find (λ f. is_unpinned (frame_at frames f)) order
taken_same frames [] h = refl
taken_same frames (x ∷ xs) h =
    let here : nat_lt x (length frames) ≡ true = grind arith in
    let rest : list_all (λ g. nat_lt g (length frames)) xs ≡ true = grind arith in
    let at = slice_get-get_or frames x free_frame (within x (length frames) here) in
    let same : may_take is_unpinned frames x ≡ is_unpinned (frame_at frames x) = ap (λ o. option_map_or is_unpinned o false) at ∙ sym (ap (λ o. is_unpinned (unwrap_or o free_frame)) at) in
    (λ i. cond (same i) (Some x) (taken_same frames xs rest i))
  where
    within : (m n : ℕ) → nat_lt m n ≡ true → m < n
    within m n e = grind arith

pub free_at : (n f : ℕ) → frame_at (replicate n free_frame) f ≡ free_frame
free_at zero f = refl
free_at (suc n) zero = refl
free_at (suc n) (suc f) = free_at n f

pub kept_new : (n : ℕ) (frames : List Frame) (order : List ℕ) (places : Index) (listed : List ℕ) (capacity : ℕ) (counts : List ℕ) → n < 2 ^ 16
    → frames ≡ replicate n free_frame → IsOrderOf n order → n ≤ places.size → listed ≡ [] → n ≤ capacity → counts ≡ replicate 129 0
    → AreKept frames order places listed capacity counts
kept_new n frames order places listed capacity counts small f whole room none enough zeros =
    let long : length frames ≡ n = ap length f ∙ length-replicate n free_frame in
    let each : (g : ℕ) → frame_at frames g ≡ free_frame = λ g. ap (λ (fs : List Frame). frame_at fs g) f ∙ free_at n g in
    record {
      small = subst (λ k. k < 2 ^ 16) (sym long) small;
      whole = subst (λ k. IsOrderOf k order) (sym long) whole;
      free_first = all_first (λ g. is_free (frame_at frames g)) order (λ g. ap is_free (each g));
      index = record {
        leads = λ g id h. absurd (none-some id (sym (page_at_is frames g ∙ ap page_of (each g)) ∙ h));
        room = omega (arith, long, room);
      };
      marked = subst (λ xs. AreMarked (entry_in frames) (length frames) xs counts) (sym none)
          (none_marked (length frames) (entry_in frames) counts (λ g. ap entry_of (each g)) (ap length zeros ∙ length-replicate {A = ℕ} 129 0) (λ s. ap (λ c. slice_index c s) zeros ∙ zero_at 129 s));
      list_room = omega (arith, long, enough);
    }
  where
    zero_at : (k s : ℕ) → slice_index (replicate k 0) s ≡ 0
    zero_at zero s = refl
    zero_at (suc k) zero = refl
    zero_at (suc k) (suc s) = zero_at k s

-- ---- marks

pub unmarked : (x : Frame) → x.changed ≡ false → entry_of x ≡ None
unmarked x h = ap (λ b. entry_with x.page b x.rank) h ∙ none x.page x.rank
  where
    none : (o : Option PageId) (rank : Rank) → entry_with o false rank ≡ None
    none None rank = refl
    none (Some id) rank = refl

pub front_within : (n x : ℕ) (xs : List ℕ) → list_all (λ g. nat_lt g n) xs ≡ true → slice_get xs 0 ≡ Some x → x < n
front_within n x [] h e = absurd (none-some x e)
front_within n x (y ∷ xs) h e =
    let is : y ≡ x = some_is y x e in
    let here : nat_lt y n ≡ true = grind arith in
    grind (arith, is, here)
  where
    some_is : (a b : ℕ) → Some a ≡ Some b → a ≡ b
    some_is a b h = cc

pub found_still : (frames : List Frame) (f : ℕ) (new : Frame) (id : PageId) → new.page ≡ (frame_at frames f).page → f < length frames → find_page (slice_set frames f new) id ≡ find_page frames id
found_still frames f new id page l =
    let same : holds id new ≡ holds id (get_or frames f free_frame) = ap (λ o. option_map_or (same_page id) o false) page ∙ ap (holds id) (frame_is frames f) in
    ap (λ n. cond (nat_lt n (length (slice_set frames f new))) (Some n) None) (position_or_len-set (holds id) frames f new free_frame same)
    ∙ ap (λ n. cond (nat_lt (position_or_len (holds id) frames) n) (Some (position_or_len (holds id) frames)) None) (length-set frames f new)

itself : (frames : List Frame) (f : ℕ) → slice_set frames f (frame_at frames f) ≡ frames
itself [] f = refl
itself (x ∷ frames) zero = refl
itself (x ∷ frames) (suc f) = ap (λ (l : List Frame). x ∷ l) (itself frames f)

-- a frame that is marked with the rank that it has
pub remarked : (heads : HeadState) (f : ℕ) (rank : Rank) → rank ≡ (head_of heads f).rank → marked heads f rank ≡ with_head heads f (record (head_of heads f) { changed = true })
remarked heads f rank same = by (head_of heads f).changed refl
  where
    by : (b : Bool) → (head_of heads f).changed ≡ b → marked heads f rank ≡ with_head heads f (record (head_of heads f) { changed = true })
    by false e =
        ap (λ b. cond b heads (with_head heads f (record (head_of heads f) { changed = true; rank = rank }))) e
        ∙ ap (λ r. with_head heads f (record (head_of heads f) { changed = true; rank = r })) same
    by true e =
        ap (λ b. cond b heads (with_head heads f (record (head_of heads f) { changed = true; rank = rank }))) e
        ∙ sym (ap (λ b. with_head heads f (record (head_of heads f) { changed = b })) (sym e)
        ∙ ap (λ (frames : List Frame). let s : HeadState = record { frames = frames; order = heads.order } in s) (itself heads.frames f))
