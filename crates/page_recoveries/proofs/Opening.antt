-- A member whose restart is over: no number of its log is known to it, it claims no page, and the pages that its policy has placed in its frames
-- meanwhile are copies without bytes.
use Rattle.std.proofs.Common.{◌≡◌, ℕ, ◌+◌, ◌≤◌, refl, sym, ◌∙◌, ap, subst, arith, Bool, true, false, List, [], ◌∷◌, Option, Some, None}
use Rattle.std.specs.Prelude.{◌&&◌, ◌||◌, ◌==◌, if◌then◌else◌, nat_lt, slice_index_or}
use Rattle.std.proofs.lemmas.Bool.{both_ways, cond-false, eqb-true, lt-ltb, ne_eqb}
use Rattle.std.proofs.lemmas.Option.{same_Some}
use Rattle.ds_base.specs.declared.names.PageId.{PageId}
use Rattle.ds_model.specs.declared.lock.Name.{Name}
use Rattle.cache_structure.specs.Directory.{Directory, bit, is_registered}
use Rattle.lock_names.specs.Names.{same_name}
use Rattle.lock_names.proofs.Names.{same_itself}
use Rattle.lock_manager.specs.declared.claim.Claim.{Claim}
use Rattle.lock_manager.specs.Claims.{mode_in}
use Rattle.lock_manager.specs.Managers.{claims_of}
use Rattle.member_pool.specs.Heads.{HeadState}
use Rattle.member_pool.specs.Frames.{find_page}
use Rattle.member_marks.specs.Frames.{frame_in}
use Rattle.member_marks.specs.State.{MarksState}
use Rattle.lock_world.specs.Numbers.{AreNumbered, name_at, number}
use Rattle.lock_world.specs.Views.{claim_in}
use Rattle.page_protocol.specs.Page.{Frame, Page, put}
use Rattle.page_protocol.specs.Moves.{World}
use Rattle.page_world.specs.Holdings.{Copy, Holdings, held_of, no_copy}
use Rattle.page_world.specs.Numbers.{AreNumbered as PagesHaveNumbers, page_at, page_number}
use Rattle.page_world.specs.Tied.{PageTied, Tied, bit_in}
use Rattle.group_pages.specs.Given.{AreInX, IsEmpty, OwnInX, PagesNumbered, SameOthers, copy_in, copy_of}
use Rattle.group_pages.proofs.Given.{is_found}

-- ---- no number of its log is known to be on disk
pub unforced : (w : World) (content : ℕ → ℕ → List ℕ) (forced : ℕ → ℕ) (m : ℕ) → PagesNumbered w content forced → PagesNumbered w content (put forced m 0)
unforced w content forced m t = record {
  shown = t.shown;
  stable = λ n i lt le. t.stable n i lt (below ((w.pages n).author i) ((w.pages n).lrsn i) le);
  drawn = λ k. no_higher (k == m) (forced k) w.group.counter (t.drawn k);
}
  where
    lower : (b : Bool) (x y : ℕ) → y ≤ (if b then 0 else x) → y ≤ x
    lower true x y le = omega (arith, le)
    lower false x y le = le

    no_higher : (b : Bool) (x y : ℕ) → x ≤ y → (if b then 0 else x) ≤ y
    no_higher true x y le = omega arith
    no_higher false x y le = le

    below : (k y : ℕ) → y ≤ put forced m 0 k → y ≤ forced k
    below k y le = lower (k == m) (forced k) y le

pub unforced_others : (g left : Holdings) (forced : ℕ → ℕ) (m : ℕ) → SameOthers g left forced forced m → SameOthers g left forced (put forced m 0) m
unforced_others g left forced m s = record {
  members = s.members;
  statuses = s.statuses;
  counter = s.counter;
  log = λ k ne. cond-false (k == m) 0 (forced k) (ne_eqb k m ne);
  stable = s.stable;
  written = s.written;
  copies = s.copies;
  casts = s.casts;
  keeps = s.keeps;
  takes = s.takes;
}

-- ---- it claims no page
none_claimed : (cs : List Claim) → ((n : Name) → mode_in cs n ≡ None) → AreInX cs
none_claimed [] none = tt
none_claimed (c ∷ cs) none = absurd (there (same_name c.name c.name) (same_itself c.name) (none c.name))
  where
    there : (b : Bool) → b ≡ true → (if b then Some c.mode else mode_in cs c.name) ≡ None → ⊥
    there true e f = cc f
    there false e f = cc e

pub none_in_x : AreNumbered → (s : MarksState) → ((c : ℕ) → claim_in s.locks 0 c ≡ None) → OwnInX s
none_in_x law s none = none_claimed (claims_of s.locks 0) each
  where
    first : nat_lt 0 (s.locks.agents + 1) ≡ true
    first = lt-ltb 0 (s.locks.agents + 1) (omega arith)

    each : (n : Name) → mode_in (slice_index_or s.locks.holders 0 []) n ≡ None
    each n =
        let own : claim_in s.locks 0 (number n) ≡ mode_in (slice_index_or s.locks.holders 0 []) (name_at (number n)) = ap (λ (b : Bool). mode_in (if b then slice_index_or s.locks.holders 0 [] else []) (name_at (number n))) first in
        ap (λ (z : Name). mode_in (slice_index_or s.locks.holders 0 []) z) (sym (law.named n)) ∙ sym own ∙ none (number n)

-- ---- a page in an empty frame is a copy without bytes, of which the world knows nothing
record IsLoose (c : Copy) : Type 0 where
  unfilled : c.filled ≡ false
  unmarked : c.marked ≡ false
  unnoted : c.noted ≡ false

loose_in : (heads : HeadState) (pages : List (List ℕ)) → ((at : ℕ) → IsEmpty (frame_in heads at)) → (o : Option ℕ) → IsLoose (copy_in heads pages o)
loose_in heads pages empty None = record { unfilled = refl; unmarked = refl; unnoted = refl }
loose_in heads pages empty (Some at) =
    let x = empty at in
    let registered = x.unregistered in
    let filled = x.unfilled in
    record { unfilled = filled; unmarked = x.unchanged; unnoted = λ i. registered i || filled i }

-- what a page is tied to by one member
record OneTied (d : Directory) (id : PageId) (m : ℕ) (c : Copy) (f : Frame) (b : Bool) (content : ℕ → List ℕ) : Type 0 where
  bit_is : bit_in c (is_registered d id m c.index) ≡ b
  own : c.placed ≡ true → c.noted ≡ true → bit d m c.index ≡ true → is_registered d id m c.index ≡ true
  filled : c.filled ≡ f.filled
  marked : c.marked ≡ f.marked
  same : f.filled ≡ true → c.bytes ≡ content f.version

nothing_in : (placed noted bound b : Bool) → noted ≡ false → false ≡ b → (placed && (noted && bound)) ≡ b
nothing_in false noted bound b e none = none
nothing_in true false bound b e none = none
nothing_in true true bound b e none = absurd (cc e)

loose_tied : (d : Directory) (id : PageId) (m : ℕ) (c : Copy) (f : Frame) (b : Bool) (content : ℕ → List ℕ) → IsLoose c → OneTied d id m no_copy f b content → OneTied d id m c f b content
loose_tied d id m c f b content l t = record {
  bit_is = nothing_in c.placed c.noted (is_registered d id m c.index) b l.unnoted t.bit_is;
  own = λ placed noted set. absurd (both_ways c.noted l.unnoted noted);
  filled = l.unfilled ∙ t.filled;
  marked = l.unmarked ∙ t.marked;
  same = λ filled. absurd (both_ways f.filled (sym t.filled) filled);
}

one_of : (d : Directory) (id : PageId) (m : ℕ) (b : Bool) (x y : Copy) (f : Frame) (bit : Bool) (content : ℕ → List ℕ) → (b ≡ true → OneTied d id m x f bit content) → OneTied d id m y f bit content → OneTied d id m (if b then x else y) f bit content
one_of d id m true x y f bit content new old = new refl
one_of d id m false x y f bit content new old = old

-- the group with these copies of the member
abbrev pub with_copies : Holdings → ℕ → (ℕ → Copy) → Holdings
with_copies g m now = record g { copies = λ k n. if k == m then now n else g.copies k n }

pub others_placed : (g left : Holdings) (forced force : ℕ → ℕ) (m : ℕ) (now : ℕ → Copy) → SameOthers g left forced force m → SameOthers g (with_copies left m now) forced force m
others_placed g left forced force m now s = record {
  members = s.members;
  statuses = s.statuses;
  counter = s.counter;
  log = s.log;
  stable = s.stable;
  written = s.written;
  copies = λ k n ne. cond-false (k == m) (now n) (left.copies k n) (ne_eqb k m ne) ∙ s.copies k n ne;
  casts = s.casts;
  keeps = s.keeps;
  takes = s.takes;
}

page_placed : (g : Holdings) (m : ℕ) (now : ℕ → Copy) (n : ℕ) (p : Page) (content : ℕ → List ℕ) → g.copies m n ≡ no_copy → IsLoose (now n) → PageTied (held_of g n) p content → PageTied (held_of (with_copies g m now) n) p content
page_placed g m now n p content none loose t = record {
  bytes = t.bytes;
  changed = t.changed;
  there = t.there;
  castout = t.castout;
  written = t.written;
  disk = t.disk;
  bit = λ k. (one k).bit_is;
  own = λ k. (one k).own;
  filled = λ k. (one k).filled;
  marked = λ k. (one k).marked;
  same = λ k. (one k).same;
  indirect = t.indirect;
  buffer = t.buffer;
  sent = t.sent;
  owner = t.owner;
  part = t.part;
}
  where
    d : Directory
    d = g.facility.directory

    was : (k : ℕ) → OneTied d (page_at n) k (g.copies k n) (p.frame k) (p.bit k) content
    was k = record { bit_is = t.bit k; own = t.own k; filled = t.filled k; marked = t.marked k; same = t.same k }

    one : (k : ℕ) → OneTied d (page_at n) k (if k == m then now n else g.copies k n) (p.frame k) (p.bit k) content
    one k = one_of d (page_at n) k (k == m) (now n) (g.copies k n) (p.frame k) (p.bit k) content
        (λ is. loose_tied d (page_at n) k (now n) (p.frame k) (p.bit k) content loose (subst (λ c. OneTied d (page_at n) k c (p.frame k) (p.bit k) content) (ap (λ j. g.copies j n) (eqb-true k m is) ∙ none) (was k)))
        (was k)

-- two pages in one frame are one
in_one_frame : PagesHaveNumbers → (heads : HeadState) (pages : List (List ℕ)) (n k : ℕ) → (copy_of heads pages n).placed ≡ true → (copy_of heads pages k).placed ≡ true → (copy_of heads pages n).index ≡ (copy_of heads pages k).index → n ≡ k
in_one_frame numbers heads pages n k = by (find_page heads.frames (page_at n)) (find_page heads.frames (page_at k)) refl refl
  where
    never : false ≡ true → ⊥
    never e = cc e

    by : (o r : Option ℕ) → find_page heads.frames (page_at n) ≡ o → find_page heads.frames (page_at k) ≡ r → (copy_in heads pages o).placed ≡ true → (copy_in heads pages r).placed ≡ true → (copy_in heads pages o).index ≡ (copy_in heads pages r).index → n ≡ k
    by None r x y a b same = absurd (never a)
    by (Some p) None x y a b same = absurd (never b)
    by (Some p) (Some q) x y a b same =
        let here = is_found heads p (page_at n) x in
        let there = is_found heads q (page_at k) y in
        sym (numbers.numbered n) ∙ ap page_number (same_Some (page_at n) (page_at k) (sym here ∙ ap (λ j. (frame_in heads j).page) same ∙ there)) ∙ numbers.numbered k

pub placed_tied : PagesHaveNumbers → (w : World) (g : Holdings) (content : ℕ → ℕ → List ℕ) (m : ℕ) (heads : HeadState) (pages : List (List ℕ))
    → ((n : ℕ) → g.copies m n ≡ no_copy) → ((at : ℕ) → IsEmpty (frame_in heads at)) → Tied w g content → Tied w (with_copies g m (λ n. copy_of heads pages n)) content
placed_tied numbers w g content m heads pages none empty t = record {
  running = t.running;
  lost = t.lost;
  counter = t.counter;
  status = t.status;
  stable = t.stable;
  written = t.written;
  apart = λ j n k. apart j n k (j == m);
  pages = λ n. page_placed g m (λ i. copy_of heads pages i) n (w.pages n) (content n) (none n) (loose_in heads pages empty (find_page heads.frames (page_at n))) (t.pages n);
}
  where
    apart : (j n k : ℕ) (b : Bool) → (if b then copy_of heads pages n else g.copies j n).placed ≡ true → (if b then copy_of heads pages k else g.copies j k).placed ≡ true
        → (if b then copy_of heads pages n else g.copies j n).index ≡ (if b then copy_of heads pages k else g.copies j k).index → n ≡ k
    apart j n k true x y same = in_one_frame numbers heads pages n k x y same
    apart j n k false x y same = t.apart j n k x y same
