-- Pages are placed in frames, fill them and leave them.
use Rattle.std.proofs.Common.{◌≡◌, ℕ, refl, sym, ◌∙◌, ap, subst, Bool, true, false, List, [], ◌∷◌, Option, Some, None}
use Rattle.std.specs.Prelude.{◌≢◌, ◌==◌, ◌&&◌, if◌then◌else◌, is_some}
use Rattle.std.proofs.lemmas.Bool.{both_ways}
use Rattle.ds_base.specs.declared.names.PageId.{PageId}
use Rattle.cache_structure.specs.Frames.{is_page, with_frame}
use Rattle.facility.specs.declared.command.Reply.TheVariants as reply
use Rattle.facility.specs.States.{Held}
use Rattle.page_protocol.specs.Page.{Page, Group, Frame, put, unfilled, read_disk, drop_frame, redo}
use Rattle.page_protocol.specs.Moves.{World, At, ReadDisk, DropFrame, PutAside, Redo, MayFill}
use Rattle.page_world.specs.Numbers.{page_at}
use Rattle.page_world.specs.Holdings.{Copy, no_copy, Holdings, PageHeld, held_of, put2, with_copy, as_status}
use Rattle.page_world.specs.Tied.{PageTied, bit_in, AreApart, Tied, Moved}
use Rattle.page_world.specs.Frames.{placed_copy, PlacesStays, filled_copy, FillsMoves, redone_copy, RedoesMoves, LeavesMoves, AsideMoves, UnregistersMoves, TestsTell}
use Rattle.page_world.proofs.Slices.{Alike, alike_tied, alike_on, one_moved, none_moved, put2_here, put2_other, put2_by}
use Rattle.page_world.proofs.Copies.{by_member, put_here, put_there, FrameTied, apart_put, apart_gone, frame_apart, frame_other}
use Rattle.page_world.proofs.Reading.{not_failed}

-- ---- the frame of a page, whose registration stays
frame_left : (h : PageHeld) (p : Page) (content : ℕ → List ℕ) (m : ℕ) (c : Copy) (b : Bool) (f : Frame) → PageTied h p content → FrameTied c f content → bit_in c (h.bound m) ≡ b → (c.placed ≡ true → c.noted ≡ true → h.set m ≡ true → h.bound m ≡ true)
    → PageTied (record h { copies = put h.copies m c }) (record p { bit = put p.bit m b; frame = put p.frame m f }) content
frame_left h p content m c b f t s bit own = record {
  bytes = t.bytes;
  changed = t.changed;
  there = t.there;
  castout = t.castout;
  written = t.written;
  disk = t.disk;
  bit = by_member (λ k. bit_in (put h.copies m c k) (h.bound k) ≡ put p.bit m b k) m
      (ap (λ (x : Copy). bit_in x (h.bound m)) (put_here h.copies m c) ∙ bit ∙ sym (put_here p.bit m b))
      (λ k ne. ap (λ (x : Copy). bit_in x (h.bound k)) (put_there h.copies m k c ne) ∙ t.bit k ∙ sym (put_there p.bit m k b ne));
  own = by_member (λ k. (put h.copies m c k).placed ≡ true → (put h.copies m c k).noted ≡ true → h.set k ≡ true → h.bound k ≡ true) m
      (subst (λ (x : Copy). x.placed ≡ true → x.noted ≡ true → h.set m ≡ true → h.bound m ≡ true) (sym (put_here h.copies m c)) own)
      (λ k ne. subst (λ (x : Copy). x.placed ≡ true → x.noted ≡ true → h.set k ≡ true → h.bound k ≡ true) (sym (put_there h.copies m k c ne)) (t.own k));
  filled = λ k. elim (k == m) as (λ z. (if z then c else h.copies k).filled ≡ (if z then f else p.frame k).filled) [ true ↦ s.filled | false ↦ t.filled k ];
  marked = λ k. elim (k == m) as (λ z. (if z then c else h.copies k).marked ≡ (if z then f else p.frame k).marked) [ true ↦ s.marked | false ↦ t.marked k ];
  same = λ k. elim (k == m) as (λ z. (if z then f else p.frame k).filled ≡ true → (if z then c else h.copies k).bytes ≡ content (if z then f else p.frame k).version) [ true ↦ s.same | false ↦ t.same k ];
  indirect = λ k. elim (k == m) as (λ z. (if z then f else p.frame k).direct ≡ false) [ true ↦ s.indirect | false ↦ t.indirect k ];
  buffer = t.buffer;
  sent = t.sent;
  owner = t.owner;
  part = t.part;
}

put_same : {A : Type 0} → (f : ℕ → A) (m : ℕ) → put f m (f m) ≡ f
put_same f m = λ i k. by_member (λ k. put f m (f m) k ≡ f k) m (put_here f m (f m)) (λ k ne. put_there f m k (f m) ne) k i

-- the same with the bit as it was
frame_same : (h : PageHeld) (p : Page) (content : ℕ → List ℕ) (m : ℕ) (c : Copy) (f : Frame) → PageTied h p content → FrameTied c f content → bit_in c (h.bound m) ≡ p.bit m → (c.placed ≡ true → c.noted ≡ true → h.set m ≡ true → h.bound m ≡ true)
    → PageTied (record h { copies = put h.copies m c }) (record p { frame = put p.frame m f }) content
frame_same h p content m c f t s bit own =
    subst (λ (z : ℕ → Bool). PageTied (record h { copies = put h.copies m c }) (record p { bit = z; frame = put p.frame m f }) content) (put_same p.bit m) (frame_left h p content m c (p.bit m) f t s bit own)

-- ---- the group with another copy
copy_here : (g : Holdings) (m n : ℕ) (c : Copy) → (c.placed ≡ true → c.noted ≡ true → c.index ≡ (g.copies m n).index)
    → Alike (let h = held_of g n in record h { copies = put h.copies m c }) (held_of (with_copy g m n c) n)
copy_here g m n c same = record {
  bytes = refl;
  changed = refl;
  castout = refl;
  written = refl;
  disk = refl;
  bound = λ k x y. ap (is_page (page_at n)) (at k x y);
  set = λ k x y z. ap is_some (sym (at k x y)) ∙ z;
  copies = λ k. put2_by g.copies m n k c;
  casts = λ k. refl;
  owner = refl;
}
  where
    at : (k : ℕ) → (put2 g.copies m n c k n).placed ≡ true → (put2 g.copies m n c k n).noted ≡ true → g.facility.directory.registered k (put2 g.copies m n c k n).index ≡ g.facility.directory.registered k (g.copies k n).index
    at = by_member (λ k. (put2 g.copies m n c k n).placed ≡ true → (put2 g.copies m n c k n).noted ≡ true → g.facility.directory.registered k (put2 g.copies m n c k n).index ≡ g.facility.directory.registered k (g.copies k n).index) m
        (subst (λ (x : Copy). x.placed ≡ true → x.noted ≡ true → g.facility.directory.registered m x.index ≡ g.facility.directory.registered m (g.copies m n).index) (sym (put2_here g.copies m n c)) (λ x y. ap (g.facility.directory.registered m) (same x y)))
        (λ k ne x y. ap (λ (z : Copy). g.facility.directory.registered k z.index) (put2_by g.copies m n k c ∙ put_there (λ j. g.copies j n) m k c ne))

copy_beside : (g : Holdings) (m n j : ℕ) (c : Copy) → j ≢ n → Alike (held_of g j) (held_of (with_copy g m n c) j)
copy_beside g m n j c ne = record {
  bytes = refl;
  changed = refl;
  castout = refl;
  written = refl;
  disk = refl;
  bound = λ k x y. ap (λ (z : Copy). is_page (page_at j) (g.facility.directory.registered k z.index)) (put2_other g.copies m n k j c ne);
  set = λ k x y e. ap (λ (z : Copy). is_some (g.facility.directory.registered k z.index)) (sym (put2_other g.copies m n k j c ne)) ∙ e;
  copies = λ k. put2_other g.copies m n k j c ne;
  casts = λ k. refl;
  owner = refl;
}

-- ---- placed
apart_placed : (g : Holdings) (m n index : ℕ) → AreApart g → ((k : ℕ) → (g.copies m k).placed ≡ true → (g.copies m k).index ≢ index) → AreApart (with_copy g m n (placed_copy index))
apart_placed g m n index a free = by_member (λ k. (i j : ℕ) → (put2 g.copies m n c k i).placed ≡ true → (put2 g.copies m n c k j).placed ≡ true → (put2 g.copies m n c k i).index ≡ (put2 g.copies m n c k j).index → i ≡ j) m
    (λ i j. by_member (λ i. (put2 g.copies m n c m i).placed ≡ true → (put2 g.copies m n c m j).placed ≡ true → (put2 g.copies m n c m i).index ≡ (put2 g.copies m n c m j).index → i ≡ j) n
    (by_member (λ j. (put2 g.copies m n c m n).placed ≡ true → (put2 g.copies m n c m j).placed ≡ true → (put2 g.copies m n c m n).index ≡ (put2 g.copies m n c m j).index → n ≡ j) n
    (λ x y e. refl)
    (λ j ne x y e. absurd (free j (was j ne y) (sym (ap (λ (z : Copy). z.index) (put2_other g.copies m n m j c ne)) ∙ sym e ∙ ap (λ (z : Copy). z.index) (put2_here g.copies m n c)))) j)
    (λ i ne. by_member (λ j. (put2 g.copies m n c m i).placed ≡ true → (put2 g.copies m n c m j).placed ≡ true → (put2 g.copies m n c m i).index ≡ (put2 g.copies m n c m j).index → i ≡ j) n
    (λ x y e. absurd (free i (was i ne x) (sym (ap (λ (z : Copy). z.index) (put2_other g.copies m n m i c ne)) ∙ e ∙ ap (λ (z : Copy). z.index) (put2_here g.copies m n c))))
    (λ j me x y e. a m i j (was i ne x) (was j me y) (sym (ap (λ (z : Copy). z.index) (put2_other g.copies m n m i c ne)) ∙ e ∙ ap (λ (z : Copy). z.index) (put2_other g.copies m n m j c me))) j) i)
    (λ k ne i j x y e. a k i j (sym (ap (λ (z : Copy). z.placed) (other k ne i)) ∙ x) (sym (ap (λ (z : Copy). z.placed) (other k ne j)) ∙ y) (sym (ap (λ (z : Copy). z.index) (other k ne i)) ∙ e ∙ ap (λ (z : Copy). z.index) (other k ne j)))
  where
    c : Copy
    c = placed_copy index

    was : (j : ℕ) → j ≢ n → (put2 g.copies m n c m j).placed ≡ true → (g.copies m j).placed ≡ true
    was j ne x = sym (ap (λ (z : Copy). z.placed) (put2_other g.copies m n m j c ne)) ∙ x

    other : (k : ℕ) → k ≢ m → (i : ℕ) → put2 g.copies m n c k i ≡ g.copies k i
    other k ne i = member_other (k == m) (i == n) (put_there (λ x. true) m k false ne)
      where
        member_other : (p q : Bool) → (if p then false else true) ≡ true → (if p && q then c else g.copies k i) ≡ g.copies k i
        member_other true q e = absurd (both_ways false refl e)
        member_other false q e = refl

pub places : PlacesStays
places w g content m n index t none free =
    let after = with_copy g m n (placed_copy index) in
    let tp = t.pages n in
    none_moved w g after content t
    (record { lost = refl; counter = refl; members = refl; statuses = refl; stable = λ m. refl; written = λ m. refl; apart = apart_placed g m n index t.apart free })
    (by_member (λ j. PageTied (held_of after j) (w.pages j) (content j)) n
    (alike_tied (let h = held_of g n in record h { copies = put h.copies m (placed_copy index) }) (held_of after n) (w.pages n) (content n) (copy_here g m n (placed_copy index) (λ x y. absurd (both_ways false refl y)))
    (subst (λ (f : ℕ → Frame). PageTied (let h = held_of g n in record h { copies = put h.copies m (placed_copy index) }) (record (w.pages n) { frame = f }) (content n)) (put_same (w.pages n).frame m)
    (frame_same (held_of g n) (w.pages n) (content n) m (placed_copy index) ((w.pages n).frame m) tp
    (record {
      filled = sym (ap (λ (c : Copy). c.filled) none) ∙ tp.filled m;
      marked = sym (ap (λ (c : Copy). c.marked) none) ∙ tp.marked m;
      same = λ x. absurd (both_ways false refl (sym (ap (λ (c : Copy). c.filled) none) ∙ tp.filled m ∙ x));
      indirect = tp.indirect m;
    })
    (sym (ap (λ (c : Copy). bit_in c (is_page (page_at n) (g.facility.directory.registered m (g.copies m n).index))) none) ∙ tp.bit m) (λ x y z. absurd (both_ways false refl y)))))
    (λ j ne. alike_tied (held_of g j) (held_of after j) (w.pages j) (content j) (copy_beside g m n j (placed_copy index) ne) (t.pages j)))

-- ---- filled
pub may_fill : (g : Group) (p : Page) (m : ℕ) → p.sole ≡ false → MayFill g p m
may_fill g p m part sole = absurd (both_ways p.sole part sole)

pub fills : FillsMoves
fills w g content m n t live empty =
    let p = w.pages n in
    let tp = t.pages n in
    let c = filled_copy (g.copies m n) (g.disk n) in
    let after = with_copy g m n c in
    one_moved w g after content n (ReadDisk m) (read_disk p m) t
    (record { lost = refl; counter = refl; members = refl; statuses = refl; stable = λ m. refl; written = λ m. refl; apart = apart_put g m n c t.apart refl refl })
    (not_failed w g content m t live, sym (tp.filled m) ∙ empty, may_fill w.group p m tp.part, refl)
    (alike_tied (let h = held_of g n in record h { copies = put h.copies m c }) (held_of after n) (read_disk p m) (content n) (copy_here g m n c (λ x y. refl))
    (frame_same (held_of g n) p (content n) m c (record (p.frame m) { filled = true; version = p.disk }) tp
    (record { filled = refl; marked = tp.marked m; same = λ x. tp.disk; indirect = tp.indirect m }) (tp.bit m) (tp.own m)))
    (λ j ne. copy_beside g m n j c ne)

-- ---- left
left_here : (w : World) (g : Holdings) (content : ℕ → ℕ → List ℕ) (m n : ℕ) → Tied w g content → PageTied (held_of (with_copy g m n no_copy) n) (drop_frame (w.pages n) m) (content n)
left_here w g content m n t =
    alike_tied (let h = held_of g n in record h { copies = put h.copies m no_copy }) (held_of (with_copy g m n no_copy) n) (drop_frame (w.pages n) m) (content n) (copy_here g m n no_copy (λ x y. absurd (both_ways false refl x)))
    (frame_left (held_of g n) (w.pages n) (content n) m no_copy false (unfilled 0 false) (t.pages n) (record { filled = refl; marked = refl; same = λ x. absurd (both_ways false refl x); indirect = refl }) refl (λ x y z. absurd (both_ways false refl x)))

pub leaves : LeavesMoves
leaves w g content m n t clean =
    let after = with_copy g m n no_copy in
    one_moved w g after content n (DropFrame m) (drop_frame (w.pages n) m) t
    (record { lost = refl; counter = refl; members = refl; statuses = refl; stable = λ m. refl; written = λ m. refl; apart = apart_gone g m n no_copy t.apart refl })
    (sym ((t.pages n).marked m) ∙ clean, refl) (left_here w g content m n t) (λ j ne. copy_beside g m n j no_copy ne)

pub puts_aside : AsideMoves
puts_aside w g content m n t least among rests marked stable =
    let after = with_copy g m n no_copy in
    one_moved w g after content n (PutAside m) (drop_frame (w.pages n) m) t
    (record { lost = refl; counter = refl; members = refl; statuses = refl; stable = λ m. refl; written = λ m. refl; apart = apart_gone g m n no_copy t.apart refl })
    (t.status m least among ∙ ap as_status rests, sym ((t.pages n).marked m) ∙ marked, stable, refl) (left_here w g content m n t) (λ j ne. copy_beside g m n j no_copy ne)

-- the registration of a frame that no page has is dropped
frame_dropped : (g : Holdings) (m index j : ℕ) → ((k : ℕ) → (g.copies k j).placed ≡ true → k ≡ m → (g.copies k j).index ≡ index → ⊥)
    → Alike (held_of g j) (held_of (record g { facility = record g.facility { directory = record g.facility.directory { registered = with_frame g.facility.directory.registered m index None } } }) j)
frame_dropped g m index j never = record {
  bytes = refl;
  changed = refl;
  castout = refl;
  written = refl;
  disk = refl;
  bound = λ k x y. ap (is_page (page_at j)) (same k x);
  set = λ k x y e. ap is_some (sym (same k x)) ∙ e;
  copies = λ k. refl;
  casts = λ k. refl;
  owner = refl;
}
  where
    same : (k : ℕ) → (g.copies k j).placed ≡ true → with_frame g.facility.directory.registered m index None k (g.copies k j).index ≡ g.facility.directory.registered k (g.copies k j).index
    same k x = frame_apart g.facility.directory.registered m index k (g.copies k j).index None (never k x)

pub unregisters : UnregistersMoves
unregisters w g content m n index answer v t at clean r =
    let d = g.facility.directory in
    let mid = with_copy g m n no_copy in
    let after = record mid { facility = record g.facility { directory = record d { registered = with_frame d.registered m index None } } } in
    subst (λ (x : Held). Moved w (At n (DropFrame m) ∷ []) (record mid { facility = x }) content) (sym r.1)
    (one_moved w g after content n (DropFrame m) (drop_frame (w.pages n) m) t
    (record { lost = refl; counter = refl; members = refl; statuses = refl; stable = λ m. refl; written = λ m. refl; apart = apart_gone g m n no_copy t.apart refl })
    (sym ((t.pages n).marked m) ∙ clean, refl)
    (alike_tied (held_of mid n) (held_of after n) (drop_frame (w.pages n) m) (content n) (frame_dropped mid m index n gone) (left_here w g content m n t))
    (λ j ne. alike_on (held_of g j) (held_of mid j) (held_of after j) (copy_beside g m n j no_copy ne) (frame_dropped mid m index j (others j ne))))
  where
    gone : (k : ℕ) → (put2 g.copies m n no_copy k n).placed ≡ true → k ≡ m → (put2 g.copies m n no_copy k n).index ≡ index → ⊥
    gone k x e f = both_ways false refl (sym (ap (λ (z : Copy). z.placed) (put2_here g.copies m n no_copy)) ∙ subst (λ z. (put2 g.copies m n no_copy z n).placed ≡ true) e x)

    others : (j : ℕ) → j ≢ n → (k : ℕ) → (put2 g.copies m n no_copy k j).placed ≡ true → k ≡ m → (put2 g.copies m n no_copy k j).index ≡ index → ⊥
    others j ne k x e f =
        frame_other g m n j index k t.apart at.placed at.at ne (sym (ap (λ (z : Copy). z.placed) (put2_other g.copies m n k j no_copy ne)) ∙ x) e (sym (ap (λ (z : Copy). z.index) (put2_other g.copies m n k j no_copy ne)) ∙ f)

-- ---- a test
set_bound : (id : PageId) (x : Option PageId) → (is_some x ≡ true → is_page id x ≡ true) → is_some x ≡ is_page id x
set_bound id None h = refl
set_bound id (Some q) h = sym (h refl)

only_bound : (p q x : Bool) → p ≡ true → q ≡ true → (p && (q && x)) ≡ x
only_bound true true x a b = refl
only_bound true false x a b = absurd (both_ways false refl b)
only_bound false q x a b = absurd (both_ways false refl a)

pub tests_tell : TestsTell
tests_tell w g content m n index answer v t at noted r =
    let tp = t.pages n in
    let c = g.copies m n in
    let x = g.facility.directory.registered m c.index in
    let same : is_some (g.facility.directory.registered m index) ≡ (w.pages n).bit m =
    ap (λ i. is_some (g.facility.directory.registered m i)) (sym at.at) ∙ set_bound (page_at n) x (tp.own m at.placed noted) ∙ sym (only_bound c.placed c.noted (is_page (page_at n) x) at.placed noted) ∙ tp.bit m in
    (r.0 ∙ ap (λ b. if b then reply.Valid else reply.Invalid) same, r.1)

-- ---- redone
all_set : (x y z : Bool) → x ≡ true → y ≡ true → z ≡ true → (x && (y && z)) ≡ true
all_set true true z a b c = c
all_set true false z a b c = b
all_set false y z a b c = a

pub redoes : RedoesMoves
redoes w g content m n index t least among up own at noted filled valid =
    let p = w.pages n in
    let tp = t.pages n in
    let c = redone_copy (g.copies m n) (content n p.last) in
    let after = with_copy g m n c in
    let set : is_some (g.facility.directory.registered m (g.copies m n).index) ≡ true = ap (λ i. is_some (g.facility.directory.registered m i)) at.at ∙ valid in
    let held : p.bit m ≡ true =
    sym (tp.bit m) ∙ all_set (g.copies m n).placed (g.copies m n).noted (is_page (page_at n) (g.facility.directory.registered m (g.copies m n).index)) at.placed noted (tp.own m at.placed noted set) in
    one_moved w g after content n (Redo m) (redo p m) t
    (record { lost = refl; counter = refl; members = refl; statuses = refl; stable = λ m. refl; written = λ m. refl; apart = apart_put g m n c t.apart refl refl })
    (tp.owner ∙ own, t.status m least among ∙ ap as_status up, sym (tp.filled m) ∙ filled, held, refl)
    (alike_tied (let h = held_of g n in record h { copies = put h.copies m c }) (held_of after n) (redo p m) (content n) (copy_here g m n c (λ x y. refl))
    (frame_same (held_of g n) p (content n) m c (record { filled = true; marked = true; direct = false; version = p.last }) tp
    (record { filled = refl; marked = refl; same = λ x. refl; indirect = refl }) (tp.bit m) (tp.own m)))
    (λ j ne. copy_beside g m n j c ne)
