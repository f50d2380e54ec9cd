-- One member's copy of one page is another.
use Rattle.std.proofs.Common.{◌≡◌, ℕ, refl, sym, ◌∙◌, subst, Bool, true, false, inl, inr, List, [], ◌∷◌, ◌++◌, Option}
use Rattle.std.specs.Prelude.{◌≢◌, ◌==◌, ◌&&◌, if◌then◌else◌}
use Rattle.std.proofs.lemmas.Bool.{cond-true, cond-false, cases_eq, both_ways, and_parts, and_from, eq-eqb, ne_eqb, eqb-true, false_from_ne_true}
use Rattle.ds_base.specs.declared.names.PageId.{PageId}
use Rattle.cache_structure.specs.Frames.{Registered, with_frame}
use Rattle.page_protocol.specs.Page.{Page, Frame, put}
use Rattle.page_protocol.specs.Moves.{World, Move, Run}
use Rattle.page_world.specs.Numbers.{set_of}
use Rattle.page_world.specs.Holdings.{Copy, Holdings, PageHeld, put2, with_copy}
use Rattle.page_world.specs.Tied.{PageTied, bit_in, AreApart, Moved}

-- ---- moves behind moves
pub run_on : (w mid v : World) (xs ys : List Move) → Run set_of w xs mid → Run set_of mid ys v → Run set_of w (xs ++ ys) v
run_on w mid v [] ys r q = subst (λ x. Run set_of x ys v) r q
run_on w mid v (e ∷ es) ys r q = (r.0, r.1, run_on r.0 mid v es ys r.2 q)

pub moved_on : (w mid : World) (g : Holdings) (content : ℕ → ℕ → List ℕ) (xs ys : List Move) → Run set_of w xs mid → Moved mid ys g content → Moved w (xs ++ ys) g content
moved_on w mid g content xs ys r m = record { world = m.world; run = run_on w mid m.world xs ys r m.run; tied = m.tied }

-- ---- a fact of each member
pub by_member : (P : ℕ → Type 0) (m : ℕ) → P m → ((k : ℕ) → k ≢ m → P k) → (k : ℕ) → P k
by_member P m here there k = elim (cases_eq k m) [
  | inl e ↦ subst P (sym e) here
  | inr ne ↦ there k ne
]

pub put_here : {A : Type 0} → (f : ℕ → A) (m : ℕ) (x : A) → (if m == m then x else f m) ≡ x
put_here f m x = cond-true (m == m) x (f m) (eq-eqb m m refl)

pub put_there : {A : Type 0} → (f : ℕ → A) (m k : ℕ) (x : A) → k ≢ m → (if k == m then x else f k) ≡ f k
put_there f m k x ne = cond-false (k == m) x (f k) (ne_eqb k m ne)

-- ---- one member's frame of a page
pub record FrameTied (c : Copy) (f : Frame) (content : ℕ → List ℕ) : Type 0 where
  pub filled : c.filled ≡ f.filled
  pub marked : c.marked ≡ f.marked
  pub same : f.filled ≡ true → c.bytes ≡ content f.version
  pub indirect : f.direct ≡ false

pub frame_tied : (h : PageHeld) (p : Page) (content : ℕ → List ℕ) (m : ℕ) (c : Copy) (x y b : Bool) (f : Frame) → PageTied h p content → FrameTied c f content → bit_in c x ≡ b → (c.placed ≡ true → c.noted ≡ true → y ≡ true → x ≡ true)
    → PageTied (record h { bound = put h.bound m x; set = put h.set m y; copies = put h.copies m c }) (record p { bit = put p.bit m b; frame = put p.frame m f }) content
frame_tied h p content m c x y b f t s bit own = record {
  bytes = t.bytes;
  changed = t.changed;
  there = t.there;
  castout = t.castout;
  written = t.written;
  disk = t.disk;
  bit = λ k. elim (k == m) as (λ z. bit_in (if z then c else h.copies k) (if z then x else h.bound k) ≡ (if z then b else p.bit k)) [ true ↦ bit | false ↦ t.bit k ];
  own = λ k. elim (k == m) as (λ z. (if z then c else h.copies k).placed ≡ true → (if z then c else h.copies k).noted ≡ true → (if z then y else h.set k) ≡ true → (if z then x else h.bound k) ≡ true) [ true ↦ own | false ↦ t.own k ];
  filled = λ k. elim (k == m) as (λ z. (if z then c else h.copies k).filled ≡ (if z then f else p.frame k).filled) [ true ↦ s.filled | false ↦ t.filled k ];
  marked = λ k. elim (k == m) as (λ z. (if z then c else h.copies k).marked ≡ (if z then f else p.frame k).marked) [ true ↦ s.marked | false ↦ t.marked k ];
  same = λ k. elim (k == m) as (λ z. (if z then f else p.frame k).filled ≡ true → (if z then c else h.copies k).bytes ≡ content (if z then f else p.frame k).version) [ true ↦ s.same | false ↦ t.same k ];
  indirect = λ k. elim (k == m) as (λ z. (if z then f else p.frame k).direct ≡ false) [ true ↦ s.indirect | false ↦ t.indirect k ];
  buffer = t.buffer;
  sent = t.sent;
  owner = t.owner;
  part = t.part;
}

-- ---- the copy is in the same frame
copy_at : (f : ℕ → ℕ → Copy) (m n k j : ℕ) (c : Copy) (P : Copy → Copy → Type 0) → P c (f m n) → ((x : Copy) → P x x) → P (put2 f m n c k j) (f k j)
copy_at f m n k j c P here same = by ((k == m) && (j == n)) refl
  where
    by : (b : Bool) → ((k == m) && (j == n)) ≡ b → P (if b then c else f k j) (f k j)
    by true e =
        let both = and_parts (k == m) (j == n) e in
        subst (λ z. P c (f z j)) (sym (eqb-true k m both.0)) (subst (λ z. P c (f m z)) (sym (eqb-true j n both.1)) here)
    by false e = same (f k j)

pub apart_put : (g : Holdings) (m n : ℕ) (c : Copy) → AreApart g → c.placed ≡ (g.copies m n).placed → c.index ≡ (g.copies m n).index → AreApart (with_copy g m n c)
apart_put g m n c a placed at k i j x y e = a k i j (sym (was_placed i) ∙ x) (sym (was_placed j) ∙ y) (sym (was_at i) ∙ e ∙ was_at j)
  where
    was_placed : (i : ℕ) → (put2 g.copies m n c k i).placed ≡ (g.copies k i).placed
    was_placed i = copy_at g.copies m n k i c (λ a b. a.placed ≡ b.placed) placed (λ x. refl)

    was_at : (i : ℕ) → (put2 g.copies m n c k i).index ≡ (g.copies k i).index
    was_at i = copy_at g.copies m n k i c (λ a b. a.index ≡ b.index) at (λ x. refl)

-- ---- the copy is gone
pub apart_gone : (g : Holdings) (m n : ℕ) (c : Copy) → AreApart g → c.placed ≡ false → AreApart (with_copy g m n c)
apart_gone g m n c a none k i j x y e = a k i j (was i x).0 (was j y).0 (sym (was i x).1 ∙ e ∙ (was j y).1)
  where
    was : (i : ℕ) → (put2 g.copies m n c k i).placed ≡ true → ((g.copies k i).placed ≡ true) × ((put2 g.copies m n c k i).index ≡ (g.copies k i).index)
    was i = by ((k == m) && (i == n))
      where
        by : (b : Bool) → (if b then c else g.copies k i).placed ≡ true → ((g.copies k i).placed ≡ true) × ((if b then c else g.copies k i).index ≡ (g.copies k i).index)
        by true h = absurd (both_ways c.placed none h)
        by false h = (h, refl)

-- ---- the frame is registered
pub frame_here : (r : Registered) (m i k j : ℕ) (x : Option PageId) → k ≡ m → j ≡ i → with_frame r m i x k j ≡ x
frame_here r m i k j x e f = cond-true ((k == m) && (j == i)) x (r k j) (and_from (k == m) (j == i) (eq-eqb k m e) (eq-eqb j i f))

pub frame_apart : (r : Registered) (m i k j : ℕ) (x : Option PageId) → (k ≡ m → j ≡ i → ⊥) → with_frame r m i x k j ≡ r k j
frame_apart r m i k j x never = cond-false ((k == m) && (j == i)) x (r k j) (false_from_ne_true ((k == m) && (j == i)) (λ e. let both = and_parts (k == m) (j == i) e in never (eqb-true k m both.0) (eqb-true j i both.1)))

-- the frame of another page is another, or another member's
pub frame_other : (g : Holdings) (m n j index k : ℕ) → AreApart g → (g.copies m n).placed ≡ true → (g.copies m n).index ≡ index → j ≢ n → (g.copies k j).placed ≡ true → k ≡ m → (g.copies k j).index ≡ index → ⊥
frame_other g m n j index k a placed at ne there e same =
    ne (a m j n (subst (λ z. (g.copies z j).placed ≡ true) e there) placed (subst (λ z. (g.copies z j).index ≡ index) e same ∙ sym at))
