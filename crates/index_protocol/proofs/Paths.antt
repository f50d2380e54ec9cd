-- Each move, over the splits between pages; and the start.
use Rattle.std.proofs.Common.{◌≡◌, Bool, true, ℕ, zero, suc, ◌+◌, ◌<◌, ◌≤◌, arith, refl, sym, ◌∙◌, subst, false, Some, inl, inr}
use Rattle.std.specs.Prelude.{◌≢◌}
use Rattle.std.proofs.lemmas.Bool.{cases_eq, cases_lt}
use Rattle.index_protocol.specs.Index.{Rest, Page, World, Unmade, Leaf, beyond, with_place, split_left, split_right, IsThere, given_rest, split_rest, entered_rest, ended_rest, restarted_rest, failed_rest, failed_page, written_rest, start_rest, start, MaySplit}
use Rattle.index_protocol.specs.Whole.{Roots, Paths, Shape, Leaves, Apart, WholeIndex}
use Rattle.index_protocol.proofs.Laws.{below, beyond_some}

-- ---- the versions in which keys were given up
pub paths_grow : (g : Rest) (a b : ℕ → ℕ) → ((q : ℕ) → a q ≤ b q) → Paths g a → Paths g b
paths_grow g a b le s = record { made = λ n q made. (let x = s.made n q made in let y = le q in omega (arith, x, y)); self = s.self; kinds = s.kinds; first = s.first; roots = s.roots; chain = s.chain; left_low = s.left_low }

split_made : (g : Rest) (m n : ℕ) (p : Page) (new low aq bq r q : ℕ) → (g.kind r ≢ Unmade → g.parted_at r q ≤ aq) → g.parted_at n q ≤ aq → n ≢ new
    → (q ≡ n → bq ≡ p.last + 1) → (q ≡ n → aq ≡ p.last) → (q ≡ new → aq ≡ 0) → (q ≢ n → q ≢ new → bq ≡ aq) → (split_rest g m n p new low).kind r ≢ Unmade → (split_rest g m n p new low).parted_at r q ≤ bq
split_made g m n p new low aq bq r q x y ne b c d e made = grind arith

split_kinds : (g : Rest) (m n : ℕ) (p : Page) (new low r q : ℕ) → (g.kind r ≢ Unmade → 1 ≤ g.parted_at r q → g.kind q ≡ g.kind r) → (1 ≤ g.parted_at n q → g.kind q ≡ g.kind n)
    → g.kind new ≡ Unmade → g.kind n ≢ Unmade → n ≢ new → (split_rest g m n p new low).kind r ≢ Unmade → 1 ≤ (split_rest g m n p new low).parted_at r q → (split_rest g m n p new low).kind q ≡ (split_rest g m n p new low).kind r
split_kinds g m n p new low r q x y fresh old ne made some = grind arith

split_first : (g : Rest) (m n : ℕ) (p : Page) (new low r q : ℕ) → (g.kind r ≢ Unmade → g.parted_at r (g.split_of r) ≡ 0 → g.parted_at r q ≡ 0)
    → (split_rest g m n p new low).kind r ≢ Unmade → (split_rest g m n p new low).parted_at r ((split_rest g m n p new low).split_of r) ≡ 0 → (split_rest g m n p new low).parted_at r q ≡ 0
split_first g m n p new low r q x made none = grind arith

split_root : (g : Rest) (m n : ℕ) (p : Page) (new low r : ℕ) → (g.kind r ≢ Unmade → g.parted_at r (g.split_of r) ≡ 0 → r ≢ 1 → r ≡ 2)
    → (split_rest g m n p new low).kind r ≢ Unmade → (split_rest g m n p new low).parted_at r ((split_rest g m n p new low).split_of r) ≡ 0 → r ≢ 1 → r ≡ 2
split_root g m n p new low r x made none ne = grind arith

split_chain : (g : Rest) (m n : ℕ) (p : Page) (new low r q : ℕ) → (g.kind r ≢ Unmade → 1 ≤ g.parted_at r (g.split_of r) → q ≢ g.split_of r → g.parted_at r q ≡ g.parted_at (g.split_of r) q)
    → (g.kind r ≢ Unmade → 1 ≤ g.parted_at r (g.split_of r) → g.split_of r ≢ new) → n ≢ new
    → (split_rest g m n p new low).kind r ≢ Unmade → 1 ≤ (split_rest g m n p new low).parted_at r ((split_rest g m n p new low).split_of r) → q ≢ (split_rest g m n p new low).split_of r
    → (split_rest g m n p new low).parted_at r q ≡ (split_rest g m n p new low).parted_at ((split_rest g m n p new low).split_of r) q
split_chain g m n p new low r q x y ne made some off = grind arith

split_low : (g : Rest) (m n : ℕ) (p : Page) (new low r : ℕ) → (g.kind r ≢ Unmade → 1 ≤ g.parted_at r (g.split_of r) → g.low (g.split_of r) < g.low r)
    → (g.kind r ≢ Unmade → 1 ≤ g.parted_at r (g.split_of r) → g.split_of r ≢ new) → n ≢ new → g.low n < low
    → (split_rest g m n p new low).kind r ≢ Unmade → 1 ≤ (split_rest g m n p new low).parted_at r ((split_rest g m n p new low).split_of r)
    → (split_rest g m n p new low).low ((split_rest g m n p new low).split_of r) < (split_rest g m n p new low).low r
split_low g m n p new low r x y ne up made some = grind arith

split_off : (g : Rest) (a : ℕ → ℕ) (new r : ℕ) → Paths g a → g.kind new ≡ Unmade → g.kind r ≢ Unmade → 1 ≤ g.parted_at r (g.split_of r) → g.split_of r ≢ new
split_off g a new r s fresh made some e = made (sym (s.kinds r (g.split_of r) made some) ∙ subst (λ z. g.kind z ≡ Unmade) (sym e) fresh)

pub paths_split : (g : Rest) (m n : ℕ) (p : Page) (new low : ℕ) (a b : ℕ → ℕ) → Paths g a → g.kind new ≡ Unmade → g.low n < low → g.kind n ≢ Unmade → n ≢ new → a n ≡ p.last → a new ≡ 0 → b n ≡ p.last + 1 → b new ≡ 1 → ((q : ℕ) → q ≢ n → q ≢ new → b q ≡ a q) → Paths (split_rest g m n p new low) b
paths_split g m n p new low a b s fresh up made ne x y z u o = record {
  made = λ r q. split_made g m n p new low (a q) (b q) r q (s.made r q) (s.made n q made) ne (λ e. grind (arith, e, z)) (λ e. grind (arith, e, x)) (λ e. grind (arith, e, y)) (o q);
  self = λ r. self r (s.self r);
  kinds = λ r q. split_kinds g m n p new low r q (s.kinds r q) (s.kinds n q made) fresh made ne;
  first = λ r q. split_first g m n p new low r q (s.first r q);
  roots = λ r. split_root g m n p new low r (s.roots r);
  chain = λ r q. split_chain g m n p new low r q (s.chain r q) (split_off g a new r s fresh) ne;
  left_low = λ r. split_low g m n p new low r (s.left_low r) (split_off g a new r s fresh) ne up;
}
  where
    self : (r : ℕ) → (g.kind r ≢ Unmade → g.parted_at r r ≡ 0) → (split_rest g m n p new low).kind r ≢ Unmade → (split_rest g m n p new low).parted_at r r ≡ 0
    self r old is = let hid = s.made n new made in grind (arith, old, is, hid, y, ne)

-- where each page that stays has its own split, it has each split that leads to it
pub stays_all : (g : Rest) (a c : ℕ → ℕ) (f n q : ℕ) → Paths g a → ((r : ℕ) → g.kind r ≢ Unmade → 1 ≤ c r → g.parted_at r (g.split_of r) ≤ c (g.split_of r)) → g.low n < f → g.kind n ≢ Unmade → 1 ≤ c n → g.parted_at n q ≤ c q
stays_all g a c zero n q s stays room made some = absurd (omega (arith, room))
stays_all g a c (suc f) n q s stays room made some = elim (cases_lt 0 (g.parted_at n (g.split_of n))) [
  | inl lt ↦ elim (cases_eq q (g.split_of n)) [
    | inl e ↦ subst (λ z. g.parted_at n z ≤ c z) (sym e) (stays n made some)
    | inr ne ↦ (
        let kind = s.kinds n (g.split_of n) made lt in
        let here = stays n made some in
        let low = s.left_low n made lt in
        let up = s.chain n q made lt ne in
        let more = stays_all g a c f (g.split_of n) q s stays (omega (arith, low, room)) (λ e. made (sym kind ∙ e)) (omega (arith, lt, here)) in
        omega (arith, up, more))
  ]
  | inr ge ↦ (let none = s.first n q made (omega (arith, ge)) in omega (arith, none))
]

pub paths_fail : (g : Rest) (a c : ℕ → ℕ) → ((n q : ℕ) → g.kind n ≢ Unmade → 1 ≤ c n → g.parted_at n q ≤ c q) → Paths g a → Paths (failed_rest g c) c
paths_fail g a c stays s = record {
  made = grind (arith, stays);
  self = grind (arith, s.self);
  kinds = λ n q. kinds n q (stays n q) (s.kinds n q);
  first = grind (arith, s.first);
  roots = grind (arith, s.roots);
  chain = grind (arith, s.chain);
  left_low = grind (arith, s.left_low);
}
  where
    kinds : (n q : ℕ) → (g.kind n ≢ Unmade → 1 ≤ c n → g.parted_at n q ≤ c q) → (g.kind n ≢ Unmade → 1 ≤ g.parted_at n q → g.kind q ≡ g.kind n) → (failed_rest g c).kind n ≢ Unmade → 1 ≤ g.parted_at n q → (failed_rest g c).kind q ≡ (failed_rest g c).kind n
    kinds n q a b is some = grind arith

-- ---- two leaves
pub flip : (g : Rest) (n q : ℕ) (p r : Page) → Apart g n q p r → Apart g q n r p
flip g n q p r s u v k a b c d e f x y z w i j = (let e' = s v u k b a e f c d y x w z j i in grind (arith, e'))

pub apart_changed : (g : Rest) (n q : ℕ) (p r : Page) (k x : ℕ) → Apart g n q p r → 1 ≤ p.last → (g.kind q ≡ Leaf → g.parted_at q n ≤ p.last) → Apart g n q (with_place p k x) r
apart_changed g n q p r k x s made path v u j a b c d e f x' y z w i o = elim (cases_eq v (p.last + 1)) [
  | inl is ↦ s p.last u j a b made (omega arith) e f x' y (grind (arith, is, z)) w i (path b)
  | inr ne ↦ s v u j a b c (omega (arith, d, ne)) e f x' y (grind (arith, ne, z)) w i o
]

pub apart_same : (g : Rest) (n : ℕ) (p r : Page) → Apart g n n p r
apart_same g n p r v u k a b c d e f x y z w i o = refl

pub apart_left : (g : Rest) (m n q : ℕ) (p r : Page) (new low : ℕ) → Apart g n q p r → 1 ≤ p.last → (g.kind q ≡ Leaf → g.parted_at q n ≤ p.last) → n ≢ new → q ≢ new → beyond (p.link p.last) low ≡ false → Apart (split_rest g m n p new low) n q (split_left p new low) r
apart_left g m n q p r new low s made path ne ne' covered v u j a b c d e f x' y z w i o = elim (cases_eq v (p.last + 1)) [
  | inl is ↦ s p.last u j (grind (arith, ne, a)) (grind (arith, ne', b)) made (omega arith) e f (grind (arith, ne, x')) (grind (arith, ne', y)) (last_covers is z) w (grind (arith, ne, i)) (path (grind (arith, ne', b)))
  | inr off ↦ s v u j (grind (arith, ne, a)) (grind (arith, ne', b)) c (omega (arith, d, off)) e f (grind (arith, ne, x')) (grind (arith, ne', y)) (grind (arith, off, z)) w (grind (arith, ne, i)) (grind (arith, ne', o))
]
  where
    last_covers : v ≡ p.last + 1 → beyond ((split_left p new low).link v) j ≡ false → beyond (p.link p.last) j ≡ false
    last_covers is z = grind (arith, is, z, covered, below, beyond_some)

pub apart_new : (g : Rest) (m n q : ℕ) (p r : Page) (new low : ℕ) → Apart g n q p r → 1 ≤ p.last → (g.kind q ≡ Leaf → g.parted_at q n ≤ p.last) → n ≢ new → q ≢ new → q ≢ n → g.low n < low → Apart (split_rest g m n p new low) new q (split_right p low) r
apart_new g m n q p r new low s made path ne ne' off up v u j a b c d e f x' y z w i o =
    let leaf : g.kind q ≡ Leaf = grind (arith, ne', b) in
    let is : n ≡ q = s p.last u j (grind (arith, a)) leaf made (omega arith) e f (let h : low ≤ j = grind (arith, x') in omega (arith, h, up)) (grind (arith, ne', y)) z w (grind (arith, off, i)) (path leaf) in
    grind (arith, is, off)

pub apart_both : (g : Rest) (m n : ℕ) (p : Page) (new low : ℕ) → n ≢ new → Apart (split_rest g m n p new low) new n (split_right p low) (split_left p new low)
apart_both g m n p new low ne v u j a b c d e f x' y z w i o =
    let old : u ≡ p.last + 1 = grind (arith, i, f) in
    let h : low ≤ j = grind (arith, x') in
    absurd (grind (arith, old, w, h, beyond_some))

pub apart_far : (g : Rest) (m n a q : ℕ) (p r t : Page) (new low : ℕ) → Apart g a q r t → a ≢ new → q ≢ new → Apart (split_rest g m n p new low) a q r t
apart_far g m n a q p r t new low s ne ne' v u j ka kb c d e f x' y z w i o = s v u j (grind (arith, ne, ka)) (grind (arith, ne', kb)) c d e f (grind (arith, ne, x')) (grind (arith, ne', y)) z w (grind (arith, ne, i)) (grind (arith, ne', o))

pub apart_fail : (g : Rest) (c : ℕ → ℕ) (n q : ℕ) (p r : Page) → Apart g n q p r → c n ≤ p.last → c q ≤ r.last → Apart (failed_rest g c) n q (failed_page p (c n)) (failed_page r (c q))
apart_fail g c n q p r s a b v u j ka kb x y e f x' y' z w i o = s v u j (grind (arith, ka)) (grind (arith, kb)) x (omega (arith, y, a)) e (omega (arith, f, b)) x' y' z w i o

-- ---- the start
pub shape_start : (m n : ℕ) → Shape (start_rest m) n ((start m).pages n)
unfolding beyond
shape_start m n = grind arith

pub leaves_start : (m n : ℕ) → Leaves (start_rest m) n ((start m).pages n)
unfolding beyond
leaves_start m n = grind arith

pub roots_start : (m : ℕ) → Roots (start_rest m)
roots_start m = grind arith

pub paths_start : (m : ℕ) → Paths (start_rest m) (λ q. ((start m).pages q).last)
paths_start m = grind arith

pub apart_start : (m n q : ℕ) → Apart (start_rest m) n q ((start m).pages n) ((start m).pages q)
apart_start m n q v u k a b = λ c d e f x' y z w i o. grind (arith, a, b)

pub roots_give : (g : Rest) (m n : ℕ) (p : Page) (k x : ℕ) → Roots g → g.kind n ≡ Leaf → IsThere g m 1 → Roots (given_rest g m n p k x)
roots_give g m n p k x r leaf there = grind arith

pub roots_enter : (g : Rest) (m n : ℕ) (p : Page) → Roots g → (g.shown n < p.last → g.writer n ≡ m) → 1 ≤ p.last → Roots (entered_rest g m n)
roots_enter g m n p r alone made = grind arith

pub roots_split : (g : Rest) (m n : ℕ) (p : Page) (new low : ℕ) → Roots g → MaySplit g n p new low → (g.shown n < p.last → g.writer n ≡ m) → 1 ≤ p.last → Roots (split_rest g m n p new low)
roots_split g m n p new low r may alone made = grind arith

pub roots_write : (g : Rest) (n v : ℕ) → Roots g → g.shown n ≤ v → Roots (written_rest g n v)
roots_write g n v r le = grind arith

pub roots_end : (g : Rest) (m : ℕ) (keys : ℕ → Bool) → Roots g → ((k : ℕ) → keys k ≡ true → g.giver k ≡ Some m) → (g.writer 1 ≡ m → 1 ≤ g.shown 1) → Roots (ended_rest g keys)
roots_end g m keys r own shown = grind arith

pub roots_fail : (g : Rest) (c : ℕ → ℕ) → Roots g → 1 ≤ c 1 → 1 ≤ c 2 → Roots (failed_rest g c)
roots_fail g c r a b = grind arith

pub roots_restart : (g : Rest) (last : ℕ → ℕ) → Roots g → 1 ≤ last 1 → Roots (restarted_rest g last)
roots_restart g last r a = grind arith

-- ---- what the last versions have
pub has_last : (w : World) (n k x : ℕ) → WholeIndex w → w.rest.kind n ≡ Leaf → w.rest.given k ≡ Some x → w.rest.low n ≤ k → beyond ((w.pages n).link (w.pages n).last) k ≡ false → (w.pages n).entry (w.pages n).last k ≡ Some x
has_last w n k x s leaf is low in' =
    let a = w.rest.given_in k in
    let t = w.rest.given_at k in
    let own = s.leaves a in
    let leaf_a = own.given_leaf k x is refl in
    let last_a = own.given_last k x is refl in
    let made : 1 ≤ (w.pages n).last = (s.shape n).made (λ e. cc) in
    (s.leaves n).has (w.pages n).last k x leaf made (omega arith) is low in'
    (λ e. (let last_n = (s.leaves n).given_last k x is (grind (arith, e)) in last_n))
    (λ ne. elim (cases_lt t (w.rest.parted_at n a)) [
      | inl lt ↦ lt
      | inr ge ↦ absurd (ne (s.apart n a (w.pages n).last t k leaf leaf_a made (omega arith) (own.given_from k x is refl) last_a low (own.given_low k x is refl) in' (own.given_covered k x is refl) ge (s.paths.made a n (λ e. cc))))
    ])
