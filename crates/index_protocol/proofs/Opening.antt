-- An index on a disk is whole, and a run leaves such a disk.
use Rattle.std.proofs.Common.{◌≡◌, ℕ, ◌+◌, ◌<◌, ◌≤◌, refl, sym, ◌∙◌, subst, arith, true, false, Option, Some, None, inl, inr}
use Rattle.std.specs.Prelude.{◌≢◌}
use Rattle.std.proofs.lemmas.Bool.{cases_eq, cases_lt, both_ways}
use Rattle.index_protocol.specs.Index.{Kind, Unmade, Leaf, Branch, Link, World, beyond}
use Rattle.index_protocol.specs.Whole.{WholeIndex, Roots, Paths, Shape, Leaves, Apart}
use Rattle.index_protocol.specs.Partition.{Partition, walk}
use Rattle.index_protocol.specs.Opening.{Disk, IsSound, first_of, parted_from_first, opening, OpensWhole, AlwaysFromOpening, LeavesSound}
use Rattle.index_protocol.proofs.Partition.{partitions}
use Rattle.index_protocol.proofs.Runs.{run_from}

-- ---- each page of a kind is taken to have left the first one
never : 1 ≤ 0 → ⊥
never h = omega (arith, h)

most : (k : Kind) (n q : ℕ) → parted_from_first k n q ≤ 1
most Unmade n q = grind arith
most Branch n q = grind arith
most Leaf n q = grind arith

itself : (k : Kind) (n : ℕ) → parted_from_first k n n ≡ 0
itself Unmade n = refl
itself Branch n = grind arith
itself Leaf n = grind arith

no_other_first : (k : Kind) (n r q : ℕ) → q ≢ n → parted_from_first k r q ≤ parted_from_first k n q
no_other_first Unmade n r q ne = grind arith
no_other_first Branch n r q ne = grind (arith, ne)
no_other_first Leaf n r q ne = grind (arith, ne)

none_else : (k : Kind) (n q : ℕ) → q ≢ first_of k → parted_from_first k n q ≡ 0
none_else Unmade n q ne = refl
none_else Branch n q ne = grind (arith, ne)
none_else Leaf n q ne = grind (arith, ne)

first_none : (k : Kind) (q : ℕ) → parted_from_first k (first_of k) q ≡ 0
first_none Unmade q = refl
first_none Branch q = grind arith
first_none Leaf q = grind arith

none_from_first : (k : Kind) (n q : ℕ) → parted_from_first k n (first_of k) ≡ 0 → parted_from_first k n q ≡ 0
none_from_first Unmade n q e = refl
none_from_first Branch n q e = grind (arith, e)
none_from_first Leaf n q e = grind (arith, e)

first_alone : (k : Kind) (n : ℕ) → k ≢ Unmade → parted_from_first k n (first_of k) ≡ 0 → n ≡ first_of k
first_alone Unmade n made e = absurd (made refl)
first_alone Branch n made e = grind (arith, e)
first_alone Leaf n made e = grind (arith, e)

not_first : (k : Kind) (n q : ℕ) → 1 ≤ parted_from_first k n q → n ≢ first_of k
not_first Unmade n q h e = never h
not_first Branch n q h e = grind (arith, h, e)
not_first Leaf n q h e = grind (arith, h, e)

-- ---- the pages of a disk
is_made : (d : Disk) (n : ℕ) → IsSound d → 1 ≤ d.last n → d.kind n ≢ Unmade
is_made d n s some e = let z = s.unmade n e in omega (arith, z, some)

first_kind : (d : Disk) (k : Kind) → IsSound d → k ≢ Unmade → d.kind (first_of k) ≡ k
first_kind d Unmade s made = absurd (made refl)
first_kind d Branch s made = s.root_kind
first_kind d Leaf s made = s.leaf_kind

parted_kind : (d : Disk) (k : Kind) (n q : ℕ) → IsSound d → 1 ≤ parted_from_first k n q → d.kind q ≡ k
parted_kind d k n q s h = elim (cases_eq q (first_of k)) [
  | inl e ↦ subst (λ x. d.kind x ≡ k) (sym e) (first_kind d k s (some k h))
  | inr ne ↦ absurd (let z = none_else k n q ne in omega (arith, z, h))
]
  where
    some : (j : Kind) → 1 ≤ parted_from_first j n q → j ≢ Unmade
    some Unmade less e = never less
    some Branch less e = cc
    some Leaf less e = cc

less_than : (x y : ℕ) → x ≡ 0 → 0 < y → x < y
less_than x y a b = omega (arith, a, b)

first_low : (d : Disk) (k : Kind) (n : ℕ) → IsSound d → d.kind n ≡ k → k ≢ Unmade → n ≢ first_of k → d.low (first_of k) < d.low n
first_low d Unmade n s e made ne = absurd (made refl)
first_low d Branch n s e made ne = less_than (d.low 1) (d.low n) s.root_low (s.above_root n e ne)
first_low d Leaf n s e made ne = less_than (d.low 2) (d.low n) s.leaf_low (s.above_leaf n e ne)

one_or_two : (k : Kind) (n : ℕ) → n ≡ first_of k → k ≢ Unmade → n ≢ 1 → n ≡ 2
one_or_two Unmade n e made ne = absurd (made refl)
one_or_two Branch n e made ne = absurd (ne e)
one_or_two Leaf n e made ne = e

parted_made : (d : Disk) (n q : ℕ) → IsSound d → d.kind n ≢ Unmade → parted_from_first (d.kind n) n q ≤ d.last q
parted_made d n q s made = elim (cases_lt 0 (parted_from_first (d.kind n) n q)) [
  | inl lt ↦ (
      let kind = parted_kind d (d.kind n) n q s lt in
      let a = s.made q (λ u. made (sym kind ∙ u)) in
      let b = most (d.kind n) n q in
      omega (arith, a, b))
  | inr ge ↦ omega (arith, ge)
]

roots_of : (d : Disk) → IsSound d → Roots (opening d).rest
roots_of d s = record {
  root_kind = s.root_kind;
  root_low = s.root_low;
  root_open = λ q. subst (λ k. parted_from_first k 1 q ≡ 0) (sym s.root_kind) (first_none Branch q);
  leaf_kind = s.leaf_kind;
  leaf_low = s.leaf_low;
  leaf_open = λ q. subst (λ k. parted_from_first k 2 q ≡ 0) (sym s.leaf_kind) (first_none Leaf q);
  formed = λ k x e none. absurd (there none);
}
  where
    there : d.last 1 ≡ 0 → ⊥
    there none =
        let root = s.root_kind in
        let m = s.made 1 (λ u. cc) in
        omega (arith, m, none)

paths_of : (d : Disk) → IsSound d → Paths (opening d).rest d.last
paths_of d s = record {
  made = λ n q made. parted_made d n q s made;
  self = λ n made. itself (d.kind n) n;
  kinds = λ n q made some. parted_kind d (d.kind n) n q s some;
  first = λ n q made none. none_from_first (d.kind n) n q none;
  roots = λ n made none ne. one_or_two (d.kind n) n (first_alone (d.kind n) n made none) made ne;
  chain = λ n q made some ne. none_else (d.kind n) n q ne ∙ sym (subst (λ k. parted_from_first k (first_of (d.kind n)) q ≡ 0) (sym (first_kind d (d.kind n) s made)) (first_none (d.kind n) q));
  left_low = λ n made some. first_low d (d.kind n) n s refl made (not_first (d.kind n) n (first_of (d.kind n)) some);
}

shape_of : (d : Disk) (n : ℕ) → IsSound d → Shape (opening d).rest n ((opening d).pages n)
shape_of d n s = record {
  unmade = s.unmade n;
  made = s.made n;
  seen = same (d.last n);
  above = λ v l a b e. s.above n l (some v a b) e;
  right_low = λ v l a b e. s.right_low n l (some v a b) e;
  right_kind = λ v l a b e. s.right_kind n l (some v a b) e;
  right_own = λ v l a b e. up_to (parted_from_first (d.kind l.right) l.right n) v (most (d.kind l.right) l.right n) a;
  right_other = λ v q l a b e ne. subst (λ k. parted_from_first k l.right q ≤ parted_from_first (d.kind n) n q) (sym (s.right_kind n l (some v a b) e)) (no_other_first (d.kind n) n l.right q ne);
  right_shown = λ v l a b e none. absurd (right_there v l a b e none);
  right_writer = λ v l a b e none. refl;
  falls = λ v w k a b c e. e;
  child = λ v k c kind a b e. s.child n k c kind (some v a b) e;
  child_low = λ v k c kind a b e. s.child_low n k c kind (some v a b) e;
  child_shown = λ v k c kind a b e none. absurd (child_there v k c kind a b e none);
  child_writer = λ v k c kind a b e none. refl;
  child_open = λ v k c q kind a b e less. absurd (child_parted v k c q kind a b e less);
  child_opener = λ v k c q kind a b e less. refl;
  first = λ v kind a b. s.first n kind (some v a b);
}
  where
    some : (v : ℕ) → 1 ≤ v → v ≤ d.last n → 1 ≤ d.last n
    some v a b = omega (arith, a, b)

    same : (x : ℕ) → x ≤ x
    same x = omega arith

    up_to : (x v : ℕ) → x ≤ 1 → 1 ≤ v → x ≤ v
    up_to x v m a = omega (arith, m, a)

    child_there : (v k c : ℕ) → d.kind n ≡ Branch → 1 ≤ v → v ≤ d.last n → d.entry n k ≡ Some c → d.last c ≡ 0 → ⊥
    child_there v k c kind a b e none =
        let leaf = s.child n k c kind (some v a b) e in
        let m = s.made c (λ u. cc) in
        omega (arith, m, none)

    right_there : (v : ℕ) (l : Link) → 1 ≤ v → v ≤ d.last n → d.link n ≡ Some l → d.last l.right ≡ 0 → ⊥
    right_there v l a b e none =
        let kind = s.right_kind n l (some v a b) e in
        let m = s.made l.right (λ u. is_made d n s (some v a b) (sym kind ∙ u)) in
        omega (arith, m, none)

    child_parted : (v k c q : ℕ) → d.kind n ≡ Branch → 1 ≤ v → v ≤ d.last n → d.entry n k ≡ Some c → d.last q < parted_from_first (d.kind c) c q → ⊥
    child_parted v k c q kind a b e less =
        let leaf = s.child n k c kind (some v a b) e in
        let m = parted_made d c q s (λ u. cc) in
        omega (arith, m, less)

no_entry : (o : Option ℕ) → ((x : ℕ) → o ≡ Some x → ⊥) → o ≡ None
no_entry None h = refl
no_entry (Some x) h = absurd (h x refl)

leaves_of : (d : Disk) (n : ℕ) → IsSound d → Leaves (opening d).rest n ((opening d).pages n)
leaves_of d n s = record {
  given_leaf = λ k x e h. leaf_at k h;
  given_from = λ k x e h. same 1;
  given_last = λ k x e h. some_at k h;
  given_low = λ k x e h. subst (λ m. d.low m ≤ k) h (s.home_low k);
  given_covered = λ k x e h. subst (λ m. beyond (d.link m) k ≡ false) h (s.home_covers k);
  place = λ v k x leaf a b e. subst (λ m. d.entry m k ≡ Some x) (s.no_other k n x leaf e) e;
  out_low = λ v k leaf a b lt. no_entry (d.entry n k) (λ x e. not_below k x leaf e lt);
  out_high = λ v k leaf a b out. no_entry (d.entry n k) (λ x e. not_beyond k x leaf e out);
  has = λ v k x leaf a b e low covers here there. found k x leaf low covers e;
  not_yet = λ v k x leaf a b e here lt. absurd (neither v a lt);
  not_here = λ v k x leaf a b e ne le. no_entry (d.entry n k) (λ y f. ne (s.no_other k n y leaf f));
  finds = λ v k x leaf a seen b e low covers other. found k x leaf low covers e;
  unshown = λ k x e h lt. absurd (neither (d.last n) (some_at k h) lt);
}
  where
    same : (x : ℕ) → x ≤ x
    same x = omega arith

    neither : (v : ℕ) → 1 ≤ v → v < 1 → ⊥
    neither v a b = omega (arith, a, b)

    not_below : (k x : ℕ) → d.kind n ≡ Leaf → d.entry n k ≡ Some x → k < d.low n → ⊥
    not_below k x leaf e lt =
        let low = subst (λ m. d.low m ≤ k) (sym (s.no_other k n x leaf e)) (s.home_low k) in
        omega (arith, low, lt)

    not_beyond : (k x : ℕ) → d.kind n ≡ Leaf → d.entry n k ≡ Some x → beyond (d.link n) k ≡ true → ⊥
    not_beyond k x leaf e out = both_ways (beyond (d.link n) k) (subst (λ m. beyond (d.link m) k ≡ false) (sym (s.no_other k n x leaf e)) (s.home_covers k)) out

    leaf_at : (k : ℕ) → d.home k ≡ n → d.kind n ≡ Leaf
    leaf_at k h = subst (λ m. d.kind m ≡ Leaf) h (s.home_leaf k)

    some_at : (k : ℕ) → d.home k ≡ n → 1 ≤ d.last n
    some_at k h = let leaf = leaf_at k h in s.made n (λ u. cc)

    found : (k x : ℕ) → d.kind n ≡ Leaf → d.low n ≤ k → beyond (d.link n) k ≡ false → d.entry (d.home k) k ≡ Some x → d.entry n k ≡ Some x
    found k x leaf low covers e = subst (λ m. d.entry m k ≡ Some x) (sym (s.home_one k n leaf low covers)) e

apart_of : (d : Disk) (n q : ℕ) → IsSound d → Apart (opening d).rest n q ((opening d).pages n) ((opening d).pages q)
apart_of d n q s v u k leaf other a b c e low low' covers covers' x y = s.home_one k n leaf low covers ∙ sym (s.home_one k q other low' covers')

pub opens : OpensWhole
opens d s = record { roots = roots_of d s; paths = paths_of d s; shape = λ n. shape_of d n s; leaves = λ n. leaves_of d n s; apart = λ n q. apart_of d n q s }

pub always_from : AlwaysFromOpening
always_from d moves w s run = run_from moves (opening d) w (opens d s) run

-- ---- what a run leaves
above_first : (w : World) (n : ℕ) → WholeIndex w → w.rest.kind n ≢ Unmade → n ≢ 1 → n ≢ 2 → 0 < w.rest.low n
above_first w n s made one two = elim (cases_lt 0 (w.rest.parted_at n (w.rest.split_of n))) [
  | inl lt ↦ (let low = s.paths.left_low n made lt in omega (arith, low))
  | inr ge ↦ absurd (two (s.paths.roots n made (omega (arith, ge)) one))
]

pub leaves_sound : LeavesSound
leaves_sound w s = record {
  sound = record {
    root_kind = s.roots.root_kind;
    root_low = s.roots.root_low;
    leaf_kind = s.roots.leaf_kind;
    leaf_low = s.roots.leaf_low;
    unmade = λ n. (s.shape n).unmade;
    made = λ n. (s.shape n).made;
    above_root = λ n kind ne. above_first w n s (λ u. cc) ne (λ e. (let leaf = subst (λ m. w.rest.kind m ≡ Leaf) (sym e) s.roots.leaf_kind in cc));
    above_leaf = λ n kind ne. above_first w n s (λ u. cc) (λ e. (let branch = subst (λ m. w.rest.kind m ≡ Branch) (sym e) s.roots.root_kind in cc)) ne;
    above = λ n l some e. (s.shape n).above (w.pages n).last l some (omega arith) e;
    right_low = λ n l some e. (s.shape n).right_low (w.pages n).last l some (omega arith) e;
    right_kind = λ n l some e. (s.shape n).right_kind (w.pages n).last l some (omega arith) e;
    child = λ n k c kind some e. (s.shape n).child (w.pages n).last k c kind some (omega arith) e;
    child_low = λ n k c kind some e. (s.shape n).child_low (w.pages n).last k c kind some (omega arith) e;
    first = λ n kind some. (s.shape n).first (w.pages n).last kind some (omega arith);
    home_leaf = λ k. (p.leads k).leaf;
    home_low = λ k. (p.leads k).low;
    home_covers = λ k. (p.leads k).covers;
    home_one = λ k n leaf low covers. sym (p.one k n (record { leaf = leaf; low = low; covers = covers }));
    no_other = λ k n x leaf e. sym (p.one k n (p.no_other k n x leaf e));
  };
  places = λ k. p.place k (walk w (k + 1) 2 k) (p.leads k);
}
  where
    p : Partition w
    p = partitions w s
