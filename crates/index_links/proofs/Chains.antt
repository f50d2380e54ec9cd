-- The machine of the index opens where links and entries lead where they are to, and each leaf but the first has a left one.
use Rattle.std.proofs.Common.{◌≡◌, ◌≢◌, ℕ, zero, suc, ◌+◌, ◌-◌, ◌<◌, ◌≤◌, refl, sym, ap, subst, ◌∙◌, arith, Bool, true, false, Option, Some, None, inl, inr}
use Rattle.std.specs.Prelude.{leb, if◌then◌else◌}
use Rattle.std.proofs.lemmas.Bool.{cond_both, cases_lt, cases_eq}
use Rattle.std.proofs.lemmas.Bool.Decides.{nat_tests}
use Rattle.index_protocol.specs.Index.{Kind, Unmade, Leaf, Branch, Link, beyond}
use Rattle.index_protocol.specs.Opening.{Disk, IsSound}
use Rattle.index_protocol.specs.Partition.{right_of}

-- ---- covering

beyond_none : (k : ℕ) → beyond None k ≡ false
unfolding beyond
beyond_none k = refl

beyond_some : (l : Link) (k : ℕ) → beyond (Some l) k ≡ leb l.high k
unfolding beyond
beyond_some l k = refl

is_covered : (l : Link) (k : ℕ) → k < l.high → beyond (Some l) k ≡ false
is_covered l k lt = beyond_some l k ∙ grind (arith, nat_tests)

is_beyond : (l : Link) (k : ℕ) → l.high ≤ k → beyond (Some l) k ≡ true
is_beyond l k le = beyond_some l k ∙ grind (arith, nat_tests)

is_below : (l : Link) (k : ℕ) → beyond (Some l) k ≡ false → k < l.high
is_below l k h = let e : leb l.high k ≡ false = sym (beyond_some l k) ∙ h in grind (arith, nat_tests)

is_above : (l : Link) (k : ℕ) → beyond (Some l) k ≡ true → l.high ≤ k
is_above l k h = let e : leb l.high k ≡ true = sym (beyond_some l k) ∙ h in grind (arith, nat_tests)

covered_down : (o : Option Link) (j k : ℕ) → j ≤ k → beyond o k ≡ false → beyond o j ≡ false
covered_down None j k le h = beyond_none j
covered_down (Some l) j k le h = let lt = is_below l k h in is_covered l j (omega (arith, lt, le))

not_both : (b : Bool) → b ≡ true → b ≡ false → ⊥
not_both true t f = absurd cc
not_both false t f = absurd cc

-- ---- leaves and those to their left

pub record LeftOf (d : Disk) (n : ℕ) : Type 0 where
  pub at : ℕ
  pub high : ℕ
  pub leaf : d.kind at ≡ Leaf
  pub link : d.link at ≡ Some (record { high = high; right = n })

pub record IsLinked (d : Disk) : Type 0 where
  pub root_kind : d.kind 1 ≡ Branch
  pub root_low : d.low 1 ≡ 0
  pub leaf_kind : d.kind 2 ≡ Leaf
  pub leaf_low : d.low 2 ≡ 0
  pub unmade : (n : ℕ) → d.kind n ≡ Unmade → d.last n ≡ 0
  pub made : (n : ℕ) → d.kind n ≢ Unmade → 1 ≤ d.last n
  pub above_root : (n : ℕ) → d.kind n ≡ Branch → n ≢ 1 → 0 < d.low n
  pub above_leaf : (n : ℕ) → d.kind n ≡ Leaf → n ≢ 2 → 0 < d.low n
  pub above : (n : ℕ) (l : Link) → 1 ≤ d.last n → d.link n ≡ Some l → d.low n < l.high
  pub right_low : (n : ℕ) (l : Link) → 1 ≤ d.last n → d.link n ≡ Some l → d.low l.right ≡ l.high
  pub right_kind : (n : ℕ) (l : Link) → 1 ≤ d.last n → d.link n ≡ Some l → d.kind l.right ≡ d.kind n
  pub child : (n k c : ℕ) → d.kind n ≡ Branch → 1 ≤ d.last n → d.entry n k ≡ Some c → d.kind c ≡ Leaf
  pub child_low : (n k c : ℕ) → d.kind n ≡ Branch → 1 ≤ d.last n → d.entry n k ≡ Some c → d.low c ≡ k
  pub first : (n : ℕ) → d.kind n ≡ Branch → 1 ≤ d.last n → d.entry n (d.low n) ≢ None
  pub from_low : (n k x : ℕ) → d.kind n ≡ Leaf → d.entry n k ≡ Some x → d.low n ≤ k
  pub in_high : (n k x : ℕ) → d.kind n ≡ Leaf → d.entry n k ≡ Some x → beyond (d.link n) k ≡ false
  pub left : (n : ℕ) → d.kind n ≡ Leaf → n ≢ 2 → LeftOf d n

pub record Covers (d : Disk) (k n : ℕ) : Type 0 where
  pub leaf : d.kind n ≡ Leaf
  pub low : d.low n ≤ k
  pub covers : beyond (d.link n) k ≡ false

leaf_made : (kind : Kind) → kind ≡ Leaf → kind ≢ Unmade
leaf_made kind is un = cc

made_leaf : (d : Disk) (n : ℕ) → IsLinked d → d.kind n ≡ Leaf → 1 ≤ d.last n
made_leaf d n s leaf = s.made n (leaf_made (d.kind n) leaf)

-- ---- the way from the first leaf

unfoldable walk : Disk → ℕ → ℕ → ℕ → ℕ
walk d zero n k = n
walk d (suc f) n k = if beyond (d.link n) k then walk d f (right_of (d.link n) n) k else n

record IsRight (d : Disk) (n m k : ℕ) : Type 0 where
  leaf : d.kind m ≡ Leaf
  up : d.low n < d.low m
  low : d.low m ≤ k

is_right : (d : Disk) (n k : ℕ) (o : Option Link) → d.link n ≡ o → IsLinked d → d.kind n ≡ Leaf → beyond o k ≡ true → IsRight d n (right_of o n) k
is_right d n k None is s leaf out = absurd (not_both (beyond None k) out (beyond_none k))
is_right d n k (Some l) is s leaf out =
    let made = made_leaf d n s leaf in
    let low = s.right_low n l made is in
    let up = s.above n l made is in
    let le = is_above l k out in
    record { leaf = s.right_kind n l made is ∙ leaf; up = omega (arith, low, up); low = omega (arith, low, le) }

walks : (d : Disk) (f n k : ℕ) → IsLinked d → d.kind n ≡ Leaf → d.low n ≤ k → k < d.low n + f → Covers d k (walk d f n k)
unfolding walk
walks d zero n k s leaf low fuel = absurd (omega (arith, low, fuel))
walks d (suc f) n k s leaf low fuel =
    cond_both (beyond (d.link n) k) (walk d f (right_of (d.link n) n) k) n (Covers d k)
    (λ e. let r = is_right d n k (d.link n) refl s leaf e in walks d f (right_of (d.link n) n) k s r.leaf r.low (let u = r.up in omega (arith, u, fuel)))
    (λ e. record { leaf = leaf; low = low; covers = e })

-- the leaf that covers the key
pub home_of : Disk → ℕ → ℕ
home_of d k = walk d (k + 1) 2 k

home_covers : (d : Disk) (k : ℕ) → IsLinked d → Covers d k (home_of d k)
unfolding home_of
home_covers d k s = let q = s.leaf_low in walks d (k + 1) 2 k s s.leaf_kind (omega (arith, q)) (omega (arith, q))

-- ---- two leaves that cover a key are one

same_link : (a b : Link) → Some a ≡ Some b → a ≡ b
same_link a b e = cc

left_covers : (d : Disk) (n : ℕ) → IsLinked d → 0 < d.low n → (m : LeftOf d n) → Covers d (d.low n - 1) m.at
left_covers d n s some m =
    let l : Link = record { high = m.high; right = n } in
    let made = made_leaf d m.at s m.leaf in
    let low : d.low n ≡ m.high = s.right_low m.at l made m.link in
    let up : d.low m.at < m.high = s.above m.at l made m.link in
    record {
      leaf = m.leaf;
      low = omega (arith, low, up);
      covers = ap (λ (o : Option Link). beyond o (d.low n - 1)) m.link ∙ is_covered l (d.low n - 1) (omega (arith, low, some));
    }

not_first : (d : Disk) (n : ℕ) → IsLinked d → 0 < d.low n → n ≢ 2
not_first d n s some is = let z : d.low n ≡ 0 = ap d.low is ∙ s.leaf_low in absurd (omega (arith, z, some))

below_covers : (d : Disk) (k j n : ℕ) → d.low n ≤ j → j ≤ k → Covers d k n → Covers d j n
below_covers d k j n low le c = record { leaf = c.leaf; low = low; covers = covered_down (d.link n) j k le c.covers }

abbrev Apart : Disk → ℕ → Type 0
Apart d f = (k n q : ℕ) → k < f → Covers d k n → Covers d k q → n ≡ q

-- the first begins before the second
never_less : (d : Disk) (f k n q : ℕ) → IsLinked d → Apart d f → k < suc f → d.low n < d.low q → Covers d k n → Covers d k q → ⊥
never_less d f k n q s ih lt less a b =
    let some : 0 < d.low q = omega (arith, less) in
    let upto = b.low in
    let m = s.left q b.leaf (not_first d q s some) in
    let made = made_leaf d m.at s m.leaf in
    let l : Link = record { high = m.high; right = q } in
    let low : d.low q ≡ m.high = s.right_low m.at l made m.link in
    let same : n ≡ m.at = ih (d.low q - 1) n m.at (omega (arith, lt, upto, some)) (below_covers d k (d.low q - 1) n (omega (arith, less)) (omega (arith, upto)) a) (left_covers d q s some m) in
    let out : beyond (d.link n) k ≡ true = ap (λ (x : ℕ). beyond (d.link x) k) same ∙ ap (λ (o : Option Link). beyond o k) m.link ∙ is_beyond l k (omega (arith, low, upto)) in
    not_both (beyond (d.link n) k) out a.covers

same_low : (d : Disk) (f k n q : ℕ) → IsLinked d → Apart d f → k < suc f → d.low n ≡ d.low q → Covers d k n → Covers d k q → n ≡ q
same_low d f k n q s ih lt e a b =
    elim (cases_lt 0 (d.low n)) as (λ _. n ≡ q) [
      | inl some ↦
          let some_q : 0 < d.low q = omega (arith, some, e) in
          let upto = a.low in
          let m = s.left n a.leaf (not_first d n s some) in
          let r = s.left q b.leaf (not_first d q s some_q) in
          let there : Covers d (d.low n - 1) r.at = subst (λ (x : ℕ). Covers d (x - 1) r.at) (sym e) (left_covers d q s some_q r) in
          let same : m.at ≡ r.at = ih (d.low n - 1) m.at r.at (omega (arith, lt, upto, some)) (left_covers d n s some m) there in
          let links : Some (record { high = m.high; right = n }) ≡ d.link r.at = sym m.link ∙ ap d.link same in
          ap (λ (l : Link). l.right) (same_link (record { high = m.high; right = n }) (record { high = r.high; right = q }) (links ∙ r.link))
      | inr none ↦ is_first n a.leaf (omega (arith, none)) ∙ sym (is_first q b.leaf (omega (arith, none, e)))
    ]
  where
    is_first : (x : ℕ) → d.kind x ≡ Leaf → d.low x ≤ 0 → x ≡ 2
    is_first x leaf le =
        elim (cases_eq x 2) as (λ _. x ≡ 2) [
          | inl is ↦ is
          | inr other ↦ let some = s.above_leaf x leaf other in absurd (omega (arith, some, le))
        ]

apart : (d : Disk) → IsLinked d → (f : ℕ) → Apart d f
apart d s zero k n q lt a b = absurd (omega (arith, lt))
apart d s (suc f) k n q lt a b =
    elim (cases_lt (d.low n) (d.low q)) as (λ _. n ≡ q) [
      | inl less ↦ absurd (never_less d f k n q s (apart d s f) lt less a b)
      | inr ge ↦ elim (cases_lt (d.low q) (d.low n)) as (λ _. n ≡ q) [
        | inl less ↦ absurd (never_less d f k q n s (apart d s f) lt less b a)
        | inr le ↦ same_low d f k n q s (apart d s f) lt (omega (arith, ge, le)) a b
      ]
    ]

is_home : (d : Disk) (k n : ℕ) → IsLinked d → Covers d k n → n ≡ home_of d k
is_home d k n s c = apart d s (k + 1) k n (home_of d k) (omega arith) c (home_covers d k s)

pub sound_of : (d : Disk) → IsLinked d → IsSound (record d { home = home_of d })
sound_of d s = record {
  root_kind = s.root_kind;
  root_low = s.root_low;
  leaf_kind = s.leaf_kind;
  leaf_low = s.leaf_low;
  unmade = s.unmade;
  made = s.made;
  above_root = s.above_root;
  above_leaf = s.above_leaf;
  above = s.above;
  right_low = s.right_low;
  right_kind = s.right_kind;
  child = s.child;
  child_low = s.child_low;
  first = s.first;
  home_leaf = λ k. (home_covers d k s).leaf;
  home_low = λ k. (home_covers d k s).low;
  home_covers = λ k. (home_covers d k s).covers;
  home_one = λ k n leaf low covers. is_home d k n s (record { leaf = leaf; low = low; covers = covers });
  no_other = λ k n x leaf is. is_home d k n s (record { leaf = leaf; low = s.from_low n k x leaf is; covers = s.in_high n k x leaf is });
}

-- ---- and each leaf but the first has a left one where it opens

own_low : (d : Disk) (n : ℕ) (o : Option Link) → d.link n ≡ o → IsSound d → 1 ≤ d.last n → beyond o (d.low n) ≡ false
own_low d n None is s made = beyond_none (d.low n)
own_low d n (Some l) is s made = is_covered l (d.low n) (s.above n l made is)

-- the leaf covers the low key of another, so it is that one
cannot_cover : (d : Disk) (n m : ℕ) → IsSound d → d.kind n ≡ Leaf → 0 < d.low n → d.kind m ≡ Leaf → d.low m ≤ d.low n - 1 → beyond (d.link m) (d.low n) ≡ false → ⊥
cannot_cover d n m s leaf some there low covers =
    let made = s.made n (leaf_made (d.kind n) leaf) in
    let here = s.home_one (d.low n) n leaf (omega arith) (own_low d n (d.link n) refl s made) in
    let that = s.home_one (d.low n) m there (omega (arith, low)) covers in
    let same : d.low m ≡ d.low n = ap d.low (that ∙ sym here) in
    omega (arith, same, low, some)

left_by : (d : Disk) (n m : ℕ) (o : Option Link) → d.link m ≡ o → IsSound d → d.kind n ≡ Leaf → 0 < d.low n → d.kind m ≡ Leaf → d.low m ≤ d.low n - 1 → beyond o (d.low n - 1) ≡ false → LeftOf d n
left_by d n m None is s leaf some there low covers = absurd (cannot_cover d n m s leaf some there low (ap (λ (o : Option Link). beyond o (d.low n)) is ∙ beyond_none (d.low n)))
left_by d n m (Some l) is s leaf some there low covers =
    let made = s.made m (leaf_made (d.kind m) there) in
    let up = is_below l (d.low n - 1) covers in
    elim (cases_lt (d.low n) l.high) as (λ _. LeftOf d n) [
      | inl past ↦ absurd (cannot_cover d n m s leaf some there low (ap (λ (o : Option Link). beyond o (d.low n)) is ∙ is_covered l (d.low n) past))
      | inr upto ↦
          let right_leaf : d.kind l.right ≡ Leaf = s.right_kind m l made is ∙ there in
          let right_low : d.low l.right ≡ l.high = s.right_low m l made is in
          let right_made = s.made l.right (leaf_made (d.kind l.right) right_leaf) in
          let same_low : d.low l.right ≡ d.low n = omega (arith, right_low, up, upto, some) in
          let own : beyond (d.link l.right) (d.low n) ≡ false = ap (beyond (d.link l.right)) (sym same_low) ∙ own_low d l.right (d.link l.right) refl s right_made in
          let right_is : l.right ≡ n =
          s.home_one (d.low n) l.right right_leaf (omega (arith, same_low)) own ∙ sym (s.home_one (d.low n) n leaf (omega arith) (own_low d n (d.link n) refl s (s.made n (leaf_made (d.kind n) leaf)))) in
          record { at = m; high = l.high; leaf = there; link = is ∙ ap (λ (x : ℕ). Some (record { high = l.high; right = x })) right_is }
    ]

pub left_of : (d : Disk) (n : ℕ) → IsSound d → d.kind n ≡ Leaf → n ≢ 2 → LeftOf d n
left_of d n s leaf other =
    let some = s.above_leaf n leaf other in
    left_by d n (d.home (d.low n - 1)) (d.link (d.home (d.low n - 1))) refl s leaf some (s.home_leaf (d.low n - 1)) (s.home_low (d.low n - 1)) (s.home_covers (d.low n - 1))
