-- The links lead from the first leaf to the leaf that covers a key.
use Rattle.std.proofs.Common.{◌≡◌, ℕ, zero, suc, ◌+◌, ◌<◌, ◌≤◌, refl, sym, ◌∙◌, arith, true, false, Option, Some, None, inl, inr}
use Rattle.std.proofs.lemmas.Bool.{cond_both, cases_lt, cases_Bool}
use Rattle.index_protocol.specs.Index.{Link, World, Leaf, beyond}
use Rattle.index_protocol.specs.Whole.{Shape, WholeIndex}
use Rattle.index_protocol.specs.Partition.{right_of, last_link, last_entry, walk, IsHome, Partitions}
use Rattle.index_protocol.proofs.Paths.{has_last}

-- the page to the right, of a leaf that does not cover the key
record IsRight (w : World) (n m k : ℕ) : Type 0 where
  leaf : w.rest.kind m ≡ Leaf
  up : w.rest.low n < w.rest.low m
  low : w.rest.low m ≤ k

is_right : (w : World) (n k : ℕ) (o : Option Link) → last_link w n ≡ o → Shape w.rest n (w.pages n) → 1 ≤ (w.pages n).last → w.rest.kind n ≡ Leaf → beyond o k ≡ true → IsRight w n (right_of o n) k
unfolding beyond
is_right w n k None is s made leaf out = cc
is_right w n k (Some l) is s made leaf out =
    let low = s.right_low (w.pages n).last l made (omega arith) is in
    let kind = s.right_kind (w.pages n).last l made (omega arith) is in
    let up = s.above (w.pages n).last l made (omega arith) is in
    record { leaf = kind ∙ leaf; up = omega (arith, low, up); low = grind (arith, low, out) }

made_leaf : (w : World) (n : ℕ) → WholeIndex w → w.rest.kind n ≡ Leaf → 1 ≤ (w.pages n).last
made_leaf w n s leaf = (s.shape n).made (λ e. cc)

walks : (w : World) (f n k : ℕ) → WholeIndex w → w.rest.kind n ≡ Leaf → w.rest.low n ≤ k → k < w.rest.low n + f → IsHome w k (walk w f n k)
unfolding walk
walks w zero n k s leaf low fuel = absurd (omega (arith, low, fuel))
walks w (suc f) n k s leaf low fuel =
    let made : 1 ≤ (w.pages n).last = made_leaf w n s leaf in
    cond_both (beyond (last_link w n) k) _ _ (IsHome w k)
    (λ e. let r = is_right w n k (last_link w n) refl (s.shape n) made leaf e in walks w f (right_of (last_link w n) n) k s r.leaf r.low (let u = r.up in omega (arith, u, fuel)))
    (λ e. record { leaf = leaf; low = low; covers = e })

from_first : (w : World) (k : ℕ) → WholeIndex w → IsHome w k (walk w (k + 1) 2 k)
from_first w k s = let q = s.roots.leaf_low in walks w (k + 1) 2 k s s.roots.leaf_kind (omega (arith, q)) (omega (arith, q))

same_home : (w : World) (k n q : ℕ) → WholeIndex w → IsHome w k n → IsHome w k q → n ≡ q
same_home w k n q s a b = s.apart n q (w.pages n).last (w.pages q).last k a.leaf b.leaf (made_leaf w n s a.leaf) (omega arith) (made_leaf w q s b.leaf) (omega arith) a.low b.low a.covers b.covers (s.paths.made n q (λ e. (let l = a.leaf in cc))) (s.paths.made q n (λ e. (let l = b.leaf in cc)))

place_at : (w : World) (k n : ℕ) (o e : Option ℕ) → WholeIndex w → IsHome w k n → w.rest.given k ≡ o → last_entry w n k ≡ e → e ≡ o
place_at w k n (Some x) e s h is at = sym at ∙ has_last w n k x s h.leaf is h.low h.covers
place_at w k n None None s h is at = refl
place_at w k n None (Some x) s h is at = let p = (s.leaves n).place (w.pages n).last k x h.leaf (made_leaf w n s h.leaf) (omega arith) at in absurd cc

only : (w : World) (k n x : ℕ) → WholeIndex w → w.rest.kind n ≡ Leaf → last_entry w n k ≡ Some x → IsHome w k n
only w k n x s leaf is = record { leaf = leaf; low = low; covers = covers }
  where
    low : w.rest.low n ≤ k
    low = elim (cases_lt k (w.rest.low n)) [
      | inl lt ↦ absurd (let a = (s.leaves n).out_low (w.pages n).last k leaf (made_leaf w n s leaf) (omega arith) lt in cc)
      | inr ge ↦ ge
    ]

    covers : beyond (last_link w n) k ≡ false
    covers = elim (cases_Bool (beyond (last_link w n) k)) [
      | inl e ↦ absurd (let a = (s.leaves n).out_high (w.pages n).last k leaf (made_leaf w n s leaf) (omega arith) e in cc)
      | inr e ↦ e
    ]

own_low : (w : World) (n : ℕ) (o : Option Link) → last_link w n ≡ o → Shape w.rest n (w.pages n) → 1 ≤ (w.pages n).last → beyond o (w.rest.low n) ≡ false
unfolding beyond
own_low w n None is s made = refl
own_low w n (Some l) is s made = let up = s.above (w.pages n).last l made (omega arith) is in grind (arith, up)

pub partitions : Partitions
partitions w s = record {
  leads = λ k. from_first w k s;
  one = λ k n h. same_home w k (walk w (k + 1) 2 k) n s (from_first w k s) h;
  place = λ k n h. place_at w k n (w.rest.given k) (last_entry w n k) s h refl refl;
  no_other = λ k n x leaf is. only w k n x s leaf is;
  reached = λ n leaf. same_home w (w.rest.low n) (walk w (w.rest.low n + 1) 2 (w.rest.low n)) n s (from_first w (w.rest.low n) s) (record { leaf = leaf; low = omega arith; covers = own_low w n (last_link w n) refl (s.shape n) (made_leaf w n s leaf) });
}
