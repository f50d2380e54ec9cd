-- What coherence gives.
use Rattle.std.proofs.Common.{◌≡◌, ℕ, ◌<◌, ◌≤◌, sym, ◌∙◌, arith, true, inl, inr, ◌⊎◌, Some}
use Rattle.std.proofs.lemmas.Bool.{cases_Bool}
use Rattle.page_protocol.specs.Page.{Page, Group, Up, group_copy, copy_before}
use Rattle.page_protocol.specs.Coherent.{Coherent}
use Rattle.page_protocol.specs.Down.{Grounded}
use Rattle.page_protocol.specs.Words.{AreVersions, NewestAllowed, CoherentGives, FallenGives}

cache_old : (g : Group) (p : Page) (v : ℕ) → Coherent g p → p.bytes ≡ Some v → v ≡ p.shared
cache_old g p v s e = grind arith

frame_old : (g : Group) (p : Page) (m : ℕ) → Coherent g p → (p.frame m).filled ≡ true → (p.frame m).version ≤ p.last
frame_old g p m s filled = let a = s.marked_last m in let b = s.old m filled in let c = s.within in grind (arith, a, b, c)

copy_old : (g : Group) (p : Page) → Coherent g p → group_copy p ≤ p.shared
copy_old g p s = grind arith

newest : (g : Group) (p : Page) → Coherent g p → NewestAllowed g p
newest g p s m use-it = elim (cases_Bool (p.frame m).marked) [
  | inl h ↦ inr (s.marked_own m h, s.marked_last m h)
  | inr h ↦ elim use-it.1 [ inl b ↦ inl (s.valid m use-it.0 b h) | inr q ↦ inl (s.sole_valid m q.0 q.1 q.2 use-it.0 h) ]
]

own_found : (g : Group) (p : Page) (m i : ℕ) → Coherent g p → g.status m ≡ Up → ((p.frame m).version ≡ p.shared) ⊎ ((p.owner ≡ Some m) × ((p.frame m).version ≡ p.last)) → (p.frame m).filled ≡ true
    → (i < p.shared) ⊎ ((i < p.last) × (p.author i ≡ m)) → i < (p.frame m).version
own_found g p m i s up is filled has = let a = s.own i in let b = s.newest m in let c = s.marked_last m in let d = s.within in grind (arith, a, b, c, d, is, has)

pub gives : CoherentGives
gives g p s = record {
  versions = record {
    disk = let a = s.disk_old in let b = s.within in omega (arith, a, b);
    cache = λ v e. let a = cache_old g p v s e in let b = s.within in omega (arith, a, b);
    frames = λ m filled. frame_old g p m s filled;
    buffer = λ m held. let a = (s.casting m held).shared in let b = s.within in omega (arith, a, b);
  };
  newest_allowed = newest g p s;
  finds_own = λ m i use-it up has. own_found g p m i s up (newest g p s m use-it) use-it.0 has;
  unshared = record {
    author = λ i a b. beyond i a b;
    in_log = λ i a b. s.written i b;
    in_frame = λ m own more up. let h = in_hand m own more up in (s.marked_filled m h, s.marked_last m h);
    on_disk = λ m own failed. s.failed_stable m failed own;
    resting = λ m own rests clean. s.resting_stable m rests own clean;
  };
  stable_before_shared = (λ i lt. let a = copy_old g p s in s.stable i (omega (arith, a, lt)), λ i lt. let a = s.disk_old in s.stable i (omega (arith, a, lt)));
  disk_is_no_later = record {
    no_later = λ v e. let a = cache_old g p v s e in let b = s.disk_old in omega (arith, a, b);
    equal = s.clean;
  };
  buffer_is_new = record {
    no_older = λ m held. (s.casting m held).no_older;
    whole = λ m held since. (s.casting m held).whole since ∙ sym (held_copy m held);
  };
  newest_shared = s.group;
  lost_bits = s.lost_bits;
}
  where
    beyond : (i : ℕ) → copy_before g p ≤ i → i < p.last → p.owner ≡ Some (p.author i)
    beyond i a b = let x = s.own i in let y = s.lost_own i in grind (arith, x, y, a, b)

    in_hand : (m : ℕ) → p.owner ≡ Some m → copy_before g p < p.last → g.status m ≡ Up → (p.frame m).marked ≡ true
    in_hand m own more up = let x = s.newest m in let y = s.lost_newest m in grind (arith, x, y, own, more, up)

    held_copy : (m : ℕ) → p.castout ≡ Some m → group_copy p ≡ p.shared
    held_copy m held = let a = s.lost_castout in let b = s.group in grind (arith, a, b, held)

fallen_versions : (g : Group) (p : Page) → Grounded g p → AreVersions p
fallen_versions g p s = grind arith

fallen_copy : (g : Group) (p : Page) → Grounded g p → group_copy p ≤ p.last
fallen_copy g p s = grind arith

pub fallen_gives : FallenGives
fallen_gives g p s = (fallen_versions g p s, (λ i lt. let a = fallen_copy g p s in s.all_stable i (omega (arith, a, lt)), λ i lt. let a = s.within in s.all_stable i (omega (arith, a, lt))))
