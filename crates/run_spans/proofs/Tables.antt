-- What a write to a table leaves.
use Rattle.std.proofs.Common.{◌≡◌, ℕ, ◌+◌, ◌*◌, ◌<◌, ◌≤◌, Bool, true, false, cond, ◌&&◌, eqb, leb, List, Option, None, length, get_or, set, slice_index, slice_index_or, arith, refl, sym, ◌∙◌, subst, get_or-set_same, get_or-set_other}
use Rattle.std.proofs.Math.Path.{fun_ext}
use Rattle.std.proofs.lemmas.Bool.{and_parts, and_from, both_ways, eqb-true, eq-eqb, leb-true, le-leb, false_from_ne_true, cond-true, cond-false}
use Rattle.std.proofs.lemmas.List.{get_or_read}
use Rattle.run_spans.specs.Holders.{nobody, with_holder, holder_at}
use Rattle.run_spans.specs.Places.{nowhere, with_place, place_at}

after_write : {X : Type 0} (d : X) (xs : List X) (i j : ℕ) (v : X) (b : Bool) → i < length xs → (b ≡ true → j ≡ i) → (b ≡ false → j ≡ i → ⊥) → get_or (set xs i v) j d ≡ cond b v (get_or xs j d)
after_write {X} d xs i j v true low same other = subst (λ k. get_or (set xs i v) k d ≡ v) (sym (same refl)) (get_or-set_same xs i v d low)
after_write {X} d xs i j v false low same other = get_or-set_other xs i j v d (other refl)

-- ---- seats

same_seat : (m c n e : ℕ) → (eqb n m && eqb e c) ≡ true → 17 * n + e ≡ 17 * m + c
same_seat m c n e t =
    let parts = and_parts (eqb n m) (eqb e c) t in
    let member : n ≡ m = eqb-true n m parts.0 in
    let choice : e ≡ c = eqb-true e c parts.1 in
    omega arith

other_seat : (m c n e : ℕ) → c ≤ 16 → e ≤ 16 → (eqb n m && eqb e c) ≡ false → 17 * n + e ≡ 17 * m + c → ⊥
other_seat m c n e low few f same =
    let member : n ≡ m = omega arith in
    let choice : e ≡ c = omega arith in
    both_ways (eqb n m && eqb e c) f (and_from (eqb n m) (eqb e c) (eq-eqb n m member) (eq-eqb e c choice))

no_seat : (m c n e : ℕ) → c ≤ 16 → leb e 16 ≡ false → (eqb n m && eqb e c) ≡ true → ⊥
no_seat m c n e low f t =
    let choice : e ≡ c = eqb-true e c (and_parts (eqb n m) (eqb e c) t).1 in
    let few : e ≤ 16 = omega arith in
    both_ways (leb e 16) f (le-leb e 16 few)

joined : (r e : Bool) (a x v : Option ℕ) → (r ≡ true → a ≡ cond e v x) → (r ≡ false → e ≡ false) → cond r a None ≡ cond e v (cond r x None)
joined true e a x v inside outside = inside refl
joined false true a x v inside outside = let h : true ≡ false = outside refl in cc
joined false false a x v inside outside = refl

given_at : (xs : List (Option ℕ)) (m c n e : ℕ) (v : Option ℕ) → length xs ≡ 4352 → m < 256 → c ≤ 16 → holder_at (set xs (17 * m + c) v) n e ≡ with_holder m c v (holder_at xs) n e
unfolding holder_at with_holder
given_at xs m c n e v whole member choice =
    let low : 17 * m + c < length xs = omega arith in
    joined (leb e 16) (eqb n m && eqb e c) (get_or (set xs (17 * m + c) v) (17 * n + e) None) (get_or xs (17 * n + e) None) v
    (λ r. after_write None xs (17 * m + c) (17 * n + e) v (eqb n m && eqb e c) low (same_seat m c n e) (other_seat m c n e choice (leb-true e 16 r)))
    (λ r. false_from_ne_true (eqb n m && eqb e c) (no_seat m c n e choice r))

pub seat_given : (xs : List (Option ℕ)) (p m c : ℕ) (v : Option ℕ) → p ≡ 17 * m + c → length xs ≡ 4352 → m < 256 → c ≤ 16 → holder_at (set xs p v) ≡ with_holder m c v (holder_at xs)
seat_given xs p m c v at whole member choice =
    subst (λ q. holder_at (set xs q v) ≡ with_holder m c v (holder_at xs)) (sym at) (fun_ext (λ n. fun_ext (λ e. given_at xs m c n e v whole member choice)))

none_there : (b : Bool) (x : Option ℕ) → x ≡ None → cond b x None ≡ None
none_there true x h = h
none_there false x h = refl

pub seats_empty : (xs : List (Option ℕ)) → ((k : ℕ) → slice_index_or xs k None ≡ None) → holder_at xs ≡ nobody
unfolding holder_at nobody
seats_empty xs h = fun_ext (λ m. fun_ext (λ c. none_there (leb c 16) (get_or xs (17 * m + c) None) (h (17 * m + c))))

pub holder_read : (xs : List (Option ℕ)) (p m c : ℕ) (x : Option ℕ) → p ≡ 17 * m + c → p < length xs → x ≡ get_or xs p x → c ≤ 16 → x ≡ holder_at xs m c
unfolding holder_at
holder_read xs p m c x at low read choice =
    get_or_read xs p x low read None
    ∙ subst (λ q. get_or xs q None ≡ get_or xs (17 * m + c) None) (sym at) refl
    ∙ sym (cond-true (leb c 16) (get_or xs (17 * m + c) None) None (le-leb c 16 choice))

pub no_holder : (xs : List (Option ℕ)) (m c : ℕ) → 16 < c → None ≡ holder_at xs m c
unfolding holder_at
no_holder xs m c high = sym (cond-false (leb c 16) (get_or xs (17 * m + c) None) None (false_from_ne_true (leb c 16) (λ t. let low : c ≤ 16 = leb-true c 16 t in absurd (omega arith))))

-- ---- places

same_member : (m n : ℕ) → eqb n m ≡ true → n ≡ m
same_member m n t = eqb-true n m t

other_member : (m n : ℕ) → eqb n m ≡ false → n ≡ m → ⊥
other_member m n f same = both_ways (eqb n m) f (eq-eqb n m same)

pub place_put : (xs : List ℕ) (p m v : ℕ) → p ≡ m → length xs ≡ 256 → m < 256 → place_at (set xs p v) ≡ with_place m v (place_at xs)
unfolding place_at with_place
place_put xs p m v at whole member =
    let low : m < length xs = omega arith in
    subst (λ q. place_at (set xs q v) ≡ with_place m v (place_at xs)) (sym at)
    (fun_ext (λ n. after_write 0 xs m n v (eqb n m) low (same_member m n) (other_member m n)))

pub places_zero : (xs : List ℕ) → ((k : ℕ) → slice_index xs k ≡ 0) → place_at xs ≡ nowhere
unfolding place_at nowhere
places_zero xs h = fun_ext h
