-- Filters keep what pairs keep, and pairs that are kept have their room.
use Rattle.std.proofs.Common.{◌≡◌, ◌∙◌, refl, sym, ap, subst, ℕ, zero, suc, ◌+◌, ◌*◌, ◌<◌, ◌≤◌, ◌==◌, ◌&&◌, ◌||◌, Bool, true, false, not, cond, nat_le, List, [], ◌∷◌, ◌++◌, length, filter, inl, inr, arith}
use Rattle.std.specs.List.{list_any, list_all}
use Rattle.std.proofs.lemmas.Bool.{cases_Bool, false≢true, eqb-true, and_parts, and_from, and_left, or_parts, or_left, or_right, not_from_true, not_from_false, not-true}
use Rattle.std.proofs.lemmas.Bool.Decides.{nat_tests}
use Rattle.std.proofs.lemmas.List.{append-nil, length_push}
use Rattle.std.proofs.lemmas.List.Folds.{list_any-append, list_all-append}
use Rattle.std.proofs.lemmas.List.Elements.{filter-append}
use Rattle.std.proofs.lemmas.List.Filters.{length-filter_both}
use Rattle.ds_base.specs.Ids.{IsMember}
use Rattle.ds_base.specs.declared.names.TranId.{TranId}
use Rattle.list_structure.specs.declared.wait.Wait.{Wait}
use Rattle.list_structure.specs.Flags.{same_tran}
use Rattle.list_structure.specs.Waits.{is_replaced, is_among, FitsWaits, with_wait}
use Rattle.list_structure.specs.Kept.{AreApart, is_between, in_range, IsKept}

pub or_right_true : (x y : Bool) → x ≡ false → (x || y) ≡ true → y ≡ true
or_right_true true y n e = absurd (false≢true (sym n))
or_right_true false y n e = e

none_both : (x y : Bool) → x ≡ false → y ≡ false → (x || (y || false)) ≡ false
none_both x y a b = grind (arith, a, b)

none_in_filter : {X : Type 0} (p q : X → Bool) (xs : List X) → list_any q xs ≡ false → list_any q (filter p xs) ≡ false
none_in_filter p q [] e = refl
none_in_filter p q (x ∷ xs) e = elim (cases_Bool (p x)) [
  | inl t ↦ let ih = none_in_filter p q xs in grind (arith, t, ih)
  | inr f ↦ let ih = none_in_filter p q xs in grind (arith, f, ih)
]

pub all_in_filter : {X : Type 0} (p q : X → Bool) (xs : List X) → list_all q xs ≡ true → list_all q (filter p xs) ≡ true
all_in_filter p q [] e = refl
all_in_filter p q (x ∷ xs) e = elim (cases_Bool (p x)) [
  | inl t ↦ let ih = all_in_filter p q xs in grind (arith, t, ih)
  | inr f ↦ let ih = all_in_filter p q xs in grind (arith, f, ih)
]

all_pass_filter : {X : Type 0} (p : X → Bool) (xs : List X) → list_all p (filter p xs) ≡ true
all_pass_filter p [] = refl
all_pass_filter p (x ∷ xs) = elim (cases_Bool (p x)) [
  | inl t ↦ let ih = all_pass_filter p xs in grind (arith, t, ih)
  | inr f ↦ let ih = all_pass_filter p xs in grind (arith, f, ih)
]

count-filter : {X : Type 0} (p q : X → Bool) (xs : List X) → length (filter q (filter p xs)) ≤ length (filter q xs)
count-filter p q [] = omega arith
count-filter p q (x ∷ xs) = let ih = count-filter p q xs in elim (cases_Bool (p x)) [
  | inl t ↦ elim (cases_Bool (q x)) [ inl u ↦ grind (arith, t, u, ih) | inr v ↦ grind (arith, t, v, ih) ]
  | inr f ↦ elim (cases_Bool (q x)) [ inl u ↦ grind (arith, f, u, ih) | inr v ↦ grind (arith, f, v, ih) ]
]

apart-cond : (b : Bool) (w : Wait) (ws : List Wait) → list_any (is_replaced w) ws ≡ false → AreApart ws → AreApart (cond b (w ∷ ws) ws)
apart-cond true w ws n a = (n, a)
apart-cond false w ws n a = a

apart-filter : (p : Wait → Bool) (ws : List Wait) → AreApart ws → AreApart (filter p ws)
apart-filter p [] a = tt
apart-filter p (w ∷ ws) a = apart-cond (p w) w (filter p ws) (none_in_filter p (is_replaced w) ws a.0) (apart-filter p ws a.1)

pub IsKept-filter : (p : Wait → Bool) (ws : List Wait) (agents room : ℕ) → IsKept ws agents room → IsKept (filter p ws) agents room
IsKept-filter p ws agents room k = record {
  apart = apart-filter p ws k.apart;
  ranges = all_in_filter p in_range ws k.ranges;
  few = λ m h. omega (arith, count-filter p (is_between m h) ws, k.few m h);
  fits = k.fits;
}

-- a list has more than what is left without a transaction that it has
pub others : List TranId → TranId → List TranId
others ts t = filter (λ u. not (same_tran t u)) ts

some_pass : {X : Type 0} (p : X → Bool) (xs : List X) → list_any p xs ≡ true → 1 ≤ length (filter p xs)
some_pass p [] e = absurd (false≢true e)
some_pass p (x ∷ xs) e = elim (cases_Bool (p x)) [
  | inl t ↦ grind (arith, t)
  | inr f ↦ let ih = some_pass p xs in grind (arith, f, ih)
]

count_le : {X : Type 0} (p q : X → Bool) (xs : List X) → list_all (λ x. not (p x) || q x) xs ≡ true → length (filter p xs) ≤ length (filter q xs)
count_le p q [] e = omega arith
count_le p q (x ∷ xs) e = let ih = count_le p q xs in elim (cases_Bool (p x)) [
  | inl t ↦ elim (cases_Bool (q x)) [ inl u ↦ grind (arith, t, u, ih) | inr v ↦ grind (arith, t, v, ih) ]
  | inr f ↦ elim (cases_Bool (q x)) [ inl u ↦ grind (arith, f, u, ih) | inr v ↦ grind (arith, f, v, ih) ]
]

count_all : {X : Type 0} (p : X → Bool) (xs : List X) → list_all p xs ≡ true → length xs ≤ length (filter p xs)
count_all p [] e = omega arith
count_all p (x ∷ xs) e = let ih = count_all p xs in elim (cases_Bool (p x)) [ inl t ↦ grind (arith, t, ih) | inr f ↦ grind (arith, f, ih) ]

count_none : {X : Type 0} (p : X → Bool) (xs : List X) → list_all (λ x. not (p x)) xs ≡ true → length (filter p xs) ≤ 0
count_none p [] e = omega arith
count_none p (x ∷ xs) e = let ih = count_none p xs in elim (cases_Bool (p x)) [ inl t ↦ grind (arith, t, ih) | inr f ↦ grind (arith, f, ih) ]

-- those with keys up to n + 1 are those with keys up to n, and those with the key n + 1
key_cases : (k n : ℕ) → nat_le k (suc n) ≡ (nat_le k n || (k == suc n))
key_cases k n = grind (arith, nat_tests)

count_or : {X : Type 0} (p q r : X → Bool) → ((x : X) → p x ≡ (q x || r x)) → (xs : List X) → length (filter p xs) ≤ length (filter q xs) + length (filter r xs)
count_or p q r h [] = omega arith
count_or p q r h (x ∷ xs) = let ih = count_or p q r h xs in let e = h x in elim (cases_Bool (q x)) [
  | inl t ↦ elim (cases_Bool (r x)) [ inl u ↦ grind (arith, t, u, ih, e) | inr v ↦ grind (arith, t, v, ih, e) ]
  | inr f ↦ elim (cases_Bool (r x)) [ inl u ↦ grind (arith, f, u, ih, e) | inr v ↦ grind (arith, f, v, ih, e) ]
]

and_or : (a b c : Bool) → (a && (b || c)) ≡ ((a && b) || (a && c))
and_or true b c = refl
and_or false b c = refl

count_more : {X : Type 0} (p : X → Bool) (key : X → ℕ) (n : ℕ) (xs : List X)
    → length (filter (λ x. p x && nat_le (key x) (suc n)) xs) ≤ length (filter (λ x. p x && nat_le (key x) n) xs) + length (filter (λ x. p x && (key x == suc n)) xs)
count_more p key n xs = count_or (λ x. p x && nat_le (key x) (suc n)) (λ x. p x && nat_le (key x) n) (λ x. p x && (key x == suc n)) (λ x. ap (λ b. p x && b) (key_cases (key x) n) ∙ and_or (p x) (nat_le (key x) n) (key x == suc n)) xs

none_at_zero : (p : Bool) (k : ℕ) → (not (nat_le 1 k) || not (p && nat_le k 0)) ≡ true
none_at_zero true k = grind (arith, nat_tests)
none_at_zero false k = grind (arith, nat_tests)

all_along : {X : Type 0} (p q : X → Bool) → ((x : X) → (not (p x) || q x) ≡ true) → (xs : List X) → list_all p xs ≡ true → list_all q xs ≡ true
all_along p q h [] e = refl
all_along p q h (x ∷ xs) e = let ih = all_along p q h xs in let i = h x in elim (cases_Bool (p x)) [
  | inl t ↦ elim (cases_Bool (q x)) [ inl u ↦ grind (arith, t, u, ih, i) | inr v ↦ grind (arith, t, v, ih, i) ]
  | inr f ↦ grind (arith, f, ih, i)
]

count_keys : {X : Type 0} (p : X → Bool) (key : X → ℕ) (b : ℕ) (xs : List X) → list_all (λ x. nat_le 1 (key x)) xs ≡ true
    → ((k : ℕ) → length (filter (λ x. p x && (key x == k)) xs) ≤ b) → (n : ℕ) → length (filter (λ x. p x && nat_le (key x) n) xs) ≤ n * b
count_keys p key b xs r h zero = omega (arith, count_none (λ x. p x && nat_le (key x) 0) xs (all_along (λ x. nat_le 1 (key x)) (λ x. not (p x && nat_le (key x) 0)) (λ x. none_at_zero (p x) (key x)) xs r))
count_keys p key b xs r h (suc n) = omega (arith, count_more p key n xs, h (suc n), count_keys p key b xs r h n)

-- a pair's waiter is one of 32 members, and so is its holder
holder_from : (w : Wait) → (not (in_range w) || nat_le 1 w.holder.member) ≡ true
holder_from w = grind (arith, nat_tests)

waiter_from : (w : Wait) → (not (in_range w) || nat_le 1 w.waiter.member) ≡ true
waiter_from w = grind (arith, nat_tests)

waiter_upto : (w : Wait) → (not (in_range w) || nat_le w.waiter.member 32) ≡ true
waiter_upto w = grind (arith, nat_tests)

holder_upto : (m : ℕ) (w : Wait) → (not (in_range w) || (not (w.waiter.member == m) || ((w.waiter.member == m) && nat_le w.holder.member 32))) ≡ true
holder_upto m w = grind (arith, nat_tests)

count_of_waiter : (ws : List Wait) (b m : ℕ) → list_all in_range ws ≡ true → ((m h : ℕ) → length (filter (is_between m h) ws) ≤ b)
    → length (filter (λ w. w.waiter.member == m) ws) ≤ 32 * b
count_of_waiter ws b m r few =
    let l = count_le (λ w. w.waiter.member == m) (λ w. (w.waiter.member == m) && nat_le w.holder.member 32) ws (all_along in_range (λ w. not (w.waiter.member == m) || ((w.waiter.member == m) && nat_le w.holder.member 32)) (holder_upto m) ws r) in
    let k = count_keys (λ w. w.waiter.member == m) (λ w. w.holder.member) b ws (all_along in_range (λ w. nat_le 1 w.holder.member) holder_from ws r) (few m) 32 in
    omega (arith, l, k)

and_true : (b : Bool) → (true && b) ≡ b
and_true b = refl

pub length_of_kept : (ws : List Wait) (b : ℕ) → list_all in_range ws ≡ true → ((m h : ℕ) → length (filter (is_between m h) ws) ≤ b) → length ws ≤ 1024 * b
length_of_kept ws b r few =
    let a = count_all (λ w. nat_le w.waiter.member 32) ws (all_along in_range (λ w. nat_le w.waiter.member 32) waiter_upto ws r) in
    let k = count_keys (λ w. true) (λ w. w.waiter.member) (32 * b) ws (all_along in_range (λ w. nat_le 1 w.waiter.member) waiter_from ws r) (λ m. count_of_waiter ws b m r few) 32 in
    omega (arith, a, k)

-- the pairs with waiters of one member and holders of another are no more than a list that has the waiters
same_tran-trans : (t u v : TranId) → same_tran u v ≡ true → same_tran t u ≡ false → same_tran t v ≡ false
same_tran-trans t u v a b = grind (arith, nat_tests)

pub still_among : (ts : List TranId) (t u : TranId) → same_tran t u ≡ false → is_among ts u ≡ true → is_among (others ts t) u ≡ true
unfolding others
still_among [] t u d e = e
still_among (v ∷ ts) t u d e = let ih = still_among ts t u d in elim (cases_Bool (same_tran u v)) [
  | inl s ↦ let n = same_tran-trans t u v s d in grind (arith, s, n)
  | inr f ↦ elim (cases_Bool (same_tran t v)) [ inl s ↦ grind (arith, f, s, ih) | inr n ↦ grind (arith, f, n, ih) ]
]

other_waiter : (m h : ℕ) (v w : Wait) → is_between m h v ≡ true → is_replaced v w ≡ false → is_between m h w ≡ true → same_tran v.waiter w.waiter ≡ false
other_waiter m h v w a b c = grind (arith, nat_tests)

pub fewer : (ts : List TranId) (t : TranId) → is_among ts t ≡ true → length (others ts t) + 1 ≤ length ts
unfolding others
fewer ts t e = omega (arith, some_pass (same_tran t) ts e, length-filter_both (same_tran t) (λ u. not (same_tran t u)) (λ u. refl) ts)

still_head : (m h : ℕ) (v w : Wait) (ts : List TranId) → is_between m h v ≡ true → is_replaced v w ≡ false
    → (not (is_between m h w) || is_among ts w.waiter) ≡ true → (not (is_between m h w) || is_among (others ts v.waiter) w.waiter) ≡ true
still_head m h v w ts a b c = elim (cases_Bool (is_between m h w)) [
  | inl t ↦
      let o = other_waiter m h v w a b t in
      let i : is_among ts w.waiter ≡ true = or_right_true (not (is_between m h w)) (is_among ts w.waiter) (not_from_true (is_between m h w) t) c in
      or_right (not (is_between m h w)) (is_among (others ts v.waiter) w.waiter) (still_among ts v.waiter w.waiter o i)
  | inr f ↦ or_left (not (is_between m h w)) (is_among (others ts v.waiter) w.waiter) (not_from_false (is_between m h w) f)
]

still_covered : (m h : ℕ) (v : Wait) (ts : List TranId) (ws : List Wait) → is_between m h v ≡ true → list_any (is_replaced v) ws ≡ false
    → list_all (λ w. not (is_between m h w) || is_among ts w.waiter) ws ≡ true
    → list_all (λ w. not (is_between m h w) || is_among (others ts v.waiter) w.waiter) ws ≡ true
still_covered m h v ts [] a b c = refl
still_covered m h v ts (w ∷ ws) a b c =
    let n = or_parts (is_replaced v w) (list_any (is_replaced v) ws) b in
    let k = and_parts (not (is_between m h w) || is_among ts w.waiter) (list_all (λ x. not (is_between m h x) || is_among ts x.waiter) ws) c in
    and_from (not (is_between m h w) || is_among (others ts v.waiter) w.waiter) (list_all (λ x. not (is_between m h x) || is_among (others ts v.waiter) x.waiter) ws)
    (still_head m h v w ts a n.0 k.0) (still_covered m h v ts ws a n.1 k.1)

few_waiters : (m h : ℕ) (ws : List Wait) (ts : List TranId) → AreApart ws
    → list_all (λ w. not (is_between m h w) || is_among ts w.waiter) ws ≡ true → length (filter (is_between m h) ws) ≤ length ts
few_waiters m h [] ts a c = omega arith
few_waiters m h (w ∷ ws) ts a c =
    let k = and_parts (not (is_between m h w) || is_among ts w.waiter) (list_all (λ x. not (is_between m h x) || is_among ts x.waiter) ws) c in
    elim (cases_Bool (is_between m h w)) [
      | inl t ↦
          let i : is_among ts w.waiter ≡ true = or_right_true (not (is_between m h w)) (is_among ts w.waiter) (not_from_true (is_between m h w) t) k.0 in
          let r = few_waiters m h ws (others ts w.waiter) a.1 (still_covered m h w ts ws t a.0 k.1) in
          let f = fewer ts w.waiter i in
          grind (arith, t, r, f)
      | inr n ↦ let r = few_waiters m h ws ts a.1 k.1 in grind (arith, n, r)
    ]

-- a pair that is added in place of others
replaced_both : (v w : Wait) → is_replaced v w ≡ is_replaced w v
replaced_both v w = grind (arith, nat_tests)

apart-push : (ws : List Wait) (w : Wait) → AreApart ws → list_all (λ v. not (is_replaced w v)) ws ≡ true → AreApart (ws ++ w ∷ [])
apart-push [] w a c = (refl, tt)
apart-push (v ∷ ws) w a c =
    let k = and_parts (not (is_replaced w v)) (list_all (λ x. not (is_replaced w x)) ws) c in
    let n : is_replaced v w ≡ false = replaced_both v w ∙ not-true (is_replaced w v) k.0 in
    (list_any-append (is_replaced v) ws (w ∷ []) ∙ none_both (list_any (is_replaced v) ws) (is_replaced v w) a.0 n, apart-push ws w a.1 k.1)

of_one_member : (m h : ℕ) (ts : List TranId) (w : Wait) → (not (not (w.waiter.member == m) || is_among ts w.waiter) || (not (is_between m h w) || is_among ts w.waiter)) ≡ true
of_one_member m h ts w = elim (cases_Bool (is_among ts w.waiter)) [
  | inl t ↦ grind (arith, nat_tests, t)
  | inr f ↦ elim (cases_Bool (w.waiter.member == m)) [ inl u ↦ grind (arith, nat_tests, f, u) | inr v ↦ grind (arith, nat_tests, f, v) ]
]

few_of_others : (ws : List Wait) (w : Wait) (m h b : ℕ) → (w.waiter.member == m) ≡ false → length (filter (is_between m h) ws) ≤ b → length (filter (is_between m h) (ws ++ w ∷ [])) ≤ b
few_of_others ws w m h b n l =
    let f : is_between m h w ≡ false = and_left (w.waiter.member == m) (w.holder.member == h) n in
    let e : filter (is_between m h) (w ∷ []) ≡ [] = ap (λ (x : Bool). cond x (w ∷ []) []) f in
    let k = ap length (filter-append (is_between m h) ws (w ∷ []) ∙ ap (λ (ys : List Wait). filter (is_between m h) ws ++ ys) e ∙ append-nil (filter (is_between m h) ws)) in
    omega (arith, k, l)

in_range_of : (w : Wait) → IsMember w.waiter.member → IsMember w.holder.member → (in_range w && true) ≡ true
in_range_of w a b = grind (arith, nat_tests)

pub IsKept-add : (ws : List Wait) (agents room : ℕ) (w : Wait) → IsKept ws agents room → IsMember w.waiter.member → IsMember w.holder.member
    → FitsWaits (with_wait ws w) w.waiter.member agents → IsKept (with_wait ws w) agents room
IsKept-add ws agents room w k a b f =
    let kept : Wait → Bool = λ old. not (is_replaced w old) in
    let apart : AreApart (with_wait ws w) = apart-push (filter kept ws) w (apart-filter kept ws k.apart) (all_pass_filter kept ws) in
    record {
      apart = apart;
      ranges = list_all-append in_range (filter kept ws) (w ∷ []) ∙ and_from (list_all in_range (filter kept ws)) (in_range w && true) (all_in_filter kept in_range ws k.ranges) (in_range_of w a b);
      few = λ m h. elim (cases_Bool (w.waiter.member == m)) [
        | inl t ↦
            let p = few_waiters w.waiter.member h (with_wait ws w) f.waiters apart (all_along (λ x. not (x.waiter.member == w.waiter.member) || is_among f.waiters x.waiter) (λ x. not (is_between w.waiter.member h x) || is_among f.waiters x.waiter) (of_one_member w.waiter.member h f.waiters) (with_wait ws w) f.all) in
            let q : length (filter (is_between w.waiter.member h) (with_wait ws w)) ≤ agents = omega (arith, p, f.few) in
            subst (λ (n : ℕ). length (filter (is_between n h) (with_wait ws w)) ≤ agents) (eqb-true w.waiter.member m t) q
        | inr n ↦ few_of_others (filter kept ws) w m h agents n (omega (arith, count-filter kept (is_between m h) ws, k.few m h))
      ];
      fits = k.fits;
    }

pub room_to_add : (ws : List Wait) (agents room : ℕ) (w : Wait) → IsKept (with_wait ws w) agents room → length (filter (λ old. not (is_replaced w old)) ws) < room
room_to_add ws agents room w k =
    let l = length_of_kept (with_wait ws w) agents k.ranges k.few in
    omega (arith, l, length_push (filter (λ old. not (is_replaced w old)) ws) w, k.fits)
