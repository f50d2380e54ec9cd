-- How many transactions of a member wait.
use Rattle.std.proofs.Common.{◌≡◌, ◌∙◌, refl, sym, ap, ℕ, zero, suc, ◌+◌, ◌<◌, ◌≤◌, ◌==◌, ◌&&◌, ◌||◌, Bool, true, false, not, List, [], ◌∷◌, ◌++◌, length, filter, drop, get_or, inl, inr, arith, add-one, if◌then◌else◌}
use Rattle.std.specs.List.{list_any, list_all}
use Rattle.std.proofs.lemmas.Bool.{cases_Bool, and_parts, and_from, or_parts, or_left, or_right, not_from_true, not_from_false}
use Rattle.std.proofs.lemmas.Bool.Decides.{nat_tests}
use Rattle.std.proofs.lemmas.List.Folds.{list_all-append}
use Rattle.ds_base.specs.declared.names.TranId.{TranId}
use Rattle.list_structure.specs.declared.wait.Wait.{Wait}
use Rattle.list_structure.specs.Flags.{same_tran}
use Rattle.list_structure.specs.Waits.{is_replaced, is_among, FitsWaits, with_wait}
use Rattle.list_structure.specs.Waiters.{is_beside, waits_in, waiters_beside}
use Rattle.list_structure.proofs.Room.{or_right_true, others, still_among, fewer, all_in_filter}

-- ---- no list that has the waiters is shorter

still_one : (t u : TranId) (ts : List TranId) (w : Wait) → same_tran u w.waiter ≡ false
    → (not (is_beside t w) || is_among ts w.waiter) ≡ true → (not (is_beside t w) || is_among (others ts u) w.waiter) ≡ true
still_one t u ts w d c = elim (cases_Bool (is_beside t w)) [
  | inl y ↦
      let i : is_among ts w.waiter ≡ true = or_right_true (not (is_beside t w)) (is_among ts w.waiter) (not_from_true (is_beside t w) y) c in
      or_right (not (is_beside t w)) (is_among (others ts u) w.waiter) (still_among ts u w.waiter d i)
  | inr n ↦ or_left (not (is_beside t w)) (is_among (others ts u) w.waiter) (not_from_false (is_beside t w) n)
]

still : (t u : TranId) (ts : List TranId) (ws : List Wait) → waits_in ws u ≡ false
    → list_all (λ w. not (is_beside t w) || is_among ts w.waiter) ws ≡ true → list_all (λ w. not (is_beside t w) || is_among (others ts u) w.waiter) ws ≡ true
still t u ts [] n c = refl
still t u ts (w ∷ ws) n c =
    let m = or_parts (same_tran u w.waiter) (waits_in ws u) n in
    let k = and_parts (not (is_beside t w) || is_among ts w.waiter) (list_all (λ x. not (is_beside t x) || is_among ts x.waiter) ws) c in
    and_from (not (is_beside t w) || is_among (others ts u) w.waiter) (list_all (λ x. not (is_beside t x) || is_among (others ts u) x.waiter) ws)
    (still_one t u ts w m.0 k.0) (still t u ts ws m.1 k.1)

few_beside : (t : TranId) (ws : List Wait) (ts : List TranId) → list_all (λ w. not (is_beside t w) || is_among ts w.waiter) ws ≡ true → length (waiters_beside t ws) ≤ length ts
few_beside t [] ts c = omega arith
few_beside t (w ∷ ws) ts c =
    let k = and_parts (not (is_beside t w) || is_among ts w.waiter) (list_all (λ x. not (is_beside t x) || is_among ts x.waiter) ws) c in
    elim (cases_Bool (is_beside t w && not (waits_in ws w.waiter))) [
      | inl y ↦
          let b = and_parts (is_beside t w) (not (waits_in ws w.waiter)) y in
          let i : is_among ts w.waiter ≡ true = or_right_true (not (is_beside t w)) (is_among ts w.waiter) (not_from_true (is_beside t w) b.0) k.0 in
          let n : waits_in ws w.waiter ≡ false = grind (arith, b.1) in
          let r = few_beside t ws (others ts w.waiter) (still t w.waiter ts ws n k.1) in
          let f = fewer ts w.waiter i in
          grind (arith, y, r, f)
      | inr n ↦ let r = few_beside t ws ts k.1 in grind (arith, n, r)
    ]

beside_not_replaced : (w v : Wait) → (not (is_beside w.waiter v) || not (is_replaced w v)) ≡ true
beside_not_replaced w v = elim (cases_Bool (same_tran w.waiter v.waiter)) [ inl y ↦ grind (arith, y) | inr n ↦ grind (arith, n) ]

beside_member : (t : TranId) (v : Wait) → is_beside t v ≡ true → ((v.waiter.member == t.member) ≡ true) × (same_tran t v.waiter ≡ false)
beside_member t v e = let k = and_parts (v.waiter.member == t.member) (not (same_tran t v.waiter)) e in (k.0, grind (arith, k.1))

cover_one : (t : TranId) (ts : List TranId) (v : Wait) → (not (v.waiter.member == t.member) || is_among ts v.waiter) ≡ true → (not (is_beside t v) || is_among (others ts t) v.waiter) ≡ true
cover_one t ts v e = elim (cases_Bool (is_beside t v)) [
  | inl y ↦
      let b = beside_member t v y in
      let i : is_among ts v.waiter ≡ true = or_right_true (not (v.waiter.member == t.member)) (is_among ts v.waiter) (not_from_true (v.waiter.member == t.member) b.0) e in
      or_right (not (is_beside t v)) (is_among (others ts t) v.waiter) (still_among ts t v.waiter b.1 i)
  | inr n ↦ or_left (not (is_beside t v)) (is_among (others ts t) v.waiter) (not_from_false (is_beside t v) n)
]

cover_rest : (w : Wait) (ts : List TranId) (ws : List Wait) → list_all (λ v. not (v.waiter.member == w.waiter.member) || is_among ts v.waiter) (filter (λ old. not (is_replaced w old)) ws) ≡ true
    → list_all (λ v. not (is_beside w.waiter v) || is_among (others ts w.waiter) v.waiter) ws ≡ true
cover_rest w ts [] e = refl
cover_rest w ts (v ∷ ws) e = elim (cases_Bool (is_replaced w v)) [
  | inl y ↦
      let ih = cover_rest w ts ws in
      let b = beside_not_replaced w v in grind (arith, y, ih, b, e)
  | inr n ↦
      let ih = cover_rest w ts ws in
      let one = cover_one w.waiter ts v in grind (arith, n, ih, one, e)
]

same_itself : (t : TranId) → same_tran t t ≡ true
same_itself t = grind (arith, nat_tests)

pub room_needed : (ws : List Wait) (w : Wait) (agents : ℕ) → FitsWaits (with_wait ws w) w.waiter.member agents → length (waiters_beside w.waiter ws) < agents
room_needed ws w agents f =
    let P : Wait → Bool = λ v. not (v.waiter.member == w.waiter.member) || is_among f.waiters v.waiter in
    let k = and_parts (list_all P (filter (λ old. not (is_replaced w old)) ws)) (list_all P (w ∷ [])) (sym (list_all-append P (filter (λ old. not (is_replaced w old)) ws) (w ∷ [])) ∙ f.all) in
    let i : is_among f.waiters w.waiter ≡ true = let h : list_all P (w ∷ []) ≡ true = k.1 in grind (arith, nat_tests, h) in
    let r = few_beside w.waiter ws (others f.waiters w.waiter) (cover_rest w f.waiters ws k.0) in
    omega (arith, r, fewer f.waiters w.waiter i, f.few)

-- ---- the waiters are such a list

same_waits : (u x : TranId) (ws : List Wait) → same_tran u x ≡ true → waits_in ws x ≡ waits_in ws u
same_waits u x [] e = refl
same_waits u x (w ∷ ws) e = let ih = same_waits u x ws e in let one : same_tran x w.waiter ≡ same_tran u w.waiter = grind (arith, nat_tests, e) in grind (arith, ih, one)

same_beside : (t u : TranId) (v : Wait) → same_tran u v.waiter ≡ true → (u.member == t.member) ≡ true → same_tran t u ≡ false → is_beside t v ≡ true
same_beside t u v e m n = grind (arith, nat_tests, e, m, n)

among_beside : (t u : TranId) (ws : List Wait) → (u.member == t.member) ≡ true → same_tran t u ≡ false → waits_in ws u ≡ true → is_among (waiters_beside t ws) u ≡ true
among_beside t u [] m n e = cc
among_beside t u (v ∷ ws) m n e = let ih = among_beside t u ws m n in elim (cases_Bool (same_tran u v.waiter)) [
  | inl y ↦
      let b = same_beside t u v y m n in
      let s = same_waits u v.waiter ws y in
      elim (cases_Bool (waits_in ws v.waiter)) [ inl i ↦ grind (arith, ih, b, s, i) | inr o ↦ grind (arith, b, o, y) ]
  | inr d ↦
      let i : is_among (waiters_beside t ws) u ≡ true = ih (grind (arith, d, e)) in
      elim (cases_Bool (is_beside t v && not (waits_in ws v.waiter))) [ inl b ↦ grind (arith, b, i) | inr o ↦ grind (arith, o, i) ]
]

turned : (t u : TranId) → same_tran t u ≡ same_tran u t
turned t u = grind (arith, nat_tests)

among_one : (t : TranId) (ws : List Wait) (v : Wait) → waits_in ws v.waiter ≡ true → (not (v.waiter.member == t.member) || is_among (t ∷ waiters_beside t ws) v.waiter) ≡ true
among_one t ws v e = elim (cases_Bool (v.waiter.member == t.member)) [
  | inl m ↦ elim (cases_Bool (same_tran t v.waiter)) [
    | inl y ↦ let s = turned t v.waiter in grind (arith, y, s)
    | inr n ↦ let i = among_beside t v.waiter ws m n e in grind (arith, i)
  ]
  | inr o ↦ or_left (not (v.waiter.member == t.member)) (is_among (t ∷ waiters_beside t ws) v.waiter) (not_from_false (v.waiter.member == t.member) o)
]

among_all : (t : TranId) (ws xs : List Wait) → ((v : Wait) → waits_in xs v.waiter ≡ true → waits_in ws v.waiter ≡ true)
    → list_all (λ v. not (v.waiter.member == t.member) || is_among (t ∷ waiters_beside t ws) v.waiter) xs ≡ true
among_all t ws [] h = refl
among_all t ws (x ∷ xs) h =
    let here = among_one t ws x (h x (let s = same_itself x.waiter in or_left (same_tran x.waiter x.waiter) (waits_in xs x.waiter) s)) in
    let rest = among_all t ws xs (λ v e. h v (or_right (same_tran v.waiter x.waiter) (waits_in xs v.waiter) e)) in
    and_from (not (x.waiter.member == t.member) || is_among (t ∷ waiters_beside t ws) x.waiter) (list_all (λ v. not (v.waiter.member == t.member) || is_among (t ∷ waiters_beside t ws) v.waiter) xs) here rest

pub room_there : (ws : List Wait) (w : Wait) (agents : ℕ) → length (waiters_beside w.waiter ws) < agents → FitsWaits (with_wait ws w) w.waiter.member agents
room_there ws w agents l =
    let P : Wait → Bool = λ v. not (v.waiter.member == w.waiter.member) || is_among (w.waiter ∷ waiters_beside w.waiter ws) v.waiter in
    let s = same_itself w.waiter in
    let last : list_all P (w ∷ []) ≡ true = grind (arith, s) in
    record {
      waiters = w.waiter ∷ waiters_beside w.waiter ws;
      few = omega (arith, l);
      all = list_all-append P (filter (λ old. not (is_replaced w old)) ws) (w ∷ [])
          ∙ and_from (list_all P (filter (λ old. not (is_replaced w old)) ws)) (list_all P (w ∷ [])) (all_in_filter (λ old. not (is_replaced w old)) P ws (among_all w.waiter ws ws (λ v e. e))) last;
    }

-- ---- one pair after the other

pub beside_step : (t : TranId) (ws : List Wait) (i : ℕ) (d : Wait) → i < length ws
    → waiters_beside t (drop i ws) ≡ (if is_beside t (get_or ws i d) && not (waits_in (drop (i + 1) ws) (get_or ws i d).waiter) then (get_or ws i d).waiter ∷ waiters_beside t (drop (i + 1) ws) else waiters_beside t (drop (i + 1) ws))
beside_step t [] i d h = absurd (omega arith)
beside_step t (x ∷ xs) zero d h = refl
beside_step t (x ∷ xs) (suc i) d h = let ih = beside_step t xs i d (omega arith) in rw add-one (rw add-one at ih)
