-- A page set put into a mask, or taken out.
use Rattle.std.proofs.Common.{◌≡◌, ◌≢◌, ℕ, zero, suc, ◌+◌, ◌-◌, ◌*◌, ◌/◌, ◌%◌, ◌^◌, ◌<◌, ◌≤◌, min, Bool, true, false, not, ◌&&◌, ◌||◌, true≢false, inl, inr, List, length, refl, sym, ap, subst, ◌∙◌, arith, nat_eq, slice_set, replicate}
use Rattle.std.specs.Prelude.{nat_lt, slice_index, bit_or, bit_and}
use Rattle.std.specs.Int.{bit_at, w128}
use Rattle.std.specs.List.{list_any, range_with_len}
use Rattle.std.proofs.lemmas.Bool.{cases_eq, cases_lt, eqb-true, eq-eqb, ne_eqb}
use Rattle.std.proofs.lemmas.List.{get_or-set_same, get_or-set_other, length-set, length-replicate}
use Rattle.std.proofs.lemmas.Nat.Bits.{bit_at_set_same, bit_at_set_other, bit_at_clear_same, bit_at_clear_other, bit_at_and, bit_at-zero, bit_at-lt, bit_at_above, same_from_bits, shr_and_one}
use Rattle.member_pool.specs.declared.sets.SetMask.{SetMask}
use Rattle.member_pool.specs.Marks.{is_page_set}
use Rattle.member_pool.specs.Sets.{has_set, any_set}
use Rattle.member_pool.specs.Counts.{AreCounted}

pub page_set : (set : ℕ) → 1 ≤ set → set ≤ 128 → is_page_set set ≡ true
page_set set low high = grind arith

pub no_page_set_low : (set : ℕ) → set < 1 → is_page_set set ≡ false
no_page_set_low set low = grind arith

pub no_page_set_high : (set : ℕ) → 128 < set → is_page_set set ≡ false
no_page_set_high set high = grind arith

within : (s : ℕ) → is_page_set s ≡ true → (1 ≤ s) × (s ≤ 128)
within s h = (grind arith, grind arith)

pub tested : (sets : SetMask) (set : ℕ) → is_page_set set ≡ true → nat_eq (bit_and (sets.bits / 2 ^ (set - 1)) 1) 1 ≡ has_set sets set
tested sets set page = ap (λ n. nat_eq n 1) (shr_and_one sets.bits (set - 1)) ∙ sym (ap (λ b. b && nat_eq (bit_at sets.bits (set - 1)) 1) page)

pub outside : (sets : SetMask) (set : ℕ) → is_page_set set ≡ false → has_set sets set ≡ false
outside sets set page = ap (λ b. b && nat_eq (bit_at sets.bits (set - 1)) 1) page

pub put_in : (sets : SetMask) (set s : ℕ) → 1 ≤ set → set ≤ 128
    → has_set (record { bits = bit_or sets.bits (1 * 2 ^ (set - 1) % 340282366920938463463374607431768211456) }) s ≡ ((is_page_set set && nat_eq s set) || has_set sets s)
put_in sets set s low high =
    let now : ℕ = bit_or sets.bits (1 * 2 ^ (set - 1) % 340282366920938463463374607431768211456) in
    let page = page_set set low high in
    elim (cases_eq s set) [
      | inl e ↦ subst (λ k. has_set (record { bits = now }) k ≡ ((is_page_set set && nat_eq k set) || has_set sets k)) (sym e)
          (ap (λ b. b && nat_eq (bit_at now (set - 1)) 1) page ∙ ap (λ n. nat_eq n 1) (bit_at_set_same w128 sets.bits (set - 1) (omega (arith, low, high)))
          ∙ sym (ap (λ b. (b && nat_eq set set) || has_set sets set) page ∙ ap (λ b. b || has_set sets set) (eq-eqb set set refl)))
      | inr ne ↦ same_else (is_page_set s) refl ne page
          ∙ sym (ap (λ b. (is_page_set set && b) || has_set sets s) (ne_eqb s set ne) ∙ ap (λ b. (b && false) || has_set sets s) page)
    ]
  where
    same_else : (b : Bool) → is_page_set s ≡ b → s ≢ set → is_page_set set ≡ true
        → has_set (record { bits = bit_or sets.bits (1 * 2 ^ (set - 1) % 340282366920938463463374607431768211456) }) s ≡ has_set sets s
    same_else false h ne page = outside (record { bits = bit_or sets.bits (1 * 2 ^ (set - 1) % 340282366920938463463374607431768211456) }) s h ∙ sym (outside sets s h)
    same_else true h ne page =
        let w = within s h in
        ap (λ n. is_page_set s && nat_eq n 1) (bit_at_set_other w128 sets.bits (set - 1) (omega (arith, low, high)) (s - 1) (λ e. ne (omega (arith, e, w.0, low))))

pub taken_out : (sets : SetMask) (set s : ℕ) → 1 ≤ set → set ≤ 128
    → has_set (record { bits = bit_and sets.bits (340282366920938463463374607431768211455 - 1 * 2 ^ (set - 1) % 340282366920938463463374607431768211456) }) s ≡ (not (nat_eq s set) && has_set sets s)
taken_out sets set s low high =
    let now : ℕ = bit_and sets.bits (340282366920938463463374607431768211455 - 1 * 2 ^ (set - 1) % 340282366920938463463374607431768211456) in
    let page = page_set set low high in
    elim (cases_eq s set) [
      | inl e ↦ subst (λ k. has_set (record { bits = now }) k ≡ (not (nat_eq k set) && has_set sets k)) (sym e)
          (ap (λ b. b && nat_eq (bit_at now (set - 1)) 1) page ∙ ap (λ n. nat_eq n 1) (bit_at_clear_same w128 sets.bits (set - 1) (omega (arith, low, high)))
          ∙ sym (ap (λ b. not b && has_set sets set) (eq-eqb set set refl)))
      | inr ne ↦ same_else (is_page_set s) refl ne ∙ sym (ap (λ b. not b && has_set sets s) (ne_eqb s set ne))
    ]
  where
    same_else : (b : Bool) → is_page_set s ≡ b → s ≢ set
        → has_set (record { bits = bit_and sets.bits (340282366920938463463374607431768211455 - 1 * 2 ^ (set - 1) % 340282366920938463463374607431768211456) }) s ≡ has_set sets s
    same_else false h ne = outside (record { bits = bit_and sets.bits (340282366920938463463374607431768211455 - 1 * 2 ^ (set - 1) % 340282366920938463463374607431768211456) }) s h ∙ sym (outside sets s h)
    same_else true h ne =
        let w = within s h in
        ap (λ n. is_page_set s && nat_eq n 1) (bit_at_clear_other w128 sets.bits (set - 1) (omega (arith, low, high)) (s - 1) (omega (arith, w.0, w.1)) (λ e. ne (omega (arith, e, w.0, low))))

pub never_in : (sets : SetMask) (set s : ℕ) → is_page_set set ≡ false → has_set sets s ≡ (not (nat_eq s set) && has_set sets s)
never_in sets set s page =
    elim (cases_eq s set) [
      | inl e ↦ subst (λ k. has_set sets k ≡ (not (nat_eq k set) && has_set sets k)) (sym e) (outside sets set page ∙ sym (ap (λ b. not b && has_set sets set) (eq-eqb set set refl)))
      | inr ne ↦ sym (ap (λ b. not b && has_set sets s) (ne_eqb s set ne))
    ]

-- ---- the counts

above : (m : ℕ) → nat_lt 0 (m + 1) ≡ true
above m = grind arith

pub positive : (n : ℕ) → (n ≡ 0 → ⊥) → nat_lt 0 n ≡ true
positive n h = grind arith

pub positive_before : (n k : ℕ) → k ≡ n - 1 → (k ≡ 0 → ⊥) → nat_lt 0 n ≡ true
positive_before n k is h = let less : k ≢ 0 = h in positive n (λ z. h (omega (arith, is, z)))

one_not : (n : ℕ) → n ≡ 1 → n ≡ 0 → ⊥
one_not n a b = omega (arith, a, b)

zero_at : (k s : ℕ) → slice_index (replicate k 0) s ≡ 0
zero_at zero s = refl
zero_at (suc k) zero = refl
zero_at (suc k) (suc s) = zero_at k s

pub counted_new : (counts : List ℕ) (sets : SetMask) → counts ≡ replicate 129 0 → ((s : ℕ) → has_set sets s ≡ false) → AreCounted counts sets
counted_new counts sets is none = record {
  all = ap length is ∙ length-replicate {A = ℕ} 129 0;
  some = λ s. none s ∙ sym (ap (λ v. is_page_set s && nat_lt 0 v) (ap (λ c. slice_index c s) is ∙ zero_at 129 s) ∙ never (is_page_set s));
}
  where
    never : (x : Bool) → (x && false) ≡ false
    never true = refl
    never false = refl

module _ (counts : List ℕ) (sets : SetMask) (counted : AreCounted counts sets) (set : ℕ) (few : set < 129) where
  count_at : (v : ℕ) → slice_index (slice_set counts set v) set ≡ v
  count_at v = get_or-set_same counts set v 0 (omega (arith, few, counted.all))

  count_else : (s v : ℕ) → s ≢ set → slice_index (slice_set counts set v) s ≡ slice_index counts s
  count_else s v ne = get_or-set_other counts set s v 0 ne

  either_way : (x y : Bool) → ((x && true) || (x && y)) ≡ (x && true)
  either_way true true = refl
  either_way true false = refl
  either_way false y = refl

  pub counted_more : (n : ℕ) (new : SetMask) → ((s : ℕ) → has_set new s ≡ ((is_page_set set && nat_eq s set) || has_set sets s)) → AreCounted (slice_set counts set (n + 1)) new
  counted_more n new put = record {
    all = length-set counts set (n + 1) ∙ counted.all;
    some = λ s. put s ∙ elim (cases_eq s set) [
      | inl e ↦ subst (λ k. ((is_page_set set && nat_eq k set) || has_set sets k) ≡ (is_page_set k && nat_lt 0 (slice_index (slice_set counts set (n + 1)) k))) (sym e)
          (ap (λ b. (is_page_set set && b) || has_set sets set) (eq-eqb set set refl) ∙ ap (λ b. (is_page_set set && true) || b) (counted.some set)
          ∙ either_way (is_page_set set) (nat_lt 0 (slice_index counts set))
          ∙ sym (ap (λ v. is_page_set set && nat_lt 0 v) (count_at (n + 1)) ∙ ap (λ b. is_page_set set && b) (above n)))
      | inr ne ↦ ap (λ b. (is_page_set set && b) || has_set sets s) (ne_eqb s set ne) ∙ nothing (is_page_set set) (has_set sets s) ∙ counted.some s
          ∙ sym (ap (λ v. is_page_set s && nat_lt 0 v) (count_else s (n + 1) ne))
    ];
  }
    where
      nothing : (x y : Bool) → ((x && false) || y) ≡ y
      nothing true y = refl
      nothing false y = refl

  pub counted_none : (new : SetMask) → ((s : ℕ) → has_set new s ≡ (not (nat_eq s set) && has_set sets s)) → AreCounted (slice_set counts set 0) new
  counted_none new taken = record {
    all = length-set counts set 0 ∙ counted.all;
    some = λ s. taken s ∙ elim (cases_eq s set) [
      | inl e ↦ subst (λ k. (not (nat_eq k set) && has_set sets k) ≡ (is_page_set k && nat_lt 0 (slice_index (slice_set counts set 0) k))) (sym e)
          (ap (λ b. not b && has_set sets set) (eq-eqb set set refl) ∙ sym (ap (λ v. is_page_set set && nat_lt 0 v) (count_at 0) ∙ never (is_page_set set)))
      | inr ne ↦ ap (λ b. not b && has_set sets s) (ne_eqb s set ne) ∙ counted.some s ∙ sym (ap (λ v. is_page_set s && nat_lt 0 v) (count_else s 0 ne))
    ];
  }
    where
      never : (x : Bool) → (x && false) ≡ false
      never true = refl
      never false = refl

  pub counted_some : (left : ℕ) → nat_lt 0 left ≡ true → nat_lt 0 (slice_index counts set) ≡ true → AreCounted (slice_set counts set left) sets
  counted_some left more was = record {
    all = length-set counts set left ∙ counted.all;
    some = λ s. counted.some s ∙ elim (cases_eq s set) [
      | inl e ↦ subst (λ k. (is_page_set k && nat_lt 0 (slice_index counts k)) ≡ (is_page_set k && nat_lt 0 (slice_index (slice_set counts set left) k))) (sym e)
          (ap (λ b. is_page_set set && b) was ∙ sym (ap (λ v. is_page_set set && nat_lt 0 v) (count_at left) ∙ ap (λ b. is_page_set set && b) more))
      | inr ne ↦ sym (ap (λ v. is_page_set s && nat_lt 0 v) (count_else s left ne))
    ];
  }

-- ---- masks that meet

any_found : (p : ℕ → Bool) (a k : ℕ) → list_any p (range_with_len a k) ≡ true → (s : ℕ) × (a ≤ s) × (s < a + k) × (p s ≡ true)
any_found p a zero h = absurd (true≢false (sym h))
any_found p a (suc k) h = by (p a) refl (any_found p (a + 1) k)
  where
    by : (b : Bool) → p a ≡ b → (list_any p (range_with_len (a + 1) k) ≡ true → (s : ℕ) × (a + 1 ≤ s) × (s < a + 1 + k) × (p s ≡ true)) → (s : ℕ) × (a ≤ s) × (s < a + suc k) × (p s ≡ true)
    by true e rest = (a, omega arith, omega arith, e)
    by false e rest = let r = rest (sym (ap (λ b. b || list_any p (range_with_len (a + 1) k)) e) ∙ h) in (r.0, omega (arith, r.1), omega (arith, r.2), r.3)

none_of : (p : ℕ → Bool) (a k s : ℕ) → list_any p (range_with_len a k) ≡ false → a ≤ s → s < a + k → p s ≡ false
none_of p a zero s h low high = absurd (omega (arith, low, high))
none_of p a (suc k) s h low high =
    let here : p a ≡ false = grind arith in
    let rest : list_any p (range_with_len (a + 1) k) ≡ false = grind arith in
    elim (cases_eq s a) [
      | inl e ↦ ap p e ∙ here
      | inr ne ↦ none_of p (a + 1) k s rest (omega (arith, low, ne)) (omega (arith, high))
    ]

and_true : (a b : Bool) → (a && b) ≡ true → (a ≡ true) × (b ≡ true)
and_true true b h = (refl, h)
and_true false b h = absurd (true≢false (sym h))

least_zero : (x y : ℕ) → x < 2 → y < 2 → (nat_eq x 1 && nat_eq y 1) ≡ false → min x y ≡ 0
least_zero x y p q h = grind arith

meets_below : (a b : SetMask) (k : ℕ) → k ≤ 128 → a.bits < 2 ^ k → not (nat_eq (bit_and a.bits b.bits) 0) ≡ list_any (λ s. has_set a s && has_set b s) (range_with_len 1 k)
meets_below a b k few small = by (list_any (λ s. has_set a s && has_set b s) (range_with_len 1 k)) refl
  where
    by : (t : Bool) → list_any (λ s. has_set a s && has_set b s) (range_with_len 1 k) ≡ t → not (nat_eq (bit_and a.bits b.bits) 0) ≡ list_any (λ s. has_set a s && has_set b s) (range_with_len 1 k)
    by true h =
        let r = any_found (λ s. has_set a s && has_set b s) 1 k h in
        let both = and_true (has_set a r.0) (has_set b r.0) r.3 in
        let x = and_true (is_page_set r.0) (nat_eq (bit_at a.bits (r.0 - 1)) 1) both.0 in
        let y = and_true (is_page_set r.0) (nat_eq (bit_at b.bits (r.0 - 1)) 1) both.1 in
        let bit : bit_at (bit_and a.bits b.bits) (r.0 - 1) ≡ 1 =
        bit_at_and a.bits b.bits (r.0 - 1) ∙ (λ i. min (eqb-true (bit_at a.bits (r.0 - 1)) 1 x.1 i) (eqb-true (bit_at b.bits (r.0 - 1)) 1 y.1 i)) in
        ap not (ne_eqb (bit_and a.bits b.bits) 0 (λ e. one_not (bit_at (bit_and a.bits b.bits) (r.0 - 1)) bit (ap (λ n. bit_at n (r.0 - 1)) e ∙ bit_at-zero (r.0 - 1)))) ∙ sym h
    by false h = ap not (eq-eqb (bit_and a.bits b.bits) 0 (same_from_bits (bit_and a.bits b.bits) 0 (λ i. clear i ∙ sym (bit_at-zero i)))) ∙ sym h
      where
        clear : (i : ℕ) → bit_at (bit_and a.bits b.bits) i ≡ 0
        clear i = bit_at_and a.bits b.bits i ∙ elim (cases_lt i k) [
          | inl lt ↦ least_zero (bit_at a.bits i) (bit_at b.bits i) (bit_at-lt a.bits i) (bit_at-lt b.bits i) (bits_of i lt)
          | inr le ↦ ap (λ x. min x (bit_at b.bits i)) (bit_at_above a.bits k i small le) ∙ least i
        ]
          where
            least : (j : ℕ) → min 0 (bit_at b.bits j) ≡ 0
            least j = omega arith

            bits_of : (j : ℕ) → j < k → (nat_eq (bit_at a.bits j) 1 && nat_eq (bit_at b.bits j) 1) ≡ false
            bits_of j lt =
                let none = none_of (λ s. has_set a s && has_set b s) 1 k (j + 1) h (omega arith) (omega (arith, lt)) in
                let page : is_page_set (j + 1) ≡ true = page_set (j + 1) (omega arith) (omega (arith, lt, few)) in
                let back : j + 1 - 1 ≡ j = omega arith in
                sym ((λ i. (page i && nat_eq (bit_at a.bits (back i)) 1) && (page i && nat_eq (bit_at b.bits (back i)) 1))) ∙ none

pub meets_is : (a b : SetMask) → a.bits < 2 ^ 128 → not (nat_eq (bit_and a.bits b.bits) 0) ≡ any_set (λ s. has_set a s && has_set b s)
unfolding any_set
meets_is a b small = meets_below a b 128 (omega arith) small
