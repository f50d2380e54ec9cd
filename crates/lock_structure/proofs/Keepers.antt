-- The lowest member whose retained record is in the way.
use Rattle.std.proofs.Common.{◌≡◌, ℕ, zero, suc, ◌<◌, ◌≤◌, Bool, true, false, not, List, [], ◌∷◌, length, get_or, refl, sym, ◌∙◌, ap, subst, arith, if◌then◌else◌, ◌==◌, nat_le, inl, inr, ◌⊎◌}
use Rattle.std.specs.Prelude.{Option, Some, None, ◌&&◌, ◌||◌, IfSome}
use Rattle.std.proofs.lemmas.Bool.{cases_Bool}
use Rattle.std.proofs.lemmas.Bool.Decides.{nat_tests}
use Rattle.ds_base.specs.Ids.{IsMember}
use Rattle.lock_names.specs.Given.{Name}
use Rattle.lock_names.specs.declared.mode.Mode.{Mode}
use Rattle.lock_names.specs.Entries.{entry_number}
use Rattle.lock_names.specs.Names.{same_name}
use Rattle.lock_structure.specs.declared.chain.Record.{Record}
use Rattle.lock_structure.specs.declared.chain.Held.{Held}
use Rattle.lock_structure.specs.Records.{record_in}
use Rattle.lock_structure.specs.Buckets.{IsUnique, IsHashed, flat, is_keeping, lower, lowest_in}
use Rattle.lock_structure.specs.Locks.{IsLowest, is_kept_out}
use Rattle.lock_structure.proofs.Chains.{same_record}
use Rattle.lock_structure.proofs.Hashed.{hashed_find, place_bound}

abbrev pub is_kept : ℕ → Name → Mode → List Held → ℕ → Bool
is_kept m n mode hs k = not (k == m) && is_kept_out (record_in hs k n) mode

none_kept : (m : ℕ) (n : Name) (mode : Mode) (k : ℕ) → is_kept m n mode [] k ≡ false
none_kept m n mode k = elim (cases_Bool (k == m)) [ inl y ↦ grind (arith, y) | inr f ↦ grind (arith, f) ]

head_kept : (m : ℕ) (n : Name) (mode : Mode) (h : Held) (hs : List Held) (k : ℕ) → record_in hs h.member h.name ≡ None
    → is_kept m n mode (h ∷ hs) k ≡ ((is_keeping m n mode h && (h.member == k)) || is_kept m n mode hs k)
head_kept m n mode h hs k none =
    let one = same_record hs h.member h.name n in
    elim (cases_Bool (same_name h.name n)) [
      | inl y ↦ elim (cases_Bool (h.member == k)) [
        | inl z ↦
            let e : h.member ≡ k = grind (arith, nat_tests, z) in
            let o : record_in hs k n ≡ None = subst (λ (q : ℕ). record_in hs q n ≡ None) e (sym (one y) ∙ none) in
            grind (arith, nat_tests, y, z, e, o)
        | inr f ↦ grind (arith, y, f)
      ]
      | inr f ↦ grind (arith, f)
    ]

lower_none : (best : Option ℕ) (k : ℕ) → lower best k ≡ None → best ≡ None
lower_none None k e = refl
lower_none (Some j) k e = elim (cases_Bool (nat_le j k)) [ inl y ↦ grind (arith, y, e) | inr f ↦ grind (arith, f, e) ]

never_none : (best : Option ℕ) (k : ℕ) → lower best k ≡ None → (true ≡ false)
never_none None k e = cc
never_none (Some j) k e = elim (cases_Bool (nat_le j k)) [ inl y ↦ grind (arith, y, e) | inr f ↦ grind (arith, f, e) ]

lower_is : (best : Option ℕ) (x k : ℕ) → lower best x ≡ Some k → (best ≡ Some k) ⊎ (x ≡ k)
lower_is None x k e = inr (grind (arith, e))
lower_is (Some j) x k e = elim (cases_Bool (nat_le j x)) [ inl y ↦ inl (grind (arith, y, e)) | inr f ↦ inr (grind (arith, f, e)) ]

lower_first : (best : Option ℕ) (x j k : ℕ) → ((i : ℕ) → lower best x ≡ Some i → k ≤ i) → best ≡ Some j → k ≤ j
lower_first None x j k h e = cc
lower_first (Some i) x j k h e = elim (cases_Bool (nat_le i x)) [
  | inl y ↦ let l = h i (grind (arith, y)) in grind (arith, e, l)
  | inr f ↦ let l = h x (grind (arith, f)) in grind (arith, nat_tests, e, f, l)
]

lower_second : (best : Option ℕ) (x k : ℕ) → ((i : ℕ) → lower best x ≡ Some i → k ≤ i) → k ≤ x
lower_second None x k h = h x refl
lower_second (Some i) x k h = elim (cases_Bool (nat_le i x)) [
  | inl y ↦ let l = h i (grind (arith, y)) in grind (arith, nat_tests, y, l)
  | inr f ↦ h x (grind (arith, f))
]

none_low : (m : ℕ) (n : Name) (mode : Mode) (hs : List Held) (best : Option ℕ) → IsUnique hs → lowest_in m n mode hs best ≡ None → (best ≡ None) × ((k : ℕ) → is_kept m n mode hs k ≡ false)
none_low m n mode [] best u e = (e, λ k. none_kept m n mode k)
none_low m n mode (h ∷ hs) best u e =
    let ih = none_low m n mode hs (if is_keeping m n mode h then lower best h.member else best) u.1 e in
    elim (cases_Bool (is_keeping m n mode h)) [
      | inl y ↦ let z = never_none best h.member (grind (arith, y, ih.0)) in cc
      | inr f ↦ (grind (arith, f, ih.0), λ k. let hd = head_kept m n mode h hs k u.0 in let r = ih.1 k in grind (arith, hd, f, r))
    ]

some_low : (m : ℕ) (n : Name) (mode : Mode) (hs : List Held) (best : Option ℕ) (k : ℕ) → IsUnique hs → lowest_in m n mode hs best ≡ Some k → (best ≡ Some k) ⊎ (is_kept m n mode hs k ≡ true)
some_low m n mode [] best k u e = inl e
some_low m n mode (h ∷ hs) best k u e =
    let ih = some_low m n mode hs (if is_keeping m n mode h then lower best h.member else best) k u.1 e in
    let hd = head_kept m n mode h hs k u.0 in
    elim ih [
      | inl b ↦ elim (cases_Bool (is_keeping m n mode h)) [
        | inl y ↦ elim (lower_is best h.member k (grind (arith, y, b))) [ inl s ↦ inl s | inr q ↦ inr (grind (arith, nat_tests, hd, y, q)) ]
        | inr f ↦ inl (grind (arith, f, b))
      ]
      | inr p ↦ inr (elim (cases_Bool (is_keeping m n mode h && (h.member == k))) [ inl y ↦ grind (arith, hd, y) | inr f ↦ grind (arith, hd, f, p) ])
    ]

least_low : (m : ℕ) (n : Name) (mode : Mode) (hs : List Held) (best : Option ℕ) (k : ℕ) → IsUnique hs → lowest_in m n mode hs best ≡ Some k
    → (j : ℕ) → (best ≡ Some j → k ≤ j) × (is_kept m n mode hs j ≡ true → k ≤ j)
least_low m n mode [] best k u e j = (λ b. let s : Some j ≡ Some k = sym b ∙ e in grind (arith, s), λ p. let f = none_kept m n mode j in grind (arith, p, f))
least_low m n mode (h ∷ hs) best k u e j =
    let ih = least_low m n mode hs (if is_keeping m n mode h then lower best h.member else best) k u.1 e in
    let hd = head_kept m n mode h hs j u.0 in
    elim (cases_Bool (is_keeping m n mode h)) [
      | inl y ↦
          let below : (i : ℕ) → lower best h.member ≡ Some i → k ≤ i = λ i q. (ih i).0 (grind (arith, y, q)) in
          let second = lower_second best h.member k below in (
            λ b. lower_first best h.member j k below b,
            λ p. elim (cases_Bool (h.member == j)) [ inl z ↦ grind (arith, nat_tests, z, second) | inr o ↦ (ih j).1 (grind (arith, hd, p, o)) ],
          )
      | inr f ↦ (λ b. (ih j).0 (grind (arith, f, b)), λ p. (ih j).1 (grind (arith, hd, f, p)))
    ]

is_lowest : (m : ℕ) (n : Name) (mode : Mode) (hs : List Held) (r : Option ℕ) → IsUnique hs → lowest_in m n mode hs None ≡ r → IfSome r IsMember → IsLowest (is_kept m n mode hs) r
is_lowest m n mode hs None u e range = λ k b. (none_low m n mode hs None u e).1 k
is_lowest m n mode hs (Some k) u e range = (
  range,
  elim (some_low m n mode hs None k u e) [ inl b ↦ cc | inr p ↦ p ],
  λ j b l. elim (cases_Bool (is_kept m n mode hs j)) [ inl y ↦ absurd (omega (arith, l, (least_low m n mode hs None k u e j).1 y)) | inr f ↦ f ],
)

along : (p q : ℕ → Bool) → ((k : ℕ) → p k ≡ q k) → (r : Option ℕ) → IsLowest p r → IsLowest q r
along p q e None l = λ k b. sym (e k) ∙ l k b
along p q e (Some k) l = (l.0, sym (e k) ∙ l.1, λ j b s. sym (e j) ∙ l.2 j b s)

pub hashed_lowest : (cs : List (List Held)) (at m : ℕ) (n : Name) (mode : Mode) (r : Option ℕ) → at ≡ entry_number n (length cs) → IsHashed cs → r ≡ lowest_in m n mode (get_or cs at []) None → IfSome r IsMember
    → IsLowest (is_kept m n mode (flat cs)) r
hashed_lowest cs at m n mode r place h e range =
    let b = entry_number n (length cs) in
    let here : r ≡ lowest_in m n mode (get_or cs b []) None = subst (λ (z : ℕ). r ≡ lowest_in m n mode (get_or cs z []) None) place e in
    along (is_kept m n mode (get_or cs b [])) (is_kept m n mode (flat cs)) (λ k. ap (λ z. not (k == m) && is_kept_out z mode) (sym (hashed_find cs k n h)))
    r (is_lowest m n mode (get_or cs b []) r (h.unique b (place_bound cs n h.some)) (sym here) range)
