-- The entries of a table, seen through the order of use of its slots.
use Rattle.std.proofs.Common.{◌≡◌, ℕ, ◌+◌, Bool, true, false, cond, not, ◌&&◌, ◌||◌, List, [], ◌∷◌, map, length, Option, Some, None, refl, sym, ap, subst, ◌∙◌, true≢false, arith, nat_eq}
use Rattle.std.specs.Prelude.{find, filter_map, is_some, count_by}
use Rattle.std.specs.List.{IsDistinct, AllByRecursion, cons_option}
use Rattle.std.specs.Option.{option_map_or, option_map}
use Rattle.std.proofs.lemmas.Bool.{eqb-true}
use Rattle.std.proofs.lemmas.List.Sums.{sum_by-cons}
use Rattle.ds_base.specs.declared.names.PageId.{PageId}
use Rattle.cache_structure.specs.Entries.{Entry, is_of, without}
use Rattle.page_index.specs.Uses.{without as all_but, is_in}

-- ---- one more entry, or none

without_more : (p : PageId) (o : Option Entry) (es : List Entry) (b : Bool) → ((e : Entry) → o ≡ Some e → is_of p e ≡ b)
    → without p (cons_option o es) ≡ cond b (without p es) (cons_option o (without p es))
without_more p None es true h = refl
without_more p None es false h = refl
without_more p (Some e) es true h = ap (λ t. cond (not t) (e ∷ without p es) (without p es)) (h e refl)
without_more p (Some e) es false h = ap (λ t. cond (not t) (e ∷ without p es) (without p es)) (h e refl)

find_more : (test : Entry → Bool) (o : Option Entry) (es : List Entry) → find test (cons_option o es) ≡ cond (option_map_or test o false) o (find test es)
find_more test None es = refl
find_more test (Some e) es = by (test e)
  where
    by : (b : Bool) → cond b (Some e) (find test es) ≡ cond b (Some e) (find test es)
    by b = refl

length_more : {X : Type 0} (o : Option X) (es : List X) → length (cons_option o es) ≡ cond (is_some o) 1 0 + length es
length_more None es = grind arith
length_more (Some e) es = grind arith

module _ {X : Type 0} (E : ℕ → Option X) where
  -- ---- another slot's entry changes

  pub others_same : (F : ℕ → Option X) (s : ℕ) (order : List ℕ) → ((x : ℕ) → nat_eq s x ≡ false → F x ≡ E x) → filter_map F (all_but s order) ≡ filter_map E (all_but s order)
  others_same F s [] same = refl
  others_same F s (x ∷ xs) same = by (nat_eq s x) refl (others_same F s xs same)
    where
      by : (b : Bool) → nat_eq s x ≡ b → filter_map F (all_but s xs) ≡ filter_map E (all_but s xs) → filter_map F (all_but s (x ∷ xs)) ≡ filter_map E (all_but s (x ∷ xs))
      by true h rest =
          ap (λ b. filter_map F (cond (not b) (x ∷ all_but s xs) (all_but s xs))) h
          ∙ rest
          ∙ sym (ap (λ b. filter_map E (cond (not b) (x ∷ all_but s xs) (all_but s xs))) h)
      by false h rest =
          ap (λ b. filter_map F (cond (not b) (x ∷ all_but s xs) (all_but s xs))) h
          ∙ (λ i. cons_option (same x h i) (rest i))
          ∙ sym (ap (λ b. filter_map E (cond (not b) (x ∷ all_but s xs) (all_but s xs))) h)

  pub as_many : (F : ℕ → Option X) (order : List ℕ) → ((x : ℕ) → is_some (F x) ≡ is_some (E x)) → length (filter_map F order) ≡ length (filter_map E order)
  as_many F [] same = refl
  as_many F (x ∷ xs) same =
      length_more (F x) (filter_map F xs)
      ∙ (λ i. cond (same x i) 1 0 + as_many F xs same i)
      ∙ sym (length_more (E x) (filter_map E xs))

  pub none_left : (order : List ℕ) → ((x : ℕ) → E x ≡ None) → filter_map E order ≡ []
  none_left [] none = refl
  none_left (x ∷ xs) none = (λ i. cons_option (none x i) (none_left xs none i))

  -- ---- how many there are

  apart_stays : (f : ℕ) (xs : List ℕ) → AllByRecursion (λ y. nat_eq f y ≡ false) xs → all_but f xs ≡ xs
  apart_stays f [] a = refl
  apart_stays f (x ∷ xs) a =
      ap (λ b. cond (not b) (x ∷ all_but f xs) (all_but f xs)) a.0 ∙ ap (λ l. x ∷ l) (apart_stays f xs a.1)

  pub one_less : (s : ℕ) (order : List ℕ) → IsDistinct nat_eq order → is_in s order ≡ true
      → cond (is_some (E s)) 1 0 + length (filter_map E (all_but s order)) ≡ length (filter_map E order)
  unfolding IsDistinct
  one_less s [] d there = absurd (true≢false (sym there))
  one_less s (x ∷ xs) d there = by (nat_eq s x) refl (one_less s xs d.1)
    where
      by : (b : Bool) → nat_eq s x ≡ b → (is_in s xs ≡ true → cond (is_some (E s)) 1 0 + length (filter_map E (all_but s xs)) ≡ length (filter_map E xs))
          → cond (is_some (E s)) 1 0 + length (filter_map E (all_but s (x ∷ xs))) ≡ length (filter_map E (x ∷ xs))
      by true h rest =
          ap (λ b. cond (is_some (E s)) 1 0 + length (filter_map E (cond (not b) (x ∷ all_but s xs) (all_but s xs)))) h
          ∙ ap (λ ys. cond (is_some (E s)) 1 0 + length (filter_map E ys)) (apart_stays s xs (subst (λ k. AllByRecursion (λ y. nat_eq k y ≡ false) xs) (sym (eqb-true s x h)) d.0))
          ∙ ap (λ k. cond (is_some (E k)) 1 0 + length (filter_map E xs)) (eqb-true s x h)
          ∙ sym (length_more (E x) (filter_map E xs))
      by false h rest =
          let ih = rest (sym (ap (λ b. b || is_in s xs) h) ∙ there) in
          let a = length_more (E x) (filter_map E (all_but s xs)) in
          let b = length_more (E x) (filter_map E xs) in
          ap (λ b. cond (is_some (E s)) 1 0 + length (filter_map E (cond (not b) (x ∷ all_but s xs) (all_but s xs)))) h
          ∙ (omega (arith, ih, a, b))

module _ (E : ℕ → Option Entry) where
  -- ---- the entry of a page leaves

  pub page_leaves : (s : ℕ) (p : PageId) (order : List ℕ) → ((x : ℕ) (e : Entry) → E x ≡ Some e → is_of p e ≡ nat_eq s x) → filter_map E (all_but s order) ≡ without p (filter_map E order)
  page_leaves s p [] own = refl
  page_leaves s p (x ∷ xs) own = by (nat_eq s x) refl (page_leaves s p xs own)
    where
      by : (b : Bool) → nat_eq s x ≡ b → filter_map E (all_but s xs) ≡ without p (filter_map E xs) → filter_map E (all_but s (x ∷ xs)) ≡ without p (filter_map E (x ∷ xs))
      by true h rest =
          ap (λ b. filter_map E (cond (not b) (x ∷ all_but s xs) (all_but s xs))) h
          ∙ rest
          ∙ sym (without_more p (E x) (filter_map E xs) true (λ e is. own x e is ∙ h))
      by false h rest =
          ap (λ b. filter_map E (cond (not b) (x ∷ all_but s xs) (all_but s xs))) h
          ∙ ap (cons_option (E x)) rest
          ∙ sym (without_more p (E x) (filter_map E xs) false (λ e is. own x e is ∙ h))

  pub nothing_leaves : (s : ℕ) (order : List ℕ) → E s ≡ None → filter_map E (all_but s order) ≡ filter_map E order
  nothing_leaves s [] none = refl
  nothing_leaves s (x ∷ xs) none = by (nat_eq s x) refl (nothing_leaves s xs none)
    where
      by : (b : Bool) → nat_eq s x ≡ b → filter_map E (all_but s xs) ≡ filter_map E xs → filter_map E (all_but s (x ∷ xs)) ≡ filter_map E (x ∷ xs)
      by true h rest =
          ap (λ b. filter_map E (cond (not b) (x ∷ all_but s xs) (all_but s xs))) h
          ∙ rest
          ∙ sym (ap (λ o. cons_option o (filter_map E xs)) (ap E (sym (eqb-true s x h)) ∙ none))
      by false h rest =
          ap (λ b. filter_map E (cond (not b) (x ∷ all_but s xs) (all_but s xs))) h
          ∙ ap (cons_option (E x)) rest

  pub stays_without : (p : PageId) (order : List ℕ) → ((x : ℕ) (e : Entry) → E x ≡ Some e → is_of p e ≡ false) → without p (filter_map E order) ≡ filter_map E order
  stays_without p [] none = refl
  stays_without p (x ∷ xs) none = without_more p (E x) (filter_map E xs) false (none x) ∙ ap (cons_option (E x)) (stays_without p xs none)

  -- ---- the entry of a page is found

  passes : (p : PageId) (s : ℕ) (o : Option Entry) (b : Bool) → ((e : Entry) → o ≡ Some e → is_of p e ≡ b) → option_map_or (is_of p) o false ≡ (is_some o && b)
  passes p s None b h = refl
  passes p s (Some e) b h = h e refl

  pub finds_entry : (s : ℕ) (p : PageId) (e : Entry) (order : List ℕ) → ((x : ℕ) (e : Entry) → E x ≡ Some e → is_of p e ≡ nat_eq s x) → E s ≡ Some e → is_in s order ≡ true
      → find (is_of p) (filter_map E order) ≡ E s
  finds_entry s p e [] own is there = absurd (true≢false (sym there))
  finds_entry s p e (x ∷ xs) own is there = by (nat_eq s x) refl (finds_entry s p e xs own is)
    where
      by : (b : Bool) → nat_eq s x ≡ b → (is_in s xs ≡ true → find (is_of p) (filter_map E xs) ≡ E s) → find (is_of p) (filter_map E (x ∷ xs)) ≡ E s
      by true h rest =
          let at : E x ≡ Some e = ap E (sym (eqb-true s x h)) ∙ is in
          find_more (is_of p) (E x) (filter_map E xs)
          ∙ ap (λ o. cond (option_map_or (is_of p) o false) o (find (is_of p) (filter_map E xs))) at
          ∙ ap (λ b. cond b (Some e) (find (is_of p) (filter_map E xs))) (own x e at ∙ h)
          ∙ sym is
      by false h rest =
          find_more (is_of p) (E x) (filter_map E xs)
          ∙ ap (λ b. cond b (E x) (find (is_of p) (filter_map E xs))) (passes p s (E x) false (λ e is. own x e is ∙ h) ∙ no (is_some (E x)))
          ∙ rest (sym (ap (λ b. b || is_in s xs) h) ∙ there)
        where
          no : (b : Bool) → (b && false) ≡ false
          no true = refl
          no false = refl

  pub finds_none : (p : PageId) (order : List ℕ) → ((x : ℕ) (e : Entry) → E x ≡ Some e → is_of p e ≡ false) → find (is_of p) (filter_map E order) ≡ None
  finds_none p [] none = refl
  finds_none p (x ∷ xs) none =
      find_more (is_of p) (E x) (filter_map E xs)
      ∙ ap (λ b. cond b (E x) (find (is_of p) (filter_map E xs))) (passes p x (E x) false (none x) ∙ no (is_some (E x)))
      ∙ finds_none p xs none
    where
      no : (b : Bool) → (b && false) ≡ false
      no true = refl
      no false = refl

  -- ---- each entry changes

  mapped_more : (g : Entry → Entry) (o : Option Entry) (es : List Entry) → cons_option (option_map g o) (map g es) ≡ map g (cons_option o es)
  mapped_more g None es = refl
  mapped_more g (Some e) es = refl

  pub mapped : (F : ℕ → Option Entry) (g : Entry → Entry) (order : List ℕ) → ((x : ℕ) → F x ≡ option_map g (E x)) → filter_map F order ≡ map g (filter_map E order)
  mapped F g [] same = refl
  mapped F g (x ∷ xs) same = (λ i. cons_option (same x i) (mapped F g xs same i)) ∙ mapped_more g (E x) (filter_map E xs)

  -- ---- the first that may be reclaimed, and how many are changed

  pub first_passing : (test : Entry → Bool) (q : ℕ → Bool) (order : List ℕ) → ((x : ℕ) → q x ≡ option_map_or test (E x) false)
      → find test (filter_map E order) ≡ option_map_or E (find q order) None
  first_passing test q [] same = refl
  first_passing test q (x ∷ xs) same = by (q x) refl (first_passing test q xs same)
    where
      by : (b : Bool) → q x ≡ b → find test (filter_map E xs) ≡ option_map_or E (find q xs) None → find test (filter_map E (x ∷ xs)) ≡ option_map_or E (find q (x ∷ xs)) None
      by true h rest =
          find_more test (E x) (filter_map E xs)
          ∙ ap (λ b. cond b (E x) (find test (filter_map E xs))) (sym (same x) ∙ h)
          ∙ sym (ap (λ b. option_map_or E (cond b (Some x) (find q xs)) None) h)
      by false h rest =
          find_more test (E x) (filter_map E xs)
          ∙ ap (λ b. cond b (E x) (find test (filter_map E xs))) (sym (same x) ∙ h)
          ∙ rest
          ∙ sym (ap (λ b. option_map_or E (cond b (Some x) (find q xs)) None) h)

  count_more : (test : Entry → Bool) (o : Option Entry) (es : List Entry) → count_by test (cons_option o es) ≡ cond (option_map_or test o false) 1 0 + count_by test es
  count_more test None es = omega arith
  count_more test (Some e) es = sum_by-cons (λ x. cond (test x) 1 0) e es

  pub counted_by : (test : Entry → Bool) (q : ℕ → Bool) (order : List ℕ) → ((x : ℕ) → q x ≡ option_map_or test (E x) false) → count_by test (filter_map E order) ≡ count_by q order
  counted_by test q [] same = refl
  counted_by test q (x ∷ xs) same =
      let ih = counted_by test q xs same in
      let more = count_more test (E x) (filter_map E xs) in
      more ∙ (λ i. cond (sym (same x) i) 1 0 + ih i) ∙ sym (sum_by-cons (λ y. cond (q y) 1 0) x xs)
