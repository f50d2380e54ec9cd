-- The moves of the list of uses, seen as numbers.
use Rattle.std.proofs.Common.{◌≡◌, ℕ, zero, suc, ◌+◌, ◌-◌, ◌<◌, ◌≤◌, add-one, Bool, true, false, cond, not, ◌||◌, List, [], ◌∷◌, ◌++◌, filter, length, take, Some, None, refl, sym, ap, subst, ◌∙◌, true≢false, arith, nat_eq}
use Rattle.std.specs.List.{IsDistinct, AllByRecursion, list_all, range_with_len}
use Rattle.std.specs.Prelude.{nat_lt, find, IfSome}
use Rattle.std.specs.Option.{option_map_or}
use Rattle.std.proofs.lemmas.List.{take_all}
use Rattle.std.specs.Map.{keys_of, lookup_entry, remove_entry}
use Rattle.std.proofs.lemmas.Bool.{eqb-true}
use Rattle.std.proofs.lemmas.Option.{none-some}
use Rattle.lru.specs.LruCache.{LruCache, promoted, demoted, put_entries}
use Rattle.page_index.specs.Uses.{without, newest, oldest, is_in, IsOrderOf}

apart_stays : (f : ℕ) (xs : List ℕ) → AllByRecursion (λ y. nat_eq f y ≡ false) xs → without f xs ≡ xs
apart_stays f [] a = refl
apart_stays f (x ∷ xs) a =
    ap (λ b. cond (not b) (x ∷ without f xs) (without f xs)) a.0 ∙ ap (λ l. x ∷ l) (apart_stays f xs a.1)

module _ {X : Type 0} where
  keys-append : (xs ys : List (ℕ × X)) → keys_of (xs ++ ys) ≡ keys_of xs ++ keys_of ys
  keys-append [] ys = refl
  keys-append (x ∷ xs) ys = ap (λ l. x.0 ∷ l) (keys-append xs ys)

  removed : (f : ℕ) (es : List (ℕ × X)) → IsDistinct nat_eq (keys_of es) → keys_of (remove_entry (nat_eq f) es) ≡ without f (keys_of es)
  unfolding IsDistinct
  removed f [] d = refl
  removed f (e ∷ es) d = by (nat_eq f e.0) refl (removed f es d.1)
    where
      by : (b : Bool) → nat_eq f e.0 ≡ b → keys_of (remove_entry (nat_eq f) es) ≡ without f (keys_of es)
          → keys_of (remove_entry (nat_eq f) (e ∷ es)) ≡ without f (keys_of (e ∷ es))
      by true h rest =
          ap (λ b. keys_of (cond b es (e ∷ remove_entry (nat_eq f) es))) h
          ∙ sym (apart_stays f (keys_of es) (subst (λ k. AllByRecursion (λ y. nat_eq k y ≡ false) (keys_of es)) (sym (eqb-true f e.0 h)) d.0))
          ∙ sym (ap (λ b. cond (not b) (e.0 ∷ without f (keys_of es)) (without f (keys_of es))) h)
      by false h rest =
          ap (λ b. keys_of (cond b es (e ∷ remove_entry (nat_eq f) es))) h
          ∙ ap (λ l. e.0 ∷ l) rest
          ∙ sym (ap (λ b. cond (not b) (e.0 ∷ without f (keys_of es)) (without f (keys_of es))) h)

  seen : (f : ℕ) (es : List (ℕ × X)) → is_in f (keys_of es) ≡ true → (e : ℕ × X) × (lookup_entry (nat_eq f) es ≡ Some e) × (e.0 ≡ f)
  seen f [] h = absurd (true≢false (sym h))
  seen f (x ∷ xs) h = by (nat_eq f x.0) refl (seen f xs)
    where
      by : (b : Bool) → nat_eq f x.0 ≡ b → (is_in f (keys_of xs) ≡ true → (e : ℕ × X) × (lookup_entry (nat_eq f) xs ≡ Some e) × (e.0 ≡ f))
          → (e : ℕ × X) × (lookup_entry (nat_eq f) (x ∷ xs) ≡ Some e) × (e.0 ≡ f)
      by true is rest = (x, ap (λ b. cond b (Some x) (lookup_entry (nat_eq f) xs)) is, sym (eqb-true f x.0 is))
      by false is rest =
          let r = rest (sym (ap (λ b. b || is_in f (keys_of xs)) is) ∙ h) in
          (r.0, ap (λ b. cond b (Some x) (lookup_entry (nat_eq f) xs)) is ∙ r.1, r.2)

  pub newest_is : (f : ℕ) (es : List (ℕ × X)) → IsDistinct nat_eq (keys_of es) → is_in f (keys_of es) ≡ true
      → keys_of (demoted (nat_eq f) es) ≡ newest f (keys_of es)
  newest_is f es d h =
      let r = seen f es h in
      ap (λ o. keys_of (option_map_or (λ e. remove_entry (nat_eq f) es ++ e ∷ []) o es)) r.1
      ∙ keys-append (remove_entry (nat_eq f) es) (r.0 ∷ [])
      ∙ (λ i. removed f es d i ++ r.2 i ∷ [])

  pub oldest_is : (f : ℕ) (es : List (ℕ × X)) → IsDistinct nat_eq (keys_of es) → is_in f (keys_of es) ≡ true
      → keys_of (promoted (nat_eq f) es) ≡ oldest f (keys_of es)
  oldest_is f es d h =
      let r = seen f es h in
      ap (λ o. keys_of (option_map_or (λ e. e ∷ remove_entry (nat_eq f) es) o es)) r.1
      ∙ (λ i. r.2 i ∷ removed f es d i)

-- ---- the numbers from one on

below_range : (f a k : ℕ) → f < a → is_in f (range_with_len a k) ≡ false
below_range f a zero l = refl
below_range f a (suc k) l = let ih = below_range f (a + 1) k (omega (arith, l)) in let ne : nat_eq f a ≡ false = grind (arith, l) in grind (arith, ih, ne)

length-range : (a k : ℕ) → length (range_with_len a k) ≡ k
length-range a zero = refl
length-range a (suc k) = let ih = length-range (a + 1) k in grind (arith, ih)

without_range : (f a k : ℕ) → f < a → without f (range_with_len a k) ≡ range_with_len a k
without_range f a zero l = refl
without_range f a (suc k) l = let ih = without_range f (a + 1) k (omega (arith, l)) in let ne : nat_eq f a ≡ false = grind (arith, l) in grind (arith, ih, ne)

absent : {X : Type 0} (f : ℕ) (es : List (ℕ × X)) → is_in f (keys_of es) ≡ false → lookup_entry (nat_eq f) es ≡ None
absent f [] h = refl
absent f (x ∷ xs) h = let ih = absent f xs in grind (arith, ih)

length-keys : {X : Type 0} (es : List (ℕ × X)) → length (keys_of es) ≡ length es
length-keys [] = refl
length-keys (e ∷ es) = let ih = length-keys es in grind (arith, ih)

-- one more number than before
pub counted : {X : Type 0} (n d f : ℕ) (v : X) (c : LruCache ℕ X) → d < n → f ≡ n - 1 - d → n ≤ c.cap → keys_of c.entries ≡ range_with_len (n - d) d → keys_of (put_entries nat_eq c f v) ≡ range_with_len (n - (d + 1)) (d + 1)
counted n d f v c lt is holds keys =
    let no = absent f c.entries (ap (is_in f) keys ∙ below_range f (n - d) d (omega (arith, lt, is))) in
    let long : length c.entries ≡ d = sym (length-keys c.entries) ∙ ap length keys ∙ length-range (n - d) d in
    let next : n - d ≡ f + 1 = omega (arith, lt, is) in
    let first : n - (d + 1) ≡ f = omega (arith, lt, is) in
    ap (λ o. keys_of (option_map_or (λ e. (e.0, v) ∷ remove_entry (nat_eq f) c.entries) o ((f, v) ∷ take (c.cap - 1) c.entries))) no
    ∙ ap (λ es. f ∷ keys_of es) (take_all (c.cap - 1) c.entries (omega (arith, long, holds, lt)))
    ∙ ap (λ l. f ∷ l) (keys ∙ ap (λ a. range_with_len a d) next)
    ∙ ap (range_with_len f) (sym (add-one d))
    ∙ ap (λ a. range_with_len a (d + 1)) (sym first)

-- ---- the order of a new list, made by moves

without_append : (f : ℕ) (xs ys : List ℕ) → without f (xs ++ ys) ≡ without f xs ++ without f ys
without_append f [] ys = refl
without_append f (x ∷ xs) ys = let ih = without_append f xs ys in grind (arith, ih)

abbrev pub below : ℕ → List ℕ → List ℕ
below n xs = filter (λ g. nat_lt g n) xs

without_top : (f : ℕ) (xs : List ℕ) → without f (below (f + 1) xs) ≡ below f xs
without_top f [] = refl
without_top f (x ∷ xs) = by (nat_lt x (f + 1)) (nat_eq f x) (nat_lt x f) refl refl refl (without_top f xs)
  where
    by : (a b c : Bool) → nat_lt x (f + 1) ≡ a → nat_eq f x ≡ b → nat_lt x f ≡ c → without f (below (f + 1) xs) ≡ below f xs → without f (below (f + 1) (x ∷ xs)) ≡ below f (x ∷ xs)
    by true true true h k l ih = absurd (grind arith)
    by true true false h k l ih = grind (arith, ih)
    by true false true h k l ih = grind (arith, ih)
    by true false false h k l ih = absurd (grind arith)
    by false true c h k l ih = absurd (grind arith)
    by false false true h k l ih = absurd (grind arith)
    by false false false h k l ih = grind (arith, ih)

moved : (f d : ℕ) (xs : List ℕ) → oldest f (range_with_len (f + 1) d ++ below (f + 1) xs) ≡ range_with_len f (d + 1) ++ below f xs
moved f d xs =
    ap (λ l. f ∷ l) (without_append f (range_with_len (f + 1) d) (below (f + 1) xs) ∙ (λ i. without_range f (f + 1) d (omega arith) i ++ without_top f xs i))
    ∙ ap (λ k. range_with_len f k ++ below f xs) (sym (add-one d))

pub moved_more : (n d f : ℕ) (xs : List ℕ) → d < n → f ≡ n - 1 - d → oldest f (range_with_len (n - d) d ++ below (n - d) xs) ≡ range_with_len (n - (d + 1)) (d + 1) ++ below (n - (d + 1)) xs
moved_more n d f xs lt is =
    let next : n - d ≡ f + 1 = omega (arith, lt, is) in
    let first : n - (d + 1) ≡ f = omega (arith, lt, is) in
    ap (λ m. oldest f (range_with_len m d ++ below m xs)) next ∙ moved f d xs ∙ ap (λ m. range_with_len m (d + 1) ++ below m xs) (sym first)

pub all_below : (n : ℕ) (xs : List ℕ) → list_all (λ g. nat_lt g n) xs ≡ true → below n xs ≡ xs
all_below n [] h = refl
all_below n (x ∷ xs) h =
    let here : nat_lt x n ≡ true = grind arith in
    let rest : list_all (λ g. nat_lt g n) xs ≡ true = grind arith in
    ap (λ b. cond b (x ∷ below n xs) (below n xs)) here ∙ ap (λ l. x ∷ l) (all_below n xs rest)

pub none_below : (xs : List ℕ) → below 0 xs ≡ []
none_below [] = refl
none_below (x ∷ xs) = let no : nat_lt x 0 ≡ false = grind arith in ap (λ b. cond b (x ∷ below 0 xs) (below 0 xs)) no ∙ none_below xs

in_below : (f n : ℕ) (xs : List ℕ) → f < n → is_in f xs ≡ true → is_in f (below n xs) ≡ true
in_below f n [] l h = absurd (true≢false (sym h))
in_below f n (x ∷ xs) l h = by (nat_eq f x) refl (in_below f n xs l)
  where
    by : (b : Bool) → nat_eq f x ≡ b → (is_in f xs ≡ true → is_in f (below n xs) ≡ true) → is_in f (below n (x ∷ xs)) ≡ true
    by true e rest =
        let same : f ≡ x = eqb-true f x e in
        let lt : nat_lt x n ≡ true = grind (arith, same, l) in
        ap (λ b. is_in f (cond b (x ∷ below n xs) (below n xs))) lt ∙ ap (λ b. b || is_in f (below n xs)) e
    by false e rest =
        let r = rest (sym (ap (λ b. b || is_in f xs) e) ∙ h) in
        kept (nat_lt x n) r
      where
        kept : (c : Bool) → is_in f (below n xs) ≡ true → is_in f (cond c (x ∷ below n xs) (below n xs)) ≡ true
        kept true r = ap (λ b. b || is_in f (below n xs)) e ∙ r
        kept false r = r

in_right : (f : ℕ) (xs ys : List ℕ) → is_in f ys ≡ true → is_in f (xs ++ ys) ≡ true
in_right f [] ys h = h
in_right f (x ∷ xs) ys h = let ih = in_right f xs ys h in grind (arith, ih)

pub still_in : (n d f : ℕ) (xs : List ℕ) → d < n → f ≡ n - 1 - d → is_in f xs ≡ true → is_in f (range_with_len (n - d) d ++ below (n - d) xs) ≡ true
still_in n d f xs lt is h = in_right f (range_with_len (n - d) d) (below (n - d) xs) (in_below f (n - d) xs (omega (arith, lt, is)) h)

-- ---- which numbers are in an order

in_range : (f a k : ℕ) → a ≤ f → f < a + k → is_in f (range_with_len a k) ≡ true
in_range f a zero le lt = absurd (omega (arith, le, lt))
in_range f a (suc k) le lt = by (nat_eq f a) refl (in_range f (a + 1) k)
  where
    by : (b : Bool) → nat_eq f a ≡ b → (a + 1 ≤ f → f < a + 1 + k → is_in f (range_with_len (a + 1) k) ≡ true) → is_in f (range_with_len a (suc k)) ≡ true
    by true e rest = ap (λ b. b || is_in f (range_with_len (a + 1) k)) e
    by false e rest =
        let more : a + 1 ≤ f = grind (arith, le, e) in
        ap (λ b. b || is_in f (range_with_len (a + 1) k)) e ∙ rest more (omega (arith, lt))

within_range : (m a k : ℕ) → a + k ≤ m → list_all (λ g. nat_lt g m) (range_with_len a k) ≡ true
within_range m a zero le = refl
within_range m a (suc k) le = let ih = within_range m (a + 1) k (omega (arith, le)) in let here : nat_lt a m ≡ true = grind (arith, le) in grind (arith, ih, here)

in_without : (f g : ℕ) (xs : List ℕ) → nat_eq g f ≡ false → is_in g (without f xs) ≡ is_in g xs
in_without f g [] h = refl
in_without f g (x ∷ xs) h = let ih = in_without f g xs h in grind (arith, ih)

in_push : (g f : ℕ) (xs : List ℕ) → is_in g (xs ++ f ∷ []) ≡ (is_in g xs || nat_eq g f)
in_push g f [] = grind arith
in_push g f (x ∷ xs) = let ih = in_push g f xs in grind (arith, ih)

in_newest : (f g : ℕ) (xs : List ℕ) → is_in g xs ≡ true → is_in g (newest f xs) ≡ true
in_newest f g xs h = let a = in_without f g xs in let b = in_push g f (without f xs) in grind (arith, a, b)

in_oldest : (f g : ℕ) (xs : List ℕ) → is_in g xs ≡ true → is_in g (oldest f xs) ≡ true
in_oldest f g xs h = let a = in_without f g xs in grind (arith, a)

within_without : (n f : ℕ) (xs : List ℕ) → list_all (λ g. nat_lt g n) xs ≡ true → list_all (λ g. nat_lt g n) (without f xs) ≡ true
within_without n f [] h = refl
within_without n f (x ∷ xs) h = let ih = within_without n f xs in grind (arith, ih)

within_push : (n f : ℕ) (xs : List ℕ) → f < n → list_all (λ g. nat_lt g n) xs ≡ true → list_all (λ g. nat_lt g n) (xs ++ f ∷ []) ≡ true
within_push n f [] l h = grind arith
within_push n f (x ∷ xs) l h = let ih = within_push n f xs l in grind (arith, ih)

within_newest : (n f : ℕ) (xs : List ℕ) → f < n → list_all (λ g. nat_lt g n) xs ≡ true → list_all (λ g. nat_lt g n) (newest f xs) ≡ true
within_newest n f xs l h = within_push n f (without f xs) l (within_without n f xs h)

within_oldest : (n f : ℕ) (xs : List ℕ) → f < n → list_all (λ g. nat_lt g n) xs ≡ true → list_all (λ g. nat_lt g n) (oldest f xs) ≡ true
within_oldest n f xs l h = let r = within_without n f xs h in grind (arith, r)

pub with_nothing : (xs : List ℕ) → xs ++ [] ≡ xs
with_nothing [] = refl
with_nothing (x ∷ xs) = ap (λ l. x ∷ l) (with_nothing xs)

-- ---- whole orders

pub whole_range : (n : ℕ) → IsOrderOf n (range_with_len 0 n)
whole_range n = record {
  within = within_range n 0 n (omega arith);
  covers = λ f lt. in_range f 0 n (omega arith) (omega (arith, lt));
}

pub whole_newest : (f : ℕ) (xs : List ℕ) (n : ℕ) → f < n → IsOrderOf n xs → IsOrderOf n (newest f xs)
whole_newest f xs n l whole = record {
  within = within_newest n f xs l whole.within;
  covers = λ g lt. in_newest f g xs (whole.covers g lt);
}

pub whole_oldest : (f : ℕ) (xs : List ℕ) (n : ℕ) → f < n → IsOrderOf n xs → IsOrderOf n (oldest f xs)
whole_oldest f xs n l whole = record {
  within = within_oldest n f xs l whole.within;
  covers = λ g lt. in_oldest f g xs (whole.covers g lt);
}

pub whole_at : (n d : ℕ) (xs : List ℕ) → n ≤ d → d ≤ n → xs ≡ range_with_len (n - d) d → IsOrderOf n xs
whole_at n d xs l m is =
    let none : n - d ≡ 0 = omega (arith, l) in
    let all : d ≡ n = omega (arith, l, m) in
    subst (IsOrderOf n) (sym (is ∙ ap (λ z. range_with_len z d) none ∙ ap (range_with_len 0) all)) (whole_range n)

-- ---- the first that passes

-- what is found is in the list
pub found_within : (n : ℕ) (p : ℕ → Bool) (xs : List ℕ) → list_all (λ g. nat_lt g n) xs ≡ true → IfSome (find p xs) (λ f. f < n)
found_within n p [] h = tt
found_within n p (x ∷ xs) h = by (p x) refl (found_within n p xs)
  where
    by : (b : Bool) → p x ≡ b → (list_all (λ g. nat_lt g n) xs ≡ true → IfSome (find p xs) (λ f. f < n)) → IfSome (find p (x ∷ xs)) (λ f. f < n)
    by true e rest = subst (λ b. IfSome (cond b (Some x) (find p xs)) (λ f. f < n)) (sym e) (grind arith)
    by false e rest = subst (λ b. IfSome (cond b (Some x) (find p xs)) (λ f. f < n)) (sym e) (rest (grind arith))
