-- The list of changed frames, while a frame is entered or taken out.
use Rattle.std.proofs.Common.{◌≡◌, ◌≢◌, ℕ, zero, suc, ◌+◌, ◌-◌, ◌<◌, ◌≤◌, Bool, true, false, cond, true≢false, inl, inr, List, [], ◌∷◌, length, get_or, Option, Some, None, refl, sym, ap, subst, ◌∙◌, arith, nat_eq}
use Rattle.std.specs.Prelude.{nat_lt, is_some, AllPairs}
use Rattle.std.specs.List.{list_all, insert, remove}
use Rattle.std.specs.List.Sorted.{IsPartitionedBy, IsPartitionPoint}
use Rattle.std.proofs.lemmas.Bool.{cases_eq, cases_lt, eqb-true, eq-eqb}
use Rattle.std.proofs.lemmas.List.Edits.{length-insert, length-remove, get_or-insert_below, get_or-insert_at, get_or-insert_above, get_or-remove_below, get_or-remove_above}
use Rattle.std.proofs.lemmas.List.Quantifiers.{all_pairs_remove}
use Rattle.write_order.specs.declared.key.WriteKey.{WriteKey}
use Rattle.write_order.specs.Keys.{table_of, is_before}
use Rattle.write_order.specs.Ranks.{then_by}
use Rattle.page_index.specs.Uses.{is_in}
use Rattle.member_pool.specs.Listed.{Entries, with_entry, precedes, is_earlier, table_in, IsListed}

-- ---- lists

pub place_in : (f : ℕ) (xs : List ℕ) → is_in f xs ≡ true → (k : ℕ) × (k < length xs) × (get_or xs k 0 ≡ f)
place_in f [] h = absurd (true≢false (sym h))
place_in f (x ∷ xs) h = by (nat_eq f x) refl (place_in f xs)
  where
    by : (b : Bool) → nat_eq f x ≡ b → (is_in f xs ≡ true → (k : ℕ) × (k < length xs) × (get_or xs k 0 ≡ f)) → (k : ℕ) × (k < length (x ∷ xs)) × (get_or (x ∷ xs) k 0 ≡ f)
    by true e rest = (zero, omega arith, sym (eqb-true f x e))
    by false e rest = let r = rest (grind arith) in (suc r.0, omega (arith, r.1), r.2)

pub in_at : (xs : List ℕ) (k : ℕ) → k < length xs → is_in (get_or xs k 0) xs ≡ true
in_at [] k l = absurd (omega (arith, l))
in_at (x ∷ xs) zero l = grind arith
in_at (x ∷ xs) (suc k) l = let ih = in_at xs k (omega (arith, l)) in grind (arith, ih)

pub passes_at : (p : ℕ → Bool) (xs : List ℕ) (k d : ℕ) → list_all p xs ≡ true → k < length xs → p (get_or xs k d) ≡ true
passes_at p [] k d h l = absurd (omega (arith, l))
passes_at p (x ∷ xs) zero d h l = grind arith
passes_at p (x ∷ xs) (suc k) d h l = passes_at p xs k d (grind arith) (omega (arith, l))

pub all_pass : (p : ℕ → Bool) (xs : List ℕ) → ((k : ℕ) → k < length xs → p (get_or xs k 0) ≡ true) → list_all p xs ≡ true
all_pass p [] h = refl
all_pass p (x ∷ xs) h = let here = h zero (omega arith) in let rest = all_pass p xs (λ k l. h (suc k) (omega (arith, l))) in grind (arith, here, rest)

pub all_inserted : (p : ℕ → Bool) (xs : List ℕ) (i y : ℕ) → list_all p xs ≡ true → p y ≡ true → list_all p (insert xs i y) ≡ true
all_inserted p [] zero y h t = grind arith
all_inserted p [] (suc i) y h t = grind arith
all_inserted p (x ∷ xs) zero y h t = grind arith
all_inserted p (x ∷ xs) (suc i) y h t = let ih = all_inserted p xs i y (grind arith) t in grind (arith, ih)

pub in_inserted : (g : ℕ) (xs : List ℕ) (i y : ℕ) → is_in g xs ≡ true → is_in g (insert xs i y) ≡ true
in_inserted g [] i y h = absurd (true≢false (sym h))
in_inserted g (x ∷ xs) zero y h = grind arith
in_inserted g (x ∷ xs) (suc i) y h = by (nat_eq g x) refl (in_inserted g xs i y)
  where
    by : (b : Bool) → nat_eq g x ≡ b → (is_in g xs ≡ true → is_in g (insert xs i y) ≡ true) → is_in g (insert (x ∷ xs) (suc i) y) ≡ true
    by true e rest = grind arith
    by false e rest = let r = rest (grind arith) in grind (arith, r)

pub itself_inserted : (xs : List ℕ) (i y : ℕ) → is_in y (insert xs i y) ≡ true
itself_inserted [] zero y = grind arith
itself_inserted [] (suc i) y = grind arith
itself_inserted (x ∷ xs) zero y = grind arith
itself_inserted (x ∷ xs) (suc i) y = let ih = itself_inserted xs i y in grind (arith, ih)

both : (R : ℕ → ℕ → Type 0) (u u' v v' : ℕ) → u ≡ u' → v ≡ v' → R u' v' → R u v
both R u u' v v' e k r = subst (λ x. R x v) (sym e) (subst (λ x. R u' x) (sym k) r)

module _ (R : ℕ → ℕ → Type 0) (xs : List ℕ) (i y : ℕ) (le : i ≤ length xs) where
  low : (k d : ℕ) → k < i → get_or (insert xs i y) k d ≡ get_or xs k d
  low k d h = get_or-insert_below xs i y d k h le

  mid : (k d : ℕ) → k ≡ i → get_or (insert xs i y) k d ≡ y
  mid k d e = ap (λ n. get_or (insert xs i y) n d) e ∙ get_or-insert_at xs i y d le

  high : (k d : ℕ) → i < k → get_or (insert xs i y) k d ≡ get_or xs (k - 1) d
  high k d h =
      let is : k ≡ (k - 1) + 1 = omega (arith, h) in
      ap (λ n. get_or (insert xs i y) n d) is ∙ get_or-insert_above xs i y d (k - 1) (omega (arith, h)) le

  pub all_pairs_insert : AllPairs R xs → ((k d : ℕ) → k < i → R (get_or xs k d) y) → ((k d : ℕ) → i ≤ k → k < length xs → R y (get_or xs k d)) → AllPairs R (insert xs i y)
  all_pairs_insert pairs before behind a b d lt l =
      let long : length (insert xs i y) ≡ length xs + 1 = length-insert xs i y le in
      elim (cases_lt b i) [
        | inl h ↦ both R _ _ _ _ (low a d (omega (arith, lt, h))) (low b d h) (pairs a b d lt (omega (arith, h, le)))
        | inr h ↦ elim (cases_eq b i) [
          | inl e ↦ both R _ _ _ _ (low a d (omega (arith, lt, e))) (mid b d e) (before a d (omega (arith, lt, e)))
          | inr ne ↦
              let past : i < b = omega (arith, h, ne) in
              let within : b - 1 < length xs = omega (arith, l, long, past) in
              elim (cases_lt a i) [
                | inl g ↦ both R _ _ _ _ (low a d g) (high b d past) (pairs a (b - 1) d (omega (arith, g, past)) within)
                | inr g ↦ elim (cases_eq a i) [
                  | inl e ↦ both R _ _ _ _ (mid a d e) (high b d past) (behind (b - 1) d (omega (arith, past)) within)
                  | inr nf ↦
                      let beyond : i < a = omega (arith, g, nf) in
                      both R _ _ _ _ (high a d beyond) (high b d past) (pairs (a - 1) (b - 1) d (omega (arith, lt, beyond)) within)
                ]
              ]
        ]
      ]

-- ---- the order of entries

abbrev pub IsStrict : Type 0
IsStrict = (a b : WriteKey) → is_before a b ≡ true → is_before b a ≡ false

abbrev pub IsTransitive : Type 0
IsTransitive = (a b c : WriteKey) → is_before a b ≡ true → is_before b c ≡ true → is_before a c ≡ true

earlier_precedes : IsTransitive → (a b : Option WriteKey) (key : WriteKey) → is_earlier a b ≡ true → precedes b key ≡ true → precedes a key ≡ true
earlier_precedes t a None key h k = absurd (true≢false (sym k))
earlier_precedes t None (Some b) key h k = absurd (true≢false (sym h))
earlier_precedes t (Some a) (Some b) key h k = t a b key h k

lesser_then : (a b : ℕ) (p : Bool) → then_by a b p ≡ true → a ≤ b
lesser_then a b p h = grind arith

lesser_table : (a b : WriteKey) → is_before a b ≡ true → table_of a ≤ table_of b
lesser_table a b h = lesser_then (table_of a) (table_of b) _ h

pub earlier_table : (a b : Option WriteKey) → is_earlier a b ≡ true → table_in a ≤ table_in b
earlier_table a None h = absurd (true≢false (sym h))
earlier_table None (Some b) h = absurd (true≢false (sym h))
earlier_table (Some a) (Some b) h = lesser_table a b h

abbrev pub Rising : Entries → List ℕ → Type 0
Rising entries xs = AllPairs (λ f g. is_earlier (entries f) (entries g) ≡ true) xs

pub split_by_key : IsTransitive → (entries : Entries) (xs : List ℕ) (key : WriteKey) → Rising entries xs → IsPartitionedBy (λ f. precedes (entries f) key) xs
split_by_key t entries xs key rising i j d le l h =
    elim (cases_eq i j) [
      | inl e ↦ subst (λ k. precedes (entries (get_or xs k d)) key ≡ true) (sym e) h
      | inr ne ↦ earlier_precedes t (entries (get_or xs i d)) (entries (get_or xs j d)) key (rising i j d (omega (arith, le, ne)) l) h
    ]

below_through : (a b t : ℕ) → a ≤ b → nat_lt b t ≡ true → nat_lt a t ≡ true
below_through a b t le h = grind arith

pub split_by_table : (entries : Entries) (xs : List ℕ) (table : ℕ) → Rising entries xs → IsPartitionedBy (λ f. nat_lt (table_in (entries f)) table) xs
split_by_table entries xs table rising i j d le l h =
    elim (cases_eq i j) [
      | inl e ↦ subst (λ k. nat_lt (table_in (entries (get_or xs k d))) table ≡ true) (sym e) h
      | inr ne ↦ below_through (table_in (entries (get_or xs i d))) (table_in (entries (get_or xs j d))) table (earlier_table (entries (get_or xs i d)) (entries (get_or xs j d)) (rising i j d (omega (arith, le, ne)) l)) h
    ]

-- ---- one entry

pub entry_here : (entries : Entries) (f : ℕ) (o : Option WriteKey) → with_entry entries f o f ≡ o
entry_here entries f o = ap (λ b. cond b o (entries f)) (eq-eqb f f refl)

pub entry_else : (entries : Entries) (f g : ℕ) (o : Option WriteKey) → nat_eq g f ≡ false → with_entry entries f o g ≡ entries g
entry_else entries f g o h = ap (λ b. cond b o (entries g)) h

irreflexive : IsStrict → (a : Option WriteKey) → is_earlier a a ≡ true → ⊥
irreflexive s None h = true≢false (sym h)
irreflexive s (Some a) h = true≢false (sym h ∙ s a a h)

module _ (entries : Entries) (xs : List ℕ) (listed : IsListed entries xs) (f : ℕ) where
  pub changed_at : (k d : ℕ) → k < length xs → is_some (entries (get_or xs k d)) ≡ true
  changed_at k d l = passes_at (λ g. is_some (entries g)) xs k d listed.changed l

  -- another frame that is listed keeps its entry
  unlisted_else : (g : ℕ) → entries f ≡ None → is_some (entries g) ≡ true → nat_eq g f ≡ false
  unlisted_else g none h = by (nat_eq g f) refl
    where
      by : (b : Bool) → nat_eq g f ≡ b → nat_eq g f ≡ false
      by true e = absurd (true≢false (sym h ∙ ap (λ k. is_some (entries k)) (eqb-true g f e) ∙ ap is_some none))
      by false e = e

  precedes_not : IsStrict → ((a b : WriteKey) → is_before a b ≡ false → is_before b a ≡ false → a.page ≡ b.page) → (key : WriteKey) (o : Option WriteKey)
      → is_some o ≡ true → ((other : WriteKey) → o ≡ Some other → other.page ≢ key.page) → precedes o key ≡ false → is_earlier (Some key) o ≡ true
  precedes_not s total key None some apart h = absurd (true≢false (sym some))
  precedes_not s total key (Some other) some apart h = by (is_before key other) refl
    where
      by : (b : Bool) → is_before key other ≡ b → is_before key other ≡ true
      by true e = e
      by false e = absurd (apart other refl (total other key h e))

  pub listed_in : IsStrict → ((a b : WriteKey) → is_before a b ≡ false → is_before b a ≡ false → a.page ≡ b.page) → (key : WriteKey) → entries f ≡ None
      → ((g : ℕ) (other : WriteKey) → entries g ≡ Some other → other.page ≢ key.page) → (i : ℕ) → i ≤ length xs
      → IsPartitionPoint (λ g. precedes (entries g) key ≡ true) (λ g. precedes (entries g) key ≡ false) xs i → IsListed (with_entry entries f (Some key)) (insert xs i f)
  listed_in s total key none apart i le point =
      let e' : Entries = with_entry entries f (Some key) in
      let kept : (g : ℕ) → is_some (entries g) ≡ true → e' g ≡ entries g = λ g h. entry_else entries f g (Some key) (unlisted_else g none h) in
      let kept_at : (k d : ℕ) → k < length xs → e' (get_or xs k d) ≡ entries (get_or xs k d) = λ k d l. kept (get_or xs k d) (changed_at k d l) in
      let here : e' f ≡ Some key = entry_here entries f (Some key) in
      record {
        changed = all_inserted (λ g. is_some (e' g)) xs i f (all_pass (λ g. is_some (e' g)) xs (λ k l. ap is_some (kept_at k 0 l) ∙ changed_at k 0 l)) (ap is_some here);
        covers = covering e' kept;
        rising = all_pairs_insert (λ g h. is_earlier (e' g) (e' h) ≡ true) xs i f le
            (λ a b d lt l. ap (λ o. is_earlier o (e' (get_or xs b d))) (kept_at a d (omega (arith, lt, l))) ∙ ap (is_earlier (entries (get_or xs a d))) (kept_at b d l) ∙ listed.rising a b d lt l)
            (λ k d l. ap (λ o. is_earlier o (e' f)) (kept_at k d (omega (arith, l, le))) ∙ ap (is_earlier (entries (get_or xs k d))) here ∙ point.0 k d (omega arith) l)
            (λ k d l m. ap (λ o. is_earlier o (e' (get_or xs k d))) here ∙ ap (is_earlier (Some key)) (kept_at k d m) ∙ precedes_not s total key (entries (get_or xs k d)) (changed_at k d m) (apart (get_or xs k d)) (point.1 k d l m));
      }
    where
      covering : (e' : Entries) → ((g : ℕ) → is_some (entries g) ≡ true → e' g ≡ entries g) → (g : ℕ) → is_some (with_entry entries f (Some key) g) ≡ true → is_in g (insert xs i f) ≡ true
      covering e' kept g h = by (nat_eq g f) refl
        where
          by : (b : Bool) → nat_eq g f ≡ b → is_in g (insert xs i f) ≡ true
          by true e = subst (λ k. is_in k (insert xs i f) ≡ true) (sym (eqb-true g f e)) (itself_inserted xs i f)
          by false e = in_inserted g xs i f (listed.covers g (sym (ap is_some (entry_else entries f g (Some key) e)) ∙ h))

  -- the place of a listed frame
  pub place_of : IsStrict → (key : WriteKey) → entries f ≡ Some key → (i : ℕ) → i ≤ length xs
      → IsPartitionPoint (λ g. precedes (entries g) key ≡ true) (λ g. precedes (entries g) key ≡ false) xs i → (i < length xs) × (get_or xs i 0 ≡ f)
  place_of s key is i le point =
      let p = place_in f xs (listed.covers f (ap is_some is)) in
      let same : entries (get_or xs p.0 0) ≡ Some key = ap entries p.2 ∙ is in
      let not_here : precedes (entries (get_or xs p.0 0)) key ≡ false = ap (λ o. precedes o key) same ∙ self_not s key in
      let at : p.0 ≡ i =
      elim (cases_lt p.0 i) [
        | inl l ↦ absurd (true≢false (sym (point.0 p.0 0 (omega arith) l) ∙ not_here))
        | inr l ↦ elim (cases_eq p.0 i) [
          | inl e ↦ e
          | inr ne ↦ absurd (true≢false (sym (sym (ap (is_earlier (entries (get_or xs i 0))) same) ∙ listed.rising i p.0 0 (omega (arith, l, ne)) p.1) ∙ point.1 i 0 (omega arith) (omega (arith, l, ne, p.1))))
        ]
      ] in
      (subst (λ k. k < length xs) at p.1, ap (λ k. get_or xs k 0) (sym at) ∙ p.2)
    where
      self_not : IsStrict → (k : WriteKey) → is_before k k ≡ false
      self_not t k = by (is_before k k) refl
        where
          by : (b : Bool) → is_before k k ≡ b → is_before k k ≡ false
          by true e = t k k e
          by false e = e

  pub taken_out : IsStrict → (i : ℕ) → i < length xs → get_or xs i 0 ≡ f → IsListed (with_entry entries f None) (remove xs i)
  taken_out s i l at =
      let e' : Entries = with_entry entries f None in
      let long : length (remove xs i) + 1 ≡ length xs = length-remove xs i l in
      let kept : (k d : ℕ) → k < length xs → k ≢ i → e' (get_or xs k d) ≡ entries (get_or xs k d) = λ k d m ne. entry_else entries f (get_or xs k d) None (other k d m ne) in
      let kept_at : (k d : ℕ) → k < length (remove xs i) → e' (get_or (remove xs i) k d) ≡ entries (get_or (remove xs i) k d) =
      λ k d m. elim (cases_lt k i) [
        | inl h ↦
            let is = get_or-remove_below xs i d k h l in
            subst (λ y. e' y ≡ entries y) (sym is) (kept k d (omega (arith, m, long)) (omega (arith, h)))
        | inr h ↦
            let is = get_or-remove_above xs i d k h l in
            subst (λ y. e' y ≡ entries y) (sym is) (kept (k + 1) d (omega (arith, m, long)) (omega (arith, h)))
      ] in
      let some_at : (k d : ℕ) → k < length (remove xs i) → is_some (entries (get_or (remove xs i) k d)) ≡ true =
      λ k d m. elim (cases_lt k i) [
        | inl h ↦ ap (λ y. is_some (entries y)) (get_or-remove_below xs i d k h l) ∙ changed_at k d (omega (arith, m, long))
        | inr h ↦ ap (λ y. is_some (entries y)) (get_or-remove_above xs i d k h l) ∙ changed_at (k + 1) d (omega (arith, m, long))
      ] in
      let pairs = all_pairs_remove (λ g h. is_earlier (entries g) (entries h) ≡ true) xs i l listed.rising in
      record {
        changed = all_pass (λ g. is_some (e' g)) (remove xs i) (λ k m. ap is_some (kept_at k 0 m) ∙ some_at k 0 m);
        covers = covering;
        rising = λ a b d lt m. ap (λ o. is_earlier o (e' (get_or (remove xs i) b d))) (kept_at a d (omega (arith, lt, m))) ∙ ap (is_earlier (entries (get_or (remove xs i) a d))) (kept_at b d m) ∙ pairs a b d lt m;
      }
    where
      at_any : (d : ℕ) → get_or xs i d ≡ f
      at_any d = within xs i d l ∙ at
        where
          within : (ys : List ℕ) (k d : ℕ) → k < length ys → get_or ys k d ≡ get_or ys k 0
          within [] k d m = absurd (omega (arith, m))
          within (y ∷ ys) zero d m = refl
          within (y ∷ ys) (suc k) d m = within ys k d (omega (arith, m))

      other : (k d : ℕ) → k < length xs → k ≢ i → nat_eq (get_or xs k d) f ≡ false
      other k d m ne = by (nat_eq (get_or xs k d) f) refl
        where
          by : (b : Bool) → nat_eq (get_or xs k d) f ≡ b → nat_eq (get_or xs k d) f ≡ false
          by false e = e
          by true e =
              let same : get_or xs k d ≡ get_or xs i d = eqb-true (get_or xs k d) f e ∙ sym (at_any d) in
              elim (cases_lt k i) [
                | inl h ↦ absurd (irreflexive s (entries (get_or xs i d)) (sym (ap (λ y. is_earlier (entries y) (entries (get_or xs i d))) same) ∙ listed.rising k i d h l))
                | inr h ↦ absurd (irreflexive s (entries (get_or xs i d)) (sym (ap (λ y. is_earlier (entries (get_or xs i d)) (entries y)) same) ∙ listed.rising i k d (omega (arith, h, ne)) m))
              ]

      covering : (g : ℕ) → is_some (with_entry entries f None g) ≡ true → is_in g (remove xs i) ≡ true
      covering g h = by (nat_eq g f) refl
        where
          long : length (remove xs i) + 1 ≡ length xs
          long = length-remove xs i l

          by : (b : Bool) → nat_eq g f ≡ b → is_in g (remove xs i) ≡ true
          by true e = absurd (true≢false (sym h ∙ ap (λ b. is_some (cond b None (entries g))) e))
          by false e =
              let p = place_in g xs (listed.covers g (sym (ap is_some (entry_else entries f g None e)) ∙ h)) in
              let ne : p.0 ≢ i = λ is. true≢false (sym (eq-eqb g f (sym p.2 ∙ ap (λ k. get_or xs k 0) is ∙ at)) ∙ e) in
              elim (cases_lt p.0 i) [
                | inl m ↦
                    let is : get_or (remove xs i) p.0 0 ≡ g = get_or-remove_below xs i 0 p.0 m l ∙ p.2 in
                    subst (λ y. is_in y (remove xs i) ≡ true) is (in_at (remove xs i) p.0 (omega (arith, m, l, long)))
                | inr m ↦
                    let back : (p.0 - 1) + 1 ≡ p.0 = omega (arith, m, ne) in
                    let is : get_or (remove xs i) (p.0 - 1) 0 ≡ g = get_or-remove_above xs i 0 (p.0 - 1) (omega (arith, m, ne)) l ∙ ap (λ k. get_or xs k 0) back ∙ p.2 in
                    subst (λ y. is_in y (remove xs i) ≡ true) is (in_at (remove xs i) (p.0 - 1) (omega (arith, m, ne, p.1, long)))
              ]
