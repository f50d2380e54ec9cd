-- The set of the changed pages, while slots change.
use Rattle.std.proofs.Common.{◌≡◌, ℕ, ◌+◌, ◌<◌, ◌≤◌, Bool, true, false, cond, not, ◌&&◌, ◌||◌, List, [], ◌∷◌, ◌++◌, length, Option, Some, None, refl, sym, ap, subst, ◌∙◌, true≢false, arith, nat_eq, nat_lt, slice_get, slice_set}
use Rattle.std.specs.Prelude.{filter_map, is_some, count_by}
use Rattle.std.specs.Option.{option_map_or}
use Rattle.std.specs.List.{IsDistinct, cons_option, list_all}
use Rattle.std.proofs.lemmas.Bool.{eqb-true}
use Rattle.std.proofs.lemmas.List.{length-set, length-append}
use Rattle.std.proofs.lemmas.List.Elements.{filter_map-append}
use Rattle.std.proofs.lemmas.List.Sums.{sum_by-cons}
use Rattle.page_index.specs.Places.{Index}
use Rattle.page_index.specs.Uses.{without as all_but, newest as used_last, is_in}
use Rattle.page_index.proofs.CallerLemmas.{same_name, own}
use Rattle.ds_base.specs.declared.names.PageId.{PageId}
use Rattle.ds_base.specs.Pages.{same_page}
use Rattle.page_tree.specs.Order.{IsNextAmong, is_past}
use Rattle.page_tree.specs.Pages.{Pages, has, is_in as is_among}
use Rattle.cache_structure.specs.declared.slot.Slot.{Slot}
use Rattle.cache_structure.specs.Entries.{Entry}
use Rattle.cache_structure.specs.Frames.{is_page}
use Rattle.cache_structure.specs.Slots.{Table, slot_at, page_in, entry_at, entry_in, entries_in, changed_page, free_slot}
use Rattle.cache_structure.specs.Order.{changed_in}
use Rattle.cache_structure.specs.Kept.{IsKept}
use Rattle.cache_structure.specs.Listed.{IsListed, changed_at, changed_pages, is_page_of}
use Rattle.cache_structure.proofs.Views.{others_same, as_many, none_left, one_less}
use Rattle.cache_structure.proofs.Tables.{slot_set, pages_apart}
use Rattle.cache_structure.proofs.Changed.{slot_changed, changed_slot, count_is}

decide : (b : Bool) (P : Type 0) → (b ≡ true → P) → (b ≡ false → P) → P
decide true P f g = f refl
decide false P f g = g refl

-- ---- lists of pages

one_more : (q : PageId) (o : Option PageId) (ps : List PageId) → is_among q (cons_option o ps) ≡ (is_page_of q o || is_among q ps)
one_more q None ps = refl
one_more q (Some p) ps = refl

in_append : (q : PageId) (a b : List PageId) → is_among q (a ++ b) ≡ (is_among q a || is_among q b)
in_append q [] b = refl
in_append q (x ∷ a) b = let ih = in_append q a b in by (same_page q x) ih
  where
    by : (c : Bool) → is_among q (a ++ b) ≡ (is_among q a || is_among q b) → (c || is_among q (a ++ b)) ≡ ((c || is_among q a) || is_among q b)
    by true ih = refl
    by false ih = ih

swap : (a b : Bool) → (a || b) ≡ (b || a)
swap true true = refl
swap true false = refl
swap false true = refl
swap false false = refl

stays_out : (s : ℕ) (xs : List ℕ) → is_in s xs ≡ false → all_but s xs ≡ xs
stays_out s [] h = refl
stays_out s (y ∷ ys) h = by (nat_eq s y) refl h (stays_out s ys)
  where
    by : (b : Bool) → nat_eq s y ≡ b → (b || is_in s ys) ≡ false → (is_in s ys ≡ false → all_but s ys ≡ ys) → cond (not (nat_eq s y)) (y ∷ all_but s ys) (all_but s ys) ≡ y ∷ ys
    by true e h ih = absurd (true≢false h)
    by false e h ih = ap (λ b. cond (not b) (y ∷ all_but s ys) (all_but s ys)) e ∙ ap (λ zs. y ∷ zs) (ih h)

abbrev one_if : Bool → ℕ
one_if b = cond b 1 0

abbrev ones : Option PageId → ℕ
ones o = cond (is_some o) 1 0

module _ (E : ℕ → Option PageId) where
  -- what the other slots have, and what this one has
  parted : (q : PageId) (s : ℕ) (order : List ℕ) → is_in s order ≡ true → is_among q (filter_map E order) ≡ (is_page_of q (E s) || is_among q (filter_map E (all_but s order)))
  parted q s [] h = absurd (true≢false (sym h))
  parted q s (x ∷ xs) h = decide (nat_eq s x) _ (here (parted q s xs)) (there (parted q s xs))
    where
      twice : (a b : Bool) → (a || (a || b)) ≡ (a || b)
      twice true b = refl
      twice false b = refl

      turned : (a b c : Bool) → (a || (b || c)) ≡ (b || (a || c))
      turned true true c = refl
      turned true false c = refl
      turned false b c = refl

      left : is_in s xs ≡ false → filter_map E (all_but s xs) ≡ filter_map E xs
      left h = ap (filter_map E) (stays_out s xs h)

      rest : (is_in s xs ≡ true → is_among q (filter_map E xs) ≡ (is_page_of q (E s) || is_among q (filter_map E (all_but s xs)))) → is_among q (cons_option (E s) (filter_map E xs)) ≡ (is_page_of q (E s) || is_among q (filter_map E (all_but s xs)))
      rest ih = one_more q (E s) (filter_map E xs) ∙ decide (is_in s xs) _
          (λ g. ap (λ b. is_page_of q (E s) || b) (ih g) ∙ twice (is_page_of q (E s)) (is_among q (filter_map E (all_but s xs))))
          (λ g. ap (λ ps. is_page_of q (E s) || is_among q ps) (sym (left g)))

      here : (is_in s xs ≡ true → is_among q (filter_map E xs) ≡ (is_page_of q (E s) || is_among q (filter_map E (all_but s xs)))) → nat_eq s x ≡ true → is_among q (filter_map E (x ∷ xs)) ≡ (is_page_of q (E s) || is_among q (filter_map E (all_but s (x ∷ xs))))
      here ih e =
          ap (λ k. is_among q (cons_option (E k) (filter_map E xs))) (sym (eqb-true s x e))
          ∙ rest ih
          ∙ sym (ap (λ b. is_page_of q (E s) || is_among q (filter_map E (cond (not b) (x ∷ all_but s xs) (all_but s xs)))) e)

      there : (is_in s xs ≡ true → is_among q (filter_map E xs) ≡ (is_page_of q (E s) || is_among q (filter_map E (all_but s xs)))) → nat_eq s x ≡ false → is_among q (filter_map E (x ∷ xs)) ≡ (is_page_of q (E s) || is_among q (filter_map E (all_but s (x ∷ xs))))
      there ih e =
          one_more q (E x) (filter_map E xs)
          ∙ ap (λ b. is_page_of q (E x) || b) (ih (sym (ap (λ b. b || is_in s xs) e) ∙ h))
          ∙ turned (is_page_of q (E x)) (is_page_of q (E s)) (is_among q (filter_map E (all_but s xs)))
          ∙ ap (λ b. is_page_of q (E s) || b) (sym (one_more q (E x) (filter_map E (all_but s xs))))
          ∙ sym (ap (λ b. is_page_of q (E s) || is_among q (filter_map E (cond (not b) (x ∷ all_but s xs) (all_but s xs)))) e)

  -- the slot is now the last in the order
  last_among : (q : PageId) (s : ℕ) (order : List ℕ) → is_in s order ≡ true → is_among q (filter_map E (used_last s order)) ≡ is_among q (filter_map E order)
  last_among q s order h =
      ap (is_among q) (filter_map-append E (all_but s order) (s ∷ []))
      ∙ in_append q (filter_map E (all_but s order)) (cons_option (E s) [])
      ∙ ap (λ b. is_among q (filter_map E (all_but s order)) || b) (one_more q (E s) [] ∙ swap (is_page_of q (E s)) false)
      ∙ swap (is_among q (filter_map E (all_but s order))) (is_page_of q (E s))
      ∙ sym (parted q s order h)

  last_length : (s : ℕ) (order : List ℕ) → IsDistinct nat_eq order → is_in s order ≡ true → length (filter_map E (used_last s order)) ≡ length (filter_map E order)
  last_length s order d h =
      let a = one_less E s order d h in
      let b = ap length (filter_map-append E (all_but s order) (s ∷ [])) in
      let c = length-append (filter_map E (all_but s order)) (cons_option (E s) []) in
      let e = one (E s) in
      omega (arith, a, b, c, e)
    where
      one : (o : Option PageId) → length (cons_option o []) ≡ cond (is_some o) 1 0
      one None = refl
      one (Some p) = refl

  none_among : (q : PageId) (order : List ℕ) → ((x : ℕ) → is_in x order ≡ true → is_page_of q (E x) ≡ false) → is_among q (filter_map E order) ≡ false
  none_among q [] none = refl
  none_among q (x ∷ xs) none =
      one_more q (E x) (filter_map E xs)
      ∙ ap (λ b. b || is_among q (filter_map E xs)) (none x (ap (λ b. b || is_in x xs) (same x)))
      ∙ none_among q xs (λ y h. none y (ap (λ b. nat_eq y x || b) h ∙ swap (nat_eq y x) true))
    where
      same : (n : ℕ) → nat_eq n n ≡ true
      same n = grind arith

  -- a page that is among them stands in a slot
  found_among : (q : PageId) (order : List ℕ) (P : Type 0) → ((x : ℕ) → E x ≡ Some q → P) → is_among q (filter_map E order) ≡ true → P
  found_among q [] P f h = absurd (true≢false (sym h))
  found_among q (x ∷ xs) P f h = by (E x) refl (sym (one_more q (E x) (filter_map E xs)) ∙ h) (found_among q xs P f)
    where
      by : (o : Option PageId) → E x ≡ o → (is_page_of q o || is_among q (filter_map E xs)) ≡ true → (is_among q (filter_map E xs) ≡ true → P) → P
      by None e h rest = rest h
      by (Some p) e h rest = decide (same_page q p) P
          (λ same. f x (e ∙ ap (λ y. Some y) (sym (same_name q p same))))
          (λ other. rest (sym (ap (λ b. b || is_among q (filter_map E xs)) other) ∙ h))

fewer : {X Y : Type 0} (E : ℕ → Option X) (F : ℕ → Option Y) (order : List ℕ) → ((x : ℕ) → is_some (E x) ≡ true → is_some (F x) ≡ true) → length (filter_map E order) ≤ length (filter_map F order)
fewer E F [] h = omega arith
fewer {X} {Y} E F (x ∷ xs) h = let ih = fewer E F xs h in by (E x) (F x) refl refl ih
  where
    by : (o : Option X) (p : Option Y) → E x ≡ o → F x ≡ p → length (filter_map E xs) ≤ length (filter_map F xs) → length (cons_option (E x) (filter_map E xs)) ≤ length (cons_option (F x) (filter_map F xs))
    by None None e f ih = subst (λ o. length (cons_option o (filter_map E xs)) ≤ length (cons_option (F x) (filter_map F xs))) (sym e) (subst (λ o. length (filter_map E xs) ≤ length (cons_option o (filter_map F xs))) (sym f) ih)
    by None (Some p) e f ih = subst (λ o. length (cons_option o (filter_map E xs)) ≤ length (cons_option (F x) (filter_map F xs))) (sym e) (subst (λ o. length (filter_map E xs) ≤ length (cons_option o (filter_map F xs))) (sym f) (omega (arith, ih)))
    by (Some o) (Some p) e f ih = subst (λ z. length (cons_option z (filter_map E xs)) ≤ length (cons_option (F x) (filter_map F xs))) (sym e) (subst (λ z. length (o ∷ filter_map E xs) ≤ length (cons_option z (filter_map F xs))) (sym f) (omega (arith, ih)))
    by (Some o) None e f ih = absurd (true≢false (sym (h x (ap is_some e)) ∙ ap is_some f))

-- ---- one slot

-- a changed page is the page of the slot
page_of : (slot : Slot) (p : PageId) → changed_page slot ≡ Some p → slot.page ≡ Some p
page_of slot p e = by slot.changed refl
  where
    none : None ≡ Some p → ⊥
    none e = grind arith

    by : (b : Bool) → slot.changed ≡ b → slot.page ≡ Some p
    by true c = sym (ap (λ b. cond b slot.page None) c) ∙ e
    by false c = absurd (none (sym (ap (λ b. cond b slot.page None) c) ∙ e))

page_hit : (q : PageId) (slot : Slot) → is_page_of q (changed_page slot) ≡ true → is_page q slot.page ≡ true
page_hit q slot h = by slot.changed refl
  where
    by : (b : Bool) → slot.changed ≡ b → is_page q slot.page ≡ true
    by true c = sym (ap (λ b. is_page_of q (cond b slot.page None)) c) ∙ h
    by false c = absurd (true≢false (sym h ∙ ap (λ b. is_page_of q (cond b slot.page None)) c))

some_entry : (slot : Slot) (bytes : Option (List ℕ)) (p : PageId) → slot.page ≡ Some p → is_some (entry_in slot bytes) ≡ true
some_entry slot bytes p e = grind arith

some_page : (slot : Slot) (bytes : Option (List ℕ)) → is_some (changed_page slot) ≡ true → is_some (entry_in slot bytes) ≡ true
some_page slot bytes h = by (changed_page slot) refl h
  where
    by : (o : Option PageId) → changed_page slot ≡ o → is_some o ≡ true → is_some (entry_in slot bytes) ≡ true
    by None e h = absurd (true≢false (sym h))
    by (Some p) e h = some_entry slot bytes p (page_of slot p e)

module _ (t : Table) (places : Index) (used : ℕ) (kept : IsKept t places used) (set : Pages) (listed : IsListed t.slots t.order set) where
  -- ---- what the set says

  pub has_changed : (q : PageId) → has set q ≡ changed_in t q
  has_changed q = listed.listed q ∙ decide (is_among q (changed_pages t.slots t.order)) _
      (λ h. h ∙ sym (found_among (changed_at t.slots) q t.order (changed_in t q ≡ true) (λ s e. slot_changed t places used kept s q e) h))
      (λ h. h ∙ sym (never (changed_in t q) (λ c. let at = changed_slot t places used kept q c in
      true≢false (sym (parted (changed_at t.slots) q at.0 t.order (kept.whole.covers at.0 at.1) ∙ ap (λ o. is_page_of q o || is_among q (filter_map (changed_at t.slots) (all_but at.0 t.order))) at.2
      ∙ ap (λ b. b || is_among q (filter_map (changed_at t.slots) (all_but at.0 t.order))) (own q)) ∙ h))))
    where
      never : (b : Bool) → (b ≡ true → ⊥) → b ≡ false
      never true f = absurd (f refl)
      never false f = refl

  pub next_same : (after next : Option PageId) → IsNextAmong (has set) after next → IsNextAmong (changed_in t) after next
  next_same after None n = λ q h. n q (has_changed q ∙ h)
  next_same after (Some x) n = (sym (has_changed x) ∙ n.0, n.1, λ q h past. n.2 q (has_changed q ∙ h) past)

  -- ---- a slot changes

  -- no other slot has this slot's page
  rest_without : (s : ℕ) (p : PageId) → page_in t.slots s ≡ Some p → is_among p (filter_map (changed_at t.slots) (all_but s t.order)) ≡ false
  rest_without s p is = none_among (changed_at t.slots) p (all_but s t.order) (λ x h. decide (is_page_of p (changed_at t.slots x)) _
      (λ hit. absurd (true≢false (sym (page_hit p (slot_at t.slots x) hit) ∙ pages_apart t places used kept s x p is ∙ apart x s (others x t.order h))))
      (λ miss. miss))
    where
      apart : (x s : ℕ) → nat_eq s x ≡ false → nat_eq x s ≡ false
      apart x s h = grind arith

      others : (x : ℕ) (xs : List ℕ) → is_in x (all_but s xs) ≡ true → nat_eq s x ≡ false
      others x [] h = absurd (true≢false (sym h))
      others x (y ∷ ys) h = decide (nat_eq s y) _
          (λ e. others x ys (sym (ap (λ b. is_in x (cond (not b) (y ∷ all_but s ys) (all_but s ys))) e) ∙ h))
          (λ e. decide (nat_eq x y) _
          (λ same. ap (nat_eq s) (eqb-true x y same) ∙ e)
          (λ differs. others x ys (sym (ap (λ b. b || is_in x (all_but s ys)) differs) ∙ sym (ap (λ b. is_in x (cond (not b) (y ∷ all_but s ys) (all_but s ys))) e) ∙ h)))

  module _ (s : ℕ) (l : s < length t.slots) where
    old_parts : (q : PageId) → has set q ≡ (is_page_of q (changed_at t.slots s) || is_among q (filter_map (changed_at t.slots) (all_but s t.order)))
    old_parts q = listed.listed q ∙ parted (changed_at t.slots) q s t.order (kept.whole.covers s l)

    pub set_has : (p : PageId) → changed_at t.slots s ≡ Some p → has set p ≡ true
    set_has p is = old_parts p ∙ ap (λ o. is_page_of p o || is_among p (filter_map (changed_at t.slots) (all_but s t.order))) is ∙ ap (λ b. b || is_among p (filter_map (changed_at t.slots) (all_but s t.order))) (own p)

    pub set_lacks : (p : PageId) → changed_at t.slots s ≡ None → page_in t.slots s ≡ Some p → has set p ≡ false
    set_lacks p none is = old_parts p ∙ ap (λ o. is_page_of p o || is_among p (filter_map (changed_at t.slots) (all_but s t.order))) none ∙ rest_without s p is

    pub has_room : (p : PageId) → IsDistinct nat_eq t.order → changed_at t.slots s ≡ None → page_in t.slots s ≡ Some p → 1 ≤ set.room
    has_room p d none is =
        let a = one_less (changed_at t.slots) s t.order d (kept.whole.covers s l) in
        let b = one_less (entry_at t) s t.order d (kept.whole.covers s l) in
        let c = fewer (changed_at t.slots) (entry_at t) (all_but s t.order) (λ x h. some_page (slot_at t.slots x) (slice_get t.pages x) h) in
        let e = ap ones none in
        let g = ap one_if (some_entry (slot_at t.slots s) (slice_get t.pages s) p is) in
        let count = listed.count in
        let room = listed.room in
        let most = kept.at_most in
        let has = kept.count in
        omega (arith, a, b, c, e, g, count, room, most, has)

    -- the set after the slot has changed, where it has the same page or none
    pub relisted : (new : Slot) (now : Pages) → IsDistinct nat_eq t.order
        → ((q : PageId) → has now q ≡ (is_page_of q (changed_page new) || (not (is_page_of q (changed_at t.slots s)) && has set q)))
        → length now.listed + cond (is_some (changed_at t.slots s)) 1 0 ≡ length set.listed + cond (is_some (changed_page new)) 1 0
        → length now.listed + now.room ≡ length set.listed + set.room
        → IsListed (slice_set t.slots s new) t.order now
    relisted new now d pages long room =
        let F = changed_at (slice_set t.slots s new) in
        let E = changed_at t.slots in
        let others = others_same E F s t.order (λ x differs. ap changed_page (slot_set t.slots s new x l ∙ ap (λ b. cond b new (slot_at t.slots x)) differs)) in
        let here : F s ≡ changed_page new = ap changed_page (slot_set t.slots s new s l ∙ ap (λ b. cond b new (slot_at t.slots s)) (itself s)) in
        let a = one_less E s t.order d (kept.whole.covers s l) in
        let b = one_less F s t.order d (kept.whole.covers s l) in
        let c = ap length others in
        let e = ap ones here in
        let count = listed.count in
        let before = listed.room in
        let size = length-set t.slots s new in
        record {
          listed = λ q. pages q ∙ only q (changed_at t.slots s) refl ∙ sym (parted F q s t.order (kept.whole.covers s l) ∙ (λ i. is_page_of q (here i) || is_among q (others i)));
          count = omega (arith, a, b, c, e, count, long);
          room = omega (arith, room, before, size);
        }
      where
        itself : (n : ℕ) → nat_eq n n ≡ true
        itself n = grind arith

        rest : PageId → Bool
        rest q = is_among q (filter_map (changed_at t.slots) (all_but s t.order))

        gone : (a b c : Bool) → c ≡ false → (a || (not true && (true || b))) ≡ (a || c)
        gone true b c e = refl
        gone false b c e = sym e

        only : (q : PageId) (o : Option PageId) → changed_at t.slots s ≡ o
            → (is_page_of q (changed_page new) || (not (is_page_of q (changed_at t.slots s)) && has set q)) ≡ (is_page_of q (changed_page new) || rest q)
        only q o is = decide (is_page_of q (changed_at t.slots s)) _
            (λ hit.
            ap (λ b. is_page_of q (changed_page new) || (not b && has set q)) hit
            ∙ ap (λ b. is_page_of q (changed_page new) || b) (sym (rest_gone q o is (sym (ap (is_page_of q) is) ∙ hit))))
            (λ miss.
            ap (λ b. is_page_of q (changed_page new) || (not b && has set q)) miss
            ∙ ap (λ b. is_page_of q (changed_page new) || b) (old_parts q ∙ ap (λ b. b || rest q) miss))
          where
            rest_gone : (q : PageId) (o : Option PageId) → changed_at t.slots s ≡ o → is_page_of q o ≡ true → rest q ≡ false
            rest_gone q None is h = absurd (true≢false (sym h))
            rest_gone q (Some p) is h = ap rest (same_name q p h) ∙ rest_without s p (page_of (slot_at t.slots s) p is)

    -- the same for what was read of the slot before and of the new one
    pub relisted_by : (new : Slot) (now : Pages) (before after : Option PageId) → before ≡ changed_at t.slots s → after ≡ changed_page new → IsDistinct nat_eq t.order
        → ((q : PageId) → has now q ≡ (is_page_of q after || (not (is_page_of q before) && has set q)))
        → length now.listed + cond (is_some before) 1 0 ≡ length set.listed + cond (is_some after) 1 0
        → length now.listed + now.room ≡ length set.listed + set.room
        → IsListed (slice_set t.slots s new) t.order now
    relisted_by new now before after was is d pages long room =
        let a = ap ones was in
        let b = ap ones is in
        relisted new now d (λ q. pages q ∙ (λ i. is_page_of q (is i) || (not (is_page_of q (was i)) && has set q))) (omega (arith, long, a, b)) room

-- what a slot has before and after, where it keeps its page
pub same_changed : (old new : Slot) → new.page ≡ old.page → (p q : PageId) → changed_page old ≡ Some p → changed_page new ≡ Some q → p ≡ q
same_changed old new page p q a b =
    let both : Some p ≡ Some q = sym (page_of old p a) ∙ sym page ∙ page_of new q b in
    grind arith

pub page_kept : (old new : Slot) → new.page ≡ old.page → (q : PageId) → changed_page new ≡ Some q → old.page ≡ Some q
page_kept old new page q b = sym page ∙ page_of new q b

-- a page that is listed before and after
pub still_listed : (set : Pages) (before after : Option PageId) (p r : PageId) → before ≡ Some p → after ≡ Some r → p ≡ r → has set p ≡ true
    → (q : PageId) → has set q ≡ (is_page_of q after || (not (is_page_of q before) && has set q))
still_listed set before after p r b a same there q =
    decide (same_page q p) _
    (λ h. ap (has set) (same_name q p h) ∙ there ∙ sym (ap (λ o. is_page_of q o || (not (is_page_of q before) && has set q)) a ∙ ap (λ x. same_page q x || (not (is_page_of q before) && has set q)) (sym same) ∙ ap (λ c. c || (not (is_page_of q before) && has set q)) h))
    (λ h. sym (ap (λ o. is_page_of q o || (not (is_page_of q before) && has set q)) a ∙ ap (λ x. same_page q x || (not (is_page_of q before) && has set q)) (sym same) ∙ ap (λ c. c || (not (is_page_of q before) && has set q)) h
    ∙ ap (λ o. not (is_page_of q o) && has set q) b ∙ ap (λ c. not c && has set q) h))

-- ---- the order changes

pub listed_last : (slots : List Slot) (order now : List ℕ) (set : Pages) (s : ℕ) → IsListed slots order set → IsDistinct nat_eq order → is_in s order ≡ true → now ≡ used_last s order → IsListed slots now set
listed_last slots order now set s listed d h is = subst (λ o. IsListed slots o set) (sym is) (record {
  listed = λ q. listed.listed q ∙ sym (last_among (changed_at slots) q s order h);
  count = listed.count ∙ sym (last_length (changed_at slots) s order d h);
  room = listed.room;
})

-- ---- no slot is changed

pub listed_none : (slots : List Slot) (order : List ℕ) (set : Pages) → ((s : ℕ) → slot_at slots s ≡ free_slot) → set.listed ≡ [] → set.room ≡ length slots → IsListed slots order set
listed_none slots order set free none room =
    let empty : changed_pages slots order ≡ [] = none_left (changed_at slots) order (λ x. ap changed_page (free x)) in
    let long = ap length none in
    record {
      listed = λ q. ap (is_among q) (none ∙ sym empty);
      count = ap length (none ∙ sym empty);
      room = omega (arith, long, room);
    }

-- as many pages as changed entries
pub count_changed : (t : Table) → length (changed_pages t.slots t.order) ≡ count_by (λ (e : Entry). e.changed) (entries_in t)
count_changed t = as_counted t.order ∙ count_is t
  where
    E : ℕ → Option PageId
    E = changed_at t.slots

    as_counted : (order : List ℕ) → length (filter_map E order) ≡ count_by (λ f. is_some (E f)) order
    as_counted [] = refl
    as_counted (x ∷ xs) =
        let ih = as_counted xs in
        more (E x) ∙ (λ i. cond (is_some (E x)) 1 0 + ih i) ∙ sym (sum_by-cons (λ y. cond (is_some (E y)) 1 0) x xs)
      where
        more : (o : Option PageId) → length (cons_option o (filter_map E xs)) ≡ cond (is_some o) 1 0 + length (filter_map E xs)
        more None = grind arith
        more (Some p) = grind arith
