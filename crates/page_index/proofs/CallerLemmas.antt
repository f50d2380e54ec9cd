-- What owners of places cite.
use Rattle.std.proofs.Common.{◌≡◌, ◌≢◌, ℕ, zero, suc, ◌<◌, ◌≤◌, Bool, true, false, cond, List, [], ◌∷◌, length, get_or, Option, Some, None, refl, sym, ap, subst, ◌∙◌, true≢false, arith, nat_eq, slice_get, slice_set}
use Rattle.std.specs.Prelude.{position}
use Rattle.std.specs.List.{position_or_len}
use Rattle.std.specs.Option.{option_map_or}
use Rattle.std.proofs.lemmas.Grind.{common_steps}
use Rattle.std.proofs.lemmas.Bool.{eqb-true}
use Rattle.std.proofs.lemmas.List.{length-set}
use Rattle.std.proofs.lemmas.List.Quantifiers.{position-Some}
use Rattle.std.proofs.lemmas.List.Sums.{fails_before_first}
use Rattle.std.proofs.lemmas.Option.{slice_get-get_or, slice_get_within, get_or_from_slice_get, none-some, same_Some}
use Rattle.ds_base.specs.declared.names.PageId.{PageId}
use Rattle.ds_base.specs.Pages.{same_page}
use Rattle.page_index.specs.Places.{is_page, page_at, find_place, AreApart, Index, IsIndexOf}

-- ---- pages

pub same_name : (a b : PageId) → same_page a b ≡ true → a ≡ b
same_name a b h =
    let p : a.set ≡ b.set = grind arith in
    let q : a.number ≡ b.number = grind arith in
    λ i. record { set = p i; number = q i }

pub own : (id : PageId) → same_page id id ≡ true
own id = grind arith

pub is_page_so : (id : PageId) (o : Option PageId) → is_page id o ≡ true → o ≡ Some id
is_page_so id None h = absurd (true≢false (sym h))
is_page_so id (Some p) h = ap (λ q. Some q) (sym (same_name id p h))

pub so_is_page : (id : PageId) (o : Option PageId) → o ≡ Some id → is_page id o ≡ true
so_is_page id o e = ap (is_page id) e ∙ own id

-- ---- one place changes

pub get_set : {X : Type 0} (xs : List X) (i : ℕ) (v : X) (k : ℕ) → i < length xs → slice_get (slice_set xs i v) k ≡ cond (nat_eq i k) (Some v) (slice_get xs k)
get_set [] i v k l = absurd (omega (arith, l))
get_set (x ∷ xs) zero v zero l = refl
get_set (x ∷ xs) zero v (suc k) l = grind arith
get_set (x ∷ xs) (suc i) v zero l = grind arith
get_set (x ∷ xs) (suc i) v (suc k) l = let ih = get_set xs i v k (omega (arith, l)) in grind (arith, ih)

past_end : {X : Type 0} (p : X → Bool) (xs : List X) → position p xs ≡ None → length xs ≤ position_or_len p xs
past_end p xs none = grind (arith, common_steps)

module _ {T : Type 0} (page : T → Option PageId) where
  pub page_set : (places : List T) (f : ℕ) (new : T) (g : ℕ) → f < length places → page_at page (slice_set places f new) g ≡ cond (nat_eq f g) (page new) (page_at page places g)
  page_set places f new g l = ap (λ o. option_map_or page o None) (get_set places f new g l) ∙ by (nat_eq f g)
    where
      by : (b : Bool) → option_map_or page (cond b (Some new) (slice_get places g)) None ≡ cond b (page new) (page_at page places g)
      by true = refl
      by false = refl

  -- the page at a place after a change comes from the change, or was there before
  pub page_was : (places : List T) (f : ℕ) (new : T) (g : ℕ) (id : PageId) (P : Type 0) → f < length places → page_at page (slice_set places f new) g ≡ Some id
      → (f ≡ g → page new ≡ Some id → P) → (g ≢ f → page_at page places g ≡ Some id → P) → P
  page_was places f new g id P l h here there = by (nat_eq f g) refl (sym (page_set places f new g l) ∙ h)
    where
      by : (b : Bool) → nat_eq f g ≡ b → cond (nat_eq f g) (page new) (page_at page places g) ≡ Some id → P
      by true e is = here (eqb-true f g e) (sym (ap (λ b. cond b (page new) (page_at page places g)) e) ∙ is)
      by false e is = there (apart f g e) (sym (ap (λ b. cond b (page new) (page_at page places g)) e) ∙ is)
        where
          apart : (f g : ℕ) → nat_eq f g ≡ false → g ≢ f
          apart f g e = grind arith

  -- ---- a page is looked for

  at_place : (places : List T) (f : ℕ) (id : PageId) (d : T) → f < length places → is_page id (page (get_or places f d)) ≡ true → page_at page places f ≡ Some id
  at_place places f id d l t = ap (λ o. option_map_or page o None) (slice_get-get_or places f d l) ∙ is_page_so id (page (get_or places f d)) t

  pub finds : (places : List T) (id : PageId) (f : ℕ) → find_place page places id ≡ Some f → page_at page places f ≡ Some id
  finds [] id f h = absurd (none-some f h)
  finds (x ∷ xs) id f h = let p = position-Some (λ place. is_page id (page place)) (x ∷ xs) f x h in at_place (x ∷ xs) f id x p.0 p.1

  pub misses : (places : List T) (id : PageId) (f : ℕ) → find_place page places id ≡ None → page_at page places f ≡ Some id → ⊥
  misses places id f none h = by (slice_get places f) refl h
    where
      by : (o : Option T) → slice_get places f ≡ o → option_map_or page o None ≡ Some id → ⊥
      by None e is = none-some id is
      by (Some x) e is =
          let l = slice_get_within places f x e in
          let past = past_end (λ place. is_page id (page place)) places none in
          true≢false (sym (ap (λ place. is_page id (page place)) (get_or_from_slice_get places f x x e) ∙ so_is_page id (page x) is)
          ∙ fails_before_first (λ place. is_page id (page place)) places f x (omega (arith, past, l)))

  pub found_at : (places : List T) → AreApart page places → (f : ℕ) (id : PageId) → page_at page places f ≡ Some id → find_place page places id ≡ Some f
  found_at places apart f id h = by (find_place page places id) refl
    where
      by : (o : Option ℕ) → find_place page places id ≡ o → find_place page places id ≡ Some f
      by None e = absurd (misses places id f e h)
      by (Some g) e = e ∙ ap (λ k. Some k) (apart g f id (finds places id g e) h)

  -- ---- pages stay apart

  pub apart_put : (places : List T) (f : ℕ) (new : T) (id : PageId) → f < length places → page new ≡ Some id → AreApart page places
      → ((g : ℕ) → find_place page places id ≡ Some g → g ≡ f) → AreApart page (slice_set places f new)
  apart_put places f new id l is apart alone g k p s t =
      let no : (n : ℕ) → n ≢ f → page new ≡ Some p → page_at page places n ≡ Some p → ⊥ =
      λ n differs own h. differs (alone n (found_at places apart n id (h ∙ sym own ∙ is))) in
      page_was places f new g p _ l s
      (λ here own. page_was places f new k p _ l t
      (λ too again. sym here ∙ too)
      (λ differs h. absurd (no k differs own h)))
      (λ differs h. page_was places f new k p _ l t
      (λ here own. absurd (no g differs own h))
      (λ other i. apart g k p h i))

  -- the place has no other page than before
  pub apart_less : (places : List T) (f : ℕ) (new : T) → f < length places → AreApart page places → ((id : PageId) → page new ≡ Some id → page_at page places f ≡ Some id) → AreApart page (slice_set places f new)
  apart_less places f new l apart less g k p s t = apart g k p (was g s) (was k t)
    where
      was : (n : ℕ) → page_at page (slice_set places f new) n ≡ Some p → page_at page places n ≡ Some p
      was n h = page_was places f new n p _ l h (λ here is. subst (λ m. page_at page places m ≡ Some p) here (less p is)) (λ differs is. is)

-- ---- an index of places

module _ {T : Type 0} (page : T → Option PageId) (places : List T) (index : Index) (kept : IsIndexOf page places index) where
  pub apart_by : AreApart page places
  apart_by f g id s t = same_Some f g (sym (kept.leads f id s) ∙ kept.leads g id t)

  -- the place has no other page than before
  pub index_less : (f : ℕ) (new : T) → f < length places → ((id : PageId) → page new ≡ Some id → page_at page places f ≡ Some id) → IsIndexOf page (slice_set places f new) index
  index_less f new l less = record {
    leads = λ g id h. page_was page places f new g id _ l h (λ here is. kept.leads f id (less id is) ∙ ap (λ k. Some k) here) (λ differs is. kept.leads g id is);
    room = subst (λ n. n ≤ index.size) (sym (length-set places f new)) kept.room;
  }
