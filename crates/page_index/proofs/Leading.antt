-- What an index leads to, while its names and the places change.
use Rattle.std.proofs.Common.{◌≡◌, ◌≢◌, ℕ, ◌<◌, ◌≤◌, Bool, true, false, cond, List, length, Option, Some, None, refl, sym, ap, subst, ◌∙◌, true≢false, arith, get_or, slice_get, slice_set}
use Rattle.std.specs.Prelude.{if◌then◌else◌, IfSome}
use Rattle.std.specs.Option.{option_map_or}
use Rattle.std.specs.Map.{lookup}
use Rattle.std.proofs.lemmas.List.{length-set}
use Rattle.std.proofs.lemmas.Option.{none-some, same_Some, slice_get_read, slice_get_within}
use Rattle.ds_base.specs.declared.names.PageId.{PageId}
use Rattle.indexmap.specs.IndexMap.{IndexMap, Updates}
use Rattle.ds_base.specs.Pages.{same_page}
use Rattle.page_index.specs.Places.{is_page, same_key, key_of, page_at, find_place, AreApart, LeadsTo, IsIndexOf, Index, confirmed}
use Rattle.page_index.proofs.CallerLemmas.{same_name, own, is_page_so, so_is_page, page_was, finds, misses, found_at}

abbrev Names : Type 0
Names = List ((ℕ × ℕ) × ℕ)

module _ {T : Type 0} (page : T → Option PageId) (places : List T) where
  pub look_up : (id : PageId) (o : Option ℕ) → ((g : ℕ) → page_at page places g ≡ Some id → o ≡ Some g) → confirmed page places id o ≡ find_place page places id
  look_up id o leads = by o (find_place page places id) refl leads
    where
      here : (f : ℕ) → page_at page places f ≡ Some id → confirmed page places id (Some f) ≡ Some f
      here f h = ap (λ b. if b then Some f else None) (so_is_page id (page_at page places f) h)

      named : (f : ℕ) (b : Bool) → is_page id (page_at page places f) ≡ b → find_place page places id ≡ None → confirmed page places id (Some f) ≡ find_place page places id
      named f true h none = absurd (misses page places id f none (is_page_so id (page_at page places f) h))
      named f false h none = ap (λ b. if b then Some f else None) h ∙ sym none

      by : (o r : Option ℕ) → find_place page places id ≡ r → ((g : ℕ) → page_at page places g ≡ Some id → o ≡ Some g) → confirmed page places id o ≡ find_place page places id
      by None None e l = sym e
      by None (Some g) e l = absurd (none-some g (l g (finds page places id g e)))
      by (Some f) None e l = named f (is_page id (page_at page places f)) refl e
      by (Some f) (Some g) e l = ap (confirmed page places id) (l g (finds page places id g e)) ∙ here g (finds page places id g e) ∙ sym e

  pub page_read : (at : ℕ) (x : T) (o : Option PageId) → at < length places → x ≡ get_or places at x → o ≡ page x → page_at page places at ≡ o
  page_read at x o l e is = ap (λ p. option_map_or page p None) (slice_get_read places (length places) at x refl l e) ∙ sym is

  pub apart_so : (names : Names) → ((f : ℕ) (id : PageId) → LeadsTo page places names f id) → AreApart page places
  apart_so names leads f g id s t = same_Some f g (sym (leads f id s) ∙ leads g id t)

  pub found_in : (id : PageId) → IfSome (find_place page places id) (λ f. f < length places)
  found_in id = by (find_place page places id) refl
    where
      within : (f : ℕ) (o : Option T) → slice_get places f ≡ o → option_map_or page o None ≡ Some id → f < length places
      within f None e h = absurd (none-some id h)
      within f (Some x) e h = slice_get_within places f x e

      by : (o : Option ℕ) → find_place page places id ≡ o → IfSome o (λ f. f < length places)
      by None e = tt
      by (Some f) e = within f (slice_get places f) refl (finds page places id f e)

  -- ---- a page is entered

  pub entered : {S : Type 0} (old new : IndexMap (ℕ × ℕ) ℕ S) (at : ℕ) (id : PageId) → Updates same_key old new (key_of id) (Some at) → AreApart page places → page_at page places at ≡ Some id
      → (f : ℕ) (p : PageId) → (f ≢ at → LeadsTo page places old.entries f p) → LeadsTo page places new.entries f p
  entered old new at id u apart there f p others h = by (same_page id p) refl
    where
      by : (b : Bool) → same_page id p ≡ b → lookup (same_key (key_of p)) new.entries ≡ Some f
      by true e =
          u.0 (key_of p)
          ∙ ap (λ b. cond b (Some at) (lookup (same_key (key_of p)) old.entries)) e
          ∙ ap (λ k. Some k) (apart at f p (there ∙ ap (λ q. Some q) (same_name id p e)) h)
      by false e =
          let no : f ≢ at = λ is. true≢false (sym (ap (same_page id) (sym (same_Some id p (sym there ∙ ap (page_at page places) (sym is) ∙ h))) ∙ own id) ∙ e) in
          u.0 (key_of p)
          ∙ ap (λ b. cond b (Some at) (lookup (same_key (key_of p)) old.entries)) e
          ∙ others no h

  -- a page is put into a place, after it was entered
  pub put_leads : {S : Type 0} (old new : IndexMap (ℕ × ℕ) ℕ S) (at : ℕ) (id : PageId) (place : T) → Updates same_key old new (key_of id) (Some at) → at < length places
      → ((f : ℕ) (p : PageId) → LeadsTo page places old.entries f p) → ((f : ℕ) → find_place page places id ≡ Some f → f ≡ at) → page place ≡ Some id
      → (f : ℕ) (p : PageId) → LeadsTo page (slice_set places at place) new.entries f p
  put_leads old new at id place u l leads alone is f p h =
      page_was page places at place f p _ l h
      (λ here own_page. u.0 (key_of p)
      ∙ ap (λ b. cond b (Some at) (lookup (same_key (key_of p)) old.entries)) (ap (same_page id) (sym (same_Some id p (sym is ∙ own_page))) ∙ own id)
      ∙ ap (λ k. Some k) here)
      (λ differs there. u.0 (key_of p)
      ∙ ap (λ b. cond b (Some at) (lookup (same_key (key_of p)) old.entries)) (other differs there (same_page id p) refl)
      ∙ leads f p there)
    where
      other : f ≢ at → page_at page places f ≡ Some p → (b : Bool) → same_page id p ≡ b → same_page id p ≡ false
      other differs there false e = e
      other differs there true e =
          absurd (differs (alone f (found_at page places (apart_so old.entries leads) f id (there ∙ ap (λ q. Some q) (sym (same_name id p e))))))

  pub index_put : {S : Type 0} (old new : IndexMap (ℕ × ℕ) ℕ S) (size at : ℕ) (id : PageId) → Updates same_key old new (key_of id) (Some at) → at < length places → length places ≤ size
      → ((f : ℕ) (p : PageId) → LeadsTo page places old.entries f p) → ((f : ℕ) → find_place page places id ≡ Some f → f ≡ at)
      → (place : T) → page place ≡ Some id → IsIndexOf page (slice_set places at place) (record { names = new.entries; size = size })
  index_put old new size at id u l fits leads alone place is = record {
    leads = put_leads old new at id place u l leads alone is;
    room = subst (λ n. n ≤ size) (sym (length-set places at place)) fits;
  }
