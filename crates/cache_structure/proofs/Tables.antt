-- What the moves of a table make of its entries.
use Rattle.std.proofs.Common.{◌≡◌, ◌⊎◌, inl, inr, ℕ, zero, suc, ◌+◌, ◌^◌, ◌<◌, ◌≤◌, Bool, true, false, cond, List, [], ◌∷◌, ◌++◌, map, length, replicate, Option, Some, None, refl, sym, ap, subst, ◌∙◌, true≢false, arith, nat_eq, slice_get, slice_set, get_or}
use Rattle.std.specs.Prelude.{find, filter_map, is_some, is_none, unwrap_or, IfSome, nat_lt}
use Rattle.std.specs.List.{IsDistinct, cons_option}
use Rattle.std.specs.Option.{option_map_or, option_map}
use Rattle.std.proofs.lemmas.Bool.{eqb-true, eq-eqb}
use Rattle.std.proofs.lemmas.List.{length-set, length-append, length-replicate}
use Rattle.std.proofs.lemmas.List.Elements.{filter_map-append}
use Rattle.std.proofs.lemmas.Option.{slice_get_read, slice_get_within, slice_get_past, none-some}
use Rattle.page_index.specs.Places.{Index, IsIndexOf, page_at}
use Rattle.page_index.specs.Uses.{without as all_but, newest as used_last, may_take, IsOrderOf}
use Rattle.page_index.proofs.CallerLemmas.{own, is_page_so, so_is_page, get_set, finds, misses, apart_by, index_less}
use Rattle.ds_base.specs.declared.names.PageId.{PageId}
use Rattle.cache_structure.specs.declared.slot.Slot.{Slot}
use Rattle.cache_structure.specs.Entries.{Entry, fresh, is_of, is_idle, entry_of, without, newest, at_entry, written_with, locked_by, cast_out, freed_of}
use Rattle.cache_structure.specs.Slots.{Table, page_of, holds_at, rewritten, locked_for, unlocked, freed_slot, free_slot, holding, holds, slot_at, find_slot, entry_in, entry_at, entries_in, bytes_at, is_idle_slot, page_in}
use Rattle.cache_structure.specs.Frames.{is_page}
use Rattle.cache_structure.specs.Kept.{IsKept}
use Rattle.cache_structure.proofs.Views.{others_same, page_leaves, nothing_leaves, stays_without, finds_entry, finds_none, mapped, as_many, none_left, first_passing, one_less}

-- ---- one slot

pub slot_read : (slots : List Slot) (s : ℕ) (x : Slot) → s < length slots → x ≡ get_or slots s x → x ≡ slot_at slots s
slot_read slots s x l e = sym (ap (λ o. unwrap_or o free_slot) (slice_get_read slots (length slots) s x refl l e))

pub slot_set : (slots : List Slot) (s : ℕ) (new : Slot) (x : ℕ) → s < length slots → slot_at (slice_set slots s new) x ≡ cond (nat_eq s x) new (slot_at slots x)
slot_set slots s new x l = ap (λ o. unwrap_or o free_slot) (get_set slots s new x l) ∙ by (nat_eq s x)
  where
    by : (b : Bool) → unwrap_or (cond b (Some new) (slice_get slots x)) free_slot ≡ cond b new (slot_at slots x)
    by true = refl
    by false = refl

is_there : (slot : Slot) (bytes : Option (List ℕ)) → is_some (entry_in slot bytes) ≡ is_some slot.page
is_there slot bytes = by slot.page refl
  where
    by : (o : Option PageId) → slot.page ≡ o → is_some (entry_in slot bytes) ≡ is_some slot.page
    by None e = grind arith
    by (Some p) e = grind arith

pub slot_here : (slots : List Slot) (s : ℕ) (new : Slot) → s < length slots → slot_at (slice_set slots s new) s ≡ new
slot_here slots s new l = slot_set slots s new s l ∙ ap (λ b. cond b new (slot_at slots s)) (same s)
  where
    same : (n : ℕ) → nat_eq n n ≡ true
    same n = grind arith

-- the entry in a slot is one of the page exactly where the slot holds it
pub seen : (t : Table) (s : ℕ) (id : PageId) → option_map_or (is_of id) (entry_at t s) false ≡ holds_at t.slots s id
seen t s id = page (slot_at t.slots s) (slot_at t.slots s).page refl
  where
    page : (slot : Slot) (o : Option PageId) → slot.page ≡ o → option_map_or (is_of id) (entry_in slot (slice_get t.pages s)) false ≡ holds id slot
    page slot None e = grind arith
    page slot (Some p) e = grind arith

seen_so : (t : Table) (s : ℕ) (id : PageId) (e : Entry) → entry_at t s ≡ Some e → is_of id e ≡ holds_at t.slots s id
seen_so t s id e is = sym (ap (λ o. option_map_or (is_of id) o false) is) ∙ seen t s id

some_of : (id : PageId) (o : Option Entry) → option_map_or (is_of id) o false ≡ true → (e : Entry) × (o ≡ Some e)
some_of id None h = absurd (true≢false (sym h))
some_of id (Some e) h = (e, refl)

pub there : (t : Table) (s : ℕ) (id : PageId) → holds_at t.slots s id ≡ true → (e : Entry) × (entry_at t s ≡ Some e)
there t s id h = some_of id (entry_at t s) (seen t s id ∙ h)

pub page_at_is : (slots : List Slot) (s : ℕ) → page_at page_of slots s ≡ page_in slots s
page_at_is slots s = by (slice_get slots s)
  where
    by : (o : Option Slot) → option_map_or page_of o None ≡ page_of (unwrap_or o free_slot)
    by None = refl
    by (Some slot) = refl

stands : (slots : List Slot) (s : ℕ) (id : PageId) → holds_at slots s id ≡ true → page_at page_of slots s ≡ Some id
stands slots s id h = page_at_is slots s ∙ is_page_so id (page_in slots s) h

pub holds_found : (slots : List Slot) (id : PageId) (s : ℕ) → find_slot slots id ≡ Some s → holds_at slots s id ≡ true
holds_found slots id s e = so_is_page id (page_in slots s) (sym (page_at_is slots s) ∙ finds page_of slots id s e)

-- a slot may be taken exactly where its entry may be reclaimed
pub idle_same : (slots : List Slot) (f : ℕ) → may_take is_idle_slot slots f ≡ is_idle_slot (slot_at slots f)
idle_same slots f = by (slice_get slots f)
  where
    by : (o : Option Slot) → option_map_or is_idle_slot o false ≡ is_idle_slot (unwrap_or o free_slot)
    by None = refl
    by (Some slot) = refl

module _ (t : Table) (places : Index) (used : ℕ) (kept : IsKept t places used) where
  one_slot : (s x : ℕ) (id : PageId) → holds_at t.slots s id ≡ true → holds_at t.slots x id ≡ true → s ≡ x
  one_slot s x id h at = apart_by page_of t.slots places kept.index s x id (stands t.slots s id h) (stands t.slots x id at)

  -- no other slot holds the page
  pub own_page : (s : ℕ) (id : PageId) → holds_at t.slots s id ≡ true → (x : ℕ) (e : Entry) → entry_at t x ≡ Some e → is_of id e ≡ nat_eq s x
  own_page s id h x e is = by (nat_eq s x) (holds_at t.slots x id) refl refl
    where
      by : (same held : Bool) → nat_eq s x ≡ same → holds_at t.slots x id ≡ held → is_of id e ≡ nat_eq s x
      by true held same at = seen_so t x id e is ∙ ap (λ k. holds_at t.slots k id) (sym (eqb-true s x same)) ∙ h ∙ sym same
      by false false same at = seen_so t x id e is ∙ at ∙ sym same
      by false true same at =
          absurd (true≢false (sym (eq-eqb s x (one_slot s x id h at)) ∙ same))

  pub pages_apart : (f s : ℕ) (id : PageId) → page_in t.slots f ≡ Some id → is_page id (page_in t.slots s) ≡ nat_eq s f
  pages_apart f s id is = by (nat_eq s f) (holds_at t.slots s id) refl refl
    where
      there : holds_at t.slots f id ≡ true
      there = so_is_page id (page_in t.slots f) is

      by : (same held : Bool) → nat_eq s f ≡ same → holds_at t.slots s id ≡ held → is_page id (page_in t.slots s) ≡ nat_eq s f
      by true held same at = ap (λ k. holds_at t.slots k id) (eqb-true s f same) ∙ there ∙ sym same
      by false false same at = at ∙ sym same
      by false true same at = absurd (true≢false (sym (eq-eqb s f (one_slot s f id at there)) ∙ same))

  own_entry : (s : ℕ) (e : Entry) → entry_at t s ≡ Some e → (x : ℕ) (f : Entry) → entry_at t x ≡ Some f → is_of e.page f ≡ nat_eq s x
  own_entry s e is = own_page s e.page (sym (seen_so t s e.page e is) ∙ own e.page)

  none_of : (id : PageId) → find_slot t.slots id ≡ None → (x : ℕ) (e : Entry) → entry_at t x ≡ Some e → is_of id e ≡ false
  none_of id none x e is = by (holds_at t.slots x id) refl
    where
      by : (b : Bool) → holds_at t.slots x id ≡ b → is_of id e ≡ false
      by true h = absurd (misses page_of t.slots id x none (stands t.slots x id h))
      by false h = seen_so t x id e is ∙ h

  pub in_order : (s : ℕ) (id : PageId) → holds_at t.slots s id ≡ true → s < length t.slots
  in_order s id h = by (slice_get t.slots s) refl
    where
      by : (o : Option Slot) → slice_get t.slots s ≡ o → s < length t.slots
      by None e = absurd (true≢false (sym h ∙ ap (λ o. holds id (unwrap_or o free_slot)) e))
      by (Some x) e = slice_get_within t.slots s x e

  -- ---- a page is looked up

  pub found : (id : PageId) → entry_of (entries_in t) id ≡ option_map_or (entry_at t) (find_slot t.slots id) None
  found id = by (find_slot t.slots id) refl
    where
      by : (o : Option ℕ) → find_slot t.slots id ≡ o → entry_of (entries_in t) id ≡ option_map_or (entry_at t) o None
      by None e = finds_none (entry_at t) id t.order (none_of id e)
      by (Some s) e =
          let h = holds_found t.slots id s e in
          let is = there t s id h in
          finds_entry (entry_at t) s id is.0 t.order (own_page s id h) is.1 (kept.whole.covers s (in_order s id h))

  pub found_there : (id : PageId) → IfSome (find_slot t.slots id) (λ s. holds_at t.slots s id ≡ true)
  found_there id = by (find_slot t.slots id) refl
    where
      by : (o : Option ℕ) → find_slot t.slots id ≡ o → IfSome o (λ s. holds_at t.slots s id ≡ true)
      by None e = tt
      by (Some s) e = holds_found t.slots id s e

  -- ---- an entry is used

  pub touched : (s : ℕ) (order : List ℕ) → (id : PageId) → holds_at t.slots s id ≡ true → order ≡ used_last s t.order
      → filter_map (entry_at t) order ≡ option_map_or (λ e. newest e (entries_in t)) (entry_at t s) (entries_in t)
  touched s order id h is =
      let e = there t s id h in
      ap (filter_map (entry_at t)) is
      ∙ filter_map-append (entry_at t) (all_but s t.order) (s ∷ [])
      ∙ (λ i. page_leaves (entry_at t) s e.0.page t.order (own_entry s e.0 e.1) i ++ cons_option (e.1 i) [])
      ∙ sym (ap (λ o. option_map_or (λ e. newest e (entries_in t)) o (entries_in t)) e.1)

  -- ---- an entry is made

  pub left : (s : ℕ) → filter_map (entry_at t) (all_but s t.order) ≡ option_map_or (λ e. without e.page (entries_in t)) (entry_at t s) (entries_in t)
  left s = by (entry_at t s) refl
    where
      by : (o : Option Entry) → entry_at t s ≡ o → filter_map (entry_at t) (all_but s t.order) ≡ option_map_or (λ e. without e.page (entries_in t)) o (entries_in t)
      by None e = nothing_leaves (entry_at t) s t.order e
      by (Some e) is = page_leaves (entry_at t) s e.page t.order (own_entry s e is)

  made_entry : (s : ℕ) (id : PageId) → s < length t.slots → (x : ℕ) → entry_at (record t { slots = slice_set t.slots s (holding id) }) x ≡ cond (nat_eq s x) (Some (fresh id)) (entry_at t x)
  made_entry s id l x = ap (λ slot. entry_in slot (slice_get t.pages x)) (slot_set t.slots s (holding id) x l) ∙ by (nat_eq s x)
    where
      by : (b : Bool) → entry_in (cond b (holding id) (slot_at t.slots x)) (slice_get t.pages x) ≡ cond b (Some (fresh id)) (entry_at t x)
      by true = refl
      by false = refl

  pub made : (s : ℕ) (id : PageId) (order : List ℕ) → s < length t.slots → find_slot t.slots id ≡ None → order ≡ used_last s t.order
      → entries_in (record { slots = slice_set t.slots s (holding id); pages = t.pages; order = order })
      ≡ newest (fresh id) (option_map_or (λ e. without e.page (entries_in t)) (entry_at t s) (entries_in t))
  made s id order l none is =
      let E = entry_at t in
      let F : ℕ → Option Entry = entry_at (record t { slots = slice_set t.slots s (holding id) }) in
      let at : F s ≡ Some (fresh id) = made_entry s id l s ∙ ap (λ b. cond b (Some (fresh id)) (E s)) (itself s) in
      ap (filter_map F) is
      ∙ filter_map-append F (all_but s t.order) (s ∷ [])
      ∙ (λ i. others_same E F s t.order (λ x no. made_entry s id l x ∙ ap (λ b. cond b (Some (fresh id)) (E x)) no) i ++ cons_option (at i) [])
      ∙ ap (λ es. es ++ fresh id ∷ []) (sym (stays_without E id (all_but s t.order) (none_of id none)) ∙ ap (without id) (left s))
    where
      itself : (n : ℕ) → nat_eq n n ≡ true
      itself n = grind arith

  -- ---- an entry changes

  pub changed : (s : ℕ) (id : PageId) (new : Table) (change : Entry → Entry) → holds_at t.slots s id ≡ true → new.order ≡ t.order
      → ((x : ℕ) → nat_eq s x ≡ false → entry_at new x ≡ entry_at t x) → entry_at new s ≡ option_map change (entry_at t s)
      → entries_in new ≡ at_entry id change (entries_in t)
  changed s id new change h order others here =
      ap (filter_map (entry_at new)) order ∙ mapped (entry_at t) (entry_at new) (λ e. cond (is_of id e) (change e) e) t.order (λ x. by (nat_eq s x) x refl)
    where
      same : (x : ℕ) (b : Bool) (o : Option Entry) → entry_at t x ≡ o → nat_eq s x ≡ b → cond b (option_map change o) o ≡ option_map (λ e. cond (is_of id e) (change e) e) o
      same x true None e at = refl
      same x false None e at = refl
      same x true (Some e) is at = sym (ap (λ b. Some (cond b (change e) e)) (own_page s id h x e is ∙ at))
      same x false (Some e) is at = sym (ap (λ b. Some (cond b (change e) e)) (own_page s id h x e is ∙ at))

      by : (b : Bool) (x : ℕ) → nat_eq s x ≡ b → entry_at new x ≡ option_map (λ e. cond (is_of id e) (change e) e) (entry_at t x)
      by true x at =
          ap (entry_at new) (sym (eqb-true s x at)) ∙ here ∙ ap (λ k. option_map change (entry_at t k)) (eqb-true s x at) ∙ same x true (entry_at t x) refl at
      by false x at = others x at ∙ same x false (entry_at t x) refl at

  -- ---- the first that may be reclaimed

  idle_seen : (s : ℕ) → is_idle_slot (slot_at t.slots s) ≡ option_map_or is_idle (entry_at t s) false
  idle_seen s = by (slot_at t.slots s).page refl
    where
      by : (o : Option PageId) → (slot_at t.slots s).page ≡ o → is_idle_slot (slot_at t.slots s) ≡ option_map_or is_idle (entry_at t s) false
      by None e = grind arith
      by (Some p) e = grind arith

  pub idle : (r : Option ℕ) → r ≡ find (λ f. is_idle_slot (slot_at t.slots f)) t.order → find is_idle (entries_in t) ≡ option_map_or (entry_at t) r None
  idle r is = first_passing (entry_at t) is_idle (λ f. is_idle_slot (slot_at t.slots f)) t.order idle_seen ∙ ap (λ o. option_map_or (entry_at t) o None) (sym is)

  -- ---- what is kept

  length_last : (s : ℕ) → length (filter_map (entry_at t) (all_but s t.order ++ s ∷ [])) ≡ length (filter_map (entry_at t) (all_but s t.order)) + cond (is_some (entry_at t s)) 1 0
  length_last s =
      ap length (filter_map-append (entry_at t) (all_but s t.order) (s ∷ []))
      ∙ length-append (filter_map (entry_at t) (all_but s t.order)) (cons_option (entry_at t s) [])
      ∙ ap (λ n. length (filter_map (entry_at t) (all_but s t.order)) + n) (one (entry_at t s))
    where
      one : (o : Option Entry) → length (cons_option o []) ≡ cond (is_some o) 1 0
      one None = refl
      one (Some e) = refl

  in_place : (s : ℕ) → s < length t.slots → IsDistinct nat_eq t.order → cond (is_some (entry_at t s)) 1 0 + length (filter_map (entry_at t) (all_but s t.order)) ≡ used
  in_place s l d = one_less (entry_at t) s t.order d (kept.whole.covers s l) ∙ kept.count

  pub kept_touched : (s : ℕ) (order : List ℕ) → s < length t.slots → IsDistinct nat_eq t.order → order ≡ used_last s t.order → IsOrderOf (length t.slots) order → IsKept (record t { order = order }) places used
  kept_touched s order l d is whole =
      let a = length_last s in
      let b = in_place s l d in
      let count : length (filter_map (entry_at t) (used_last s t.order)) ≡ used = omega (arith, a, b) in
      subst (λ o. IsKept (record t { order = o }) places used) (sym is) (record {
        same = kept.same;
        small = kept.small;
        whole = subst (IsOrderOf (length t.slots)) is whole;
        index = kept.index;
        count = count;
        free = kept.free;
        at_most = kept.at_most;
      })

  -- the slots and the storage change, and no page
  pub kept_changed : (new : Table) → new.order ≡ t.order → length new.slots ≡ length t.slots → length new.pages ≡ length t.pages → IsIndexOf page_of new.slots places
      → ((x : ℕ) → (slot_at new.slots x).page ≡ (slot_at t.slots x).page) → IsKept new places used
  kept_changed new order long pages index page =
      record {
        same = pages ∙ kept.same ∙ sym long;
        small = subst (λ n. n < 2 ^ 32) (sym long) kept.small;
        whole = subst (λ n. IsOrderOf n new.order) (sym long) (subst (IsOrderOf (length t.slots)) (sym order) kept.whole);
        index = index;
        count = ap (λ o. length (filter_map (entry_at new) o)) order ∙ as_many (entry_at t) (entry_at new) t.order some ∙ kept.count;
        free = λ s le. page s ∙ kept.free s le;
        at_most = subst (λ n. used ≤ n) (sym long) kept.at_most;
      }
    where
      some : (x : ℕ) → is_some (entry_at new x) ≡ is_some (entry_at t x)
      some x = is_there (slot_at new.slots x) (slice_get new.pages x) ∙ ap is_some (page x) ∙ sym (is_there (slot_at t.slots x) (slice_get t.pages x))

  pub kept_made : (s : ℕ) (id : PageId) (order : List ℕ) (then : Index) (now : ℕ) → s < length t.slots → IsDistinct nat_eq t.order → order ≡ used_last s t.order
      → IsOrderOf (length t.slots) order → IsIndexOf page_of (slice_set t.slots s (holding id)) then
      → (((slot_at t.slots s).page ≡ None) × (now ≡ used + 1) × (s ≡ used)) ⊎ ((is_some (slot_at t.slots s).page ≡ true) × (now ≡ used))
      → IsKept (record { slots = slice_set t.slots s (holding id); pages = t.pages; order = order }) then now
  kept_made s id order then now l d is whole index place =
      let E = entry_at t in
      let F : ℕ → Option Entry = entry_at (record t { slots = slice_set t.slots s (holding id) }) in
      let at : F s ≡ Some (fresh id) = made_entry s id l s ∙ ap (λ b. cond b (Some (fresh id)) (E s)) (itself s) in
      let long = length-set t.slots s (holding id) in
      let facts = numbers place (is_there (slot_at t.slots s) (slice_get t.pages s)) in
      let count : length (filter_map F order) ≡ now =
      ap (λ o. length (filter_map F o)) is
      ∙ ap length (filter_map-append F (all_but s t.order) (s ∷ []) ∙ (λ i. others_same E F s t.order (λ x differs. made_entry s id l x ∙ ap (λ b. cond b (Some (fresh id)) (E x)) differs) i ++ cons_option (at i) []))
      ∙ length-append (filter_map E (all_but s t.order)) (fresh id ∷ [])
      ∙ facts.2 in
      record {
        same = kept.same ∙ sym long;
        small = subst (λ n. n < 2 ^ 32) (sym long) kept.small;
        whole = subst (λ n. IsOrderOf n order) (sym long) whole;
        index = index;
        count = count;
        free = λ x le. ap (λ (slot : Slot). slot.page) (slot_set t.slots s (holding id) x l) ∙ rest x (nat_eq s x) refl le facts.0;
        at_most = subst (λ n. now ≤ n) (sym long) facts.1;
      }
    where
      itself : (n : ℕ) → nat_eq n n ≡ true
      itself n = grind arith

      below : is_some (slot_at t.slots s).page ≡ true → s < used
      below h = by (nat_lt s used) refl
        where
          by : (b : Bool) → nat_lt s used ≡ b → s < used
          by true e = grind arith
          by false e = absurd (true≢false (sym h ∙ ap is_some (kept.free s (past e))))
            where
              past : nat_lt s used ≡ false → used ≤ s
              past e = grind arith

      numbers : (((slot_at t.slots s).page ≡ None) × (now ≡ used + 1) × (s ≡ used)) ⊎ ((is_some (slot_at t.slots s).page ≡ true) × (now ≡ used)) → is_some (entry_at t s) ≡ is_some (slot_at t.slots s).page
          → ((s < now) × (used ≤ now)) × (now ≤ length t.slots) × (length (filter_map (entry_at t) (all_but s t.order)) + 1 ≡ now)
      numbers (inl p) there =
          let one = sym (ap (λ b. cond b 1 0 + length (filter_map (entry_at t) (all_but s t.order))) (there ∙ ap is_some p.0)) ∙ in_place s l d in
          let a = p.1 in
          let b = p.2 in
          ((omega (arith, a, b), omega (arith, a)), omega (arith, a, b, l), omega (arith, one, a))
      numbers (inr p) there =
          let one = sym (ap (λ b. cond b 1 0 + length (filter_map (entry_at t) (all_but s t.order))) (there ∙ p.0)) ∙ in_place s l d in
          let a = p.1 in
          let b = below p.0 in
          let m = kept.at_most in
          ((omega (arith, a, b), omega (arith, a)), omega (arith, a, m), omega (arith, one, a))

      rest : (x : ℕ) (b : Bool) → nat_eq s x ≡ b → now ≤ x → (s < now) × (used ≤ now) → (cond (nat_eq s x) (holding id) (slot_at t.slots x)).page ≡ None
      rest x true e le f = absurd (far (eqb-true s x e) le f.0)
        where
          far : s ≡ x → now ≤ x → s < now → ⊥
          far e le lt = omega (arith, e, le, lt)
      rest x false e le f =
          ap (λ b. (cond b (holding id) (slot_at t.slots x)).page) e ∙ kept.free x (on le f.1)
        where
          on : now ≤ x → used ≤ now → used ≤ x
          on a b = omega (arith, a, b)

-- ---- one slot or its storage changes

pub rewritten_in : (slot : Slot) (b : Option (List ℕ)) (bytes : List ℕ) → entry_in (rewritten slot) (Some bytes) ≡ option_map (written_with bytes) (entry_in slot b)
rewritten_in slot b bytes = by slot.page refl
  where
    by : (o : Option PageId) → slot.page ≡ o → entry_in (rewritten slot) (Some bytes) ≡ option_map (written_with bytes) (entry_in slot b)
    by None e = grind arith
    by (Some p) e = grind arith

pub locked_in : (slot : Slot) (b : Option (List ℕ)) (member : ℕ) → entry_in (locked_for member slot) b ≡ option_map (locked_by member) (entry_in slot b)
locked_in slot b member = by slot.page refl
  where
    by : (o : Option PageId) → slot.page ≡ o → entry_in (locked_for member slot) b ≡ option_map (locked_by member) (entry_in slot b)
    by None e = grind arith
    by (Some p) e = grind arith

pub unlocked_in : (slot : Slot) (b : Option (List ℕ)) → entry_in (unlocked slot) b ≡ option_map cast_out (entry_in slot b)
unlocked_in slot b = by slot.page refl
  where
    by : (o : Option PageId) → slot.page ≡ o → entry_in (unlocked slot) b ≡ option_map cast_out (entry_in slot b)
    by None e = grind arith
    by (Some p) e = grind arith

pub freed_in : (slot : Slot) (b : Option (List ℕ)) (member : ℕ) → entry_in (freed_slot member slot) b ≡ option_map (freed_of member) (entry_in slot b)
freed_in slot b member = by slot.page (option_map_or (λ by. nat_eq by member) slot.castout false) refl refl
  where
    by : (o : Option PageId) (h : Bool) → slot.page ≡ o → option_map_or (λ by. nat_eq by member) slot.castout false ≡ h → entry_in (freed_slot member slot) b ≡ option_map (freed_of member) (entry_in slot b)
    by None true e f = grind arith
    by None false e f = grind arith
    by (Some p) true e f = grind arith
    by (Some p) false e f = grind arith

module _ (t : Table) (places : Index) (used : ℕ) (kept : IsKept t places used) where
  pub kept_put : (s : ℕ) (new : Slot) → s < length t.slots → new.page ≡ (slot_at t.slots s).page → IsKept (record t { slots = slice_set t.slots s new }) places used
  kept_put s new l page =
      kept_changed t places used kept (record t { slots = slice_set t.slots s new }) refl (length-set t.slots s new) refl
      (index_less page_of t.slots places kept.index s new l (λ id h. page_at_is t.slots s ∙ sym page ∙ h))
      (λ x. ap (λ (slot : Slot). slot.page) (slot_set t.slots s new x l) ∙ by x (nat_eq s x) refl)
    where
      by : (x : ℕ) (b : Bool) → nat_eq s x ≡ b → (cond (nat_eq s x) new (slot_at t.slots x)).page ≡ (slot_at t.slots x).page
      by x true e = ap (λ b. (cond b new (slot_at t.slots x)).page) e ∙ page ∙ ap (λ k. (slot_at t.slots k).page) (eqb-true s x e)
      by x false e = ap (λ b. (cond b new (slot_at t.slots x)).page) e

  pub kept_stored : (s : ℕ) (bytes : List ℕ) → IsKept (record t { pages = slice_set t.pages s bytes }) places used
  kept_stored s bytes = kept_changed t places used kept (record t { pages = slice_set t.pages s bytes }) refl refl (length-set t.pages s bytes) kept.index (λ x. refl)

  pub put_entries : (s : ℕ) (id : PageId) (new : Slot) (change : Entry → Entry) → s < length t.slots → holds_at t.slots s id ≡ true
      → entry_in new (slice_get t.pages s) ≡ option_map change (entry_at t s) → entries_in (record t { slots = slice_set t.slots s new }) ≡ at_entry id change (entries_in t)
  put_entries s id new change l h here =
      changed t places used kept s id (record t { slots = slice_set t.slots s new }) change h refl
      (λ x differs. ap (λ slot. entry_in slot (slice_get t.pages x)) (slot_set t.slots s new x l ∙ ap (λ b. cond b new (slot_at t.slots x)) differs))
      (ap (λ slot. entry_in slot (slice_get t.pages s)) (slot_set t.slots s new s l ∙ ap (λ b. cond b new (slot_at t.slots s)) (itself s)) ∙ here)
    where
      itself : (n : ℕ) → nat_eq n n ≡ true
      itself n = grind arith

  pub write_entries : (s : ℕ) (id : PageId) (bytes : List ℕ) → s < length t.slots → holds_at t.slots s id ≡ true
      → entries_in (record { slots = slice_set t.slots s (rewritten (slot_at t.slots s)); pages = slice_set t.pages s bytes; order = t.order }) ≡ at_entry id (written_with bytes) (entries_in t)
  write_entries s id bytes l h =
      let new = rewritten (slot_at t.slots s) in
      let lp : s < length t.pages = subst (λ n. s < n) (sym kept.same) l in
      changed t places used kept s id (record { slots = slice_set t.slots s (rewritten (slot_at t.slots s)); pages = slice_set t.pages s bytes; order = t.order }) (written_with bytes) h refl
      (λ x differs.
      (λ i. entry_in (slot_set t.slots s new x l i) (get_set t.pages s bytes x lp i))
      ∙ ap (λ b. entry_in (cond b new (slot_at t.slots x)) (cond b (Some bytes) (slice_get t.pages x))) differs)
      ((λ i. entry_in (slot_set t.slots s new s l i) (get_set t.pages s bytes s lp i))
      ∙ ap (λ b. entry_in (cond b new (slot_at t.slots s)) (cond b (Some bytes) (slice_get t.pages s))) (itself s)
      ∙ rewritten_in (slot_at t.slots s) (slice_get t.pages s) bytes)
    where
      itself : (n : ℕ) → nat_eq n n ≡ true
      itself n = grind arith

pub freed_entries : (t new : Table) (member : ℕ) → new.order ≡ t.order → new.pages ≡ t.pages → ((x : ℕ) → slot_at new.slots x ≡ freed_slot member (slot_at t.slots x))
    → entries_in new ≡ map (freed_of member) (entries_in t)
freed_entries t new member order pages slots =
    ap (filter_map (entry_at new)) order
    ∙ mapped (entry_at t) (entry_at new) (freed_of member) t.order (λ x. (λ i. entry_in (slots x i) (slice_get (pages i) x)) ∙ freed_in (slot_at t.slots x) (slice_get t.pages x) member)

-- ---- a table of free slots

pub free_at : (n s : ℕ) → slot_at (replicate n free_slot) s ≡ free_slot
free_at zero s = refl
free_at (suc n) zero = refl
free_at (suc n) (suc s) = free_at n s

pub no_entries : (t : Table) → ((s : ℕ) → slot_at t.slots s ≡ free_slot) → entries_in t ≡ []
no_entries t free = none_left (entry_at t) t.order (λ s. ap (λ slot. entry_in slot (slice_get t.pages s)) (free s))

-- an index names nothing that must be there, where all slots are free
none_named : (slots : List Slot) (places : Index) → ((s : ℕ) → slot_at slots s ≡ free_slot) → length slots ≤ places.size → IsIndexOf page_of slots places
none_named slots places free room = record {
  leads = λ g id h. absurd (none-some id (sym (page_at_is slots g ∙ ap page_of (free g)) ∙ h));
  room = room;
}

pub kept_new : (n : ℕ) (page : List ℕ) (t : Table) (places : Index) → n < 2 ^ 32 → t.pages ≡ replicate n page → t.slots ≡ replicate n free_slot → IsOrderOf n t.order
    → n ≤ places.size → IsKept t places 0
kept_new n page t places small p f whole room =
    let long : length t.slots ≡ n = ap length f ∙ length-replicate n free_slot in
    let free : (s : ℕ) → slot_at t.slots s ≡ free_slot = λ s. ap (λ slots. slot_at slots s) f ∙ free_at n s in
    record {
      same = ap length p ∙ length-replicate n page ∙ sym long;
      small = subst (λ k. k < 2 ^ 32) (sym long) small;
      whole = subst (λ k. IsOrderOf k t.order) (sym long) whole;
      index = none_named t.slots places free (omega (arith, long, room));
      count = ap length (no_entries t free);
      free = λ s le. ap (λ (slot : Slot). slot.page) (free s);
      at_most = omega arith;
    }

-- every entry is gone, and the order of the slots stays
pub kept_cleared : (t : Table) (slots : List Slot) (old new : Index) (used : ℕ) → IsKept t old used → length slots ≡ length t.slots → ((s : ℕ) → slot_at slots s ≡ free_slot) → new.size ≡ old.size
    → IsKept (record t { slots = slots }) new 0
kept_cleared t slots old new used kept long free room =
    record {
      same = kept.same ∙ sym long;
      small = subst (λ k. k < 2 ^ 32) (sym long) kept.small;
      whole = subst (λ k. IsOrderOf k t.order) (sym long) kept.whole;
      index = none_named slots new free (omega (arith, long, room, kept.index.room));
      count = ap length (no_entries (record t { slots = slots }) free);
      free = λ s le. ap (λ (slot : Slot). slot.page) (free s);
      at_most = omega arith;
    }

-- ---- one slot after the other

pub slot_past : (slots : List Slot) (s : ℕ) → length slots ≤ s → slot_at slots s ≡ free_slot
slot_past slots s le = ap (λ o. unwrap_or o free_slot) (slice_get_past slots s le)

pub freed_step : (slots before : List Slot) (member at : ℕ) (new : Slot) → at < length slots → ((x : ℕ) → slot_at slots x ≡ cond (nat_lt x at) (freed_slot member (slot_at before x)) (slot_at before x))
    → new ≡ freed_slot member (slot_at slots at) → (x : ℕ) → slot_at (slice_set slots at new) x ≡ cond (nat_lt x (at + 1)) (freed_slot member (slot_at before x)) (slot_at before x)
freed_step slots before member at new l far is x = slot_set slots at new x l ∙ by (nat_eq at x) refl
  where
    here : nat_lt at at ≡ false
    here = grind arith

    next : nat_eq at x ≡ true → nat_lt x (at + 1) ≡ true
    next e = grind arith

    same : nat_eq at x ≡ false → nat_lt x at ≡ nat_lt x (at + 1)
    same e = grind arith

    by : (b : Bool) → nat_eq at x ≡ b → cond (nat_eq at x) new (slot_at slots x) ≡ cond (nat_lt x (at + 1)) (freed_slot member (slot_at before x)) (slot_at before x)
    by true e =
        ap (λ b. cond b new (slot_at slots x)) e
        ∙ is
        ∙ ap (freed_slot member) (far at ∙ ap (λ b. cond b (freed_slot member (slot_at before at)) (slot_at before at)) here)
        ∙ ap (λ k. freed_slot member (slot_at before k)) (eqb-true at x e)
        ∙ sym (ap (λ b. cond b (freed_slot member (slot_at before x)) (slot_at before x)) (next e))
    by false e =
        ap (λ b. cond b new (slot_at slots x)) e
        ∙ far x
        ∙ ap (λ b. cond b (freed_slot member (slot_at before x)) (slot_at before x)) (same e)

pub all_freed : (slots before : List Slot) (member at : ℕ) → nat_lt at (length before) ≡ false → ((x : ℕ) → slot_at slots x ≡ cond (nat_lt x at) (freed_slot member (slot_at before x)) (slot_at before x))
    → (x : ℕ) → slot_at slots x ≡ freed_slot member (slot_at before x)
all_freed slots before member at end far x = far x ∙ by (nat_lt x at) refl
  where
    past : nat_lt x at ≡ false → length before ≤ x
    past e = grind arith

    by : (b : Bool) → nat_lt x at ≡ b → cond (nat_lt x at) (freed_slot member (slot_at before x)) (slot_at before x) ≡ freed_slot member (slot_at before x)
    by true e = ap (λ b. cond b (freed_slot member (slot_at before x)) (slot_at before x)) e
    by false e =
        ap (λ b. cond b (freed_slot member (slot_at before x)) (slot_at before x)) e
        ∙ slot_past before x (past e)
        ∙ sym (ap (freed_slot member) (slot_past before x (past e)))

pub free_step : (slots : List Slot) (at : ℕ) → at < length slots → ((s : ℕ) → s < at → slot_at slots s ≡ free_slot) → (s : ℕ) → s < at + 1 → slot_at (slice_set slots at free_slot) s ≡ free_slot
free_step slots at l before s lt = slot_set slots at free_slot s l ∙ by (nat_eq at s) refl
  where
    under : nat_eq at s ≡ false → s < at
    under e = grind arith

    by : (b : Bool) → nat_eq at s ≡ b → cond (nat_eq at s) free_slot (slot_at slots s) ≡ free_slot
    by true e = ap (λ b. cond b free_slot (slot_at slots s)) e
    by false e = ap (λ b. cond b free_slot (slot_at slots s)) e ∙ before s (under e)

pub all_free : (slots : List Slot) (at : ℕ) → at ≡ length slots → ((s : ℕ) → s < at → slot_at slots s ≡ free_slot) → (s : ℕ) → slot_at slots s ≡ free_slot
all_free slots at end before s = by (nat_lt s at) refl
  where
    under : nat_lt s at ≡ true → s < at
    under e = grind arith

    past : nat_lt s at ≡ false → length slots ≤ s
    past e = grind arith

    by : (b : Bool) → nat_lt s at ≡ b → slot_at slots s ≡ free_slot
    by true e = before s (under e)
    by false e = slot_past slots s (past e)

-- ---- what an entry is made in

none_is : (o : Option PageId) → is_none o ≡ true → o ≡ None
none_is None e = refl
none_is (Some p) e = absurd (true≢false (sym e))

some_is : (o : Option PageId) → is_none o ≡ false → is_some o ≡ true
some_is None e = absurd (true≢false e)
some_is (Some p) e = refl

module _ (t : Table) (places : Index) (used : ℕ) (kept : IsKept t places used) (s : ℕ) (x : Slot) (read : x ≡ slot_at t.slots s) where
  pub in_free : is_none x.page ≡ true → ((slot_at t.slots s).page ≡ None → s ≡ length (entries_in t)) → ((slot_at t.slots s).page ≡ None) × (used + 1 ≡ used + 1) × (s ≡ used)
  in_free e next =
      let page : (slot_at t.slots s).page ≡ None = ap (λ (slot : Slot). slot.page) (sym read) ∙ none_is x.page e in
      (page, refl, next page ∙ kept.count)

  pub in_taken : is_none x.page ≡ false → (is_some (slot_at t.slots s).page ≡ true) × (used ≡ used)
  in_taken e = (ap (λ (slot : Slot). is_some slot.page) (sym read) ∙ some_is x.page e, refl)

pub no_bytes : (t : Table) (s : ℕ) (id : PageId) → slot_at t.slots s ≡ holding id → bytes_at t s ≡ None
no_bytes t s id is = ap (λ slot. option_map_or (λ (e : Entry). e.bytes) (entry_in slot (slice_get t.pages s)) None) is
