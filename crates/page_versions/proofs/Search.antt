-- A page in a list whose pages rise.
use Rattle.std.proofs.Common.{◌≡◌, ℕ, ◌+◌, ◌<◌, Bool, true, false, cond, T, List, [], ◌∷◌, map, length, get_or, take, drop, add-one, refl, sym, ap, subst, ◌∙◌, arith}
use Rattle.std.specs.Prelude.{zero, suc, ◌&&◌, ◌==◌}
use Rattle.std.specs.FinMap as finite
use Rattle.std.specs.FinMap.{entries_sorted}
use Rattle.std.specs.FinMap.Entries.{below_all, is_sorted}
use Rattle.std.specs.Ordering.{is_eq, is_lt, ordering_reverse}
use Rattle.std.specs.declared.cmp.Ordering.{Ordering}
use Rattle.std.specs.declared.cmp.Ordering.TheVariants.{Less, Equal, Greater}
use Rattle.ds_base.specs.Pages.{same_page}
use Rattle.ds_base.specs.declared.names.PageId.{PageId}
use Rattle.ds_model.specs.declared.log.LogRecord.{LogRecord}
use Rattle.page_records.specs.Pages.{page_cmp, page_cmp_total}
use Rattle.page_records.specs.Places.{places_from, page_records, by_page}
use Rattle.page_records.specs.declared.places.PageRecords.{PageRecords}
use Rattle.page_versions.specs.Own.{places_at, AreAbove, Rise}
use Rattle.page_versions.proofs.Listed.{same_by_order}

first : (a b : Bool) → T (a && b) → T a
first true b p = tt
first false b p = p

second : (a b : Bool) → T (a && b) → T b
second true b p = p
second false b p = absurd p

less : (o : Ordering) → T (is_lt o) → o ≡ Less
less Less p = refl
less Equal p = absurd p
less Greater p = absurd p

above : (id : PageId) (es : List (PageId × List ℕ)) → T (below_all page_cmp id es) → AreAbove id (map page_records es)
above id [] h = tt
above id (e ∷ es) h = (less (page_cmp id e.0) (first _ _ h), above id es (second _ _ h))

rising : (es : List (PageId × List ℕ)) → T (is_sorted page_cmp es) → Rise (map page_records es)
rising [] h = tt
rising (e ∷ es) h = (above e.0 es (first _ _ h), rising es (second _ _ h))

pub rise : (records : List LogRecord) → Rise (by_page records)
rise records = rising (finite.entries (places_from 0 finite.empty records)) (entries_sorted (places_from 0 finite.empty records))

-- ---- orders

name_of : (id : PageId) (p : PageRecords) (o : Ordering) → page_cmp id p.page ≡ o → same_page p.page id ≡ is_eq o
name_of id p o e = sym (same_by_order id p.page) ∙ ap is_eq e

turned : (a b : PageId) → page_cmp a b ≡ Greater → page_cmp b a ≡ Less
turned a b e = page_cmp_total.antisymm b a ∙ ap ordering_reverse e

turned_less : (a b : PageId) → page_cmp a b ≡ Less → page_cmp b a ≡ Greater
turned_less a b e = page_cmp_total.antisymm b a ∙ ap ordering_reverse e

tied : (a b : PageId) → page_cmp a b ≡ Equal → page_cmp b a ≡ Equal
tied a b e = page_cmp_total.antisymm b a ∙ ap ordering_reverse e

above_at : (id : PageId) (ps : List PageRecords) (m : ℕ) (d : PageRecords) → AreAbove id ps → m < length ps → page_cmp id (get_or ps m d).page ≡ Less
above_at id [] m d h lt = absurd (omega arith)
above_at id (p ∷ ps) zero d h lt = h.0
above_at id (p ∷ ps) (suc m) d h lt = above_at id ps m d h.1 (omega arith)

further : (a b : PageId) (ps : List PageRecords) → page_cmp a b ≡ Less → AreAbove b ps → AreAbove a ps
further a b [] e h = tt
further a b (p ∷ ps) e h = (page_cmp_total.trans a b p.page e h.0, further a b ps e h.1)

none_above : (id : PageId) (ps : List PageRecords) → AreAbove id ps → places_at id ps ≡ []
none_above id [] h = refl
none_above id (p ∷ ps) h = ap (λ (b : Bool). cond b p.places (places_at id ps)) (name_of id p Less h.0) ∙ none_above id ps h.1

-- ---- halves

above_take : (id : PageId) (ps : List PageRecords) (m : ℕ) → AreAbove id ps → AreAbove id (take m ps)
above_take id ps zero h = tt
above_take id [] (suc m) h = tt
above_take id (p ∷ ps) (suc m) h = (h.0, above_take id ps m h.1)

pub rise_take : (ps : List PageRecords) (m : ℕ) → Rise ps → Rise (take m ps)
rise_take ps zero h = tt
rise_take [] (suc m) h = tt
rise_take (p ∷ ps) (suc m) h = (above_take p.page ps m h.0, rise_take ps m h.1)

pub rise_drop : (ps : List PageRecords) (m : ℕ) → Rise ps → Rise (drop m ps)
rise_drop ps zero h = h
rise_drop [] (suc m) h = tt
rise_drop (p ∷ ps) (suc m) h = rise_drop ps m h.1

skips : (id : PageId) (p : PageRecords) (ps : List PageRecords) (o : Ordering) → page_cmp id p.page ≡ o → is_eq o ≡ false → places_at id (p ∷ ps) ≡ places_at id ps
skips id p ps o e n = ap (λ (b : Bool). cond b p.places (places_at id ps)) (name_of id p o e ∙ n)

pub in_front : (id : PageId) (ps : List PageRecords) (m : ℕ) (d : PageRecords) → Rise ps → m < length ps → page_cmp id (get_or ps m d).page ≡ Less → places_at id (take m ps) ≡ places_at id ps
in_front id [] m d h lt e = absurd (omega arith)
in_front id (p ∷ ps) zero d h lt e = sym (skips id p ps Less e refl ∙ none_above id ps (further id p.page ps e h.0))
in_front id (p ∷ ps) (suc m) d h lt e = ap (λ (l : List ℕ). cond (same_page p.page id) p.places l) (in_front id ps m d h.1 (omega arith) e)

pub behind : (id : PageId) (ps : List PageRecords) (m : ℕ) (d : PageRecords) → Rise ps → m < length ps → page_cmp id (get_or ps m d).page ≡ Greater → places_at id (drop (suc m) ps) ≡ places_at id ps
behind id [] m d h lt e = absurd (omega arith)
behind id (p ∷ ps) zero d h lt e = sym (skips id p ps Greater e refl)
behind id (p ∷ ps) (suc m) d h lt e =
    let low : page_cmp p.page id ≡ Less = page_cmp_total.trans p.page (get_or ps m d).page id (above_at p.page ps m d h.0 (omega arith)) (turned id (get_or ps m d).page e) in
    behind id ps m d h.1 (omega arith) e ∙ sym (skips id p ps Greater (turned_less p.page id low) refl)

pub here : (id : PageId) (ps : List PageRecords) (m : ℕ) (d : PageRecords) → Rise ps → m < length ps → page_cmp id (get_or ps m d).page ≡ Equal → (get_or ps m d).places ≡ places_at id ps
here id [] m d h lt e = absurd (omega arith)
here id (p ∷ ps) zero d h lt e = sym (ap (λ (b : Bool). cond b p.places (places_at id ps)) (name_of id p Equal e))
here id (p ∷ ps) (suc m) d h lt e =
    let same : page_cmp id p.page ≡ page_cmp (get_or ps m d).page p.page = page_cmp_total.congr id (get_or ps m d).page p.page e in
    here id ps m d h.1 (omega arith) e ∙ sym (skips id p ps Greater (same ∙ turned_less p.page (get_or ps m d).page (above_at p.page ps m d h.0 (omega arith))) refl)

-- ---- in the middle of the list

pub some_page : (ps : List PageRecords) (b : Bool) → b ≡ (length ps == 0) → b ≡ false → 0 < length ps
some_page [] b e f = absurd cc
some_page (p ∷ ps) b e f = omega arith

pub left_half : (id : PageId) (ps : List PageRecords) (m : ℕ) (p : PageRecords) (found : List ℕ) → Rise ps → m < length ps → p ≡ get_or ps m p → page_cmp id p.page ≡ Less → found ≡ places_at id (take m ps) → found ≡ places_at id ps
left_half id ps m p found h lt is e f = f ∙ in_front id ps m p h lt (subst (λ (q : PageRecords). page_cmp id q.page ≡ Less) is e)

pub right_half : (id : PageId) (ps : List PageRecords) (m : ℕ) (p : PageRecords) (found : List ℕ) → Rise ps → m < length ps → p ≡ get_or ps m p → page_cmp id p.page ≡ Greater → found ≡ places_at id (drop (m + 1) ps) → found ≡ places_at id ps
right_half id ps m p found h lt is e f =
    f ∙ ap (λ (n : ℕ). places_at id (drop n ps)) (add-one m) ∙ behind id ps m p h lt (subst (λ (q : PageRecords). page_cmp id q.page ≡ Greater) is e)

pub the_middle : (id : PageId) (ps : List PageRecords) (m : ℕ) (p : PageRecords) → Rise ps → m < length ps → p ≡ get_or ps m p → page_cmp id p.page ≡ Equal → p.places ≡ places_at id ps
the_middle id ps m p h lt is e = ap (λ (q : PageRecords). q.places) is ∙ here id ps m p h lt (subst (λ (q : PageRecords). page_cmp id q.page ≡ Equal) is e)
