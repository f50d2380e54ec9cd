-- Whether all pages that were written are of bytes.
use Rattle.std.specs.Prelude.{◌≡◌, ◌<◌, ℕ, nat_lt, Bool, true, false, cond, List, [], ◌∷◌, length, replicate, slice_index, unwrap_or, Option, Some}
use Rattle.std.specs.List.{list_all}
use Rattle.std.specs.Ordering.{eq_by_cmp}
use Rattle.std.specs.declared.cmp.Ordering.{Ordering}
use Rattle.std.specs.declared.cmp.Ordering.TheVariants.{Less, Equal, Greater}
use Rattle.std.specs.FinMap as map
use Rattle.std.specs.FinMap.Entries.{by_order, find, put}
use Rattle.std.proofs.Common.{zero, suc, refl, sym, ap, subst, ◌∙◌, arith}
use Rattle.std.proofs.lemmas.Bool.{and_parts, and_from, lt-ltb, ltb-true}
use Rattle.ds_base.specs.declared.names.PageId.{PageId}
use Rattle.ds_disk.specs.Pages.{Pages, page_cmp, page_cmp_total, AreBytes, PagesAreBytes}

abbrev pub is_byte : ℕ → Bool
is_byte n = nat_lt n 256

abbrev pub has_bytes : PageId × List ℕ → Bool
has_bytes e = list_all is_byte e.1

pub have_bytes : Pages → Bool
have_bytes pages = list_all has_bytes (map.entries pages)

-- ---- a page

pub all_bytes : (bytes : List ℕ) → AreBytes bytes → list_all is_byte bytes ≡ true
all_bytes [] h = refl
all_bytes (b ∷ bs) h = and_from (is_byte b) (list_all is_byte bs) (lt-ltb b 256 (h 0)) (all_bytes bs (λ i. h (suc i)))

pub byte_at : (bytes : List ℕ) (i : ℕ) → list_all is_byte bytes ≡ true → slice_index bytes i < 256
byte_at [] zero h = omega arith
byte_at [] (suc i) h = omega arith
byte_at (b ∷ bs) zero h = ltb-true b 256 (and_parts (is_byte b) (list_all is_byte bs) h).0
byte_at (b ∷ bs) (suc i) h = byte_at bs i (and_parts (is_byte b) (list_all is_byte bs) h).1

zero_at : (n i : ℕ) → slice_index (replicate n 0) i < 256
zero_at zero zero = omega arith
zero_at zero (suc i) = omega arith
zero_at (suc n) zero = omega arith
zero_at (suc n) (suc i) = zero_at n i

-- ---- entries

found_at : (es : List (PageId × List ℕ)) (id : PageId) (none : List ℕ) → AreBytes none → list_all has_bytes es ≡ true → AreBytes (unwrap_or (find page_cmp id es) none)
found_at [] id none are h = are
found_at (e ∷ es) id none are h =
    let both = and_parts (has_bytes e) (list_all has_bytes es) h in
    elim (eq_by_cmp page_cmp id e.0) as (λ (b : Bool). AreBytes (unwrap_or (cond b (Some e.1) (find page_cmp id es)) none)) [
      | true ↦ λ i. byte_at e.1 i both.0
      | false ↦ found_at es id none are both.1
    ]

put_has : (id : PageId) (page : List ℕ) (es : List (PageId × List ℕ)) → list_all is_byte page ≡ true → list_all has_bytes es ≡ true → list_all has_bytes (put page_cmp id page es) ≡ true
put_has id page [] p h = and_from (list_all is_byte page) true p refl
put_has id page (e ∷ es) p h =
    let both = and_parts (has_bytes e) (list_all has_bytes es) h in
    elim (page_cmp id e.0) as (λ (o : Ordering). list_all has_bytes (by_order o ((id, page) ∷ e ∷ es) ((e.0, page) ∷ es) (e ∷ put page_cmp id page es)) ≡ true) [
      | Less ↦ and_from (list_all is_byte page) (list_all has_bytes (e ∷ es)) p h
      | Equal ↦ and_from (list_all is_byte page) (list_all has_bytes es) p both.1
      | Greater ↦ and_from (has_bytes e) (list_all has_bytes (put page_cmp id page es)) both.0 (put_has id page es p both.1)
    ]

-- ---- laws

none_has : (es : List (PageId × List ℕ)) → length es ≡ 0 → list_all has_bytes es ≡ true
none_has [] none = refl
none_has (e ∷ es) none = absurd (omega arith)

pub none_have : have_bytes map.empty ≡ true
unfolding have_bytes
none_have = none_has (map.entries map.empty) (sym (map.len-entries map.empty) ∙ map.len-empty page_cmp (List ℕ))

pub written_have : (pages : Pages) (id : PageId) (page : List ℕ) → AreBytes page → have_bytes pages ≡ true → have_bytes (map.insert pages id page) ≡ true
unfolding have_bytes
written_have pages id page are h = ap (list_all has_bytes) (map.entries-insert page_cmp_total pages id page) ∙ put_has id page (map.entries pages) (all_bytes page are) h

pub pages_are : (pages : Pages) → have_bytes pages ≡ true → PagesAreBytes pages
unfolding have_bytes
pages_are pages h = λ id. subst (λ (o : Option (List ℕ)). AreBytes (unwrap_or o (replicate 4096 0))) (sym (map.get-entries pages id)) (found_at (map.entries pages) id (replicate 4096 0) (zero_at 4096) h)
