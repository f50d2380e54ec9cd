-- The places that the list by page has for a page are those of the records that change it.
use Rattle.std.proofs.Common.{◌≡◌, ℕ, ◌+◌, Bool, true, false, cond, List, [], ◌∷◌, ◌++◌, map, Option, Some, refl, sym, ap, ◌∙◌, arith, append_assoc}
use Rattle.std.specs.Prelude.{◌||◌, ◌&&◌, ◌==◌}
use Rattle.std.specs.FinMap as finite
use Rattle.std.specs.FinMap.{find, get-insert, get-entries, get-empty}
use Rattle.std.specs.List.{list_any}
use Rattle.std.specs.Ordering.{nat_cmp, is_eq, eq_by_cmp, ordering_then}
use Rattle.std.specs.declared.cmp.Ordering.{Ordering}
use Rattle.std.specs.declared.cmp.Ordering.TheVariants.{Less, Equal, Greater}
use Rattle.std.proofs.lemmas.Bool.Decides.{nat_tests}
use Rattle.ds_base.specs.Pages.{same_page}
use Rattle.ds_base.specs.declared.names.PageId.{PageId}
use Rattle.ds_model.specs.declared.log.LogRecord.{LogRecord}
use Rattle.page_format.specs.declared.patch.Patch.{Patch}
use Rattle.page_chain.specs.Chains.{changes_of, touches}
use Rattle.page_redo.specs.Pages.{has_page, with_page, pages_from, pages_of}
use Rattle.page_records.specs.Pages.{page_cmp, page_cmp_total}
use Rattle.page_records.specs.Places.{Places, places_in, with_place, with_places, places_from, page_records, by_page}
use Rattle.page_versions.specs.Own.{places_at}

pub decide : (b : Bool) (P : Type 0) → (b ≡ true → P) → (b ≡ false → P) → P
decide true P f g = f refl
decide false P f g = g refl

or_false : (a : Bool) → (a || false) ≡ a
or_false true = refl
or_false false = refl

or_assoc : (a b c : Bool) → (a || (b || c)) ≡ ((a || b) || c)
or_assoc true b c = refl
or_assoc false b c = refl

or_true : (a b : Bool) → b ≡ true → (a || b) ≡ true
or_true true b h = refl
or_true false b h = h

append_none : (ns : List ℕ) → ns ≡ ns ++ []
append_none [] = refl
append_none (n ∷ ns) = ap (λ (l : List ℕ). n ∷ l) (append_none ns)

-- ---- the names of pages

tie : (m n : ℕ) → is_eq (nat_cmp m n) ≡ (n == m)
tie m n = grind (arith, nat_tests)

tie_then : (r s : Ordering) → is_eq (ordering_then r s) ≡ (is_eq r && is_eq s)
tie_then Less s = refl
tie_then Equal s = refl
tie_then Greater s = refl

pub same_by_order : (a b : PageId) → eq_by_cmp page_cmp a b ≡ same_page b a
same_by_order a b =
    tie_then (nat_cmp a.set b.set) (nat_cmp a.number b.number)
    ∙ ap (λ (x : Bool). x && is_eq (nat_cmp a.number b.number)) (tie a.set b.set)
    ∙ ap (λ (x : Bool). (b.set == a.set) && x) (tie a.number b.number)

same_name : (a b : PageId) → same_page a b ≡ true → a ≡ b
same_name a b h =
    let p : a.set ≡ b.set = grind arith in
    let q : a.number ≡ b.number = grind arith in
    λ i. record { set = p i; number = q i }

-- ---- the list against the map

pick : (b : Bool) (x y : List ℕ) (o : Option (List ℕ)) → y ≡ places_in o → cond b x y ≡ places_in (cond b (Some x) o)
pick true x y o h = refl
pick false x y o h = h

in_list : (id : PageId) (es : List (PageId × List ℕ)) → places_at id (map page_records es) ≡ places_in (find page_cmp id es)
in_list id [] = refl
in_list id (e ∷ es) =
    pick (same_page e.0 id) e.1 (places_at id (map page_records es)) (find page_cmp id es) (in_list id es)
    ∙ ap (λ (b : Bool). places_in (cond b (Some e.1) (find page_cmp id es))) (sym (same_by_order id e.0))

-- ---- the pages of a record

has_after : (pages : List PageId) (q id : PageId) → has_page (pages ++ q ∷ []) id ≡ (has_page pages id || same_page q id)
has_after [] q id = or_false (same_page q id)
has_after (p ∷ pages) q id = ap (λ (b : Bool). same_page p id || b) (has_after pages q id) ∙ or_assoc (same_page p id) (has_page pages id) (same_page q id)

has_with : (pages : List PageId) (q id : PageId) → has_page (with_page pages q) id ≡ (has_page pages id || same_page q id)
has_with pages q id =
    decide (has_page pages q) _
    (λ e.
    ap (λ (b : Bool). has_page (cond b pages (pages ++ q ∷ [])) id) e
    ∙ decide (same_page q id) _
    (λ s. let has : has_page pages id ≡ true = ap (has_page pages) (sym (same_name q id s)) ∙ e in has ∙ sym (or_true (has_page pages id) (same_page q id) s))
    (λ s. sym (ap (λ (b : Bool). has_page pages id || b) s ∙ or_false (has_page pages id))))
    (λ e. ap (λ (b : Bool). has_page (cond b pages (pages ++ q ∷ [])) id) e ∙ has_after pages q id)

has_from : (pages : List PageId) (ps : List Patch) (id : PageId) → has_page (pages_from pages ps) id ≡ (has_page pages id || list_any (λ (p : Patch). same_page p.page id) ps)
has_from pages [] id = sym (or_false (has_page pages id))
has_from pages (p ∷ ps) id =
    has_from (with_page pages p.page) ps id
    ∙ ap (λ (b : Bool). b || list_any (λ (p : Patch). same_page p.page id) ps) (has_with pages p.page id)
    ∙ sym (or_assoc (has_page pages id) (same_page p.page id) (list_any (λ (p : Patch). same_page p.page id) ps))

-- what the map has for a page
abbrev held : Places → PageId → List ℕ
held m id = places_in (finite.get m id)

abbrev one_if : ℕ → Bool → List ℕ
one_if n b = cond b (n ∷ []) []

-- each of the pages gets the place once
abbrev Adds : ℕ → Places → List PageId → Type 0
Adds n m pages = (id : PageId) → held (with_places n m pages) id ≡ held m id ++ one_if n (has_page pages id)

later_page : (n : ℕ) (m : Places) (pages : List PageId) (q : PageId) → with_places n m (pages ++ q ∷ []) ≡ with_place n (with_places n m pages) q
later_page n m [] q = refl
later_page n m (p ∷ pages) q = later_page n (with_place n m p) pages q

put_in : (n : ℕ) (w : Places) (q id : PageId) → held (with_place n w q) id ≡ cond (same_page q id) (held w q ++ n ∷ []) (held w id)
put_in n w q id =
    ap places_in (get-insert page_cmp_total w q (held w q ++ n ∷ []) id ∙ ap (λ (b : Bool). cond b (Some (held w q ++ n ∷ [])) (finite.get w id)) (same_by_order id q))
    ∙ sym (pick (same_page q id) (held w q ++ n ∷ []) (held w id) (finite.get w id) refl)

adds_one : (n : ℕ) (m : Places) (pages : List PageId) (q : PageId) → Adds n m pages → has_page pages q ≡ false → Adds n m (pages ++ q ∷ [])
adds_one n m pages q h none id =
    ap (λ (w : Places). held w id) (later_page n m pages q)
    ∙ put_in n (with_places n m pages) q id
    ∙ decide (same_page q id) _
    (λ s.
    ap (λ (b : Bool). cond b (held (with_places n m pages) q ++ n ∷ []) (held (with_places n m pages) id)) s
    ∙ ap (λ (l : List ℕ). l ++ n ∷ []) (h q ∙ ap (λ (b : Bool). held m q ++ one_if n b) none ∙ sym (append_none (held m q)))
    ∙ ap (λ (p : PageId). held m p ++ n ∷ []) (same_name q id s)
    ∙ ap (λ (b : Bool). held m id ++ one_if n b) (sym (has_after pages q id ∙ or_true (has_page pages id) (same_page q id) s)))
    (λ s.
    ap (λ (b : Bool). cond b (held (with_places n m pages) q ++ n ∷ []) (held (with_places n m pages) id)) s
    ∙ h id
    ∙ ap (λ (b : Bool). held m id ++ one_if n b) (sym (has_after pages q id ∙ ap (λ (b : Bool). has_page pages id || b) s ∙ or_false (has_page pages id))))

adds_with : (n : ℕ) (m : Places) (pages : List PageId) (q : PageId) → Adds n m pages → Adds n m (with_page pages q)
adds_with n m pages q h id =
    decide (has_page pages q) _
    (λ e. ap (λ (b : Bool). held (with_places n m (cond b pages (pages ++ q ∷ []))) id) e ∙ h id ∙ ap (λ (b : Bool). held m id ++ one_if n (has_page (cond b pages (pages ++ q ∷ [])) id)) (sym e))
    (λ e.
    ap (λ (b : Bool). held (with_places n m (cond b pages (pages ++ q ∷ []))) id) e
    ∙ adds_one n m pages q h e id
    ∙ ap (λ (b : Bool). held m id ++ one_if n (has_page (cond b pages (pages ++ q ∷ [])) id)) (sym e))

adds_from : (n : ℕ) (m : Places) (pages : List PageId) (ps : List Patch) → Adds n m pages → Adds n m (pages_from pages ps)
adds_from n m pages [] h = h
adds_from n m pages (p ∷ ps) h = adds_from n m (with_page pages p.page) ps (adds_with n m pages p.page h)

record_adds : (n : ℕ) (m : Places) (r : LogRecord) (id : PageId) → held (with_places n m (pages_of r)) id ≡ held m id ++ one_if n (touches id r)
record_adds n m r id =
    adds_from n m [] (changes_of r.body) (λ q. append_none (held m q)) id ∙ ap (λ (b : Bool). held m id ++ one_if n b) (has_from [] (changes_of r.body) id)

-- ---- all records

-- the places of the records that change the page
abbrev pub touching : PageId → ℕ → List LogRecord → List ℕ
touching id n [] = []
touching id n (r ∷ rs) = cond (touches id r) (n ∷ []) [] ++ touching id (n + 1) rs

all_places : (id : PageId) (n : ℕ) (m : Places) (rs : List LogRecord) → held (places_from n m rs) id ≡ held m id ++ touching id n rs
all_places id n m [] = append_none (held m id)
all_places id n m (r ∷ rs) =
    all_places id (n + 1) (with_places n m (pages_of r)) rs
    ∙ ap (λ (l : List ℕ). l ++ touching id (n + 1) rs) (record_adds n m r id)
    ∙ append_assoc (held m id) (one_if n (touches id r)) (touching id (n + 1) rs)

pub places_are : (id : PageId) (records : List LogRecord) → places_at id (by_page records) ≡ touching id 0 records
places_are id records =
    in_list id (finite.entries (places_from 0 finite.empty records))
    ∙ ap places_in (sym (get-entries (places_from 0 finite.empty records) id))
    ∙ all_places id 0 finite.empty records
    ∙ ap (λ (o : Option (List ℕ)). places_in o ++ touching id 0 records) (get-empty page_cmp id)
