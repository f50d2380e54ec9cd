-- The entry of a page in the directory, behind a change of the entries.
use Rattle.std.proofs.Common.{◌≡◌, Bool, true, false, cond, not, List, [], ◌∷◌, ◌++◌, map, Option, Some, None, refl, sym, ap, subst, ◌∙◌}
use Rattle.std.specs.Prelude.{◌≢◌, ◌==◌, find}
use Rattle.std.specs.List.{IsDistinct, AllByRecursion}
use Rattle.std.specs.Option.{option_map}
use Rattle.std.proofs.lemmas.Bool.{cond-true, cond-false, both_ways, and_parts, and_from, eqb-true, eq-eqb, false_from_ne_true}
use Rattle.std.proofs.lemmas.Option.{same_Some}
use Rattle.ds_base.specs.declared.names.PageId.{PageId}
use Rattle.ds_base.specs.Pages.{same_page}
use Rattle.cache_structure.specs.Entries.{Entry, is_of, is_idle, entry_of, without, newest, at_entry}
use Rattle.cache_structure.specs.Sound.{are_of_one_page}

-- ---- pages
pub page_is : (a b : PageId) → same_page a b ≡ true → a ≡ b
page_is a b e =
    let both = and_parts (a.set == b.set) (a.number == b.number) e in
    let s = eqb-true a.set b.set both.0 in
    let n = eqb-true a.number b.number both.1 in
    λ i. record { set = s i; number = n i }

pub page_self : (a : PageId) → same_page a a ≡ true
page_self a = and_from (a.set == a.set) (a.number == a.number) (eq-eqb a.set a.set refl) (eq-eqb a.number a.number refl)

pub page_apart : (a b : PageId) → a ≢ b → same_page a b ≡ false
page_apart a b ne = false_from_ne_true (same_page a b) (λ e. ne (page_is a b e))

-- ---- an entry leaves
pub without_self : (x : PageId) (es : List Entry) → entry_of (without x es) x ≡ None
without_self x [] = refl
without_self x (e ∷ es) = by (same_page x e.page) refl (without_self x es)
  where
    by : (b : Bool) → same_page x e.page ≡ b → entry_of (without x es) x ≡ None → entry_of (cond (not b) (e ∷ without x es) (without x es)) x ≡ None
    by true h ih = ih
    by false h ih = cond-false (same_page x e.page) (Some e) (entry_of (without x es) x) h ∙ ih

pub without_apart : (x q : PageId) (es : List Entry) → q ≢ x → entry_of (without x es) q ≡ entry_of es q
without_apart x q [] ne = refl
without_apart x q (e ∷ es) ne = by (same_page x e.page) refl (without_apart x q es ne)
  where
    by : (b : Bool) → same_page x e.page ≡ b → entry_of (without x es) q ≡ entry_of es q → entry_of (cond (not b) (e ∷ without x es) (without x es)) q ≡ cond (same_page q e.page) (Some e) (entry_of es q)
    by true h ih = ih ∙ sym (cond-false (same_page q e.page) (Some e) (entry_of es q) (page_apart q e.page (λ f. ne (f ∙ sym (page_is x e.page h)))))
    by false h ih = ap (cond (same_page q e.page) (Some e)) ih

-- ---- an entry comes
last_self : (e : Entry) (es : List Entry) → entry_of es e.page ≡ None → entry_of (es ++ e ∷ []) e.page ≡ Some e
last_self e [] none = cond-true (same_page e.page e.page) (Some e) None (page_self e.page)
last_self e (x ∷ es) none = by (last_self e es) (same_page e.page x.page) refl
  where
    by : (entry_of es e.page ≡ None → entry_of (es ++ e ∷ []) e.page ≡ Some e) → (b : Bool) → same_page e.page x.page ≡ b → cond (same_page e.page x.page) (Some x) (entry_of (es ++ e ∷ []) e.page) ≡ Some e
    by ih true h = absurd (let there : Some x ≡ None = sym (cond-true (same_page e.page x.page) (Some x) (entry_of es e.page) h) ∙ none in cc there)
    by ih false h = cond-false (same_page e.page x.page) (Some x) (entry_of (es ++ e ∷ []) e.page) h ∙ ih (sym (cond-false (same_page e.page x.page) (Some x) (entry_of es e.page) h) ∙ none)

last_apart : (e : Entry) (q : PageId) (es : List Entry) → q ≢ e.page → entry_of (es ++ e ∷ []) q ≡ entry_of es q
last_apart e q [] ne = cond-false (same_page q e.page) (Some e) None (page_apart q e.page ne)
last_apart e q (x ∷ es) ne = ap (cond (same_page q x.page) (Some x)) (last_apart e q es ne)

pub newest_self : (e : Entry) (es : List Entry) → entry_of (newest e es) e.page ≡ Some e
newest_self e es = last_self e (without e.page es) (without_self e.page es)

pub newest_apart : (e : Entry) (q : PageId) (es : List Entry) → q ≢ e.page → entry_of (newest e es) q ≡ entry_of es q
newest_apart e q es ne = last_apart e q (without e.page es) ne ∙ without_apart e.page q es ne

-- ---- entries change, each stays one of its page
pub map_entry : (f : Entry → Entry) → ((e : Entry) → (f e).page ≡ e.page) → (q : PageId) (es : List Entry) → entry_of (map f es) q ≡ option_map f (entry_of es q)
map_entry f keeps q [] = refl
map_entry f keeps q (e ∷ es) = by (same_page q e.page) refl (map_entry f keeps q es)
  where
    by : (b : Bool) → same_page q e.page ≡ b → entry_of (map f es) q ≡ option_map f (entry_of es q) → cond (same_page q (f e).page) (Some (f e)) (entry_of (map f es) q) ≡ option_map f (cond (same_page q e.page) (Some e) (entry_of es q))
    by true h ih = cond-true (same_page q (f e).page) (Some (f e)) (entry_of (map f es) q) (ap (same_page q) (keeps e) ∙ h) ∙ sym (ap (option_map f) (cond-true (same_page q e.page) (Some e) (entry_of es q) h))
    by false h ih = cond-false (same_page q (f e).page) (Some (f e)) (entry_of (map f es) q) (ap (same_page q) (keeps e) ∙ h) ∙ ih ∙ sym (ap (option_map f) (cond-false (same_page q e.page) (Some e) (entry_of es q) h))

-- what is found is of the page
pub found_page : (q : PageId) (es : List Entry) (e : Entry) → entry_of es q ≡ Some e → e.page ≡ q
found_page q [] e h = absurd (cc h)
found_page q (x ∷ es) e h = by (found_page q es e) (same_page q x.page) refl
  where
    by : (entry_of es q ≡ Some e → e.page ≡ q) → (b : Bool) → same_page q x.page ≡ b → e.page ≡ q
    by ih true is = let same : Some x ≡ Some e = sym (cond-true (same_page q x.page) (Some x) (entry_of es q) is) ∙ h in let it = same_Some x e same in ap (λ (y : Entry). y.page) (sym it) ∙ sym (page_is q x.page is)
    by ih false is = ih (sym (cond-false (same_page q x.page) (Some x) (entry_of es q) is) ∙ h)

at_page : (id : PageId) (change : Entry → Entry) → ((e : Entry) → (change e).page ≡ e.page) → (e : Entry) → (cond (is_of id e) (change e) e).page ≡ e.page
at_page id change keeps e = by (is_of id e)
  where
    by : (b : Bool) → (cond b (change e) e).page ≡ e.page
    by true = keeps e
    by false = refl

pub at_apart : (id q : PageId) (change : Entry → Entry) (es : List Entry) → ((e : Entry) → (change e).page ≡ e.page) → q ≢ id → entry_of (at_entry id change es) q ≡ entry_of es q
at_apart id q change es keeps ne = map_entry (λ e. cond (is_of id e) (change e) e) (at_page id change keeps) q es ∙ by (entry_of es q) refl
  where
    by : (o : Option Entry) → entry_of es q ≡ o → option_map (λ e. cond (is_of id e) (change e) e) o ≡ o
    by None h = refl
    by (Some e) h = ap Some (cond-false (is_of id e) (change e) e (page_apart id e.page (λ f. ne (sym (found_page q es e h) ∙ sym f))))

pub at_self : (id : PageId) (change : Entry → Entry) (es : List Entry) → ((e : Entry) → (change e).page ≡ e.page) → entry_of (at_entry id change es) id ≡ option_map change (entry_of es id)
at_self id change es keeps = map_entry (λ e. cond (is_of id e) (change e) e) (at_page id change keeps) id es ∙ by (entry_of es id) refl
  where
    by : (o : Option Entry) → entry_of es id ≡ o → option_map (λ e. cond (is_of id e) (change e) e) o ≡ option_map change o
    by None h = refl
    by (Some e) h = ap Some (cond-true (is_of id e) (change e) e (subst (λ p. same_page id p ≡ true) (sym (found_page id es e h)) (page_self id)))

-- ---- the entry that gives way
abbrev Apart : List Entry → Type 0
Apart es = IsDistinct are_of_one_page es

-- an entry behind another one is of another page
away_from : (x e : Entry) (es : List Entry) → AllByRecursion (λ y. are_of_one_page x y ≡ false) es → entry_of es e.page ≡ Some e → same_page e.page x.page ≡ false
away_from x e [] all there = absurd (cc there)
away_from x e (y ∷ ys) all there = by (away_from x e ys all.1) (same_page e.page y.page) refl
  where
    by : (entry_of ys e.page ≡ Some e → same_page e.page x.page ≡ false) → (b : Bool) → same_page e.page y.page ≡ b → same_page e.page x.page ≡ false
    by ih true is = page_apart e.page x.page (λ f. both_ways (same_page x.page y.page) all.0 (subst (λ p. same_page p y.page ≡ true) f is))
    by ih false is = ih (sym (cond-false (same_page e.page y.page) (Some y) (entry_of ys e.page) is) ∙ there)

pub idle_found : (es : List Entry) (e : Entry) → Apart es → find is_idle es ≡ Some e → (entry_of es e.page ≡ Some e) × (is_idle e ≡ true)
unfolding IsDistinct
idle_found [] e a h = absurd (cc h)
idle_found (x ∷ es) e a h = by (idle_found es e a.1) (is_idle x) refl
  where
    by : (find is_idle es ≡ Some e → (entry_of es e.page ≡ Some e) × (is_idle e ≡ true)) → (b : Bool) → is_idle x ≡ b → (cond (same_page e.page x.page) (Some x) (entry_of es e.page) ≡ Some e) × (is_idle e ≡ true)
    by rest true is =
        let same : Some x ≡ Some e = sym (cond-true (is_idle x) (Some x) (find is_idle es) is) ∙ h in
        let it = same_Some x e same in
        (cond-true (same_page e.page x.page) (Some x) (entry_of es e.page) (subst (λ (y : Entry). same_page y.page x.page ≡ true) it (page_self x.page)) ∙ same, subst (λ y. is_idle y ≡ true) it is)
    by rest false is =
        let ih = rest (sym (cond-false (is_idle x) (Some x) (find is_idle es) is) ∙ h) in
        (cond-false (same_page e.page x.page) (Some x) (entry_of es e.page) (away_from x e es a.0 ih.0) ∙ ih.0, ih.1)
