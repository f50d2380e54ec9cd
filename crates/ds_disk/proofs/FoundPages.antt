-- What a finite map of pages has is what a lookup in the entries of an ordered map finds.
use Rattle.std.proofs.Common.{◌≡◌, ℕ, List, [], ◌∷◌, Some, Option, unwrap_or, replicate, refl, ap, sym, ◌∙◌, cond}
use Rattle.std.specs.FinMap.{find, get, insert, from_entries, get-from_entries, get-insert, same_map}
use Rattle.std.specs.Map.{lookup}
use Rattle.std.specs.BTreeMap.{is_at}
use Rattle.std.specs.Cmp.{eq_by_cmp_equiv}
use Rattle.std.specs.Ordering.{nat_cmp}
use Rattle.std.proofs.lemmas.Map.Lookups.{CmpEqualImpliesEq, exact_pairs, exact_unsigned}
use Rattle.ds_base.specs.declared.names.PageId.{PageId}
use Rattle.ds_disk.specs.Pages.{Pages, page_cmp, page_cmp_total, page_at}

-- what the entries have at a page
abbrev pub page_in : List (PageId × List ℕ) → PageId → Option (List ℕ)
page_in es id = lookup (is_at (page_cmp id)) es

-- pages that compare alike are one
pub exact_pages : CmpEqualImpliesEq page_cmp
exact_pages a b h = ap (λ (p : ℕ × ℕ). record { set = p.0; number = p.1 }) (exact_pairs nat_cmp nat_cmp exact_unsigned exact_unsigned (a.set, a.number) (b.set, b.number) h)

find_page : (es : List (PageId × List ℕ)) (id : PageId) → find page_cmp id es ≡ page_in es id
find_page [] id = refl
find_page (e ∷ es) id = ap (cond (is_at (page_cmp id) e.0) (Some e.1)) (find_page es id)

pub get_page : (es : List (PageId × List ℕ)) (id : PageId) → get (from_entries {R = page_cmp} es) id ≡ page_in es id
get_page es id = get-from_entries page_cmp_total es id ∙ find_page es id

-- entries that differ at one page make maps that differ there
pub one_written : (es fs : List (PageId × List ℕ)) (id : PageId) (page : List ℕ) → ((q : PageId) → page_in fs q ≡ cond (is_at (page_cmp id) q) (Some page) (page_in es q)) → from_entries {R = page_cmp} fs ≡ insert (from_entries es) id page
one_written es fs id page h = same_map page_cmp_total exact_pages _ _ (λ q.
    get_page fs q ∙ h q ∙ ap (λ b. cond b (Some page) (page_in es q)) ((eq_by_cmp_equiv page_cmp_total).symm id q)
    ∙ sym (get-insert page_cmp_total (from_entries es) id page q ∙ ap (cond (is_at (page_cmp q) id) (Some page)) (get_page es q)))

-- a page reads as what the entries have there
pub page_found : (es : List (PageId × List ℕ)) (pages : Pages) (id : PageId) (found : Option (List ℕ)) → from_entries es ≡ pages → found ≡ page_in es id → unwrap_or found (replicate 4096 0) ≡ page_at pages id
page_found es pages id found is e =
    ap (λ o. unwrap_or o (replicate 4096 0)) (e ∙ sym (get_page es id) ∙ ap (λ (m : Pages). get m id) is)
