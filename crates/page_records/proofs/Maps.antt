-- A tree by page against the map that its entries make.
use Rattle.std.proofs.Common.{◌≡◌, ℕ, Bool, true, false, cond, List, [], ◌∷◌, length, refl, sym, ap, subst, ◌∙◌}
use Rattle.std.specs.Prelude.{Option, Some, None, T, ◌&&◌}
use Rattle.std.specs.FinMap as finite
use Rattle.std.specs.FinMap.{FinMap, find, from_entries, from_sorted, insert, remove, get, same_map, get-insert, get-remove, get-from_entries, get-from_sorted, entries, entries-from_sorted}
use Rattle.std.specs.FinMap.Entries.{below_all, is_sorted}
use Rattle.std.specs.Ordering.{nat_cmp, eq_by_cmp, is_lt}
use Rattle.std.specs.Cmp.{eq_by_cmp_equiv}
use Rattle.std.specs.Map.{lookup, keys_of}
use Rattle.std.specs.BTreeMap.{is_at}
use Rattle.std.specs.List.{AllByRecursion}
use Rattle.std.specs.List.Sorted.{IsStrictlySortedBy}
use Rattle.std.specs.declared.cmp.Ordering.TheVariants.{Less}
use Rattle.std.proofs.lemmas.Map.Lookups.{CmpEqualImpliesEq, exact_pairs, exact_unsigned}
use Rattle.ds_base.specs.declared.names.PageId.{PageId}
use Rattle.page_records.specs.Pages.{page_cmp, page_cmp_total}

exact_pages : CmpEqualImpliesEq page_cmp
exact_pages a b h = ap (λ (p : ℕ × ℕ). record { set = p.0; number = p.1 }) (exact_pairs nat_cmp nat_cmp exact_unsigned exact_unsigned (a.set, a.number) (b.set, b.number) h)

both : (a b : Bool) → T a → T b → T (a && b)
both true b p q = q
both false b p q = p

twice : {X : Type 0} (b : Bool) (v : X) (o : Option X) → cond b (Some v) (cond b None o) ≡ cond b (Some v) o
twice true v o = refl
twice false v o = refl

module _ {X : Type 0} where
  -- what a tree with these entries has at a page
  abbrev pub held : List (PageId × X) → PageId → Option X
  held es q = lookup (is_at (page_cmp q)) es

  find_page : (es : List (PageId × X)) (q : PageId) → find page_cmp q es ≡ held es q
  find_page [] q = refl
  find_page (e ∷ es) q = ap (cond (is_at (page_cmp q) e.0) (Some e.1)) (find_page es q)

  pub get_page : (es : List (PageId × X)) (q : PageId) → finite.get (from_entries {R = page_cmp} es) q ≡ held es q
  get_page es q = get-from_entries page_cmp_total es q ∙ find_page es q

  -- entries that differ at one page make maps that differ there
  pub one_set : (es fs : List (PageId × X)) (s : PageId) (n : X) → ((q : PageId) → held fs q ≡ cond (is_at (page_cmp s) q) (Some n) (held es q)) → from_entries {R = page_cmp} fs ≡ insert (from_entries es) s n
  one_set es fs s n h = same_map page_cmp_total exact_pages _ _ (λ q.
      get_page fs q ∙ h q ∙ ap (λ b. cond b (Some n) (held es q)) ((eq_by_cmp_equiv page_cmp_total).symm s q)
      ∙ sym (get-insert page_cmp_total (from_entries es) s n q ∙ ap (cond (is_at (page_cmp q) s) (Some n)) (get_page es q)))

  pub one_gone : (es fs : List (PageId × X)) (s : PageId) → ((q : PageId) → held fs q ≡ cond (is_at (page_cmp s) q) None (held es q)) → from_entries {R = page_cmp} fs ≡ remove (from_entries es) s
  one_gone es fs s h = same_map page_cmp_total exact_pages _ _ (λ q.
      get_page fs q ∙ h q ∙ ap (λ b. cond b None (held es q)) ((eq_by_cmp_equiv page_cmp_total).symm s q)
      ∙ sym (get-remove page_cmp_total (from_entries es) s q ∙ ap (cond (is_at (page_cmp q) s) None) (get_page es q)))

  -- what is taken out and put in again
  pub put_back : (m : FinMap page_cmp X) (k : PageId) (v : X) → insert (remove m k) k v ≡ insert m k v
  put_back m k v = same_map page_cmp_total exact_pages _ _ (λ q.
      get-insert page_cmp_total (remove m k) k v q ∙ ap (cond (eq_by_cmp page_cmp q k) (Some v)) (get-remove page_cmp_total m k q)
      ∙ twice (eq_by_cmp page_cmp q k) v (get m q) ∙ sym (get-insert page_cmp_total m k v q))

  below_each : (s : PageId) (es : List (PageId × X)) → AllByRecursion (λ k. page_cmp s k ≡ Less) (keys_of es) → T (below_all page_cmp s es)
  below_each s [] h = tt
  below_each s (e ∷ es) h = both _ _ (subst (λ o. T (is_lt o)) (sym h.0) tt) (below_each s es h.1)

  rising : (es : List (PageId × X)) → IsStrictlySortedBy page_cmp (keys_of es) → T (is_sorted page_cmp es)
  unfolding IsStrictlySortedBy
  rising [] h = tt
  rising (e ∷ es) h = both _ _ (below_each e.0 es h.0) (rising es h.1)

  -- entries in order are those of their map
  pub kept : (es : List (PageId × X)) → IsStrictlySortedBy page_cmp (keys_of es) → entries (from_entries {R = page_cmp} es) ≡ es
  kept es h =
      let s = rising es h in
      let same : from_entries {R = page_cmp} es ≡ from_sorted es = same_map page_cmp_total exact_pages _ _ (λ q. get-from_entries page_cmp_total es q ∙ sym (get-from_sorted page_cmp es q s)) in
      ap entries same ∙ entries-from_sorted page_cmp es s
