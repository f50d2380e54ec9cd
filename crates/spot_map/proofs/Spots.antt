-- A tree by table and key against the map that its entries make.
use Rattle.std.proofs.Common.{◌≡◌, Bool, true, false, cond, List, [], ◌∷◌, length, refl, sym, ap, subst, ◌∙◌}
use Rattle.std.specs.Prelude.{Option, Some, None, T, ◌&&◌}
use Rattle.std.specs.FinMap as finite
use Rattle.std.specs.FinMap.{find, from_entries, from_sorted, insert, remove, same_map, get-insert, get-remove, get-from_entries, get-from_sorted, entries, entries-from_sorted, len-entries}
use Rattle.std.specs.FinMap.Entries.{below_all, is_sorted}
use Rattle.std.specs.Ordering.{is_lt}
use Rattle.std.specs.Cmp.{eq_by_cmp_equiv}
use Rattle.std.specs.Map.{lookup, keys_of}
use Rattle.std.specs.BTreeMap.{is_at}
use Rattle.std.specs.List.{AllByRecursion}
use Rattle.std.specs.List.Sorted.{IsStrictlySortedBy}
use Rattle.std.specs.declared.cmp.Ordering.TheVariants.{Less}
use Rattle.ds_model.specs.Rows.{Spot, spot_cmp, spot_cmp_total}
use Rattle.spot_map.specs.Undo.{exact_spots}

both : (a b : Bool) → T a → T b → T (a && b)
both true b p q = q
both false b p q = p

module _ {X : Type 0} where
  -- what a tree with these entries has at a spot
  abbrev pub held : List (Spot × X) → Spot → Option X
  held es q = lookup (is_at (spot_cmp q)) es

  pub find_spot : (es : List (Spot × X)) (q : Spot) → find spot_cmp q es ≡ held es q
  find_spot [] q = refl
  find_spot (e ∷ es) q = ap (cond (is_at (spot_cmp q) e.0) (Some e.1)) (find_spot es q)

  pub get_spot : (es : List (Spot × X)) (q : Spot) → finite.get (from_entries {R = spot_cmp} es) q ≡ held es q
  get_spot es q = get-from_entries spot_cmp_total es q ∙ find_spot es q

  -- entries that differ at one spot make maps that differ there
  pub one_set : (es fs : List (Spot × X)) (s : Spot) (n : X) → ((q : Spot) → held fs q ≡ cond (is_at (spot_cmp s) q) (Some n) (held es q)) → from_entries {R = spot_cmp} fs ≡ insert (from_entries es) s n
  one_set es fs s n h = same_map spot_cmp_total exact_spots _ _ (λ q.
      get_spot fs q ∙ h q ∙ ap (λ b. cond b (Some n) (held es q)) ((eq_by_cmp_equiv spot_cmp_total).symm s q)
      ∙ sym (get-insert spot_cmp_total (from_entries es) s n q ∙ ap (cond (is_at (spot_cmp q) s) (Some n)) (get_spot es q)))

  pub one_gone : (es fs : List (Spot × X)) (s : Spot) → ((q : Spot) → held fs q ≡ cond (is_at (spot_cmp s) q) None (held es q)) → from_entries {R = spot_cmp} fs ≡ remove (from_entries es) s
  one_gone es fs s h = same_map spot_cmp_total exact_spots _ _ (λ q.
      get_spot fs q ∙ h q ∙ ap (λ b. cond b None (held es q)) ((eq_by_cmp_equiv spot_cmp_total).symm s q)
      ∙ sym (get-remove spot_cmp_total (from_entries es) s q ∙ ap (cond (is_at (spot_cmp q) s) None) (get_spot es q)))

  below_each : (s : Spot) (es : List (Spot × X)) → AllByRecursion (λ k. spot_cmp s k ≡ Less) (keys_of es) → T (below_all spot_cmp s es)
  below_each s [] h = tt
  below_each s (e ∷ es) h = both _ _ (subst (λ o. T (is_lt o)) (sym h.0) tt) (below_each s es h.1)

  pub rising : (es : List (Spot × X)) → IsStrictlySortedBy spot_cmp (keys_of es) → T (is_sorted spot_cmp es)
  unfolding IsStrictlySortedBy
  rising [] h = tt
  rising (e ∷ es) h = both _ _ (below_each e.0 es h.0) (rising es h.1)

  -- entries in order are those of their map
  pub kept : (es : List (Spot × X)) → IsStrictlySortedBy spot_cmp (keys_of es) → entries (from_entries {R = spot_cmp} es) ≡ es
  kept es h =
      let s = rising es h in
      let same : from_entries {R = spot_cmp} es ≡ from_sorted es = same_map spot_cmp_total exact_spots _ _ (λ q. get-from_entries spot_cmp_total es q ∙ sym (get-from_sorted spot_cmp es q s)) in
      ap entries same ∙ entries-from_sorted spot_cmp es s

  pub counted : (es : List (Spot × X)) → IsStrictlySortedBy spot_cmp (keys_of es) → length es ≡ finite.len (from_entries {R = spot_cmp} es)
  counted es h = sym (len-entries _ ∙ ap length (kept es h))
