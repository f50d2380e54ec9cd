-- A tree by number against the map that its entries make.
use Rattle.std.proofs.Common.{◌≡◌, ℕ, Bool, true, false, cond, List, [], ◌∷◌, length, refl, sym, ap, subst, ◌∙◌}
use Rattle.std.specs.Prelude.{Option, Some, None, T, ◌&&◌}
use Rattle.std.specs.FinMap as finite
use Rattle.std.specs.FinMap.{FinMap, find, from_entries, from_sorted, insert, remove, get, same_map, get-insert, get-remove, get-from_entries, get-from_sorted, entries, entries-from_sorted}
use Rattle.std.specs.FinMap.Entries.{below_all, is_sorted}
use Rattle.std.specs.Ordering.{nat_cmp, eq_by_cmp, is_lt}
use Rattle.std.specs.Cmp.{nat_cmp_total, eq_by_cmp_equiv}
use Rattle.std.specs.Map.{lookup, keys_of}
use Rattle.std.specs.BTreeMap.{is_at}
use Rattle.std.specs.List.{AllByRecursion}
use Rattle.std.specs.List.Sorted.{IsStrictlySortedBy}
use Rattle.std.specs.declared.cmp.Ordering.TheVariants.{Less}
use Rattle.std.proofs.lemmas.Map.Lookups.{exact_unsigned}

both : (a b : Bool) → T a → T b → T (a && b)
both true b p q = q
both false b p q = p

twice : {X : Type 0} (b : Bool) (v : X) (o : Option X) → cond b (Some v) (cond b None o) ≡ cond b (Some v) o
twice true v o = refl
twice false v o = refl

module _ {X : Type 0} where
  -- what a tree with these entries has at a number
  abbrev pub held : List (ℕ × X) → ℕ → Option X
  held es q = lookup (is_at (nat_cmp q)) es

  find_number : (es : List (ℕ × X)) (q : ℕ) → find nat_cmp q es ≡ held es q
  find_number [] q = refl
  find_number (e ∷ es) q = ap (cond (is_at (nat_cmp q) e.0) (Some e.1)) (find_number es q)

  pub get_number : (es : List (ℕ × X)) (q : ℕ) → finite.get (from_entries {R = nat_cmp} es) q ≡ held es q
  get_number es q = get-from_entries nat_cmp_total es q ∙ find_number es q

  -- entries that differ at one number make maps that differ there
  pub one_set : (es fs : List (ℕ × X)) (s : ℕ) (n : X) → ((q : ℕ) → held fs q ≡ cond (is_at (nat_cmp s) q) (Some n) (held es q)) → from_entries {R = nat_cmp} fs ≡ insert (from_entries es) s n
  one_set es fs s n h = same_map nat_cmp_total exact_unsigned _ _ (λ q.
      get_number fs q ∙ h q ∙ ap (λ b. cond b (Some n) (held es q)) ((eq_by_cmp_equiv nat_cmp_total).symm s q)
      ∙ sym (get-insert nat_cmp_total (from_entries es) s n q ∙ ap (cond (is_at (nat_cmp q) s) (Some n)) (get_number es q)))

  pub one_gone : (es fs : List (ℕ × X)) (s : ℕ) → ((q : ℕ) → held fs q ≡ cond (is_at (nat_cmp s) q) None (held es q)) → from_entries {R = nat_cmp} fs ≡ remove (from_entries es) s
  one_gone es fs s h = same_map nat_cmp_total exact_unsigned _ _ (λ q.
      get_number fs q ∙ h q ∙ ap (λ b. cond b None (held es q)) ((eq_by_cmp_equiv nat_cmp_total).symm s q)
      ∙ sym (get-remove nat_cmp_total (from_entries es) s q ∙ ap (cond (is_at (nat_cmp q) s) None) (get_number es q)))

  -- what is taken out and put in again
  pub put_back : (m : FinMap nat_cmp X) (k : ℕ) (v : X) → insert (remove m k) k v ≡ insert m k v
  put_back m k v = same_map nat_cmp_total exact_unsigned _ _ (λ q.
      get-insert nat_cmp_total (remove m k) k v q ∙ ap (cond (eq_by_cmp nat_cmp q k) (Some v)) (get-remove nat_cmp_total m k q)
      ∙ twice (eq_by_cmp nat_cmp q k) v (get m q) ∙ sym (get-insert nat_cmp_total m k v q))

  below_each : (s : ℕ) (es : List (ℕ × X)) → AllByRecursion (λ k. nat_cmp s k ≡ Less) (keys_of es) → T (below_all nat_cmp s es)
  below_each s [] h = tt
  below_each s (e ∷ es) h = both _ _ (subst (λ o. T (is_lt o)) (sym h.0) tt) (below_each s es h.1)

  rising : (es : List (ℕ × X)) → IsStrictlySortedBy nat_cmp (keys_of es) → T (is_sorted nat_cmp es)
  unfolding IsStrictlySortedBy
  rising [] h = tt
  rising (e ∷ es) h = both _ _ (below_each e.0 es h.0) (rising es h.1)

  -- entries in order are those of their map
  pub kept : (es : List (ℕ × X)) → IsStrictlySortedBy nat_cmp (keys_of es) → entries (from_entries {R = nat_cmp} es) ≡ es
  kept es h =
      let s = rising es h in
      let same : from_entries {R = nat_cmp} es ≡ from_sorted es = same_map nat_cmp_total exact_unsigned _ _ (λ q. get-from_entries nat_cmp_total es q ∙ sym (get-from_sorted nat_cmp es q s)) in
      ap entries same ∙ entries-from_sorted nat_cmp es s
