-- A list of rows in order, put into a map one after the other.
use Rattle.std.proofs.Common.{◌≡◌, ℕ, ◌+◌, ◌<◌, ◌≤◌, Bool, true, false, cond, List, [], ◌∷◌, ◌++◌, length, get_or, take, drop, map, refl, sym, ap, subst, ◌∙◌, arith}
use Rattle.std.specs.Prelude.{Some, None, T, ◌&&◌}
use Rattle.std.specs.FinMap as finite
use Rattle.std.specs.FinMap.{FinMap, find, from_entries, from_sorted, insert, is_sorted, same_map, get-from_entries, get-from_sorted, from_entries_push, entries_sorted}
use Rattle.std.specs.FinMap.Entries.{below_all}
use Rattle.std.specs.Ordering.{is_lt, is_eq, eq_by_cmp, ordering_reverse}
use Rattle.std.specs.declared.cmp.Ordering.{Ordering}
use Rattle.std.specs.declared.cmp.Ordering.TheVariants.{Less, Equal, Greater}
use Rattle.std.proofs.lemmas.List.{map_more, map-append, take_all}
use Rattle.std.proofs.lemmas.Grind.{common_steps}
use Rattle.ds_base.specs.declared.row.Row.{Row}
use Rattle.ds_model.specs.Rows.{Spot, spot_cmp, spot_cmp_total, Rows, entry_of, spot_of, map_of, listed, AreSorted}
use Rattle.spot_map.specs.Undo.{exact_spots}
use Rattle.spot_map.proofs.Scans.{row_of}

first : (a b : Bool) → T (a && b) → T a
first true b p = tt
first false b p = absurd p

second : (a b : Bool) → T (a && b) → T b
second true b p = p
second false b p = absurd p

unlike : (o : Ordering) → T (is_lt o) → is_eq (ordering_reverse o) ≡ false
unlike Less h = refl
unlike Equal h = absurd h
unlike Greater h = absurd h

not_tied : (s t : Spot) → T (is_lt (spot_cmp s t)) → eq_by_cmp spot_cmp t s ≡ false
not_tied s t h = ap is_eq (spot_cmp_total.antisymm t s) ∙ unlike (spot_cmp s t) h

module _ {X : Type 0} where
  -- an entry below all of these is below one of them
  below_one : (s : Spot) (es : List (Spot × X)) (e : Spot × X) (fs : List (Spot × X)) → T (below_all spot_cmp s (es ++ e ∷ fs)) → T (is_lt (spot_cmp s e.0))
  below_one s [] e fs h = first _ _ h
  below_one s (x ∷ es) e fs h = below_one s es e fs (second _ _ h)

  -- the spot of an entry stands nowhere before it
  found_none : (es : List (Spot × X)) (e : Spot × X) (fs : List (Spot × X)) → T (is_sorted spot_cmp (es ++ e ∷ fs)) → find spot_cmp e.0 es ≡ None
  found_none [] e fs h = refl
  found_none (x ∷ es) e fs h = ap (λ b. cond b (Some x.1) (find spot_cmp e.0 es)) (not_tied x.0 e.0 (below_one x.0 es e fs (first _ _ h))) ∙ found_none es e fs (second _ _ h)

  pub put_last : (es : List (Spot × X)) (e : Spot × X) (fs : List (Spot × X)) → T (is_sorted spot_cmp (es ++ e ∷ fs)) → insert (from_entries {R = spot_cmp} es) e.0 e.1 ≡ from_entries (es ++ e ∷ [])
  put_last es e fs h = sym (from_entries_push spot_cmp_total exact_spots es e.0 e.1 (found_none es e fs h))

  pub whole : (es : List (Spot × X)) → T (is_sorted spot_cmp es) → from_entries {R = spot_cmp} es ≡ from_sorted es
  whole es h = same_map spot_cmp_total exact_spots _ _ (λ q. get-from_entries spot_cmp_total es q ∙ sym (get-from_sorted spot_cmp es q h))

-- the map of the rows so far
abbrev pub so_far : List Row → ℕ → FinMap spot_cmp (List ℕ)
so_far rows n = from_entries (map entry_of (take n rows))

split : (rows : List Row) (i : ℕ) (d : Row) → i < length rows → rows ≡ take i rows ++ get_or rows i d ∷ drop (i + 1) rows
split rows i d h = grind (arith, common_steps)

pub one_more : (rows : List Row) (i : ℕ) (d : Row) → AreSorted rows → i < length rows → insert (so_far rows i) (spot_of (get_or rows i d)) (get_or rows i d).value ≡ so_far rows (i + 1)
one_more rows i d h below =
    let parts : map entry_of rows ≡ map entry_of (take i rows) ++ entry_of (get_or rows i d) ∷ map entry_of (drop (i + 1) rows) = ap (map entry_of) (split rows i d below) ∙ map-append entry_of (take i rows) (get_or rows i d ∷ drop (i + 1) rows) in
    put_last (map entry_of (take i rows)) (entry_of (get_or rows i d)) (map entry_of (drop (i + 1) rows)) (subst (λ es. T (is_sorted spot_cmp es)) parts h)
    ∙ ap (λ es. from_entries es) (sym (map_more entry_of rows i d below))

pub all_done : (rows : List Row) (n : ℕ) → AreSorted rows → length rows ≤ n → so_far rows n ≡ map_of rows
all_done rows n h past = ap (λ rs. from_entries (map entry_of rs)) (take_all n rows past) ∙ whole (map entry_of rows) h

back : (es : List (Spot × List ℕ)) → map entry_of (map row_of es) ≡ es
back [] = refl
back (e ∷ es) = ap (λ fs. e ∷ fs) (back es)

pub in_order : (rows : Rows) → AreSorted (listed rows)
in_order rows = subst (λ es. T (is_sorted spot_cmp es)) (sym (back (finite.entries rows))) (entries_sorted rows)
