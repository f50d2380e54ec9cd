-- Changes of a map by table and key that undo one another.
use Rattle.std.specs.Prelude.{◌≡◌, cond, Option, Some, None}
use Rattle.std.specs.FinMap.{FinMap, IsAntisymmetric, get, insert, remove, same_map, get-insert, get-remove, get_tied}
use Rattle.std.specs.Ordering.{nat_cmp, eq_by_cmp, is_eq}
use Rattle.std.specs.declared.cmp.Ordering.{Ordering}
use Rattle.std.specs.declared.cmp.Ordering.TheVariants.{Less, Equal, Greater}
use Rattle.std.proofs.Common.{refl, sym, ap, ◌∙◌}
use Rattle.std.proofs.lemmas.Map.Lookups.{exact_pairs, exact_unsigned}
use Rattle.ds_model.specs.Rows.{Spot, spot_cmp, spot_cmp_total}

-- spots that compare alike are one
pub exact_spots : IsAntisymmetric spot_cmp
exact_spots = exact_pairs nat_cmp nat_cmp exact_unsigned exact_unsigned

module _ {X : Type 0} where
  -- a look-up after two changes at one spot
  chosen : (o : Ordering) (first second here : Option X) → (o ≡ Equal → here ≡ second) → cond (is_eq o) second (cond (is_eq o) first here) ≡ here
  chosen Less first second here h = refl
  chosen Equal first second here h = sym (h refl)
  chosen Greater first second here h = refl

  -- a look-up after one
  unchosen : (o : Ordering) (there here : Option X) → (o ≡ Equal → here ≡ there) → cond (is_eq o) there here ≡ here
  unchosen Less there here h = refl
  unchosen Equal there here h = sym (h refl)
  unchosen Greater there here h = refl

  -- a spot that compares alike with k has what k has
  alike : (m : FinMap spot_cmp X) (k q : Spot) (w : Option X) → get m k ≡ w → spot_cmp q k ≡ Equal → get m q ≡ w
  alike m k q w h e = sym (get_tied spot_cmp_total m q k e) ∙ h

  -- a value that was written over is put back
  pub insert-insert_back : (m : FinMap spot_cmp X) (k : Spot) (v w : X) → get m k ≡ Some w → insert (insert m k v) k w ≡ m
  insert-insert_back m k v w h = same_map spot_cmp_total exact_spots _ _ (λ q.
      get-insert spot_cmp_total (insert m k v) k w q ∙ ap (cond (eq_by_cmp spot_cmp q k) (Some w)) (get-insert spot_cmp_total m k v q)
      ∙ chosen (spot_cmp q k) (Some v) (Some w) (get m q) (alike m k q (Some w) h))

  -- what was put where nothing stood is taken out
  pub remove-insert_new : (m : FinMap spot_cmp X) (k : Spot) (v : X) → get m k ≡ None → remove (insert m k v) k ≡ m
  remove-insert_new m k v h = same_map spot_cmp_total exact_spots _ _ (λ q.
      get-remove spot_cmp_total (insert m k v) k q ∙ ap (cond (eq_by_cmp spot_cmp q k) None) (get-insert spot_cmp_total m k v q)
      ∙ chosen (spot_cmp q k) (Some v) None (get m q) (alike m k q None h))

  -- what was taken out is put back
  pub insert-remove_back : (m : FinMap spot_cmp X) (k : Spot) (w : X) → get m k ≡ Some w → insert (remove m k) k w ≡ m
  insert-remove_back m k w h = same_map spot_cmp_total exact_spots _ _ (λ q.
      get-insert spot_cmp_total (remove m k) k w q ∙ ap (cond (eq_by_cmp spot_cmp q k) (Some w)) (get-remove spot_cmp_total m k q)
      ∙ chosen (spot_cmp q k) None (Some w) (get m q) (alike m k q (Some w) h))

  -- nothing is taken out where nothing stands
  pub remove-absent : (m : FinMap spot_cmp X) (k : Spot) → get m k ≡ None → remove m k ≡ m
  remove-absent m k h = same_map spot_cmp_total exact_spots _ _ (λ q.
      get-remove spot_cmp_total m k q
      ∙ unchosen (spot_cmp q k) None (get m q) (alike m k q None h))
