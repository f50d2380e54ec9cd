-- The map has the rows that the records left.
use Rattle.std.proofs.Common.{◌≡◌, ℕ, Bool, cond, List, [], ◌∷◌, Option, Some, None, Result, Ok, Err, refl, ap, ◌∙◌, arith}
use Rattle.std.specs.Prelude.{◌==◌, ◌&&◌, IfOk}
use Rattle.std.specs.Ordering.{nat_cmp, eq_by_cmp, is_eq, ordering_then}
use Rattle.std.specs.declared.cmp.Ordering.{Ordering}
use Rattle.std.specs.declared.cmp.Ordering.TheVariants.{Less, Equal, Greater}
use Rattle.std.specs.FinMap.{get, empty, get-insert, get-remove, get-empty}
use Rattle.std.proofs.lemmas.Bool.Decides.{nat_tests}
use Rattle.ds_model.specs.declared.log.LogRecord.{LogRecord}
use Rattle.ds_model.specs.declared.log.Body.{Body}
use Rattle.ds_model.specs.declared.log.Body.TheVariants as body
use Rattle.ds_model.specs.Rows.{Rows, spot_cmp, spot_cmp_total}
use Rattle.ds_model.specs.Logs.{set_row}

-- ---- spots

both_equal : (o p : Ordering) → is_eq (ordering_then o p) ≡ (is_eq o && is_eq p)
both_equal Less p = refl
both_equal Equal p = refl
both_equal Greater p = refl

same_number : (q k : ℕ) → eq_by_cmp nat_cmp q k ≡ (k == q)
same_number q k = grind (arith, nat_tests)

same_spot : (table key u j : ℕ) → eq_by_cmp spot_cmp (table, key) (u, j) ≡ ((u == table) && (j == key))
same_spot table key u j =
    both_equal (nat_cmp table u) (nat_cmp key j)
    ∙ ap (λ (b : Bool). b && is_eq (nat_cmp key j)) (same_number table u)
    ∙ ap (λ (b : Bool). (u == table) && b) (same_number key j)

-- ---- records

pub set_told : (rows : Rows) (u j : ℕ) (after : Option (List ℕ)) (table key : ℕ) → get (set_row rows u j after) (table, key) ≡ cond ((u == table) && (j == key)) after (get rows (table, key))
set_told rows u j None table key = get-remove spot_cmp_total rows (u, j) (table, key) ∙ ap (λ (b : Bool). cond b None (get rows (table, key))) (same_spot table key u j)
set_told rows u j (Some v) table key = get-insert spot_cmp_total rows (u, j) v (table, key) ∙ ap (λ (b : Bool). cond b (Some v) (get rows (table, key))) (same_spot table key u j)
