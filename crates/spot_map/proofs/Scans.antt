-- The rows that a scan reads, against the entries of a tree between two spots.
use Rattle.std.proofs.Common.{◌≡◌, ℕ, ◌<◌, Bool, false, List, [], ◌∷◌, refl, map, arith}
use Rattle.std.specs.Prelude.{◌&&◌, nat_le, ◌==◌, filter}
use Rattle.std.proofs.lemmas.Bool.Decides.{nat_tests}
use Rattle.std.specs.BTreeMap.Range.{range_contains, entries_between}
use Rattle.std.specs.declared.ops.Bound.TheVariants.{Included}
use Rattle.ds_base.specs.declared.row.Row.{Row}
use Rattle.ds_model.specs.Rows.{Spot, spot_cmp}

abbrev pub row_of : Spot × List ℕ → Row
row_of e = record { table = e.0.0; key = e.0.1; value = e.1 }

abbrev pub is_read : ℕ → ℕ → ℕ → Row → Bool
is_read table low high r = (r.table == table) && nat_le low r.key && nat_le r.key high

-- between two spots of one table lie the keys of that table between theirs
between : (table low high t k : ℕ) → range_contains spot_cmp (Included (table, low)) (Included (table, high)) (t, k) ≡ ((t == table) && nat_le low k && nat_le k high)
between table low high t k = grind (arith, nat_tests)

pub filter-map : {X Y : Type 0} (f : X → Y) (p : Y → Bool) (q : X → Bool) → ((x : X) → q x ≡ p (f x)) → (xs : List X) → map f (filter q xs) ≡ filter p (map f xs)
filter-map f p q h [] = refl
filter-map f p q h (x ∷ xs) = let ih = filter-map f p q h xs in let here = h x in grind arith

pub read_between : (table low high : ℕ) (es : List (Spot × List ℕ)) → map row_of (entries_between spot_cmp (Included (table, low)) (Included (table, high)) es) ≡ filter (is_read table low high) (map row_of es)
read_between table low high es = filter-map row_of (is_read table low high) (λ e. range_contains spot_cmp (Included (table, low)) (Included (table, high)) e.0) (λ e. between table low high e.0.0 e.0.1) es

unread : (table low high : ℕ) (r : Row) → high < low → is_read table low high r ≡ false
unread table low high r h = grind (arith, nat_tests)

-- from a greater key to a lesser one lies nothing
pub read_none : (table low high : ℕ) → high < low → (rs : List Row) → filter (is_read table low high) rs ≡ []
read_none table low high h [] = refl
read_none table low high h (r ∷ rs) = let ih = read_none table low high h rs in let here = unread table low high r h in grind arith
