-- Where too few numbers are left, a record has the greatest one.
use Rattle.std.proofs.Common.{◌≡◌, ◌≢◌, ℕ, ◌+◌, Bool, true, false, cond, List, [], ◌∷◌, length, Option, Some, None, refl, sym, ap, subst, ◌∙◌, arith}
use Rattle.std.specs.Prelude.{◌==◌, ◌||◌}
use Rattle.std.specs.List.{list_any}
use Rattle.std.proofs.lemmas.Bool.Decides.{nat_tests}
use Rattle.std.proofs.lemmas.List.Folds.{list_any-append}
use Rattle.ds_model.specs.declared.log.LogRecord.{LogRecord}
use Rattle.ds_model.specs.RecordBytes.{record_bytes}
use Rattle.log_record.specs.declared.log.Log.{Log}
use Rattle.log_merge.specs.Merging.{all_records}
use Rattle.log_trans.specs.Numbers.{greatest}
use Rattle.disk_spots.specs.declared.spot.Spot.{Spot}
use Rattle.disk_spots.specs.declared.spot.Spot.TheVariants as spot
use Rattle.disk_spots.specs.Spots.{place_from, or_behind, spot_of}
use Rattle.ds_base.specs.Ids.{IsLrsn}
use Rattle.sound_disk.specs.Numbers_left.{open_changes, NumbersAreLeft}
use Rattle.settled_changes.specs.Spots.{NumbersTell}

-- ---- a number that no record has

unequal : (m n : ℕ) → (m == n) ≡ false → m ≢ n
unequal m n h = grind (arith, nat_tests)

or_left : (a b : Bool) → (a || b) ≡ false → a ≡ false
or_left true b h = h
or_left false b h = refl

or_right : (a b : Bool) → (a || b) ≡ false → b ≡ false
or_right true b h = absurd cc
or_right false b h = h

neither : (a b : Bool) → a ≡ false → b ≡ false → (a || b) ≡ false
neither true b h k = h
neither false b h k = k

none_is : (n : ℕ) (rs : List LogRecord) → greatest rs ≡ n → list_any (λ (r : LogRecord). r.lrsn == n) rs ≡ false → rs ≡ []
none_is n [] h none = refl
none_is n (r ∷ rs) h none =
    let other : r.lrsn ≢ n = unequal r.lrsn n (or_left _ _ none) in
    let rest : greatest rs ≡ n = omega arith in
    let e : rs ≡ [] = none_is n rs rest (or_right (r.lrsn == n) _ none) in
    let zero : greatest rs ≡ 0 = ap greatest e in
    absurd (omega arith)

none_here : (b : Bool) (at : ℕ) (more : Option ℕ) → cond b (Some at) more ≡ None → (b ≡ false) × (more ≡ None)
none_here true at more h = absurd cc
none_here false at more h = (refl, h)

not_placed : (n at : ℕ) (rs : List LogRecord) → place_from n at rs ≡ None → list_any (λ (r : LogRecord). r.lrsn == n) rs ≡ false
not_placed n at [] h = refl
not_placed n at (r ∷ rs) h =
    let here = none_here (r.lrsn == n) at (place_from n (at + length (record_bytes r)) rs) h in
    neither (r.lrsn == n) _ here.0 (not_placed n (at + length (record_bytes r)) rs here.1)

none_behind : (more : Option Spot) (member : ℕ) (place : Option ℕ) → or_behind more member place ≡ None → (place ≡ None) × (more ≡ None)
none_behind more member None h = (refl, h)
none_behind more member (Some at) h = absurd cc

not_found : (n : ℕ) (logs : List Log) → spot_of n logs ≡ None → list_any (λ (r : LogRecord). r.lrsn == n) (all_records logs) ≡ false
not_found n [] h = refl
not_found n (log ∷ logs) h =
    let both = none_behind (spot_of n logs) log.member (place_from n 0 log.records) h in
    list_any-append (λ (r : LogRecord). r.lrsn == n) log.records (all_records logs)
    ∙ neither _ _ (not_placed n 0 log.records both.0) (not_found n logs both.1)

-- ---- where no record has the greatest number there is none

abbrev needed : List LogRecord → ℕ
needed rs = greatest rs + length (open_changes rs)

found : (logs : List Log) → spot_of (greatest (all_records logs)) logs ≡ None → NumbersAreLeft logs
found logs h =
    let e : all_records logs ≡ [] = none_is (greatest (all_records logs)) (all_records logs) refl (not_found (greatest (all_records logs)) logs h) in
    let none : needed (all_records logs) ≡ 0 = ap needed e in
    omega (arith, none)

lacks : (logs : List Log) (great count : ℕ) → great ≡ greatest (all_records logs) → count ≡ length (open_changes (all_records logs)) → (IsLrsn (great + count) → ⊥) → NumbersAreLeft logs → ⊥
lacks logs great count great_is count_is none h =
    none (subst (λ (m : ℕ). IsLrsn (great + m)) (sym count_is) (subst (λ (m : ℕ). IsLrsn (m + length (open_changes (all_records logs)))) (sym great_is) h))

pub numbers_tell : NumbersTell
numbers_tell logs great count None great_is count_is none spot_is = found logs (ap (λ (m : ℕ). spot_of m logs) (sym great_is) ∙ sym spot_is)
numbers_tell logs great count (Some s) great_is count_is none spot_is = record {
  lacking = lacks logs great count great_is count_is none;
  spot_is = ap (λ (m : ℕ). spot_of m logs) (sym great_is) ∙ sym spot_is;
}
