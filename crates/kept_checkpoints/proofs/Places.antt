-- Places as a set of numbers, and where all offsets fit.
use Rattle.std.proofs.Common.{◌≡◌, ℕ, Bool, true, false, cond, List, [], ◌∷◌, ◌++◌, Option, Some, None, refl, sym, ap, ◌∙◌, arith}
use Rattle.std.specs.Prelude.{◌==◌, ◌||◌, ◌&&◌, is_some}
use Rattle.std.specs.List.{list_any}
use Rattle.std.specs.Ordering.{nat_cmp, eq_by_cmp}
use Rattle.std.specs.Cmp.{nat_cmp_total}
use Rattle.std.specs.FinMap.{get, insert, empty, get-insert, get-empty}
use Rattle.std.proofs.lemmas.Bool.Decides.{nat_tests}
use Rattle.std.proofs.lemmas.List.Folds.{list_any-append}
use Rattle.ds_model.specs.declared.log.LogRecord.{LogRecord}
use Rattle.ds_model.specs.declared.log.Body.{Body}
use Rattle.ds_model.specs.declared.log.Body.TheVariants as body
use Rattle.log_record.specs.declared.log.Log.{Log}
use Rattle.disk_spots.specs.declared.spot.Spot.{Spot}
use Rattle.disk_spots.specs.Spots.{or_behind}
use Rattle.sound_disk.specs.Checkpoints.{next_place, offset_fits, offsets_fit}
use Rattle.kept_checkpoints.specs.Offsets.{bad_offset_from, bad_offset, bad_spot, OffsetsFit, Places, fits_among, bad_among}

-- ---- sets of numbers

same_number : (q k : ℕ) → eq_by_cmp nat_cmp q k ≡ (k == q)
same_number q k = grind (arith, nat_tests)

some_if : (b : Bool) (o : Option Bool) → is_some (cond b (Some true) o) ≡ (b || is_some o)
some_if true o = refl
some_if false o = refl

pub has_put : (m : Places) (k q : ℕ) → is_some (get (insert m k true) q) ≡ ((k == q) || is_some (get m q))
has_put m k q =
    ap (λ (o : Option Bool). is_some o) (get-insert nat_cmp_total m k true q ∙ ap (λ (b : Bool). cond b (Some true) (get m q)) (same_number q k))
    ∙ some_if (k == q) (get m q)

or_turned : (a b : Bool) → (a || b) ≡ (b || (a || false))
or_turned true true = refl
or_turned true false = refl
or_turned false true = refl
or_turned false false = refl

-- ---- the places before a record

-- the set has these places and no others
abbrev Holds : Places → List ℕ → Type 0
Holds m places = (q : ℕ) → is_some (get m q) ≡ list_any (λ (at : ℕ). at == q) places

holds_more : (m : Places) (places : List ℕ) (at : ℕ) → Holds m places → Holds (insert m at true) (places ++ at ∷ [])
holds_more m places at h q =
    has_put m at q ∙ ap (λ (b : Bool). (at == q) || b) (h q)
    ∙ or_turned (at == q) (list_any (λ (at : ℕ). at == q) places)
    ∙ sym (list_any-append (λ (at : ℕ). at == q) places (at ∷ []))

fits_same : (m : Places) (places : List ℕ) (b : Body) → Holds m places → fits_among m b ≡ offset_fits places b
fits_same m places (body.Checkpoint offset) h = h offset
fits_same m places (body.RowChange change) h = refl
fits_same m places (body.Compensation change undone) h = refl
fits_same m places (body.System patches) h = refl
fits_same m places body.Commit h = refl
fits_same m places body.Ended h = refl
fits_same m places body.RestartEnd h = refl

same_if : {X : Type 0} (a b : Bool) (x y z : X) → a ≡ b → x ≡ y → cond a x z ≡ cond b y z
same_if true true x y z h k = k
same_if true false x y z h k = absurd cc
same_if false true x y z h k = absurd cc
same_if false false x y z h k = refl

bad_same : (m : Places) (places : List ℕ) (at : ℕ) (rs : List LogRecord) → Holds m places → bad_among m at rs ≡ bad_offset_from places at rs
bad_same m places at [] h = refl
bad_same m places at (r ∷ rs) h =
    let more = holds_more m places at h in
    same_if _ _ _ _ (Some at) (fits_same (insert m at true) (places ++ at ∷ []) r.body more) (bad_same (insert m at true) (places ++ at ∷ []) (next_place at r) rs more)

pub bad_is : (rs : List LogRecord) → bad_among empty 0 rs ≡ bad_offset rs
bad_is rs = bad_same empty [] 0 rs (λ q. ap (λ (o : Option Bool). is_some o) (get-empty nat_cmp q))

-- ---- all offsets fit where none is bad

none_if : (b c : Bool) (at : ℕ) (more : Option ℕ) → (more ≡ None → c ≡ true) → cond b more (Some at) ≡ None → (b && c) ≡ true
none_if true c at more h k = h k
none_if false c at more h k = absurd cc

some_if_not : (b c : Bool) (at n : ℕ) (more : Option ℕ) → (more ≡ Some n → c ≡ false) → cond b more (Some at) ≡ Some n → (b && c) ≡ false
some_if_not true c at n more h k = h k
some_if_not false c at n more h k = refl

all_fit : (places : List ℕ) (at : ℕ) (rs : List LogRecord) → bad_offset_from places at rs ≡ None → offsets_fit places at rs ≡ true
all_fit places at [] h = refl
all_fit places at (r ∷ rs) h = none_if (offset_fits (places ++ at ∷ []) r.body) _ at _ (λ e. all_fit (places ++ at ∷ []) (next_place at r) rs e) h

one_misfits : (places : List ℕ) (at n : ℕ) (rs : List LogRecord) → bad_offset_from places at rs ≡ Some n → offsets_fit places at rs ≡ false
one_misfits places at n [] h = absurd cc
one_misfits places at n (r ∷ rs) h = some_if_not (offset_fits (places ++ at ∷ []) r.body) _ at n _ (λ e. one_misfits (places ++ at ∷ []) (next_place at r) n rs e) h

none_behind : (more : Option Spot) (member : ℕ) (place : Option ℕ) → or_behind more member place ≡ None → (place ≡ None) × (more ≡ None)
none_behind more member None h = (refl, h)
none_behind more member (Some at) h = absurd cc

pub no_spot : (logs : List Log) → bad_spot logs ≡ None → OffsetsFit logs
no_spot [] h = tt
no_spot (log ∷ logs) h =
    let both = none_behind (bad_spot logs) log.member (bad_offset log.records) h in
    (all_fit [] 0 log.records both.0, no_spot logs both.1)

spot_behind : (more : Option Spot) (member : ℕ) (place : Option ℕ) (s : Spot) (first rest : Type 0) → ((n : ℕ) → place ≡ Some n → first → ⊥) → (more ≡ Some s → rest → ⊥)
    → or_behind more member place ≡ Some s → first → rest → ⊥
spot_behind more member None s first rest here behind h a b = behind h b
spot_behind more member (Some at) s first rest here behind h a b = here at refl a

not_both : (b : Bool) → b ≡ false → b ≡ true → ⊥
not_both true h k = absurd cc
not_both false h k = absurd cc

pub one_spot : (logs : List Log) (s : Spot) → bad_spot logs ≡ Some s → OffsetsFit logs → ⊥
one_spot [] s h fit = absurd cc
one_spot (log ∷ logs) s h fit =
    spot_behind (bad_spot logs) log.member (bad_offset log.records) s (offsets_fit [] 0 log.records ≡ true) (OffsetsFit logs)
    (λ n e. not_both (offsets_fit [] 0 log.records) (one_misfits [] 0 n log.records e)) (λ e. one_spot logs s e) h fit.0 fit.1
