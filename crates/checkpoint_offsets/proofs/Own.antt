-- Where each Checkpoint names its own place, no offset is wrong.
use Rattle.std.proofs.Common.{◌≡◌, ℕ, ◌+◌, Bool, true, false, cond, List, [], ◌∷◌, length, Option, Some, None, refl, ap, ◌∙◌, arith}
use Rattle.std.specs.Prelude.{◌==◌, ◌&&◌, is_some}
use Rattle.std.specs.Ordering.{nat_cmp, eq_by_cmp}
use Rattle.std.specs.Cmp.{nat_cmp_total}
use Rattle.std.specs.FinMap.{get, insert, empty, get-insert}
use Rattle.std.proofs.lemmas.Bool.Decides.{nat_tests}
use Rattle.ds_model.specs.declared.log.LogRecord.{LogRecord}
use Rattle.ds_model.specs.declared.log.Body.{Body}
use Rattle.ds_model.specs.declared.log.Body.TheVariants as body
use Rattle.ds_model.specs.RecordBytes.{record_bytes}
use Rattle.log_record.specs.declared.log.Log.{Log}
use Rattle.log_reader.specs.Begin.{begin_of}
use Rattle.checkpoint_offsets.specs.Offsets.{Places, offset_field, with_place, names_one_of, names_own, fault_from, fault_in, all_own}

same_number : (q k : ℕ) → (q == k) ≡ true → eq_by_cmp nat_cmp q k ≡ true
same_number q k h = grind (arith, nat_tests)

some_if : (b : Bool) (o : Option Bool) → b ≡ true → is_some (cond b (Some true) o) ≡ true
some_if true o h = refl
some_if false o h = absurd cc

has_put : (m : Places) (k q : ℕ) → (q == k) ≡ true → is_some (get (insert m k true) q) ≡ true
has_put m k q h = ap (λ (o : Option Bool). is_some o) (get-insert nat_cmp_total m k true q) ∙ some_if (eq_by_cmp nat_cmp q k) (get m q) (same_number q k h)

own_is_one : (m : Places) (at : ℕ) (b : Body) → names_own at b ≡ true → names_one_of (with_place m at) b ≡ true
own_is_one m at (body.Checkpoint offset) h = has_put m at offset h
own_is_one m at (body.RowChange change) h = refl
own_is_one m at (body.Compensation change undone) h = refl
own_is_one m at (body.System patches) h = refl
own_is_one m at body.Commit h = refl
own_is_one m at body.Ended h = refl
own_is_one m at body.RestartEnd h = refl

both : (a b : Bool) → (a && b) ≡ true → (a ≡ true) × (b ≡ true)
both true b h = (refl, h)
both false b h = absurd cc

none_if : (b : Bool) (more : Option ℕ) (at : ℕ) → b ≡ true → more ≡ None → cond b more (Some at) ≡ None
none_if true more at h k = k
none_if false more at h k = absurd cc

none_from : (m : Places) (at : ℕ) (rs : List LogRecord) → all_own at rs ≡ true → fault_from m at rs ≡ None
none_from m at [] h = refl
none_from m at (r ∷ rs) h =
    let own = both (names_own at r.body) (all_own (at + length (record_bytes r)) rs) h in
    none_if (names_one_of (with_place m at) r.body) (fault_from (with_place m at) (at + length (record_bytes r)) rs) (at + offset_field r.version)
    (own_is_one m at r.body own.0) (none_from (with_place m at) (at + length (record_bytes r)) rs own.1)

pub none_of_own : (log : Log) → all_own (begin_of log) log.records ≡ true → fault_in log ≡ None
none_of_own log h = none_from empty (begin_of log) log.records h
