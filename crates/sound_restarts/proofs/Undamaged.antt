-- No damage is found in the logs of a sound disk.
use Rattle.std.proofs.Common.{◌≡◌, ℕ, ◌+◌, Bool, true, false, cond, List, [], ◌∷◌, ◌++◌, length, Option, Some, None, refl, sym, ap, ◌∙◌, arith}
use Rattle.std.specs.Prelude.{◌==◌, ◌||◌, is_some}
use Rattle.std.specs.List.{list_any, AllByRecursion}
use Rattle.std.specs.Ordering.{nat_cmp, eq_by_cmp}
use Rattle.std.specs.Cmp.{nat_cmp_total}
use Rattle.std.specs.FinMap.{get, empty, get-insert, get-empty}
use Rattle.std.proofs.lemmas.Bool.{and_parts}
use Rattle.std.proofs.lemmas.Bool.Decides.{nat_tests}
use Rattle.std.proofs.lemmas.List.{length-append}
use Rattle.std.proofs.lemmas.List.Folds.{list_any-append}
use Rattle.ds_base.specs.declared.names.Volume.{Volume}
use Rattle.ds_base.specs.declared.names.Volume.TheVariants as volume
use Rattle.ds_disk.specs.Pages.{page_at}
use Rattle.ds_model.specs.declared.log.LogRecord.{LogRecord}
use Rattle.ds_model.specs.declared.log.Body.{Body}
use Rattle.ds_model.specs.declared.log.Body.TheVariants as body
use Rattle.ds_model.specs.RecordBytes.{record_bytes, log_bytes}
use Rattle.log_record.specs.declared.log.Log.{Log}
use Rattle.log_reader.specs.Begin.{behind_all, begin_of}
use Rattle.log_trans.specs.declared.damage.Damaged.{Damaged}
use Rattle.checkpoint_offsets.specs.Offsets.{Places, offset_field, with_place, names_one_of, fault_from, fault_in, or_later, offset_damage, earlier}
use Rattle.restart_plan.specs.declared.greatest.Greatest.{Greatest}
use Rattle.restart_plan.specs.declared.plan.Plan.{Plan}
use Rattle.restart_plan.specs.Plans.{plan_of}
use Rattle.group_restart.specs.Course.{place_among, placed, found_damage, place_on, placed_on, with_greatest, planned, next_tail, take_logs}
use Rattle.sound_disk.specs.Checkpoints.{next_place, offset_fits, offsets_fit, AreCheckpointed}
use Rattle.sound_disk.specs.Laws.{HaveNoDamage}
use Rattle.sound_disk.specs.Whole_logs.{AreWholeLogs}
use Rattle.page_images.specs.Images.{Images}
use Rattle.sound_restarts.specs.Damage.{FindsNoDamage, PlansAll, GoesToTails}

-- ---- offsets

-- the map has these places and no others
abbrev pub HasPlaces : Places → List ℕ → Type 0
HasPlaces m places = (q : ℕ) → is_some (get m q) ≡ list_any (λ at. at == q) places

same_key : (q k : ℕ) → eq_by_cmp nat_cmp q k ≡ (k == q)
same_key q k = grind (arith, nat_tests)

some_if : (b : Bool) (o : Option Bool) → is_some (cond b (Some true) o) ≡ (b || is_some o)
some_if true o = refl
some_if false o = refl

or_turn : (a b : Bool) → (a || b) ≡ (b || (a || false))
or_turn true true = refl
or_turn true false = refl
or_turn false true = refl
or_turn false false = refl

place_more : (m : Places) (places : List ℕ) (at : ℕ) → HasPlaces m places → HasPlaces (with_place m at) (places ++ at ∷ [])
place_more m places at h q =
    ap (λ (o : Option Bool). is_some o) (get-insert nat_cmp_total m at true q)
    ∙ some_if (eq_by_cmp nat_cmp q at) (get m q)
    ∙ ap (λ (b : Bool). b || is_some (get m q)) (same_key q at)
    ∙ ap (λ (b : Bool). (at == q) || b) (h q)
    ∙ or_turn (at == q) (list_any (λ n. n == q) places)
    ∙ sym (list_any-append (λ n. n == q) places (at ∷ []))

names_fitting : (m : Places) (places : List ℕ) (b : Body) → HasPlaces m places → offset_fits places b ≡ true → names_one_of m b ≡ true
names_fitting m places (body.Checkpoint offset) h e = h offset ∙ e
names_fitting m places (body.RowChange change) h e = refl
names_fitting m places (body.Compensation change undone) h e = refl
names_fitting m places (body.System patches) h e = refl
names_fitting m places body.Commit h e = refl
names_fitting m places body.Ended h e = refl
names_fitting m places body.RestartEnd h e = refl

none_if : (b : Bool) (more : Option ℕ) (at : ℕ) → b ≡ true → more ≡ None → cond b more (Some at) ≡ None
none_if true more at h k = k
none_if false more at h k = absurd cc

pub no_fault : (m : Places) (places : List ℕ) (at : ℕ) (rs : List LogRecord) → HasPlaces m places → offsets_fit places at rs ≡ true → fault_from m at rs ≡ None
no_fault m places at [] h e = refl
no_fault m places at (r ∷ rs) h e =
    let both = and_parts (offset_fits (places ++ at ∷ []) r.body) (offsets_fit (places ++ at ∷ []) (next_place at r) rs) e in
    let more = place_more m places at h in
    none_if (names_one_of (with_place m at) r.body) (fault_from (with_place m at) (at + length (record_bytes r)) rs) (at + offset_field r.version)
    (names_fitting (with_place m at) (places ++ at ∷ []) r.body more both.0) (no_fault (with_place m at) (places ++ at ∷ []) (at + length (record_bytes r)) rs more both.1)

pub no_places : HasPlaces empty []
no_places q = ap (λ (o : Option Bool). is_some o) (get-empty {X = Bool} nat_cmp q)

-- ---- the byte at which a log begins that was read whole

pub behind_is : (at : ℕ) (rs : List LogRecord) → behind_all at rs ≡ at + length (log_bytes rs)
behind_is at [] = omega arith
behind_is at (r ∷ rs) =
    let ih = behind_is (at + length (record_bytes r)) rs in
    let both = length-append (record_bytes r) (log_bytes rs) in
    omega (arith, ih, both)

begins_at_none : (log : Log) → log.length ≡ length (log_bytes log.records) → begin_of log ≡ 0
begins_at_none log e = let b = behind_is 0 log.records in omega (arith, b, e)

-- all logs begin at their first bytes
abbrev BeginWhole : List Log → Type 0
BeginWhole logs = AllByRecursion (λ (l : Log). begin_of l ≡ 0) logs

begin_whole : (member : ℕ) (bytes : List (List ℕ)) (logs : List Log) → AreWholeLogs member bytes logs → BeginWhole logs
begin_whole member [] [] h = tt
begin_whole member [] (log ∷ logs) h = absurd h
begin_whole member (bs ∷ rest) [] h = absurd h
begin_whole member (bs ∷ rest) (log ∷ logs) h = (begins_at_none log h.0.length_is, begin_whole (member + 1) rest logs h.1)

no_offset : (at : Images) (logs : List Log) → BeginWhole logs → AreCheckpointed at logs → offset_damage logs ≡ None
no_offset at [] begins h = refl
no_offset at (log ∷ logs) begins h =
    let none : fault_in log ≡ None = ap (λ (n : ℕ). fault_from empty n log.records) begins.0 ∙ no_fault empty [] 0 log.records no_places h.0.offsets in
    ap (or_later (offset_damage logs) log.member) none ∙ no_offset at logs begins.1 h.1

pub finds_no_damage : HaveNoDamage → FindsNoDamage
unfolding found_damage
finds_no_damage none c logs h =
    ap (λ (o : Option Damaged). earlier (placed logs o) (offset_damage logs)) (none c.logs logs h.whole_logs h.transactions)
    ∙ no_offset (page_at c.pages) logs (begin_whole 1 c.logs logs h.whole_logs) h.checkpoints

-- ---- the plan

place_if : (b : Bool) (n at rest : ℕ) → n ≡ 0 → rest ≡ at → cond b (n + at) rest ≡ at
place_if true n at rest e h = omega (arith, e)
place_if false n at rest e h = h

same_place : (logs : List Log) (member at : ℕ) → BeginWhole logs → place_among logs member at ≡ at
same_place [] member at h = refl
same_place (log ∷ logs) member at h = place_if (log.member == member) (begin_of log) at (place_among logs member at) h.0 (same_place logs member at h.1)

same_on : (logs : List Log) (v : Volume) (at : ℕ) → BeginWhole logs → place_on logs v at ≡ at
same_on logs (volume.Log member) at h = same_place logs member at h
same_on logs (volume.Page id) at h = refl

same_greatest : (logs : List Log) (g : Greatest) → BeginWhole logs → placed_on logs g ≡ g
same_greatest logs g h = ap (λ (n : ℕ). record { lrsn = g.lrsn; volume = g.volume; at = n }) (same_on logs g.volume g.at h)

pub plans_all : PlansAll
plans_all c logs h = ap (with_greatest (plan_of logs)) (same_greatest logs (plan_of logs).greatest (begin_whole 1 c.logs logs h.whole_logs))

pub goes_to_tails : FindsNoDamage → PlansAll → GoesToTails
unfolding take_logs
goes_to_tails none all c h sound =
    ap (planned h) (none c h.logs sound) ∙ ap (λ (p : Plan). next_tail (record h { plan = p; logs = [] })) (all c h.logs sound)
