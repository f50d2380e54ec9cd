-- From what was told of logs and tables to the clauses of a sound disk.
use Rattle.std.proofs.Common.{◌≡◌, ℕ, ◌+◌, ◌≤◌, Bool, true, false, List, [], ◌∷◌, ◌++◌, length, Option, Some, None, inl, inr, refl, sym, ap, subst, ◌∙◌, if◌then◌else◌}
use Rattle.std.specs.Prelude.{◌⊎◌, ◌↔◌, ◌&&◌, IsTrue}
use Rattle.std.specs.List.{AllByRecursion}
use Rattle.ds_base.specs.Ids.{IsLrsn, IsTable}
use Rattle.ds_base.specs.declared.names.PageId.{PageId}
use Rattle.ds_disk.specs.Contents.{Contents}
use Rattle.ds_disk.specs.Pages.{page_at}
use Rattle.ds_model.specs.declared.log.LogRecord.{LogRecord}
use Rattle.ds_model.specs.RecordBytes.{IsAllowed}
use Rattle.ds_model.specs.Rows.{listed}
use Rattle.ds_model.specs.Logs.{rows_of_logs, by_lrsn}
use Rattle.disk_spots.specs.declared.spot.Spot.{Spot}
use Rattle.disk_spots.specs.declared.spot.Spot.TheVariants as spot
use Rattle.disk_spots.specs.Spots.{spot_of, drawn_spot_of}
use Rattle.log_record.specs.declared.log.Log.{Log}
use Rattle.log_merge.specs.Merging.{all_records}
use Rattle.log_trans.specs.Numbers.{greatest}
use Rattle.page_images.specs.Images.{Images}
use Rattle.page_chain.specs.Chains.{images_of}
use Rattle.restart_plan.specs.Renewal.{must_renew}
use Rattle.sound_disk.specs.Laws.{records_of, AreMerged}
use Rattle.sound_disk.specs.Whole_logs.{AreWholeLogs}
use Rattle.sound_disk.specs.Transactions.{AreTransactions}
use Rattle.sound_disk.specs.Versions.{merged}
use Rattle.sound_disk.specs.Checkpoints.{AreCheckpointed}
use Rattle.sound_disk.specs.Numbers_left.{open_changes, NumbersAreLeft}
use Rattle.sound_disk.specs.Tables.{IsWholeTable, AreWholeTables, AreTables}
use Rattle.sound_disk.specs.Turns.{is_in_turn, are_in_turn, ChangeInTurn}
use Rattle.fitting_records.specs.Breaches.{IsRecordOf, IsFirstBreach}
use Rattle.fitting_records.specs.Telling.{AreFitTold}
use Rattle.fitting_records.specs.Passed as passing
use Rattle.disk_logs.specs.Broken.{IsFirstBroken}
use Rattle.disk_logs.specs.Ends.{AreWholeTo}
use Rattle.disk_versions.specs.Placing.{AreInSets, IsFirstInSets}
use Rattle.disk_versions.specs.Told.{page_sets, AreAllPlaced, IsFirstUnplaced}
use Rattle.disk_versions.specs.Ranged.{PlacingTells}
use Rattle.disk_versions.specs.declared.set.Placing.TheVariants as placing
use Rattle.index_places.specs.Whole.{AreAllWhole, IsFirstUnwhole}
use Rattle.kept_pages.specs.Unkept.{IsUnkept, AreKept}
use Rattle.row_turns.specs.Orders as orders
use Rattle.row_turns.specs.Out.{IsOutOfTurn, located}
use Rattle.row_turns.specs.Turns.{out_of_turn}
use Rattle.row_turns.specs.Ranges.{number_in, OutIsFirst, OpenAreAll, RowsAreAll}
use Rattle.row_turns.specs.declared.told.OutOfTurn.{OutOfTurn}
use Rattle.settled_changes.specs.Spots.{LackNumbers, AreNumbersTold, NumbersTell}
use Rattle.stood_rows.specs.declared.unstood.Unstood.{Unstood}
use Rattle.stood_rows.specs.Found.{page_in}
use Rattle.stood_rows.specs.Laws.{FoundAreTold}
use Rattle.stood_rows.specs.Standing.{AreTold as AreStood}
use Rattle.space_check.specs.declared.told.TablesTold.{TablesTold}
use Rattle.space_check.specs.declared.verdict.Clause.{Clause}
use Rattle.space_check.specs.declared.verdict.Clause.TheVariants as clause
use Rattle.space_check.specs.declared.verdict.Breach.{Breach}
use Rattle.space_check.specs.declared.verdict.Verdict.{Verdict}
use Rattle.space_check.specs.declared.verdict.Verdict.TheVariants as verdict
use Rattle.space_check.specs.Clauses.{ArePlaced, IsTablesPage, IsBreach}
use Rattle.space_check.specs.Judging.{AreRight}
use Rattle.space_check.specs.Verdicts.{IsTold}
use Rattle.space_check.specs.Tables.{AreWholeUpTo, AreStoodUpTo, AreTablesTold}
use Rattle.space_check.specs.Telling.{AreEnded, TellsEnded, AreFit, AreTabled, wrong_by, wrong_page, unsound}

-- the laws that are called
pub record AreLaws : Type 0 where
  pub merge : AreMerged
  pub place : PlacingTells
  pub stand : FoundAreTold
  pub out : OutIsFirst
  pub open_of : OpenAreAll
  pub rows_of : RowsAreAll

-- ---- each clause that fails where those before it hold

abbrev breach_of : Clause → Spot → Breach
breach_of name s = record { clause = name; at = s }

pub unfit_breach : (at : Images) (logs : List Log) (behind : ℕ) (s : Spot) → (AreTransactions logs → ⊥) → IsRecordOf (IsFirstBreach AreTransactions logs) s → IsBreach at logs behind (breach_of clause.Transactions s)
unfit_breach at logs behind s lacking first = record { before = tt; fails = (lacking, first) }

pub unplaced_breach : (at : Images) (logs : List Log) (behind : ℕ) (id : PageId) → AreTransactions logs → IsFirstUnplaced at logs behind id → IsBreach at logs behind (breach_of clause.Versions (spot.Page id))
unplaced_breach at logs behind id trans first = record { before = trans; fails = first }

pub tables_breach : (at : Images) (logs : List Log) (behind : ℕ) (id : PageId) → AreTransactions logs → ArePlaced at logs behind → (AreTables logs → ⊥) × IsTablesPage (merged logs) id
    → IsBreach at logs behind (breach_of clause.Tables (spot.Page id))
tables_breach at logs behind id trans placed wrong = record { before = (trans, placed); fails = wrong }

pub turns_breach : (at : Images) (logs : List Log) (behind : ℕ) (s : Spot) → AreTransactions logs → ArePlaced at logs behind → AreTables logs → IsOutOfTurn logs s → IsBreach at logs behind (breach_of clause.Turns s)
turns_breach at logs behind s trans placed tables out = record { before = (trans, placed, tables); fails = out }

pub numbers_breach : (at : Images) (logs : List Log) (behind : ℕ) (s : Spot) → AreTransactions logs → ArePlaced at logs behind → AreTables logs → ChangeInTurn logs → LackNumbers logs s → IsBreach at logs behind (breach_of clause.Numbers s)
numbers_breach at logs behind s trans placed tables turns lack = record { before = (trans, placed, tables, turns); fails = lack }

pub unkept_breach : (at : Images) (logs : List Log) (behind : ℕ) (s : Spot) → AreTransactions logs → ArePlaced at logs behind → AreTables logs → ChangeInTurn logs → NumbersAreLeft logs → IsUnkept at logs s → IsBreach at logs behind (breach_of clause.Checkpoints s)
unkept_breach at logs behind s trans placed tables turns numbers unkept = record { before = (trans, placed, tables, turns, numbers); fails = unkept }

-- ---- the verdict

pub told_breach : (c : Contents) (logs : List Log) (behind : ℕ) (b : Breach) → AreWholeLogs 1 c.logs logs → IsBreach (page_at c.pages) logs behind b → IsTold c behind (verdict.Unsound b)
told_breach c logs behind b whole breach = inr (record { logs = logs; whole = whole; breach = breach })

pub told_right : (c : Contents) (logs : List Log) (behind pages rows : ℕ) → AreWholeLogs 1 c.logs logs → AreRight (page_at c.pages) logs behind pages rows → IsTold c behind (verdict.Sound pages rows)
told_right c logs behind pages rows whole right = record {
  logs = logs;
  whole = whole;
  right = right;
  sound = λ zeros. record {
    whole_logs = whole;
    transactions = right.transactions;
    versions = right.placed.versions zeros;
    tables = right.tables;
    turns = right.turns;
    numbers = right.numbers;
    checkpoints = right.checkpoints;
  };
}

pub broken_of : (c : Contents) (behind member at : ℕ) → IsFirstBroken c.logs member at → IsTold c behind (unsound clause.WholeLogs (spot.Log member at))
broken_of c behind member at off = inl (record { clause_is = refl; spot_is = off })

-- ---- what holds of the merged records

allowed_of : AreMerged → (c : Contents) (ends : List ℕ) (great : ℕ) (logs : List Log) → AreFit c ends great logs → AllByRecursion IsAllowed (merged logs)
allowed_of merge c ends great logs fit = (merge c.logs logs fit.ended.whole fit.transactions).0

-- ---- the third clause

placed_of : AreLaws → (c : Contents) (ends : List ℕ) (great behind : ℕ) (t : TablesTold) (logs : List Log) → AreTabled c ends great behind t logs → AreAllPlaced (page_at c.pages) logs behind t.pages
placed_of laws c ends great behind t logs is = laws.place (page_at c.pages) logs behind (placing.All t.pages) is.told.placed

pub unplaced_told : PlacingTells → (c : Contents) (ends : List ℕ) (great behind : ℕ) (logs : List Log) (id : PageId) → AreFit c ends great logs → IsFirstInSets (page_at c.pages) (merged logs) (must_renew logs) behind page_sets id
    → IsTold c behind (unsound clause.Versions (spot.Page id))
unplaced_told place c ends great behind logs id fit first =
    told_breach c logs behind (breach_of clause.Versions (spot.Page id)) fit.ended.whole
    (unplaced_breach (page_at c.pages) logs behind id fit.transactions (place (page_at c.pages) logs behind (placing.Unplaced id) first))

-- ---- the fourth

all_whole : (at : Images) (records : List LogRecord) → AreWholeUpTo at records 64 None → AreAllWhole at records
all_whole at records h = λ table is. h table is.0 is.1

stood_of : FoundAreTold → (records : List LogRecord) (first : Option Unstood) → AllByRecursion IsAllowed records → AreStoodUpTo records 64 first → AreStood records (page_in first)
stood_of law records first allowed is = law is.has records first allowed is.passes is.found

whole_by : (records : List LogRecord) (unwhole : Option PageId) (first : Option Unstood) → wrong_by unwhole first ≡ None → AreWholeUpTo (images_of records) records 64 unwhole → AreStood records (page_in first) → AreWholeTables records
whole_by records None first none whole stood = record { tables = all_whole (images_of records) records whole; befores = subst (λ (p : Option PageId). AreStood records p) none stood }
whole_by records (Some id) first none whole stood = absurd cc

wrong_of : (records : List LogRecord) (unwhole : Option PageId) (first : Option Unstood) (id : PageId) → wrong_by unwhole first ≡ Some id → AreWholeUpTo (images_of records) records 64 unwhole → AreStood records (page_in first)
    → (AreWholeTables records → ⊥) × IsTablesPage records id
wrong_of records None first id some whole stood =
    let told : AreStood records (Some id) = subst (λ (p : Option PageId). AreStood records p) some stood in
    (λ w. told.lacking w.befores, inr (all_whole (images_of records) records whole, told))
wrong_of records (Some other) first id some whole stood =
    let same : other ≡ id = cc in
    let is : IsFirstUnwhole (images_of records) records id = subst (λ (i : PageId). IsFirstUnwhole (images_of records) records i) same whole in
    (λ w. is.unwhole (w.tables is.table is.is_table), inl is)

tables_of : AreLaws → (c : Contents) (ends : List ℕ) (great behind : ℕ) (t : TablesTold) (logs : List Log) → wrong_page t ≡ None → AreTabled c ends great behind t logs → AreTables logs
tables_of laws c ends great behind t logs none is =
    whole_by (merged logs) t.unwhole t.unstood none is.told.whole (stood_of laws.stand (merged logs) t.unstood (allowed_of laws.merge c ends great logs is.fit) is.told.stood)

pub tables_told : AreMerged → PlacingTells → FoundAreTold → (c : Contents) (ends : List ℕ) (great behind : ℕ) (t : TablesTold) (logs : List Log) (id : PageId) → wrong_page t ≡ Some id → AreTabled c ends great behind t logs → IsTold c behind (unsound clause.Tables (spot.Page id))
tables_told merge place stand c ends great behind t logs id some is =
    told_breach c logs behind (breach_of clause.Tables (spot.Page id)) is.fit.ended.whole
    (tables_breach (page_at c.pages) logs behind id is.fit.transactions (place (page_at c.pages) logs behind (placing.All t.pages) is.told.placed).read
    (wrong_of (merged logs) t.unwhole t.unstood id some is.told.whole (stood_of stand (merged logs) t.unstood (allowed_of merge c ends great logs is.fit) is.told.stood)))

-- ---- the fifth

out_is : AreLaws → (c : Contents) (ends : List ℕ) (great behind : ℕ) (t : TablesTold) (logs : List Log) → AreTabled c ends great behind t logs → out_of_turn [] (merged logs) ≡ number_in t.turns.out
out_is laws c ends great behind t logs is = laws.out is.told.turns.has (merged logs) t.turns (allowed_of laws.merge c ends great logs is.fit) is.told.turns.passes is.told.turns.told

none_when : (b : Bool) (o : Option ℕ) (c : Bool) (n : ℕ) → (if b then o else Some n) ≡ None → (o ≡ None → c ≡ true) → (b && c) ≡ true
none_when true o c n h k = k h
none_when false o c n h k = absurd cc

some_when : (b : Bool) (o : Option ℕ) (c : Bool) (m n : ℕ) → (if b then o else Some m) ≡ Some n → (b && c) ≡ true → (o ≡ Some n → c ≡ true → ⊥) → ⊥
some_when true o c m n h k f = f h k
some_when false o c m n h k f = absurd cc

none_out : (earlier records : List LogRecord) → out_of_turn earlier records ≡ None → are_in_turn earlier records ≡ true
none_out earlier [] h = refl
none_out earlier (r ∷ rs) h = none_when (is_in_turn earlier r.tran r.body) (out_of_turn (earlier ++ r ∷ []) rs) (are_in_turn (earlier ++ r ∷ []) rs) r.lrsn h (none_out (earlier ++ r ∷ []) rs)

some_out : (earlier records : List LogRecord) (n : ℕ) → out_of_turn earlier records ≡ Some n → are_in_turn earlier records ≡ true → ⊥
some_out earlier [] n h k = absurd cc
some_out earlier (r ∷ rs) n h k = some_when (is_in_turn earlier r.tran r.body) (out_of_turn (earlier ++ r ∷ []) rs) (are_in_turn (earlier ++ r ∷ []) rs) r.lrsn n h k (some_out (earlier ++ r ∷ []) rs n)

turns_of : AreLaws → (c : Contents) (ends : List ℕ) (great behind : ℕ) (t : TablesTold) (logs : List Log) → t.turns.out ≡ None → AreTabled c ends great behind t logs → ChangeInTurn logs
turns_of laws c ends great behind t logs none is = none_out [] (merged logs) (out_is laws c ends great behind t logs is ∙ ap number_in none)

pub turns_told : AreLaws → (c : Contents) (ends : List ℕ) (great behind : ℕ) (t : TablesTold) (logs : List Log) (out : OutOfTurn) (found : Option Spot) (at : Spot) → wrong_page t ≡ None → t.turns.out ≡ Some out → found ≡ drawn_spot_of out.number logs → found ≡ Some at
    → AreTabled c ends great behind t logs → IsTold c behind (unsound clause.Turns at)
turns_told laws c ends great behind t logs out found at none some found_is found_at is =
    let number : out_of_turn [] (merged logs) ≡ Some out.number = out_is laws c ends great behind t logs is ∙ ap number_in some in
    told_breach c logs behind (breach_of clause.Turns at) is.fit.ended.whole
    (turns_breach (page_at c.pages) logs behind at is.fit.transactions (placed_of laws c ends great behind t logs is).read (tables_of laws c ends great behind t logs none is)
    (record { lacking = some_out [] (merged logs) out.number number; spot_is = ap (located logs) number ∙ sym found_is ∙ found_at }))

-- ---- the sixth

open_is : AreLaws → (c : Contents) (ends : List ℕ) (great behind : ℕ) (t : TablesTold) (logs : List Log) → t.turns.out ≡ None → AreTabled c ends great behind t logs → t.turns.open ≡ length (open_changes (all_records logs))
open_is laws c ends great behind t logs none is = laws.open_of is.told.turns.has logs t.turns (allowed_of laws.merge c ends great logs is.fit) is.told.turns.passes is.told.turns.told none

pub numbers_told : AreLaws → NumbersTell → (c : Contents) (ends : List ℕ) (great behind : ℕ) (t : TablesTold) (logs : List Log) (found : Option Spot) (at : Spot) → wrong_page t ≡ None → t.turns.out ≡ None → (IsLrsn (great + t.turns.open) → ⊥) → found ≡ spot_of great logs
    → found ≡ Some at → AreTabled c ends great behind t logs → IsTold c behind (unsound clause.Numbers at)
numbers_told laws law c ends great behind t logs found at none none_turned lack found_is found_at is =
    told_breach c logs behind (breach_of clause.Numbers at) is.fit.ended.whole
    (numbers_breach (page_at c.pages) logs behind at is.fit.transactions (placed_of laws c ends great behind t logs is).read (tables_of laws c ends great behind t logs none is) (turns_of laws c ends great behind t logs none_turned is)
    (subst (λ (f : Option Spot). AreNumbersTold logs f) found_at (law logs great t.turns.open found is.fit.greatest_is (open_is laws c ends great behind t logs none_turned is) lack found_is)))

-- enough are left
left_of : AreLaws → (c : Contents) (ends : List ℕ) (great behind : ℕ) (t : TablesTold) (logs : List Log) → t.turns.out ≡ None → IsLrsn (great + t.turns.open) → AreTabled c ends great behind t logs → NumbersAreLeft logs
left_of laws c ends great behind t logs none left is =
    subst (λ (n : ℕ). IsLrsn (n + length (open_changes (all_records logs)))) is.fit.greatest_is (subst (λ (n : ℕ). IsLrsn (great + n)) (open_is laws c ends great behind t logs none is) left)

-- ---- the seventh

pub kept_told : AreLaws → (c : Contents) (ends : List ℕ) (great behind : ℕ) (t : TablesTold) (logs : List Log) (found : Option Spot) → wrong_page t ≡ None → t.turns.out ≡ None → IsLrsn (great + t.turns.open) → found ≡ None → AreKept (page_at c.pages) logs found
    → AreTabled c ends great behind t logs → IsTold c behind (verdict.Sound t.pages t.turns.rows)
kept_told laws c ends great behind t logs found none none_turned left is_none kept is =
    told_right c logs behind t.pages t.turns.rows is.fit.ended.whole (record {
      transactions = is.fit.transactions;
      placed = placed_of laws c ends great behind t logs is;
      tables = tables_of laws c ends great behind t logs none is;
      turns = turns_of laws c ends great behind t logs none_turned is;
      numbers = left_of laws c ends great behind t logs none_turned left is;
      checkpoints = subst (λ (f : Option Spot). AreKept (page_at c.pages) logs f) is_none kept;
      rows_are = laws.rows_of is.told.turns.has logs t.turns (allowed_of laws.merge c ends great logs is.fit) is.told.turns.passes is.told.turns.told none_turned;
    })

pub unkept_told : AreLaws → (c : Contents) (ends : List ℕ) (great behind : ℕ) (t : TablesTold) (logs : List Log) (found : Option Spot) (at : Spot) → wrong_page t ≡ None → t.turns.out ≡ None → IsLrsn (great + t.turns.open) → found ≡ Some at → AreKept (page_at c.pages) logs found
    → AreTabled c ends great behind t logs → IsTold c behind (unsound clause.Checkpoints at)
unkept_told laws c ends great behind t logs found at none none_turned left some kept is =
    told_breach c logs behind (breach_of clause.Checkpoints at) is.fit.ended.whole
    (unkept_breach (page_at c.pages) logs behind at is.fit.transactions (placed_of laws c ends great behind t logs is).read (tables_of laws c ends great behind t logs none is) (turns_of laws c ends great behind t logs none_turned is)
    (left_of laws c ends great behind t logs none_turned left is) (subst (λ (f : Option Spot). AreKept (page_at c.pages) logs f) some kept))

-- ---- before the tables

pub not_left : (b : Bool) (P : Type 0) → b ≡ false → IsTrue b ↔ P → P → ⊥
not_left b P e h p = absurd (cc (e, h.1 p))

pub ended_of : (c : Contents) (behind : ℕ) (ends slice : List ℕ) (v : Verdict) → slice ≡ ends → AreWholeTo c.logs ends → TellsEnded slice behind v c → IsTold c behind v
ended_of c behind ends slice v same whole told = told whole.logs (record { whole = whole.are; ends_are = same ∙ whole.ends_are })

pub unfit_told : (c : Contents) (ends : List ℕ) (behind : ℕ) (logs : List Log) (found : Option Spot) (at : Spot) → AreEnded c ends logs → found ≡ Some at → AreFitTold found logs → IsTold c behind (unsound clause.Transactions at)
unfit_told c ends behind logs found at ended some told =
    let unfit : (AreTransactions logs → ⊥) × IsRecordOf (IsFirstBreach AreTransactions logs) at = subst (λ (f : Option Spot). AreFitTold f logs) some told in
    told_breach c logs behind (breach_of clause.Transactions at) ended.whole (unfit_breach (page_at c.pages) logs behind at unfit.0 unfit.1)

pub fit_now : (c : Contents) (ends : List ℕ) (great : ℕ) (logs : List Log) (found : Option Spot) → AreEnded c ends logs → found ≡ None → AreFitTold found logs → great ≡ greatest (all_records logs) → AreFit c ends great logs
fit_now c ends great logs found ended none told great_is = record { ended = ended; transactions = subst (λ (f : Option Spot). AreFitTold f logs) none told; greatest_is = great_is }

-- row changes before the Commit
early_same : (earlier rs : List LogRecord) → orders.are_early earlier rs ≡ passing.are_early earlier rs
early_same earlier [] = refl
early_same earlier (r ∷ rs) = ap (λ (b : Bool). orders.is_early earlier r && b) (early_same (earlier ++ r ∷ []) rs)

pub early_of : (logs : List Log) → passing.are_early [] (by_lrsn (all_records logs)) ≡ true → orders.are_early [] (by_lrsn (all_records logs)) ≡ true
early_of logs h = early_same [] (by_lrsn (all_records logs)) ∙ h
