-- Disks that are not sound, each for one clause.
use Rattle.std.proofs.Common.{◌≡◌, ℕ, ◌+◌, ◌-◌, ◌^◌, ◌<◌, ◌≤◌, true, false, cond, List, [], ◌∷◌, length, Result, Ok, Err, Option, Some, None, refl, sym, ap, subst, ◌∙◌, arith, unwrap_or, replicate}
use Rattle.std.specs.List.{AllByRecursion}
use Rattle.std.specs.FinMap as map
use Rattle.std.specs.FinMap.{get-insert, get-empty}
use Rattle.ds_base.specs.Pages.{heap_page}
use Rattle.ds_base.specs.declared.names.PageId.{PageId}
use Rattle.ds_disk.specs.Pages.{Pages, page_cmp_total, page_at}
use Rattle.ds_model.specs.declared.log.LogRecord.{LogRecord}
use Rattle.ds_model.specs.declared.log.Body.TheVariants as body
use Rattle.ds_model.specs.RecordBytes.{IsAllowed, record_bytes, spelling, log_bytes}
use Rattle.page_format.specs.Header.{header_of}
use Rattle.log_record.specs.declared.log.Log.{Log}
use Rattle.restart_plan.specs.Given.{RisesFrom, all_records, in_order}
use Rattle.page_images.specs.Images.{zeros}
use Rattle.page_redo.specs.Rows.{headed_fault, change_fault}
use Rattle.ds_base.specs.Ids.{IsLrsn}
use Rattle.log_trans.specs.Numbers.{greatest}
use Rattle.sound_disk.specs.Whole_logs.{AreWholeLogs}
use Rattle.sound_disk.specs.Versions.{is_page}
use Rattle.sound_disk.specs.Turns.{are_in_turn}
use Rattle.sound_disk.specs.Tables.{AreWholeTables}
use Rattle.sound_disk.specs.Numbers_left.{open_changes}
use Rattle.sound_disk.specs.Sound.{IsSoundWith, IsSoundDisk}
use Rattle.sound_disk.specs.Examples.{first_log, disk_of, record_of, row_change, falling_log, twice_committed, lost_start, lost_row, two_writers, last_number_used, stray_page}
use Rattle.sound_disk.proofs.Allowed.{commit_allowed, checkpoint_allowed, row_allowed}
use Rattle.sound_disk.proofs.Blank.{IsBlank}
use Rattle.sound_disk.proofs.Logs.{ReadsSound, are_told, whole_records}
use Rattle.sound_disk.proofs.Ones.{first_is_whole, first_records}

-- a sound disk of which only one log has records is sound with just these
sound_with : ReadsSound → (pages : Pages) (records : List LogRecord) → AllByRecursion IsAllowed records → RisesFrom 0 records → IsSoundDisk (disk_of pages records) → IsSoundWith (disk_of pages records) (first_log records)
sound_with sound pages records allowed rising s =
    subst (λ (logs : List Log). IsSoundWith (disk_of pages records) logs)
    (are_told sound 1 (disk_of pages records).logs s.logs (first_log records) s.sound.whole_logs (first_is_whole pages records allowed rising)) s.sound

-- ---- whole records

first_rises : ReadsSound → (records : List LogRecord) (rest : List (List ℕ)) (logs : List Log) → AllByRecursion IsAllowed records → AreWholeLogs 1 (log_bytes records ∷ rest) logs → RisesFrom 0 records
first_rises sound records rest [] allowed h = absurd h
first_rises sound records rest (log ∷ logs) allowed h = subst (λ (rs : List LogRecord). RisesFrom 0 rs) (whole_records sound 1 records log allowed h.0) h.0.rising

falling_allowed : AllByRecursion IsAllowed falling_log
falling_allowed = (commit_allowed 2 2 (omega arith) (λ e. omega arith) (omega arith), (commit_allowed 1 1 (omega arith) (λ e. omega arith) (omega arith), tt))

pub falling_is_not : ReadsSound → IsSoundDisk (disk_of map.empty falling_log) → ⊥
falling_is_not sound s =
    let r : RisesFrom 0 falling_log = first_rises sound falling_log (replicate 31 []) s.logs falling_allowed s.sound.whole_logs in
    let falls : 2 ≤ 1 = r.1.0 in
    omega (arith, falls)

-- ---- transactions

twice_allowed : AllByRecursion IsAllowed twice_committed
twice_allowed = (commit_allowed 1 1 (omega arith) (λ e. omega arith) (omega arith), (commit_allowed 2 1 (omega arith) (λ e. omega arith) (omega arith), tt))

pub twice_is_not : ReadsSound → IsSoundDisk (disk_of map.empty twice_committed) → ⊥
twice_is_not sound s =
    let h : IsSoundWith (disk_of map.empty twice_committed) (first_log twice_committed) = sound_with sound map.empty twice_committed twice_allowed (omega arith, (omega arith, tt)) s in
    let f : Some 16 ≡ None = h.transactions.follow.0.1.0.fits in
    cc f

-- ---- pages

stray_bytes : page_at stray_page (record { set = 1; number = 1 }) ≡ 1 ∷ []
stray_bytes = ap (λ o. unwrap_or o (replicate 4096 0)) (get-insert page_cmp_total map.empty (record { set = 1; number = 1 }) (1 ∷ []) (record { set = 1; number = 1 }))

not_a_page : is_page (header_of (1 ∷ []) (record { set = 1; number = 1 })) ≡ false
unfolding header_of
not_a_page = refl

pub stray_is_not : ReadsSound → IsSoundDisk (disk_of stray_page []) → ⊥
stray_is_not sound s =
    let h : IsSoundWith (disk_of stray_page []) (first_log []) = sound_with sound stray_page [] tt tt s in
    let id : PageId = record { set = 1; number = 1 } in
    let e : is_page (header_of (page_at stray_page id) id) ≡ false = ap (λ (p : List ℕ). is_page (header_of p id)) stray_bytes ∙ not_a_page in
    let t : is_page (header_of (page_at stray_page id) id) ≡ true = (h.versions id).header in
    cc (e, t)

-- ---- rows

no_page : IsBlank → change_fault (heap_page 1 1) (row_change 10) zeros ≡ Some 0
no_page b = ap (λ r. headed_fault 0 10 zeros r) (b.header (heap_page 1 1))

pub lost_row_is_not : ReadsSound → IsBlank → IsSoundDisk (disk_of map.empty lost_row) → ⊥
lost_row_is_not sound b s =
    let h : IsSoundWith (disk_of map.empty lost_row) (first_log lost_row) = sound_with sound map.empty lost_row (row_allowed 1 1 10 (omega arith) (λ e. omega arith) (omega arith) (omega arith), tt) (omega arith, tt) s in
    let t : AreWholeTables lost_row = subst (λ (rs : List LogRecord). AreWholeTables (in_order rs)) (first_records lost_row) h.tables in
    let n : change_fault (heap_page 1 1) (row_change 10) zeros ≡ None = t.befores.0.slot in
    cc (no_page b, n)

two_allowed : AllByRecursion IsAllowed two_writers
two_allowed = (row_allowed 1 1 10 (omega arith) (λ e. omega arith) (omega arith) (omega arith), (row_allowed 2 2 10 (omega arith) (λ e. omega arith) (omega arith) (omega arith), tt))

pub two_writers_are_not : ReadsSound → IsSoundDisk (disk_of map.empty two_writers) → ⊥
two_writers_are_not sound s =
    let h : IsSoundWith (disk_of map.empty two_writers) (first_log two_writers) = sound_with sound map.empty two_writers two_allowed (omega arith, (omega arith, tt)) s in
    let t : are_in_turn [] (in_order two_writers) ≡ true = subst (λ (rs : List LogRecord). are_in_turn [] (in_order rs) ≡ true) (first_records two_writers) h.turns in
    let f : are_in_turn [] (in_order two_writers) ≡ false = refl in
    cc (t, f)

pub last_number_is_not : ReadsSound → IsSoundDisk (disk_of map.empty last_number_used) → ⊥
last_number_is_not sound s =
    let h : IsSoundWith (disk_of map.empty last_number_used) (first_log last_number_used) = sound_with sound map.empty last_number_used (row_allowed (2 ^ 80 - 1) (2 ^ 80 - 1) 10 (omega arith) (λ e. omega arith) (omega arith) (omega arith), tt) (omega arith, tt) s in
    let t : IsLrsn (greatest last_number_used + length (open_changes last_number_used)) = subst (λ (rs : List LogRecord). IsLrsn (greatest rs + length (open_changes rs))) (first_records last_number_used) h.numbers in
    let none : 2 ^ 80 < 2 ^ 80 = t in
    omega (arith, none)

-- ---- checkpoints

offset_is_not : (IsSoundWith (disk_of map.empty lost_start) (first_log lost_start)) → ⊥
unfolding record_bytes spelling
offset_is_not h = let o : false ≡ true = h.checkpoints.0.offsets in cc o

pub lost_start_is_not : ReadsSound → IsSoundDisk (disk_of map.empty lost_start) → ⊥
lost_start_is_not sound s = offset_is_not (sound_with sound map.empty lost_start (commit_allowed 1 1 (omega arith) (λ e. omega arith) (omega arith), (checkpoint_allowed 1 29 (omega arith) (omega arith), tt)) (omega arith, (omega arith, tt)) s)
