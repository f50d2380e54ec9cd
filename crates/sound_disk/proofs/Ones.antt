-- Disks of which only the log of member 1 has records.
use Rattle.std.proofs.Common.{◌≡◌, ℕ, zero, suc, ◌+◌, ◌≤◌, Bool, true, false, List, [], ◌∷◌, ◌++◌, length, replicate, refl, sym, ap, subst, ◌∙◌, arith, inl}
use Rattle.std.specs.Prelude.{◌==◌, not, ◌||◌, ◌&&◌}
use Rattle.std.specs.List.{AllByRecursion, list_all}
use Rattle.std.proofs.lemmas.List.{append-nil}
use Rattle.ds_base.specs.declared.names.PageId.{PageId}
use Rattle.ds_disk.specs.Pages.{Pages, page_at}
use Rattle.ds_model.specs.declared.log.LogRecord.{LogRecord}
use Rattle.ds_model.specs.RecordBytes.{IsAllowed, log_bytes}
use Rattle.log_record.specs.declared.log.Log.{Log}
use Rattle.restart_plan.specs.Given.{all_records, in_order, RisesFrom}
use Rattle.page_images.specs.Images.{Images, zeros}
use Rattle.page_redo.specs.Given.{images_of}
use Rattle.sound_disk.specs.Whole_logs.{IsWholeLog, AreWholeLogs}
use Rattle.sound_disk.specs.Transactions.{drawn_numbers, all_differ, stands_apart, stand_apart, EachFollows, AreTransactions}
use Rattle.sound_disk.specs.Versions.{merged, MayStand}
use Rattle.sound_disk.specs.Tables.{AreWholeTables}
use Rattle.sound_disk.specs.Turns.{are_in_turn}
use Rattle.sound_disk.specs.Numbers_left.{open_changes}
use Rattle.log_trans.specs.Numbers.{greatest}
use Rattle.ds_base.specs.Ids.{IsLrsn}
use Rattle.sound_disk.specs.Checkpoints.{IsCheckpointed}
use Rattle.sound_disk.specs.Sound.{IsSoundWith}
use Rattle.sound_disk.specs.Examples.{log_with, empty_logs, first_log, disk_of}

-- ---- logs without records

whole_log : (member : ℕ) (records : List LogRecord) → AllByRecursion IsAllowed records → RisesFrom 0 records → IsWholeLog member (log_bytes records) (log_with member records)
whole_log member records allowed rising = record {
  member_is = refl;
  records_are = record { tail = []; whole = sym (append-nil (log_bytes records)); allowed = allowed; torn = inl refl };
  length_is = refl;
  tail_is = omega arith;
  rising = rising;
}

empties_are_whole : (member n : ℕ) → AreWholeLogs member (replicate n []) (empty_logs member n)
empties_are_whole member zero = tt
empties_are_whole member (suc n) = (whole_log member [] tt tt, empties_are_whole (member + 1) n)

no_records : (member n : ℕ) → all_records (empty_logs member n) ≡ []
no_records member zero = refl
no_records member (suc n) = no_records (member + 1) n

each_empty : (P : List LogRecord → Type 0) (member n : ℕ) → P [] → AllByRecursion (λ (l : Log). P l.records) (empty_logs member n)
each_empty P member zero p = tt
each_empty P member (suc n) p = (p, each_empty P (member + 1) n p)

empties_apart : (member n : ℕ) → stand_apart (empty_logs member n) ≡ true
empties_apart member zero = refl
empties_apart member (suc n) = empties_apart (member + 1) n

or_true : (b : Bool) → (b || true) ≡ true
or_true true = refl
or_true false = refl

apart_from_none : (records : List LogRecord) → stands_apart records [] ≡ true
apart_from_none [] = refl
apart_from_none (r ∷ rs) = ap (λ (b : Bool). b && stands_apart rs []) (or_true (r.tran == 0)) ∙ apart_from_none rs

-- ---- the first log

pub first_records : (records : List LogRecord) → all_records (first_log records) ≡ records
first_records records = ap (λ (rs : List LogRecord). records ++ rs) (no_records 2 31) ∙ append-nil records

pub first_is_whole : (pages : Pages) (records : List LogRecord) → AllByRecursion IsAllowed records → RisesFrom 0 records → AreWholeLogs 1 (disk_of pages records).logs (first_log records)
first_is_whole pages records allowed rising = (whole_log 1 records allowed rising, empties_are_whole 2 31)

first_apart : (records : List LogRecord) → stand_apart (first_log records) ≡ true
first_apart records =
    ap (λ (rs : List LogRecord). stands_apart records rs && stand_apart (empty_logs 2 31)) (no_records 2 31)
    ∙ ap (λ (b : Bool). b && stand_apart (empty_logs 2 31)) (apart_from_none records) ∙ empties_apart 2 31

-- what the clauses come to for these records
pub record IsSoundLog (pages : Pages) (records : List LogRecord) : Type 0 where
  pub allowed : AllByRecursion IsAllowed records
  pub rising : RisesFrom 0 records
  pub numbers : all_differ (0 ∷ drawn_numbers records) ≡ true
  pub follow : EachFollows [] records
  pub stand : (id : PageId) → MayStand (first_log records) id (page_at pages id)
  pub tables : AreWholeTables (in_order records)
  pub turns : are_in_turn [] (in_order records) ≡ true
  pub left : IsLrsn (greatest records + length (open_changes records))
  pub checkpointed : IsCheckpointed (page_at pages) records

pub first_is_sound : (pages : Pages) (records : List LogRecord) → IsSoundLog pages records → IsCheckpointed (page_at pages) [] → IsSoundWith (disk_of pages records) (first_log records)
first_is_sound pages records h empty =
    let e : records ≡ all_records (first_log records) = sym (first_records records) in
    record {
      whole_logs = first_is_whole pages records h.allowed h.rising;
      transactions = record {
        numbers = subst (λ (rs : List LogRecord). all_differ (0 ∷ drawn_numbers rs) ≡ true) e h.numbers;
        homes = first_apart records;
        follow = (h.follow, each_empty (λ (rs : List LogRecord). EachFollows [] rs) 2 31 tt);
      };
      versions = h.stand;
      tables = subst (λ (rs : List LogRecord). AreWholeTables (in_order rs)) e h.tables;
      turns = subst (λ (rs : List LogRecord). are_in_turn [] (in_order rs) ≡ true) e h.turns;
      numbers = subst (λ (rs : List LogRecord). IsLrsn (greatest rs + length (open_changes rs))) e h.left;
      checkpoints = (h.checkpointed, each_empty (λ (rs : List LogRecord). IsCheckpointed (page_at pages) rs) 2 31 empty);
    }
