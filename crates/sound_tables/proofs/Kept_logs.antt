-- What holds of the logs of a sound disk is kept by each record that is appended.
use Rattle.std.proofs.Common.{◌≡◌, ℕ, ◌+◌, Bool, List, [], ◌∷◌, ◌++◌, length, refl, ap, sym, subst, ◌∙◌}
use Rattle.std.specs.Prelude.{◌||◌}
use Rattle.ds_model.specs.declared.log.LogRecord.{LogRecord}
use Rattle.ds_model.specs.RecordBytes.{log_bytes}
use Rattle.log_record.specs.declared.log.Log.{Log}
use Rattle.page_images.specs.Images.{Images}
use Rattle.page_chain.specs.Chains.{IsVersion}
use Rattle.restart_plan.specs.Renewal.{asks_renewal, must_renew}
use Rattle.sound_disk.specs.Whole_logs.{AreWholeLogs}
use Rattle.sound_disk.specs.Versions.{current, AreVersions}
use Rattle.sound_disk.specs.Tables.{AreWholeTables}
use Rattle.sound_disk.specs.Checkpoints.{IsCheckpointed, AreCheckpointed}
use Rattle.sound_disk.specs.Laws.{records_of}
use Rattle.sound_appends.specs.Appends.{Appends}
use Rattle.sound_appends.specs.Laws.{KeepsWhole, TornKeepsWhole, KeepsTransactions, KeepsTurns, KeepsNumbers, SameRecordsKeep, KeepsVersions, KeepsCheckpoints}
use Rattle.sound_tables.specs.Keeping.{AreTableLogs, KeepsTables, AreSoundOn, IsSettledBefore}
use Rattle.sound_tables.proofs.Stops.{IsKept, first_of_lists, rest_of_lists, same_merged}

pub record Laws : Type 0 where
  pub whole : KeepsWhole
  pub torn : TornKeepsWhole
  pub transactions : KeepsTransactions
  pub turns : KeepsTurns
  pub numbers : KeepsNumbers
  pub same : SameRecordsKeep
  pub versions : KeepsVersions
  pub checkpoints : KeepsCheckpoints
  pub tables : KeepsTables

-- ---- one record

size_at : (member : ℕ) (bytes : List (List ℕ)) (front : List Log) (log : Log) (back : List Log) → AreWholeLogs member bytes (front ++ log ∷ back) → log.length ≡ length (log_bytes log.records)
size_at member [] [] log back h = absurd h
size_at member [] (x ∷ xs) log back h = absurd h
size_at member (b ∷ bs) [] log back h = h.0.length_is
size_at member (b ∷ bs) (x ∷ xs) log back h = size_at (member + 1) bs xs log back h.1

appended : Laws → (at : Images) (bytes : List (List ℕ)) (logs after : List Log) (r : LogRecord) (h : Appends logs r after) → IsSettledBefore at h.log r.body → AreWholeLogs 1 bytes logs → AreSoundOn at logs → AreSoundOn at after
appended l at bytes logs after r h d w s =
    let all : AreTableLogs bytes logs = record { whole = w; transactions = s.records.transactions; turns = s.records.turns; tables = s.tables } in
    record {
      records = record {
        transactions = l.transactions logs after r h s.records.transactions;
        turns = l.turns logs after r h s.records.turns;
        numbers = l.numbers logs after r h s.records.transactions s.records.numbers;
      };
      versions = l.versions at logs after r h d.1 s.versions;
      tables = l.tables bytes logs after r h all;
      checkpoints = l.checkpoints at logs after r h (size_at 1 bytes h.front h.log h.back (subst (AreWholeLogs 1 bytes) h.logs_are w)) d.0 s.checkpoints;
    }

-- ---- logs with the same records

same_renewal : (logs others : List Log) → records_of logs ≡ records_of others → must_renew logs ≡ must_renew others
same_renewal [] [] e = refl
same_renewal [] (y ∷ ys) e = absurd cc
same_renewal (x ∷ xs) [] e = absurd cc
same_renewal (x ∷ xs) (y ∷ ys) e =
    ap (λ (rs : List LogRecord). asks_renewal (record { member = x.member; records = rs; length = x.length; tail = x.tail }) || must_renew xs) (ap first_of_lists e)
    ∙ ap (λ (b : Bool). asks_renewal y || b) (same_renewal xs ys (ap rest_of_lists e))

same_versions : (at : Images) (logs others : List Log) → records_of logs ≡ records_of others → AreVersions at logs → AreVersions at others
same_versions at logs others e v = λ id. record {
  header = (v id).header;
  version = subst (λ (rs : List LogRecord). IsVersion id rs (current (at id))) (same_merged logs others e) (v id).version;
  renewing = λ old. sym (same_renewal logs others e) ∙ (v id).renewing old;
}

same_checkpoints : (at : Images) (logs others : List Log) → records_of logs ≡ records_of others → AreCheckpointed at logs → AreCheckpointed at others
same_checkpoints at [] [] e h = tt
same_checkpoints at [] (y ∷ ys) e h = absurd cc
same_checkpoints at (x ∷ xs) [] e h = absurd cc
same_checkpoints at (x ∷ xs) (y ∷ ys) e h = (subst (IsCheckpointed at) (ap first_of_lists e) h.0, same_checkpoints at xs ys (ap rest_of_lists e) h.1)

tailed : Laws → (at : Images) (logs others : List Log) → records_of logs ≡ records_of others → AreSoundOn at logs → AreSoundOn at others
tailed l at logs others e s = record {
  records = l.same logs others e s.records;
  versions = same_versions at logs others e s.versions;
  tables = subst AreWholeTables (same_merged logs others e) s.tables;
  checkpoints = same_checkpoints at logs others e s.checkpoints;
}

pub kept : Laws → (at : Images) → IsKept at (AreSoundOn at)
kept l at = record {
  whole = l.whole;
  torn = l.torn;
  appends = λ bytes logs after r h d w s. appended l at bytes logs after r h d w s;
  same = λ logs others e s. tailed l at logs others e s;
}
