-- A log that is cut to its whole records leaves a sound disk.
use Rattle.std.proofs.Common.{◌≡◌, ℕ, ◌-◌, Bool, List, [], ◌∷◌, ◌++◌, length, take, refl, sym, ap, subst, ◌∙◌}
use Rattle.std.specs.Prelude.{not, ◌||◌, ◌&&◌, slice_get, slice_set}
use Rattle.std.specs.List.{list_any, AllByRecursion}
use Rattle.ds_base.specs.declared.names.PageId.{PageId}
use Rattle.ds_disk.specs.Contents.{log_of}
use Rattle.ds_disk.specs.Pages.{page_at}
use Rattle.ds_model.specs.declared.log.LogRecord.{LogRecord}
use Rattle.log_record.specs.declared.log.Log.{Log}
use Rattle.log_merge.specs.Merging.{all_records, in_order}
use Rattle.page_chain.specs.Chains.{IsVersion}
use Rattle.restart_plan.specs.Renewal.{is_old, is_ended, must_renew}
use Rattle.sound_disk.specs.Checkpoints.{IsCheckpointed}
use Rattle.sound_disk.specs.Laws.{records_of, with_tail}
use Rattle.sound_disk.specs.Tables.{AreWholeTables}
use Rattle.sound_disk.specs.Versions.{merged, current, MayStand}
use Rattle.sound_appends.specs.Laws.{CutKeepsWhole, SameRecordsKeep, AreSoundLogs}
use Rattle.sound_restarts.specs.Cuts.{SameRecordsKeepSound, CutKeepsSound}

-- ---- by the records of the logs alone

abbrev joined : List (List LogRecord) → List LogRecord
joined [] = []
joined (rs ∷ more) = rs ++ joined more

all_is : (logs : List Log) → all_records logs ≡ joined (records_of logs)
all_is [] = refl
all_is (l ∷ ls) = ap (λ (rs : List LogRecord). l.records ++ rs) (all_is ls)

abbrev ask_renewal : List LogRecord → Bool
ask_renewal records = list_any (λ (r : LogRecord). is_old r) records && not (is_ended (slice_get records (length records - 1)))

renew_is : (logs : List Log) → must_renew logs ≡ list_any ask_renewal (records_of logs)
renew_is [] = refl
renew_is (l ∷ ls) = ap (λ (b : Bool). ask_renewal l.records || b) (renew_is ls)

to_records : (P : List LogRecord → Type 0) (logs : List Log) → AllByRecursion (λ (l : Log). P l.records) logs → AllByRecursion P (records_of logs)
to_records P [] h = tt
to_records P (l ∷ ls) h = (h.0, to_records P ls h.1)

from_records : (P : List LogRecord → Type 0) (logs : List Log) → AllByRecursion P (records_of logs) → AllByRecursion (λ (l : Log). P l.records) logs
from_records P [] h = tt
from_records P (l ∷ ls) h = (h.0, from_records P ls h.1)

same_merged : (logs others : List Log) → records_of logs ≡ records_of others → merged logs ≡ merged others
same_merged logs others e = ap in_order (all_is logs ∙ ap joined e ∙ sym (all_is others))

same_renewal : (logs others : List Log) → records_of logs ≡ records_of others → must_renew others ≡ must_renew logs
same_renewal logs others e = renew_is others ∙ ap (λ (rs : List (List LogRecord)). list_any ask_renewal rs) (sym e) ∙ sym (renew_is logs)

same_stands : (logs others : List Log) (id : PageId) (page : List ℕ) → records_of logs ≡ records_of others → MayStand logs id page → MayStand others id page
same_stands logs others id page e h = record {
  header = h.header;
  version = subst (λ (rs : List LogRecord). IsVersion id rs (current page)) (same_merged logs others e) h.version;
  renewing = λ old. same_renewal logs others e ∙ h.renewing old;
}

pub same_records : SameRecordsKeep → SameRecordsKeepSound
same_records same c bytes logs others h e whole =
    let three : AreSoundLogs others = same logs others e (record { transactions = h.sound.transactions; turns = h.sound.turns; numbers = h.sound.numbers }) in
    record {
      sound = record {
        whole_logs = whole;
        transactions = three.transactions;
        versions = λ id. same_stands logs others id (page_at c.pages id) e (h.sound.versions id);
        tables = subst AreWholeTables (same_merged logs others e) h.sound.tables;
        turns = three.turns;
        numbers = three.numbers;
        checkpoints = from_records (IsCheckpointed (page_at c.pages)) others (subst (AllByRecursion (IsCheckpointed (page_at c.pages))) e (to_records (IsCheckpointed (page_at c.pages)) logs h.sound.checkpoints));
      };
      numbered = h.numbered;
    }

-- ---- a cut

same_tail : (front : List Log) (log : Log) (back : List Log) → records_of (front ++ log ∷ back) ≡ records_of (front ++ with_tail log 0 ∷ back)
same_tail [] log back = refl
same_tail (l ∷ ls) log back = ap (λ (rs : List (List LogRecord)). l.records ∷ rs) (same_tail ls log back)

pub cut_keeps : CutKeepsWhole → SameRecordsKeepSound → CutKeepsSound
cut_keeps cut same c front log back h =
    same c (slice_set c.logs (log.member - 1) (take log.length (log_of c.logs log.member))) (front ++ log ∷ back) (front ++ with_tail log 0 ∷ back) h (same_tail front log back) (cut c front log back h.sound.whole_logs)
