-- What a recovery reaches.
use Rattle.std.specs.Prelude.{◌≡◌, ℕ, ◌≤◌, true, false, if◌then◌else◌, List}
use Rattle.ds_base.specs.Ids.{IsTable}
use Rattle.ds_base.specs.declared.names.PageId.{PageId}
use Rattle.ds_base.specs.declared.names.Volume.{Volume}
use Rattle.ds_disk.specs.Contents.{Contents}
use Rattle.ds_disk.specs.Pages.{page_at}
use Rattle.ds_model.specs.declared.log.LogRecord.{LogRecord}
use Rattle.log_record.specs.declared.log.Log.{Log}
use Rattle.page_chain.specs.Chains.{IsVersion}
use Rattle.page_redo.specs.Pages.{has_page}
use Rattle.sound_disk.specs.Whole_logs.{AreWholeLogs}
use Rattle.sound_disk.specs.Sound.{IsSoundWith}
use Rattle.sound_disk.specs.Tables.{AreTables}
use Rattle.sound_disk.specs.Transactions.{AreTransactions}
use Rattle.sound_disk.specs.Versions.{merged, last_images}
use Rattle.copy_recover.specs.Recovered.{holds, taken_from, written_names}
use Rattle.copy_recover.specs.Recovering.{IsRecovered, IsDamage}

-- each page that the image holds is a version
abbrev pub HoldsVersions : List ℕ → ℕ → List LogRecord → Type 0
HoldsVersions image table records = (id : PageId) → holds image table id ≡ true → IsVersion id records (taken_from image table id)

-- the pages of the image and of the logs are their last versions, and all others are as before
pub record AreRecovered (c d : Contents) (logs : List Log) (names : List PageId) : Type 0 where
  pub pages : (id : PageId) → page_at d.pages id ≡ (if has_page names id then last_images logs id else page_at c.pages id)
  pub logs_stay : d.logs ≡ c.logs

-- with an image that holds versions, over whole logs whose transactions keep their rules
abbrev pub RecoversLast : Type 0
RecoversLast = (c d : Contents) (image : List ℕ) (table pages : ℕ) (logs : List Log) → AreWholeLogs 1 c.logs logs → AreTransactions logs → HoldsVersions image table (merged logs)
    → IsRecovered c d image table pages → AreRecovered c d logs (written_names image table (merged logs))

-- where in the end the tables are whole too, nothing is damaged
abbrev pub MeetsNoDamage : Type 0
MeetsNoDamage = (c : Contents) (image : List ℕ) (table : ℕ) (logs : List Log) (v : Volume) (at : ℕ) → 1 ≤ table → AreWholeLogs 1 c.logs logs → AreTransactions logs → AreTables logs → HoldsVersions image table (merged logs)
    → IsDamage c image table v at → ⊥

-- where the logs and all other pages are those of a sound disk, the recovered disk is sound
abbrev pub LeavesSound : Type 0
LeavesSound = (sound c d : Contents) (image : List ℕ) (table pages : ℕ) (logs : List Log) → IsTable table → IsSoundWith sound logs → c.logs ≡ sound.logs → HoldsVersions image table (merged logs)
    → ((id : PageId) → has_page (written_names image table (merged logs)) id ≡ false → page_at c.pages id ≡ page_at sound.pages id)
    → IsRecovered c d image table pages → IsSoundWith d logs
