-- What the verdict on a disk says of it.
use Rattle.std.specs.Prelude.{ℕ, List}
use Rattle.ds_disk.specs.Contents.{Contents}
use Rattle.ds_disk.specs.Pages.{page_at}
use Rattle.log_record.specs.declared.log.Log.{Log}
use Rattle.sound_disk.specs.Whole_logs.{AreWholeLogs}
use Rattle.sound_disk.specs.Sound.{IsSoundDisk}
use Rattle.disk_versions.specs.Told.{RestIsZeros}
use Rattle.space_check.specs.declared.verdict.Breach.{Breach}
use Rattle.space_check.specs.declared.verdict.Verdict.TheVariants as verdict
use Rattle.space_check.specs.Verdicts.{IsTold}

-- every page past those that are read by the logs of the disk is zeros
abbrev pub HasZerosBehind : Contents → ℕ → Type 0
HasZerosBehind c behind = (logs : List Log) → AreWholeLogs 1 c.logs logs → RestIsZeros (page_at c.pages) logs behind

-- then a disk that is told to be sound is
abbrev pub SoundIsSound : Type 0
SoundIsSound = (c : Contents) (behind pages rows : ℕ) → HasZerosBehind c behind → IsTold c behind (verdict.Sound pages rows) → IsSoundDisk c

-- and one that is told to be unsound never is
abbrev pub UnsoundIsNot : Type 0
UnsoundIsNot = (c : Contents) (behind : ℕ) (b : Breach) → IsTold c behind (verdict.Unsound b) → IsSoundDisk c → ⊥
