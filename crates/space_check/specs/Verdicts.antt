-- What a check of a disk is to tell.
use Rattle.std.specs.Prelude.{◌≡◌, ◌⊎◌, ℕ, List}
use Rattle.ds_disk.specs.Contents.{Contents}
use Rattle.ds_disk.specs.Pages.{page_at}
use Rattle.log_record.specs.declared.log.Log.{Log}
use Rattle.sound_disk.specs.Whole_logs.{AreWholeLogs}
use Rattle.sound_disk.specs.Sound.{IsSoundWith}
use Rattle.fitting_records.specs.Breaches.{IsRecordOf}
use Rattle.disk_logs.specs.Broken.{IsFirstBroken}
use Rattle.disk_versions.specs.Told.{RestIsZeros}
use Rattle.space_check.specs.declared.verdict.Clause.TheVariants as clause
use Rattle.space_check.specs.declared.verdict.Breach.{Breach}
use Rattle.space_check.specs.declared.verdict.Verdict.{Verdict}
use Rattle.space_check.specs.declared.verdict.Verdict.TheVariants as verdict
use Rattle.space_check.specs.Clauses.{IsBreach}
use Rattle.space_check.specs.Judging.{AreRight}

-- each clause holds, of the pages of those that are read; so the disk is sound where the others are zeros
pub record IsFoundSound (c : Contents) (behind pages rows : ℕ) : Type 0 where
  pub logs : List Log
  pub whole : AreWholeLogs 1 c.logs logs
  pub right : AreRight (page_at c.pages) logs behind pages rows
  pub sound : RestIsZeros (page_at c.pages) logs behind → IsSoundWith c logs

-- the first clause fails, at the first record that is none
pub record IsBrokenLog (c : Contents) (b : Breach) : Type 0 where
  pub clause_is : b.clause ≡ clause.WholeLogs
  pub spot_is : IsRecordOf (IsFirstBroken c.logs) b.at

-- the logs are whole, and a later clause is the first that fails
pub record IsBreachBehind (c : Contents) (behind : ℕ) (b : Breach) : Type 0 where
  pub logs : List Log
  pub whole : AreWholeLogs 1 c.logs logs
  pub breach : IsBreach (page_at c.pages) logs behind b

abbrev pub IsTold : Contents → ℕ → Verdict → Type 0
IsTold c behind (verdict.Sound pages rows) = IsFoundSound c behind pages rows
IsTold c behind (verdict.Unsound b) = IsBrokenLog c b ⊎ IsBreachBehind c behind b
