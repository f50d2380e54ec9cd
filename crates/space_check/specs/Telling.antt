-- What is told of a disk by what was told of its logs and of all tables.
use Rattle.std.specs.Prelude.{◌≡◌, ℕ, List, map, Option, None, Some}
use Rattle.ds_base.specs.declared.names.PageId.{PageId}
use Rattle.ds_disk.specs.Contents.{Contents}
use Rattle.ds_disk.specs.Pages.{page_at}
use Rattle.log_record.specs.declared.log.Log.{Log}
use Rattle.log_merge.specs.Merging.{all_records}
use Rattle.log_trans.specs.Numbers.{greatest}
use Rattle.restart_plan.specs.Renewal.{must_renew}
use Rattle.sound_disk.specs.Whole_logs.{AreWholeLogs}
use Rattle.sound_disk.specs.Transactions.{AreTransactions}
use Rattle.sound_disk.specs.Versions.{merged}
use Rattle.disk_spots.specs.declared.spot.Spot.{Spot}
use Rattle.fitting_records.specs.declared.summary.Summary.{Summary}
use Rattle.fitting_records.specs.Telling.{IsSummary}
use Rattle.stood_rows.specs.declared.unstood.Unstood.{Unstood}
use Rattle.stood_rows.specs.Found.{page_in}
use Rattle.space_check.specs.declared.told.TablesTold.{TablesTold}
use Rattle.space_check.specs.declared.told.RangeFound.{RangeFound}
use Rattle.space_check.specs.declared.verdict.Clause.{Clause}
use Rattle.space_check.specs.declared.verdict.Verdict.{Verdict}
use Rattle.space_check.specs.declared.verdict.Verdict.TheVariants as verdict
use Rattle.space_check.specs.Tables.{AreTablesTold, IsAllTold}
use Rattle.space_check.specs.Verdicts.{IsTold}

-- ---- the logs

-- these are the logs of the disk, and their whole records end at these bytes
pub record AreEnded (c : Contents) (ends : List ℕ) (logs : List Log) : Type 0 where
  pub whole : AreWholeLogs 1 c.logs logs
  pub ends_are : ends ≡ map (λ (l : Log). l.length) logs

-- what is told of a disk whose whole records end there
abbrev pub TellsEnded : List ℕ → ℕ → Verdict → Contents → Type 0
TellsEnded ends behind v c = (logs : List Log) → AreEnded c ends logs → IsTold c behind v

-- the second clause holds too, and this is the greatest number
pub record AreFit (c : Contents) (ends : List ℕ) (great : ℕ) (logs : List Log) : Type 0 where
  pub ended : AreEnded c ends logs
  pub transactions : AreTransactions logs
  pub greatest_is : great ≡ greatest (all_records logs)

-- what is told of it where the summary is that of the logs
abbrev pub TellsFit : List ℕ → Summary → ℕ → Verdict → Contents → Type 0
TellsFit ends s behind v c = (logs : List Log) → AreFit c ends s.greatest logs → IsSummary s logs → IsTold c behind v

-- ---- the tables

-- what was found of all of them
pub record AreAsked (c : Contents) (ends : List ℕ) (great behind : ℕ) (found : RangeFound) (logs : List Log) : Type 0 where
  pub fit : AreFit c ends great logs
  pub told : IsAllTold (page_at c.pages) (merged logs) (must_renew logs) behind found

-- each page that is read may stand on the disk, and this is told of all tables
pub record AreTabled (c : Contents) (ends : List ℕ) (great behind : ℕ) (t : TablesTold) (logs : List Log) : Type 0 where
  pub fit : AreFit c ends great logs
  pub told : AreTablesTold (page_at c.pages) (merged logs) (must_renew logs) behind 64 t

abbrev pub TellsAsked : List ℕ → ℕ → ℕ → RangeFound → Verdict → Contents → Type 0
TellsAsked ends great behind found v c = (logs : List Log) → AreAsked c ends great behind found logs → IsTold c behind v

abbrev pub TellsTabled : List ℕ → ℕ → TablesTold → Verdict → Contents → Type 0
TellsTabled ends great t v c = (logs : List Log) (behind : ℕ) → AreTabled c ends great behind t logs → IsTold c behind v

-- ---- the fourth clause

-- the page of the first table that isn't whole, or else of the first record that is unstood
abbrev pub wrong_by : Option PageId → Option Unstood → Option PageId
wrong_by None unstood = page_in unstood
wrong_by (Some id) unstood = Some id

abbrev pub wrong_page : TablesTold → Option PageId
wrong_page t = wrong_by t.unwhole t.unstood

-- ---- verdicts

-- this clause is the first that fails, and this its spot
abbrev pub unsound : Clause → Spot → Verdict
unsound name at = verdict.Unsound (record { clause = name; at = at })
