-- What a verdict says of a disk.
use Rattle.std.proofs.Common.{◌≡◌, ℕ, List, inl, inr, subst}
use Rattle.std.specs.Prelude.{◌⊎◌}
use Rattle.ds_disk.specs.Contents.{Contents}
use Rattle.ds_disk.specs.Pages.{page_at}
use Rattle.disk_spots.specs.declared.spot.Spot.{Spot}
use Rattle.disk_spots.specs.declared.spot.Spot.TheVariants as spot
use Rattle.log_record.specs.declared.log.Log.{Log}
use Rattle.page_images.specs.Images.{Images}
use Rattle.sound_disk.specs.Laws.{AreTold}
use Rattle.sound_disk.specs.Whole_logs.{AreWholeLogs}
use Rattle.sound_disk.specs.Versions.{AreVersions}
use Rattle.sound_disk.specs.Sound.{IsSoundWith, IsSoundDisk}
use Rattle.fitting_records.specs.Breaches.{IsRecordOf}
use Rattle.disk_logs.specs.Broken.{IsFirstBroken, BrokenArentWhole}
use Rattle.disk_versions.specs.Told.{IsFirstUnplaced}
use Rattle.space_check.specs.declared.verdict.Clause.{Clause}
use Rattle.space_check.specs.declared.verdict.Clause.TheVariants as clause
use Rattle.space_check.specs.declared.verdict.Breach.{Breach}
use Rattle.space_check.specs.Clauses.{IsPageOf, Fails}
use Rattle.space_check.specs.Verdicts.{IsFoundSound, IsBrokenLog, IsBreachBehind}
use Rattle.space_check.specs.Laws.{HasZerosBehind, SoundIsSound, UnsoundIsNot}

found_is : (c : Contents) (behind pages rows : ℕ) → HasZerosBehind c behind → IsFoundSound c behind pages rows → IsSoundDisk c
found_is c behind pages rows zeros found = record { logs = found.logs; sound = found.sound (zeros found.logs found.whole) }

pub sound_is : SoundIsSound
sound_is c behind pages rows zeros told = found_is c behind pages rows zeros told

broken_spot : BrokenArentWhole → (bytes : List (List ℕ)) (whole : List Log) (s : Spot) → IsRecordOf (IsFirstBroken bytes) s → AreWholeLogs 1 bytes whole → ⊥
broken_spot apart bytes whole (spot.Log member at) off are = apart bytes member at whole off are
broken_spot apart bytes whole (spot.Page id) off are = off

unplaced_page : (at : Images) (logs : List Log) (behind : ℕ) (s : Spot) → IsPageOf (IsFirstUnplaced at logs behind) s → AreVersions at logs → ⊥
unplaced_page at logs behind (spot.Page id) first are = first.wrong (are id)
unplaced_page at logs behind (spot.Log member place) first are = first

breach_breaks : (c : Contents) (logs : List Log) (behind : ℕ) (name : Clause) (s : Spot) → Fails name (page_at c.pages) logs behind s → IsSoundWith c logs → ⊥
breach_breaks c logs behind clause.WholeLogs s fails sound = fails
breach_breaks c logs behind clause.Transactions s fails sound = fails.0 sound.transactions
breach_breaks c logs behind clause.Versions s fails sound = unplaced_page (page_at c.pages) logs behind s fails sound.versions
breach_breaks c logs behind clause.Tables s fails sound = fails.0 sound.tables
breach_breaks c logs behind clause.Turns s fails sound = fails.lacking sound.turns
breach_breaks c logs behind clause.Numbers s fails sound = fails.lacking sound.numbers
breach_breaks c logs behind clause.Checkpoints s fails sound = fails.lacking sound.checkpoints

told_apart : AreTold → BrokenArentWhole → (c : Contents) (behind : ℕ) (b : Breach) (logs : List Log) → IsBrokenLog c b ⊎ IsBreachBehind c behind b → IsSoundWith c logs → ⊥
told_apart one apart c behind b logs (inl broken) sound = broken_spot apart c.logs logs b.at broken.spot_is sound.whole_logs
told_apart one apart c behind b logs (inr behind_it) sound =
    let same : logs ≡ behind_it.logs = one 1 c.logs logs behind_it.logs sound.whole_logs behind_it.whole in
    breach_breaks c behind_it.logs behind b.clause b.at behind_it.breach.fails (subst (λ (l : List Log). IsSoundWith c l) same sound)

pub unsound_is_not : AreTold → BrokenArentWhole → UnsoundIsNot
unsound_is_not one apart c behind b told sound = told_apart one apart c behind b sound.logs told sound.sound
