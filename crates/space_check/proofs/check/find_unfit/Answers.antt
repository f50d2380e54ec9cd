use Rattle.std.proofs.Common.{◌≡◌, ℕ, Bool, true, Option, List}
use Rattle.ds_disk.specs.Contents.{Contents}
use Rattle.disk_spots.specs.declared.spot.Spot.{Spot}
use Rattle.log_record.specs.declared.log.Log.{Log}
use Rattle.sound_disk.specs.Transactions.{AreTransactions}
use Rattle.disk_walk.specs.Whole.{OfWholeLogs}
use Rattle.fitting_records.specs.Telling.{AreFitTold}
use Rattle.space_check.proofs.Reading.{no_read, reads_as}
use Rattle.space_check.proofs.check.find_unfit.Goals as goal

abbrev Told : List ℕ → Bool → Option Spot → Contents → Type 0
Told ends fits found c = OfWholeLogs ends (λ (logs : List Log). (fits ≡ true → AreTransactions logs) → AreFitTold found logs) c

pub returns-then-fits : goal.returns-then-fits
returns-then-fits g c = no_read _ _ (Told c.args.ends.now c.args.fits) _ (λ (d : Contents) logs whole ends_are fit. fit c.if-fits.true)

pub returns-else-fits : goal.returns-else-fits
returns-else-fits g c =
    reads_as _ _ _ _ (λ (found : Option Spot) (d : Contents). OfWholeLogs c.args.ends.now (AreFitTold found) d) (Told c.args.ends.now c.args.fits) c.find_first_unfit.result c.find_first_unfit.ensures
    (λ (d : Contents) (found : Option Spot) told logs whole ends_are fit. told logs whole ends_are)
