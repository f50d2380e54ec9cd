use Rattle.std.proofs.Common.{◌≡◌, ℕ, Bool, true, List, Option, sym, subst}
use Rattle.ds_disk.specs.Contents.{Contents}
use Rattle.disk_spots.specs.declared.spot.Spot.{Spot}
use Rattle.log_record.specs.declared.log.Log.{Log}
use Rattle.disk_walk.proofs.Reading.{same_on, told_before, told_by_both}
use Rattle.sound_disk.specs.Transactions.{AreTransactions}
use Rattle.disk_walk.specs.Whole.{OfWholeLogs}
use Rattle.fitting_records.specs.Telling.{IsSummary, AreFitTold}
use Rattle.space_check.specs.declared.verdict.Verdict.{Verdict}
use Rattle.space_check.specs.Telling.{TellsEnded, TellsFit}
use Rattle.space_check.specs.Verdicts.{IsTold}
use Rattle.space_check.proofs.Reading.{two_read, then_then_read}
use Rattle.space_check.proofs.Steps.{fit_now, unfit_told}
use Rattle.space_check.proofs.check.check_ended.Goals as goal

abbrev Told : List ℕ → Bool → Option Spot → Contents → Type 0
Told ends fits found c = OfWholeLogs ends (λ (logs : List Log). (fits ≡ true → AreTransactions logs) → AreFitTold found logs) c

pub returns-in-Some : goal.returns-in-Some
returns-in-Some g c =
    let first = c.in_ok-summary.ensures.tells in
    let read = c.in_ok-found.ensures in
    let s = c.in_ok-summary.summary in
    two_read _ _ _ _ _ _ (λ (d : Contents). OfWholeLogs c.args.ends.now (IsSummary s) d) (Told c.args.ends.now s.fits c.in_ok-found.found) (λ (v : Verdict) (d : Contents). TellsEnded c.args.ends.now c.args.behind v d) _
    first.ok first.same first.later read.ok read.same read.later
    (λ (d : Contents) summed told logs ended.
    subst (λ (v : Verdict). IsTold d c.args.behind v) (sym c.unsound.ensures)
    (unfit_told d c.args.ends.now c.args.behind logs c.in_ok-found.found c.in-Some.at ended c.in-Some.is (told logs ended.whole ended.ends_are (summed logs ended.whole ended.ends_are).fit)))

pub returns : goal.returns
returns g c =
    let first = c.in_ok-summary.ensures.tells in
    let read = c.in_ok-found.ensures in
    let s = c.in_ok-summary.summary in
    then_then_read _ _ _ _ _ _ _ _ (λ (d : Contents). OfWholeLogs c.args.ends.now (IsSummary s) d) (Told c.args.ends.now s.fits c.in_ok-found.found) (λ (v : Verdict) (d : Contents). TellsFit c.args.ends.now s c.args.behind v d)
    (λ (v : Verdict) (d : Contents). TellsEnded c.args.ends.now c.args.behind v d) c.check_fit.result first.ok first.same first.later read.ok read.same read.later c.check_fit.ensures
    (λ (d : Contents) (v : Verdict) summed told fitted logs ended.
    let it = summed logs ended.whole ended.ends_are in
    fitted logs (fit_now d c.args.ends.now s.greatest logs c.in_ok-found.found ended c.in-None.is (told logs ended.whole ended.ends_are it.fit) it.greatest_is) it)
